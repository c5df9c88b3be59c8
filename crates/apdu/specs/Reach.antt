-- An answer holds at most 256 bytes of data: a header as it is, or with 256 for a greater Le.
use Rattle.std.specs.Prelude.{cond, leb}
use Rattle.rules.specs.declared.Header.{Header}

abbrev pub le_in_reach : Header → Header
le_in_reach h =
    record { cla = h.cla; ins = h.ins; p1 = h.p1; p2 = h.p2; lc = h.lc; le = cond (leb h.le 256) h.le 256 }
