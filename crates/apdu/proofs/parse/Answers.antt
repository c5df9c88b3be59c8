use native.Mathlib.Omega.{arith}
use mathlib.Core.Path.{sym, ◌∙◌}
use Rattle.apdu.proofs.Forms.{too_short, header_alone, le_alone, no_data_lem, with_data, with_data_and_le, other_length}
use Rattle.apdu.proofs.parse.Goals as goal

pub returns-then-n-lt4 : goal.returns-then-n-lt4
returns-then-n-lt4 c = too_short c.args.apdu.now c.if-n-lt4.true

pub returns-then-n-eq4 : goal.returns-then-n-eq4
returns-then-n-eq4 c = header_alone c.args.apdu.now c.if-n-eq4.true

pub returns-then-n-eq5 : goal.returns-then-n-eq5
returns-then-n-eq5 c = simp c.le_of-le.ensures (le_alone c.args.apdu.now c.if-n-eq5.true)

pub returns-then-lc-eq0 : goal.returns-then-lc-eq0
returns-then-lc-eq0 c = no_data_lem c.args.apdu.now (omega (arith, c.if-n-lt4.false, c.if-n-eq4.false, c.if-n-eq5.false)) (sym c.from-lc.ensures ∙ c.if-lc-eq0.true)

pub overflow_add-lc : goal.overflow_add-lc
overflow_add-lc c = omega (arith, c.from-lc.ensures, c.shared_slice_known-6-1.given 4)

pub returns-then-n-lc : goal.returns-then-n-lc
returns-then-n-lc c = simp c.from-lc.ensures (with_data c.args.apdu.now (omega (arith, c.if-n-lt4.false, c.if-n-eq4.false, c.if-n-eq5.false)) (omega (arith, c.if-lc-eq0.false, c.from-lc.ensures)) (omega (arith, c.if-n-lc.true, c.from-lc.ensures)))

pub overflow_add-lc-2 : goal.overflow_add-lc-2
overflow_add-lc-2 c = omega (arith, c.from-lc.ensures, c.shared_slice_known-6-1.given 4)

pub returns-then-n-lc-2 : goal.returns-then-n-lc-2
returns-then-n-lc-2 c = simp (c.le_of-le-then-n-lc-2.ensures, c.from-lc.ensures) (with_data_and_le c.args.apdu.now (omega (arith, c.if-n-lt4.false, c.if-n-eq4.false, c.if-n-eq5.false)) (omega (arith, c.if-lc-eq0.false, c.from-lc.ensures)) (omega (arith, c.if-n-lc-2.true, c.from-lc.ensures)))

pub returns : goal.returns
returns c = other_length c.args.apdu.now (omega (arith, c.if-n-lt4.false, c.if-n-eq4.false, c.if-n-eq5.false)) (omega (arith, c.if-n-lc.false, c.from-lc.ensures)) (omega (arith, c.if-n-lc-2.false, c.from-lc.ensures))
