use Rattle.std.proofs.Common.{rules, refl}
use Rattle.line_programs.proofs.Readings.{lends_still, stopped_at_end}
use Rattle.line_programs.proofs.answer_all.Goals as goal

pub finish-requires-clause-bytes : goal.finish-requires-clause-bytes
finish-requires-clause-bytes g c = lends_still c.args.dialect c.args.console.now c.requires.bytes c.read_all.ensures

pub returns : goal.returns
returns g c =
    stopped_at_end c.args.dialect c.args.console.now c.read_all.ensures (rw c.in_ok-read_all.was refl) c.finish.ensures.held c.finish.ensures.written c.map_err.result (search rules) (search rules)
