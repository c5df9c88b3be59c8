use Rattle.std.proofs.Common.{arith}
use Rattle.answers.proofs.Outputs.{job_output}
use Rattle.answers.proofs.handed_out.Goals as goal

pub returns : goal.returns
returns c = job_output c.args.kind c.args.key c.args.block (omega arith)
