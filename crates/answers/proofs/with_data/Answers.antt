use Rattle.answers.proofs.Outputs.{data_output}
use Rattle.answers.proofs.with_data.Goals as goal

pub returns : goal.returns
returns c = data_output c.args.d.now c.args.sw c.part-len.ensures c.filled-bytes.ensures
