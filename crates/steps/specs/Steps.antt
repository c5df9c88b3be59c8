-- The code's steps for those of the rule book: the same values, with the answer as an output holds it.
use Rattle.rules.specs.Answers.{SessionStep, Step}
use Rattle.answers.specs.Outputs.{output_for}
use Rattle.steps.specs.declared.SessionOutput.{SessionOutput}
use Rattle.steps.specs.declared.StepOutput.{StepOutput}

abbrev pub session_output_for : SessionStep → SessionOutput
session_output_for o = record { session = o.session; output = output_for o.answer }

abbrev pub step_output_for : Step → StepOutput
step_output_for o = record { codes = o.codes; counts = o.counts; session = o.session; output = output_for o.answer }
