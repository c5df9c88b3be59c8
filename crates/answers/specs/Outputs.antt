-- What a command or a delivery answers, as the code holds it before it is written to the buffer.
use Rattle.std.specs.Prelude.{ℕ, Bool, cond, ◌&&◌, length, take, eqb, leb}
use Rattle.octets.specs.Octets.{Bytes, filled}
use Rattle.rules.specs.declared.Card.{Card}
use Rattle.rules.specs.declared.Refusal.TheVariants.{ShortBuffer}
use Rattle.rules.specs.declared.JobKind.{JobKind}
use Rattle.rules.specs.declared.JobKind.TheVariants.{Authenticate, Sign, Decipher}
use Rattle.rules.specs.Numbers.{kind_number, refusal_number}
use Rattle.rules.specs.Answers.{Answer, response, job}
use Rattle.rules.specs.Edge.{Result, refuse, written, short_buffer}
use Rattle.answers.specs.declared.Output.{Output}
use Rattle.answers.specs.declared.Output.TheVariants.{Response, Job}

-- The kind that a job's number stands for; job 3 is a decipherment.
abbrev pub kind_meant : ℕ → JobKind
kind_meant n = cond (eqb n 1) Authenticate (cond (eqb n 2) Sign Decipher)

-- The output that holds an answer, with zeros in the unused places.
unfoldable pub output_for : Answer → Output
output_for (response d sw) = Response (record { bytes = filled 256 d; len = length d }) sw
output_for (job kind key block) = Job (kind_meant kind) key (record { bytes = filled 256 block; len = length block })

-- Whether an output has room for an answer: at most 256 bytes, and a job of kind 1 to 3.
unfoldable pub fits : Answer → Bool
fits (response d sw) = leb (length d) 256
fits (job kind key block) = leb (length block) 256 && (leb 1 kind && leb kind 3)

-- The answer that an output holds.
unfoldable pub output_of : Output → Answer
output_of (Response d sw) = response (take d.len d.bytes) sw
output_of (Job kind key d) = job (kind_number kind) key (take d.len d.bytes)

-- What a call returns and leaves in its buffer: an answer, written, or edge refusal 2.
unfoldable pub written_or : Bytes → Card → Answer → Result
written_or buffer c a = cond (short_buffer buffer) (refuse c buffer (refusal_number ShortBuffer)) (written buffer c a)
