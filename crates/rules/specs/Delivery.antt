-- Document 01, "Padding and delivery": what a delivered result gives. "Delivery" is document 01's term for the key host's result.
use Rattle.std.specs.Prelude.{cond, not, length, drop, eqb}
use Rattle.octets.specs.Octets.{Bytes}
use Rattle.pkcs1.specs.Pkcs1.{strip}
use Rattle.rules.specs.declared.Session.{Session}
use Rattle.rules.specs.declared.JobKind.TheVariants.{Decipher}
use Rattle.rules.specs.Numbers.{kind_number}
use Rattle.rules.specs.Session.{no_job, with_job}
use Rattle.rules.specs.Answers.{SessionStep, session_status, give}

-- Delivery ends the job. Length not 256: 6400. Jobs 1 and 2: the 256 bytes, by the job's Le.
-- Job 3: the message likewise, 9000 alone if empty, 6A80 if stripping fails.
unfoldable pub deliver : Session → Bytes → SessionStep
deliver s result =
    let ended = with_job s no_job in
    let le = s.job.le in
    cond (not (eqb (length result) 256)) (session_status ended 0x6400)
    (cond (not (eqb s.job.kind (kind_number Decipher))) (give ended le result)
    (cond (eqb (strip result) 0) (session_status ended 0x6A80)
    (cond (eqb (strip result) 256) (session_status ended 0x9000)
    (give ended le (drop (strip result) result)))))
