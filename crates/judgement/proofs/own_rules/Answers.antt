use Prim.Native.Nat.{◌≤◌}
use native.Mathlib.Omega.{arith}
use lib.ListN.{length}
use lib.Seq.{take_all}
use borrow.Author.Tests.{le-leb}
use Rattle.rules.specs.Judgement.{own_rules}
use Rattle.rules.proofs.Keeping.{authenticate_length}
use Rattle.judgement.proofs.own_rules.Goals as goal

pub returns-in-Select : goal.returns-in-Select
unfolding own_rules
returns-in-Select c = simp (c.in-Select.is, c.in_session.ensures, c.select.ensures, c.drop_both-bare.ensures)

pub returns-in-ReadRecord : goal.returns-in-ReadRecord
unfolding own_rules
returns-in-ReadRecord c = simp (c.in-ReadRecord.is, c.in_session-in-ReadRecord.ensures, c.read_record.ensures, c.drop_both-bare.ensures)

pub returns-in-ReadBinary : goal.returns-in-ReadBinary
unfolding own_rules
returns-in-ReadBinary c =
    simp (c.in-ReadBinary.is, c.in_session-in-ReadBinary.ensures, c.read_binary.ensures, c.drop_both-bare.ensures, le-leb c.args.h.le 256 c.requires.sized.le)

pub returns-in-GetResponse : goal.returns-in-GetResponse
unfolding own_rules
returns-in-GetResponse c = simp (c.in-GetResponse.is, c.in_session-in-GetResponse.ensures, c.get_response.ensures, c.drop_chain.ensures)

pub returns-in-Verify : goal.returns-in-Verify
unfolding own_rules
returns-in-Verify c = simp (c.in-Verify.is, c.in_codes.ensures, c.verify.ensures, c.drop_both-bare.ensures)

pub returns-in-Change : goal.returns-in-Change
unfolding own_rules
returns-in-Change c = simp (c.in-Change.is, c.in_codes-in-Change.ensures, c.change.ensures, c.drop_both-bare.ensures)

pub returns-in-ResetRetry : goal.returns-in-ResetRetry
unfolding own_rules
returns-in-ResetRetry c = simp (c.in-ResetRetry.is, c.reset_retry.ensures, c.drop_both-bare.ensures)

pub returns-in-SetEnvironment : goal.returns-in-SetEnvironment
unfolding own_rules
returns-in-SetEnvironment c = simp (c.in-SetEnvironment.is, c.in_session-in-SetEnvironment.ensures, c.set_environment.ensures, c.drop_both-bare.ensures)

pub returns-in-ChooseKey : goal.returns-in-ChooseKey
unfolding own_rules
returns-in-ChooseKey c = simp (c.in-ChooseKey.is, c.in_session-in-ChooseKey.ensures, c.choose_key.ensures, c.drop_both-bare.ensures)

pub returns-in-InternalAuthenticate : goal.returns-in-InternalAuthenticate
unfolding own_rules
returns-in-InternalAuthenticate c =
    let a = c.args in
    let within : a.h.lc ≤ 245 = authenticate_length a.h (simp c.in-InternalAuthenticate.is at c.requires.lengths) in
    let whole : length a.d.now ≤ 245 = omega (arith, c.requires.sized.fits) in
    simp (c.in-InternalAuthenticate.is, c.in_session-in-InternalAuthenticate.ensures, c.internal_authenticate.ensures, c.drop_both-bare.ensures, take_all 245 a.d.now whole)

pub returns-in-ComputeSignature : goal.returns-in-ComputeSignature
unfolding own_rules
returns-in-ComputeSignature c = simp (c.in-ComputeSignature.is, c.sign.ensures, c.drop_both-bare.ensures)

pub returns-in-Decipher : goal.returns-in-Decipher
unfolding own_rules
returns-in-Decipher c = simp (c.in-Decipher.is, c.in_session-in-Decipher.ensures, c.decipher.ensures, c.drop_held.ensures)
