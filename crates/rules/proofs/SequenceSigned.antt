-- The last bound of demand 3 is met: calls with v right presentations of PIN2 by VERIFY, n successful CHANGEs of PIN2, v + n signatures.
use mathlib.Core.Path.{◌≡◌, refl, sym, ap, ◌∙◌}
use mathlib.Core.Bool.{true, false, not, and-false}
use mathlib.Core.List.{List, [], ◌∷◌, ◌++◌}
use Prim.Native.Nat.{ℕ, zero, suc, ◌+◌, ◌≤◌, ◌<◌}
use native.Mathlib.Omega.{arith}
use lib.ListN.{length, take, drop, length-append}
use lib.Seq.{take-length, take-append_seam, drop-append_seam}
use borrow.Author.Tests.{eq-eqb, ne_eqb, le-leb}
use Rattle.octets.specs.Octets.{Bytes, all_bytes}
use Rattle.octets.proofs.Tests.{split, never}
use Rattle.octets.proofs.Strings.{same_refl, all_append}
use Rattle.octets.proofs.Words.{digits_bytes}
use Rattle.pkcs1.specs.Pkcs1.{padded}
use Rattle.rules.specs.declared.Card.{Card}
use Rattle.rules.specs.declared.Code.{Code}
use Rattle.rules.specs.declared.Header.{Header}
use Rattle.rules.specs.declared.Session.{Session}
use Rattle.rules.specs.declared.JobKind.TheVariants.{Sign}
use Rattle.rules.specs.Numbers.{kind_number, Returned, form}
use Rattle.rules.specs.Codes.{PIN2, full_tries, value, storing, code_of, with_code, closed}
use Rattle.rules.specs.Session.{drop_both, new_session}
use Rattle.rules.specs.State.{good_code, good}
use Rattle.rules.specs.Apdu.{data_start, parse, data_of}
use Rattle.rules.specs.Answers.{job, code_status, in_session, in_codes, hand_out}
use Rattle.rules.specs.CodeCommands.{verdict, replaced, change}
use Rattle.rules.specs.Digests.{prefixed, is_digest}
use Rattle.rules.specs.KeyCommands.{job_key, sign}
use Rattle.rules.specs.Judgement.{instruction, parameters, lengths, own_rules, known_instruction, named_in}
use Rattle.rules.specs.Judgement.{judge_named, judge_header, judge_form, judge}
use Rattle.rules.specs.Edge.{written, card_after, command, power_reset}
use Rattle.rules.specs.Counting.{Call, PowerReset, step, next, exchange, returned_status, returned_kind}
use Rattle.rules.specs.Counting.{sent_by, read_off, ok_status, wrong_status, verifies, changes, right_verify, changed}
use Rattle.rules.specs.Counting.{hands_signature, one, of_bytes}
use Rattle.rules.specs.Demands.{SignedWith}
use Rattle.rules.specs.Cases.{sha1_digest}
use Rattle.rules.proofs.Parts.{code_length, code_digits, code_allowed, good_code_lem, good_codes_lem, code_place, code_same}
use Rattle.rules.proofs.Sheet.{code_after}
use Rattle.rules.proofs.SequenceMet.{data_apdu, data_header, data_form, data_bytes, verify_judged, right_judged, after_verify}
use Rattle.rules.proofs.SequenceMet.{buffer, certificate, sent, sent_bytes, buffer_taken, value_least, value_most}
use Rattle.rules.proofs.SequenceMet.{gives, leads_to, test_read}

-- A good card without a job, in environment 1, on which PIN2 has a try left.
pub record Openable (c : Card) : Type 0 where
  pub is_good : good c ≡ true
  pub no_job : c.session.job.kind ≡ 0
  pub environment : c.session.environment.number ≡ 1
  pub left : 1 ≤ (code_of c.codes PIN2).tries

-- Such is a good card in a new session, on which PIN2 has a try left.
pub new_openable : {c : Card} → good c ≡ true → c.session ≡ new_session → 1 ≤ (code_of c.codes PIN2).tries → Openable c
unfolding new_session
new_openable g new some =
    record {
      is_good = g;
      no_job = ap (λ (s : Session). s.job.kind) new;
      environment = ap (λ (s : Session). s.environment.number) new;
      left = some;
    }

-- Such a card, on which PIN2 is verified.
record Open (c : Card) : Type 0 where
  openable : Openable c
  verified : (code_of c.codes PIN2).verified ≡ true

-- A call of bytes that opens PIN2 and hands out no signature; it is v right presentations by VERIFY and n successful CHANGEs of PIN2.
record Opening (c : Card) (x : Call) (v n : ℕ) : Type 0 where
  bytes : of_bytes x ≡ true
  opened : Open (next c x)
  presented : one (right_verify PIN2 (exchange c x)) ≡ v
  changes : one (changed PIN2 (exchange c x)) ≡ n
  unsigned : hands_signature (exchange c x) ≡ false

-- The codes after a CHANGE of PIN2 to the value that it has.
abbrev after_change : List Code → List Code
after_change codes = with_code codes PIN2 (storing (value (code_of codes PIN2)) full_tries true)

-- A value for the old one and the new one.
abbrev twice : Bytes → Bytes
twice d = d ++ d

module _ (c : Card) (g : good_code PIN2 (code_of c.codes PIN2) ≡ true) (some : 1 ≤ (code_of c.codes PIN2).tries) where
  abbrev old : Code
  old = code_of c.codes PIN2

  abbrev both : Bytes
  both = twice (value old)

  change_done : (h : Header) → h.p2 ≡ PIN2 → change c.codes h both ≡ code_status (after_change c.codes) 0x9000
  unfolding change replaced verdict
  change_done h p2 =
      let size : old.len ≡ length (value old) = sym (code_length PIN2 old g) in
      let first : take old.len both ≡ value old = ap (λ (n : ℕ). take n both) size ∙ take-append_seam (value old) (value old) in
      let second : drop old.len both ≡ value old = ap (λ (n : ℕ). drop n both) size ∙ drop-append_seam (value old) (value old) in
      simp (
        p2,
        first,
        second,
        ne_eqb old.tries 0 (omega arith),
        same_refl (value old),
        code_allowed PIN2 old g,
      )

  change_judged : judge_header c (data_header 0x24 PIN2 both) (data_of (data_apdu 0x24 PIN2 both) data_start (data_header 0x24 PIN2 both)) certificate certificate
      ≡ in_codes c.counts (drop_both c.session) (code_status (after_change c.codes) 0x9000)
  unfolding judge_header known_instruction instruction named_in parameters judge_named lengths own_rules
  change_judged =
      simp (
        le-leb 1 (length both) (omega (arith, length-append (value old) (value old), value_least PIN2 old g)),
        take-length both,
        change_done (data_header 0x24 PIN2 both) refl,
      )

-- The signature of a SHA-1 digest.
sign_apdu : Bytes
sign_apdu = 0x00 ∷ 0x2A ∷ 0x9E ∷ 0x9A ∷ 0x23 ∷ sha1_digest

abbrev signing : Call
signing = sent sign_apdu

sign_bytes : of_bytes signing ≡ true
unfolding sign_apdu
sign_bytes = sent_bytes sign_apdu refl

-- A power reset of a good card.
module _ (c : Card) (g : good c ≡ true) where
  reset_session : (next c PowerReset).session ≡ new_session
  unfolding step power_reset
  reset_session = split (λ (o : Returned × Card). o.1.session ≡ new_session) (not (good c)) (never (rw g)) (λ _. refl)

  reset_word : returned_status (step c PowerReset).returned (step c PowerReset).buffer ≡ 0
  unfolding step power_reset returned_status
  reset_word = simp g

-- Let calls of bytes keep a card good.
module _ (kept : (c : Card) (x : Call) → of_bytes x ≡ true → good c ≡ true → good (next c x) ≡ true) where
  -- A command with header h, answered 9000, after which PIN2 is verified.
  module _ (c : Card) (before : Openable c) (codes : List Code) (apdu : Bytes) (h : Header) (formed : parse apdu ≡ form h data_start)
      (judgement : judge_header c h (data_of apdu data_start h) certificate certificate ≡ in_codes c.counts (drop_both c.session) (code_status codes 0x9000)) where
    opening : all_bytes apdu ≡ true → (code_of codes PIN2).verified ≡ true → (code_of codes PIN2).tries ≡ 3
        → Opening c (sent apdu) (one (verifies PIN2 h)) (one (changes PIN2 h))
    unfolding ok_status written returned_kind
    opening bytes on three =
        let x = sent apdu in
        let is_good = before.is_good in
        let no_job = before.no_job in
        let x-bytes = sent_bytes apdu bytes in
        let tested = test_read kept c codes c.counts apdu h data_start 0x9000 is_good no_job formed judgement ok_status in
        let to = leads_to kept c codes c.counts apdu h data_start 0x9000 is_good no_job formed judgement in
        record {
          bytes = x-bytes;
          opened = rw to (record {
            openable = record { is_good = rw to at (kept c x x-bytes is_good); no_job = no_job; environment = before.environment; left = omega (arith, three) };
            verified = on;
          });
          presented = ap one (tested (verifies PIN2));
          changes = ap one (tested (changes PIN2));
          unsigned = rw (gives kept c codes c.counts apdu h data_start 0x9000 is_good no_job formed judgement);
        }

  module _ (c : Card) (before : Openable c) where
    abbrev v : Code
    v = code_of c.codes PIN2

    v_good : good_code PIN2 v ≡ true
    v_good = good_code_lem c.codes (good_codes_lem c before.is_good) PIN2 (omega arith)

    place : PIN2 < length c.codes
    place = code_place c.codes (good_codes_lem c before.is_good) PIN2 (omega arith)

    digits : all_bytes (value v) ≡ true
    digits = digits_bytes (value v) (code_digits PIN2 v v_good)

    -- the right value by VERIFY
    by_verify : Opening c (sent (data_apdu 0x20 PIN2 (value v))) 1 0
    unfolding verifies changes
    by_verify =
        let some : 1 ≤ length (value v) = omega (arith, value_least PIN2 v v_good) in
        let now = code_same c.codes PIN2 _ place in
        simp (le-leb 1 (length (value v)) some) at
        (opening c before (after_verify c.codes PIN2) (data_apdu 0x20 PIN2 (value v)) (data_header 0x20 PIN2 (value v))
        (data_form 0x20 PIN2 (value v) some)
        (verify_judged PIN2 (value v) some c (omega arith) ∙ ap (in_codes c.counts (drop_both c.session)) (right_judged c.codes PIN2 before.left))
        (data_bytes 0x20 PIN2 (value v) (omega arith) (omega arith) (omega (arith, value_most PIN2 v v_good)) digits)
        (ap (λ (v : Code). v.verified) now)
        (ap (λ (v : Code). v.tries) now))

    -- a CHANGE to the value that PIN2 has
    by_change : Opening c (sent (data_apdu 0x24 PIN2 (twice (value v)))) 0 1
    unfolding verifies changes
    by_change =
        let size = length-append (value v) (value v) in
        let now = code_same c.codes PIN2 _ place in
        opening c before (after_change c.codes) (data_apdu 0x24 PIN2 (twice (value v))) (data_header 0x24 PIN2 (twice (value v)))
        (data_form 0x24 PIN2 (twice (value v)) (omega (arith, size, value_least PIN2 v v_good)))
        (change_judged c v_good before.left)
        (data_bytes 0x24 PIN2 (twice (value v)) (omega arith) (omega arith) (omega (arith, size, value_most PIN2 v v_good))
        (all_append _ (value v) (value v) digits digits))
        (ap (λ (v : Code). v.verified) now)
        (ap (λ (v : Code). v.tries) now)

  -- The signature, and a power reset.
  module _ (c : Card) (opened : Open c) where
    abbrev key : ℕ
    key = job_key c.profile.references (drop_both c.session) (kind_number Sign)

    abbrev signed : Card
    signed = card_after c (in_session (closed c.codes PIN2) c.counts (hand_out (drop_both c.session) (kind_number Sign) key 0 []))

    hands_out_lem : step c signing ≡ written buffer signed (job (kind_number Sign) key (padded sha1_digest))
    unfolding sign_apdu step command judge judge_form parse judge_header known_instruction instruction named_in parameters judge_named lengths own_rules sign is_digest prefixed
    hands_out_lem =
        simp (opened.openable.is_good, buffer_taken, eq-eqb c.session.job.kind 0 opened.openable.no_job, opened.openable.environment, opened.verified)

    is_signature : hands_signature (exchange c signing) ≡ true
    unfolding written returned_kind
    is_signature = rw hands_out_lem

    no_word : returned_status (step c signing).returned (step c signing).buffer ≡ 0
    unfolding written returned_status
    no_word = rw hands_out_lem

    abbrev d : Card
    d = next c signing

    d_good : good d ≡ true
    d_good = kept c signing sign_bytes opened.openable.is_good

    signed_tries : (code_of d.codes PIN2).tries ≡ (code_of c.codes PIN2).tries
    unfolding ok_status wrong_status
    signed_tries = (code_after PIN2 (omega arith) c signing).tries ∙ rw no_word

    reset_tries : (code_of (next d PowerReset).codes PIN2).tries ≡ (code_of d.codes PIN2).tries
    unfolding ok_status wrong_status
    reset_tries = (code_after PIN2 (omega arith) d PowerReset).tries ∙ rw (reset_word d d_good)

    again : Openable (next d PowerReset)
    again =
        new_openable (kept d PowerReset refl d_good) (reset_session d d_good)
        (omega (arith, reset_tries, signed_tries, opened.openable.left))

    -- what they count
    rest : {v n : ℕ} → SignedWith (next d PowerReset) v n (v + n) → SignedWith c v n (suc (v + n))
    unfolding ok_status sent_by read_off
    rest {v} {n} later =
        record {
          calls = signing ∷ PowerReset ∷ later.calls;
          of_bytes = rw sign_bytes later.of_bytes;
          presented = rw (no_word, reset_word d d_good) (omega (arith, later.presented));
          changed = rw (no_word, reset_word d d_good) (omega (arith, later.changed));
          signed = rw (is_signature, and-false) (omega (arith, later.signed));
        }

  -- A call that opens PIN2, the signature, a power reset, and what follows.
  turn : {c : Card} {x : Call} {v n v₁ n₁ v₂ n₂ : ℕ} → v₁ + v₂ ≡ v → n₁ + n₂ ≡ n → v₁ + n₁ ≡ 1
      → Opening c x v₁ n₁ → ((c : Card) → Openable c → SignedWith c v₂ n₂ (v₂ + n₂)) → SignedWith c v n (v + n)
  turn {c} {x} presentations changings single first later =
      let then = rest (next c x) first.opened (later _ (again (next c x) first.opened)) in
      record {
        calls = x ∷ then.calls;
        of_bytes = rw first.bytes then.of_bytes;
        presented = omega (arith, first.presented, then.presented, presentations);
        changed = omega (arith, first.changes, then.changed, changings);
        signed = rw first.unsigned (omega (arith, then.signed, presentations, changings, single));
      }

  pub signed_met_lem : (v n : ℕ) (c : Card) → Openable c → SignedWith c v n (v + n)
  signed_met_lem zero zero c before = record { calls = []; of_bytes = refl; presented = refl; changed = refl; signed = refl }
  signed_met_lem zero (suc n) c before = turn refl (omega arith) refl (by_change c before) (signed_met_lem zero n)
  signed_met_lem (suc v) n c before = turn (omega arith) (omega arith) refl (by_verify c before) (signed_met_lem v n)
