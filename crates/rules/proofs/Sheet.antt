-- What opens and closes a code, and what moves its retry counter: the sheet holds of every call on every card.
use mathlib.Core.Path.{◌≡◌, refl, sym, ap, ◌∙◌}
use mathlib.Core.Logic.{◌≢◌}
use mathlib.Core.Bool.{Bool, true, false, not, cond, ◌&&◌, ◌||◌, or-false, and-false, and-true}
use mathlib.Core.List.{List, []}
use Prim.Native.Nat.{ℕ, ◌+◌, ◌-◌, ◌≤◌, ◌<◌}
use native.Mathlib.Omega.{arith}
use lib.Dec.{eqb, leb}
use lib.ListN.{length, drop, length-set}
use borrow.Author.Tests.{eqb-true, eq-eqb, ne_eqb, le-leb, lt-leb, not-false}
use Rattle.octets.specs.Octets.{Bytes, same}
use Rattle.octets.proofs.Tests.{split, either, and_left, never, below_three}
use Rattle.octets.proofs.Strings.{take_filled, same_equal}
use Rattle.rules.specs.declared.Card.{Card}
use Rattle.rules.specs.declared.Code.{Code}
use Rattle.rules.specs.declared.CodeStep.{CodeStep}
use Rattle.rules.specs.declared.Command.{Command as Instruction}
use Rattle.rules.specs.declared.Command.TheVariants.{Select, ReadRecord, ReadBinary, GetResponse, Verify, Change}
use Rattle.rules.specs.declared.Command.TheVariants.{ResetRetry, SetEnvironment, ChooseKey, InternalAuthenticate}
use Rattle.rules.specs.declared.Command.TheVariants.{ComputeSignature, Decipher}
use Rattle.rules.specs.declared.Header.{Header}
use Rattle.rules.specs.declared.Profile.{Profile}
use Rattle.rules.specs.declared.Session.{Session}
use Rattle.rules.specs.declared.Verdict.TheVariants.{Right, Wrong}
use Rattle.rules.specs.Numbers.{Returned, LengthForm, form, refused}
use Rattle.rules.specs.Codes.{PUK, PIN1, PIN2, value, storing, with_value, marked, code_of, with_code, closed}
use Rattle.rules.specs.Apdu.{parse, data_of}
use Rattle.rules.specs.Session.{drop_both}
use Rattle.rules.specs.State.{good, good_codes}
use Rattle.rules.specs.Answers.{Answer, Step, SessionStep, response, job, code_status, session_status, in_session}
use Rattle.rules.specs.Answers.{in_codes, give}
use Rattle.rules.specs.FileCommands.{select, read_record, read_binary, get_response}
use Rattle.rules.specs.KeyCommands.{set_environment, choose_key, internal_authenticate, sign, decipher}
use Rattle.rules.specs.CodeCommands.{sw_not_allowed, sw_has_tries, verdict, judged, queried, verify, new_value, change}
use Rattle.rules.specs.CodeCommands.{unblocked, unblock_by_verified_puk, unblock_by_presented_puk, reset_retry}
use Rattle.rules.specs.Judgement.{instruction, parameters, has_data, lengths, own_rules, refusal}
use Rattle.rules.specs.Judgement.{judge_header, judge_form}
use Rattle.rules.specs.Judgement.{judge}
use Rattle.rules.specs.Delivery.{deliver}
use Rattle.rules.specs.Edge.{Result, refuse, written, card_after, answered, command, delivery, power_reset}
use Rattle.rules.specs.Counting.{Call, Command, Delivery, PowerReset, Exchange, step, exchange_of, status_word}
use Rattle.rules.specs.Counting.{returned_status, returned_kind, form_sends, sent_by, read_off, data_sent, is_command}
use Rattle.rules.specs.Counting.{ok_status, wrong_status, verifies, changes, presents_puk, unblocks, presents}
use Rattle.rules.specs.Counting.{answers, wrong_answer, restoration, unblocking, right_verify, changed, hands_signature}
use Rattle.rules.specs.CodeSheet.{verified_after, value_after, any_unblocks, any_unblocked}
use Rattle.rules.specs.CodeSheet.{by_verified_puk, presented_by, presented_in, hands_pin1_job, stores_pin, reset_done}
use Rattle.rules.specs.CodeSheet.{opens, closes, Sheet}
use Rattle.rules.proofs.StatusWords.{status_read, wrong_status_lem, wrong_not_ok}
use Rattle.rules.proofs.Parts.{good_code_lem, good_codes_lem, code_length, code_tries, allowed_most, code_place}
use Rattle.rules.proofs.Parts.{code_same, code_other}
use Rattle.rules.proofs.Walks.{give_walk, select_walk, read_record_walk, read_binary_walk, get_response_walk}
use Rattle.rules.proofs.Walks.{set_environment_walk, choose_key_walk, authenticate_walk, sign_walk, decipher_walk}
use Rattle.rules.proofs.Walks.{verdict_walk, queried_walk, verify_walk, replaced_walk, verified_puk_walk, reset_retry_walk}
use Rattle.rules.proofs.Walks.{command_walk, delivery_walk, refusing}
use Rattle.rules.proofs.Forms.{refusal_6700, asked}
use Rattle.rules.proofs.Keeping.{header_walk, verify_code, change_code, reset_code}
use Rattle.rules.proofs.Queries.{verifies_nothing, presents_nothing, unblocks_nothing}

-- An exchange that neither opens, closes, judges, stores nor unblocks code k, and hands out no signature.
record Silent (k : ℕ) (e : Exchange) : Type 0 where
  rightly : right_verify k e ≡ false
  wrongly : wrong_answer k e ≡ false
  changing : changed k e ≡ false
  restoring : restoration k e ≡ false
  freeing : unblocking k e ≡ false
  closing_puk : (eqb k PUK && any_unblocked e) ≡ false
  using_puk : (ok_status (status_word e) && is_command by_verified_puk e.call) ≡ false
  storing_pin : (ok_status (status_word e) && is_command (stores_pin k) e.call) ≡ false
  signing : hands_signature e ≡ false
  resetting : reset_done e.returned ≡ false

-- A call that judges no code and unblocks none: what is left to show of the sheet.
record Unjudged (k : ℕ) (e : Exchange) : Type 0 where
  wrongly : wrong_answer k e ≡ false
  restoring : restoration k e ≡ false
  freeing : unblocking k e ≡ false
  using_puk : answers ok_status by_verified_puk e ≡ false

unjudged : (k : ℕ) (c : Card) (x : Call) (o : Result) → Unjudged k (exchange_of x o)
    → (code_of o.card.codes k).verified ≡ verified_after k (exchange_of x o) (code_of c.codes k).verified
    → (code_of o.card.codes k).tries ≡ (code_of c.codes k).tries
    → value (code_of o.card.codes k) ≡ value_after k (exchange_of x o) (value (code_of c.codes PUK)) (value (code_of c.codes k))
    → (hands_pin1_job (exchange_of x o) ≡ true → (code_of c.codes PIN1).verified ≡ true)
    → (hands_signature (exchange_of x o) ≡ true → (code_of c.codes PIN2).verified ≡ true)
    → Sheet k c x o
unjudged k c x o u m t v pin1 pin2 = record {
  verified = m;
  tries = simp (u.wrongly, u.restoring, u.freeing) t;
  stored = v;
  rightly = never u.restoring;
  wrongly = never u.wrongly;
  wrong = never u.wrongly;
  had_tries = never u.wrongly;
  restored = never u.restoring;
  unblocked = never u.freeing;
  puk_used = never u.using_puk;
  pin1_used = pin1;
  signed = pin2;
}

-- Where the code is the same after it, the sheet holds of code k.
unmoved : (k : ℕ) (c : Card) (x : Call) (o : Result) → code_of o.card.codes k ≡ code_of c.codes k → Silent k (exchange_of x o)
    → (hands_pin1_job (exchange_of x o) ≡ true → (code_of c.codes PIN1).verified ≡ true) → Sheet k c x o
unfolding opens closes
unmoved k c x o e s pin1 =
    unjudged k c x o (record { wrongly = s.wrongly; restoring = s.restoring; freeing = s.freeing; using_puk = s.using_puk })
    (simp (s.rightly, s.wrongly, s.changing, s.freeing, s.closing_puk, s.signing, s.resetting, and-false) (ap (λ (v : Code). v.verified) e))
    (ap (λ (v : Code). v.tries) e)
    (simp (s.changing, s.storing_pin) (ap value e))
    pin1
    (never s.signing)

-- A call that wrote an answer.
module _ (k : ℕ) (c : Card) (x : Call) (w : Bytes) where
  abbrev E : Card → ℕ → Exchange
  E c' sw = exchange_of x (written w c' (response [] sw))

  told : (c' : Card) (sw : ℕ) → status_word (E c' sw) ≡ sw
  unfolding written
  told c' sw = status_read w sw

  -- a status word that is neither 9000 nor 63Cx moves nothing
  refusal_silent : (c' : Card) (sw : ℕ) → ok_status sw ≡ false → wrong_status sw ≡ false → Silent k (E c' sw)
  unfolding written returned_kind reset_done
  refusal_silent c' sw n m =
      let z = told c' sw in
      let ok : ok_status (status_word (E c' sw)) ≡ false = ap ok_status z ∙ n in
      let wr : wrong_status (status_word (E c' sw)) ≡ false = ap wrong_status z ∙ m in
      record {
        rightly = rw ok;
        wrongly = rw wr;
        changing = rw ok;
        restoring = rw ok;
        freeing = rw ok;
        closing_puk = rw (ok, and-false);
        using_puk = rw ok;
        storing_pin = rw ok;
        signing = refl;
        resetting = refl;
      }

  refused_sheet : (c' : Card) (sw : ℕ) → code_of c'.codes k ≡ code_of c.codes k → ok_status sw ≡ false → wrong_status sw ≡ false → Sheet k c x (written w c' (response [] sw))
  unfolding written returned_kind
  refused_sheet c' sw e n m = unmoved k c x _ e (refusal_silent c' sw n m) (never refl)

  -- an edge refusal moves nothing
  edge_refusal_lem : (n : ℕ) → Sheet k c x (refuse c w n)
  unfolding returned_status returned_kind reset_done ok_status wrong_status
  edge_refusal_lem n = unmoved k c x _ refl (record {
    rightly = refl;
    wrongly = refl;
    changing = refl;
    restoring = refl;
    freeing = refl;
    closing_puk = and-false (eqb k PUK);
    using_puk = refl;
    storing_pin = refl;
    signing = refl;
    resetting = refl;
  }) (never refl)

  card_written : (c' : Card) (a : Answer) → code_of (written w c' a).card.codes k ≡ code_of c'.codes k
  unfolding written
  card_written c' (response d sw) = refl
  card_written c' (job kind key block) = refl

  -- no answer is a reset
  answer_reset : (c' : Card) (a : Answer) → reset_done (written w c' a).returned ≡ false
  unfolding written reset_done
  answer_reset c' (response d sw) = refl
  answer_reset c' (job kind key block) = refl

  -- a call that is no code command and hands out no signature moves nothing, whatever it answers
  other_call : (c' : Card) (a : Answer) → code_of c'.codes k ≡ code_of c.codes k
      → is_command (verifies k) x ≡ false → is_command (changes k) x ≡ false → is_command (presents k) x ≡ false → is_command (unblocks k) x ≡ false
      → is_command any_unblocks x ≡ false → is_command by_verified_puk x ≡ false → is_command (stores_pin k) x ≡ false
      → hands_signature (exchange_of x (written w c' a)) ≡ false → (hands_pin1_job (exchange_of x (written w c' a)) ≡ true → (code_of c.codes PIN1).verified ≡ true)
      → Sheet k c x (written w c' a)
  unfolding written
  other_call c' a e v n q u t p s z pin1 = unmoved k c x (written w c' a) (card_written c' a ∙ e) (record {
    rightly = rw (v, and-false);
    wrongly = rw (q, and-false);
    changing = rw (n, and-false);
    restoring = rw (q, and-false);
    freeing = rw (u, and-false);
    closing_puk = rw (t, and-false, and-false);
    using_puk = rw (p, and-false);
    storing_pin = rw (s, and-false);
    signing = z;
    resetting = answer_reset c' a;
  }) pin1

-- The kind of job that an answer hands out; 0 where it is a response.
answer_kind : Answer → ℕ
answer_kind (response d sw) = 0
answer_kind (job kind key block) = kind

kind_written : (w : Bytes) (c : Card) (a : Answer) → returned_kind (written w c a).returned ≡ answer_kind a
unfolding written returned_kind answer_kind
kind_written w c (response d sw) = refl
kind_written w c (job kind key block) = refl

-- The commands that change nothing but the session hand out no signature, and another job only while PIN1 is verified.
record Permitted (codes : List Code) (o : SessionStep) : Type 0 where
  unsigned : eqb (answer_kind o.answer) 2 ≡ false
  verified : (eqb (answer_kind o.answer) 1 || eqb (answer_kind o.answer) 3) ≡ true → (code_of codes PIN1).verified ≡ true

-- A response is.
response_permitted : {codes : List Code} {s : Session} {d : Bytes} {sw : ℕ} → Permitted codes (record { session = s; answer = response d sw })
unfolding answer_kind
response_permitted = record { unsigned = refl; verified = never refl }

-- A job of kind 1 or 3 is, while PIN1 is verified.
job_permitted : {codes : List Code} {s : Session} {key : ℕ} {block : Bytes} (kind : ℕ) → eqb kind 2 ≡ false → (code_of codes PIN1).verified ≡ true
    → Permitted codes (record { session = s; answer = job kind key block })
unfolding answer_kind
job_permitted kind n given = record { unsigned = n; verified = λ _. given }

module _ (codes : List Code) where
  abbrev N : SessionStep → Type 0
  N = Permitted codes

  refused_permitted : {s : Session} (sw : ℕ) → refusing sw ≡ true → N (session_status s sw)
  refused_permitted sw _ = response_permitted

  give_permitted : (s : Session) (le : ℕ) (d : Bytes) → N (give s le d)
  give_permitted s le d = give_walk N s le d response_permitted response_permitted

  select_permitted : (s : Session) (h : Header) (d : Bytes) → N (select s h d)
  select_permitted s h d = select_walk N s h d response_permitted response_permitted (λ _. response_permitted) response_permitted

  read_record_permitted : (p : Profile) (s : Session) (h : Header) → N (read_record codes p s h)
  read_record_permitted p s h = read_record_walk N s codes p h refused_permitted (λ _. give_permitted s h.le _)

  read_binary_permitted : (s : Session) (h : Header) (authentication signature : Bytes) → N (read_binary s h authentication signature)
  read_binary_permitted s h authentication signature =
      read_binary_walk N s h authentication signature refused_permitted (λ _. response_permitted) (λ _ _ _ _. response_permitted)

  get_response_permitted : (s : Session) (h : Header) → N (get_response s h)
  get_response_permitted s h = get_response_walk N s h response_permitted response_permitted (λ _. response_permitted)

  set_environment_permitted : (s : Session) (h : Header) → N (set_environment s h)
  set_environment_permitted s h = set_environment_walk N s h (λ _. response_permitted) response_permitted

  choose_key_permitted : (keys : List Bool) (s : Session) (h : Header) (d : Bytes) → N (choose_key keys s h d)
  choose_key_permitted keys s h d = choose_key_walk N s keys h d refused_permitted response_permitted (λ _ _. response_permitted)

  authenticate_permitted : (references : Bytes) (s : Session) (h : Header) (d : Bytes) → N (internal_authenticate codes references s h d)
  authenticate_permitted references s h d = authenticate_walk N s codes references h d refused_permitted (job_permitted 1 refl)

  decipher_permitted : (references : Bytes) (s : Session) (h : Header) (d : Bytes) → N (decipher codes references s h d)
  decipher_permitted references s h d =
      decipher_walk N s codes references h d refused_permitted (λ _. response_permitted) (λ _. job_permitted 3 refl)

-- What a header's tests say, by its instruction.
module _ (k : ℕ) (h : Header) where
  pub verifies_no : eqb h.ins 0x20 ≡ false → verifies k h ≡ false
  unfolding verifies
  verifies_no n = rw n

  pub changes_no : eqb h.ins 0x24 ≡ false → changes k h ≡ false
  unfolding changes
  changes_no n = rw n

  presents_puk_no : eqb h.ins 0x2C ≡ false → presents_puk h ≡ false
  unfolding presents_puk
  presents_puk_no n = rw n

  pub unblocks_no : eqb h.ins 0x2C ≡ false → unblocks k h ≡ false
  unfolding unblocks
  unblocks_no n = rw n

  presents_no : verifies k h ≡ false → changes k h ≡ false → (eqb k PUK && presents_puk h) ≡ false → presents k h ≡ false
  unfolding presents
  presents_no v n p = simp (v, n, p)

-- A command in a length form, on a card with good codes.
module _ (k : ℕ) (h3 : k < 3) (c : Card) (g : good_codes c.codes ≡ true) (b auth sig w : Bytes) (h : Header) (start : ℕ)
    (p : parse b ≡ form h start) where
  abbrev x : Call
  x = Command b auth sig w

  abbrev d : Bytes
  d = data_of b start h

  abbrev cs : List Code
  cs = c.codes

  abbrev S : Step → Type 0
  S o = Sheet k c x (answered w c o)

  -- a command that changes nothing but the codes and the unblocking counts, whatever these are then, and the card after it
  abbrev T : CodeStep → Type 0
  T o = (counts : List ℕ) → S (in_codes counts (drop_both c.session) o)

  abbrev C : List Code → List ℕ → Card
  C codes counts = record { codes = codes; counts = counts; profile = c.profile; session = drop_both c.session }

  data_sent_lem : data_sent x ≡ d
  unfolding sent_by form_sends read_off
  data_sent_lem = rw p

  shown : (stored : Bytes) → presented_in stored x ≡ presented_by stored h d
  unfolding sent_by form_sends read_off
  shown stored = rw p

  -- the tests of an exchange that a status word ended, by the header
  by_header : (codes : List Code) (counts : List ℕ) (sw : ℕ) (st : ℕ → Bool) (t : Header → Bool)
      → (st (status_word (E k c x w (C codes counts) sw)) && is_command t x) ≡ (st sw && t h)
  by_header codes counts sw st t = rw (told k c x w (C codes counts) sw, asked b auth sig w p t)

  -- 9000
  accepted : (codes : List Code)
      → (code_of codes k).verified ≡ ((verifies k h || changes k h) || (not (unblocks k h || (eqb k PUK && any_unblocks h)) && (code_of cs k).verified))
      → (code_of codes k).tries ≡ cond (presents k h || unblocks k h) 3 (code_of cs k).tries
      → value (code_of codes k) ≡ cond (changes k h) (drop (length (value (code_of cs k))) d)
      (cond (stores_pin k h) (drop (length (value (code_of cs PUK))) d) (value (code_of cs k)))
      → (presents k h ≡ true → 1 ≤ (code_of cs k).tries) → (unblocks k h ≡ true → (code_of cs k).tries ≡ 0)
      → (presents k h ≡ true → same (presented_by (value (code_of cs k)) h d) (value (code_of cs k)) ≡ true)
      → (by_verified_puk h ≡ true → (code_of cs PUK).verified ≡ true)
      → T (code_status codes 0x9000)
  unfolding written returned_kind reset_done opens closes
  accepted codes m t v some none right puk counts =
      let ok : (t : Header → Bool) → (ok_status (status_word (E k c x w (C codes counts) 0x9000)) && is_command t x) ≡ t h =
      λ t. unfold ok_status in by_header codes counts 0x9000 ok_status t in
      let wr : (wrong_status (status_word (E k c x w (C codes counts) 0x9000)) && is_command (presents k) x) ≡ false =
      unfold wrong_status in by_header codes counts 0x9000 wrong_status (presents k) in
      record {
        verified = simp (ok (verifies k), ok (changes k), ok (unblocks k), ok any_unblocks, wr, or-false, and-false) m;
        tries = simp (ok (presents k), ok (unblocks k), wr) t;
        stored = simp (ok (changes k), ok (stores_pin k), data_sent_lem) v;
        rightly = λ e. shown (value (code_of cs k)) ∙ same_equal _ _ (right (sym (ok (presents k)) ∙ e));
        wrongly = never wr;
        wrong = never wr;
        had_tries = never wr;
        restored = λ e. some (sym (ok (presents k)) ∙ e);
        unblocked = λ e. none (sym (ok (unblocks k)) ∙ e);
        puk_used = λ e. puk (sym (ok by_verified_puk) ∙ e);
        pin1_used = never refl;
        signed = never refl;
      }

  -- 9000, to a command that is about another code
  untouched : (codes : List Code) → code_of codes k ≡ code_of cs k → verifies k h ≡ false → changes k h ≡ false → unblocks k h ≡ false
      → presents k h ≡ false → (eqb k PUK && any_unblocks h) ≡ false → (by_verified_puk h ≡ true → (code_of cs PUK).verified ≡ true)
      → T (code_status codes 0x9000)
  untouched codes now v ch u p a puk =
      accepted codes
      (ap (λ (v : Code). v.verified) now ∙ rw (v, ch, u, a))
      (ap (λ (v : Code). v.tries) now ∙ rw (p, u))
      (ap value now ∙ rw (ch, u))
      (never p)
      (never u)
      (never p)
      puk

  -- 63Cx
  mistaken : (codes : List Code) (t : ℕ) → t ≤ 15
      → (code_of codes k).verified ≡ (not (presents k h) && (code_of cs k).verified)
      → (code_of codes k).tries ≡ cond (presents k h) ((code_of cs k).tries - 1) (code_of cs k).tries
      → value (code_of codes k) ≡ value (code_of cs k)
      → (presents k h ≡ true → t ≡ (code_of codes k).tries) → (presents k h ≡ true → 1 ≤ (code_of cs k).tries)
      → (presents k h ≡ true → same (presented_by (value (code_of cs k)) h d) (value (code_of cs k)) ≡ false)
      → T (code_status codes (0x63C0 + t))
  unfolding written returned_kind reset_done opens closes
  mistaken codes t l m s v left some wrong_value counts =
      let wr : (wrong_status (status_word (E k c x w (C codes counts) (0x63C0 + t))) && is_command (presents k) x) ≡ presents k h =
      by_header codes counts (0x63C0 + t) wrong_status (presents k) ∙ ap (λ (q : Bool). q && presents k h) (wrong_status_lem t l) in
      let ok : (t' : Header → Bool) → (ok_status (status_word (E k c x w (C codes counts) (0x63C0 + t))) && is_command t' x) ≡ false =
      λ t'. by_header codes counts (0x63C0 + t) ok_status t' ∙ ap (λ (q : Bool). q && t' h) (wrong_not_ok t l) in
      record {
        verified = simp (ok (verifies k), ok (changes k), ok (unblocks k), ok any_unblocks, wr, or-false, and-false) m;
        tries = simp (ok (presents k), ok (unblocks k), wr) s;
        stored = simp (ok (changes k), ok (stores_pin k)) v;
        rightly = never (ok (presents k));
        wrongly = λ e. ap (λ (d : Bytes). same d (value (code_of cs k))) (shown (value (code_of cs k))) ∙ wrong_value (sym wr ∙ e);
        wrong = λ e. told k c x w (C codes counts) (0x63C0 + t) ∙ ap (λ (n : ℕ). 0x63C0 + n) (left (sym wr ∙ e));
        had_tries = λ e. some (sym wr ∙ e);
        restored = never (ok (presents k));
        unblocked = never (ok (unblocks k));
        puk_used = never (ok by_verified_puk);
        pin1_used = never refl;
        signed = never refl;
      }

  -- code j of as many codes replaced by v: code k afterwards
  same_code : (codes : List Code) (j : ℕ) (v : Code) → j < 3 → length codes ≡ length cs → k ≡ j → code_of (with_code codes j v) k ≡ v
  same_code codes j v q s e = rw e (code_same codes j v (omega (arith, code_place cs g j q)))

  other_code : (codes : List Code) (j : ℕ) (v : Code) → j < 3 → length codes ≡ length cs → k ≢ j
      → code_of (with_code codes j v) k ≡ code_of codes k
  other_code codes j v q s n = code_other codes j v (omega (arith, code_place cs g j q)) k n

  -- a status word that refuses: the codes as they were
  turned_down : (sw : ℕ) → ok_status sw ≡ false → wrong_status sw ≡ false → T (code_status cs sw)
  turned_down sw n m counts = refused_sheet k c x w (C cs counts) sw refl n m

  refused_header : (sw : ℕ) → ok_status sw ≡ false → wrong_status sw ≡ false → S (refusal c sw)
  refused_header sw n m = turned_down sw n m c.counts

  -- A value judged wrong for code j, which is the code that the header presents a value for.
  wrong_sheet : (j : ℕ) → j < 3 → presents j h ≡ true → ((i : ℕ) → i ≢ j → presents i h ≡ false)
      → 1 ≤ (code_of cs j).tries → same (presented_by (value (code_of cs j)) h d) (value (code_of cs j)) ≡ false
      → T (judged cs j Wrong)
  unfolding judged
  wrong_sheet j q this none some other =
      let t = (code_of cs j).tries in
      let v : Code = marked (code_of cs j) (t - 1) false in
      let codes : List Code = with_code cs j v in
      let few : t - 1 ≤ 15 = omega (arith, code_tries j (code_of cs j) (good_code_lem cs g j q)) in
      either (T (code_status codes (0x63C0 + (t - 1)))) k j
      (λ e.
      let now : code_of codes k ≡ v = same_code cs j v q refl e in
      let this-k : presents k h ≡ true = rw e this in
      mistaken codes (t - 1) few
      (ap (λ (v : Code). v.verified) now ∙ rw this-k)
      (ap (λ (v : Code). v.tries) now ∙ rw (this-k, e))
      (ap value now ∙ rw e)
      (λ _. sym (ap (λ (v : Code). v.tries) now))
      (λ _. rw e some)
      (λ _. rw e other))
      (λ n.
      let now : code_of codes k ≡ code_of cs k = other_code cs j v q refl n in
      let none-k : presents k h ≡ false = none k n in
      mistaken codes (t - 1) few
      (ap (λ (v : Code). v.verified) now ∙ rw none-k)
      (ap (λ (v : Code). v.tries) now ∙ rw none-k)
      (ap value now)
      (never none-k)
      (never none-k)
      (never none-k))

  -- 20 VERIFY without data
  module _ (i : h.ins ≡ 0x20) (few : h.p2 < 3) (no_data_lem : h.lc ≡ 0) where
    query_sheet : T (queried cs h.p2)
    unfolding ok_status wrong_status
    query_sheet =
        let t = (code_of cs h.p2).tries in
        let few-tries : t ≤ 15 = omega (arith, code_tries h.p2 (code_of cs h.p2) (good_code_lem cs g h.p2 few)) in
        let none-k : presents k h ≡ false = presents_nothing h i no_data_lem k in
        queried_walk T cs h.p2 (λ _. turned_down 0x6983 refl refl)
        (λ _ _. untouched cs refl (verifies_nothing h i no_data_lem k) (changes_no k h (rw i)) (unblocks_nothing h i no_data_lem k) none-k (rw (i, and-false)) (never (rw i)))
        (λ _ _. mistaken cs t few-tries (rw none-k) (rw none-k) refl (never none-k) (never none-k) (never none-k))

  -- 20 VERIFY with data
  module _ (i : h.ins ≡ 0x20) (few : h.p2 < 3) (some-data : has_data h ≡ true) where
    verify_tests : (j : ℕ) → verifies j h ≡ eqb h.p2 j
    unfolding verifies
    verify_tests j = simp (i, some-data)

    verify_presents : (j : ℕ) → presents j h ≡ eqb h.p2 j
    unfolding presents
    verify_presents j = simp (verify_tests j, changes_no j h (rw i), presents_puk_no j h (rw i), and-false, or-false)

    -- right
    verify_right : 1 ≤ (code_of cs h.p2).tries → same d (value (code_of cs h.p2)) ≡ true → T (judged cs h.p2 Right)
    unfolding judged
    verify_right some right =
        let j = h.p2 in
        let v : Code = marked (code_of cs j) 3 true in
        let codes : List Code = with_code cs j v in
        either (T (code_status codes 0x9000)) k j
        (λ e.
        let now : code_of codes k ≡ v = same_code cs j v few refl e in
        let it : eqb j k ≡ true = eq-eqb j k (sym e) in
        accepted codes
        (ap (λ (v : Code). v.verified) now ∙ rw (verify_tests k, it))
        (ap (λ (v : Code). v.tries) now ∙ rw (verify_presents k, it))
        (ap value now ∙ rw (changes_no k h (rw i), unblocks_no k h (rw i), e))
        (λ _. rw e some)
        (never (unblocks_no k h (rw i)))
        (λ _. rw (i, e) right)
        (never (rw i)))
        (λ n.
        let other : eqb j k ≡ false = ne_eqb j k (λ e. n (sym e)) in
        untouched codes (other_code cs j v few refl n)
        (verify_tests k ∙ other) (changes_no k h (rw i)) (unblocks_no k h (rw i)) (verify_presents k ∙ other) (rw (i, and-false)) (never (rw i)))

    judged_sheet : T (judged cs h.p2 (verdict (code_of cs h.p2) d))
    unfolding judged ok_status wrong_status
    judged_sheet =
        let j = h.p2 in
        verdict_walk (λ v. T (judged cs j v)) (code_of cs j) d
        (λ _. turned_down 0x6983 refl refl)
        verify_right
        (λ some other. wrong_sheet j few (verify_presents j ∙ eq-eqb j j refl) (λ m n. verify_presents m ∙ ne_eqb j m (λ e. n (sym e))) some (rw i other))

  verify_sheet : h.ins ≡ 0x20 → h.p2 < 3 → T (verify cs h d)
  verify_sheet i few = verify_walk T cs h d (query_sheet i few) (λ some. judged_sheet i few (le-leb 1 h.lc some))

  -- 24 CHANGE
  module _ (i : h.ins ≡ 0x24) (few : h.p2 < 3) where
    change_tests : (j : ℕ) → changes j h ≡ eqb h.p2 j
    unfolding changes
    change_tests j = simp i

    change_presents : (j : ℕ) → presents j h ≡ eqb h.p2 j
    unfolding presents
    change_presents j = simp (verifies_no j h (rw i), change_tests j, presents_puk_no j h (rw i), and-false, or-false)

    change_sheet : T (change cs h d)
    unfolding change ok_status wrong_status
    change_sheet =
        let j = h.p2 in
        let new : Bytes = new_value cs j d in
        let v : Code = storing new 3 true in
        let codes : List Code = with_code cs j v in
        let size : length (value (code_of cs j)) ≡ (code_of cs j).len = code_length j (code_of cs j) (good_code_lem cs g j few) in
        let free-k = unblocks_no k h (rw i) in
        replaced_walk T cs j j new codes _
        (λ _. turned_down 0x6983 refl refl)
        (λ some other. wrong_sheet j few (change_presents j ∙ eq-eqb j j refl) (λ m n. change_presents m ∙ ne_eqb j m (λ e. n (sym e))) some (rw (i, size) other))
        (turned_down sw_not_allowed refl refl)
        (λ some right a. either (T (code_status codes 0x9000)) k j
        (λ e.
        let now : code_of codes k ≡ v = same_code cs j v few refl e in
        let it : eqb j k ≡ true = eq-eqb j k (sym e) in
        accepted codes
        (ap (λ (v : Code). v.verified) now ∙ rw (verifies_no k h (rw i), change_tests k, it))
        (ap (λ (v : Code). v.tries) now ∙ rw (change_presents k, it))
        (ap value now ∙ take_filled 12 new (allowed_most j new a) ∙ rw (change_tests k, it, e, size))
        (λ _. rw e some)
        (never free-k)
        (λ _. rw (i, e, size) right)
        (never (rw i)))
        (λ n.
        let other : eqb j k ≡ false = ne_eqb j k (λ e. n (sym e)) in
        untouched codes (other_code cs j v few refl n)
        (verifies_no k h (rw i)) (change_tests k ∙ other) free-k (change_presents k ∙ other) (rw (i, and-false)) (never (rw i))))

  -- 2C RESET RETRY
  module _ (i : h.ins ≡ 0x2C) (pin : 1 ≤ h.p2) (few : h.p2 < 3) where
    abbrev j : ℕ
    j = h.p2

    puk_presents : (m : ℕ) → presents m h ≡ (eqb m PUK && eqb h.p1 0x00)
    unfolding presents presents_puk
    puk_presents m = simp (verifies_no m h (rw i), changes_no m h (rw i), i)

    pin_unblocks : (eqb h.p1 0x00 || eqb h.p1 0x03) ≡ true → (m : ℕ) → unblocks m h ≡ (eqb j m && leb 1 m)
    unfolding unblocks
    pin_unblocks q m = simp (i, q)

    -- the marks of the PIN and of PUK after 9000, the mark of the other PIN
    module _ (q : (eqb h.p1 0x00 || eqb h.p1 0x03) ≡ true) (blocked : (code_of cs j).tries ≡ 0)
        (puk : by_verified_puk h ≡ true → (code_of cs PUK).verified ≡ true) (codes : List Code) where
      -- the PIN
      pin_done : k ≡ j → (code_of codes k).verified ≡ false → (code_of codes k).tries ≡ 3
          → value (code_of codes k) ≡ cond (eqb h.p1 0x00) (drop (length (value (code_of cs PUK))) d) (value (code_of cs k))
          → T (code_status codes 0x9000)
      unfolding presents_puk
      pin_done e m t v =
          let frees : unblocks k h ≡ true = pin_unblocks q k ∙ rw (eq-eqb j k (sym e), le-leb 1 k (omega arith)) in
          let not-puk : presents k h ≡ false = puk_presents k ∙ rw (ne_eqb k PUK (omega arith)) in
          accepted codes
          (m ∙ rw (verifies_no k h (rw i), changes_no k h (rw i), frees))
          (t ∙ rw (not-puk, frees))
          (v ∙ rw (changes_no k h (rw i), frees, i))
          (never not-puk)
          (λ _. rw e blocked)
          (never not-puk)
          puk

      -- PUK
      puk_done : k ≡ PUK → (code_of codes k).verified ≡ false → (code_of codes k).tries ≡ cond (eqb h.p1 0x00) 3 (code_of cs k).tries
          → value (code_of codes k) ≡ value (code_of cs k) → (eqb h.p1 0x00 ≡ true → 1 ≤ (code_of cs k).tries)
          → (eqb h.p1 0x00 ≡ true → same (presented_by (value (code_of cs k)) h d) (value (code_of cs k)) ≡ true)
          → T (code_status codes 0x9000)
      puk_done e m t v some right =
          let frees : unblocks k h ≡ false = pin_unblocks q k ∙ rw (lt-leb 1 k (omega arith), and-false) in
          let this : eqb k PUK ≡ true = eq-eqb k PUK e in
          accepted codes
          (m ∙ rw (verifies_no k h (rw i), changes_no k h (rw i), frees, this, i))
          (t ∙ rw (puk_presents k, frees, this, or-false))
          (v ∙ rw (changes_no k h (rw i), frees))
          (λ z. some (sym (puk_presents k ∙ rw this) ∙ z))
          (never frees)
          (λ z. right (sym (puk_presents k ∙ rw this) ∙ z))
          puk

      -- the other PIN
      other_done : k ≢ j → k ≢ PUK → code_of codes k ≡ code_of cs k → T (code_status codes 0x9000)
      other_done n m now =
          let frees : unblocks k h ≡ false = pin_unblocks q k ∙ rw (ne_eqb j k (λ e. n (sym e))) in
          let not-puk : presents k h ≡ false = puk_presents k ∙ rw (ne_eqb k PUK m) in
          untouched codes now (verifies_no k h (rw i)) (changes_no k h (rw i)) frees not-puk (rw (ne_eqb k PUK m)) puk

    -- 9000, in both forms
    unblocked_sheet : (eqb h.p1 0x00 || eqb h.p1 0x03) ≡ true → (code_of cs j).tries ≡ 0
        → (by_verified_puk h ≡ true → (code_of cs PUK).verified ≡ true) → (pinCode : Code) (t : ℕ)
        → value pinCode ≡ cond (eqb h.p1 0x00) (drop (length (value (code_of cs PUK))) d) (value (code_of cs j))
        → t ≡ cond (eqb h.p1 0x00) 3 (code_of cs PUK).tries → (eqb h.p1 0x00 ≡ true → 1 ≤ (code_of cs PUK).tries)
        → (eqb h.p1 0x00 ≡ true → same (presented_by (value (code_of cs PUK)) h d) (value (code_of cs PUK)) ≡ true)
        → T (code_status (unblocked cs j pinCode t) 0x9000)
    unfolding unblocked
    unblocked_sheet q blocked puk pinCode t stored tries some right =
        let v : Code = marked pinCode 3 false in
        let first : List Code = with_code cs j v in
        let u : Code = marked (code_of cs PUK) t false in
        let both : List Code = with_code first PUK u in
        let sized : length first ≡ length cs = length-set cs j v in
        either _ k j
        (λ e.
        let now : code_of both k ≡ v = other_code first PUK u (omega arith) sized (omega arith) ∙ same_code cs j v few refl e in
        pin_done q blocked puk both e (ap (λ (v : Code). v.verified) now) (ap (λ (v : Code). v.tries) now) (ap value now ∙ rw e stored))
        (λ n. either _ k PUK
        (λ e.
        let now : code_of both k ≡ u = same_code first PUK u (omega arith) sized e in
        puk_done q blocked puk both e (ap (λ (v : Code). v.verified) now) (ap (λ (v : Code). v.tries) now ∙ rw e tries)
        (ap value now ∙ rw e) (rw e some) (rw e right))
        (λ m. other_done q blocked puk both n m (other_code first PUK u (omega arith) sized m ∙ other_code cs j v few refl n)))

    -- P1 03
    verified_puk_sheet : h.p1 ≡ 0x03 → (code_of cs j).tries ≡ 0 → T (unblock_by_verified_puk cs j)
    unfolding ok_status wrong_status
    verified_puk_sheet q blocked =
        verified_puk_walk T cs j (turned_down 0x6982 refl refl)
        (λ given. unblocked_sheet (rw q) blocked (λ _. given) (code_of cs j) (code_of cs PUK).tries (rw q) (rw q) (never (rw q)) (never (rw q)))

    -- P1 00
    presented_puk_sheet : h.p1 ≡ 0x00 → (code_of cs j).tries ≡ 0 → T (unblock_by_presented_puk cs j d)
    unfolding unblock_by_presented_puk ok_status wrong_status
    presented_puk_sheet q blocked =
        let new : Bytes = new_value cs PUK d in
        let v : Code = with_value (code_of cs j) new in
        let size : length (value (code_of cs PUK)) ≡ (code_of cs PUK).len = code_length PUK (code_of cs PUK) (good_code_lem cs g PUK (omega arith)) in
        replaced_walk T cs PUK j new (unblocked cs j v 3) _
        (λ _. turned_down 0x6983 refl refl)
        (λ some other. wrong_sheet PUK (omega arith) (puk_presents PUK ∙ rw q) (λ m n. puk_presents m ∙ rw (ne_eqb m PUK n)) some (rw (i, size) other))
        (turned_down sw_not_allowed refl refl)
        (λ some right a. unblocked_sheet (rw q) blocked (never (rw (i, q))) v 3
        (take_filled 12 new (allowed_most j new a) ∙ rw (q, size)) (rw q) (λ _. some) (λ _. rw (i, size) right))

    reset_retry_sheet : (eqb h.p1 0x00 || eqb h.p1 0x03) ≡ true → T (reset_retry cs c.counts h d)
    unfolding ok_status wrong_status
    reset_retry_sheet q =
        reset_retry_walk T cs c.counts h d (turned_down sw_has_tries refl refl) (turned_down 0x6983 refl refl)
        (λ blocked _ t. verified_puk_sheet t blocked)
        (λ blocked _ f. presented_puk_sheet (eqb-true h.p1 0x00 (sym (or-false _) ∙ rw f at q)) blocked)

  -- a job handed out: only a signature moves a code, and only PIN2
  handed : (c' : Card) (kind key : ℕ) (block : Bytes)
      → (code_of c'.codes k).verified ≡ (not (eqb k PIN2 && eqb kind 2) && (code_of cs k).verified)
      → (code_of c'.codes k).tries ≡ (code_of cs k).tries → value (code_of c'.codes k) ≡ value (code_of cs k)
      → (eqb kind 2 ≡ true → (code_of cs PIN2).verified ≡ true)
      → ((eqb kind 1 || eqb kind 3) ≡ true → (code_of cs PIN1).verified ≡ true)
      → Sheet k c x (written w c' (job kind key block))
  unfolding written returned_status returned_kind reset_done opens closes ok_status wrong_status
  handed c' kind key block m t v given pin1 =
      unjudged k c x _ (record { wrongly = refl; restoring = refl; freeing = refl; using_puk = refl })
      (simp (and-true, and-false, or-false) m) t v (λ e. pin1 (simp and-true at e)) (λ e. given (simp and-true at e))

  -- what a command of another instruction answers
  session_sheet : eqb h.ins 0x20 ≡ false → eqb h.ins 0x24 ≡ false → eqb h.ins 0x2C ≡ false
      → (o : SessionStep) → Permitted cs o → S (in_session cs c.counts o)
  session_sheet v n u o none =
      let c' : Card = card_after c (in_session cs c.counts o) in
      other_call k c x w c' o.answer refl
      (asked b auth sig w p (verifies k) ∙ verifies_no k h v)
      (asked b auth sig w p (changes k) ∙ changes_no k h n)
      (asked b auth sig w p (presents k) ∙ presents_no k h (verifies_no k h v) (changes_no k h n) (rw (presents_puk_no k h u, and-false)))
      (asked b auth sig w p (unblocks k) ∙ unblocks_no k h u)
      (asked b auth sig w p any_unblocks ∙ u)
      (asked b auth sig w p by_verified_puk ∙ rw u)
      (asked b auth sig w p (stores_pin k) ∙ rw (unblocks_no k h u))
      (rw (kind_written w c' o.answer, none.unsigned))
      (λ e. none.verified (simp (kind_written w c' o.answer, and-true) at e))

  -- 2A 9E 9A SIGN
  sign_sheet : h.ins ≡ 0x2A → S (sign cs c.counts c.profile.references (drop_both c.session) h d)
  sign_sheet i =
      let v : Code = marked (code_of cs PIN2) (code_of cs PIN2).tries false in
      sign_walk S cs c.counts c.profile.references (drop_both c.session) h d
      (λ sw _. session_sheet (rw i) (rw i) (rw i) _ response_permitted)
      (λ _ given. either _ k PIN2
      (λ e.
      let now : code_of (with_code cs PIN2 v) k ≡ v = same_code cs PIN2 v (omega arith) refl e in
      handed _ 2 _ _ (ap (λ (v : Code). v.verified) now ∙ rw e) (ap (λ (v : Code). v.tries) now ∙ rw e) (ap value now ∙ rw e) (λ _. given) (never refl))
      (λ n.
      let now : code_of (with_code cs PIN2 v) k ≡ code_of cs k = other_code cs PIN2 v (omega arith) refl n in
      handed _ 2 _ _ (ap (λ (v : Code). v.verified) now ∙ rw (ne_eqb k PIN2 n)) (ap (λ (v : Code). v.tries) now) (ap value now) (λ _. given) (never refl)))

  -- step 7, of a command that the header names
  own_sheet : (o : Instruction) → h.ins ≡ instruction o → parameters o h.p1 h.p2 ≡ true → lengths o h ≡ true → S (own_rules o c h d auth sig)
  unfolding own_rules instruction parameters lengths
  own_sheet Select i q l = session_sheet (rw i) (rw i) (rw i) _ (select_permitted cs _ h d)
  own_sheet ReadRecord i q l = session_sheet (rw i) (rw i) (rw i) _ (read_record_permitted cs c.profile _ h)
  own_sheet ReadBinary i q l = session_sheet (rw i) (rw i) (rw i) _ (read_binary_permitted cs _ h auth sig)
  own_sheet GetResponse i q l = session_sheet (rw i) (rw i) (rw i) _ (get_response_permitted cs _ h)
  own_sheet Verify i q l = verify_sheet i (verify_code h q) c.counts
  own_sheet Change i q l = change_sheet i (change_code h q) c.counts
  own_sheet ResetRetry i q l =
      reset_retry_sheet i (reset_code h q).0 (reset_code h q).1
      (and_left (eqb h.p1 0x00 || eqb h.p1 0x03) (leb 1 h.p2 && leb h.p2 2) q) _
  own_sheet SetEnvironment i q l = session_sheet (rw i) (rw i) (rw i) _ (set_environment_permitted cs _ h)
  own_sheet ChooseKey i q l = session_sheet (rw i) (rw i) (rw i) _ (choose_key_permitted cs c.profile.keys _ h d)
  own_sheet InternalAuthenticate i q l = session_sheet (rw i) (rw i) (rw i) _ (authenticate_permitted cs c.profile.references _ h d)
  own_sheet ComputeSignature i q l = sign_sheet i
  own_sheet Decipher i q l = session_sheet (rw i) (rw i) (rw i) _ (decipher_permitted cs c.profile.references _ h d)

  -- steps 2 to 7
  header_sheet : S (judge_header c h d auth sig)
  unfolding ok_status wrong_status
  header_sheet =
      header_walk S c h d auth sig (refused_header 0x6E00 refl refl) (refused_header 0x6D00 refl refl) (refused_header 0x6884 refl refl)
      (refused_header 0x6A86 refl refl) (refused_header 0x6700 refl refl) (λ _ o fits l. own_sheet o fits.ins fits.parameters l)

-- A command.
module _ (k : ℕ) (h3 : k < 3) (c : Card) (b auth sig w : Bytes) where
  form_sheet : good c ≡ true → (f : LengthForm) → parse b ≡ f → Sheet k c (Command b auth sig w) (answered w c (judge_form c b f auth sig))
  unfolding judge_form ok_status wrong_status
  form_sheet g (refused sw) p = refused_sheet k c (Command b auth sig w) w _ sw refl (only_refusal ok_status sw p refl) (only_refusal wrong_status sw p refl)
    where
      only_refusal : (t : ℕ → Bool) (sw : ℕ) → parse b ≡ refused sw → t 0x6700 ≡ false → t sw ≡ false
      only_refusal t sw p e = rw (refusal_6700 b sw p) e
  form_sheet g (form h start) p = header_sheet k h3 c (good_codes_lem c g) b auth sig w h start p

  command_sheet : Sheet k c (Command b auth sig w) (command c b auth sig w)
  unfolding judge
  command_sheet =
      let x : Call = Command b auth sig w in
      command_walk (Sheet k c x) c b auth sig w (edge_refusal_lem k c x w) (λ g _ _. form_sheet g (parse b) refl)

-- A delivery.
delivery_sheet : (k : ℕ) (c : Card) (r w : Bytes) → Sheet k c (Delivery r w) (delivery c r w)
unfolding sent_by read_off
delivery_sheet k c r w =
    let x : Call = Delivery r w in
    let o : SessionStep = deliver c.session r in
    delivery_walk (Sheet k c x) c r w (edge_refusal_lem k c x w)
    (λ _ _. other_call k c x w (card_after c (in_session c.codes c.counts o)) o.answer refl refl refl refl refl refl refl refl
    (simp and-false) (never (simp and-false)))

-- A power reset closes each code and changes nothing else of it.
module _ (cs : List Code) (g : good_codes cs ≡ true) where
  abbrev shut : Code → Code
  shut v = marked v v.tries false

  shut_place : (codes : List Code) (j : ℕ) → length codes ≡ length cs → length (closed codes j) ≡ length cs
  shut_place codes j e = length-set codes j (shut (code_of codes j)) ∙ e

  shut_same : (codes : List Code) (j : ℕ) → j < 3 → length codes ≡ length cs → code_of (closed codes j) j ≡ shut (code_of codes j)
  shut_same codes j q e = code_same codes j (shut (code_of codes j)) (omega (arith, code_place cs g j q))

  shut_other : (codes : List Code) (j k : ℕ) → j < 3 → length codes ≡ length cs → k ≢ j → code_of (closed codes j) k ≡ code_of codes k
  shut_other codes j k q e n = code_other codes j (shut (code_of codes j)) (omega (arith, code_place cs g j q)) k n

  all_shut : (k : ℕ) → k < 3 → code_of (closed (closed (closed cs PUK) PIN1) PIN2) k ≡ shut (code_of cs k)
  all_shut =
      let one : List Code = closed cs PUK in
      let two : List Code = closed one PIN1 in
      let l₁ : length one ≡ length cs = shut_place cs PUK refl in
      let l₂ : length two ≡ length cs = shut_place one PIN1 l₁ in
      below_three (λ k. code_of (closed two PIN2) k ≡ shut (code_of cs k))
      (shut_other two PIN2 PUK (omega arith) l₂ (omega arith) ∙ shut_other one PIN1 PUK (omega arith) l₁ (omega arith)
      ∙ shut_same cs PUK (omega arith) refl)
      (shut_other two PIN2 PIN1 (omega arith) l₂ (omega arith) ∙ shut_same one PIN1 (omega arith) l₁
      ∙ ap shut (shut_other cs PUK PIN1 (omega arith) refl (omega arith)))
      (shut_same two PIN2 (omega arith) l₂
      ∙ ap shut (shut_other one PIN1 PIN2 (omega arith) l₁ (omega arith) ∙ shut_other cs PUK PIN2 (omega arith) refl (omega arith)))

reset_sheet : (k : ℕ) → k < 3 → (c : Card) → Sheet k c PowerReset (record { returned = (power_reset c).0; card = (power_reset c).1; buffer = [] })
unfolding power_reset returned_status returned_kind reset_done sent_by read_off ok_status wrong_status opens closes
reset_sheet k h3 c =
    split (λ (o : Returned × Card). Sheet k c PowerReset (record { returned = o.0; card = o.1; buffer = [] })) (not (good c))
    (λ _. edge_refusal_lem k c PowerReset [] 1)
    (λ g.
    let now = all_shut c.codes (good_codes_lem c (not-false _ g)) k h3 in
    unjudged k c PowerReset _ (record { wrongly = refl; restoring = refl; freeing = refl; using_puk = refl })
    (simp and-false (ap (λ (v : Code). v.verified) now)) (ap (λ (v : Code). v.tries) now) (ap value now) (never refl) (never refl))

-- Each code, after every call on every card.
pub code_after : (k : ℕ) → k < 3 → (c : Card) (x : Call) → Sheet k c x (step c x)
unfolding step
code_after k h3 c (Command b auth sig w) = command_sheet k h3 c b auth sig w
code_after k h3 c (Delivery r w) = delivery_sheet k c r w
code_after k h3 c PowerReset = reset_sheet k h3 c
