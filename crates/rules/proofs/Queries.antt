-- A VERIFY without data leaves all codes as they were, tells what a code is, and counts as nothing.
use mathlib.Core.Path.{◌≡◌, refl, sym, ap, ◌∙◌}
use mathlib.Core.Bool.{Bool, true, false, not, ◌&&◌, ◌||◌, and-false, or-true}
use mathlib.Core.List.{List, [], ◌∷◌}
use Prim.Native.Nat.{ℕ, ◌+◌, ◌≤◌, ◌<◌}
use native.Mathlib.Omega.{arith}
use lib.Dec.{eqb}
use borrow.Author.Tests.{eqb-true, leb-false, ne_eqb, le-leb, not-true}
use Rattle.octets.specs.Octets.{Bytes}
use Rattle.octets.proofs.Tests.{by_test, and_left, and_right, never}
use Rattle.rules.specs.declared.Card.{Card}
use Rattle.rules.specs.declared.Code.{Code}
use Rattle.rules.specs.declared.CodeStep.{CodeStep}
use Rattle.rules.specs.declared.Command.{Command as Instruction}
use Rattle.rules.specs.declared.Command.TheVariants.{Select, ReadRecord, ReadBinary, GetResponse, Verify, Change}
use Rattle.rules.specs.declared.Command.TheVariants.{ResetRetry, SetEnvironment, ChooseKey, InternalAuthenticate}
use Rattle.rules.specs.declared.Command.TheVariants.{ComputeSignature, Decipher}
use Rattle.rules.specs.declared.Header.{Header}
use Rattle.rules.specs.Numbers.{LengthForm, form, refused}
use Rattle.rules.specs.Apdu.{parse, data_of}
use Rattle.rules.specs.Codes.{PIN2, code_of}
use Rattle.rules.specs.Session.{drop_both}
use Rattle.rules.specs.State.{good_codes}
use Rattle.rules.specs.Answers.{response, Step, code_status, in_codes}
use Rattle.rules.specs.CodeCommands.{queried, verify}
use Rattle.rules.specs.Judgement.{instruction, parameters, has_data, lengths, own_rules, refusal}
use Rattle.rules.specs.Judgement.{known_instruction, named_in, judge_named, judge_header, judge_form, judge}
use Rattle.rules.specs.Edge.{Result, refuse, written, answered, command}
use Rattle.rules.specs.Counting.{Call, Command, Delivery, PowerReset, Exchange, step, exchange, exchange_of, next, trace}
use Rattle.rules.specs.Counting.{number, status_word, returned_status, returned_kind, form_sends, sent_by, read_off}
use Rattle.rules.specs.Counting.{is_command, ok_status, wrong_status, queries, verifies, changes, presents_puk, presents}
use Rattle.rules.specs.Counting.{unblocks, answers, wrong_answer, restoration, unblocking, right_verify, changed, hands_signature}
use Rattle.rules.specs.CodeSheet.{asks_about, asks_plainly, blocked_status, query_status, Asked}
use Rattle.rules.specs.Demands.{Uncounted, Queries}
use Rattle.rules.proofs.StatusWords.{status_read, wrong_status_lem, wrong_not_ok}
use Rattle.rules.proofs.Parts.{good_code_lem, good_codes_lem, code_tries}
use Rattle.rules.proofs.Forms.{asked}
use Rattle.rules.proofs.Walks.{queried_walk, verify_walk, command_walk}
use Rattle.rules.proofs.Keeping.{header_walk, verify_code}

-- What a status word tells of a code.
record Told (v : Code) (sw : ℕ) : Type 0 where
  verified : ok_status sw ≡ true → v.verified ≡ true
  unverified : wrong_status sw ≡ true → v.verified ≡ false
  left : wrong_status sw ≡ true → sw ≡ 0x63C0 + v.tries
  blocked : blocked_status sw ≡ true → v.tries ≡ 0
  has_tries_lem : (ok_status sw || wrong_status sw) ≡ true → 1 ≤ v.tries

module _ (v : Code) where
  -- another word tells nothing
  other_word : (sw : ℕ) → ok_status sw ≡ false → wrong_status sw ≡ false → blocked_status sw ≡ false → Told v sw
  other_word sw ok wr bl =
      record { verified = never ok; unverified = never wr; left = never wr; blocked = never bl; has_tries_lem = never (rw (ok, wr)) }

  word_6983 : v.tries ≡ 0 → Told v 0x6983
  unfolding ok_status wrong_status
  word_6983 none =
      record { verified = never refl; unverified = never refl; left = never refl; blocked = λ _. none; has_tries_lem = never refl }

  word_9000 : 1 ≤ v.tries → v.verified ≡ true → Told v 0x9000
  unfolding ok_status wrong_status
  word_9000 some given =
      record { verified = λ _. given; unverified = never refl; left = never refl; blocked = never refl; has_tries_lem = λ _. some }

  word_63_cx : v.tries ≤ 15 → 1 ≤ v.tries → v.verified ≡ false → Told v (0x63C0 + v.tries)
  word_63_cx few some not-given = record {
    verified = never (wrong_not_ok v.tries few);
    unverified = λ _. not-given;
    left = λ _. refl;
    blocked = never (ne_eqb (0x63C0 + v.tries) 0x6983 (omega arith));
    has_tries_lem = λ _. some;
  }

-- The codes and the unblocking counts as they were and a status word alone, which tells what code k is.
record Gives (c : Card) (k : ℕ) (o : Step) : Type 0 where
  word : ℕ
  codes : o.codes ≡ c.codes
  counts : o.counts ≡ c.counts
  answer : o.answer ≡ response [] word
  told : Told (code_of c.codes k) word

-- A VERIFY without data presents a value for no code, and changes and unblocks none.
module _ (h : Header) (verifying : h.ins ≡ 0x20) (without : h.lc ≡ 0) (k : ℕ) where
  pub verifies_nothing : verifies k h ≡ false
  unfolding verifies
  verifies_nothing = rw (without, and-false)

  pub presents_nothing : presents k h ≡ false
  unfolding presents verifies changes presents_puk
  presents_nothing = rw (verifying, without, and-false)

  changes_nothing : changes k h ≡ false
  unfolding changes
  changes_nothing = rw verifying

  pub unblocks_nothing : unblocks k h ≡ false
  unfolding unblocks
  unblocks_nothing = rw verifying

-- A header of a query.
module _ (h : Header) (q : queries h ≡ true) where
  is_verify : eqb h.ins 0x20 ≡ true
  unfolding queries
  is_verify = and_left (eqb h.ins 0x20) (not (has_data h)) q

  ins : h.ins ≡ 0x20
  ins = eqb-true h.ins 0x20 is_verify

  no_data_lem : h.lc ≡ 0
  unfolding queries
  no_data_lem = omega (arith, leb-false 1 h.lc (not-true _ (and_right (eqb h.ins 0x20) _ q)))

  -- What it gives on a card with good codes.
  module _ (c : Card) (g : good_codes c.codes ≡ true) (d auth sig : Bytes) where
    abbrev v : Code
    v = code_of c.codes h.p2

    abbrev G : Step → Type 0
    G = Gives c h.p2

    refused_with_lem : (sw : ℕ) → ok_status sw ≡ false → wrong_status sw ≡ false → blocked_status sw ≡ false → G (refusal c sw)
    refused_with_lem sw ok wr bl = record { word = sw; codes = refl; counts = refl; answer = refl; told = other_word v sw ok wr bl }

    own : (o : Instruction) → h.ins ≡ instruction o → parameters o h.p1 h.p2 ≡ true → G (own_rules o c h d auth sig)
    unfolding own_rules instruction
    own Select e _ = never (rw e) is_verify
    own ReadRecord e _ = never (rw e) is_verify
    own ReadBinary e _ = never (rw e) is_verify
    own GetResponse e _ = never (rw e) is_verify
    own Verify e fits =
        let few : v.tries ≤ 3 = code_tries h.p2 v (good_code_lem c.codes g h.p2 (verify_code h fits)) in
        let T : CodeStep → Type 0 = λ o. G (in_codes c.counts (drop_both c.session) o) in
        verify_walk T c.codes h d
        (λ _. queried_walk T c.codes h.p2
        (λ none. record { word = 0x6983; codes = refl; counts = refl; answer = refl; told = word_6983 v none })
        (λ some given. record { word = 0x9000; codes = refl; counts = refl; answer = refl; told = word_9000 v some given })
        (λ some not-given. record {
          word = 0x63C0 + v.tries;
          codes = refl;
          counts = refl;
          answer = refl;
          told = word_63_cx v (omega arith) some not-given;
        }))
        (λ some. absurd (omega (arith, no_data_lem)))
    own Change e _ = never (rw e) is_verify
    own ResetRetry e _ = never (rw e) is_verify
    own SetEnvironment e _ = never (rw e) is_verify
    own ChooseKey e _ = never (rw e) is_verify
    own InternalAuthenticate e _ = never (rw e) is_verify
    own ComputeSignature e _ = never (rw e) is_verify
    own Decipher e _ = never (rw e) is_verify

    judged_plainly : G (judge_header c h d auth sig)
    unfolding ok_status wrong_status
    judged_plainly =
        header_walk G c h d auth sig (refused_with_lem 0x6E00 refl refl refl) (refused_with_lem 0x6D00 refl refl refl)
        (refused_with_lem 0x6884 refl refl refl) (refused_with_lem 0x6A86 refl refl refl) (refused_with_lem 0x6700 refl refl refl)
        (λ _ o fits _. own o fits.ins fits.parameters)

-- A call that is a query.
module _ (c : Card) (b auth sig w : Bytes) (h : Header) (start : ℕ) (p : parse b ≡ form h start) (q : queries h ≡ true) where
  abbrev x : Call
  x = Command b auth sig w

  record Answers (o : Result) : Type 0 where
    codes : o.card.codes ≡ c.codes
    counts : o.card.counts ≡ c.counts
    kind : returned_kind o.returned ≡ 0
    told : Told (code_of c.codes h.p2) (status_word (exchange_of x o))

  edge_refusal_lem : (n : ℕ) → Answers (refuse c w n)
  unfolding returned_kind returned_status ok_status wrong_status
  edge_refusal_lem n = record { codes = refl; counts = refl; kind = refl; told = other_word _ 0 refl refl refl }

  word_written : (o : Step) → Gives c h.p2 o → Answers (answered w c o)
  unfolding written returned_kind
  word_written o s =
      record {
        codes = rw s.answer s.codes;
        counts = rw s.answer s.counts;
        kind = rw s.answer;
        told = rw (s.answer, status_read w s.word) s.told;
      }

  gives : Answers (command c b auth sig w)
  unfolding judge judge_form
  gives =
      command_walk Answers c b auth sig w edge_refusal_lem
      (λ g _ _. rw p (word_written _ (judged_plainly h q c (good_codes_lem c g) (data_of b start h) auth sig)))

  -- what a query that passes steps 2 to 6 is answered
  module _ (k : ℕ) (few : k < 3) (plain : asks_plainly k h ≡ true) where
    class : h.cla ≡ 0x00
    class = eqb-true _ 0x00 (and_right (asks_about k h) _ (and_left _ (eqb h.p1 0x00) plain))

    first_parameter : h.p1 ≡ 0x00
    first_parameter = eqb-true _ 0x00 (and_right (asks_about k h && eqb h.cla 0x00) _ plain)

    second_parameter : h.p2 ≡ k
    second_parameter =
        eqb-true _ k (and_right (queries h) _ (and_left _ (eqb h.cla 0x00) (and_left _ (eqb h.p1 0x00) plain)))

    plainly_judged : (d : Bytes) → judge_header c h d auth sig ≡ in_codes c.counts (drop_both c.session) (queried c.codes h.p2)
    unfolding judge_header known_instruction instruction named_in parameters judge_named lengths own_rules verify
    plainly_judged d =
        simp (ins h q, class, first_parameter, no_data_lem h q, le-leb h.p2 2 (omega (arith, second_parameter)))

    abbrev A : Result → Type 0
    A o = query_status (status_word (exchange_of x o)) ≡ true

    edge_word : (n : ℕ) → A (refuse c w n)
    unfolding returned_status
    edge_word n = refl

    word_told : (sw : ℕ) → query_status sw ≡ true → A (answered w c (in_codes c.counts (drop_both c.session) (code_status c.codes sw)))
    unfolding written
    word_told sw e = ap query_status (status_read w sw) ∙ e

    query_answered : A (command c b auth sig w)
    unfolding judge judge_form ok_status wrong_status
    query_answered =
        command_walk A c b auth sig w edge_word
        (λ g _ _.
        let t = (code_of c.codes h.p2).tries in
        let low : t ≤ 3 = code_tries h.p2 _ (good_code_lem c.codes (good_codes_lem c g) h.p2 (omega (arith, second_parameter))) in
        rw (p, plainly_judged (data_of b start h))
        (queried_walk (λ o. A (answered w c (in_codes c.counts (drop_both c.session) o))) c.codes h.p2
        (λ _. word_told 0x6983 refl)
        (λ _ _. word_told 0x9000 refl)
        (λ _ _. word_told (0x63C0 + t) (simp (wrong_status_lem t (omega arith), or-true)))))

  -- a test that a query does not pass adds nothing
  adds_nothing : (t : Exchange → Bool) → t (exchange c x) ≡ false → (calls : List Call)
      → number t (trace c (x ∷ calls)) ≡ number t (trace (next c x) calls)
  adds_nothing t e calls = rw e (omega arith)

  uncounted : Uncounted c x
  unfolding step
  uncounted =
      let tested = asked b auth sig w p in
      let presented-none = presents_nothing h (ins h q) (no_data_lem h q) in
      record {
        codes = gives.codes;
        counts = gives.counts;
        wrong = λ k. adds_nothing (wrong_answer k) (rw (tested (presents k), presented-none k, and-false));
        restored = λ k. adds_nothing (restoration k) (rw (tested (presents k), presented-none k, and-false));
        unblocked = λ k. adds_nothing (unblocking k) (rw (tested (unblocks k), unblocks_nothing h (ins h q) (no_data_lem h q) k, and-false));
        presented = adds_nothing (right_verify PIN2) (rw (tested (verifies PIN2), verifies_nothing h (ins h q) (no_data_lem h q) PIN2, and-false));
        changed = adds_nothing (changed _) (rw (tested (changes _), changes_nothing h (ins h q) (no_data_lem h q) _, and-false));
        signed = adds_nothing hands_signature (rw gives.kind);
      }

  -- the row of the sheet for code k
  module _ (k : ℕ) (few : k < 3) where
    abbrev E : Exchange
    E = exchange_of x (command c b auth sig w)

    about : (st : ℕ → Bool) → answers st (asks_about k) E ≡ true → h.p2 ≡ k
    about st e = eqb-true h.p2 k (and_right (queries h) _ (sym (asked b auth sig w p (asks_about k)) ∙ and_right (st (status_word E)) _ e))

    asked_row : Asked k c x (command c b auth sig w)
    asked_row = record {
      codes = λ _. gives.codes;
      no_job = λ _. gives.kind;
      answered = λ e. query_answered k few (sym (asked b auth sig w p (asks_plainly k)) ∙ e);
      verified = λ e. rw (← about ok_status e) (gives.told.verified (and_left _ _ e));
      unverified = λ e. rw (← about wrong_status e) (gives.told.unverified (and_left _ _ e));
      left = λ e. rw (← about wrong_status e) (gives.told.left (and_left _ _ e));
      blocked = λ e. rw (← about blocked_status e) (gives.told.blocked (and_left _ _ e));
      has_tries = λ e. rw (← about (λ sw. ok_status sw || wrong_status sw) e) (gives.told.has_tries_lem (and_left _ _ e));
    }

-- A call that is no query: the row says nothing of it.
unasked : (k : ℕ) (c : Card) (y : Call) (o : Result) → is_command queries y ≡ false → is_command (asks_about k) y ≡ false → is_command (asks_plainly k) y ≡ false → Asked k c y o
unasked k c y o none_at_all none not_plain = record {
  codes = never none_at_all;
  no_job = never none_at_all;
  answered = never not_plain;
  verified = never (rw (none, and-false));
  unverified = never (rw (none, and-false));
  left = never (rw (none, and-false));
  blocked = never (rw (none, and-false));
  has_tries = never (rw (none, and-false));
}

module _ (c : Card) (b auth sig w : Bytes) where
  query_command : (f : LengthForm) → parse b ≡ f → read_off (λ h d. queries h) false (form_sends b f) ≡ true → Uncounted c (Command b auth sig w)
  unfolding form_sends read_off
  query_command (form h start) p q = uncounted c b auth sig w h start p q
  query_command (refused sw) p q = never refl q

  asked_command : (k : ℕ) → k < 3 → (f : LengthForm) → parse b ≡ f → Asked k c (Command b auth sig w) (command c b auth sig w)
  unfolding sent_by form_sends read_off
  asked_command k few (form h start) p =
      by_test _ (queries h) (λ q. asked_row c b auth sig w h start p q k few)
      (λ n. unasked k c _ _ (rw (p, n)) (rw (p, n)) (rw (p, n)))
  asked_command k few (refused sw) p = unasked k c _ _ (rw p) (rw p) (rw p)

pub queries_uncounted : Queries
unfolding sent_by read_off
queries_uncounted c (Command b auth sig w) q = query_command c b auth sig w (parse b) refl q
queries_uncounted c (Delivery r w) q = never refl q
queries_uncounted c PowerReset q = never refl q

pub asked_about : (k : ℕ) → k < 3 → (c : Card) (x : Call) → Asked k c x (step c x)
unfolding step sent_by read_off
asked_about k few c (Command b auth sig w) = asked_command c b auth sig w k few (parse b) refl
asked_about k few c (Delivery r w) = unasked k c _ _ refl refl refl
asked_about k few c PowerReset = unasked k c _ _ refl refl refl
