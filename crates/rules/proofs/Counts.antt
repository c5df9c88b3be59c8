-- What moves a PIN's unblocking count: the sheet's column holds of every call on every card. And the sheet, whole.
use mathlib.Core.Path.{◌≡◌, refl, ap, ◌∙◌}
use mathlib.Core.Bool.{true, false, not, cond, ◌&&◌, ◌||◌, and-false, and-true}
use mathlib.Core.List.{List, []}
use Prim.Native.Nat.{ℕ, ◌-◌, ◌≤◌, ◌<◌}
use native.Mathlib.Omega.{arith}
use lib.Dec.{eqb, leb}
use lib.Seq.{get_or-set_same, get_or-set_other}
use borrow.Author.Tests.{eqb-true, eq-eqb, ne_eqb, le-leb}
use Rattle.octets.specs.Octets.{Bytes}
use Rattle.octets.proofs.Tests.{split, either, and_left, and_right, never}
use Rattle.rules.specs.declared.Card.{Card}
use Rattle.rules.specs.declared.Code.{Code}
use Rattle.rules.specs.declared.CodeStep.{CodeStep}
use Rattle.rules.specs.declared.Command.{Command as Instruction}
use Rattle.rules.specs.declared.Command.TheVariants.{Select, ReadRecord, ReadBinary, GetResponse, Verify, Change}
use Rattle.rules.specs.declared.Command.TheVariants.{ResetRetry, SetEnvironment, ChooseKey, InternalAuthenticate}
use Rattle.rules.specs.declared.Command.TheVariants.{ComputeSignature, Decipher}
use Rattle.rules.specs.declared.Header.{Header}
use Rattle.rules.specs.Numbers.{Returned, LengthForm, form, refused}
use Rattle.rules.specs.Codes.{code_of, count_of, with_count, lowered}
use Rattle.rules.specs.Apdu.{parse, data_of}
use Rattle.rules.specs.Session.{drop_both}
use Rattle.rules.specs.State.{good, good_counts}
use Rattle.rules.specs.Answers.{Answer, response, job, Step, code_status, in_codes}
use Rattle.rules.specs.CodeCommands.{reset_retry, counts_left}
use Rattle.rules.specs.Judgement.{instruction, parameters, lengths, own_rules, refusal, known_instruction, named_in, judge_named}
use Rattle.rules.specs.Judgement.{judge_header, judge_form, judge}
use Rattle.rules.specs.Edge.{Result, refuse, written, answered, command, power_reset}
use Rattle.rules.specs.Counting.{Call, Command, Delivery, PowerReset, step, exchange, exchange_of, status_word, returned_status}
use Rattle.rules.specs.Counting.{form_sends, sent_by, read_off, is_command, ok_status, unblocks, unblocking}
use Rattle.rules.specs.CodeSheet.{CodeSheet, CountColumn, unblocks_plainly, used_up_status}
use Rattle.rules.proofs.StatusWords.{status_read}
use Rattle.rules.proofs.Parts.{good_counts_lem, two_counts}
use Rattle.rules.proofs.Walks.{sign_walk, reset_retry_walk, command_walk, delivery_walk}
use Rattle.rules.proofs.Forms.{refusal_6700, asked}
use Rattle.rules.proofs.Keeping.{header_walk, reset_code}
use Rattle.rules.proofs.Queries.{asked_about}
use Rattle.rules.proofs.Sheet.{unblocks_no, code_after}

-- Where all codes and counts are as they were and the call unblocked nothing, the column holds.
unmoved : (k : ℕ) (c : Card) (x : Call) (o : Result) → o.card.counts ≡ c.counts → unblocking k (exchange_of x o) ≡ false
    → (is_command (unblocks k) x ≡ true → o.card.codes ≡ c.codes) → CountColumn k c x o
unmoved k c x o same none codes = record {
  count = rw none (ap (λ (l : List ℕ). count_of l k) same);
  not_at_zero = never none;
  codes_stay = λ e _. codes e;
}

module _ (k : ℕ) (c : Card) (x : Call) (w : Bytes) where
  card_written : (c' : Card) (a : Answer) → (written w c' a).card ≡ c'
  unfolding written
  card_written c' (response d sw) = refl
  card_written c' (job kind key block) = refl

  word_told : (c' : Card) (sw : ℕ) → status_word (exchange_of x (written w c' (response [] sw))) ≡ sw
  unfolding written
  word_told c' sw = status_read w sw

  -- a call that is no 2C for PIN k, and leaves the counts
  other_call : (c' : Card) (a : Answer) → c'.counts ≡ c.counts → is_command (unblocks k) x ≡ false → CountColumn k c x (written w c' a)
  other_call c' a e u =
      unmoved k c x (written w c' a) (ap (λ (d : Card). d.counts) (card_written c' a) ∙ e) (rw (u, and-false)) (never u)

  -- a status word that is not 9000, codes and counts as they were
  refused_word : (c' : Card) (sw : ℕ) → c'.codes ≡ c.codes → c'.counts ≡ c.counts → ok_status sw ≡ false
      → CountColumn k c x (written w c' (response [] sw))
  unfolding written
  refused_word c' sw codes counts n = unmoved k c x _ counts (rw (ap ok_status (word_told c' sw) ∙ n)) (λ _. codes)

  edge_refusal_lem : (n : ℕ) → CountColumn k c x (refuse c w n)
  unfolding returned_status ok_status
  edge_refusal_lem n = unmoved k c x _ refl refl (λ _. refl)

-- The count of PIN k after that of a PIN was lowered.
module _ (counts : List ℕ) (g : good_counts counts ≡ true) (pin k : ℕ) (p1 : 1 ≤ pin) (p3 : pin < 3) (k1 : 1 ≤ k) where
  lowered_there : count_of (with_count counts pin (lowered (count_of counts pin))) k
      ≡ cond (eqb pin k) (lowered (count_of counts k)) (count_of counts k)
  lowered_there =
      either _ pin k
      (λ e. rw (eq-eqb pin k e, ← e) (get_or-set_same counts (pin - 1) _ 0 (omega (arith, two_counts counts g))))
      (λ n. rw (ne_eqb pin k n) (get_or-set_other counts (pin - 1) (k - 1) _ 0 (omega arith)))

  count_after_lem : (sw : ℕ) → count_of (counts_left counts pin sw) k ≡ cond (ok_status sw && eqb pin k) (lowered (count_of counts k)) (count_of counts k)
  unfolding counts_left ok_status
  count_after_lem sw =
      split (λ (l : List ℕ). count_of l k ≡ cond (eqb sw 0x9000 && eqb pin k) (lowered (count_of counts k)) (count_of counts k)) (eqb sw 0x9000)
      (λ e. rw e lowered_there) (λ e. rw e)

-- RESET RETRY answered 9000 had a count to lower; where there was none it left the codes.
reset_limited : (codes : List Code) (counts : List ℕ) (h : Header) (d : Bytes) → ok_status (reset_retry codes counts h d).sw ≡ true
    → 1 ≤ count_of counts h.p2
unfolding ok_status
reset_limited codes counts h d =
    reset_retry_walk (λ o. ok_status o.sw ≡ true → 1 ≤ count_of counts h.p2) codes counts h d (never refl) (never refl)
    (λ _ some _ _. some) (λ _ some _ _. some)

reset_codes_stay : (codes : List Code) (counts : List ℕ) (h : Header) (d : Bytes) → count_of counts h.p2 ≡ 0 → (reset_retry codes counts h d).codes ≡ codes
reset_codes_stay codes counts h d =
    reset_retry_walk (λ o. count_of counts h.p2 ≡ 0 → o.codes ≡ codes) codes counts h d (λ _. refl) (λ _. refl)
    (λ _ some _ none. absurd (omega arith)) (λ _ some _ none. absurd (omega arith))

-- A command in a length form, on a card with good counts.
module _ (k : ℕ) (low : 1 ≤ k) (c : Card) (g : good_counts c.counts ≡ true) (b auth sig w : Bytes) (h : Header) (start : ℕ)
    (p : parse b ≡ form h start) where
  abbrev x : Call
  x = Command b auth sig w

  abbrev d : Bytes
  d = data_of b start h

  abbrev S : Step → Type 0
  S o = CountColumn k c x (answered w c o)

  refused_header : (sw : ℕ) → ok_status sw ≡ false → S (refusal c sw)
  refused_header sw n = refused_word k c x w _ sw refl refl n

  -- a command of another instruction
  kept : eqb h.ins 0x2C ≡ false → (o : Step) → o.counts ≡ c.counts → S o
  kept n o e = other_call k c x w _ o.answer e (asked b auth sig w p (unblocks k) ∙ unblocks_no k h n)

  -- 2C RESET RETRY
  module _ (i : h.ins ≡ 0x2C) (q : (eqb h.p1 0x00 || eqb h.p1 0x03) ≡ true) (p1 : 1 ≤ h.p2) (p3 : h.p2 < 3) where
    names_pin : is_command (unblocks k) x ≡ eqb h.p2 k
    unfolding unblocks
    names_pin = asked b auth sig w p (unblocks k) ∙ simp (i, q, le-leb 1 k low, and-true)

    reset_column : S (own_rules ResetRetry c h d auth sig)
    unfolding own_rules written
    reset_column =
        let o : CodeStep = reset_retry c.codes c.counts h d in
        let n : List ℕ = counts_left c.counts h.p2 o.sw in
        let c' : Card = record { codes = o.codes; counts = n; profile = c.profile; session = drop_both c.session } in
        let tested : unblocking k (exchange_of x (written w c' (response [] o.sw))) ≡ (ok_status o.sw && eqb h.p2 k) =
        rw (word_told k c x w c' o.sw, names_pin) in
        let this : (ok_status o.sw && eqb h.p2 k) ≡ true → h.p2 ≡ k = λ e. eqb-true _ _ (and_right (ok_status o.sw) _ e) in
        record {
          count = rw tested (count_after_lem c.counts g h.p2 k p1 p3 low o.sw);
          not_at_zero = λ e. let f = rw tested at e in rw (← this f) (reset_limited c.codes c.counts h d (and_left _ _ f));
          codes_stay = λ e none. reset_codes_stay c.codes c.counts h d (rw (eqb-true h.p2 k (rw names_pin at e)) none);
        }

  own_column : (o : Instruction) → h.ins ≡ instruction o → parameters o h.p1 h.p2 ≡ true → S (own_rules o c h d auth sig)
  unfolding instruction
  own_column Select i q = unfold own_rules in kept (rw i) _ refl
  own_column ReadRecord i q = unfold own_rules in kept (rw i) _ refl
  own_column ReadBinary i q = unfold own_rules in kept (rw i) _ refl
  own_column GetResponse i q = unfold own_rules in kept (rw i) _ refl
  own_column Verify i q = unfold own_rules in kept (rw i) _ refl
  own_column Change i q = unfold own_rules in kept (rw i) _ refl
  own_column ResetRetry i q =
      reset_column i (unfold parameters in and_left (eqb h.p1 0x00 || eqb h.p1 0x03) (leb 1 h.p2 && leb h.p2 2) q)
      (reset_code h q).0 (reset_code h q).1
  own_column SetEnvironment i q = unfold own_rules in kept (rw i) _ refl
  own_column ChooseKey i q = unfold own_rules in kept (rw i) _ refl
  own_column InternalAuthenticate i q = unfold own_rules in kept (rw i) _ refl
  own_column ComputeSignature i q =
      unfold own_rules in
      kept (rw i) _ (sign_walk (λ o. o.counts ≡ c.counts) c.codes c.counts c.profile.references (drop_both c.session) h d
      (λ _ _. refl) (λ _ _. refl))
  own_column Decipher i q = unfold own_rules in kept (rw i) _ refl

  header_column : S (judge_header c h d auth sig)
  unfolding ok_status
  header_column =
      header_walk S c h d auth sig (refused_header 0x6E00 refl) (refused_header 0x6D00 refl) (refused_header 0x6884 refl)
      (refused_header 0x6A86 refl) (refused_header 0x6700 refl) (λ _ o fits _. own_column o fits.ins fits.parameters)

module _ (k : ℕ) (low : 1 ≤ k) (c : Card) (b auth sig w : Bytes) where
  form_column : good c ≡ true → (f : LengthForm) → parse b ≡ f → CountColumn k c (Command b auth sig w) (answered w c (judge_form c b f auth sig))
  unfolding judge_form ok_status
  form_column g (refused sw) p = refused_word k c (Command b auth sig w) w _ sw refl refl (rw (refusal_6700 b sw p))
  form_column g (form h start) p = header_column k low c (good_counts_lem c g) b auth sig w h start p

  command_column : CountColumn k c (Command b auth sig w) (command c b auth sig w)
  unfolding judge
  command_column =
      let x : Call = Command b auth sig w in
      command_walk (CountColumn k c x) c b auth sig w (edge_refusal_lem k c x w) (λ g _ _. form_column g (parse b) refl)

-- The count of a PIN, after every call on every card.
pub count_column : (k : ℕ) → 1 ≤ k → (c : Card) (x : Call) → CountColumn k c x (step c x)
unfolding step sent_by read_off
count_column k low c (Command b auth sig w) = command_column k low c b auth sig w
count_column k low c (Delivery r w) =
    delivery_walk (CountColumn k c (Delivery r w)) c r w (edge_refusal_lem k c (Delivery r w) w)
    (λ _ _. other_call k c (Delivery r w) w _ _ refl refl)
count_column k low c PowerReset =
    unfold power_reset returned_status ok_status in
    split (λ (o : Returned × Card). CountColumn k c PowerReset (record { returned = o.0; card = o.1; buffer = [] })) (not (good c))
    (λ _. edge_refusal_lem k c PowerReset [] 1)
    (λ _. unmoved k c PowerReset _ refl refl (never refl))

-- A 2C for a blocked PIN whose count is 0, which steps 2 to 6 let pass.
module _ (k : ℕ) (low : 1 ≤ k) (high : k < 3) (c : Card) (b auth sig w : Bytes) (h : Header) (start : ℕ) (p : parse b ≡ form h start)
    (plain : unblocks_plainly k h ≡ true) (blocked : (code_of c.codes k).tries ≡ 0) (zero : count_of c.counts k ≡ 0) where
  unblocking_it : unblocks k h ≡ true
  unblocking_it = and_left _ _ (and_left _ (lengths ResetRetry h) plain)

  class : h.cla ≡ 0x00
  class = eqb-true _ _ (and_right (unblocks k h) _ (and_left _ (lengths ResetRetry h) plain))

  judged_so : (d : Bytes) → judge_header c h d auth sig ≡ in_codes c.counts (drop_both c.session) (code_status c.codes 0x6983)
  unfolding judge_header known_instruction instruction named_in parameters judge_named own_rules reset_retry counts_left unblocks
  judged_so d =
      let first : (eqb h.ins 0x2C && (eqb h.p1 0x00 || eqb h.p1 0x03) && eqb h.p2 k) ≡ true = and_left _ (leb 1 k) unblocking_it in
      let second : (eqb h.ins 0x2C && (eqb h.p1 0x00 || eqb h.p1 0x03)) ≡ true = and_left _ (eqb h.p2 k) first in
      simp (
        eqb-true h.ins 0x2C (and_left _ _ second),
        class,
        and_right (eqb h.ins 0x2C) _ second,
        eqb-true h.p2 k (and_right (eqb h.ins 0x2C && (eqb h.p1 0x00 || eqb h.p1 0x03)) _ first),
        le-leb 1 k low,
        le-leb k 2 (omega arith),
        and_right (unblocks k h && eqb h.cla 0x00) (lengths ResetRetry h) plain,
        eq-eqb (code_of c.codes k).tries 0 blocked,
        eq-eqb (count_of c.counts k) 0 zero,
      )

  used_up_form : used_up_status (status_word (exchange c (Command b auth sig w))) ≡ true
  unfolding step judge judge_form written returned_status
  used_up_form =
      command_walk (λ o. used_up_status (status_word (exchange_of (Command b auth sig w) o)) ≡ true) c b auth sig w (λ _. refl)
      (λ _ _ _. rw (p, judged_so (data_of b start h)) (ap used_up_status (status_read w 0x6983)))

used_up_lem : (k : ℕ) → 1 ≤ k → k < 3 → (c : Card) (x : Call) → is_command (unblocks_plainly k) x ≡ true
    → (code_of c.codes k).tries ≡ 0 → count_of c.counts k ≡ 0 → used_up_status (status_word (exchange c x)) ≡ true
unfolding sent_by read_off
used_up_lem k low high c (Command b auth sig w) e blocked zero = in_form (parse b) refl e
  where
    in_form : (f : LengthForm) → parse b ≡ f → read_off (λ h d. unblocks_plainly k h) false (form_sends b f) ≡ true
        → used_up_status (status_word (exchange c (Command b auth sig w))) ≡ true
    in_form (form h start) p plain = used_up_form k low high c b auth sig w h start p (unfold form_sends read_off in plain) blocked zero
    in_form (refused sw) p plain = never refl (unfold form_sends read_off in plain)
used_up_lem k low high c (Delivery r w) e blocked zero = never refl e
used_up_lem k low high c PowerReset e blocked zero = never refl e

-- The sheet.
pub code_sheet : CodeSheet
code_sheet = record { after = code_after; counted = λ k low _. count_column k low; used_up = used_up_lem; asked = asked_about }
