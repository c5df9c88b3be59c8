-- The bounds of demand 3 are met: calls with r restorations, u unblockings and 3 + 2r + 3u wrong answers of one code; calls with u unblockings
-- of a PIN. In both u is within the PIN's unblocking count.
use mathlib.Core.Path.{◌≡◌, refl, ap, ◌∙◌}
use mathlib.Core.Logic.{◌≢◌}
use mathlib.Core.Bool.{Bool, true, false, ◌&&◌, or-false, and-false}
use mathlib.Core.List.{List, [], ◌∷◌, ◌++◌}
use Prim.Native.Nat.{ℕ, zero, suc, ◌+◌, ◌-◌, ◌*◌, ◌≤◌, ◌<◌}
use native.Mathlib.Omega.{arith}
use lib.Dec.{eqb}
use lib.ListN.{length, replicate, length-set}
use lib.Seq.{take-length, get_or-set_same}
use borrow.Author.Tests.{eqb-true, eqb-false, eq-eqb, ne_eqb, lt-ltb, le-leb}
use Rattle.octets.specs.Octets.{Bytes, all_digits, all_bytes}
use Rattle.octets.proofs.Tests.{split, either, and_left, and_right}
use Rattle.octets.proofs.Strings.{same_refl}
use Rattle.octets.proofs.Words.{digits_bytes, unlike_length}
use Rattle.rules.specs.declared.Card.{Card}
use Rattle.rules.specs.declared.Code.{Code}
use Rattle.rules.specs.declared.Header.{Header}
use Rattle.rules.specs.Numbers.{form}
use Rattle.rules.specs.Codes.{PUK, full_tries, value, marked, code_of, with_code, no_limit, count_of, with_count, lowered}
use Rattle.rules.specs.Session.{drop_both}
use Rattle.rules.specs.State.{good_code, good}
use Rattle.rules.specs.Apdu.{data_start, parse, data_of}
use Rattle.rules.specs.Answers.{response, code_status, in_codes}
use Rattle.rules.specs.CodeCommands.{verdict, judged, verify, unblocked, unblock_by_verified_puk, reset_retry, counts_left}
use Rattle.rules.specs.Judgement.{instruction, parameters, lengths, own_rules, known_instruction, named_in}
use Rattle.rules.specs.Judgement.{judge_named, judge_header, judge_form, judge}
use Rattle.rules.specs.Edge.{written, short_buffer, command}
use Rattle.rules.specs.Counting.{Call, Command, Exchange, step, next, exchange, after, trace, returned_status}
use Rattle.rules.specs.Counting.{form_sends, sent_by, read_off, wrong_status, ok_status, verifies, changes, presents_puk}
use Rattle.rules.specs.Counting.{unblocks, presents, answers, wrong_answer, restoration, unblocking, one, number}
use Rattle.rules.specs.Counting.{of_bytes, all_of_bytes}
use Rattle.rules.specs.Demands.{Reached, Within, UnblockedTimes}
use Rattle.rules.proofs.StatusWords.{status_read, wrong_status_lem, wrong_not_ok}
use Rattle.rules.proofs.Parts.{code_most, code_least, code_digits, code_tries, code_length, least_some, good_code_lem}
use Rattle.rules.proofs.Parts.{good_codes_lem, good_counts_lem, two_counts, code_place, code_same, code_other}

-- A sequence made of two.
after_append : (c : Card) (xs ys : List Call) → after c (xs ++ ys) ≡ after (after c xs) ys
after_append c [] ys = refl
after_append c (x ∷ xs) ys = after_append (next c x) xs ys

number_append : (test : Exchange → Bool) (c : Card) (xs ys : List Call)
    → number test (trace c (xs ++ ys)) ≡ number test (trace c xs) + number test (trace (after c xs) ys)
number_append test c [] ys = omega arith
number_append test c (x ∷ xs) ys = omega (arith, number_append test (next c x) xs ys)

bytes_append : (xs ys : List Call) → all_of_bytes xs ≡ true → all_of_bytes ys ≡ true → all_of_bytes (xs ++ ys) ≡ true
bytes_append [] ys p q = q
bytes_append (x ∷ xs) ys p q = rw (and_left (of_bytes x) (all_of_bytes xs) p) (bytes_append xs ys (and_right (of_bytes x) (all_of_bytes xs) p) q)

-- Calls with so many restorations, unblockings and wrong answers of code k, which lead from c to a card of which P holds.
record Run (k : ℕ) (c : Card) (P : Card → Type 0) (r u w : ℕ) : Type 0 where
  reached : Reached c k r u w
  leads : P (after c reached.calls)

-- No call.
stay : {k : ℕ} {c : Card} {P : Card → Type 0} → P c → Run k c P 0 0 0
stay p = record { reached = record { calls = []; of_bytes = refl; restored = refl; unblocked = refl; wrong = refl }; leads = p }

-- A run, and then another.
then : {k : ℕ} {c : Card} {P Q : Card → Type 0} {r u w r' u' w' : ℕ}
    → Run k c P r u w → ((d : Card) → P d → Run k d Q r' u' w') → Run k c Q (r + r') (u + u') (w + w')
then {k} {c} p f =
    let first = p.reached in
    let q = f (after c first.calls) p.leads in
    let second = q.reached in
    record {
      reached =
          record {
            calls = first.calls ++ second.calls;
            of_bytes = bytes_append first.calls second.calls first.of_bytes second.of_bytes;
            restored = omega (arith, number_append (restoration k) c first.calls second.calls, first.restored, second.restored);
            unblocked = omega (arith, number_append (unblocking k) c first.calls second.calls, first.unblocked, second.unblocked);
            wrong = omega (arith, number_append (wrong_answer k) c first.calls second.calls, first.wrong, second.wrong);
          };
      leads = rw (after_append c first.calls second.calls) q.leads;
    }

-- The same run, its counts written in another way.
recount : {k : ℕ} {c : Card} {P : Card → Type 0} {r u w r' u' w' : ℕ} → r ≡ r' → u ≡ u' → w ≡ w' → Run k c P r u w → Run k c P r' u' w'
recount restored unblocked wrong p =
    let x = p.reached in
    record {
      reached =
          record {
            calls = x.calls;
            of_bytes = x.of_bytes;
            restored = x.restored ∙ restored;
            unblocked = x.unblocked ∙ unblocked;
            wrong = x.wrong ∙ wrong;
          };
      leads = p.leads;
    }

-- A command with certificates and a buffer that the edge takes.
pub buffer : Bytes
buffer = replicate 258 0

abbrev pub certificate : Bytes
certificate = 0x30 ∷ []

abbrev pub sent : Bytes → Call
sent apdu = Command apdu certificate certificate buffer

pub sent_bytes : (apdu : Bytes) → all_bytes apdu ≡ true → of_bytes (sent apdu) ≡ true
unfolding buffer
sent_bytes apdu e = rw e

pub buffer_taken : short_buffer buffer ≡ false
unfolding buffer
buffer_taken = refl

-- The card after a command that gave it other codes and other unblocking counts.
abbrev with_both : Card → List Code → List ℕ → Card
with_both c codes counts = record { codes = codes; counts = counts; profile = c.profile; session = drop_both c.session }

-- A VERIFY (20) or a CHANGE (24) of code j with the data d.
abbrev pub data_apdu : ℕ → ℕ → Bytes → Bytes
data_apdu ins j d = 0x00 ∷ ins ∷ 0x00 ∷ j ∷ length d ∷ d

abbrev pub data_header : ℕ → ℕ → Bytes → Header
data_header ins j d = record { cla = 0x00; ins = ins; p1 = 0x00; p2 = j; lc = length d; le = 0 }

module _ (ins j : ℕ) (d : Bytes) where
  pub data_form : 1 ≤ length d → parse (data_apdu ins j d) ≡ form (data_header ins j d) data_start
  unfolding parse
  data_form some =
      simp (
        ne_eqb (length (data_apdu ins j d)) 4 (omega arith),
        ne_eqb (length (data_apdu ins j d)) 5 (omega arith),
        le-leb 1 (length d) some,
        eq-eqb (length (data_apdu ins j d)) (5 + length d) (omega arith),
      )

  pub data_bytes : ins < 256 → j < 3 → length d < 256 → all_bytes d ≡ true → all_bytes (data_apdu ins j d) ≡ true
  data_bytes i h short e = simp (lt-ltb ins 256 i, lt-ltb j 256 (omega arith), lt-ltb (length d) 256 short, e)

-- A VERIFY.
abbrev verify_apdu : ℕ → Bytes → Bytes
verify_apdu = data_apdu 0x20

abbrev verify_header : ℕ → Bytes → Header
verify_header = data_header 0x20

-- The codes after it, where the data are the right value.
abbrev pub after_verify : List Code → ℕ → List Code
after_verify codes j = with_code codes j (marked (code_of codes j) full_tries true)

module _ (j : ℕ) (d : Bytes) (some : 1 ≤ length d) where
  pub verify_judged : (c : Card) → j < 3 → judge_header c (verify_header j d) (data_of (verify_apdu j d) data_start (verify_header j d)) certificate certificate
      ≡ in_codes c.counts (drop_both c.session) (judged c.codes j (verdict (code_of c.codes j) d))
  unfolding judge_header known_instruction instruction named_in parameters judge_named lengths own_rules verify
  verify_judged c h = simp (le-leb j 2 (omega arith), ne_eqb (length d) 0 (omega arith), take-length d)

  -- it presents code j and no other, and unblocks nothing
  verify_presents : (k : ℕ) → presents k (verify_header j d) ≡ eqb j k
  unfolding presents verifies changes presents_puk
  verify_presents k = simp (le-leb 1 (length d) some, and-false, or-false)

  verify_no_unblocking : (k : ℕ) → unblocks k (verify_header j d) ≡ false
  unfolding unblocks
  verify_no_unblocking k = refl

-- The right value of code j is judged right.
pub right_judged : (codes : List Code) (j : ℕ) → 1 ≤ (code_of codes j).tries
    → judged codes j (verdict (code_of codes j) (value (code_of codes j))) ≡ code_status (after_verify codes j) 0x9000
unfolding verdict judged
right_judged codes j some = simp (ne_eqb (code_of codes j).tries 0 (omega arith), same_refl (value (code_of codes j)))

-- The command 00 2C 03 k, which unblocks PIN k once PUK is verified.
abbrev unblock_apdu : ℕ → Bytes
unblock_apdu k = 0x00 ∷ 0x2C ∷ 0x03 ∷ k ∷ []

abbrev unblock_header : ℕ → Header
unblock_header k = record { cla = 0x00; ins = 0x2C; p1 = 0x03; p2 = k; lc = 0; le = 0 }

unblock_form : (k : ℕ) → parse (unblock_apdu k) ≡ form (unblock_header k) data_start
unfolding parse
unblock_form k = refl

-- The codes after it.
abbrev after_unblock : List Code → ℕ → List Code
after_unblock codes k = unblocked codes k (code_of codes k) (code_of codes PUK).tries

-- The unblocking counts after it.
abbrev counts_lowered : List ℕ → ℕ → List ℕ
counts_lowered counts k = with_count counts k (lowered (count_of counts k))

unblock_judged : (k : ℕ) (c : Card) → 1 ≤ k → k < 3 → (code_of c.codes k).tries ≡ 0 → 1 ≤ count_of c.counts k
    → (code_of c.codes PUK).verified ≡ true
    → judge_header c (unblock_header k) (data_of (unblock_apdu k) data_start (unblock_header k)) certificate certificate
    ≡ in_codes (counts_lowered c.counts k) (drop_both c.session) (code_status (after_unblock c.codes k) 0x9000)
unfolding judge_header known_instruction instruction named_in parameters judge_named lengths own_rules reset_retry counts_left unblock_by_verified_puk
unblock_judged k c low high none some verified =
    simp (
      le-leb 1 k low,
      le-leb k 2 (omega arith),
      eq-eqb (code_of c.codes k).tries 0 none,
      ne_eqb (count_of c.counts k) 0 (omega arith),
      verified,
    )

unblock_no_presentation : (k : ℕ) → presents k (unblock_header k) ≡ false
unfolding presents verifies changes presents_puk
unblock_no_presentation k = and-false (eqb k PUK)

unblock_unblocks : (k : ℕ) → 1 ≤ k → unblocks k (unblock_header k) ≡ true
unfolding unblocks
unblock_unblocks k low = simp (eq-eqb k k refl, le-leb 1 k low)

-- The length of a good code's value.
module _ (k : ℕ) (v : Code) (g : good_code k v ≡ true) where
  pub value_least : 4 ≤ length (value v)
  value_least = omega (arith, code_length k v g, code_least k v g, least_some k)

  pub value_most : length (value v) ≤ 12
  value_most = omega (arith, code_length k v g, code_most k v g)

-- The tries left after one code was replaced.
module _ (codes : List Code) (j : ℕ) (v : Code) (place : j < length codes) where
  tries_same : (code_of (with_code codes j v) j).tries ≡ v.tries
  tries_same = ap (λ (v : Code). v.tries) (code_same codes j v place)

  tries_other : (k : ℕ) → k ≢ j → (code_of (with_code codes j v) k).tries ≡ (code_of codes k).tries
  tries_other k n = ap (λ (v : Code). v.tries) (code_other codes j v place k n)

-- A good card without a job, on which code k and PUK have three tries.
pub record Ready (k : ℕ) (c : Card) : Type 0 where
  pub is_good : good c ≡ true
  pub no_job : c.session.job.kind ≡ 0
  pub left : (code_of c.codes k).tries ≡ 3
  pub puk : (code_of c.codes PUK).tries ≡ 3

-- A good card without a job, on which PUK has a try left.
pub record Unblockable (c : Card) : Type 0 where
  pub is_good : good c ≡ true
  pub no_job : c.session.job.kind ≡ 0
  pub puk : 1 ≤ (code_of c.codes PUK).tries

-- A good card without a job, on which code k has n tries left, and PUK three where it is another code. A PIN's unblocking count is a.
record TriesLeft (k a n : ℕ) (c : Card) : Type 0 where
  is_good : good c ≡ true
  no_job : c.session.job.kind ≡ 0
  left : (code_of c.codes k).tries ≡ n
  puk : PUK ≢ k → (code_of c.codes PUK).tries ≡ 3
  count : count_of c.counts k ≡ a

-- Such a card, of which code k was replaced by one of m tries.
replaced : (k a n m : ℕ) (c : Card) (v : Code) → TriesLeft k a n c → k < length c.codes → v.tries ≡ m
    → good (with_both c (with_code c.codes k v) c.counts) ≡ true → TriesLeft k a m (with_both c (with_code c.codes k v) c.counts)
replaced k a n m c v before place e g =
    record {
      is_good = g;
      no_job = before.no_job;
      left = tries_same c.codes k v place ∙ e;
      puk = λ other. tries_other c.codes k v place PUK other ∙ before.puk other;
      count = before.count;
    }

-- A card on which code k has no tries left, and PUK is verified.
record PukVerified (k a : ℕ) (c : Card) : Type 0 where
  blocked : TriesLeft k a 0 c
  shown : (code_of c.codes PUK).verified ≡ true

-- A PIN's count within which there is one unblocking more: it is not 0, and after one it has room for the others.
within_some : (a u : ℕ) → Within a (suc u) → 1 ≤ a
within_some a u limit = either _ a no_limit (λ e. omega (arith, e)) (λ n. omega (arith, limit n))

within_less : (a u : ℕ) → Within a (suc u) → Within (lowered a) u
unfolding lowered
within_less a u limit =
    split (λ m. Within m u) (eqb a no_limit) (λ e n. absurd (n (eqb-true _ _ e))) (λ e _. omega (arith, limit (eqb-false _ _ e)))

-- A count after u unblockings.
unfoldable after_lowerings : ℕ → ℕ → ℕ
after_lowerings zero a = a
after_lowerings (suc u) a = after_lowerings u (lowered a)

-- Let calls of bytes keep a card good.
module _ (kept : (c : Card) (x : Call) → of_bytes x ≡ true → good c ≡ true → good (next c x) ≡ true) where
  -- A command with header h, which a good card without a job answers by a status word, and so gets other codes.
  module _ (c : Card) (codes : List Code) (left : List ℕ) (apdu : Bytes) (h : Header) (start sw : ℕ) (is_good : good c ≡ true) (no_job : c.session.job.kind ≡ 0)
      (formed : parse apdu ≡ form h start)
      (judgement : judge_header c h (data_of apdu start h) certificate certificate ≡ in_codes left (drop_both c.session) (code_status codes sw)) where
    abbrev d : Card
    d = with_both c codes left

    pub gives : step c (sent apdu) ≡ written buffer d (response [] sw)
    unfolding step command judge judge_form
    gives = simp (is_good, buffer_taken, eq-eqb c.session.job.kind 0 no_job, formed, judgement)

    pub leads_to : next c (sent apdu) ≡ d
    unfolding written
    leads_to = rw (gives, next)

    reads : returned_status (step c (sent apdu)).returned (step c (sent apdu)).buffer ≡ sw
    unfolding written
    reads = rw gives (status_read buffer sw)

    pub test_read : (statusTest : ℕ → Bool) (test : Header → Bool) → answers statusTest test (exchange c (sent apdu)) ≡ (statusTest sw && test h)
    unfolding sent_by form_sends read_off
    test_read statusTest test = rw (reads, formed)

    one_call : (k : ℕ) {P : Card → Type 0} → all_bytes apdu ≡ true → (good d ≡ true → P d)
        → Run k c P (one (ok_status sw && presents k h)) (one (ok_status sw && unblocks k h)) (one (wrong_status sw && presents k h))
    one_call k bytes p =
        record {
          reached =
              record {
                calls = sent apdu ∷ [];
                of_bytes = rw (sent_bytes apdu bytes);
                restored = omega (arith, ap one (test_read ok_status (presents k)));
                unblocked = omega (arith, ap one (test_read ok_status (unblocks k)));
                wrong = omega (arith, ap one (test_read wrong_status (presents k)));
              };
          leads = rw leads_to (p (rw leads_to at (kept c (sent apdu) (sent_bytes apdu bytes) is_good)));
        }

  -- A VERIFY of code j with some digits, which is answered by a status word.
  verify_call : (j k : ℕ) (c : Card) (codes : List Code) (v : Bytes) (sw : ℕ) {P : Card → Type 0}
      → j < 3 → 1 ≤ length v → length v ≤ 12 → all_digits v ≡ true → good c ≡ true → c.session.job.kind ≡ 0
      → judged c.codes j (verdict (code_of c.codes j) v) ≡ code_status codes sw
      → (good (with_both c codes c.counts) ≡ true → P (with_both c codes c.counts))
      → Run k c P (one (ok_status sw && eqb j k)) 0 (one (wrong_status sw && eqb j k))
  verify_call j k c codes v sw h some short digits is_good no_job judgement p =
      recount
      (rw (verify_presents j v some k))
      (rw (verify_no_unblocking j v some k, and-false))
      (rw (verify_presents j v some k))
      (one_call c codes c.counts (verify_apdu j v) (verify_header j v) data_start sw is_good no_job (data_form 0x20 j v some)
      (verify_judged j v some c h ∙ ap (in_codes c.counts (drop_both c.session)) judgement)
      k (data_bytes 0x20 j v (omega arith) h (omega arith) (digits_bytes v digits)) p)

  -- The right value of code j.
  right_value : (j k : ℕ) (c : Card) {P : Card → Type 0} → j < 3 → good c ≡ true → c.session.job.kind ≡ 0 → 1 ≤ (code_of c.codes j).tries
      → (good (with_both c (after_verify c.codes j) c.counts) ≡ true → P (with_both c (after_verify c.codes j) c.counts)) → Run k c P (one (eqb j k)) 0 0
  unfolding ok_status wrong_status
  right_value j k c h is_good no_job tries p =
      let v = code_of c.codes j in
      let g : good_code j v ≡ true = good_code_lem c.codes (good_codes_lem c is_good) j h in
      verify_call j k c (after_verify c.codes j) (value v) 0x9000 h
      (omega (arith, value_least j v g))
      (value_most j v g)
      (code_digits j v g)
      is_good
      no_job
      (right_judged c.codes j tries)
      p

  module _ (k : ℕ) (h : k < 3) (a : ℕ) where
    -- A wrong value of code k: one digit.
    wrong_value : (n : ℕ) (c : Card) → TriesLeft k a (suc n) c → Run k c (TriesLeft k a n) 0 0 1
    unfolding verdict judged
    wrong_value n c before =
        let v = code_of c.codes k in
        let g : good_code k v ≡ true = good_code_lem c.codes (good_codes_lem c before.is_good) k h in
        let few : v.tries - 1 ≤ 15 = omega (arith, code_tries k v g) in
        let less : Code = marked v (v.tries - 1) false in
        recount
        (rw (wrong_not_ok (v.tries - 1) few))
        refl
        (rw (wrong_status_lem (v.tries - 1) few, eq-eqb k k refl))
        (verify_call k k c (with_code c.codes k less) (0x30 ∷ []) (0x63C0 + (v.tries - 1)) h
        (omega arith)
        (omega arith)
        refl
        before.is_good
        before.no_job
        (simp (ne_eqb v.tries 0 (omega (arith, before.left)), unlike_length (0x30 ∷ []) (value v) (omega (arith, value_least k v g))))
        (replaced k a (suc n) n c less before (code_place c.codes (good_codes_lem c before.is_good) k h) (omega (arith, before.left))))

    -- The right value of code k.
    restore : (n : ℕ) (c : Card) → TriesLeft k a (suc n) c → Run k c (TriesLeft k a 3) 1 0 0
    restore n c before =
        recount (rw (eq-eqb k k refl)) refl refl
        (right_value k k c h before.is_good before.no_job (omega (arith, before.left))
        (replaced k a (suc n) 3 c (marked (code_of c.codes k) full_tries true) before (code_place c.codes (good_codes_lem c before.is_good) k h) refl))

    two_wrong : (c : Card) → TriesLeft k a 3 c → Run k c (TriesLeft k a 1) 0 0 2
    two_wrong c before = then (wrong_value 2 c before) (wrong_value 1)

    three_wrong : (c : Card) → TriesLeft k a 3 c → Run k c (TriesLeft k a 0) 0 0 3
    three_wrong c before = then (two_wrong c before) (wrong_value 0)

    -- Two wrong values and the right one, r times.
    restorings : (r : ℕ) (c : Card) → TriesLeft k a 3 c → Run k c (TriesLeft k a 3) r 0 (2 * r)
    restorings zero c before = stay before
    restorings (suc r) c before =
        recount (omega arith) refl (omega arith)
        (then (then (two_wrong c before) (restore 0)) (restorings r))

    -- Where code k is a PIN:
    module _ (pin : 1 ≤ k) where
      -- The right PUK.
      puk_value : (c : Card) → TriesLeft k a 0 c → Run k c (PukVerified k a) 0 0 0
      puk_value c before =
          let place = code_place c.codes (good_codes_lem c before.is_good) PUK (omega arith) in
          let v : Code = marked (code_of c.codes PUK) full_tries true in
          recount (rw (ne_eqb PUK k (omega arith))) refl refl
          (right_value PUK k c (omega arith) before.is_good before.no_job (omega (arith, before.puk (omega arith)))
          (λ g. record {
            blocked =
                record {
                  is_good = g;
                  no_job = before.no_job;
                  left = tries_other c.codes PUK v place k (omega arith) ∙ before.left;
                  puk = λ other. tries_same c.codes PUK v place;
                  count = before.count;
                };
            shown = ap (λ (v : Code). v.verified) (code_same c.codes PUK v place);
          }))

      -- The unblocking.
      unblock_call : 1 ≤ a → (c : Card) → PukVerified k a c → Run k c (TriesLeft k (lowered a) 3) 0 1 0
      unfolding ok_status wrong_status unblocked
      unblock_call some c opened =
          let before = opened.blocked in
          let place = code_place c.codes (good_codes_lem c before.is_good) in
          let v : Code = marked (code_of c.codes k) full_tries false in
          let first : List Code = with_code c.codes k v in
          let shut : Code = marked (code_of c.codes PUK) (code_of c.codes PUK).tries false in
          let there : PUK < length first = omega (arith, length-set c.codes k v, place PUK (omega arith)) in
          recount
          (rw (unblock_no_presentation k))
          (rw (unblock_unblocks k pin))
          refl
          (one_call c (after_unblock c.codes k) (counts_lowered c.counts k) (unblock_apdu k) (unblock_header k) data_start 0x9000 before.is_good before.no_job
          (unblock_form k)
          (unblock_judged k c pin h before.left (omega (arith, some, before.count)) opened.shown)
          k
          (rw (lt-ltb k 256 (omega arith)))
          (λ g. record {
            is_good = g;
            no_job = before.no_job;
            left = tries_other first PUK shut there k (omega arith) ∙ tries_same c.codes k v (place k h);
            puk = λ other. tries_same first PUK shut there ∙ before.puk other;
            count =
                get_or-set_same c.counts (k - 1) (lowered (count_of c.counts k)) 0
                (omega (arith, two_counts c.counts (good_counts_lem c before.is_good)))
                ∙ ap lowered before.count;
          }))

  -- Three wrong values and an unblocking, u times, within a PIN's count.
  unblockings : (k : ℕ) → k < 3 → 1 ≤ k → (u a : ℕ) → Within a u → (c : Card) → TriesLeft k a 3 c
      → Run k c (TriesLeft k (after_lowerings u a) 3) 0 u (3 * u)
  unfolding after_lowerings
  unblockings k h pin zero a limit c before = stay before
  unblockings k h pin (suc u) a limit c before =
      recount refl (omega arith) (omega arith)
      (then (then (then (three_wrong k h a c before) (puk_value k h a pin)) (unblock_call k h a pin (within_some a u limit)))
      (unblockings k h pin u (lowered a) (within_less a u limit)))

  -- The bound is met. PUK is never unblocked.
  pub met : (k : ℕ) → k < 3 → (r u : ℕ) → (k ≡ 0 → u ≡ 0) → (c : Card) → (1 ≤ k → Within (count_of c.counts k) u) → Ready k c
      → Reached c k r u (3 + 2 * r + 3 * u)
  met k h r u none c limit ready =
      let a : ℕ = count_of c.counts k in
      let start : TriesLeft k a 3 c =
      record { is_good = ready.is_good; no_job = ready.no_job; left = ready.left; puk = λ other. ready.puk; count = refl } in
      let restored : Run k c (TriesLeft k a 3) r 0 (2 * r) = restorings k h a r c start in
      either _ k 0
      (λ e. (recount (omega arith) (omega (arith, none e)) (omega (arith, none e)) (then restored (three_wrong k h a))).reached)
      (λ n. (recount (omega arith) (omega arith) (omega arith)
      (then (then restored (unblockings k h (omega arith) u a (limit (omega arith)))) (three_wrong k h (after_lowerings u a)))).reached)

  -- Wrong values until a code with n tries has none.
  wrong_values : (k : ℕ) → k < 3 → (a n : ℕ) (c : Card) → TriesLeft k a n c → Run k c (TriesLeft k a 0) 0 0 n
  wrong_values k h a zero c before = stay before
  wrong_values k h a (suc n) c before = recount refl refl (omega arith) (then (wrong_value k h a n c before) (wrong_values k h a n))

  -- The right PUK, wrong values until the PIN is blocked, then unblockings: as many as its count allows.
  pub limit_met : (k : ℕ) → k < 3 → 1 ≤ k → (u : ℕ) (c : Card) → Within (count_of c.counts k) u → Unblockable c → UnblockedTimes c k u
  limit_met k h pin zero c limit start = record { calls = []; of_bytes = refl; unblocked = refl }
  limit_met k h pin (suc u) c limit start =
      let a : ℕ = count_of c.counts k in
      let n : ℕ = (code_of c.codes k).tries in
      let place = code_place c.codes (good_codes_lem c start.is_good) PUK (omega arith) in
      let v : Code = marked (code_of c.codes PUK) full_tries true in
      let shown : Run k c (TriesLeft k a n) 0 0 0 =
      recount (rw (ne_eqb PUK k (omega arith))) refl refl
      (right_value PUK k c (omega arith) start.is_good start.no_job start.puk
      (λ g. record {
        is_good = g;
        no_job = start.no_job;
        left = tries_other c.codes PUK v place k (omega arith);
        puk = λ _. tries_same c.codes PUK v place;
        count = refl;
      })) in
      let run =
      then (then (then (then shown (wrong_values k h a n)) (puk_value k h a pin)) (unblock_call k h a pin (within_some a u limit)))
      (unblockings k h pin u (lowered a) (within_less a u limit)) in
      record { calls = run.reached.calls; of_bytes = run.reached.of_bytes; unblocked = omega (arith, run.reached.unblocked) }
