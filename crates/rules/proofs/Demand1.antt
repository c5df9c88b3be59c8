-- Demand 1: what a call on any card refuses, writes and leaves.
use mathlib.Core.Path.{◌≡◌, refl, sym, ap, ◌∙◌}
use mathlib.Core.Bool.{true, false, not, ◌||◌, or-true, false≢true}
use mathlib.Core.List.{◌∷◌, ◌++◌}
use Prim.Native.Nat.{ℕ, ◌+◌, ◌-◌, ◌≤◌}
use native.Mathlib.Omega.{arith}
use lib.Dec.{eqb, ltb}
use lib.ListN.{length, drop, length-append, length-drop}
use borrow.Author.Tests.{eqb-true, eqb-false, ltb-true, ltb-false, lt-ltb, le-ltb, le-leb, eq-eqb, ne_eqb, not-true, not-false}
use Rattle.octets.specs.Octets.{Bytes}
use Rattle.octets.proofs.Tests.{split, by_test, or_cases, neither}
use Rattle.rules.specs.declared.Card.{Card}
use Rattle.rules.specs.declared.Session.{Session}
use Rattle.rules.specs.Numbers.{Returned, edge, responded, handed_out, LengthForm, form, refused}
use Rattle.rules.specs.Apdu.{parse}
use Rattle.rules.specs.State.{good}
use Rattle.rules.specs.Answers.{Answer, response, job, in_session}
use Rattle.rules.specs.Judgement.{judge_form, judge}
use Rattle.rules.specs.Delivery.{deliver}
use Rattle.rules.specs.Edge.{Result, refuse, response_in, written, answered, short_buffer, bad_certificate, job_waits}
use Rattle.rules.specs.Edge.{command, delivery, power_reset}
use Rattle.rules.specs.Counting.{Call, Command, Delivery, PowerReset, step, returned_status, form_sends, sent_by, read_off, is_command}
use Rattle.rules.specs.Counting.{data_sent}
use Rattle.rules.specs.Demands.{edge_refusal}
use Rattle.rules.specs.Demands.{buffer_of, LengthFits, Idle, Due, bad_state, command_buffer, delivery_buffer}
use Rattle.rules.specs.Demands.{authentication_certificate, signature_certificate, job_waiting, no_job_waiting}
use Rattle.rules.specs.Demands.{Possible, command_response, command_job, delivery_response, reset, block_of}
use Rattle.rules.specs.Demands.{refusal_status, asks_for_more_than, Demand1, ProfileKept}
use Rattle.rules.proofs.StatusWords.{response_rest, response_sized, response_status}
use Rattle.rules.proofs.Forms.{refusal_6700, data_sent_lem}
use Rattle.rules.proofs.Walks.{command_walk, delivery_walk}
use Rattle.rules.proofs.Keeping.{Gives, refuses, responds, hands_out, resets, FormEnded, call_may_give, call_gives}

-- Two returns of different cases.
clash : {P : Type 0} → ◌≡◌ {A = ℕ} 0 1 → P
clash z = absurd (omega arith)

edge_of : {c : Card} {x : Call} {o : Result} → Gives c x o → (n : ℕ) → o.returned ≡ edge n → o ≡ refuse c (buffer_of x) n
edge_of {c} (refuses x m) n e = let same : m ≡ n = cc in ap (refuse c (buffer_of x)) same
edge_of (responds x new d sw g fit room) n e = clash (cc)
edge_of (hands_out x new kind key block g own room) n e = clash (cc)
edge_of (resets new g) n e = clash (cc)

response_possible : (x : Call) (n : ℕ) → 258 ≤ length (buffer_of x) → 2 ≤ n → n ≤ 258 → Possible x (responded n)
response_possible (Command apdu authentication signature buffer) n room l m = command_response apdu authentication signature buffer n l m
response_possible (Delivery result buffer) n room l m = delivery_response result buffer n l m
response_possible PowerReset n room l m = absurd (omega arith)

job_possible : (c : Card) (x : Call) (kind key : ℕ) (block : Bytes) → (call_may_give c x).job kind block → Possible x (handed_out kind key)
job_possible c (Command apdu authentication signature buffer) kind key block own =
    command_job apdu authentication signature buffer kind key own.least own.most
job_possible c (Delivery result buffer) kind key block own = absurd own
job_possible c PowerReset kind key block own = absurd own

possible_of : {c : Card} {x : Call} {o : Result} → Gives c x o → Possible x o.returned
possible_of (refuses x n) = edge_refusal x n
possible_of (responds x new d sw g fit room) = response_possible x (length d + 2) room (omega arith) (omega (arith, fit.size))
possible_of {c} (hands_out x new kind key block g own room) = job_possible c x kind key block own
possible_of (resets new g) = reset

response_of : {c : Card} {x : Call} {o : Result} → Gives c x o
    → (n : ℕ) → o.returned ≡ responded n → drop n o.buffer ≡ drop n (buffer_of x)
response_of (refuses x r) n e = clash (cc)
response_of (responds x new d sw g fit room) n e = let long : length d + 2 ≡ n = cc in rw (← long) (response_rest (buffer_of x) d sw)
response_of (hands_out x new kind key block g own room) n e = clash (cc)
response_of (resets new g) n e = clash (cc)

refusal_of : {c : Card} {x : Call} {o : Result} → Gives c x o
    → (n : ℕ) → o.returned ≡ responded n → refusal_status (returned_status o.returned o.buffer) ≡ true → n ≡ 2
refusal_of (refuses x r) n e refusal = clash (cc)
refusal_of (responds x new d sw g fit room) n e refusal =
    let long : length d + 2 ≡ n = cc in
    omega (arith, fit.refusal (rw (response_status (buffer_of x) d sw) at refusal))
refusal_of (hands_out x new kind key block g own room) n e refusal = clash (cc)
refusal_of (resets new g) n e refusal = clash (cc)

-- 6282.
form_over : (b d : Bytes) (p : LengthForm) → FormEnded p d → read_off (λ h _. asks_for_more_than (length d) h) false (form_sends b p) ≡ true
unfolding form_sends read_off
form_over b d (form h start) e =
    simp (e.class, e.binary, e.parameter, e.without, lt-ltb (length d) h.le e.fewer, le-leb h.le 255 e.short)
form_over b d (refused sw) e = absurd e

form_some : (d : Bytes) (p : LengthForm) → FormEnded p d → (1 ≤ length d) × (length d ≤ 254)
form_some d (form h start) e = (e.some, omega (arith, e.fewer, e.short))
form_some d (refused sw) e = absurd e

command_ended : (c : Card) (x : Call) (d : Bytes) → (call_may_give c x).ended d
    → (1 ≤ length d) × (length d ≤ 254) × (is_command (asks_for_more_than (length d)) x ≡ true)
unfolding sent_by
command_ended c (Command apdu authentication signature buffer) d e =
    ((form_some d (parse apdu) e).0, (form_some d (parse apdu) e).1, form_over apdu d (parse apdu) e)
command_ended c (Delivery result buffer) d e = absurd e
command_ended c PowerReset d e = absurd e

ended_of : {c : Card} {x : Call} {o : Result} → Gives c x o
    → (n : ℕ) → o.returned ≡ responded n → returned_status o.returned o.buffer ≡ 0x6282
    → (1 ≤ n - 2) × (n - 2 ≤ 254) × (is_command (asks_for_more_than (n - 2)) x ≡ true)
ended_of (refuses x r) n e ended = clash (cc)
ended_of {c} (responds x new d sw g fit room) n e ended =
    let long : length d + 2 ≡ n = cc in
    let size : n - 2 ≡ length d = omega (arith, long) in
    rw size (command_ended c x d (fit.ended (rw (response_status (buffer_of x) d sw) at ended)))
ended_of (hands_out x new kind key block g own room) n e ended = clash (cc)
ended_of (resets new g) n e ended = clash (cc)

-- A job's block, at the front of the buffer.
pub record Handed (s : Session) (d : Bytes) (kind : ℕ) (block : Bytes) : Type 0 where
  size : length block ≡ 256
  own : block ≡ block_of s d kind

job_handed : (c : Card) (x : Call) (kind : ℕ) (block : Bytes) → (call_may_give c x).job kind block → Handed c.session (data_sent x) kind block
unfolding sent_by
job_handed c (Command apdu authentication signature buffer) kind block own =
    record { size = own.size; own = rw (data_sent_lem apdu (parse apdu)) own.own }
job_handed c (Delivery result buffer) kind block own = absurd own
job_handed c PowerReset kind block own = absurd own

job_of : {c : Card} {x : Call} {o : Result} → Gives c x o → (kind key : ℕ) → o.returned ≡ handed_out kind key
    → (length (block_of c.session (data_sent x) kind) ≡ 256)
    × (o.buffer ≡ block_of c.session (data_sent x) kind ++ drop 256 (buffer_of x))
job_of (refuses x r) kind key e = clash (cc)
job_of (responds x new d sw g fit room) kind key e = clash (cc)
job_of {c} (hands_out x new kind' key' block g own room) kind key e =
    let same : kind' ≡ kind = cc in
    let h : Handed c.session (data_sent x) kind block = rw (← same) (job_handed c x kind' block own) in
    (ap length (sym h.own) ∙ h.size, rw h.size (ap (λ (b : Bytes). b ++ drop 256 (buffer_of x)) h.own))
job_of (resets new g) kind key e = clash (cc)

sized_of : {c : Card} {x : Call} {o : Result} → Gives c x o → length o.buffer ≡ length (buffer_of x)
sized_of (refuses x r) = refl
sized_of (responds x new d sw g fit room) = response_sized (buffer_of x) d sw (omega (arith, fit.size))
sized_of {c} (hands_out x new kind key block g own room) =
    simp (length-append, length-drop) (omega (arith, (job_handed c x kind block own).size))
sized_of (resets new g) = refl

-- A certificate, by the edge's test.
not_lent : (b : Bytes) → bad_certificate b ≡ true → ¬ LengthFits b
not_lent b e l =
    or_cases ⊥ (eqb (length b) 0) (ltb 1536 (length b)) e
    (λ z. omega (arith, eqb-true (length b) 0 z, l.0))
    (λ z. omega (arith, ltb-true 1536 (length b) z, l.1))

lent : (b : Bytes) → bad_certificate b ≡ false → LengthFits b
lent b e =
    let tests = neither (eqb (length b) 0) (ltb 1536 (length b)) e in
    (omega (arith, eqb-false (length b) 0 tests.0), ltb-false 1536 (length b) tests.1)

pub lent_good : (b : Bytes) → LengthFits b → bad_certificate b ≡ false
lent_good b l = simp (ne_eqb (length b) 0 (omega (arith, l.0)), le-ltb 1536 (length b) l.1)

not_lent_bad : (b : Bytes) → ¬ LengthFits b → bad_certificate b ≡ true
not_lent_bad b n = by_test _ (bad_certificate b) (λ e. e) (λ e. absurd (n (lent b e)))

idle_not : (c : Card) → job_waits c ≡ false → Idle c
idle_not c e = eqb-true _ _ (not-false _ e)

waits_not : (c : Card) → job_waits c ≡ true → ¬ Idle c
waits_not c e i = false≢true (sym (rw (eq-eqb c.session.job.kind 0 i)) ∙ e)

-- What the edge refuses is due.
module _ (c : Card) where
  -- another number for the same refusal
  renumbered : (x : Call) (m n : ℕ) → Due c x m → edge m ≡ edge n → Due c x n
  renumbered x m n due e = let same : m ≡ n = cc in rw (← same) due

  written_edge : (w : Bytes) (new : Card) (a : Answer) (n : ℕ) → ¬ ((written w new a).returned ≡ edge n)
  unfolding written
  written_edge w new (response d sw) n e = clash (cc)
  written_edge w new (job kind key block) n e = clash (cc)

  refused_due : (x : Call) (n : ℕ) → (step c x).returned ≡ edge n → Due c x n
  unfolding step command delivery power_reset
  refused_due (Command apdu authentication signature buffer) n =
      let x : Call = Command apdu authentication signature buffer in
      let P : Result → Type 0 = λ o. o.returned ≡ edge n → Due c x n in
      split P (not (good c)) (λ e. renumbered x 1 n (bad_state x (not-true _ e)))
      (λ g. split P (short_buffer buffer) (λ e. renumbered x 2 n (command_buffer apdu authentication signature buffer (not-false _ g) (ltb-true _ _ e)))
      (λ room. split P (bad_certificate authentication || bad_certificate signature)
      (λ e. renumbered x 3 n (or_cases (Due c x 3) (bad_certificate authentication) (bad_certificate signature) e
      (λ z. authentication_certificate apdu authentication signature buffer (not-false _ g) (ltb-false _ _ room) (not_lent authentication z))
      (λ z. signature_certificate apdu authentication signature buffer (not-false _ g) (ltb-false _ _ room) (not_lent signature z))))
      (λ certificates. let both = neither (bad_certificate authentication) (bad_certificate signature) certificates in
      split P (job_waits c)
      (λ e. renumbered x 4 n (job_waiting apdu authentication signature buffer (not-false _ g) (ltb-false _ _ room)
      (lent authentication both.0) (lent signature both.1) (waits_not c e)))
      (λ _ e. absurd (written_edge buffer _ _ n e)))))
  refused_due (Delivery result buffer) n =
      let x : Call = Delivery result buffer in
      let P : Result → Type 0 = λ o. o.returned ≡ edge n → Due c x n in
      split P (not (good c)) (λ e. renumbered x 1 n (bad_state x (not-true _ e)))
      (λ g. split P (short_buffer buffer) (λ e. renumbered x 2 n (delivery_buffer result buffer (not-false _ g) (ltb-true _ _ e)))
      (λ room. split P (not (job_waits c))
      (λ e. renumbered x 5 n (no_job_waiting result buffer (not-false _ g) (ltb-false _ _ room) (idle_not c (not-true _ e))))
      (λ _ e. absurd (written_edge buffer _ _ n e))))
  refused_due PowerReset n =
      split (λ (o : Returned × Card). o.0 ≡ edge n → Due c PowerReset n) (not (good c))
      (λ e. renumbered PowerReset 1 n (bad_state PowerReset (not-true _ e)))
      (λ _ e. clash (cc))

  -- What is due the edge refuses.
  due_refused : (x : Call) (n : ℕ) → Due c x n → (step c x).returned ≡ edge n
  unfolding step command delivery power_reset
  due_refused (Command apdu authentication signature buffer) n (bad_state _ g) = rw g
  due_refused (Delivery result buffer) n (bad_state _ g) = rw g
  due_refused PowerReset n (bad_state _ g) = rw g
  due_refused x n (command_buffer apdu authentication signature buffer g short) = rw (g, lt-ltb _ _ short)
  due_refused x n (delivery_buffer result buffer g short) = rw (g, lt-ltb _ _ short)
  due_refused x n (authentication_certificate apdu authentication signature buffer g room bad) =
      rw (g, le-ltb _ _ room, not_lent_bad authentication bad)
  due_refused x n (signature_certificate apdu authentication signature buffer g room bad) =
      rw (g, le-ltb _ _ room, not_lent_bad signature bad, or-true (bad_certificate authentication))
  due_refused x n (job_waiting apdu authentication signature buffer g room a s waits) =
      rw (g, le-ltb _ _ room, lent_good authentication a, lent_good signature s, ne_eqb _ 0 waits)
  due_refused x n (no_job_waiting result buffer g room idle) = rw (g, le-ltb _ _ room, eq-eqb _ 0 idle)

-- A command whose length form is wrong.
module _ (c : Card) (apdu authentication signature buffer : Bytes) (sw : ℕ) (p : parse apdu ≡ refused sw) where
  abbrev x : Call
  x = Command apdu authentication signature buffer

  abbrev Alone : Result → Type 0
  Alone o = (o.returned ≡ responded 2) × (o.buffer ≡ 0x67 ∷ 0x00 ∷ drop 2 buffer)

  judged_alone : Alone (answered buffer c (judge c apdu authentication signature))
  unfolding judge judge_form written response_in
  judged_alone = rw (p, refusal_6700 apdu sw p) (refl, refl)

  malformed : ((n : ℕ) → ¬ Due c x n) → Alone (step c x)
  unfolding step command
  malformed none =
      let refuses : (o : Result) (n : ℕ) → (step c x).returned ≡ edge n → Alone o = λ o n e. absurd (none n (refused_due c x n e)) in
      split Alone (not (good c)) (λ e. refuses (refuse c buffer 1) 1 (rw e))
      (λ g. split Alone (short_buffer buffer) (λ e. refuses (refuse c buffer 2) 2 (rw (g, e)))
      (λ room. split Alone (bad_certificate authentication || bad_certificate signature) (λ e. refuses (refuse c buffer 3) 3 (rw (g, room, e)))
      (λ lent. split Alone (job_waits c) (λ e. refuses (refuse c buffer 4) 4 (rw (g, room, lent, e)))
      (λ _. judged_alone))))

-- A delivered result whose length is wrong.
module _ (c : Card) (result buffer : Bytes) (wrong : ¬ (length result ≡ 256)) where
  abbrev y : Call
  y = Delivery result buffer

  abbrev Ended : Result → Type 0
  Ended o = (o.returned ≡ responded 2) × (o.buffer ≡ 0x64 ∷ 0x00 ∷ drop 2 buffer)

  delivered_alone : Ended (answered buffer c (in_session c.codes c.counts (deliver c.session result)))
  unfolding deliver written response_in
  delivered_alone = rw (ne_eqb (length result) 256 wrong) (refl, refl)

  misdelivered : ((n : ℕ) → ¬ Due c y n) → Ended (step c y)
  unfolding step delivery
  misdelivered none =
      let refuses : (o : Result) (n : ℕ) → (step c y).returned ≡ edge n → Ended o = λ o n e. absurd (none n (refused_due c y n e)) in
      split Ended (not (good c)) (λ e. refuses (refuse c buffer 1) 1 (rw e))
      (λ g. split Ended (short_buffer buffer) (λ e. refuses (refuse c buffer 2) 2 (rw (g, e)))
      (λ room. split Ended (not (job_waits c)) (λ e. refuses (refuse c buffer 5) 5 (rw (g, room, e)))
      (λ _. delivered_alone)))

-- No call changes the profile.
written_profile : (w : Bytes) (new : Card) (a : Answer) → (written w new a).card.profile ≡ new.profile
unfolding written
written_profile w new (response d sw) = refl
written_profile w new (job kind key block) = refl

pub profile_kept : ProfileKept
unfolding step power_reset
profile_kept c (Command apdu authentication signature buffer) =
    command_walk (λ o. o.card.profile ≡ c.profile) c apdu authentication signature buffer (λ _. refl) (λ _ _ _. written_profile buffer _ _)
profile_kept c (Delivery result buffer) =
    delivery_walk (λ o. o.card.profile ≡ c.profile) c result buffer (λ _. refl) (λ _ _. written_profile buffer _ _)
profile_kept c PowerReset = split (λ (o : Returned × Card). o.1.profile ≡ c.profile) (not (good c)) (λ _. refl) (λ _. refl)

pub demand_1 : Demand1
demand_1 =
    record {
      defined = λ c x bytes.
          let given : Gives c x (step c x) = call_gives c x bytes in
          record {
            due = λ n. (refused_due c x n, due_refused c x n);
            edge = edge_of given;
            possible = possible_of given;
            response = response_of given;
            refusal = refusal_of given;
            ended = ended_of given;
            job = job_of given;
            sized = sized_of given;
          };
      malformed = malformed;
      misdelivered = misdelivered;
    }
