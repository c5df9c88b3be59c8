-- What a call of bytes gives, and that it keeps a good card good.
use mathlib.Core.Path.{◌≡◌, refl}
use mathlib.Core.Logic.{◌≢◌}
use mathlib.Core.Bool.{Bool, true, false, not, ◌&&◌, ◌||◌, or-false}
use mathlib.Core.List.{List, [], ◌∷◌, ◌++◌}
use Prim.Native.Nat.{ℕ, ◌+◌, ◌≤◌, ◌<◌}
use native.Mathlib.Omega.{arith}
use lib.Dec.{eqb, leb}
use lib.ListN.{length, drop, length-take}
use borrow.Author.Tests.{eqb-true, leb-true, ltb-false, ne_eqb, not-false}
use Rattle.octets.specs.Octets.{Bytes, all_bytes}
use Rattle.octets.proofs.Tests.{split, and_left, and_right, or_cases, never}
use Rattle.rules.specs.declared.Card.{Card}
use Rattle.rules.specs.declared.Code.{Code}
use Rattle.rules.specs.declared.CodeStep.{CodeStep}
use Rattle.rules.specs.declared.Command.{Command as Instruction}
use Rattle.rules.specs.declared.Command.TheVariants.{Select, ReadRecord, ReadBinary, GetResponse, Verify, Change}
use Rattle.rules.specs.declared.Command.TheVariants.{ResetRetry, SetEnvironment, ChooseKey, InternalAuthenticate}
use Rattle.rules.specs.declared.Command.TheVariants.{ComputeSignature, Decipher}
use Rattle.rules.specs.declared.Header.{Header}
use Rattle.rules.specs.Numbers.{LengthForm, form, refused, Naming, names, names_none, responded, handed_out, was_reset}
use Rattle.rules.specs.Apdu.{parse, data_of}
use Rattle.rules.specs.Codes.{PUK, PIN1, PIN2, closed}
use Rattle.rules.specs.Session.{drop_held, drop_chain, drop_both}
use Rattle.rules.specs.State.{good_codes, good_counts, good_references, good_session, good}
use Rattle.rules.specs.Answers.{Answer, response, job, Step, SessionStep, in_session, in_codes}
use Rattle.rules.specs.Judgement.{commands, instruction, parameters, no_data, has_data, has_le, lengths, own_rules, refusal}
use Rattle.rules.specs.Judgement.{known_class, known_instruction, bad_chaining, named_in, judge_named, judge_header}
use Rattle.rules.specs.Judgement.{judge_form, judge}
use Rattle.rules.specs.Delivery.{deliver}
use Rattle.rules.specs.Edge.{Result, refuse, response_in, written, card_after, answered, power_reset}
use Rattle.rules.specs.Counting.{Call, Command, Delivery, PowerReset, step, next, of_bytes}
use Rattle.rules.specs.Demands.{buffer_of}
use Rattle.rules.proofs.Forms.{FitForm, well_formed, malformed, form_data, parse_fits}
use Rattle.rules.proofs.Parts.{good_codes_lem, good_counts_lem, good_profile_lem, good_references_lem, good_session_lem, good_card}
use Rattle.rules.proofs.Walks.{refusing, command_walk, delivery_walk}
use Rattle.rules.proofs.Sessions.{held_replaced, chain_replaced, new_session_good}
use Rattle.rules.proofs.KeepingAnswers.{MayCome, FitResponse, Fit, nothing_more, command_may_give, Ended, Keeps, KeepsCodes, KeepsBoth}
use Rattle.rules.proofs.KeepingAnswers.{refusing_alone, status_fits}
use Rattle.rules.proofs.KeepingFiles.{select_keeps, read_record_keeps, read_binary_keeps, get_response_keeps}
use Rattle.rules.proofs.KeepingCodes.{closed_good, verify_keeps, change_keeps, reset_retry_keeps, counts_left_good}
use Rattle.rules.proofs.KeepingKeys.{set_environment_keeps, choose_key_keeps, authenticate_keeps, sign_keeps}
use Rattle.rules.proofs.KeepingKeys.{decipher_keeps, deliver_keeps}

-- Where steps 3 and 5 find a command, its P1 and P2 are as it wants them, and its instruction is the header's.
pub record Fits (h : Header) (x : Instruction) : Type 0 where
  pub ins : h.ins ≡ instruction x
  pub parameters : parameters x h.p1 h.p2 ≡ true

pub data Found (h : Header) : Naming → Type 0 where
  is : (x : Instruction) → Fits h x → Found h (names x)
  nothing : Found h (names_none 0x6A86)

pub found : (h : Header) (xs : List Instruction) → Found h (named_in h xs)
unfolding named_in
found h [] = nothing
found h (x ∷ xs) =
    split (Found h) (eqb h.ins (instruction x) && parameters x h.p1 h.p2)
    (λ e. is x (record {
      ins = eqb-true _ _ (and_left (eqb h.ins (instruction x)) (parameters x h.p1 h.p2) e);
      parameters = and_right (eqb h.ins (instruction x)) _ e;
    }))
    (λ _. found h xs)

-- P2 names a code, and INTERNAL AUTHENTICATE has at most 245 bytes.
module _ (h : Header) where
  pub verify_code : parameters Verify h.p1 h.p2 ≡ true → h.p2 < 3
  unfolding parameters
  verify_code e = omega (arith, leb-true h.p2 2 (and_right (eqb h.p1 0x00) _ e))

  pub change_code : parameters Change h.p1 h.p2 ≡ true → h.p2 < 3
  unfolding parameters
  change_code e = omega (arith, leb-true h.p2 2 (and_right (eqb h.p1 0x00) _ e))

  pub reset_code : parameters ResetRetry h.p1 h.p2 ≡ true → (1 ≤ h.p2) × (h.p2 < 3)
  unfolding parameters
  reset_code e =
      let both = and_right (eqb h.p1 0x00 || eqb h.p1 0x03) _ e in
      (leb-true 1 h.p2 (and_left (leb 1 h.p2) _ both), omega (arith, leb-true h.p2 2 (and_right (leb 1 h.p2) _ both)))

  pub authenticate_length : lengths InternalAuthenticate h ≡ true → h.lc ≤ 245
  unfolding lengths
  authenticate_length e = leb-true h.lc 245 (and_right (has_data h) _ e)

-- A known class with an instruction other than 2A, and no bad chaining, is 00h.
plain_class : (h : Header) → known_class h ≡ true → bad_chaining h ≡ false → h.ins ≢ 0x2A → h.cla ≡ 0x00
plain_class h known unchained other =
    or_cases _ (eqb h.cla 0x00) (eqb h.cla 0x10) (simp or-false at known) (eqb-true h.cla 0x00)
    (λ e. never (simp (e, ne_eqb h.ins 0x2A other) at unchained) refl)

-- Steps 2 to 7: a refusal, or the own rules of a command that the header names.
module _ (P : Step → Type 0) (c : Card) (h : Header) (d authentication signature : Bytes) where
  named_walk : {n : Naming} → Found h n → P (refusal c 0x6A86) → P (refusal c 0x6700)
      → ((x : Instruction) → Fits h x → lengths x h ≡ true → P (own_rules x c h d authentication signature))
      → P (judge_named n c h d authentication signature)
  unfolding judge_named
  named_walk nothing unnamed short own = unnamed
  named_walk (is x fits) unnamed short own = split P (not (lengths x h)) (λ _. short) (λ l. own x fits (not-false _ l))

  pub header_walk : P (refusal c 0x6E00) → P (refusal c 0x6D00) → P (refusal c 0x6884) → P (refusal c 0x6A86) → P (refusal c 0x6700)
      → ((h.ins ≢ 0x2A → h.cla ≡ 0x00) → (x : Instruction) → Fits h x → lengths x h ≡ true → P (own_rules x c h d authentication signature))
      → P (judge_header c h d authentication signature)
  unfolding judge_header
  header_walk class instruction chaining unnamed short own =
      split P (not (known_class h)) (λ _. class)
      (λ known. split P (not (known_instruction h)) (λ _. instruction)
      (λ _. split P (bad_chaining h) (λ _. chaining)
      (λ unchained. named_walk (found h commands) unnamed short (own (plain_class h (not-false _ known) unchained)))))

-- A good card with no waiting job.
module _ (c : Card) (g : good c ≡ true) (idle : c.session.job.kind ≡ 0) where
  abbrev keys : List Bool
  keys = c.profile.keys

  abbrev references_good : good_references keys c.profile.references ≡ true
  references_good = good_references_lem c.profile (good_profile_lem c g)

  chainless : good_session keys (drop_chain c.session) ≡ true
  chainless = chain_replaced keys c.session (good_session_lem c g) idle [] (omega arith)

  heldless : good_session keys (drop_held c.session) ≡ true
  heldless = held_replaced keys c.session (good_session_lem c g) idle [] (omega arith)

  pub dropped : good_session keys (drop_both c.session) ≡ true
  dropped = held_replaced keys (drop_chain c.session) chainless idle [] (omega arith)

  -- a command whose Le is at most 256
  module _ (h : Header) (d authentication signature : Bytes) (le : h.le ≤ 256) (short : length d ≤ h.lc) where
    abbrev m : MayCome
    m = command_may_give (Ended h) c.session d

    session_only : {o : SessionStep} → Keeps m keys o → KeepsBoth m keys (in_session c.codes c.counts o)
    session_only k = record { codes = good_codes_lem c g; counts = good_counts_lem c g; session = k.session; answer = k.answer }

    codes_only : {counts : List ℕ} {o : CodeStep} → good_counts counts ≡ true → KeepsCodes o → KeepsBoth m keys (in_codes counts (drop_both c.session) o)
    codes_only n k = record { codes = k.codes; counts = n; session = dropped; answer = status_fits k.word }

    refusal_both : (sw : ℕ) → refusing sw ≡ true → KeepsBoth m keys (refusal c sw)
    refusal_both sw z = record { codes = good_codes_lem c g; counts = good_counts_lem c g; session = dropped; answer = status_fits (refusing_alone sw z) }

    own_rules_keeps : (x : Instruction) → h.ins ≡ instruction x → (h.ins ≢ 0x2A → h.cla ≡ 0x00) → parameters x h.p1 h.p2 ≡ true
        → lengths x h ≡ true → KeepsBoth m keys (own_rules x c h d authentication signature)
    unfolding own_rules instruction parameters lengths
    own_rules_keeps Select i k p l = session_only (select_keeps m keys _ dropped h d)
    own_rules_keeps ReadRecord i k p l = session_only (read_record_keeps c.codes c.profile (good_profile_lem c g) m _ dropped idle h)
    own_rules_keeps ReadBinary i k p l =
        session_only (read_binary_keeps m keys _ dropped h authentication signature le
        (λ e some fewer short. record {
          class = k (omega (arith, i));
          binary = i;
          parameter = p;
          without = and_left (no_data h) (has_le h) l;
          some = some;
          fewer = fewer;
          short = short;
        }))
    own_rules_keeps GetResponse i k p l = session_only (get_response_keeps m keys _ chainless h idle)
    own_rules_keeps Verify i k p l = codes_only (good_counts_lem c g) (verify_keeps c.codes (good_codes_lem c g) h d (verify_code h p))
    own_rules_keeps Change i k p l = codes_only (good_counts_lem c g) (change_keeps c.codes (good_codes_lem c g) h d (change_code h p))
    own_rules_keeps ResetRetry i k p l =
        codes_only (counts_left_good c.counts (good_counts_lem c g) h.p2 (reset_code h p).1 (reset_code h p).0 _)
        (reset_retry_keeps c.codes (good_codes_lem c g) c.counts h d (reset_code h p).1)
    own_rules_keeps SetEnvironment i k p l = session_only (set_environment_keeps m keys _ dropped h)
    own_rules_keeps ChooseKey i k p l = session_only (choose_key_keeps m keys _ dropped h d)
    own_rules_keeps InternalAuthenticate i k p l =
        session_only (authenticate_keeps (Ended h) c.session c.codes keys _ references_good _ dropped h d le refl refl
        (omega (arith, authenticate_length h l)))
    own_rules_keeps ComputeSignature i k p l =
        sign_keeps (Ended h) c.session c.codes keys _ references_good _ dropped h d le refl c.counts (good_counts_lem c g) (good_codes_lem c g) refl
    own_rules_keeps Decipher i k p l =
        session_only (decipher_keeps (Ended h) c.session c.codes keys _ references_good _ heldless h d le refl refl idle)

    judge_header_keeps : KeepsBoth m keys (judge_header c h d authentication signature)
    judge_header_keeps =
        header_walk (KeepsBoth m keys) c h d authentication signature (refusal_both 0x6E00 refl) (refusal_both 0x6D00 refl)
        (refusal_both 0x6884 refl) (refusal_both 0x6A86 refl) (refusal_both 0x6700 refl)
        (λ k x fits l. own_rules_keeps x fits.ins k fits.parameters l)

-- Data that a command of a length form gives with 6282.
abbrev pub FormEnded : LengthForm → Bytes → Type 0
FormEnded (form h start) = Ended h
FormEnded (refused sw) = λ d. ⊥

module _ (c : Card) (g : good c ≡ true) (idle : c.session.job.kind ≡ 0) (b authentication signature : Bytes) where
  judge_form_keeps : {p : LengthForm} → FitForm p
      → KeepsBoth (command_may_give (FormEnded p) c.session (form_data b p)) c.profile.keys (judge_form c b p authentication signature)
  unfolding judge_form
  judge_form_keeps (well_formed h start le) =
      judge_header_keeps c g idle h (data_of b start h) authentication signature le (omega (arith, length-take h.lc (drop start b)))
  judge_form_keeps malformed =
      record {
        codes = good_codes_lem c g;
        counts = good_counts_lem c g;
        session = dropped c g idle;
        answer = status_fits (refusing_alone 0x6700 refl);
      }

  pub judge_keeps : all_bytes b ≡ true
      → KeepsBoth (command_may_give (FormEnded (parse b)) c.session (form_data b (parse b))) c.profile.keys (judge c b authentication signature)
  unfolding judge
  judge_keeps bytes = judge_form_keeps (parse_fits b bytes)

-- What may come from a call: a command's own; neither 6282 nor a job from any other call.
abbrev pub call_may_give : Card → Call → MayCome
call_may_give c (Command apdu authentication signature buffer) = command_may_give (FormEnded (parse apdu)) c.session (form_data apdu (parse apdu))
call_may_give c (Delivery result buffer) = nothing_more
call_may_give c PowerReset = nothing_more

-- What a call can give: an edge refusal, or a good card with a response, a job or a reset.
pub data Gives (c : Card) : Call → Result → Type 0 where
  refuses : (x : Call) (n : ℕ) → Gives c x (refuse c (buffer_of x) n)
  responds : (x : Call) (new : Card) (d : Bytes) (sw : ℕ) → good new ≡ true → FitResponse (call_may_give c x) d sw → 258 ≤ length (buffer_of x)
      → Gives c x (record { returned = responded (length d + 2); card = new; buffer = response_in (buffer_of x) d sw })
  hands_out : (x : Call) (new : Card) (kind key : ℕ) (block : Bytes) → good new ≡ true → (call_may_give c x).job kind block → 258 ≤ length (buffer_of x)
      → Gives c x (record { returned = handed_out kind key; card = new; buffer = block ++ drop (length block) (buffer_of x) })
  resets : (new : Card) → good new ≡ true → Gives c PowerReset (record { returned = was_reset; card = new; buffer = [] })

module _ (c : Card) (x : Call) (room : 258 ≤ length (buffer_of x)) where
  written_gives : (new : Card) (a : Answer) → good new ≡ true → Fit (call_may_give c x) a → Gives c x (written (buffer_of x) new a)
  unfolding written
  written_gives new (response d sw) g fit = responds x new d sw g fit room
  written_gives new (job kind key block) g own = hands_out x new kind key block g own room

  answered_gives : good c ≡ true → (o : Step) → KeepsBoth (call_may_give c x) c.profile.keys o → Gives c x (answered (buffer_of x) c o)
  answered_gives g o k =
      written_gives (card_after c o) o.answer (good_card (card_after c o) k.codes k.counts (good_profile_lem c g) k.session) k.answer

gives_good : {c : Card} {x : Call} {o : Result} → Gives c x o → good c ≡ true → good o.card ≡ true
gives_good (refuses x r) g = g
gives_good (responds x new d sw h fit room) g = h
gives_good (hands_out x new kind key block h own room) g = h
gives_good (resets new h) g = h

-- A power reset takes the marks off.
all_closed : (codes : List Code) → good_codes codes ≡ true → good_codes (closed (closed (closed codes PUK) PIN1) PIN2) ≡ true
all_closed codes g = closed_good _ (closed_good _ (closed_good codes g PUK (omega arith)) PIN1 (omega arith)) PIN2 (omega arith)

pub call_gives : (c : Card) (x : Call) → of_bytes x ≡ true → Gives c x (step c x)
unfolding step power_reset
call_gives c (Command apdu authentication signature buffer) bytes =
    let x : Call = Command apdu authentication signature buffer in
    command_walk (Gives c x) c apdu authentication signature buffer (refuses x)
    (λ g room idle. answered_gives c x (ltb-false _ _ room) g (judge c apdu authentication signature)
    (judge_keeps c g (eqb-true _ _ (not-false _ idle)) apdu authentication signature (apdu_bytes bytes)))
  where
    apdu_bytes : of_bytes (Command apdu authentication signature buffer) ≡ true → all_bytes apdu ≡ true
    apdu_bytes e = and_left _ (all_bytes authentication) (and_left _ (all_bytes signature) (and_left _ (all_bytes buffer) e))
call_gives c (Delivery result buffer) bytes =
    let x : Call = Delivery result buffer in
    delivery_walk (Gives c x) c result buffer (refuses x)
    (λ g room. let kept = deliver_keeps c.profile.keys c.session (good_session_lem c g) result in
    answered_gives c x (ltb-false _ _ room) g (in_session c.codes c.counts (deliver c.session result))
    (record { codes = good_codes_lem c g; counts = good_counts_lem c g; session = kept.session; answer = kept.answer }))
call_gives c PowerReset bytes =
    split (λ (o : _ × Card). Gives c PowerReset (record { returned = o.0; card = o.1; buffer = [] })) (not (good c)) (λ e. refuses PowerReset 1)
    (λ g. resets _ (good_card _ (all_closed c.codes (good_codes_lem c (not-false _ g))) (good_counts_lem c (not-false _ g)) (good_profile_lem c (not-false _ g)) (new_session_good _)))

-- Every call of bytes keeps a good card good.
pub kept : (c : Card) (x : Call) → of_bytes x ≡ true → good c ≡ true → good (next c x) ≡ true
kept c x bytes g = gives_good (call_gives c x bytes) g
