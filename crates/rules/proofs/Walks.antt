-- Each command's tests, and the edge's, walked once: what holds of every way out holds of the command or call. The code sheet and the
-- good-state proofs use them.
use mathlib.Core.Path.{◌≡◌, refl}
use mathlib.Core.Bool.{Bool, true, false, not, ◌&&◌, ◌||◌}
use mathlib.Core.List.{List, [], ◌∷◌, ◌++◌}
use Prim.Native.Nat.{ℕ, ◌+◌, ◌-◌, ◌≤◌, ◌<◌}
use native.Mathlib.Omega.{arith}
use lib.Dec.{eqb, leb, ltb}
use lib.ListN.{length, take, drop, length-drop}
use borrow.Author.Tests.{eqb-true, eqb-false, leb-true, leb-false, ltb-true, ltb-false, not-false}
use Rattle.octets.specs.Octets.{Bytes, byte_at, word, same, member}
use Rattle.octets.proofs.Tests.{split, and_left, and_right}
use Rattle.pkcs1.specs.Pkcs1.{padded, strip}
use Rattle.rules.specs.declared.Card.{Card}
use Rattle.rules.specs.declared.Code.{Code}
use Rattle.rules.specs.declared.CodeStep.{CodeStep}
use Rattle.rules.specs.declared.Header.{Header}
use Rattle.rules.specs.declared.JobKind.TheVariants.{Authenticate, Sign, Decipher}
use Rattle.rules.specs.declared.Profile.{Profile}
use Rattle.rules.specs.declared.Session.{Session}
use Rattle.rules.specs.declared.Verdict.{Verdict}
use Rattle.rules.specs.declared.Verdict.TheVariants.{Right, Wrong, NoTries}
use Rattle.rules.specs.Numbers.{kind_number}
use Rattle.rules.specs.Codes.{PUK, PIN1, PIN2, allowed, value, code_of, closed, count_of}
use Rattle.rules.specs.Keys.{of_class, present}
use Rattle.rules.specs.Session.{root, esteid_directory, no_file, held_bytes, chain_bytes, with_selection}
use Rattle.rules.specs.Session.{with_environment, with_held, with_chain, with_job, all_active, no_job, drop_held}
use Rattle.rules.specs.Session.{drop_chain}
use Rattle.rules.specs.Files.{files_in, certificate_file, certificate_of, record_count, record_of}
use Rattle.rules.specs.Answers.{Step, SessionStep, response, code_status, session_status, status, in_session}
use Rattle.rules.specs.Answers.{more_bytes, give, hand_out}
use Rattle.rules.specs.FileCommands.{select, read_record, read_status, read_binary, get_response}
use Rattle.rules.specs.CodeCommands.{sw_not_allowed, sw_has_tries, verdict, judged, queried, verify, replaced}
use Rattle.rules.specs.CodeCommands.{unblocked, unblock_by_verified_puk, unblock_by_presented_puk, reset_retry}
use Rattle.rules.specs.Digests.{is_digest}
use Rattle.rules.specs.KeyCommands.{sw_without_pin, set_environment, kind_chosen, choosing, names_key, choose_key, job_key}
use Rattle.rules.specs.KeyCommands.{internal_authenticate, sign, decipher}
use Rattle.rules.specs.State.{good}
use Rattle.rules.specs.Judgement.{judge}
use Rattle.rules.specs.Delivery.{deliver}
use Rattle.rules.specs.Edge.{Result, refuse, answered, short_buffer, bad_certificate, job_waits, command, delivery}
use Rattle.rules.specs.Demands.{refusal_status}

-- A refusal: a status word that may not come with data, below 9000h.
abbrev pub refusing : ℕ → Bool
refusing sw = refusal_status sw && ltb sw 0x9000

-- The commands that change nothing but the session.
module _ (P : SessionStep → Type 0) (s : Session) where
  pub give_walk : (le : ℕ) (d : Bytes)
      → P (record { session = s; answer = response d 0x9000 })
      → P (session_status (with_held s d) (more_bytes (length d)))
      → P (give s le d)
  unfolding give
  give_walk le d whole held = split P (leb (length d) le) (λ _. whole) (λ _. held)

  pub select_walk : (h : Header) (d : Bytes)
      → P (session_status (with_selection s root no_file) 0x9000)
      → P (session_status (with_selection s esteid_directory no_file) 0x9000)
      → (member (word (byte_at d 0) (byte_at d 1)) (files_in s.selection.directory) ≡ true
      → P (session_status (with_selection s s.selection.directory (word (byte_at d 0) (byte_at d 1))) 0x9000))
      → P (session_status s 0x6A82)
      → P (select s h d)
  unfolding select
  select_walk h d top directory file none =
      split P (eqb h.p1 0x00) (λ _. top)
      (λ _. split P (eqb h.p1 0x01 && (eqb s.selection.directory root && eqb (word (byte_at d 0) (byte_at d 1)) esteid_directory))
      (λ _. directory)
      (λ _. split P (eqb h.p1 0x02 && member (word (byte_at d 0) (byte_at d 1)) (files_in s.selection.directory))
      (λ e. file (and_right (eqb h.p1 0x02) _ e))
      (λ _. none)))

  pub read_record_walk : (codes : List Code) (profile : Profile) (h : Header)
      → ((sw : ℕ) → refusing sw ≡ true → P (session_status s sw))
      → (h.p1 ≤ record_count s.selection.file → P (give s h.le (record_of codes profile s.selection.file h.p1)))
      → P (read_record codes profile s h)
  unfolding read_record
  read_record_walk codes profile h none there =
      split P (eqb s.selection.file no_file) (λ _. none 0x6986 refl)
      (λ _. split P (certificate_file s.selection.file) (λ _. none 0x6981 refl)
      (λ _. split P (ltb (record_count s.selection.file) h.p1) (λ _. none 0x6A83 refl)
      (λ e. there (ltb-false _ _ e))))

  pub read_binary_walk : (h : Header) (authentication signature : Bytes)
      → ((sw : ℕ) → refusing sw ≡ true → P (session_status s sw))
      → ((remaining : Bytes) → P (record { session = s; answer = response (take h.le remaining) 0x9000 }))
      → ((remaining : Bytes) → 1 ≤ length remaining → length remaining < h.le → h.le ≤ 255
      → P (record { session = s; answer = response (take h.le remaining) 0x6282 }))
      → P (read_binary s h authentication signature)
  unfolding read_binary read_status
  read_binary_walk h authentication signature none there ended =
      let certificate : Bytes = certificate_of s.selection.file authentication signature in
      let remaining : Bytes = drop (word h.p1 h.p2) certificate in
      let few : Bool = leb h.le 255 in
      let short : Bool = ltb (length remaining) h.le in
      split P (eqb s.selection.file no_file) (λ _. none 0x6986 refl)
      (λ _. split P (not (certificate_file s.selection.file)) (λ _. none 0x6981 refl)
      (λ _. split P (leb (length certificate) (word h.p1 h.p2)) (λ _. none 0x6B00 refl)
      (λ e. split (λ sw. P (record { session = s; answer = response (take h.le remaining) sw })) (few && short)
      (λ t. ended remaining (omega (arith, leb-false (length certificate) (word h.p1 h.p2) e, length-drop (word h.p1 h.p2) certificate))
      (ltb-true (length remaining) h.le (and_right few short t)) (leb-true h.le 255 (and_left few short t)))
      (λ _. there remaining))))

  pub get_response_walk : (h : Header)
      → P (session_status (drop_held s) 0x6985)
      → P (record { session = drop_held s; answer = response (held_bytes s) 0x9000 })
      → (h.le < length (held_bytes s) → P (record {
        session = with_held s (drop h.le (held_bytes s));
        answer = response (take h.le (held_bytes s)) (more_bytes (length (held_bytes s) - h.le));
      }))
      → P (get_response s h)
  unfolding get_response
  get_response_walk h none whole more =
      split P (eqb (length (held_bytes s)) 0) (λ _. none)
      (λ _. split P (leb (length (held_bytes s)) h.le) (λ _. whole) (λ e. more (leb-false _ _ e)))

  pub set_environment_walk : (h : Header)
      → ((eqb h.p2 1 || eqb h.p2 6) ≡ true → P (session_status (with_environment s h.p2 all_active) 0x9000))
      → P (session_status s 0x6A88)
      → P (set_environment s h)
  unfolding set_environment
  set_environment_walk h set none = split P (eqb h.p2 1 || eqb h.p2 6) set (λ _. none)

  pub choose_key_walk : (keys : List Bool) (h : Header) (d : Bytes)
      → ((sw : ℕ) → refusing sw ≡ true → P (session_status s sw))
      → P (session_status (choosing s (kind_chosen h.p2) 0) 0x9000)
      → (of_class (kind_chosen h.p2) (word (byte_at d 3) (byte_at d 4)) ≡ true → present keys (word (byte_at d 3) (byte_at d 4)) ≡ true
      → P (session_status (choosing s (kind_chosen h.p2) (word (byte_at d 3) (byte_at d 4))) 0x9000))
      → P (choose_key keys s h d)
  unfolding choose_key
  choose_key_walk keys h d none active chosen =
      let key : ℕ = word (byte_at d 3) (byte_at d 4) in
      split P (same d (0x83 ∷ 0x00 ∷ [])) (λ _. active)
      (λ _. split P (not (names_key d)) (λ _. none 0x6A80 refl)
      (λ _. split P (not (of_class (kind_chosen h.p2) key)) (λ _. none 0x6A80 refl)
      (λ class. split P (not (present keys key)) (λ _. none 0x6A88 refl)
      (λ there. chosen (not-false _ class) (not-false _ there)))))

  pub authenticate_walk : (codes : List Code) (references : Bytes) (h : Header) (d : Bytes)
      → ((sw : ℕ) → refusing sw ≡ true → P (session_status s sw))
      → ((code_of codes PIN1).verified ≡ true
      → P (hand_out s (kind_number Authenticate) (job_key references s (kind_number Authenticate)) h.le (padded d)))
      → P (internal_authenticate codes references s h d)
  unfolding internal_authenticate
  authenticate_walk codes references h d none handed =
      split P (not (eqb s.environment.number 1)) (λ _. none 0x6985 refl)
      (λ _. split P (not (code_of codes PIN1).verified) (λ _. none sw_without_pin refl)
      (λ e. handed (not-false _ e)))

  pub decipher_walk : (codes : List Code) (references : Bytes) (h : Header) (d : Bytes)
      → ((sw : ℕ) → refusing sw ≡ true → P (session_status (drop_chain s) sw))
      → (length (chain_bytes s ++ d) ≤ 257 → P (session_status (with_chain s (chain_bytes s ++ d)) 0x9000))
      → (length (chain_bytes s ++ d) ≡ 257 → (code_of codes PIN1).verified ≡ true
      → P (hand_out (drop_chain s) (kind_number Decipher) (job_key references s (kind_number Decipher)) h.le (drop 1 (chain_bytes s ++ d))))
      → P (decipher codes references s h d)
  unfolding decipher
  decipher_walk codes references h d none part handed =
      let joined : Bytes = chain_bytes s ++ d in
      split P (ltb 257 (length joined)) (λ _. none 0x6700 refl)
      (λ few. split P (eqb h.cla 0x10) (λ _. part (ltb-false _ _ few))
      (λ _. split P (not (eqb (length joined) 257)) (λ _. none 0x6700 refl)
      (λ whole. split P (not (eqb (byte_at joined 0) 0x00)) (λ _. none 0x6A80 refl)
      (λ _. split P (not (eqb s.environment.number 6)) (λ _. none 0x6985 refl)
      (λ _. split P (not (code_of codes PIN1).verified) (λ _. none sw_without_pin refl)
      (λ e. handed (eqb-true _ _ (not-false _ whole)) (not-false _ e)))))))

  pub deliver_walk : (result : Bytes)
      → P (session_status (with_job s no_job) 0x6400)
      → P (session_status (with_job s no_job) 0x6A80)
      → P (session_status (with_job s no_job) 0x9000)
      → (length result ≡ 256 → (n : ℕ) → P (give (with_job s no_job) s.job.le (drop n result)))
      → P (deliver s result)
  unfolding deliver
  deliver_walk result short broken empty message =
      split P (not (eqb (length result) 256)) (λ _. short)
      (λ e. let whole : length result ≡ 256 = eqb-true _ _ (not-false _ e) in
      split P (not (eqb s.job.kind (kind_number Decipher))) (λ _. message whole 0)
      (λ _. split P (eqb (strip result) 0) (λ _. broken)
      (λ _. split P (eqb (strip result) 256) (λ _. empty)
      (λ _. message whole (strip result)))))

-- 2A 9E 9A SIGN.
pub sign_walk : (P : Step → Type 0) (codes : List Code) (counts : List ℕ) (references : Bytes) (s : Session) (h : Header) (d : Bytes)
    → ((sw : ℕ) → refusing sw ≡ true → P (status codes counts s sw))
    → (is_digest d ≡ true → (code_of codes PIN2).verified ≡ true
    → P (in_session (closed codes PIN2) counts (hand_out s (kind_number Sign) (job_key references s (kind_number Sign)) h.le (padded d))))
    → P (sign codes counts references s h d)
unfolding sign
sign_walk P codes counts references s h d none handed =
    split P (not (is_digest d)) (λ _. none 0x6A80 refl)
    (λ digest. split P (not (eqb s.environment.number 1)) (λ _. none 0x6985 refl)
    (λ _. split P (not (code_of codes PIN2).verified) (λ _. none sw_without_pin refl)
    (λ e. handed (not-false _ digest) (not-false _ e))))

-- A presented value judged.
pub verdict_walk : (P : Verdict → Type 0) (v : Code) (presented : Bytes)
    → (v.tries ≡ 0 → P NoTries)
    → (1 ≤ v.tries → same presented (value v) ≡ true → P Right)
    → (1 ≤ v.tries → same presented (value v) ≡ false → P Wrong)
    → P (verdict v presented)
unfolding verdict
verdict_walk P v presented none right wrong =
    split P (eqb v.tries 0) (λ e. none (eqb-true _ _ e))
    (λ n. let some : 1 ≤ v.tries = omega (arith, eqb-false v.tries 0 n) in
    split P (same presented (value v)) (right some) (wrong some))

-- 20 VERIFY.
pub queried_walk : (P : CodeStep → Type 0) (codes : List Code) (k : ℕ)
    → ((code_of codes k).tries ≡ 0 → P (code_status codes 0x6983))
    → (1 ≤ (code_of codes k).tries → (code_of codes k).verified ≡ true → P (code_status codes 0x9000))
    → (1 ≤ (code_of codes k).tries → (code_of codes k).verified ≡ false → P (code_status codes (0x63C0 + (code_of codes k).tries)))
    → P (queried codes k)
unfolding queried
queried_walk P codes k none given other =
    split P (eqb (code_of codes k).tries 0) (λ e. none (eqb-true _ 0 e))
    (λ n. let some : 1 ≤ (code_of codes k).tries = omega (arith, eqb-false (code_of codes k).tries 0 n) in
    split P (code_of codes k).verified (given some) (other some))

pub verify_walk : (P : CodeStep → Type 0) (codes : List Code) (h : Header) (d : Bytes)
    → (h.lc ≡ 0 → P (queried codes h.p2))
    → (1 ≤ h.lc → P (judged codes h.p2 (verdict (code_of codes h.p2) d)))
    → P (verify codes h d)
unfolding verify
verify_walk P codes h d none some =
    split P (eqb h.lc 0) (λ e. none (eqb-true _ _ e)) (λ n. some (omega (arith, eqb-false h.lc 0 n)))

-- 24 CHANGE, and 2C RESET RETRY with P1 00.
pub replaced_walk : (P : CodeStep → Type 0) (codes : List Code) (k j : ℕ) (new : Bytes) (stored : List Code) (presented : Bytes)
    → ((code_of codes k).tries ≡ 0 → P (code_status codes 0x6983))
    → (1 ≤ (code_of codes k).tries → same presented (value (code_of codes k)) ≡ false → P (judged codes k Wrong))
    → P (code_status codes sw_not_allowed)
    → (1 ≤ (code_of codes k).tries → same presented (value (code_of codes k)) ≡ true → allowed j new ≡ true → P (code_status stored 0x9000))
    → P (replaced codes k j new stored (verdict (code_of codes k) presented))
unfolding replaced judged
replaced_walk P codes k j new stored presented none wrong bad done =
    verdict_walk (λ v. P (replaced codes k j new stored v)) (code_of codes k) presented none
    (λ some right. split P (not (allowed j new)) (λ _. bad) (λ e. done some right (not-false _ e)))
    wrong

-- 2C RESET RETRY.
pub verified_puk_walk : (P : CodeStep → Type 0) (codes : List Code) (pin : ℕ)
    → P (code_status codes 0x6982)
    → ((code_of codes PUK).verified ≡ true
    → P (code_status (unblocked codes pin (code_of codes pin) (code_of codes PUK).tries) 0x9000))
    → P (unblock_by_verified_puk codes pin)
unfolding unblock_by_verified_puk
verified_puk_walk P codes pin none done = split P (not (code_of codes PUK).verified) (λ _. none) (λ e. done (not-false _ e))

pub reset_retry_walk : (P : CodeStep → Type 0) (codes : List Code) (counts : List ℕ) (h : Header) (d : Bytes)
    → P (code_status codes sw_has_tries)
    → P (code_status codes 0x6983)
    → ((code_of codes h.p2).tries ≡ 0 → 1 ≤ count_of counts h.p2 → h.p1 ≡ 0x03 → P (unblock_by_verified_puk codes h.p2))
    → ((code_of codes h.p2).tries ≡ 0 → 1 ≤ count_of counts h.p2 → eqb h.p1 0x03 ≡ false → P (unblock_by_presented_puk codes h.p2 d))
    → P (reset_retry codes counts h d)
unfolding reset_retry
reset_retry_walk P codes counts h d none used verified presented =
    split P (not (eqb (code_of codes h.p2).tries 0)) (λ _. none)
    (λ z. let blocked : (code_of codes h.p2).tries ≡ 0 = eqb-true _ _ (not-false _ z) in
    split P (eqb (count_of counts h.p2) 0) (λ _. used)
    (λ n. let some : 1 ≤ count_of counts h.p2 = omega (arith, eqb-false (count_of counts h.p2) 0 n) in
    split P (eqb h.p1 0x03) (λ e. verified blocked some (eqb-true _ _ e)) (presented blocked some)))

-- The edge of a command, and of a delivery.
pub command_walk : (P : Result → Type 0) (c : Card) (apdu authentication signature buffer : Bytes)
    → ((n : ℕ) → P (refuse c buffer n))
    → (good c ≡ true → short_buffer buffer ≡ false → job_waits c ≡ false → P (answered buffer c (judge c apdu authentication signature)))
    → P (command c apdu authentication signature buffer)
unfolding command
command_walk P c apdu authentication signature buffer refused done =
    split P (not (good c)) (λ _. refused 1)
    (λ g. split P (short_buffer buffer) (λ _. refused 2)
    (λ room. split P (bad_certificate authentication || bad_certificate signature) (λ _. refused 3)
    (λ _. split P (job_waits c) (λ _. refused 4) (λ idle. done (not-false _ g) room idle))))

pub delivery_walk : (P : Result → Type 0) (c : Card) (result buffer : Bytes)
    → ((n : ℕ) → P (refuse c buffer n))
    → (good c ≡ true → short_buffer buffer ≡ false → P (answered buffer c (in_session c.codes c.counts (deliver c.session result))))
    → P (delivery c result buffer)
unfolding delivery
delivery_walk P c result buffer refused done =
    split P (not (good c)) (λ _. refused 1)
    (λ g. split P (short_buffer buffer) (λ _. refused 2)
    (λ room. split P (not (job_waits c)) (λ _. refused 5) (λ _. done (not-false _ g) room)))
