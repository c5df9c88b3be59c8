-- Document 01, "Order of judgement for a command", step 7: MANAGE SECURITY ENVIRONMENT (22), INTERNAL AUTHENTICATE (88),
-- and PERFORM SECURITY OPERATION (2A): SIGN and DECIPHER.
use Rattle.std.specs.Prelude.{ℕ, ◌-◌, Bool, cond, not, ◌&&◌, ◌||◌, List, [], ◌∷◌, ◌++◌, length, take, drop, set, eqb, ltb}
use Rattle.octets.specs.Octets.{Bytes, byte_at, word, same}
use Rattle.pkcs1.specs.Pkcs1.{padded}
use Rattle.rules.specs.declared.Code.{Code}
use Rattle.rules.specs.declared.Session.{Session}
use Rattle.rules.specs.declared.Header.{Header}
use Rattle.rules.specs.declared.JobKind.TheVariants.{Authenticate, Sign, Decipher}
use Rattle.rules.specs.Numbers.{kind_number}
use Rattle.rules.specs.Codes.{PIN1, PIN2, code_of, closed}
use Rattle.rules.specs.Keys.{of_class, present, key_for}
use Rattle.rules.specs.Session.{all_active, chain_bytes, with_environment, with_chain, drop_chain}
use Rattle.rules.specs.Answers.{Step, SessionStep, in_session, status, session_status, hand_out}
use Rattle.rules.specs.Digests.{is_digest}

-- A key operation without its PIN: 6982.
abbrev pub sw_without_pin : ℕ
sw_without_pin = 0x6982

-- 22 F3. Environment P2, 1 or 6, else 6A88; all choices become "active".
unfoldable pub set_environment : Session → Header → SessionStep
set_environment s h =
    cond (eqb h.p2 1 || eqb h.p2 6) (session_status (with_environment s h.p2 all_active) 0x9000)
    (session_status s 0x6A88)

-- 22 41: the kind of job that P2 names: A4 authenticate, B6 sign, B8 (the last row) decipher.
unfoldable pub kind_chosen : ℕ → ℕ
kind_chosen p2 =
    cond (eqb p2 0xA4) (kind_number Authenticate)
    (cond (eqb p2 0xB6) (kind_number Sign)
    (kind_number Decipher))

-- The session with another key choice for a job of this kind; 0 is "active".
abbrev pub choosing : Session → ℕ → ℕ → Session
choosing s kind key = with_environment s s.environment.number (set s.environment.choices (kind - 1) key)

-- The shape of 22 41 that names a key: 83 03 80 and two bytes.
abbrev pub names_key : Bytes → Bool
names_key d = eqb (length d) 5 && same (take 3 d) (0x83 ∷ 0x03 ∷ 0x80 ∷ [])

-- 22 41. 83 00 chooses active; 83 03 80 and two bytes a key. Other shape, unknown key or wrong class 6A80; key not on the card 6A88.
unfoldable pub choose_key : List Bool → Session → Header → Bytes → SessionStep
choose_key keys s h d =
    let kind = kind_chosen h.p2 in
    let key = word (byte_at d 3) (byte_at d 4) in
    cond (same d (0x83 ∷ 0x00 ∷ [])) (session_status (choosing s kind 0) 0x9000)
    (cond (not (names_key d)) (session_status s 0x6A80)
    (cond (not (of_class kind key)) (session_status s 0x6A80)
    (cond (not (present keys key)) (session_status s 0x6A88)
    (session_status (choosing s kind key) 0x9000))))

-- The key that a job of this kind takes in a session.
abbrev pub job_key : Bytes → Session → ℕ → ℕ
job_key references s kind = key_for references s.environment.choices kind

-- 88 INTERNAL AUTHENTICATE. Environment not 1: 6985; PIN1 not verified 6982. Job 1.
unfoldable pub internal_authenticate : List Code → Bytes → Session → Header → Bytes → SessionStep
internal_authenticate codes references s h d =
    let kind = kind_number Authenticate in
    cond (not (eqb s.environment.number 1)) (session_status s 0x6985)
    (cond (not (code_of codes PIN1).verified) (session_status s sw_without_pin)
    (hand_out s kind (job_key references s kind) h.le (padded d)))

-- 2A 9E 9A SIGN. Not a digest of the list 6A80; environment not 1: 6985; PIN2 not verified 6982.
-- Job 2, and PIN2's mark goes off as the job is handed out (house, after userConsent 1 in 001). The unblocking counts stay.
unfoldable pub sign : List Code → List ℕ → Bytes → Session → Header → Bytes → Step
sign codes counts references s h d =
    let kind = kind_number Sign in
    cond (not (is_digest d)) (status codes counts s 0x6A80)
    (cond (not (eqb s.environment.number 1)) (status codes counts s 0x6985)
    (cond (not (code_of codes PIN2).verified) (status codes counts s sw_without_pin)
    (in_session (closed codes PIN2) counts (hand_out s kind (job_key references s kind) h.le (padded d)))))

-- 2A 80 86 DECIPHER of class 00h, once 257 bytes are joined: first byte not 00, 6A80; environment not 6: 6985; PIN1 not verified 6982;
-- job 3 with the last 256. Each empties the chain.
abbrev pub decipher_whole : List Code → Bytes → Session → Header → Bytes → SessionStep
decipher_whole codes references s h joined =
    let kind = kind_number Decipher in
    let emptied = drop_chain s in
    cond (not (eqb (byte_at joined 0) 0x00)) (session_status emptied 0x6A80)
    (cond (not (eqb s.environment.number 6)) (session_status emptied 0x6985)
    (cond (not (code_of codes PIN1).verified) (session_status emptied sw_without_pin)
    (hand_out emptied kind (job_key references s kind) h.le (drop 1 joined))))

-- 2A 80 86 DECIPHER joins the chain. Over 257: 6700. Class 10h: 9000. Class 00h (the last two rows): total not 257, 6700; else the whole is
-- deciphered. All but the 9000 empty the chain.
unfoldable pub decipher : List Code → Bytes → Session → Header → Bytes → SessionStep
decipher codes references s h d =
    let joined = chain_bytes s ++ d in
    cond (ltb 257 (length joined)) (session_status (drop_chain s) 0x6700)
    (cond (eqb h.cla 0x10) (session_status (with_chain s joined) 0x9000)
    (cond (not (eqb (length joined) 257)) (session_status (drop_chain s) 0x6700)
    (decipher_whole codes references s h joined)))
