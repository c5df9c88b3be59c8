-- Document 01, "The edge": what a good state is ("good" is document 01's term). Nothing more is asked. Since document 02's wish 3 it keeps
-- the image's ranges and key order too. Of each list the length is asked as well; the card's declared types have exactly these.
use Rattle.std.specs.Prelude.{ℕ, zero, suc, Bool, true, cond, not, ◌&&◌, ◌||◌, List, [], ◌∷◌, length, get_or, eqb, leb}
use Rattle.octets.specs.Octets.{Bytes, every, member, all_digits, good_room}
use Rattle.rules.specs.declared.Card.{Card}
use Rattle.rules.specs.declared.Code.{Code}
use Rattle.rules.specs.declared.Profile.{Profile}
use Rattle.rules.specs.declared.Record.{Record}
use Rattle.rules.specs.declared.Session.{Session}
use Rattle.rules.specs.declared.Selection.{Selection}
use Rattle.rules.specs.declared.Environment.{Environment}
use Rattle.rules.specs.declared.Held.{Held}
use Rattle.rules.specs.declared.Chain.{Chain}
use Rattle.rules.specs.declared.Job.{Job}
use Rattle.rules.specs.declared.JobKind.TheVariants.{Authenticate, Sign, Decipher}
use Rattle.rules.specs.Numbers.{kind_number}
use Rattle.rules.specs.Codes.{PUK, PIN1, PIN2, least, most, full_tries, value, code_of, no_limit, count_of}
use Rattle.rules.specs.Keys.{usable, active_key, choice_of}
use Rattle.rules.specs.Session.{root, esteid_directory, no_file}
use Rattle.rules.specs.Files.{files_in, no_record}

-- Code k: 8, 4 or 5 to 12 digits, 0 to 3 tries left, and verified implies 3 tries.
unfoldable pub good_code : ℕ → Code → Bool
good_code k v =
    every (
    good_room most v.digits v.len
    ∷ leb (least k) v.len
    ∷ all_digits (value v)
    ∷ leb v.tries full_tries
    ∷ (not v.verified || eqb v.tries full_tries)
    ∷ []
    )

-- The three codes.
unfoldable pub good_codes : List Code → Bool
good_codes codes =
    every (
    eqb (length codes) 3
    ∷ good_code PUK (code_of codes PUK)
    ∷ good_code PIN1 (code_of codes PIN1)
    ∷ good_code PIN2 (code_of codes PIN2)
    ∷ []
    )

-- The two unblocking counts, each 0 to A5h (02, wish 6).
unfoldable pub good_counts : List ℕ → Bool
good_counts counts =
    every (
    eqb (length counts) 2
    ∷ leb (count_of counts PIN1) no_limit
    ∷ leb (count_of counts PIN2) no_limit
    ∷ []
    )

-- The record of 0033h has 21 bytes, and the active key of each class is present and of its class.
unfoldable pub good_references : List Bool → Bytes → Bool
good_references keys references =
    every (
    eqb (length references) 21
    ∷ usable keys (kind_number Authenticate) (active_key references (kind_number Authenticate))
    ∷ usable keys (kind_number Sign) (active_key references (kind_number Sign))
    ∷ []
    )

-- A personal record: 1 to 64 bytes, and zeros in the unused places.
abbrev pub good_record : Record → Bool
good_record r = leb 1 r.len && good_room 64 r.bytes r.len

-- The first n personal records are good.
unfoldable pub good_records : ℕ → List Record → Bool
good_records zero rs = true
good_records (suc n) rs = good_records n rs && good_record (get_or rs n no_record)

-- Four key marks, whose order is the image's; the record of 0033h; sixteen personal records.
unfoldable pub good_profile : Profile → Bool
good_profile p =
    every (
    eqb (length p.keys) 4
    ∷ good_references p.keys p.references
    ∷ eqb (length p.personal) 16
    ∷ good_records 16 p.personal
    ∷ []
    )

-- The current directory is one of the two; the current file, if any, is in it.
unfoldable pub good_selection : Selection → Bool
good_selection s =
    every (
    (eqb s.directory root || eqb s.directory esteid_directory)
    ∷ (eqb s.file no_file || member s.file (files_in s.directory))
    ∷ []
    )

-- A key choice: "active", or a present key of its class.
abbrev pub good_choice : List Bool → List ℕ → ℕ → Bool
good_choice keys choices kind = eqb (choice_of choices kind) 0 || usable keys kind (choice_of choices kind)

-- The environment number is 1 or 6, and each of the three choices is good.
unfoldable pub good_environment : List Bool → Environment → Bool
good_environment keys e =
    every (
    eqb (length e.choices) 3
    ∷ (eqb e.number 1 || eqb e.number 6)
    ∷ good_choice keys e.choices (kind_number Authenticate)
    ∷ good_choice keys e.choices (kind_number Sign)
    ∷ good_choice keys e.choices (kind_number Decipher)
    ∷ []
    )

-- The held answer has at most 256 bytes.
abbrev pub good_held : Held → Bool
good_held h = good_room 256 h.bytes h.len

-- The chain has at most 257 bytes, and its last place is empty.
abbrev pub good_chain : Chain → Bool
good_chain n = leb n.len 257 && good_room 258 n.bytes n.len

-- A waiting job has kind 1 to 3, a present key of that kind's class, and Le none or 1 to 256. No job is all zeros.
unfoldable pub good_job : List Bool → Job → Bool
good_job keys j =
    cond (eqb j.kind 0)
    (every (eqb j.key 0 ∷ eqb j.le 0 ∷ []))
    (every (leb j.kind 3 ∷ usable keys j.kind j.key ∷ leb j.le 256 ∷ []))

-- A waiting job excludes held data and a chain.
abbrev pub job_excludes : Session → Bool
job_excludes s = eqb s.job.kind 0 || (eqb s.held.len 0 && eqb s.chain.len 0)

unfoldable pub good_session : List Bool → Session → Bool
good_session keys s =
    every (
    good_selection s.selection
    ∷ good_environment keys s.environment
    ∷ good_held s.held
    ∷ good_chain s.chain
    ∷ good_job keys s.job
    ∷ job_excludes s
    ∷ []
    )

-- A good state.
unfoldable pub good : Card → Bool
good c =
    every (
    good_codes c.codes
    ∷ good_counts c.counts
    ∷ good_profile c.profile
    ∷ good_session c.profile.keys c.session
    ∷ []
    )
