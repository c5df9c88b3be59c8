-- Document 01, "Order of judgement for a command": steps 1 to 7, and what drops the held answer and the chain.
use Rattle.std.specs.Prelude.{ℕ, Bool, true, cond, not, ◌&&◌, ◌||◌, List, [], ◌∷◌, map, eqb, leb, ltb}
use Rattle.octets.specs.Octets.{Bytes, member}
use Rattle.rules.specs.declared.Card.{Card}
use Rattle.rules.specs.declared.Command.{Command}
use Rattle.rules.specs.declared.Command.TheVariants.{Select, ReadRecord, ReadBinary, GetResponse, Verify, Change}
use Rattle.rules.specs.declared.Command.TheVariants.{ResetRetry, SetEnvironment, ChooseKey, InternalAuthenticate}
use Rattle.rules.specs.declared.Command.TheVariants.{ComputeSignature, Decipher}
use Rattle.rules.specs.declared.Header.{Header}
use Rattle.rules.specs.Numbers.{LengthForm, form, refused, Naming, names, names_none}
use Rattle.rules.specs.Apdu.{parse, data_of}
use Rattle.rules.specs.Session.{drop_held, drop_chain, drop_both}
use Rattle.rules.specs.Answers.{Step, status, in_session, in_codes}
use Rattle.rules.specs.FileCommands.{select, read_record, read_binary, get_response}
use Rattle.rules.specs.CodeCommands.{verify, change, reset_retry, counts_left}
use Rattle.rules.specs.KeyCommands.{set_environment, choose_key, internal_authenticate, sign, decipher}

-- The commands, in document 01's order.
abbrev pub commands : List Command
commands =
    Select
    ∷ ReadRecord
    ∷ ReadBinary
    ∷ GetResponse
    ∷ Verify
    ∷ Change
    ∷ ResetRetry
    ∷ SetEnvironment
    ∷ ChooseKey
    ∷ InternalAuthenticate
    ∷ ComputeSignature
    ∷ Decipher
    ∷ []

-- The instruction of each.
unfoldable pub instruction : Command → ℕ
instruction Select = 0xA4
instruction ReadRecord = 0xB2
instruction ReadBinary = 0xB0
instruction GetResponse = 0xC0
instruction Verify = 0x20
instruction Change = 0x24
instruction ResetRetry = 0x2C
instruction SetEnvironment = 0x22
instruction ChooseKey = 0x22
instruction InternalAuthenticate = 0x88
instruction ComputeSignature = 0x2A
instruction Decipher = 0x2A

-- P1 and P2 of each. P2 of 22 F3 is judged by the command's own rules (6A88).
unfoldable pub parameters : Command → ℕ → ℕ → Bool
parameters Select p1 p2 = leb p1 0x02 && eqb p2 0x0C
parameters ReadRecord p1 p2 = not (eqb p1 0x00) && eqb p2 0x04
parameters ReadBinary p1 p2 = ltb p1 0x80
parameters GetResponse p1 p2 = eqb p1 0x00 && eqb p2 0x00
parameters Verify p1 p2 = eqb p1 0x00 && leb p2 2
parameters Change p1 p2 = eqb p1 0x00 && leb p2 2
parameters ResetRetry p1 p2 = (eqb p1 0x00 || eqb p1 0x03) && (leb 1 p2 && leb p2 2)
parameters SetEnvironment p1 p2 = eqb p1 0xF3
parameters ChooseKey p1 p2 = eqb p1 0x41 && (eqb p2 0xA4 || eqb p2 0xB6 || eqb p2 0xB8)
parameters InternalAuthenticate p1 p2 = eqb p1 0x00 && eqb p2 0x00
parameters ComputeSignature p1 p2 = eqb p1 0x9E && eqb p2 0x9A
parameters Decipher p1 p2 = eqb p1 0x80 && eqb p2 0x86

-- Data that a command must not have, and must have; Le that it must have.
abbrev pub no_data : Header → Bool
no_data h = eqb h.lc 0

abbrev pub has_data : Header → Bool
has_data h = leb 1 h.lc

abbrev pub has_le : Header → Bool
has_le h = leb 1 h.le

-- Data and Le of each. Le that isn't needed is ignored. VERIFY has data or none (02, wish 1).
unfoldable pub lengths : Command → Header → Bool
lengths Select h = cond (eqb h.p1 0x00) (no_data h) (eqb h.lc 2)
lengths ReadRecord h = no_data h
lengths ReadBinary h = no_data h && has_le h
lengths GetResponse h = no_data h && has_le h
lengths Verify h = true
lengths Change h = has_data h
lengths ResetRetry h = cond (eqb h.p1 0x03) (no_data h) (has_data h)
lengths SetEnvironment h = no_data h
lengths ChooseKey h = has_data h
lengths InternalAuthenticate h = has_data h && leb h.lc 245
lengths ComputeSignature h = has_data h
lengths Decipher h = has_data h

-- The own rules of each. Every call except a GET RESPONSE that yields data drops the held answer; every one except a 2A 80 86 that
-- passes 1 to 6 drops the chain. So GET RESPONSE gets the held answer and 2A 80 86 the chain, and their own rules say what becomes of it.
unfoldable pub own_rules : Command → Card → Header → Bytes → Bytes → Bytes → Step
own_rules Select c h d authentication signature = in_session c.codes c.counts (select (drop_both c.session) h d)
own_rules ReadRecord c h d authentication signature = in_session c.codes c.counts (read_record c.codes c.profile (drop_both c.session) h)
own_rules ReadBinary c h d authentication signature = in_session c.codes c.counts (read_binary (drop_both c.session) h authentication signature)
own_rules GetResponse c h d authentication signature = in_session c.codes c.counts (get_response (drop_chain c.session) h)
own_rules Verify c h d authentication signature = in_codes c.counts (drop_both c.session) (verify c.codes h d)
own_rules Change c h d authentication signature = in_codes c.counts (drop_both c.session) (change c.codes h d)
own_rules ResetRetry c h d authentication signature =
    let o = reset_retry c.codes c.counts h d in
    in_codes (counts_left c.counts h.p2 o.sw) (drop_both c.session) o
own_rules SetEnvironment c h d authentication signature = in_session c.codes c.counts (set_environment (drop_both c.session) h)
own_rules ChooseKey c h d authentication signature = in_session c.codes c.counts (choose_key c.profile.keys (drop_both c.session) h d)
own_rules InternalAuthenticate c h d authentication signature =
    in_session c.codes c.counts (internal_authenticate c.codes c.profile.references (drop_both c.session) h d)
own_rules ComputeSignature c h d authentication signature = sign c.codes c.counts c.profile.references (drop_both c.session) h d
own_rules Decipher c h d authentication signature =
    in_session c.codes c.counts (decipher c.codes c.profile.references (drop_held c.session) h d)

-- A refusal by steps 1 to 6 drops the held answer and the chain.
abbrev pub refusal : Card → ℕ → Step
refusal c sw = status c.codes c.counts (drop_both c.session) sw

-- 2. Class 00h or 10h, else 6E00.
abbrev pub known_class : Header → Bool
known_class h = member h.cla (0x00 ∷ 0x10 ∷ [])

-- 3. Instruction in the list, else 6D00.
unfoldable pub known_instruction : Header → Bool
known_instruction h = member h.ins (map instruction commands)

-- 4. Class 10h only with 2A 80 86, else 6884.
abbrev pub bad_chaining : Header → Bool
bad_chaining h = eqb h.cla 0x10 && not (eqb h.ins 0x2A && eqb h.p1 0x80 && eqb h.p2 0x86)

-- 5. P1, P2, else 6A86: the command of a list that the header names.
unfoldable pub named_in : Header → List Command → Naming
named_in h [] = names_none 0x6A86
named_in h (x ∷ xs) =
    cond (eqb h.ins (instruction x) && parameters x h.p1 h.p2) (names x)
    (named_in h xs)

-- 6. Data and Le presence and lengths, else 6700. 7. The command's own rules.
unfoldable pub judge_named : Naming → Card → Header → Bytes → Bytes → Bytes → Step
judge_named (names_none sw) c h d authentication signature = refusal c sw
judge_named (names x) c h d authentication signature =
    cond (not (lengths x h)) (refusal c 0x6700)
    (own_rules x c h d authentication signature)

-- Steps 2 to 7, first in that order.
unfoldable pub judge_header : Card → Header → Bytes → Bytes → Bytes → Step
judge_header c h d authentication signature =
    cond (not (known_class h)) (refusal c 0x6E00)
    (cond (not (known_instruction h)) (refusal c 0x6D00)
    (cond (bad_chaining h) (refusal c 0x6884)
    (judge_named (named_in h commands) c h d authentication signature)))

-- 1. Length form, else 6700.
unfoldable pub judge_form : Card → Bytes → LengthForm → Bytes → Bytes → Step
judge_form c b (refused sw) authentication signature = refusal c sw
judge_form c b (form h start) authentication signature = judge_header c h (data_of b start h) authentication signature

unfoldable pub judge : Card → Bytes → Bytes → Bytes → Step
judge c b authentication signature = judge_form c b (parse b) authentication signature
