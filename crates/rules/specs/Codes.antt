-- Document 01, "What the card has": the three codes (reference data), their limits and their retry counters; document 02, wish 6: the
-- unblocking counts of the PINs.
-- "Tries left" is document 01's term for the retry counter, "verified mark" for the verified state of a code.
use Rattle.std.specs.Prelude.{ℕ, ◌-◌, Bool, false, cond, ◌&&◌, List, [], ◌∷◌, length, take, get_or, set, eqb, leb}
use Rattle.octets.specs.Octets.{Bytes, all_digits, blank, filled}
use Rattle.rules.specs.declared.Code.{Code}

-- The code numbers.
abbrev pub PUK : ℕ
PUK = 0

abbrev pub PIN1 : ℕ
PIN1 = 1

abbrev pub PIN2 : ℕ
PIN2 = 2

-- The least length: PUK 8, PIN1 4, PIN2 (the last row) 5.
unfoldable pub least : ℕ → ℕ
least k =
    cond (eqb k PUK) 8
    (cond (eqb k PIN1) 4
    5)

-- The greatest length of each code.
abbrev pub most : ℕ
most = 12

-- The three tries that a right value or an unblocking gives a code.
abbrev pub full_tries : ℕ
full_tries = 3

-- A value that code k may have: of allowed length, and digits.
unfoldable pub allowed : ℕ → Bytes → Bool
allowed k d = leb (least k) (length d) && leb (length d) most && all_digits d

-- The value that a code stores.
abbrev pub value : Code → Bytes
value v = take v.len v.digits

-- A code that stores a value, with its tries left and its verified mark.
abbrev pub storing : Bytes → ℕ → Bool → Code
storing d tries verified = record { digits = filled most d; len = length d; tries = tries; verified = verified }

-- The same code, with another value.
abbrev pub with_value : Code → Bytes → Code
with_value v d = storing d v.tries v.verified

-- The same value, with other tries left and another verified mark.
abbrev pub marked : Code → ℕ → Bool → Code
marked v tries verified = record { digits = v.digits; len = v.len; tries = tries; verified = verified }

-- A code of all zeros: in the all-zero state, and what stands where there is no code.
abbrev pub zero_code : Code
zero_code = record { digits = blank most; len = 0; tries = 0; verified = false }

-- Code k of the three.
abbrev pub code_of : List Code → ℕ → Code
code_of codes k = get_or codes k zero_code

-- The codes with code k replaced.
abbrev pub with_code : List Code → ℕ → Code → List Code
with_code codes k v = set codes k v

-- Code k's verified mark goes off.
abbrev pub closed : List Code → ℕ → List Code
closed codes k = with_code codes k (marked (code_of codes k) (code_of codes k).tries false)

-- Document 02, wish 6: the unblocking counts of PIN1 and PIN2, in this order. "Unblocking count" is document 02's term: how often RESET RETRY
-- may still unblock the PIN. A5h means no limit.
abbrev pub no_limit : ℕ
no_limit = 0xA5

abbrev pub no_limits : List ℕ
no_limits = no_limit ∷ no_limit ∷ []

-- The count of a PIN, by its code number, 1 or 2. PUK has none, and no rule asks for it.
abbrev pub count_of : List ℕ → ℕ → ℕ
count_of counts pin = get_or counts (pin - 1) 0

-- The counts with that of a PIN replaced.
abbrev pub with_count : List ℕ → ℕ → ℕ → List ℕ
with_count counts pin n = set counts (pin - 1) n

-- A count after an unblocking: one less, unless it is A5h. At 0 there is no unblocking (`CodeCommands.reset_retry`).
unfoldable pub lowered : ℕ → ℕ
lowered n = cond (eqb n no_limit) n (n - 1)

-- Neither PIN has a limit: A5h twice.
abbrev pub unlimited : List ℕ → Bool
unlimited counts = eqb (count_of counts PIN1) no_limit && eqb (count_of counts PIN2) no_limit
