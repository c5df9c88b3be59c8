-- Document 01, "Order of judgement for a command", step 7: SIGN with its digests, and DECIPHER with its chain.
use Rattle.std.specs.Prelude.{ℕ, suc, ◌-◌, ◌≡◌, true, false, not, List, [], ◌∷◌, ◌++◌, map, length, replicate, eqb}
use Rattle.octets.specs.Octets.{Bytes}
use Rattle.rules.specs.declared.Card.{Card}
use Rattle.rules.specs.Digests.{Form, forms}
use Rattle.rules.specs.Counting.{Call}
use Rattle.rules.specs.Sample.{sample_card}
use Rattle.rules.specs.Cases.{shows, hands, deliver_to, with_body, sign_sha1, decipher_part, sw, fresh}
use Rattle.cases.specs.Turns.{Run, ◌⇒◌, from, Shown, marks, sending, sending_with_le, block, sample_marks}
use Rattle.cases.specs.Turns.{second_open, in_environment, chained, word_on, counted, sieved, bytes}

-- The five digests, a prefix and how many bytes follow it, written out from document 01 and not taken from the rules.
abbrev pub sha1 : Form
sha1 =
    record {
      prefix =
          0x30 ∷ 0x21 ∷ 0x30 ∷ 0x09 ∷ 0x06 ∷ 0x05 ∷ 0x2B ∷ 0x0E ∷ 0x03 ∷ 0x02 ∷ 0x1A ∷ 0x05 ∷ 0x00 ∷ 0x04 ∷ 0x14 ∷ [];
      count = 20;
    }

abbrev pub sha2 : ℕ → ℕ → ℕ → Form
sha2 l a h =
    record {
      prefix =
          0x30 ∷ l ∷ 0x30 ∷ 0x0D ∷ 0x06 ∷ 0x09 ∷ 0x60 ∷ 0x86 ∷ 0x48 ∷ 0x01 ∷ 0x65 ∷ 0x03 ∷ 0x04 ∷ 0x02 ∷ a
          ∷ 0x05 ∷ 0x00 ∷ 0x04 ∷ h ∷ [];
      count = h;
    }

abbrev pub digests : List Form
digests = sha1 ∷ sha2 0x2D 0x04 0x1C ∷ sha2 0x31 0x01 0x20 ∷ sha2 0x41 0x02 0x30 ∷ sha2 0x51 0x03 0x40 ∷ []

-- The rules have these five and no other.
abbrev pub FormsListed : Type 0
FormsListed = forms ≡ digests

-- A digest with n bytes behind its prefix.
abbrev pub followed : Form → ℕ → Bytes
followed x n = x.prefix ++ replicate n 0x07

abbrev pub signing : Bytes → Call
signing d = sending 0x2A 0x9E 0x9A d

-- SIGN of a whole digest hands it out, with PIN2 verified and in environment 1; all codes were verified, PIN2's mark
-- goes off.
abbrev pub sign_case : Form → Run
sign_case x =
    record {
      card = sample_marks true true true;
      turns = signing (followed x x.count) ⇒ hands 2 0x0100 (block (followed x x.count)) ∷ [];
      codes = marks true true false;
    }

-- A string with one byte raised by one, for each of its bytes.
abbrev pub raised : Bytes → List Bytes
raised [] = []
raised (x ∷ xs) = (suc x ∷ xs) ∷ map (λ ys. x ∷ ys) (raised xs)

-- What comes near a digest: its prefix with any other number of bytes, and a prefix with one byte raised.
abbrev pub near : Form → List Bytes
near x =
    map (followed x) (sieved (λ n. not (eqb n x.count)) (counted (256 - length x.prefix) 0))
    ++ map (λ p. p ++ replicate x.count 0x07) (raised x.prefix)

abbrev pub joined : {A : Type 0} → List (List A) → List A
joined [] = []
joined (x ∷ xs) = x ++ joined xs

-- What is not in the list: MD5; RIPEMD-160, which has the lengths of SHA-1; SHA-256 without the parameters 05 00, and with a
-- length of two bytes; SHA-512/224, SHA-512/256 and the four of SHA3, which have the SHA-2 form with another A.
abbrev pub md5 : Form
md5 =
    record {
      prefix =
          0x30 ∷ 0x20 ∷ 0x30 ∷ 0x0C ∷ 0x06 ∷ 0x08 ∷ 0x2A ∷ 0x86 ∷ 0x48 ∷ 0x86 ∷ 0xF7 ∷ 0x0D ∷ 0x02 ∷ 0x05
          ∷ 0x05 ∷ 0x00 ∷ 0x04 ∷ 0x10 ∷ [];
      count = 16;
    }

abbrev pub ripemd160 : Form
ripemd160 =
    record {
      prefix =
          0x30 ∷ 0x21 ∷ 0x30 ∷ 0x09 ∷ 0x06 ∷ 0x05 ∷ 0x2B ∷ 0x24 ∷ 0x03 ∷ 0x02 ∷ 0x01 ∷ 0x05 ∷ 0x00 ∷ 0x04 ∷ 0x14 ∷ [];
      count = 20;
    }

abbrev pub without_parameters : Form
without_parameters =
    record {
      prefix =
          0x30 ∷ 0x2F ∷ 0x30 ∷ 0x0B ∷ 0x06 ∷ 0x09 ∷ 0x60 ∷ 0x86 ∷ 0x48 ∷ 0x01 ∷ 0x65 ∷ 0x03 ∷ 0x04 ∷ 0x02 ∷ 0x01
          ∷ 0x04 ∷ 0x20 ∷ [];
      count = 32;
    }

abbrev pub with_long_length : Form
with_long_length =
    record {
      prefix =
          0x30 ∷ 0x81 ∷ 0x31 ∷ 0x30 ∷ 0x0D ∷ 0x06 ∷ 0x09 ∷ 0x60 ∷ 0x86 ∷ 0x48 ∷ 0x01 ∷ 0x65 ∷ 0x03 ∷ 0x04 ∷ 0x02 ∷ 0x01
          ∷ 0x05 ∷ 0x00 ∷ 0x04 ∷ 0x20 ∷ [];
      count = 32;
    }

abbrev pub unlisted : List Form
unlisted =
    md5
    ∷ ripemd160
    ∷ without_parameters
    ∷ with_long_length
    ∷ sha2 0x2D 0x05 0x1C
    ∷ sha2 0x31 0x06 0x20
    ∷ sha2 0x2D 0x07 0x1C
    ∷ sha2 0x31 0x08 0x20
    ∷ sha2 0x41 0x09 0x30
    ∷ sha2 0x51 0x0A 0x40
    ∷ []

-- The status word of SIGN of some data; 0 for a job.
abbrev pub sign_word : Card → Bytes → ℕ
sign_word c d = word_on c (0x00 ∷ 0x2A ∷ 0x9E ∷ 0x9A ∷ length d ∷ d)

-- The status words of SIGN for the bytes 07 and 30, each 1 to 255 times, for what is not in the list and for what comes
-- near a digest, with all codes verified.
unfoldable pub spoilt : List ℕ
spoilt =
    map (sign_word (sample_marks true true true))
    (map (λ n. replicate n 0x07) (counted 255 1)
    ++ map (λ n. replicate n 0x30) (counted 255 1)
    ++ map (λ x. followed x x.count) unlisted
    ++ joined (map near digests))

abbrev pub SpoiltDigests : Type 0
SpoiltDigests = spoilt ≡ replicate 1795 0x6A80

-- SIGN of each digest, its hash each byte again and again, on the second card with all codes verified: the bytes of the
-- hash are not looked at, and each is a job.
unfoldable pub hashes : List ℕ
hashes =
    joined (map (λ x. map (λ b. sign_word second_open (x.prefix ++ replicate x.count b)) bytes) digests)

abbrev pub AnyHash : Type 0
AnyHash = hashes ≡ replicate 1280 0

-- The status words of SIGN for the SHA-2 form with each L and each H of the four rows and each byte A, H bytes
-- behind it, on the second card with all codes verified.
unfoldable pub mixed : List ℕ
mixed =
    map (λ x. sign_word second_open (followed x x.count))
    (joined
    (map (λ l. joined (map (λ h. map (λ a. sha2 l a h) bytes) (0x1C ∷ 0x20 ∷ 0x30 ∷ 0x40 ∷ [])))
    (0x2D ∷ 0x31 ∷ 0x41 ∷ 0x51 ∷ [])))

-- The words for the 256 bytes A: all 6A80; all but one, which is a job.
abbrev pub all_refused : List ℕ
all_refused = replicate 256 0x6A80

abbrev pub all_refused_but : ℕ → List ℕ
all_refused_but a = replicate a 0x6A80 ++ 0 ∷ replicate (255 - a) 0x6A80

-- (L, A, H) = (2D, 04, 1C), (31, 01, 20), (41, 02, 30), (51, 03, 40), and no other of these.
abbrev pub MixedRows : Type 0
MixedRows =
    mixed
    ≡ all_refused_but 0x04 ++ all_refused ++ all_refused ++ all_refused
    ++ all_refused ++ all_refused_but 0x01 ++ all_refused ++ all_refused
    ++ all_refused ++ all_refused ++ all_refused_but 0x02 ++ all_refused
    ++ all_refused ++ all_refused ++ all_refused ++ all_refused_but 0x03

-- 2A 80 86 of class 00h, with a body.
abbrev pub deciphering : Bytes → Call
deciphering = sending 0x2A 0x80 0x86

-- The sample card in environment 6 with PIN1 verified.
abbrev pub ready : Card
ready = in_environment 6 (sample_marks false true false)

unfoldable pub jobs : List Run
jobs =
    -- 2A 9E 9A: each digest of the list is handed out, job 2 with its block; PIN2's mark goes off, no other
    map sign_case digests
    -- not a digest 6A80, before environment not 1: 6985, before PIN2 not verified 6982
    ++ from (in_environment 6 sample_card) (signing (replicate 35 0x07) ⇒ sw 0x6A80 ∷ sign_sha1 ⇒ sw 0x6985 ∷ []) fresh
    ∷ record {
      card = sample_marks true true false;
      turns =
          sign_sha1 ⇒ sw 0x6982
          ∷ signing (0x30 ∷ []) ⇒ sw 0x6A80
          ∷ [];
      codes = marks true true false;
    }
    -- a refused SIGN leaves PIN2's mark
    ∷ record {
      card = in_environment 6 (sample_marks true true true);
      turns =
          signing (0x30 ∷ []) ⇒ sw 0x6A80
          ∷ sign_sha1 ⇒ sw 0x6985
          ∷ [];
      codes = marks true true true;
    }
    -- the job keeps the command's Le
    ∷ record {
      card = sample_marks false false true;
      turns =
          sending_with_le 0x2A 0x9E 0x9A (followed sha1 20) 0x00 ⇒ hands 2 0x0100 (block (followed sha1 20))
          ∷ deliver_to (replicate 256 0x5A) ⇒ shows (replicate 256 0x5A) 0x9000
          ∷ [];
      codes = fresh;
    }
    -- 2A 80 86: parts are joined in order; job 3 with the last 256; PIN1's mark stays
    ∷ record {
      card = ready;
      turns =
          with_body 0x10 0x2A 0x80 0x86 (0x00 ∷ replicate 99 0x11) ⇒ sw 0x9000
          ∷ with_body 0x10 0x2A 0x80 0x86 (replicate 100 0x22) ⇒ sw 0x9000
          ∷ deciphering (replicate 57 0x33) ⇒
          hands 3 0x1100 (replicate 99 0x11 ++ (replicate 100 0x22 ++ replicate 57 0x33))
          ∷ [];
      codes = marks false true false;
    }
    -- its Le is the last command's
    ∷ record {
      card = chained 255 ready;
      turns =
          sending_with_le 0x2A 0x80 0x86 (0x01 ∷ 0x02 ∷ []) 0x02 ⇒ hands 3 0x1100 (replicate 254 0x00 ++ 0x01 ∷ 0x02 ∷ [])
          ∷ deliver_to (0x00 ∷ 0x02 ∷ (replicate 251 0x55 ++ 0x00 ∷ 0x41 ∷ 0x42 ∷ [])) ⇒ shows (0x41 ∷ 0x42 ∷ []) 0x9000
          ∷ [];
      codes = marks false true false;
    }
    -- class 10h: 9000 up to 257, in any environment and without PIN1, whatever the first byte
    ∷ from (chained 255 sample_card) (decipher_part 0x10 2 ⇒ sw 0x9000 ∷ []) fresh
    ∷ record {
      card = sample_card;
      turns =
          with_body 0x10 0x2A 0x80 0x86 (0x81 ∷ []) ⇒ sw 0x9000
          ∷ decipher_part 0x10 254 ⇒ sw 0x9000
          ∷ decipher_part 0x10 2 ⇒ sw 0x9000
          ∷ [];
      codes = fresh;
    }
    -- over 257: 6700 in either class, and the chain is empty
    ∷ record {
      card = chained 255 ready;
      turns =
          decipher_part 0x10 3 ⇒ sw 0x6700
          ∷ decipher_part 0x00 2 ⇒ sw 0x6700
          ∷ [];
      codes = marks false true false;
    }
    ∷ record {
      card = chained 257 ready;
      turns =
          decipher_part 0x00 1 ⇒ sw 0x6700
          ∷ decipher_part 0x10 255 ⇒ sw 0x9000
          ∷ decipher_part 0x00 2 ⇒ hands 3 0x1100 (replicate 256 0x00)
          ∷ [];
      codes = marks false true false;
    }
    ∷ from (chained 257 ready) (decipher_part 0x10 1 ⇒ sw 0x6700 ∷ []) (marks false true false)
    -- class 00h, total not 257: 6700, before the first byte, and the chain is empty
    ∷ record {
      card = chained 254 ready;
      turns =
          decipher_part 0x00 2 ⇒ sw 0x6700
          ∷ decipher_part 0x00 3 ⇒ sw 0x6700
          ∷ [];
      codes = marks false true false;
    }
    ∷ record {
      card = ready;
      turns =
          deciphering (replicate 255 0x81) ⇒ sw 0x6700
          ∷ deciphering (0x00 ∷ []) ⇒ sw 0x6700
          ∷ [];
      codes = marks false true false;
    }
    -- first byte not 00, 6A80, before the environment and PIN1
    ∷ record {
      card = sample_card;
      turns =
          with_body 0x10 0x2A 0x80 0x86 (0x01 ∷ replicate 254 0x00) ⇒ sw 0x9000
          ∷ decipher_part 0x00 2 ⇒ sw 0x6A80
          ∷ decipher_part 0x00 2 ⇒ sw 0x6700
          ∷ [];
      codes = fresh;
    }
    -- it is the chain's first byte, not the last part's
    ∷ record {
      card = chained 255 ready;
      turns = deciphering (0x01 ∷ 0x00 ∷ []) ⇒ hands 3 0x1100 (replicate 254 0x00 ++ 0x01 ∷ 0x00 ∷ []) ∷ [];
      codes = marks false true false;
    }
    -- environment not 6: 6985, before PIN1 not verified 6982; each empties the chain
    ∷ from (chained 255 sample_card) (decipher_part 0x00 2 ⇒ sw 0x6985 ∷ decipher_part 0x00 2 ⇒ sw 0x6700 ∷ []) fresh
    ∷ from (chained 255 (sample_marks true true true)) (decipher_part 0x00 2 ⇒ sw 0x6985 ∷ []) (marks true true true)
    ∷ record {
      card = chained 255 (in_environment 6 (sample_marks true false true));
      turns =
          decipher_part 0x00 2 ⇒ sw 0x6982
          ∷ decipher_part 0x00 2 ⇒ sw 0x6700
          ∷ [];
      codes = marks true false true;
    }
    ∷ []

abbrev pub JobsShown : Type 0
JobsShown = Shown jobs
