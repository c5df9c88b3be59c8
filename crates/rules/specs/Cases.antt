-- Document 01, "Cases": P1 to P10 as one list, P1 to P9 from the sample card, entries of document 02 beside them, and the theorem's statement.
use Rattle.std.specs.Prelude.{ℕ, suc, ◌-◌, ◌≡◌, Bool, true, false, cond, List, [], ◌∷◌, ◌++◌, map, length, take, drop, replicate, set, eqb}
use Rattle.octets.specs.Octets.{Bytes, same}
use Rattle.pkcs1.specs.Pkcs1.{pad}
use Rattle.rules.specs.declared.Card.{Card}
use Rattle.rules.specs.Numbers.{Returned, edge, responded, handed_out, was_reset, Wrote, unwritten, wrote}
use Rattle.rules.specs.Codes.{PUK, PIN1, PIN2, code_of, no_limit}
use Rattle.rules.specs.Digests.{sha1_prefix}
use Rattle.rules.specs.Counting.{Call, Command, Delivery, PowerReset, trace, after, returned_status, count_at_load}
use Rattle.rules.specs.Image.{load}
use Rattle.rules.specs.Writer.{write}
use Rattle.rules.specs.Sample.{sample_card, sample_image, puk, pin1, pin2}

-- What is seen of a call: response data and status word; a job's kind, key and block; an edge refusal's number; or a reset.
-- Of a code afterwards: its number, tries and mark. Of padding: its answer, and how many bytes FF stand after 00 01.
pub data Seen : Type 0 where
  shows : Bytes → ℕ → Seen
  hands : ℕ → ℕ → Bytes → Seen
  refuses : ℕ → Seen
  is_reset : Seen
  code : ℕ → ℕ → Bool → Seen
  pads : ℕ → ℕ → Seen

abbrev pub seen_of : Returned → Bytes → Seen
seen_of (edge n) buffer = refuses n
seen_of (responded n) buffer = shows (take (n - 2) buffer) (returned_status (responded n) buffer)
seen_of (handed_out kind key) buffer = hands kind key (take 256 buffer)
seen_of was_reset buffer = is_reset

abbrev pub code_seen : Card → ℕ → Seen
code_seen c k = code k (code_of c.codes k).tries (code_of c.codes k).verified

-- Calls from a card: what each shows, and then the three codes.
unfoldable pub on_card : Card → List Call → List Seen
on_card c calls =
    map (λ e. seen_of e.returned e.buffer) (trace c calls)
    ++ code_seen (after c calls) PUK ∷ code_seen (after c calls) PIN1 ∷ code_seen (after c calls) PIN2 ∷ []

abbrev pub on_sample : List Call → List Seen
on_sample = on_card sample_card

-- How many bytes FF a string starts with.
abbrev pub count_ff : Bytes → ℕ
count_ff [] = 0
count_ff (x ∷ xs) = cond (eqb x 0xFF) (suc (count_ff xs)) 0

-- Padding of n bytes 55 in a buffer of 256 zeros.
unfoldable pub padding : ℕ → List Seen
padding n =
    let done = pad (replicate n 0x55) (replicate 256 0x00) in
    pads done.0 (count_ff (drop 2 done.1)) ∷ []

-- A card with other unblocking counts.
abbrev pub with_counts : Card → List ℕ → Card
with_counts c counts = record { codes = c.codes; counts = counts; profile = c.profile; session = c.session }

-- The sample card with no byte in its last record.
abbrev pub empty_record : Card
empty_record =
    record {
      codes = sample_card.codes;
      counts = sample_card.counts;
      profile = record {
        keys = sample_card.profile.keys;
        references = sample_card.profile.references;
        personal = set sample_card.profile.personal 15 (record { bytes = replicate 64 0x00; len = 0 });
      };
      session = sample_card.session;
    }

-- A case: what is seen, and what is to be seen.
pub record Case : Type 0 where
  pub seen : List Seen
  pub expected : List Seen

-- A command with any certificates and a buffer of 258 bytes; a delivery into such a buffer.
abbrev pub buffer : Bytes
buffer = replicate 258 0xEE

abbrev pub send : Bytes → Call
send apdu = Command apdu (0x30 ∷ []) (0x30 ∷ []) buffer

abbrev pub deliver_to : Bytes → Call
deliver_to result = Delivery result buffer

-- Commands of the cases, by their bytes.
abbrev pub with_body : ℕ → ℕ → ℕ → ℕ → Bytes → Call
with_body cla ins p1 p2 d = send (cla ∷ ins ∷ p1 ∷ p2 ∷ length d ∷ d)

abbrev pub verify_of : ℕ → Bytes → Call
verify_of k d = with_body 0x00 0x20 0x00 k d

abbrev pub asking : ℕ → Call
asking k = send (0x00 ∷ 0x20 ∷ 0x00 ∷ k ∷ [])

-- READ BINARY below offset 256, of an authentication certificate of three bytes.
abbrev pub read_three : ℕ → ℕ → Call
read_three offset le = Command (0x00 ∷ 0xB0 ∷ 0x00 ∷ offset ∷ le ∷ []) (0x30 ∷ 0x01 ∷ 0x05 ∷ []) (0x30 ∷ []) buffer

abbrev pub wrong_pin1 : Call
wrong_pin1 = verify_of PIN1 (0x39 ∷ 0x39 ∷ 0x39 ∷ 0x39 ∷ [])

abbrev pub sha1_digest : Bytes
sha1_digest = sha1_prefix ++ replicate 20 0x07

abbrev pub sign_sha1 : Call
sign_sha1 = with_body 0x00 0x2A 0x9E 0x9A sha1_digest

-- The job that it hands out: kind 2, key 0100h, and the 35 bytes behind 218 bytes FF.
abbrev pub sign_job : Seen
sign_job = hands 2 0x0100 (0x00 ∷ 0x01 ∷ (replicate 218 0xFF ++ 0x00 ∷ sha1_digest))

abbrev pub change_pin1_to12 : Call
change_pin1_to12 = with_body 0x00 0x24 0x00 PIN1 (pin1 ++ 0x31 ∷ 0x32 ∷ [])

-- CHANGE of PIN2 to 55555, and of PUK to 55555555.
abbrev pub change_pin2 : Call
change_pin2 = with_body 0x00 0x24 0x00 PIN2 (pin2 ++ replicate 5 0x35)

abbrev pub change_puk : Call
change_puk = with_body 0x00 0x24 0x00 PUK (puk ++ replicate 8 0x35)

abbrev pub choose_key_of : ℕ → ℕ → ℕ → Call
choose_key_of p2 high low = with_body 0x00 0x22 0x41 p2 (0x83 ∷ 0x03 ∷ 0x80 ∷ high ∷ low ∷ [])

abbrev pub decipher_part : ℕ → ℕ → Call
decipher_part cla n = with_body cla 0x2A 0x80 0x86 (replicate n 0x00)

-- A status word alone; the codes when nothing happened to them.
abbrev pub sw : ℕ → Seen
sw = shows []

abbrev pub fresh : List Seen
fresh = code PUK 3 false ∷ code PIN1 3 false ∷ code PIN2 3 false ∷ []

unfoldable pub cases : List Case
cases =
    -- P1 wrong PIN1 three times: 63C2, 63C1, 63C0; then the right one: 6983
    record {
      seen = on_sample (wrong_pin1 ∷ wrong_pin1 ∷ wrong_pin1 ∷ verify_of PIN1 pin1 ∷ []);
      expected = sw 0x63C2 ∷ sw 0x63C1 ∷ sw 0x63C0 ∷ sw 0x6983 ∷ code PUK 3 false ∷ code PIN1 0 false ∷ code PIN2 3 false ∷ [];
    }
    -- P1 and record 1 of 0016h: the tries left are those that 63Cx told
    ∷ record {
      seen = on_sample (wrong_pin1 ∷ send (0x00 ∷ 0xA4 ∷ 0x02 ∷ 0x0C ∷ 0x02 ∷ 0x00 ∷ 0x16 ∷ []) ∷ send (0x00 ∷ 0xB2 ∷ 0x01 ∷ 0x04 ∷ 0x00 ∷ []) ∷ []);
      expected = sw 0x63C2 ∷ sw 0x9000
          ∷ shows (0x80 ∷ 0x01 ∷ 0x03 ∷ 0x90 ∷ 0x01 ∷ 0x02 ∷ 0x83 ∷ 0x02 ∷ 0x00 ∷ 0x00 ∷ []) 0x9000
          ∷ code PUK 3 false ∷ code PIN1 2 false ∷ code PIN2 3 false ∷ [];
    }
    -- P2 PIN2 right, sign twice with a delivery between: job, then 6982; a delivery of 256 bytes, and one of none
    ∷ record {
      seen = on_sample (verify_of PIN2 pin2 ∷ sign_sha1 ∷ deliver_to (replicate 256 0x5A) ∷ sign_sha1 ∷ []);
      expected = sw 0x9000 ∷ sign_job ∷ sw 0x6100 ∷ sw 0x6982 ∷ fresh;
    }
    ∷ record {
      seen = on_sample (verify_of PIN2 pin2 ∷ sign_sha1 ∷ deliver_to [] ∷ sign_sha1 ∷ []);
      expected = sw 0x9000 ∷ sign_job ∷ sw 0x6400 ∷ sw 0x6982 ∷ fresh;
    }
    -- P1 and P2 with queries between (02, wish 1): as without them
    ∷ record {
      seen = on_sample (
          wrong_pin1
          ∷ asking PIN1
          ∷ wrong_pin1
          ∷ asking PIN1
          ∷ asking PIN1
          ∷ wrong_pin1
          ∷ asking PIN1
          ∷ verify_of PIN1 pin1
          ∷ []
          );
      expected =
          sw 0x63C2
          ∷ sw 0x63C2
          ∷ sw 0x63C1
          ∷ sw 0x63C1
          ∷ sw 0x63C1
          ∷ sw 0x63C0
          ∷ sw 0x6983
          ∷ sw 0x6983
          ∷ code PUK 3 false ∷ code PIN1 0 false ∷ code PIN2 3 false ∷ [];
    }
    ∷ record {
      seen = on_sample (
          asking PIN2
          ∷ verify_of PIN2 pin2
          ∷ asking PIN2
          ∷ sign_sha1
          ∷ deliver_to (replicate 256 0x5A)
          ∷ asking PIN2
          ∷ sign_sha1
          ∷ []
          );
      expected = sw 0x63C3 ∷ sw 0x9000 ∷ sw 0x9000 ∷ sign_job ∷ sw 0x6100 ∷ sw 0x63C3 ∷ sw 0x6982 ∷ fresh;
    }
    -- the end of a file (02, wish 2): Le at most what remains, greater, 00; the offset at the size
    ∷ record {
      seen = on_sample (
          with_body 0x00 0xA4 0x01 0x0C (0xEE ∷ 0xEE ∷ [])
          ∷ with_body 0x00 0xA4 0x02 0x0C (0xAA ∷ 0xCE ∷ [])
          ∷ read_three 0 2
          ∷ read_three 1 2
          ∷ read_three 2 2
          ∷ read_three 2 0
          ∷ read_three 3 2
          ∷ []
          );
      expected =
          sw 0x9000
          ∷ sw 0x9000
          ∷ shows (0x30 ∷ 0x01 ∷ []) 0x9000
          ∷ shows (0x01 ∷ 0x05 ∷ []) 0x9000
          ∷ shows (0x05 ∷ []) 0x6282
          ∷ shows (0x05 ∷ []) 0x9000
          ∷ sw 0x6B00
          ∷ fresh;
    }
    -- Le greater than a record, and than what is held: 9000
    ∷ record {
      seen = on_sample (
          with_body 0x00 0xA4 0x02 0x0C (0x00 ∷ 0x16 ∷ [])
          ∷ send (0x00 ∷ 0xB2 ∷ 0x03 ∷ 0x04 ∷ 0xFF ∷ [])
          ∷ send (0x00 ∷ 0xB2 ∷ 0x03 ∷ 0x04 ∷ [])
          ∷ send (0x00 ∷ 0xC0 ∷ 0x00 ∷ 0x00 ∷ 0xFF ∷ [])
          ∷ []
          );
      expected =
          sw 0x9000
          ∷ shows (0x80 ∷ 0x01 ∷ 0x03 ∷ 0x90 ∷ 0x01 ∷ 0x03 ∷ []) 0x9000
          ∷ sw 0x6106
          ∷ shows (0x80 ∷ 0x01 ∷ 0x03 ∷ 0x90 ∷ 0x01 ∷ 0x03 ∷ []) 0x9000
          ∷ fresh;
    }
    -- a changed code counts as given (02, wish 4): PIN2 changed and a signature at once, then 6982
    ∷ record {
      seen = on_sample (change_pin2 ∷ sign_sha1 ∷ deliver_to (replicate 256 0x5A) ∷ sign_sha1 ∷ []);
      expected = sw 0x9000 ∷ sign_job ∷ sw 0x6100 ∷ sw 0x6982 ∷ fresh;
    }
    -- PIN1 blocked, PUK changed, PIN1 unblocked with P1 03: PIN1 and PUK are closed, PIN2, changed before, is open
    ∷ record {
      seen = on_sample (
          wrong_pin1
          ∷ wrong_pin1
          ∷ wrong_pin1
          ∷ change_pin2
          ∷ change_puk
          ∷ send (0x00 ∷ 0x2C ∷ 0x03 ∷ 0x01 ∷ [])
          ∷ []
          );
      expected =
          sw 0x63C2
          ∷ sw 0x63C1
          ∷ sw 0x63C0
          ∷ sw 0x9000
          ∷ sw 0x9000
          ∷ sw 0x9000
          ∷ code PUK 3 false ∷ code PIN1 3 false ∷ code PIN2 3 true ∷ [];
    }
    -- the same with P1 00, the new PUK and a new PIN1
    ∷ record {
      seen = on_sample (
          wrong_pin1
          ∷ wrong_pin1
          ∷ wrong_pin1
          ∷ change_puk
          ∷ with_body 0x00 0x2C 0x00 PIN1 (replicate 8 0x35 ++ pin1)
          ∷ []
          );
      expected =
          sw 0x63C2
          ∷ sw 0x63C1
          ∷ sw 0x63C0
          ∷ sw 0x9000
          ∷ sw 0x9000
          ∷ fresh;
    }
    -- P3 00 2C 03 01: 6A86
    ∷ record { seen = on_sample (send (0x00 ∷ 0x2C ∷ 0x03 ∷ 0x01 ∷ []) ∷ []); expected = sw 0x6A86 ∷ fresh }
    -- P4 CHANGE PIN1, old right, new "12": 6A80, tries and mark unchanged; also after a wrong value and after a right one
    ∷ record { seen = on_sample (change_pin1_to12 ∷ []); expected = sw 0x6A80 ∷ fresh }
    ∷ record {
      seen = on_sample (wrong_pin1 ∷ change_pin1_to12 ∷ []);
      expected = sw 0x63C2 ∷ sw 0x6A80 ∷ code PUK 3 false ∷ code PIN1 2 false ∷ code PIN2 3 false ∷ [];
    }
    ∷ record {
      seen = on_sample (verify_of PIN1 pin1 ∷ change_pin1_to12 ∷ []);
      expected = sw 0x9000 ∷ sw 0x6A80 ∷ code PUK 3 false ∷ code PIN1 3 true ∷ code PIN2 3 false ∷ [];
    }
    -- P5 VERIFY PIN2 "1234": 63C2
    ∷ record {
      seen = on_sample (verify_of PIN2 pin1 ∷ []);
      expected = sw 0x63C2 ∷ code PUK 3 false ∷ code PIN1 3 false ∷ code PIN2 2 false ∷ [];
    }
    -- P6 empty command: 6700; 261 bytes FF: 6E00 (Lc 255 with Le fits); 262: 6700
    ∷ record {
      seen = on_sample (send [] ∷ send (replicate 261 0xFF) ∷ send (replicate 262 0xFF) ∷ []);
      expected = sw 0x6700 ∷ sw 0x6E00 ∷ sw 0x6700 ∷ fresh;
    }
    -- P7 10 20 00 01: 6884
    ∷ record { seen = on_sample (send (0x10 ∷ 0x20 ∷ 0x00 ∷ 0x01 ∷ []) ∷ []); expected = sw 0x6884 ∷ fresh }
    -- P8 22 41 B8 with 83 03 80 01 00: 6A80; B6 with 83 03 80 02 00: 6A88
    ∷ record {
      seen = on_sample (choose_key_of 0xB8 0x01 0x00 ∷ choose_key_of 0xB6 0x02 0x00 ∷ []);
      expected = sw 0x6A80 ∷ sw 0x6A88 ∷ fresh;
    }
    -- P9 decipher parts of 255 zero bytes (class 10h) and 2 bytes (class 00h) join to 257: 9000, then 6985; 255 and 3: 9000, then 6700
    ∷ record { seen = on_sample (decipher_part 0x10 255 ∷ decipher_part 0x00 2 ∷ []); expected = sw 0x9000 ∷ sw 0x6985 ∷ fresh }
    ∷ record { seen = on_sample (decipher_part 0x10 255 ∷ decipher_part 0x00 3 ∷ []); expected = sw 0x9000 ∷ sw 0x6700 ∷ fresh }
    -- a first byte 81h is not 00: no half marks are read in the chain
    ∷ record {
      seen = on_sample (with_body 0x10 0x2A 0x80 0x86 (0x81 ∷ replicate 254 0x00) ∷ decipher_part 0x00 2 ∷ []);
      expected = sw 0x9000 ∷ sw 0x6A80 ∷ fresh;
    }
    -- P10 padding n = 245 has 8 FF bytes; 246 is refused
    ∷ record { seen = padding 245; expected = pads 256 8 ∷ [] }
    ∷ record { seen = padding 246; expected = pads 0 0 ∷ [] }
    -- the transcript that document 01 prints
    ∷ record {
      seen = on_sample (
          PowerReset
          ∷ wrong_pin1
          ∷ verify_of PIN1 pin1
          ∷ send (0x00 ∷ 0xA4 ∷ 0x02 ∷ 0x0C ∷ 0x02 ∷ 0x00 ∷ 0x16 ∷ [])
          ∷ send (0x00 ∷ 0xB2 ∷ 0x01 ∷ 0x04 ∷ 0x00 ∷ [])
          ∷ send (0x00 ∷ 0xB2 ∷ 0x03 ∷ 0x04 ∷ 0x00 ∷ [])
          ∷ send (0xFF ∷ [])
          ∷ []
          );
      expected =
          is_reset
          ∷ sw 0x63C2
          ∷ sw 0x9000
          ∷ sw 0x9000
          ∷ shows (0x80 ∷ 0x01 ∷ 0x03 ∷ 0x90 ∷ 0x01 ∷ 0x03 ∷ 0x83 ∷ 0x02 ∷ 0x00 ∷ 0x00 ∷ []) 0x9000
          ∷ shows (0x80 ∷ 0x01 ∷ 0x03 ∷ 0x90 ∷ 0x01 ∷ 0x03 ∷ []) 0x9000
          ∷ sw 0x6700
          ∷ code PUK 3 false ∷ code PIN1 3 true ∷ code PIN2 3 false ∷ [];
    }
    ∷ []

-- P1 to P10 and the entries beside them, together.
abbrev pub PCases : Type 0
PCases = map (λ x. x.seen) cases ≡ map (λ x. x.expected) cases

-- RESET RETRY of PIN1 with P1 00: a PUK, and a new PIN1.
abbrev pub unblock_pin1 : Bytes → Bytes → Call
unblock_pin1 value new = with_body 0x00 0x2C 0x00 PIN1 (value ++ new)

-- A limit on unblocking (02, wish 6).
unfoldable pub limited : List Case
limited =
    -- at 0 a wrong PUK costs no try, the right one does not help, and one that is not verified is not 6982
    record {
      seen = on_card (with_counts sample_card (0 ∷ no_limit ∷ [])) (
          wrong_pin1
          ∷ wrong_pin1
          ∷ wrong_pin1
          ∷ unblock_pin1 (replicate 8 0x39) pin1
          ∷ unblock_pin1 puk pin1
          ∷ send (0x00 ∷ 0x2C ∷ 0x03 ∷ 0x01 ∷ [])
          ∷ []
          );
      expected =
          sw 0x63C2
          ∷ sw 0x63C1
          ∷ sw 0x63C0
          ∷ sw 0x6983
          ∷ sw 0x6983
          ∷ sw 0x6983
          ∷ code PUK 3 false ∷ code PIN1 0 false ∷ code PIN2 3 false ∷ [];
    }
    -- one unblocking: 63Cx and 6A80 do not use it up, 9000 does, and a power reset does not bring it back
    ∷ record {
      seen = on_card (with_counts sample_card (1 ∷ 0 ∷ [])) (
          wrong_pin1
          ∷ wrong_pin1
          ∷ wrong_pin1
          ∷ unblock_pin1 (replicate 8 0x39) pin1
          ∷ unblock_pin1 puk (0x31 ∷ [])
          ∷ unblock_pin1 puk pin1
          ∷ PowerReset
          ∷ wrong_pin1
          ∷ wrong_pin1
          ∷ wrong_pin1
          ∷ unblock_pin1 puk pin1
          ∷ []
          );
      expected =
          sw 0x63C2
          ∷ sw 0x63C1
          ∷ sw 0x63C0
          ∷ sw 0x63C2
          ∷ sw 0x6A80
          ∷ sw 0x9000
          ∷ is_reset
          ∷ sw 0x63C2
          ∷ sw 0x63C1
          ∷ sw 0x63C0
          ∷ sw 0x6983
          ∷ code PUK 3 false ∷ code PIN1 0 false ∷ code PIN2 3 false ∷ [];
    }
    ∷ []

-- The sample image and what stands behind it.
abbrev pub followed : Bytes → Bytes
followed d = sample_image ++ d

pub record LimitShown : Type 0 where
  pub runs : map (λ x. x.seen) limited ≡ map (λ x. x.expected) limited
  -- load's numbers for the last section: another count, a missing byte, a byte over A5h, A5h twice, bytes left over; and one that loads
  pub loads :
      map (λ d. (load (followed d)).0)
      (
      (1 ∷ [])
      ∷ (2 ∷ 0 ∷ [])
      ∷ (2 ∷ 0xA6 ∷ [])
      ∷ (2 ∷ 0xA5 ∷ 0xA5 ∷ [])
      ∷ (2 ∷ 0 ∷ 0xA5 ∷ 0 ∷ [])
      ∷ (2 ∷ 0 ∷ 0xA5 ∷ [])
      ∷ []
      )
      ≡ 22 ∷ 21 ∷ 28 ∷ 28 ∷ 27 ∷ 0 ∷ []
  -- the counts at load
  pub counts :
      map (count_at_load (followed (2 ∷ 7 ∷ 9 ∷ []))) (PIN1 ∷ PIN2 ∷ []) ++ map (count_at_load sample_image) (PIN1 ∷ PIN2 ∷ [])
      ≡ 7 ∷ 9 ∷ 0xA5 ∷ 0xA5 ∷ []

-- The writer (02, wish 3) on a card and a buffer of n bytes EE: what it is to return, and the buffer as it is to leave it.
pub record Writing : Type 0 where
  pub card : Card
  pub size : ℕ
  pub returned : Wrote
  pub buffer : Bytes

abbrev pub on : Card → ℕ → Wrote → Bytes → Writing
on c n returned buffer = record { card = c; size = n; returned = returned; buffer = buffer }

abbrev pub done : Writing → Wrote × Bytes
done x = write x.card (replicate x.size 0xEE)

unfoldable pub writings : List Writing
writings =
    -- the sample card; with a try of PIN1 spent, PIN2 open and an answer held
    on sample_card 1118 (wrote 84) (sample_image ++ replicate 1034 0xEE)
    ∷ on (after sample_card (
    wrong_pin1
    ∷ verify_of PIN2 pin2
    ∷ with_body 0x00 0xA4 0x02 0x0C (0x00 ∷ 0x16 ∷ [])
    ∷ send (0x00 ∷ 0xB2 ∷ 0x03 ∷ 0x04 ∷ [])
    ∷ []
    )) 1119 (wrote 84) (take 16 sample_image ++ 2 ∷ (drop 17 sample_image ++ replicate 1035 0xEE))
    -- PIN1 blocked and unblocked: there is no limit (02, wish 6), and no section that says so
    ∷ on (after sample_card (wrong_pin1 ∷ wrong_pin1 ∷ wrong_pin1 ∷ unblock_pin1 puk pin1 ∷ [])) 1118 (wrote 84) (sample_image ++ replicate 1034 0xEE)
    -- with a limit on unblocking
    ∷ on (with_counts sample_card (0 ∷ no_limit ∷ [])) 1118 (wrote 87) (sample_image ++ 2 ∷ 0 ∷ 0xA5 ∷ replicate 1031 0xEE)
    -- a bad state before a short buffer
    ∷ on empty_record 0 (unwritten 1) []
    ∷ on empty_record 1118 (unwritten 1) (replicate 1118 0xEE)
    ∷ on (with_counts sample_card (no_limit ∷ 0xA6 ∷ [])) 1118 (unwritten 1) (replicate 1118 0xEE)
    ∷ on sample_card 1117 (unwritten 2) (replicate 1117 0xEE)
    ∷ []

pub record WritingsShown : Type 0 where
  pub returned : map (λ x. (done x).0) writings ≡ map (λ x. x.returned) writings
  pub buffers : map (λ x. same (done x).1 x.buffer) writings ≡ replicate (length writings) true
