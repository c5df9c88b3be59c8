-- Document 01, "Order of judgement for a command", step 7: SELECT, READ RECORD and READ BINARY, and the files they
-- show.
use Rattle.std.specs.Prelude.{ℕ, ◌-◌, List, [], ◌∷◌, ◌++◌, map, replicate, get_or}
use Rattle.octets.specs.Octets.{Bytes}
use Rattle.rules.specs.Counting.{Call, Command}
use Rattle.rules.specs.Sample.{sample_card, references}
use Rattle.rules.specs.Cases.{shows, buffer, sw, fresh}
use Rattle.cases.specs.SecondCard.{second_card, second_references, texts}
use Rattle.cases.specs.Turns.{Run, Turn, ◌⇒◌, from, Shown, tries, select_root, select_directory, select_file}
use Rattle.cases.specs.Turns.{with_le, record_read, get_response, sample_tries, at, counted}

-- Records of 0016h: a PIN's and the PUK's.
abbrev pub pin_shows : ℕ → Bytes
pin_shows t = 0x80 ∷ 0x01 ∷ 0x03 ∷ 0x90 ∷ 0x01 ∷ t ∷ 0x83 ∷ 0x02 ∷ 0x00 ∷ 0x00 ∷ []

abbrev pub puk_shows : ℕ → Bytes
puk_shows t = 0x80 ∷ 0x01 ∷ 0x03 ∷ 0x90 ∷ 0x01 ∷ t ∷ []

-- READ BINARY at P1P2 with an authentication certificate of 300 bytes and a signature certificate of 2: A1 up to place
-- 254, A2 at 255, A3 at 256, A4 at 257, then A5; and B1, B2.
abbrev pub authentication : Bytes
authentication = replicate 255 0xA1 ++ 0xA2 ∷ 0xA3 ∷ 0xA4 ∷ replicate 42 0xA5

abbrev pub read_binary : ℕ → ℕ → ℕ → Call
read_binary p1 p2 le = Command (0x00 ∷ 0xB0 ∷ p1 ∷ p2 ∷ le ∷ []) authentication (0xB1 ∷ 0xB2 ∷ []) buffer

-- The same with certificates of 1,536 bytes, the last byte C1 and C2.
abbrev pub read_great : ℕ → ℕ → ℕ → Call
read_great p1 p2 le =
    let most : Bytes = replicate 1535 0x30 in
    Command (0x00 ∷ 0xB0 ∷ p1 ∷ p2 ∷ le ∷ []) (most ++ 0xC1 ∷ []) (most ++ 0xC2 ∷ []) buffer

-- Personal record n of the second card is its text n.
abbrev pub personal_turn : ℕ → Turn
personal_turn n = record_read n ⇒ shows (get_or texts (n - 1) []) 0x9000

unfoldable pub files : List Run
files =
    -- A4, P1 00: the root, from the root and from EEEEh; choosing it clears the current file
    record {
      card = at 0x3F00 0x0016 sample_card;
      turns =
          record_read 3 ⇒ shows (puk_shows 3) 0x9000
          ∷ select_root ⇒ sw 0x9000
          ∷ record_read 3 ⇒ sw 0x6986
          ∷ [];
      codes = fresh;
    }
    ∷ record {
      card = at 0xEEEE 0x5044 sample_card;
      turns =
          select_root ⇒ sw 0x9000
          ∷ record_read 1 ⇒ sw 0x6986
          ∷ select_file 0x50 0x44 ⇒ sw 0x6A82
          ∷ select_file 0x00 0x16 ⇒ sw 0x9000
          ∷ [];
      codes = fresh;
    }
    -- A4, P1 01: EEEEh from the root; choosing it clears the current file. P1 02: a file of the current directory, of
    -- all four
    ∷ record {
      card = at 0x3F00 0x0016 sample_card;
      turns =
          select_directory 0xEE 0xEE ⇒ sw 0x9000
          ∷ record_read 1 ⇒ sw 0x6986
          ∷ select_file 0x50 0x44 ⇒ sw 0x9000
          ∷ record_read 16 ⇒ shows (0x20 ∷ []) 0x9000
          ∷ select_file 0x00 0x33 ⇒ sw 0x9000
          ∷ record_read 1 ⇒ shows references 0x9000
          ∷ select_file 0xAA 0xCE ⇒ sw 0x9000
          ∷ read_binary 0x00 0x00 0x01 ⇒ shows (0xA1 ∷ []) 0x9000
          ∷ select_file 0xDD 0xCE ⇒ sw 0x9000
          ∷ read_binary 0x00 0x00 0x01 ⇒ shows (0xB1 ∷ []) 0x9000
          ∷ select_file 0x00 0x16 ⇒ sw 0x6A82
          ∷ [];
      codes = fresh;
    }
    -- A4, else 6A82 and the selection stays: in EEEEh
    ∷ record {
      card = at 0xEEEE 0x5044 sample_card;
      turns =
          select_directory 0xEE 0xEE ⇒ sw 0x6A82
          ∷ select_directory 0x3F 0x00 ⇒ sw 0x6A82
          ∷ select_directory 0x00 0x33 ⇒ sw 0x6A82
          ∷ select_file 0x00 0x00 ⇒ sw 0x6A82
          ∷ select_file 0xEE 0xEE ⇒ sw 0x6A82
          ∷ select_file 0x44 0x50 ⇒ sw 0x6A82
          ∷ record_read 1 ⇒ shows (0x20 ∷ []) 0x9000
          ∷ select_file 0x00 0x33 ⇒ sw 0x9000
          ∷ [];
      codes = fresh;
    }
    -- and in the root
    ∷ record {
      card = at 0x3F00 0x0016 sample_card;
      turns =
          select_directory 0x00 0x16 ⇒ sw 0x6A82
          ∷ select_directory 0x3F 0x00 ⇒ sw 0x6A82
          ∷ select_file 0xEE 0xEE ⇒ sw 0x6A82
          ∷ select_file 0x00 0x33 ⇒ sw 0x6A82
          ∷ select_file 0xAA 0xCE ⇒ sw 0x6A82
          ∷ select_file 0x00 0x00 ⇒ sw 0x6A82
          ∷ record_read 1 ⇒ shows (pin_shows 3) 0x9000
          ∷ select_file 0x00 0x16 ⇒ sw 0x9000
          ∷ [];
      codes = fresh;
    }
    -- B2: no file 6986, in either directory and for any record
    ∷ from sample_card (record_read 1 ⇒ sw 0x6986 ∷ record_read 0xFF ⇒ sw 0x6986 ∷ []) fresh
    ∷ from (at 0xEEEE 0x0000 second_card) (record_read 1 ⇒ sw 0x6986 ∷ []) (tries 3 2 1)
    -- B2: certificate 6981, before 6A83
    ∷ from (at 0xEEEE 0xAACE sample_card) (record_read 1 ⇒ sw 0x6981 ∷ record_read 0xFF ⇒ sw 0x6981 ∷ []) fresh
    ∷ from (at 0xEEEE 0xDDCE sample_card) (record_read 1 ⇒ sw 0x6981 ∷ []) fresh
    -- B2 of 0016h: records 1 to 3 for PIN1, PIN2, PUK, t the tries left; beyond the last 6A83
    ∷ record {
      card = at 0x3F00 0x0016 second_card;
      turns =
          record_read 1 ⇒ shows (pin_shows 2) 0x9000
          ∷ record_read 2 ⇒ shows (pin_shows 1) 0x9000
          ∷ record_read 3 ⇒ shows (puk_shows 3) 0x9000
          ∷ record_read 4 ⇒ sw 0x6A83
          ∷ [];
      codes = tries 3 2 1;
    }
    ∷ record {
      card = at 0x3F00 0x0016 (sample_tries 1 0 2);
      turns =
          record_read 1 ⇒ shows (pin_shows 0) 0x9000
          ∷ record_read 2 ⇒ shows (pin_shows 2) 0x9000
          ∷ record_read 3 ⇒ shows (puk_shows 1) 0x9000
          ∷ [];
      codes = tries 1 0 2;
    }
    -- B2 of 0033h: one record of 21 bytes
    ∷ record {
      card = at 0xEEEE 0x0033 second_card;
      turns =
          record_read 1 ⇒ shows second_references 0x9000
          ∷ record_read 2 ⇒ sw 0x6A83
          ∷ [];
      codes = tries 3 2 1;
    }
    -- B2 of 5044h: 16 records of 1 to 64 bytes
    ∷ from (at 0xEEEE 0x5044 second_card) (map personal_turn (counted 16 1)) (tries 3 2 1)
    ∷ from (at 0xEEEE 0x5044 second_card) (record_read 17 ⇒ sw 0x6A83 ∷ record_read 0xFF ⇒ sw 0x6A83 ∷ []) (tries 3 2 1)
    -- B0: no file 6986; record file 6981; each before 6B00
    ∷ from sample_card (read_binary 0x00 0x00 0x01 ⇒ sw 0x6986 ∷ read_binary 0x7F 0xFF 0x01 ⇒ sw 0x6986 ∷ []) fresh
    ∷ record {
      card = at 0x3F00 0x0016 sample_card;
      turns =
          read_binary 0x00 0x00 0x01 ⇒ sw 0x6981
          ∷ read_binary 0x7F 0xFF 0x01 ⇒ sw 0x6981
          ∷ [];
      codes = fresh;
    }
    ∷ from (at 0xEEEE 0x0033 sample_card) (read_binary 0x00 0x00 0x01 ⇒ sw 0x6981 ∷ []) fresh
    ∷ from (at 0xEEEE 0x5044 sample_card) (read_binary 0x00 0x00 0x01 ⇒ sw 0x6981 ∷ []) fresh
    -- B0: offset P1P2; Le at most what remains: Le bytes and 9000, nothing held; Le 00 means 256
    ∷ record {
      card = at 0xEEEE 0xAACE sample_card;
      turns =
          read_binary 0x00 0x00 0x00 ⇒ shows (replicate 255 0xA1 ++ 0xA2 ∷ []) 0x9000
          ∷ get_response 0x00 ⇒ sw 0x6985
          ∷ read_binary 0x00 0xFF 0x03 ⇒ shows (0xA2 ∷ 0xA3 ∷ 0xA4 ∷ []) 0x9000
          ∷ read_binary 0x01 0x00 0x02 ⇒ shows (0xA3 ∷ 0xA4 ∷ []) 0x9000
          ∷ read_binary 0x01 0x2A 0x02 ⇒ shows (0xA5 ∷ 0xA5 ∷ []) 0x9000
          -- offset at or past the size 6B00; P1 under 80h
          ∷ read_binary 0x01 0x2C 0x00 ⇒ sw 0x6B00
          ∷ read_binary 0x7F 0xFF 0x00 ⇒ sw 0x6B00
          ∷ read_binary 0x80 0x00 0x00 ⇒ sw 0x6A86
          ∷ [];
      codes = fresh;
    }
    -- B0, Le 1 to 255 greater than what remains: what remains and 6282, nothing held, the selection stays; by one byte, by
    -- many, and the last byte
    ∷ record {
      card = at 0xEEEE 0xAACE sample_card;
      turns =
          read_binary 0x01 0x00 0xFF ⇒ shows (0xA3 ∷ 0xA4 ∷ replicate 42 0xA5) 0x6282
          ∷ get_response 0x00 ⇒ sw 0x6985
          ∷ read_binary 0x01 0x29 0x04 ⇒ shows (0xA5 ∷ 0xA5 ∷ 0xA5 ∷ []) 0x6282
          ∷ read_binary 0x01 0x29 0x03 ⇒ shows (0xA5 ∷ 0xA5 ∷ 0xA5 ∷ []) 0x9000
          ∷ read_binary 0x01 0x29 0x02 ⇒ shows (0xA5 ∷ 0xA5 ∷ []) 0x9000
          ∷ read_binary 0x01 0x2B 0x02 ⇒ shows (0xA5 ∷ []) 0x6282
          ∷ read_binary 0x01 0x2B 0x01 ⇒ shows (0xA5 ∷ []) 0x9000
          -- at the size there is nothing to come with 6282, nor past it
          ∷ read_binary 0x01 0x2C 0x01 ⇒ sw 0x6B00
          ∷ read_binary 0x01 0x2C 0xFF ⇒ sw 0x6B00
          ∷ read_binary 0x01 0x2D 0x01 ⇒ sw 0x6B00
          ∷ read_binary 0x7F 0xFF 0xFF ⇒ sw 0x6B00
          ∷ [];
      codes = fresh;
    }
    -- B0, Le FF: 256, 255 and 254 bytes remain
    ∷ record {
      card = at 0xEEEE 0xAACE second_card;
      turns =
          read_binary 0x00 0x2C 0xFF ⇒ shows (replicate 211 0xA1 ++ 0xA2 ∷ 0xA3 ∷ 0xA4 ∷ replicate 41 0xA5) 0x9000
          ∷ read_binary 0x00 0x2D 0xFF ⇒ shows (replicate 210 0xA1 ++ 0xA2 ∷ 0xA3 ∷ 0xA4 ∷ replicate 42 0xA5) 0x9000
          ∷ read_binary 0x00 0x2E 0xFF ⇒ shows (replicate 209 0xA1 ++ 0xA2 ∷ 0xA3 ∷ 0xA4 ∷ replicate 42 0xA5) 0x6282
          ∷ [];
      codes = tries 3 2 1;
    }
    -- B0, Le 00 keeps 9000: 256, 255 bytes and one byte remain
    ∷ record {
      card = at 0xEEEE 0xAACE sample_card;
      turns =
          read_binary 0x00 0x2C 0x00 ⇒ shows (replicate 211 0xA1 ++ 0xA2 ∷ 0xA3 ∷ 0xA4 ∷ replicate 42 0xA5) 0x9000
          ∷ read_binary 0x00 0x2D 0x00 ⇒ shows (replicate 210 0xA1 ++ 0xA2 ∷ 0xA3 ∷ 0xA4 ∷ replicate 42 0xA5) 0x9000
          ∷ read_binary 0x01 0x2B 0x00 ⇒ shows (0xA5 ∷ []) 0x9000
          ∷ [];
      codes = fresh;
    }
    -- B2, Le greater than the record: 9000
    ∷ from (at 0x3F00 0x0016 sample_card) (with_le 0xB2 0x03 0x04 0xFF ⇒ shows (puk_shows 3) 0x9000 ∷ []) fresh
    -- B0 of DDCEh: the signature certificate, and its size
    ∷ record {
      card = at 0xEEEE 0xDDCE second_card;
      turns =
          read_binary 0x00 0x00 0x00 ⇒ shows (0xB1 ∷ 0xB2 ∷ []) 0x9000
          ∷ read_binary 0x00 0x00 0x02 ⇒ shows (0xB1 ∷ 0xB2 ∷ []) 0x9000
          ∷ read_binary 0x00 0x00 0x03 ⇒ shows (0xB1 ∷ 0xB2 ∷ []) 0x6282
          ∷ read_binary 0x00 0x00 0xFF ⇒ shows (0xB1 ∷ 0xB2 ∷ []) 0x6282
          ∷ read_binary 0x00 0x01 0x01 ⇒ shows (0xB2 ∷ []) 0x9000
          ∷ read_binary 0x00 0x01 0x02 ⇒ shows (0xB2 ∷ []) 0x6282
          ∷ read_binary 0x00 0x02 0x01 ⇒ sw 0x6B00
          ∷ [];
      codes = tries 3 2 1;
    }
    -- B0: certificates of 1,536 bytes
    ∷ record {
      card = at 0xEEEE 0xAACE sample_card;
      turns =
          read_great 0x05 0xFF 0x00 ⇒ shows (0xC1 ∷ []) 0x9000
          ∷ read_great 0x05 0xFF 0x01 ⇒ shows (0xC1 ∷ []) 0x9000
          ∷ read_great 0x05 0xFF 0xC8 ⇒ shows (0xC1 ∷ []) 0x6282
          ∷ read_great 0x06 0x00 0x00 ⇒ sw 0x6B00
          ∷ [];
      codes = fresh;
    }
    ∷ from (at 0xEEEE 0xDDCE sample_card) (read_great 0x05 0xFF 0x00 ⇒ shows (0xC2 ∷ []) 0x9000 ∷ []) fresh
    ∷ []

abbrev pub FilesShown : Type 0
FilesShown = Shown files
