-- A reader in blocks gets the whole certificate and stops by itself.
use mathlib.Core.Path.{◌≡◌, refl, sym, ap, ◌∙◌}
use mathlib.Core.Logic.{◌≢◌}
use mathlib.Core.Bool.{true, false, and-false}
use mathlib.Core.List.{[]}
use Prim.Native.Nat.{ℕ, zero, suc, ◌+◌, ◌-◌, ◌*◌, ◌/◌, ◌%◌, ◌≤◌, ◌<◌}
use native.Mathlib.Nat.{zero-mul, suc-mul, zero-mod, mod-eq_of_lt, mod-eq-sub-mod}
use native.Mathlib.Numerals.{unary_clauses}
use native.Mathlib.Omega.{arith}
use lib.Dec.{eqb, leb}
use lib.ListN.{length, take, drop, length-take, length-drop, take-append-drop, drop_of_length-le}
use lib.Seq.{take_all, drop-drop, take_at}
use borrow.Author.Tests.{leb-true, leb-false, eq-eqb, ne_eqb, lt-ltb, le-ltb, le-leb}
use Rattle.octets.specs.Octets.{Bytes}
use Rattle.octets.proofs.Tests.{split, by_test}
use Rattle.octets.proofs.Words.{word_of_halves}
use Rattle.rules.specs.declared.Card.{Card}
use Rattle.rules.specs.declared.Header.{Header}
use Rattle.rules.specs.Numbers.{responded, form}
use Rattle.rules.specs.Session.{drop_both}
use Rattle.rules.specs.Files.{certificate_file, certificate_of}
use Rattle.rules.specs.State.{good}
use Rattle.rules.specs.Apdu.{data_start, parse}
use Rattle.rules.specs.Answers.{SessionStep, response, in_session}
use Rattle.rules.specs.FileCommands.{read_status, read_binary}
use Rattle.rules.specs.Judgement.{instruction, parameters, lengths, own_rules, known_instruction, named_in}
use Rattle.rules.specs.Judgement.{judge_named, judge_header, judge_form, judge}
use Rattle.rules.specs.Edge.{Result, response_in, written, answered, command}
use Rattle.rules.specs.Counting.{Call, Command, step}
use Rattle.rules.specs.Demands.{Room, LengthFits, Idle}
use Rattle.rules.specs.Reading.{read_at, returned_data, whole_block, Collected, stopped, joined, read_blocks}
use Rattle.rules.specs.Reading.{last_word, Readable, certificate_shown, ReadInBlocks}
use Rattle.rules.proofs.StatusWords.{response_sized, response_status}
use Rattle.rules.proofs.Parts.{good_codes_lem, good_counts_lem, good_profile_lem, good_card}
use Rattle.rules.proofs.Keeping.{dropped}
use Rattle.rules.proofs.Demand1.{lent_good}
use Rattle.rules.proofs.Certificates.{offset_past_end, part_read}

-- A READ BINARY of n bytes at an offset below 8000h.
abbrev read_header : ℕ → ℕ → Header
read_header offset n = record { cla = 0x00; ins = 0xB0; p1 = offset / 256; p2 = offset % 256; lc = 0; le = n }

module _ (offset n : ℕ) (some : 1 ≤ n) where
  read_form : parse (read_at offset n) ≡ form (read_header offset n) data_start
  unfolding parse
  read_form = simp (ne_eqb n 0 (omega arith))

  read_judged : offset < 0x8000 → (c : Card) (d authentication signature : Bytes)
      → judge_header c (read_header offset n) d authentication signature
      ≡ in_session c.codes c.counts (read_binary (drop_both c.session) (read_header offset n) authentication signature)
  unfolding judge_header known_instruction instruction named_in parameters judge_named lengths own_rules
  read_judged near c d authentication signature = simp (lt-ltb (offset / 256) 0x80 (omega arith), le-leb 1 n some)

-- The card after it, and a card that the reader can read on.
abbrev after_reading : Card → Card
after_reading c = record { codes = c.codes; counts = c.counts; profile = c.profile; session = drop_both c.session }

record Ready (file : ℕ) (c : Card) : Type 0 where
  good : good c ≡ true
  idle : Idle c
  selected : c.session.selection.file ≡ file

ready_after : {file : ℕ} {c : Card} → Ready file c → Ready file (after_reading c)
ready_after {file} {c} r =
    record {
      good = good_card (after_reading c) (good_codes_lem c r.good) (good_counts_lem c r.good) (good_profile_lem c r.good) (dropped c r.good r.idle);
      idle = r.idle;
      selected = r.selected;
    }

-- A response, as the reader sees it.
abbrev responding : Bytes → Card → Bytes → ℕ → Result
responding w c d sw = record { returned = responded (length d + 2); card = c; buffer = response_in w d sw }

module _ (w : Bytes) (c : Card) (d : Bytes) where
  data_read_lem : (sw : ℕ) → returned_data (responded (length d + 2)) (response_in w d sw) ≡ d
  unfolding returned_data response_in
  data_read_lem sw = take_at d _ (length d + 2 - 2) (omega arith)

  goes_on : (n : ℕ) → length d ≡ n → whole_block n (responding w c d 0x9000) ≡ true
  unfolding whole_block
  goes_on n long = simp (response_status w d 0x9000, data_read_lem 0x9000, eq-eqb (length d) n long)

  stops : (n sw : ℕ) → sw ≢ 0x9000 → whole_block n (responding w c d sw) ≡ false
  unfolding whole_block
  stops n sw other = simp (response_status w d sw, ne_eqb sw 0x9000 other)

module _ (file : ℕ) (readable : certificate_file file ≡ true) (authentication signature : Bytes)
    (a : LengthFits authentication) (s : LengthFits signature) (n : ℕ) (some : 1 ≤ n) (few : n ≤ 255) where
  abbrev certificate : Bytes
  certificate = certificate_of file authentication signature

  abbrev size : ℕ
  size = length certificate

  size_most : size ≤ 1536
  unfolding certificate_of
  size_most = split (λ (b : Bytes). length b ≤ 1536) (eqb file 0xAACE) (λ _. a.1) (λ _. s.1)

  -- one command of the reader, at most at the end
  module _ (c : Card) (r : Ready file c) (w : Bytes) (room : Room w) (offset : ℕ) (near : offset ≤ size) where
    abbrev x : Call
    x = Command (read_at offset n) authentication signature w

    answered_as : (d : Bytes) (sw : ℕ)
        → read_binary (drop_both c.session) (read_header offset n) authentication signature
        ≡ record { session = drop_both c.session; answer = response d sw }
        → step c x ≡ responding w (after_reading c) d sw
    unfolding step command judge judge_form written
    answered_as d sw e =
        simp (
          r.good,
          le-ltb (length w) 258 room,
          lent_good authentication a,
          lent_good signature s,
          eq-eqb c.session.job.kind 0 r.idle,
          read_form offset n some,
          read_judged offset n some (omega (arith, size_most)) c,
        ) (ap (λ (o : SessionStep). answered w c (in_session c.codes c.counts o)) e)

    certificate_here : certificate_of c.session.selection.file authentication signature ≡ certificate
    certificate_here = ap (λ (f : ℕ). certificate_of f authentication signature) r.selected

    readable_here : certificate_file c.session.selection.file ≡ true
    readable_here = rw r.selected readable

    -- at the end; a whole block; what remains, fewer than n
    read_past : size ≤ offset → step c x ≡ responding w (after_reading c) [] 0x6B00
    read_past h =
        answered_as [] 0x6B00
        (sym (offset_past_end (drop_both c.session) (read_header offset n) authentication signature readable_here
        (rw (word_of_halves offset, certificate_here) h)))

    read_part : offset < size
        → step c x ≡ responding w (after_reading c) (take n (drop offset certificate)) (read_status n (length (drop offset certificate)))
    read_part h =
        answered_as _ _
        (rw (word_of_halves offset, certificate_here) at (sym (part_read (drop_both c.session) (read_header offset n) authentication signature readable_here
        (rw (word_of_halves offset, certificate_here) h))))

    read_whole : offset + n ≤ size → step c x ≡ responding w (after_reading c) (take n (drop offset certificate)) 0x9000
    unfolding read_status
    read_whole h =
        read_part (omega arith)
        ∙ rw (le-ltb (length (drop offset certificate)) n (omega (arith, length-drop offset certificate)), and-false (leb n 255))

    read_rest : offset < size → size < offset + n → step c x ≡ responding w (after_reading c) (drop offset certificate) 0x6282
    unfolding read_status
    read_rest h short =
        let fewer : length (drop offset certificate) < n = omega (arith, length-drop offset certificate) in
        read_part h ∙ rw (take_all n (drop offset certificate) (omega arith), lt-ltb _ n fewer, le-leb n 255 few)

    -- so the reader stops there, or goes on
    stops_at : (commands : ℕ) (d : Bytes) (sw : ℕ) → step c x ≡ responding w (after_reading c) d sw → sw ≢ 0x9000
        → read_blocks (suc commands) c authentication signature w n offset ≡ stopped d sw
    unfolding read_blocks
    stops_at commands d sw e other =
        rw (e, stops w (after_reading c) d n sw other, data_read_lem w (after_reading c) d sw, response_status w d sw)

    goes_on_from : (commands : ℕ) (d : Bytes) → step c x ≡ responding w (after_reading c) d 0x9000 → length d ≡ n
        → read_blocks (suc commands) c authentication signature w n offset
        ≡ joined d (read_blocks commands (after_reading c) authentication signature (response_in w d 0x9000) n (offset + n))
    unfolding read_blocks
    goes_on_from commands d e long =
        rw (e, goes_on w (after_reading c) d n long, data_read_lem w (after_reading c) d 0x9000)

  -- what is left of the certificate at an offset, and the word that the reader will stop at
  abbrev From : ℕ → Collected
  From offset = stopped (drop offset certificate) (last_word (size - offset) n)

  from_end : (offset : ℕ) → size ≤ offset → stopped [] 0x6B00 ≡ From offset
  unfolding last_word
  from_end offset h =
      let none : size - offset ≡ 0 = omega arith in
      rw (drop_of_length-le certificate h, none, zero-mod n)

  from_rest : (offset : ℕ) → offset < size → size < offset + n → stopped (drop offset certificate) 0x6282 ≡ From offset
  unfolding last_word
  from_rest offset h short =
      let rest : (size - offset) % n ≡ size - offset = mod-eq_of_lt (omega arith) in
      rw (rest, ne_eqb (size - offset) 0 (omega arith))

  from_next : (offset : ℕ) → offset + n ≤ size → joined (take n (drop offset certificate)) (From (offset + n)) ≡ From offset
  unfolding last_word
  from_next offset h =
      let fewer : size - offset - n ≡ size - (offset + n) = omega arith in
      let same_rest : (size - offset) % n ≡ (size - (offset + n)) % n = mod-eq-sub-mod (omega arith) ∙ ap (λ (k : ℕ). k % n) fewer in
      rw (same_rest, ← drop-drop n offset certificate, take-append-drop n (drop offset certificate))

  read_on_lem : (commands : ℕ) (c : Card) → Ready file c → (w : Bytes) → Room w → (offset : ℕ) → offset ≤ size → size - offset < commands * n
      → read_blocks commands c authentication signature w n offset ≡ From offset
  read_on_lem zero c r w room offset near enough = absurd (omega (arith, zero-mul n))
  read_on_lem (suc commands) c r w room offset near enough =
      by_test _ (leb size offset)
      (λ e. let h : size ≤ offset = leb-true size offset e in
      stops_at c r w room offset near commands [] 0x6B00 (read_past c r w room offset near h) (λ z. omega (arith, z)) ∙ from_end offset h)
      (λ e. let h : offset < size = leb-false size offset e in
      by_test _ (leb (offset + n) size)
      (λ f. let fits : offset + n ≤ size = leb-true (offset + n) size f in
      let d : Bytes = take n (drop offset certificate) in
      let long : length d ≡ n = omega (arith, length-take n (drop offset certificate), length-drop offset certificate) in
      goes_on_from c r w room offset near commands d (read_whole c r w room offset near fits) long
      ∙ ap (joined d) (read_on_lem commands (after_reading c) (ready_after r) (response_in w d 0x9000)
      (rw (response_sized w d 0x9000 (omega arith)) room) (offset + n) fits (omega (arith, suc-mul commands n)))
      ∙ from_next offset fits)
      (λ f. let short : size < offset + n = leb-false (offset + n) size f in
      stops_at c r w room offset near commands (drop offset certificate) 0x6282 (read_rest c r w room offset near h short) (λ z. omega (arith, z))
      ∙ from_rest offset h short))

-- A readable card, for the file that is selected.
module _ {c : Card} {authentication signature w : Bytes} (r : Readable c authentication signature w) (n : ℕ) (some : 1 ≤ n) (few : n ≤ 255) where
  abbrev file : ℕ
  file = c.session.selection.file

  read_from : (commands offset : ℕ) → offset ≤ length (certificate_shown c authentication signature)
      → length (certificate_shown c authentication signature) - offset < commands * n
      → read_blocks commands c authentication signature w n offset
      ≡ From file r.selected authentication signature r.authentication_fits r.signature_fits n some few offset
  read_from commands =
      read_on_lem file r.selected authentication signature r.authentication_fits r.signature_fits n some few commands c
      (record { good = r.good; idle = r.idle; selected = refl }) w r.room

pub read_in_blocks : ReadInBlocks
read_in_blocks =
    record {
      whole = λ c authentication signature buffer r n some few commands enough.
          read_from r n some few commands 0 (omega arith) (simp unary_clauses enough) ∙ simp unary_clauses;
      onward = λ c authentication signature buffer r n some few. read_from r n some few;
    }
