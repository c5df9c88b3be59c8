-- What the writer answers, and that load and the writer are each other's inverse.
use mathlib.Core.Path.{◌≡◌, refl, sym, ap, subst, ◌∙◌}
use mathlib.Core.Bool.{Bool, true, false, not, false≢true}
use mathlib.Core.List.{List, [], ◌∷◌, ◌++◌}
use Prim.Native.Nat.{ℕ, ◌≤◌, ◌<◌}
use native.Mathlib.Omega.{arith}
use lib.Dec.{leb, ltb}
use lib.ListN.{length, get_or, take, drop, replicate, length-append, length-take, length-drop}
use lib.Seq.{drop-append_seam, take_at}
use borrow.Author.Tests.{leb-true, leb-false, ltb-true, ltb-false}
use Rattle.octets.specs.Octets.{Bytes, all_bytes, blank, filled, good_room}
use Rattle.octets.proofs.Tests.{split, by_test, either, below_three}
use Rattle.octets.proofs.Strings.{all_take}
use Rattle.rules.specs.declared.Card.{Card}
use Rattle.rules.specs.declared.Code.{Code}
use Rattle.rules.specs.Numbers.{Wrote, unwritten, wrote}
use Rattle.rules.specs.Codes.{PUK, PIN1, PIN2, least, full_tries, storing, code_of, closed, no_limit, count_of, unlimited}
use Rattle.rules.specs.Keys.{present, of_class, active_key}
use Rattle.rules.specs.Session.{new_session}
use Rattle.rules.specs.Files.{files_in}
use Rattle.rules.specs.State.{good_code, good_codes, good_counts, good_references, good_records, good_profile, good_selection, good_environment, good_job}
use Rattle.rules.specs.State.{good_session, good}
use Rattle.rules.specs.Edge.{power_reset}
use Rattle.rules.specs.Image.{load}
use Rattle.rules.specs.Writer.{code_image, codes_image, keys_among, key_bytes, keys_image, references_image, record_image, records_image}
use Rattle.rules.specs.Writer.{personal_image, counts_image, image_of, short_for_image, write}
use Rattle.rules.specs.Counting.{tries_at_load, count_at_load}
use Rattle.rules.specs.Sample.{sample_card}
use Rattle.rules.specs.Demands.{Counted}
use Rattle.rules.specs.ImageLaws.{WriteDue, bad_state, short_buffer, WriteDefined, Written, WrittenIn, LimitedIn, Inverse, FirstBytes}
use Rattle.rules.specs.ImageLaws.{LastSections, LimitReached, FromGoodCards}
use Rattle.rules.proofs.Parts.{good_codes_lem, three_codes, good_profile_lem, good_session_lem, good_card, counts_good}
use Rattle.rules.proofs.Loading.{fresh}
use Rattle.rules.proofs.Writing.{image_loads, image_followed, last_section_lem, image_least, image_most, image_limited, write_bad}
use Rattle.rules.proofs.Writing.{write_short, write_whole}
use Rattle.rules.proofs.FirstBytes.{first_bytes}
use Rattle.rules.proofs.Demand3.{demand_3}

loads_zero : (c : Card) → good c ≡ true → (load (image_of c)).0 ≡ 0
loads_zero c g = ap (λ (r : ℕ × Card). r.0) (image_loads c g)

restored : (image : Bytes) → all_bytes image ≡ true → (load image).0 ≡ 0 → image_of (load image).1 ≡ image
restored image b e = sym ((fresh image e).joined b)

-- The sample card's image has the fewest bytes.
shortest : WrittenIn 84
unfolding sample_card good good_codes good_counts good_code good_profile good_references good_records good_session good_selection good_environment good_job good_room files_in present of_class active_key new_session least blank filled image_of codes_image code_image keys_image keys_among key_bytes references_image personal_image records_image record_image counts_image
shortest = record { card = sample_card; is_good = refl; size = refl }

-- The sample card with other unblocking counts: with a section of them its image has the fewest bytes of those.
sample_with : ℕ → Card
sample_with n = record { codes = sample_card.codes; counts = n ∷ n ∷ []; profile = sample_card.profile; session = sample_card.session }

shortest_limited_lem : LimitedIn 87
unfolding sample_with sample_card good good_codes good_counts good_code good_profile good_references good_records good_session good_selection good_environment good_job good_room files_in present of_class active_key new_session least blank filled image_of codes_image code_image keys_image keys_among key_bytes references_image personal_image records_image record_image counts_image
shortest_limited_lem = record { card = sample_with 0; is_good = refl; limited = refl; size = refl }

-- A card with the longest codes, all keys, the longest records and a section of unblocking counts has the most.
longest_card : Card
longest_card =
    record {
      codes = replicate 3 (storing (replicate 12 0x39) full_tries false);
      counts = 0 ∷ 0 ∷ [];
      profile = record {
        keys = replicate 4 true;
        references = sample_card.profile.references;
        personal = replicate 16 (record { bytes = replicate 64 0x20; len = 64 });
      };
      session = new_session;
    }

longest : WrittenIn 1118
unfolding longest_card sample_card good good_codes good_counts good_code good_profile good_references good_records good_session good_selection good_environment good_job good_room files_in present of_class active_key new_session least blank filled image_of codes_image code_image keys_image keys_among key_bytes references_image personal_image records_image record_image counts_image
longest = record { card = longest_card; is_good = refl; size = refl }

made : (image : Bytes) → all_bytes image ≡ true → (load image).0 ≡ 0 → Written image
made image b e = record { card = (load image).1; is_good = (fresh image e).is_good; made = restored image b e }

-- The writer's answers are told apart.
refusal_of_lem : Wrote → ℕ
refusal_of_lem (unwritten n) = n
refusal_of_lem (wrote n) = 0

length_of : Wrote → ℕ
length_of (unwritten n) = 0
length_of (wrote n) = n

is_refusal : Wrote → Bool
is_refusal (unwritten n) = true
is_refusal (wrote n) = false

length_told : {n m : ℕ} → wrote n ≡ wrote m → n ≡ m
unfolding length_of
length_told e = ap length_of e

clash : {A : Type 0} {n m : ℕ} → unwritten n ≡ wrote m → A
unfolding is_refusal
clash e = absurd (false≢true (sym (ap is_refusal e)))

module _ (c : Card) (buffer : Bytes) where
  -- What holds of each of the three ways out of the writer.
  pub write_ways : (P : Wrote × Bytes → Type 0)
      → (good c ≡ false → P (unwritten 1, buffer))
      → (good c ≡ true → length buffer < 1118 → P (unwritten 2, buffer))
      → (good c ≡ true → 1118 ≤ length buffer → P (wrote (length (image_of c)), image_of c ++ drop (length (image_of c)) buffer))
      → P (write c buffer)
  write_ways P bad short whole =
      by_test _ (good c)
      (λ g. by_test _ (short_for_image buffer)
      (λ e. let h : length buffer < 1118 = ltb-true _ _ e in rw (write_short c buffer g h) (short g h))
      (λ e. let h : 1118 ≤ length buffer = ltb-false _ _ e in rw (write_whole c buffer g h) (whole g h)))
      (λ g. rw (write_bad c buffer g) (bad g))

  due_refused : (n : ℕ) → WriteDue c buffer n → (write c buffer).0 ≡ unwritten n
  due_refused n (bad_state g) = rw (write_bad c buffer g)
  due_refused n (short_buffer g h) = rw (write_short c buffer g h)

  refused_due : (n : ℕ) → (write c buffer).0 ≡ unwritten n → WriteDue c buffer n
  unfolding refusal_of_lem
  refused_due n =
      write_ways (λ r. r.0 ≡ unwritten n → WriteDue c buffer n)
      (λ g e. rw (← ap refusal_of_lem e) (bad_state g))
      (λ g h e. rw (← ap refusal_of_lem e) (short_buffer g h))
      (λ g h e. clash (sym e))

  image_written : (n : ℕ) → (write c buffer).0 ≡ wrote n
      → (n ≡ length (image_of c)) × (take n (write c buffer).1 ≡ image_of c) × (drop n (write c buffer).1 ≡ drop n buffer)
  unfolding length_of
  image_written n =
      write_ways (λ r. r.0 ≡ wrote n → (n ≡ length (image_of c)) × (take n r.1 ≡ image_of c) × (drop n r.1 ≡ drop n buffer))
      (λ g e. clash e)
      (λ g h e. clash e)
      (λ g h e.
      let size : length (image_of c) ≡ n = ap length_of e in
      (sym size, take_at (image_of c) _ n size, rw (← size) (drop-append_seam (image_of c) _)))

  pub write_defined : WriteDefined c buffer
  write_defined = record {
    due = λ n. (refused_due n, due_refused n);
    refusal = λ n.
        write_ways (λ r. r.0 ≡ unwritten n → r.1 ≡ buffer) (λ g e. refl) (λ g h e. refl) (λ g h e. clash (sym e));
    image = image_written;
    sized =
        write_ways (λ r. length r.1 ≡ length buffer) (λ g. refl) (λ g h. refl)
        (λ g h.
        let shorter : length (image_of c) ≤ 1118 = image_most c g in
        omega (arith, length-append (image_of c) (drop (length (image_of c)) buffer), length-drop (length (image_of c)) buffer));
  }

-- What the call wrote loads.
call_loads_lem : (c : Card) (buffer : Bytes) (n : ℕ) → (write c buffer).0 ≡ wrote n
    → load (take n (write c buffer).1) ≡ (0, (power_reset c).1)
call_loads_lem c buffer n =
    write_ways c buffer (λ r. r.0 ≡ wrote n → load (take n r.1) ≡ (0, (power_reset c).1))
    (λ g e. clash e)
    (λ g h e. clash e)
    (λ g h e. rw (take_at (image_of c) (drop (length (image_of c)) buffer) n (length_told e)) (image_loads c g))

-- A state just loaded is written as its image.
call_restores_lem : (image buffer : Bytes) → all_bytes image ≡ true → (load image).0 ≡ 0 → 1118 ≤ length buffer
    → write (load image).1 buffer ≡ (wrote (length image), image ++ drop (length image) buffer)
call_restores_lem image buffer b e h = rw (write_whole (load image).1 buffer (fresh image e).is_good h, restored image b e)

images_apart : (a b : Bytes) → all_bytes a ≡ true → all_bytes b ≡ true → (load a).0 ≡ 0 → (load b).0 ≡ 0 → (load a).1 ≡ (load b).1 → a ≡ b
images_apart a b p q e f same = sym (restored a p e) ∙ ap image_of same ∙ restored b q f

-- Codes are written without their marks.
closed_image : (codes : List Code) → length codes ≡ 3 → codes_image (closed (closed (closed codes PUK) PIN1) PIN2) ≡ codes_image codes
unfolding codes_image code_image
closed_image [] n = absurd (omega arith)
closed_image (a ∷ []) n = absurd (omega arith)
closed_image (a ∷ b ∷ []) n = absurd (omega arith)
closed_image (a ∷ b ∷ c ∷ l) n = refl

reset_image : (c : Card) → good c ≡ true → image_of (power_reset c).1 ≡ image_of c
unfolding power_reset image_of
reset_image c g = rw (g, closed_image c.codes (three_codes c.codes (good_codes_lem c g)))

pub inverse : Inverse
inverse = record {
  loads = image_loads;
  restores = restored;
  call_loads = call_loads_lem;
  call_restores = call_restores_lem;
  reset = reset_image;
  apart = images_apart;
  exactly = λ image b. (made image b, λ w. ap (λ (i : Bytes). (load i).0) (sym w.made) ∙ loads_zero w.card w.is_good);
  sizes = λ c g. (image_least c g, image_most c g);
  limited_size = image_limited;
  shortest = shortest;
  shortest_limited = shortest_limited_lem;
  longest = longest;
}

-- Fewer than 1,119 bytes: of the longest image itself, and of the longest image with one byte more.
longest_bytes : all_bytes (image_of longest.card) ≡ true
unfolding longest longest_card sample_card filled blank image_of codes_image code_image keys_image keys_among present key_bytes references_image personal_image records_image record_image counts_image
longest_bytes = refl

longest_limited : unlimited longest.card.counts ≡ false
unfolding longest longest_card
longest_limited = refl

not_fewer : (n : ℕ) → n ≤ 1118 → ((image : Bytes) → load (take n image) ≡ load image) → 1119 ≤ n
not_fewer n h each =
    let c : Card = longest.card in
    let g : good c ≡ true = longest.is_good in
    let size : length (image_of c) ≡ 1118 = longest.size in
    either (1119 ≤ n) n 1118
    (λ e.
    let whole : take n (image_of c ++ 0 ∷ []) ≡ image_of c = take_at (image_of c) (0 ∷ []) n (size ∙ sym e) in
    let zero-27 : 0 ≡ 27 = sym (loads_zero c g) ∙ ap (λ (i : Bytes). (load i).0) (sym whole) ∙ ap (λ (r : ℕ × Card). r.0) (each (image_of c ++ 0 ∷ [])) ∙ image_followed c g longest_limited 0 [] in
    absurd (omega arith))
    (λ e.
    let loads : (load (take n (image_of c))).0 ≡ 0 = ap (λ (r : ℕ × Card). r.0) (each (image_of c)) ∙ loads_zero c g in
    let same : take n (image_of c) ≡ image_of c = images_apart (take n (image_of c)) (image_of c) (all_take (λ x. ltb x 256) n (image_of c) longest_bytes) longest_bytes loads (loads_zero c g) (ap (λ (r : ℕ × Card). r.1) (each (image_of c))) in
    absurd (omega (arith, ap length same, length-take n (image_of c))))

pub first_bytes_law : FirstBytes
first_bytes_law = record {
  enough = first_bytes;
  needed = λ n all. by_test _ (leb n 1118) (λ e. not_fewer n (leb-true n 1118 e) all) (λ e. leb-false n 1118 e);
  left_over = image_followed;
}

pub last_sections : LastSections
last_sections = last_section_lem

-- A power reset keeps the tries.
tries_kept : (codes : List Code) → length codes ≡ 3 → (k : ℕ) → k < 3
    → (code_of (closed (closed (closed codes PUK) PIN1) PIN2) k).tries ≡ (code_of codes k).tries
tries_kept [] n = absurd (omega arith)
tries_kept (a ∷ []) n = absurd (omega arith)
tries_kept (a ∷ b ∷ []) n = absurd (omega arith)
tries_kept (a ∷ b ∷ c ∷ l) n =
    below_three (λ k. (code_of (closed (closed (closed (a ∷ b ∷ c ∷ l) PUK) PIN1) PIN2) k).tries ≡ (code_of (a ∷ b ∷ c ∷ l) k).tries) refl refl refl

reset_tries : (c : Card) → good c ≡ true → (k : ℕ) → k < 3 → (code_of (power_reset c).1.codes k).tries ≡ (code_of c.codes k).tries
unfolding power_reset
reset_tries c g k h = rw g (tries_kept c.codes (three_codes c.codes (good_codes_lem c g)) k h)

tries_loaded : (c : Card) → good c ≡ true → (k : ℕ) → k < 3 → tries_at_load (image_of c) k ≡ (code_of c.codes k).tries
tries_loaded c g k h =
    sym ((fresh (image_of c) (loads_zero c g)).tries k h)
    ∙ ap (λ (r : ℕ × Card). (code_of r.1.codes k).tries) (image_loads c g)
    ∙ reset_tries c g k h

-- A power reset keeps the unblocking counts.
reset_counts : (c : Card) → (power_reset c).1.counts ≡ c.counts
unfolding power_reset
reset_counts c = split (λ (o : _ × Card). o.1.counts ≡ c.counts) (not (good c)) (λ _. refl) (λ _. refl)

counts_loaded : (c : Card) → good c ≡ true → (k : ℕ) → 1 ≤ k → k < 3 → count_at_load (image_of c) k ≡ count_of c.counts k
counts_loaded c g k low h =
    sym ((fresh (image_of c) (loads_zero c g)).counts k low h)
    ∙ ap (λ (r : ℕ × Card). count_of r.1.counts k) (image_loads c g)
    ∙ ap (λ (l : List ℕ). count_of l k) (reset_counts c)

-- The sample card with a count for both PINs.
sample_good : good sample_card ≡ true
unfolding sample_card good good_codes good_counts good_code good_profile good_references good_records good_session good_selection good_environment good_job good_room files_in present of_class active_key new_session least blank filled
sample_good = refl

limited_good : (n : ℕ) → n ≤ no_limit → good (sample_with n) ≡ true
unfolding sample_with
limited_good n limit =
    good_card (sample_with n) (good_codes_lem sample_card sample_good)
    (counts_good (n ∷ n ∷ []) refl (λ i h.
    below_three (λ i. i < 2 → get_or (n ∷ n ∷ []) i 0 ≤ no_limit) (λ _. limit) (λ _. limit) (λ h. absurd (omega arith)) i (omega arith) h))
    (good_profile_lem sample_card sample_good) (good_session_lem sample_card sample_good)

sample_tries_lem : (n j : ℕ) → j < 3 → (code_of (sample_with n).codes j).tries ≡ 3
unfolding sample_with sample_card
sample_tries_lem n = below_three (λ j. (code_of (sample_with n).codes j).tries ≡ 3) refl refl refl

sample_count : (n k : ℕ) → k < 3 → 1 ≤ k → count_of (sample_with n).counts k ≡ n
unfolding sample_with
sample_count n = below_three (λ k. 1 ≤ k → count_of (n ∷ n ∷ []) k ≡ n) (λ none. absurd (omega arith)) (λ _. refl) (λ _. refl)

every_count_lem : (n : ℕ) → n < no_limit → (k : ℕ) → 1 ≤ k → k < 3 → LimitReached n k
every_count_lem n limit k low h =
    let c : Card = sample_with n in
    let g : good c ≡ true = limited_good n (omega arith) in
    let image : Bytes = image_of c in
    let three : (j : ℕ) → j < 3 → tries_at_load image j ≡ 3 = λ j few. tries_loaded c g j few ∙ sample_tries_lem n j few in
    let count : count_at_load image k ≡ n = counts_loaded c g k low h ∙ sample_count n k h low in
    record {
      image = image;
      loads = loads_zero c g;
      three = three;
      count = count;
      reached = (demand_3 image (loads_zero c g)).limited_met (omega (arith, three PUK (omega arith))) k low h n (λ _. omega (arith, count));
    }

pub from_good_cards : FromGoodCards
from_good_cards = record {
  counted = λ c g. subst (Counted (image_of c)) (ap (λ (r : ℕ × Card). r.1) (image_loads c g)) (demand_3 (image_of c) (loads_zero c g));
  tries = tries_loaded;
  counts = counts_loaded;
  every_count = every_count_lem;
}
