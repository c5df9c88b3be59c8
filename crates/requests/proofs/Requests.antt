-- Laws of what a line asks for.
use mathlib.Core.Path.{◌≡◌, refl, sym, ap, ◌∙◌}
use mathlib.Core.Bool.{true, false, not, ◌&&◌, and-false}
use mathlib.Core.List.{[], ◌∷◌}
use Prim.Native.Nat.{ℕ, ◌+◌, ◌-◌, ◌*◌, ◌≤◌, ◌<◌, min}
use native.Mathlib.Numerals.{add-one}
use native.Mathlib.Omega.{arith}
use lib.Dec.{eqb, leb, ltb}
use lib.ListN.{length, take, drop, length-drop}
use lib.Seq.{drop-cons}
use borrow.Author.Tests.{leb-true, leb-false, ltb-false, le-ltb, ne_eqb}
use Rattle.octets.specs.Octets.{Bytes, byte_at, same, all_bytes, pasted}
use Rattle.octets.proofs.Tests.{by_test, split, and_left}
use Rattle.hexadecimal.specs.Hex.{is_hex, bytes_of}
use Rattle.hexadecimal.proofs.Laws.{bytes_of_bytes, length_bytes_of}
use Rattle.requests.specs.declared.Dialect.{Dialect}
use Rattle.requests.specs.declared.Dialect.TheVariants.{Transcript, StandIn}
use Rattle.requests.specs.Requests.{Request, reset, command_of, delivery_of, image_of, saving, authentication_of, signature_of, buffer_of, other, longest, stands_in, decimal_from, decimal, is_size, size_request, further_request, hex_request, request_of}
use Rattle.requests.specs.Meanings.{room_after}
use Rattle.octets.proofs.Pasting.{take_pasted, pasted_nothing}

-- A number behind other digits is no less than they are.
pub decimal_grows : (n : ℕ) (s : Bytes) → n ≤ decimal_from n s
decimal_grows n [] = omega arith
decimal_grows n (x ∷ s) = omega (arith, decimal_grows (n * 10 + (x - 0x30)) s)

-- Where a number is past the greatest, its further digits do not matter.
pub decimal_cut : (n : ℕ) (s : Bytes) → min (decimal_from (min n 4097) s) 4097 ≡ min (decimal_from n s) 4097
decimal_cut n s =
    by_test _ (leb n 4097)
    (λ e.
    let same : min n 4097 ≡ n = omega (arith, leb-true n 4097 e) in
    rw same)
    (λ e.
    let great : 4097 ≤ n = omega (arith, leb-false n 4097 e) in
    omega (arith, decimal_grows n s, decimal_grows (min n 4097) s))

-- A turn of the loop that reads digits.
pub decimal_more : (s : Bytes) (i n : ℕ) → i < length s → {next : ℕ} → next ≡ min (n * 10 + (byte_at s i - 0x30)) 4097
    → min (decimal_from n (drop i s)) 4097 ≡ min (decimal_from next (drop (i + 1) s)) 4097
decimal_more s i n h e =
    rw (e, decimal_cut (n * 10 + (byte_at s i - 0x30)) (drop (i + 1) s), add-one, drop-cons s i 0 h)

-- An empty line.
pub nothing_asked : (d : Dialect) (line room : Bytes) → length line < 1 → (other ≡ request_of d line) × (room ≡ room_after d line room)
unfolding request_of room_after hex_request further_request
nothing_asked Transcript [] room h = (refl, sym (pasted_nothing room))
nothing_asked StandIn [] room h = (refl, sym (pasted_nothing room))
nothing_asked d (x ∷ line) room h = absurd (omega arith)

-- The bytes that a line's hex says, read from the room that they were written to.
pub at_most : (d : Dialect) → longest d ≤ 4096
at_most Transcript = omega arith
at_most StandIn = omega arith

pub bytes_read : (d : Dialect) (line : Bytes) {most : ℕ} → most ≡ longest d → length line ≤ most → {rest : Bytes} → rest ≡ drop 1 line
    → (room : Bytes) → length room ≡ 2048 → {n : ℕ} {after : Bytes} → (n ≡ min (length (bytes_of rest)) (length room)) × (after ≡ pasted room 0 (bytes_of rest))
    → take n after ≡ bytes_of rest
bytes_read d line m h {rest} r room size {n} {after} w =
    let b : Bytes = bytes_of rest in
    let long : length rest ≡ length line - 1 = ap length r ∙ length-drop 1 line in
    let short : length b ≤ length room = omega (arith, length_bytes_of rest, at_most d) in
    let count : n ≡ length b = omega (arith, w.0) in
    rw (w.1, count) (take_pasted room b short)

-- A line of one character.
single : (line : Bytes) (x : ℕ) → (length line ≡ 1 → byte_at line 0 ≡ x → ⊥) → same line (x ∷ []) ≡ false
single [] x n = refl
single (y ∷ []) x n = rw (ne_eqb y x (n refl))
single (y ∷ z ∷ line) x n = and-false (eqb y x)

-- A letter and hex.
module _ (d : Dialect) (line room : Bytes) (h : length line ≤ longest d) (size : length room ≡ 2048)
    (p : length line ≡ 1 → byte_at line 0 ≡ 0x50 → ⊥) (i : d ≡ StandIn → length line ≡ 1 → byte_at line 0 ≡ 0x49 → ⊥) (b : d ≡ StandIn → byte_at line 0 ≡ 0x42 → ⊥) where
  no_saving : (stands_in d && same line (0x49 ∷ [])) ≡ false
  no_saving = go d i
    where
      go : (e : Dialect) → (e ≡ StandIn → length line ≡ 1 → byte_at line 0 ≡ 0x49 → ⊥) → (stands_in e && same line (0x49 ∷ [])) ≡ false
      go Transcript j = refl
      go StandIn j = single line 0x49 (j refl)

  no_size : (stands_in d && eqb (byte_at line 0) 0x42) ≡ false
  no_size = go d b
    where
      go : (e : Dialect) → (e ≡ StandIn → byte_at line 0 ≡ 0x42 → ⊥) → (stands_in e && eqb (byte_at line 0) 0x42) ≡ false
      go Transcript j = refl
      go StandIn j = ne_eqb (byte_at line 0) 0x42 (j refl)

  pub hex_line : {rest : Bytes} → rest ≡ drop 1 line → is_hex rest ≡ true → {n : ℕ} {after : Bytes} → (n ≡ min (length (bytes_of rest)) (length room)) × (after ≡ pasted room 0 (bytes_of rest))
      → {asked : Request} → asked ≡ hex_request d (byte_at line 0) (take n after) → (asked ≡ request_of d line) × (after ≡ room_after d line room)
  unfolding request_of room_after
  hex_line {rest} r x {n} {after} w e =
      let read : take n after ≡ bytes_of rest = bytes_read d line refl h r room size w in (
        e ∙ ap (hex_request d (byte_at line 0)) read ∙ rw (le-ltb (longest d) (length line) h, single line 0x50 p, no_saving, no_size, ← r, x),
        w.1 ∙ rw (le-ltb (longest d) (length line) h, single line 0x50 p, no_saving, no_size, ← r, x),
      )

-- What holds of every request that a line can make holds of the one that it makes. Its bytes are bytes, at most 2,048.
pub record Cases (d : Dialect) (P : Request → Type 0) : Type 0 where
  pub resets : P reset
  pub savings : stands_in d ≡ true → P saving
  pub sizes : (n : ℕ) → P (buffer_of n)
  pub others : P other
  pub commands : (b : Bytes) → all_bytes b ≡ true → length b ≤ 2048 → P (command_of b)
  pub deliveries : (b : Bytes) → all_bytes b ≡ true → length b ≤ 2048 → P (delivery_of b)
  pub images : (b : Bytes) → all_bytes b ≡ true → length b ≤ 2048 → P (image_of b)
  pub authentications : (b : Bytes) → all_bytes b ≡ true → length b ≤ 2048 → P (authentication_of b)
  pub signatures : (b : Bytes) → all_bytes b ≡ true → length b ≤ 2048 → P (signature_of b)

module _ (P : Request → Type 0) (d : Dialect) (c : Cases d P) where
  by_letter : (letter : ℕ) (b : Bytes) → all_bytes b ≡ true → length b ≤ 2048 → P (hex_request d letter b)
  unfolding hex_request further_request
  by_letter letter b e h =
      split P (eqb letter 0x43) (λ _. c.commands b e h)
      (λ _. split P (eqb letter 0x44) (λ _. c.deliveries b e h)
      (λ _. split P (stands_in d)
      (λ _. split P (eqb letter 0x4C) (λ _. c.images b e h)
      (λ _. split P (eqb letter 0x41) (λ _. c.authentications b e h)
      (λ _. split P (eqb letter 0x53) (λ _. c.signatures b e h) (λ _. c.others))))
      (λ _. c.others)))

  pub every_request : (line : Bytes) → P (request_of d line)
  unfolding request_of size_request
  every_request line =
      split P (ltb (longest d) (length line)) (λ _. c.others)
      (λ l. split P (same line (0x50 ∷ [])) (λ _. c.resets)
      (λ _. split P (stands_in d && same line (0x49 ∷ [])) (λ e. c.savings (and_left (stands_in d) (same line (0x49 ∷ [])) e))
      (λ _. split P (stands_in d && eqb (byte_at line 0) 0x42) (λ _. split P (is_size (drop 1 line)) (λ _. c.sizes (decimal (drop 1 line))) (λ _. c.others))
      (λ _. split P (not (is_hex (drop 1 line))) (λ _. c.others)
      (λ _. by_letter (byte_at line 0) (bytes_of (drop 1 line)) (bytes_of_bytes (drop 1 line))
      (omega (arith, length_bytes_of (drop 1 line), length-drop 1 line, ltb-false (longest d) (length line) l, at_most d)))))))
