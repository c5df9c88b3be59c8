-- SELECT, READ RECORD, READ BINARY and GET RESPONSE keep a good session, and their answers fit.
use mathlib.Core.Path.{◌≡◌, refl}
use mathlib.Core.Bool.{Bool, true, ◌||◌, or-true}
use mathlib.Core.List.{List, []}
use Prim.Native.Nat.{ℕ, zero, suc, ◌-◌, ◌≤◌, ◌<◌}
use native.Mathlib.Omega.{arith}
use lib.Dec.{eqb, leb}
use lib.ListN.{length, take, drop, get_or, length-take, length-drop}
use Rattle.octets.specs.Octets.{Bytes, good_room}
use Rattle.octets.proofs.Tests.{split, either, and_left, and_right}
use Rattle.rules.specs.declared.Code.{Code}
use Rattle.rules.specs.declared.Profile.{Profile}
use Rattle.rules.specs.declared.Record.{Record}
use Rattle.rules.specs.declared.Session.{Session}
use Rattle.rules.specs.declared.Header.{Header}
use Rattle.rules.specs.Session.{root, esteid_directory, no_file, held_bytes, with_held}
use Rattle.rules.specs.Files.{record_count, counter_record, puk_record, pin_record, personal_record, record_of, no_record}
use Rattle.rules.specs.State.{good_record, good_records, good_profile, good_selection, good_session}
use Rattle.rules.specs.FileCommands.{select, read_record, read_binary, get_response}
use Rattle.rules.proofs.Parts.{room_len, room_taken, good_references_lem, good_records_lem}
use Rattle.rules.proofs.Sessions.{selection_good, held_short, selection_replaced, held_replaced}
use Rattle.rules.proofs.Sessions.{references_length}
use Rattle.rules.proofs.KeepingAnswers.{MayCome, Keeps, more_fits, ended_fits, ok_keeps, refusal_keeps, data_keeps, give_keeps}
use Rattle.rules.proofs.Walks.{select_walk, read_record_walk, read_binary_walk, get_response_walk}

-- One of the first n records.
record_good : (rs : List Record) (n : ℕ) → good_records n rs ≡ true → (i : ℕ) → i < n → good_record (get_or rs i no_record) ≡ true
unfolding good_records
record_good rs zero g i h = absurd (omega arith)
record_good rs (suc n) g i h =
    either _ i n
    (λ e. rw e (and_right (good_records n rs) (good_record (get_or rs n no_record)) g))
    (λ e. record_good rs n (and_left (good_records n rs) (good_record (get_or rs n no_record)) g) i (omega arith))

-- A string that fits a response; the records of the files do.
record Short (d : Bytes) : Type 0 where
  most : length d ≤ 256

count_most : (file : ℕ) → record_count file ≤ 16
unfolding record_count
count_most file =
    split (λ n. n ≤ 16) (eqb file 0x0016) (λ e. omega arith)
    (λ e. split (λ n. n ≤ 16) (eqb file 0x0033) (λ e. omega arith) (λ e. omega arith))

module _ (codes : List Code) (p : Profile) (g : good_profile p ≡ true) where
  personal_short : (n : ℕ) → n ≤ 16 → Short (personal_record p.personal n)
  unfolding personal_record
  personal_short n h =
      let r : Record = get_or p.personal (n - 1) no_record in
      let is_good : good_record r ≡ true = record_good p.personal 16 (good_records_lem p g) (n - 1) (omega arith) in
      let room : good_room 64 r.bytes r.len ≡ true = and_right (leb 1 r.len) _ is_good in
      omega (arith, room_len 64 r.bytes r.len room, room_taken 64 r.bytes r.len room)

  counter_short : (n : ℕ) → Short (counter_record codes n)
  unfolding counter_record puk_record pin_record
  counter_short n =
      split Short (eqb n 1) (λ e. omega arith) (λ e. split Short (eqb n 2) (λ e. omega arith) (λ e. omega arith))

  record_short : (file n : ℕ) → n ≤ record_count file → Short (record_of codes p file n)
  unfolding record_of
  record_short file n h =
      split Short (eqb file 0x0016) (λ e. counter_short n)
      (λ e. split Short (eqb file 0x0033) (λ e. omega (arith, references_length p.keys p.references (good_references_lem p g)))
      (λ e. personal_short n (omega (arith, count_most file))))

  pub read_record_keeps : (m : MayCome) (s : Session) → good_session p.keys s ≡ true → s.job.kind ≡ 0 → (h : Header)
      → Keeps m p.keys (read_record codes p s h)
  read_record_keeps m s gs idle h =
      read_record_walk (Keeps m p.keys) s codes p h (refusal_keeps gs)
      (λ there. give_keeps m p.keys s gs h.le _ idle (record_short s.selection.file h.p1 there).most)

module _ (m : MayCome) (keys : List Bool) (s : Session) (g : good_session keys s ≡ true) (h : Header) where
  pub select_keeps : (d : Bytes) → Keeps m keys (select s h d)
  unfolding good_selection
  select_keeps d =
      let directory : ℕ = s.selection.directory in
      let known : (eqb directory root || eqb directory esteid_directory) ≡ true = and_left _ _ (selection_good keys s g) in
      select_walk (Keeps m keys) s h d
      (ok_keeps (selection_replaced keys s g root no_file refl))
      (ok_keeps (selection_replaced keys s g esteid_directory no_file refl))
      (λ there. ok_keeps (selection_replaced keys s g directory _ (simp (known, there, or-true))))
      (refusal_keeps g 0x6A82 refl)

  -- READ BINARY gives at most Le bytes, and with 6282 all that remain, which are fewer.
  pub read_binary_keeps : (authentication signature : Bytes) → h.le ≤ 256
      → ((d : Bytes) → 1 ≤ length d → length d < h.le → h.le ≤ 255 → m.ended d)
      → Keeps m keys (read_binary s h authentication signature)
  read_binary_keeps authentication signature le may =
      read_binary_walk (Keeps m keys) s h authentication signature (refusal_keeps g)
      (λ remaining. data_keeps g (simp length-take (omega arith)))
      (λ remaining some fewer short.
      let all : length (take h.le remaining) ≡ length remaining = omega (arith, length-take h.le remaining) in
      record { session = g; answer = ended_fits (omega arith) (may _ (omega arith) (omega arith) short) })

  pub get_response_keeps : s.job.kind ≡ 0 → Keeps m keys (get_response s h)
  get_response_keeps idle =
      let held : Bytes = held_bytes s in
      let short : length held ≤ 256 = held_short keys s g in
      let kept : (d : Bytes) → length d ≤ 256 → good_session keys (with_held s d) ≡ true = held_replaced keys s g idle in
      get_response_walk (Keeps m keys) s h
      (refusal_keeps (kept [] (omega arith)) 0x6985 refl)
      (data_keeps (kept [] (omega arith)) short)
      (λ more. record {
        session = kept (drop h.le held) (simp length-drop (omega arith));
        answer = more_fits (omega (arith, length-take h.le held)) (omega arith);
      })
