-- What every command keeps: a good state, and an answer that fits the buffer.
use mathlib.Core.Path.{◌≡◌, refl, sym, ◌∙◌}
use mathlib.Core.Logic.{◌≢◌}
use mathlib.Core.Bool.{Bool, true, false, and-false, false≢true}
use mathlib.Core.List.{List, []}
use Prim.Native.Nat.{ℕ, ◌+◌, ◌/◌, ◌≤◌, ◌<◌}
use native.Mathlib.Omega.{arith}
use lib.Dec.{eqb, leb, ltb}
use lib.ListN.{length}
use borrow.Author.Tests.{eqb-false, ltb-true, eq-eqb, le-leb}
use Rattle.octets.specs.Octets.{Bytes}
use Rattle.octets.proofs.Tests.{split, and_left, and_right, never}
use Rattle.rules.specs.declared.CodeStep.{CodeStep}
use Rattle.rules.specs.declared.Header.{Header}
use Rattle.rules.specs.declared.Session.{Session}
use Rattle.rules.specs.declared.JobKind.{JobKind}
use Rattle.rules.specs.declared.JobKind.TheVariants.{Authenticate, Sign, Decipher}
use Rattle.rules.specs.Numbers.{kind_number}
use Rattle.rules.specs.Keys.{usable}
use Rattle.rules.specs.State.{good_codes, good_counts, good_references, good_job, good_session}
use Rattle.rules.specs.Answers.{Answer, response, job, Step, SessionStep, session_status, more_bytes, give, hand_out}
use Rattle.rules.specs.KeyCommands.{job_key}
use Rattle.rules.specs.Demands.{block_of, refusal_status}
use Rattle.rules.proofs.Walks.{refusing, give_walk}
use Rattle.rules.proofs.Sessions.{held_replaced, job_replaced, environment_good, key_usable}

-- What may come: data with 6282, and a job, by its kind and block.
pub record MayCome : Type 1 where
  pub ended : Bytes → Type 0
  pub job : ℕ → Bytes → Type 0

-- A response: at most 256 bytes of data, two status bytes, no data with a refusal, and with 6282 data that may come with it.
pub record FitResponse (m : MayCome) (d : Bytes) (sw : ℕ) : Type 0 where
  pub size : length d ≤ 256
  pub word : sw < 65536
  pub refusal : refusal_status sw ≡ true → length d ≡ 0
  pub ended : sw ≡ 0x6282 → m.ended d

-- A response that fits, or a job that may come.
abbrev pub Fit : MayCome → Answer → Type 0
Fit m (response d sw) = FitResponse m d sw
Fit m (job kind key block) = m.job kind block

-- Neither 6282 nor a job.
abbrev pub nothing_more : MayCome
nothing_more = record { ended = λ d. ⊥; job = λ kind block. ⊥ }

-- A job that a command hands out in session s with the data d: its kind, and its block of 256 bytes.
pub record OwnJob (s : Session) (d : Bytes) (kind : ℕ) (block : Bytes) : Type 0 where
  pub least : 1 ≤ kind
  pub most : kind ≤ 3
  pub size : length block ≡ 256
  pub own : block ≡ block_of s d kind

-- What may come from a command: such a job, and with 6282 data of which E holds.
abbrev pub command_may_give : (Bytes → Type 0) → Session → Bytes → MayCome
command_may_give E s d = record { ended = E; job = OwnJob s d }

-- Data that READ BINARY gives with 6282.
pub record Ended (h : Header) (d : Bytes) : Type 0 where
  pub class : h.cla ≡ 0x00
  pub binary : h.ins ≡ 0xB0
  pub parameter : ltb h.p1 0x80 ≡ true
  pub without : eqb h.lc 0 ≡ true
  pub some : 1 ≤ length d
  pub fewer : length d < h.le
  pub short : h.le ≤ 255

-- A status word that can come alone: two bytes, and not 6282.
pub record Alone (sw : ℕ) : Type 0 where
  pub word : sw < 65536
  pub other : sw ≢ 0x6282

pub refusing_alone : (sw : ℕ) → refusing sw ≡ true → Alone sw
refusing_alone sw h =
    record {
      word = omega (arith, ltb-true sw 0x9000 (and_right (refusal_status sw) (ltb sw 0x9000) h));
      other = λ e. false≢true (sym (rw e) ∙ and_left (refusal_status sw) (ltb sw 0x9000) h);
    }

pub ok_alone : Alone 0x9000
ok_alone = record { word = omega arith; other = λ e. omega (arith, e) }

pub left_alone : (t : ℕ) → t ≤ 3 → Alone (0x63C0 + t)
left_alone t few = record { word = omega arith; other = λ e. omega (arith, e) }

-- A command that changes nothing but the session.
pub record Keeps (m : MayCome) (keys : List Bool) (o : SessionStep) : Type 0 where
  pub session : good_session keys o.session ≡ true
  pub answer : Fit m o.answer

-- One that changes nothing but the codes.
pub record KeepsCodes (o : CodeStep) : Type 0 where
  pub codes : good_codes o.codes ≡ true
  pub word : Alone o.sw

-- Any command.
pub record KeepsBoth (m : MayCome) (keys : List Bool) (o : Step) : Type 0 where
  pub codes : good_codes o.codes ≡ true
  pub counts : good_counts o.counts ≡ true
  pub session : good_session keys o.session ≡ true
  pub answer : Fit m o.answer

more_range : (n : ℕ) → n ≤ 256 → (0x6100 ≤ more_bytes n) × (more_bytes n < 0x6200)
unfolding more_bytes
more_range n h =
    split (λ x. (0x6100 ≤ 0x6100 + x) × (0x6100 + x < 0x6200)) (eqb n 256)
    (λ e. omega arith)
    (λ e. let other : n ≡ 256 → ⊥ = eqb-false n 256 e in omega arith)

module _ {m : MayCome} where
  -- a status word alone, data with 9000, data with 61 and n, data with 6282
  pub status_fits : {sw : ℕ} → Alone sw → FitResponse m [] sw
  status_fits a = record { size = omega arith; word = a.word; refusal = λ e. refl; ended = λ e. absurd (a.other e) }

  data_fits : {d : Bytes} → length d ≤ 256 → FitResponse m d 0x9000
  data_fits h = record { size = h; word = omega arith; refusal = never refl; ended = λ e. absurd (omega (arith, e)) }

  pub more_fits : {d : Bytes} {n : ℕ} → length d ≤ 256 → n ≤ 256 → FitResponse m d (more_bytes n)
  more_fits {d} {n} h le =
      let high : more_bytes n / 256 ≡ 0x61 = omega (arith, more_range n le) in
      record {
        size = h;
        word = omega (arith, more_range n le);
        refusal = never (simp (eq-eqb _ _ high, and-false));
        ended = λ e. absurd (omega (arith, e, more_range n le));
      }

  pub ended_fits : {d : Bytes} → length d ≤ 256 → m.ended d → FitResponse m d 0x6282
  ended_fits h e = record { size = h; word = omega arith; refusal = never refl; ended = λ _. e }

  module _ {keys : List Bool} {s : Session} (g : good_session keys s ≡ true) where
    -- 9000 alone; a refusal
    pub ok_keeps : Keeps m keys (session_status s 0x9000)
    ok_keeps = record { session = g; answer = status_fits ok_alone }

    pub refusal_keeps : (sw : ℕ) → refusing sw ≡ true → Keeps m keys (session_status s sw)
    refusal_keeps sw h = record { session = g; answer = status_fits (refusing_alone sw h) }

    -- all data with 9000; response data by Le
    pub data_keeps : {d : Bytes} → length d ≤ 256 → Keeps m keys (record { session = s; answer = response d 0x9000 })
    data_keeps h = record { session = g; answer = data_fits h }

pub give_keeps : (m : MayCome) (keys : List Bool) (s : Session) → good_session keys s ≡ true → (le : ℕ) (d : Bytes)
    → s.job.kind ≡ 0 → length d ≤ 256 → Keeps m keys (give s le d)
give_keeps m keys s g le d idle h =
    give_walk (Keeps m keys) s le d (data_keeps g h)
    (record { session = held_replaced keys s g idle d h; answer = more_fits {d = []} (omega arith) h })

-- A waiting job.
kind_waits : (kind : JobKind) → (eqb (kind_number kind) 0 ≡ false) × (leb (kind_number kind) 3 ≡ true)
kind_waits Authenticate = (refl, refl)
kind_waits Sign = (refl, refl)
kind_waits Decipher = (refl, refl)

waiting_good : (keys : List Bool) (kind : JobKind) (key le : ℕ) → usable keys (kind_number kind) key ≡ true → le ≤ 256
    → good_job keys (record { kind = kind_number kind; key = key; le = le }) ≡ true
unfolding good_job
waiting_good keys kind key le u h = simp ((kind_waits kind).0, (kind_waits kind).1, u, le-leb le 256 h)

-- A job is handed out where nothing is held and there is no chain.
pub hand_out_keeps : {m : MayCome} (keys : List Bool) (references : Bytes) (s : Session) → good_references keys references ≡ true
    → good_session keys s ≡ true → s.held.len ≡ 0 → s.chain.len ≡ 0 → (kind : JobKind) (le : ℕ) (block : Bytes) → le ≤ 256
    → m.job (kind_number kind) block → Keeps m keys (hand_out s (kind_number kind) (job_key references s (kind_number kind)) le block)
hand_out_keeps keys references s r g held chain kind le block h own =
    let usable = key_usable keys references s.environment r (environment_good keys s g) kind in
    record { session = job_replaced keys s g held chain _ (waiting_good keys kind _ le usable h); answer = own }
