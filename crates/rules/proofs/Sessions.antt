-- What a good session's parts obey, and a good session with one part replaced.
use mathlib.Core.Path.{◌≡◌}
use mathlib.Core.Bool.{Bool, true, ◌||◌, or-true}
use mathlib.Core.List.{List, [], ◌∷◌}
use Prim.Native.Nat.{ℕ, suc, ◌≤◌, ◌<◌}
use native.Mathlib.Omega.{arith}
use lib.Dec.{eqb}
use lib.ListN.{length, get_or, set, length-set}
use borrow.Author.Tests.{eqb-true, le-leb}
use Rattle.octets.specs.Octets.{Bytes}
use Rattle.octets.proofs.Tests.{split, nth, below_three}
use Rattle.octets.proofs.Buffers.{each_place}
use Rattle.rules.specs.declared.Session.{Session}
use Rattle.rules.specs.declared.Job.{Job}
use Rattle.rules.specs.declared.Environment.{Environment}
use Rattle.rules.specs.declared.JobKind.{JobKind}
use Rattle.rules.specs.declared.JobKind.TheVariants.{Authenticate, Sign, Decipher}
use Rattle.rules.specs.Numbers.{kind_number}
use Rattle.rules.specs.Keys.{usable, of_class, active_key, choice_of, key_for}
use Rattle.rules.specs.Session.{no_job, new_session, held_bytes, with_selection, with_environment, with_held, with_chain}
use Rattle.rules.specs.Session.{with_job}
use Rattle.rules.specs.State.{good_references, good_selection, good_choice, good_environment, good_held, good_chain}
use Rattle.rules.specs.State.{good_job, job_excludes, good_session}
use Rattle.rules.proofs.Parts.{room_len, room_taken, filled_room}

-- The key choice in place i of the three, which is that of job kind i + 1.
abbrev GoodChoice : List Bool → ℕ → ℕ → Type 0
GoodChoice keys i key = (eqb key 0 || usable keys (suc i) key) ≡ true

-- A good environment.
module _ (keys : List Bool) (e : Environment) (g : good_environment keys e ≡ true) where
  abbrev environment_tests : List Bool
  environment_tests =
      eqb (length e.choices) 3
      ∷ (eqb e.number 1 || eqb e.number 6)
      ∷ good_choice keys e.choices 1
      ∷ good_choice keys e.choices 2
      ∷ good_choice keys e.choices 3
      ∷ []

  choices_length : length e.choices ≡ 3
  unfolding good_environment
  choices_length = eqb-true (length e.choices) 3 (nth environment_tests 0 g)

  choice_good : (i : ℕ) → i < 3 → GoodChoice keys i (get_or e.choices i 0)
  unfolding good_environment
  choice_good = below_three (λ i. GoodChoice keys i (get_or e.choices i 0)) (nth environment_tests 2 g) (nth environment_tests 3 g) (nth environment_tests 4 g)

  kind_choice : (kind : JobKind) → good_choice keys e.choices (kind_number kind) ≡ true
  kind_choice Authenticate = choice_good 0 (omega arith)
  kind_choice Sign = choice_good 1 (omega arith)
  kind_choice Decipher = choice_good 2 (omega arith)

  -- with another of the three choices
  choice_after : (i : ℕ) → i < 3 → (key : ℕ) → GoodChoice keys i key → (n : ℕ) → n < 3 → GoodChoice keys n (get_or (set e.choices i key) n 0)
  choice_after i h key u n b = each_place (GoodChoice keys) e.choices i key 0 (omega (arith, choices_length)) u n (choice_good n b)

  choice_replaced : (i : ℕ) → i < 3 → (key : ℕ) → GoodChoice keys i key
      → good_environment keys (record { number = e.number; choices = set e.choices i key }) ≡ true
  unfolding good_environment
  choice_replaced i h key u =
      let after : (n : ℕ) → n < 3 → GoodChoice keys n (get_or (set e.choices i key) n 0) = choice_after i h key u in
      simp (length-set, choices_length, nth environment_tests 1 g, after 0 (omega arith), after 1 (omega arith), after 2 (omega arith))

-- The record of 0033h.
module _ (keys : List Bool) (references : Bytes) (g : good_references keys references ≡ true) where
  abbrev references_tests : List Bool
  references_tests =
      eqb (length references) 21
      ∷ usable keys 1 (active_key references 1)
      ∷ usable keys 2 (active_key references 2)
      ∷ []

  pub references_length : length references ≡ 21
  unfolding good_references
  references_length = eqb-true (length references) 21 (nth references_tests 0 g)

  pub active_usable : (kind : JobKind) → usable keys (kind_number kind) (active_key references (kind_number kind)) ≡ true
  unfolding good_references active_key of_class
  active_usable Authenticate = nth references_tests 1 g
  active_usable Sign = nth references_tests 2 g
  active_usable Decipher = nth references_tests 1 g

-- The key that a job takes is usable for it.
pub key_usable : (keys : List Bool) (references : Bytes) (e : Environment) → good_references keys references ≡ true
    → good_environment keys e ≡ true → (kind : JobKind)
    → usable keys (kind_number kind) (key_for references e.choices (kind_number kind)) ≡ true
unfolding key_for
key_usable keys references e r g kind =
    split (λ key. usable keys (kind_number kind) key ≡ true) (eqb (choice_of e.choices (kind_number kind)) 0)
    (λ z. active_usable keys references r kind)
    (λ z. rw z at (kind_choice keys e g kind))

-- A good session.
module _ (keys : List Bool) (s : Session) (g : good_session keys s ≡ true) where
  abbrev session_tests : List Bool
  session_tests =
      good_selection s.selection
      ∷ good_environment keys s.environment
      ∷ good_held s.held
      ∷ good_chain s.chain
      ∷ good_job keys s.job
      ∷ job_excludes s
      ∷ []

  pub selection_good : good_selection s.selection ≡ true
  unfolding good_session
  selection_good = nth session_tests 0 g

  pub environment_good : good_environment keys s.environment ≡ true
  unfolding good_session
  environment_good = nth session_tests 1 g

  held_good : good_held s.held ≡ true
  unfolding good_session
  held_good = nth session_tests 2 g

  pub held_short : length (held_bytes s) ≤ 256
  held_short = omega (arith, room_len 256 s.held.bytes s.held.len held_good, room_taken 256 s.held.bytes s.held.len held_good)

  chain_good : good_chain s.chain ≡ true
  unfolding good_session
  chain_good = nth session_tests 3 g

  job_good : good_job keys s.job ≡ true
  unfolding good_session
  job_good = nth session_tests 4 g

  job_excludes_lem : job_excludes s ≡ true
  unfolding good_session
  job_excludes_lem = nth session_tests 5 g

  pub selection_replaced : (directory file : ℕ) → good_selection (record { directory = directory; file = file }) ≡ true
      → good_session keys (with_selection s directory file) ≡ true
  unfolding good_session
  selection_replaced directory file h = simp (h, environment_good, held_good, chain_good, job_good, job_excludes_lem)

  pub environment_replaced : (number : ℕ) (choices : List ℕ) → good_environment keys (record { number = number; choices = choices }) ≡ true
      → good_session keys (with_environment s number choices) ≡ true
  unfolding good_session
  environment_replaced number choices h = simp (selection_good, h, held_good, chain_good, job_good, job_excludes_lem)

  pub choice_changed : (i : ℕ) → i < 3 → (key : ℕ) → GoodChoice keys i key
      → good_session keys (with_environment s s.environment.number (set s.environment.choices i key)) ≡ true
  choice_changed i b key u = environment_replaced _ _ (choice_replaced keys s.environment environment_good i b key u)

  -- data may be held, and a chain may stand, where no job waits
  pub held_replaced : s.job.kind ≡ 0 → (d : Bytes) → length d ≤ 256 → good_session keys (with_held s d) ≡ true
  unfolding good_session
  held_replaced idle d h = simp (selection_good, environment_good, filled_room 256 d h, chain_good, job_good, idle)

  pub chain_replaced : s.job.kind ≡ 0 → (d : Bytes) → length d ≤ 257 → good_session keys (with_chain s d) ≡ true
  unfolding good_session
  chain_replaced idle d h =
      simp (selection_good, environment_good, held_good, le-leb (length d) 257 h, filled_room 258 d (omega arith), job_good, idle)

  -- a job may wait where nothing is held and there is no chain
  pub job_replaced : s.held.len ≡ 0 → s.chain.len ≡ 0 → (j : Job) → good_job keys j ≡ true → good_session keys (with_job s j) ≡ true
  unfolding good_session
  job_replaced held chain j h = simp (selection_good, environment_good, held_good, chain_good, h) (simp (held, chain, or-true))

  pub job_ended : good_session keys (with_job s no_job) ≡ true
  unfolding good_session good_job
  job_ended = simp (selection_good, environment_good, held_good, chain_good)

-- The session after load and power reset is good.
pub new_session_good : (keys : List Bool) → good_session keys new_session ≡ true
unfolding good_session new_session good_selection good_environment good_job
new_session_good keys = simp (filled_room 256 [] (omega arith), filled_room 258 [] (omega arith))
