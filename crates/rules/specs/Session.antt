-- Document 01, "What the card has": the session, and what load and power reset give.
use Rattle.std.specs.Prelude.{ℕ, List, [], ◌∷◌, length, take}
use Rattle.octets.specs.Octets.{Bytes, filled}
use Rattle.rules.specs.declared.Session.{Session}
use Rattle.rules.specs.declared.Held.{Held}
use Rattle.rules.specs.declared.Chain.{Chain}
use Rattle.rules.specs.declared.Job.{Job}

-- The root directory, by its ISO/IEC 7816-4 identifier, and directory EEEEh.
abbrev pub root : ℕ
root = 0x3F00

abbrev pub esteid_directory : ℕ
esteid_directory = 0xEEEE

-- No current file.
abbrev pub no_file : ℕ
no_file = 0

-- All three key choices at "active".
abbrev pub all_active : List ℕ
all_active = 0 ∷ 0 ∷ 0 ∷ []

-- "Held answer" and "chain" are document 01's terms: response data that waits for GET RESPONSE, and the joined parts of a DECIPHER.
-- The chain has one place more than the 257 bytes that it can have; it stays empty, and the card has no padding.
abbrev pub holding : Bytes → Held
holding d = record { bytes = filled 256 d; len = length d }

abbrev pub joining : Bytes → Chain
joining d = record { bytes = filled 258 d; len = length d }

abbrev pub held_bytes : Session → Bytes
held_bytes s = take s.held.len s.held.bytes

abbrev pub chain_bytes : Session → Bytes
chain_bytes s = take s.chain.len s.chain.bytes

-- "Job" is document 01's term: a private-key operation that waits for the key host.
abbrev pub no_job : Job
no_job = record { kind = 0; key = 0; le = 0 }

-- A session with one part replaced.
abbrev pub with_selection : Session → ℕ → ℕ → Session
with_selection s directory file =
    record {
      selection = record { directory = directory; file = file };
      environment = s.environment;
      held = s.held;
      chain = s.chain;
      job = s.job;
    }

abbrev pub with_environment : Session → ℕ → List ℕ → Session
with_environment s number choices =
    record {
      selection = s.selection;
      environment = record { number = number; choices = choices };
      held = s.held;
      chain = s.chain;
      job = s.job;
    }

abbrev pub with_held : Session → Bytes → Session
with_held s d =
    record { selection = s.selection; environment = s.environment; held = holding d; chain = s.chain; job = s.job }

abbrev pub with_chain : Session → Bytes → Session
with_chain s d =
    record { selection = s.selection; environment = s.environment; held = s.held; chain = joining d; job = s.job }

abbrev pub with_job : Session → Job → Session
with_job s j =
    record { selection = s.selection; environment = s.environment; held = s.held; chain = s.chain; job = j }

-- The held answer is dropped; the chain is dropped; both are.
abbrev pub drop_held : Session → Session
drop_held s = with_held s []

abbrev pub drop_chain : Session → Session
drop_chain s = with_chain s []

abbrev pub drop_both : Session → Session
drop_both s = drop_held (drop_chain s)

-- Load and power reset give: root, no file, environment 1, choices at "active", the rest empty.
unfoldable pub new_session : Session
new_session =
    record {
      selection = record { directory = root; file = no_file };
      environment = record { number = 1; choices = all_active };
      held = holding [];
      chain = joining [];
      job = no_job;
    }
