-- The length forms of a command, one law for each.
use mathlib.Core.Path.{◌≡◌}
use mathlib.Core.Bool.{and-false}
use Prim.Native.Nat.{◌+◌, ◌-◌, ◌≤◌, ◌<◌}
use mathlib.Core.Logic.{◌≢◌}
use native.Mathlib.Omega.{arith}
use lib.ListN.{length}
use borrow.Author.Tests.{eq-eqb, ne_eqb, le-leb}
use Rattle.octets.specs.Octets.{Bytes, byte_at}
use Rattle.rules.specs.Numbers.{form, refused}
use Rattle.rules.specs.Apdu.{le_of, header, lc_byte, data_start, parse}

module _ (b : Bytes) where
  pub too_short : length b < 4 → refused 0x6700 ≡ parse b
  unfolding parse
  too_short h =
      simp (
        ne_eqb (length b) 4 (omega arith),
        ne_eqb (length b) 5 (omega arith),
        ne_eqb (length b) (5 + lc_byte b) (omega arith),
        ne_eqb (length b) (6 + lc_byte b) (omega arith),
        and-false,
      )

  pub header_alone : length b ≡ 4 → form (header b 0 0) data_start ≡ parse b
  unfolding parse
  header_alone h = simp (eq-eqb (length b) 4 h)

  pub le_alone : length b ≡ 5 → form (header b 0 (le_of (byte_at b 4))) data_start ≡ parse b
  unfolding parse
  le_alone h = simp (ne_eqb (length b) 4 (omega arith), eq-eqb (length b) 5 h)

  -- with six bytes or more
  module _ (more : 6 ≤ length b) where
    pub no_data_lem : lc_byte b ≡ 0 → refused 0x6700 ≡ parse b
    unfolding parse
    no_data_lem h = simp (ne_eqb (length b) 4 (omega arith), ne_eqb (length b) 5 (omega arith), h)

    pub with_data : 1 ≤ lc_byte b → length b ≡ 5 + lc_byte b → form (header b (lc_byte b) 0) data_start ≡ parse b
    unfolding parse
    with_data some h =
        simp (
          ne_eqb (length b) 4 (omega arith),
          ne_eqb (length b) 5 (omega arith),
          le-leb 1 (lc_byte b) some,
          eq-eqb (length b) (5 + lc_byte b) h,
        )

    pub with_data_and_le : 1 ≤ lc_byte b → length b ≡ 6 + lc_byte b
        → form (header b (lc_byte b) (le_of (byte_at b (length b - 1)))) data_start ≡ parse b
    unfolding parse
    with_data_and_le some h =
        simp (
          ne_eqb (length b) 4 (omega arith),
          ne_eqb (length b) 5 (omega arith),
          le-leb 1 (lc_byte b) some,
          ne_eqb (length b) (5 + lc_byte b) (omega arith),
          eq-eqb (length b) (6 + lc_byte b) h,
        )

    pub other_length : length b ≢ 5 + lc_byte b → length b ≢ 6 + lc_byte b → refused 0x6700 ≡ parse b
    unfolding parse
    other_length n m =
        simp (
          ne_eqb (length b) 4 (omega arith),
          ne_eqb (length b) 5 (omega arith),
          ne_eqb (length b) (5 + lc_byte b) n,
          ne_eqb (length b) (6 + lc_byte b) m,
          and-false,
        )
