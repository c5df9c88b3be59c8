-- A delivered result: a law for each of its answers.
use mathlib.Core.Path.{◌≡◌}
use mathlib.Core.Logic.{◌≢◌}
use Prim.Native.Nat.{ℕ, ◌≤◌}
use native.Mathlib.Omega.{arith}
use lib.ListN.{length, take, drop, length-drop}
use lib.Seq.{take_all}
use borrow.Author.Tests.{eq-eqb, ne_eqb}
use Rattle.octets.specs.Octets.{Bytes}
use Rattle.pkcs1.specs.Pkcs1.{strip}
use Rattle.rules.specs.declared.Session.{Session}
use Rattle.rules.specs.Session.{no_job, with_job}
use Rattle.rules.specs.Answers.{session_status, give}
use Rattle.rules.specs.Delivery.{deliver}

module _ (s : Session) (result : Bytes) {ended : Session} (e : ended ≡ with_job s no_job) where
  pub result_length : length result ≢ 256 → session_status ended 0x6400 ≡ deliver s result
  unfolding deliver
  result_length n = simp (e, ne_eqb (length result) 256 n)

  module _ (whole : length result ≡ 256) where
    pub signature_given : s.job.kind ≢ 3 → give ended s.job.le (take 256 result) ≡ deliver s result
    unfolding deliver
    signature_given n = simp (e, eq-eqb (length result) 256 whole, ne_eqb s.job.kind 3 n, take_all 256 result (omega arith))

    module _ (k : s.job.kind ≡ 3) {start : ℕ} (t : start ≡ strip result) where
      pub not_stripped : start ≡ 0 → session_status ended 0x6A80 ≡ deliver s result
      unfolding deliver
      not_stripped z = simp (e, eq-eqb (length result) 256 whole, eq-eqb s.job.kind 3 k, ← t, eq-eqb start 0 z)

      module _ (n : start ≢ 0) where
        pub empty_message : start ≡ 256 → session_status ended 0x9000 ≡ deliver s result
        unfolding deliver
        empty_message z = simp (e, eq-eqb (length result) 256 whole, eq-eqb s.job.kind 3 k, ← t, ne_eqb start 0 n, eq-eqb start 256 z)

        pub message_given : start ≢ 256 → {message : Bytes} → message ≡ take 256 (drop start result)
            → give ended s.job.le (take 256 message) ≡ deliver s result
        unfolding deliver
        message_given m f =
            let short : length (drop start result) ≤ 256 = omega (arith, length-drop start result) in
            simp (
              e,
              eq-eqb (length result) 256 whole,
              eq-eqb s.job.kind 3 k,
              ← t,
              ne_eqb start 0 n,
              ne_eqb start 256 m,
              f,
              take_all 256 (drop start result) short,
            )
