-- Demand 3, whole.
use mathlib.Core.Path.{◌≡◌, sym, ap, ◌∙◌}
use native.Mathlib.Omega.{arith}
use Rattle.rules.specs.declared.Session.{Session}
use Rattle.rules.specs.Codes.{no_limit, count_of}
use Rattle.rules.specs.Session.{new_session}
use Rattle.rules.specs.Image.{load}
use Rattle.rules.specs.Demands.{Demand3}
use Rattle.rules.proofs.Parts.{good_counts_lem, good_count}
use Rattle.rules.proofs.SequenceBound.{wrong_bound, signature_bound, unblocking_bound}
use Rattle.rules.proofs.SequenceMet.{met, limit_met}
use Rattle.rules.proofs.SequenceSigned.{new_openable, signed_met_lem}
use Rattle.rules.proofs.Loading.{fresh}
use Rattle.rules.proofs.Keeping.{kept}

pub demand_3 : Demand3
unfolding new_session
demand_3 image accepted =
    let c = (load image).1 in
    let f = fresh image accepted in
    record {
      bound = λ calls k h. omega (arith, wrong_bound k h c calls, f.tries k h);
      met = λ three k h r u puk limit.
          let there = met kept k h r u puk c (λ low. rw (f.counts k low h) (limit low)) (record {
            is_good = f.is_good;
            no_job = ap (λ (s : Session). s.job.kind) f.session;
            left = f.tries k h ∙ three k h;
            puk = f.tries 0 (omega arith) ∙ three 0 (omega arith);
          }) in
          record {
            calls = there.calls;
            of_bytes = there.of_bytes;
            restored = omega (arith, there.restored);
            unblocked = omega (arith, there.unblocked);
            wrong = omega (arith, there.wrong);
          };
      signed = λ calls. omega (arith, signature_bound c calls (f.unverified 2 (omega arith)));
      signed_met = λ some v n. signed_met_lem kept v n c (new_openable f.is_good f.session (omega (arith, some, f.tries 2 (omega arith))));
      limited = λ calls k low h other.
          let count = f.counts k low h in
          let most = good_count c.counts (good_counts_lem c f.is_good) k h low in
          let differs : count_of c.counts k ≡ no_limit → ⊥ = λ e. other (sym count ∙ e) in
          omega (arith, unblocking_bound k low c calls (omega arith), count);
      limited_met = λ some k low h u limit.
          limit_met kept k h low u c (rw (f.counts k low h) limit) (record {
            is_good = f.is_good;
            no_job = ap (λ (s : Session). s.job.kind) f.session;
            puk = omega (arith, some, f.tries 0 (omega arith));
          });
    }
