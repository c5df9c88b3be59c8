use Rattle.std.proofs.Common.{◌≡◌, ℕ, List, Option, Result, Ok, Err, OnErr, ◌++◌, sym, ap, ◌∙◌, append_assoc, arith, length, drop, take, length-append}
use Rattle.std.proofs.Math.Seq.{take-append_seam}
use Rattle.std.proofs.lemmas.List.{take_rest, take-append-drop}
use Rattle.std.specs.Io.KnownBytes.{Appends}
use Rattle.std.proofs.KnownBytes.{Appends-trans, Appends-kept}
use Rattle.streams.specs.Streams.{AppendsFront}
use Rattle.streams.proofs.write_all.Goals as goal

-- What was written when the writing stopped.
stopped : (a b : Option (List ℕ)) (text front rest : List ℕ) → text ≡ front ++ rest → Appends a b front → AppendsFront a b text
stopped a b text front rest e p = (length front, rw e (omega (arith, length-append front rest)), rw (e, take-append_seam front rest) p)

on_err : {T E : Type 0} (r : Result T E) (P : Type 0) → P → OnErr r P
on_err (Ok x) P p = tt
on_err (Err e) P p = p

-- What a write took of the rest goes behind the front.
joined : (text front rest : List ℕ) (n : ℕ) → text ≡ front ++ rest → text ≡ (front ++ take n rest) ++ drop n rest
joined text front rest n e = e ∙ ap (λ l. front ++ l) (sym (take-append-drop n rest)) ∙ sym (append_assoc front (take n rest) (drop n rest))

pub returns-in_err-n-clause-front : goal.returns-in_err-n-clause-front
returns-in_err-n-clause-front g c =
    let w = c.loop-rest.invariant in
    on_err c.from_residual.result _ (stopped _ _ c.args.text.now w.0 c.loop-rest.rest.now w.1 (Appends-kept _ _ _ w.0 w.2 c.in_err-n.ensures.bytes))

pub returns-in-0-clause-front : goal.returns-in-0-clause-front
returns-in-0-clause-front g c =
    let w = c.loop-rest.invariant in
    let rest = c.loop-rest.rest.now in
    stopped _ _ c.args.text.now (w.0 ++ take c.in_ok-n.n rest) (drop c.in_ok-n.n rest) (joined c.args.text.now w.0 rest c.in_ok-n.n w.1) (Appends-trans _ _ _ w.0 _ w.2 c.in_ok-n.ensures.bytes)

pub loop-rest-preserved : goal.loop-rest-preserved
loop-rest-preserved g c =
    let w = c.loop-rest.invariant in
    let rest = c.loop-rest.rest.now in
    (w.0 ++ take c.in_ok-n.n rest, joined c.args.text.now w.0 rest c.in_ok-n.n w.1 ∙ ap (λ l. (w.0 ++ take c.in_ok-n.n rest) ++ l) (sym (take_rest rest c.in_ok-n.n)), Appends-trans _ _ _ w.0 _ w.2 c.in_ok-n.ensures.bytes)
