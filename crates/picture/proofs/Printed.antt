-- The text of a curve that grows by a step.
use Rattle.std.proofs.Math.Seq.{drop-cons}
use Rattle.base.proofs.Public.{◌≡◌, ℕ, suc, ◌+◌, ◌<◌, List, ◌∷◌, ◌++◌, add-one, ap, append_assoc, drop, get_or, length, sym, ◌∙◌}
use Rattle.picture.specs.Prelude.{height_at, step_text, steps_text}
use Rattle.picture.specs.declared.marks.Curve.{Curve}
use Rattle.picture.specs.declared.marks.Step.{Step}

-- what is left of the steps, after one more
pub step_more : (span : ℕ) (curve : Curve) (steps : List Step) (i : ℕ) (d : Step) (y height : ℕ) (now new whole : List ℕ) → now ++ steps_text span curve y (drop i steps) ≡ whole → i < length steps → height ≡ height_at curve (get_or steps i d).amount → new ≡ now ++ step_text span curve y (get_or steps i d) → new ++ steps_text span curve height (drop (i + 1) steps) ≡ whole
step_more span curve steps i d y height now new whole was low is step =
    let here : drop i steps ≡ get_or steps i d ∷ drop (suc i) steps = drop-cons steps i d low in
    rw (step, is, add-one)
    (append_assoc now (step_text span curve y (get_or steps i d)) (steps_text span curve (height_at curve (get_or steps i d).amount) (drop (suc i) steps))
    ∙ ap (λ (l : List Step). now ++ steps_text span curve y l) (sym here) ∙ was)
