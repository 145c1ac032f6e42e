-- The text of a row that goes on by a step.
use Rattle.std.proofs.Math.Seq.{drop-cons}
use Rattle.base.proofs.Public.{◌≡◌, ℕ, suc, ◌+◌, ◌<◌, List, ◌∷◌, ◌++◌, add-one, ap, append_assoc, drop, get_or, length, sym, ◌∙◌}
use Rattle.picture.specs.Prelude.{begun_at, change_text, shade_of, shades_text}
use Rattle.picture.specs.declared.marks.Heat.{Heat}
use Rattle.picture.specs.declared.marks.HeatRow.{HeatRow}
use Rattle.picture.specs.declared.shade.Shade.{Shade}

-- what is left of the steps, after one more
pub change_more : (span : ℕ) (row : HeatRow) (heats : List Heat) (i : ℕ) (d : Heat) (shade after : Shade) (x begun : ℕ) (now new whole : List ℕ) → now ++ shades_text span row shade x (drop i heats) ≡ whole → i < length heats → begun ≡ begun_at span shade x (get_or heats i d) → after ≡ shade_of (get_or heats i d) → new ≡ now ++ change_text span row shade x (get_or heats i d) → new ++ shades_text span row after begun (drop (i + 1) heats) ≡ whole
change_more span row heats i d shade after x begun now new whole was low where_begun is step =
    let here : drop i heats ≡ get_or heats i d ∷ drop (suc i) heats = drop-cons heats i d low in
    rw (step, is, where_begun, add-one)
    (append_assoc now (change_text span row shade x (get_or heats i d)) (shades_text span row (shade_of (get_or heats i d)) (begun_at span shade x (get_or heats i d)) (drop (suc i) heats))
    ∙ ap (λ (l : List Heat). now ++ shades_text span row shade x l) (sym here) ∙ was)
