-- The text of one section more.
use Rattle.std.specs.List.{flat_map}
use Rattle.base.proofs.Public.{◌≡◌, ℕ, ◌+◌, List, [], ◌∷◌, ◌++◌, map, sym, ap, ◌∙◌, append-nil, arith, flat_map-append, map-range_with_len_more, range_with_len}
use Rattle.cert_parts.specs.Sections.{section_text}
use Rattle.part_solver.specs.Answers.{section_at}
use Rattle.part_solver.specs.Solved.{SolvedText}

pub text_more : (solved : List SolvedText) (i : ℕ) (now : List ℕ) → now ≡ flat_map section_text (map (section_at solved) (range_with_len 0 i)) →
    now ++ section_text (section_at solved i) ≡ flat_map section_text (map (section_at solved) (range_with_len 0 (i + 1)))
text_more solved i now was =
    ap (λ (t : List ℕ). t ++ section_text (section_at solved i)) was
    ∙ ap (λ (t : List ℕ). flat_map section_text (map (section_at solved) (range_with_len 0 i)) ++ t) (sym (append-nil (section_text (section_at solved i))))
    ∙ sym (flat_map-append section_text (map (section_at solved) (range_with_len 0 i)) (section_at solved i ∷ []))
    ∙ ap (flat_map section_text) (sym (map-range_with_len_more (section_at solved) 0 i i (omega arith)))
