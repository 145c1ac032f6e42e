-- The sections that are wanted.
use Rattle.base.proofs.Public.{◌≡◌, ◌∙◌, ℕ, zero, suc, ◌+◌, ◌<◌, ◌==◌, Bool, List, [], ◌∷◌, length, map, Option, Some, None, IsTrue, slice_index_or, refl, sym, ap, ap₂, subst, arith, and_from, and_parts, eq-eqb, eqb-true, get_or-map, get_or-range_with_len, list_all, range_with_len, zero-add}
use Rattle.std.specs.List.{enumerate_from}
use Rattle.cluster.specs.declared.sets.NodeSet.{NodeSet}
use Rattle.slices.specs.Plans.{PlanChoices}
use Rattle.cert_parts.specs.Sections.{SectionText}
use Rattle.part_check.specs.Verdicts.{AreAllParts, AreWanted}

-- ---- each section has the number of its place

abbrev number_is : ℕ × SectionText → Bool
number_is x = x.1.part == x.0

in_order : (first : ℕ) (sections : List SectionText) → IsTrue (list_all number_is (enumerate_from first sections)) → map (λ s. s.part) sections ≡ range_with_len first (length sections)
in_order first [] ordered = refl
in_order first (s ∷ sections) ordered =
    let both = and_parts (s.part == first) (list_all number_is (enumerate_from (first + 1) sections)) ordered in
    ap₂ (λ (x : ℕ) (xs : List ℕ). x ∷ xs) (eqb-true s.part first both.0) (in_order (first + 1) sections both.1)

is_in_order : (first count : ℕ) (sections : List SectionText) → map (λ s. s.part) sections ≡ range_with_len first count → (length sections ≡ count) × IsTrue (list_all number_is (enumerate_from first sections))
is_in_order first zero [] is = (refl, refl)
is_in_order first (suc count) [] is = absurd (cc)
is_in_order first zero (s ∷ sections) is = absurd (cc)
is_in_order first (suc count) (s ∷ sections) is =
    let here : s.part ≡ first = cc in
    let rest : map (λ s. s.part) sections ≡ range_with_len (first + 1) count = cc in
    let others = is_in_order (first + 1) count sections rest in
    (omega (arith, others.0), and_from (s.part == first) (list_all number_is (enumerate_from (first + 1) sections)) (eq-eqb s.part first here) others.1)

pub all_parts : (count : ℕ) (sections : List SectionText) → length sections ≡ count → IsTrue (list_all number_is (enumerate_from 0 sections)) → AreAllParts count sections
all_parts count sections long ordered = subst (λ (n : ℕ). AreAllParts n sections) long (in_order 0 sections ordered)

pub are_all : (count : ℕ) (sections : List SectionText) → AreAllParts count sections → (length sections ≡ count) × IsTrue (list_all number_is (enumerate_from 0 sections))
are_all count sections is = is_in_order 0 count sections is

-- ---- the parts of wanted sections

pub part_at : (count : ℕ) (sections : List SectionText) → AreAllParts count sections → (k : ℕ) (d : SectionText) → k < length sections → (slice_index_or sections k d).part ≡ k
part_at count sections is k d within =
    let long = (are_all count sections is).0 in
    let listed : slice_index_or (range_with_len 0 count) k d.part ≡ 0 + k = get_or-range_with_len 0 count k d.part (omega (arith, within, long)) in
    sym (get_or-map (λ s. s.part) sections k d d.part within) ∙ ap (λ (l : List ℕ). slice_index_or l k d.part) is ∙ listed ∙ zero-add k

pub part_there : (groups : List NodeSet) (plan : Option PlanChoices) (sections : List SectionText) → AreWanted groups plan sections → (k : ℕ) (d : SectionText) → k < length sections → (slice_index_or sections k d).part < length groups
part_there groups (Some plan) sections is k d within =
    let at = part_at (length groups) sections is k d within in
    omega (arith, at, within, (are_all (length groups) sections is).0)
part_there groups None sections is k d within =
    let one : length sections ≡ 1 = ap length is.alone in
    let first : k ≡ 0 = omega (arith, one, within) in
    let here : slice_index_or sections k d ≡ is.section = ap₂ (λ (l : List SectionText) (i : ℕ). slice_index_or l i d) is.alone first in
    subst (λ (s : SectionText). s.part < length groups) (sym here) is.there
