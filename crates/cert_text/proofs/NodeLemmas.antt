-- The names of the nodes of a set, one after the other.
use Rattle.std.proofs.Common.{IsTrue, map, if◌then◌else◌}
use Rattle.base.proofs.Public.{◌≡◌, inl, inr, ℕ, zero, suc, ◌+◌, ◌<◌, ◌≤◌, Bool, true, false, List, [], ◌∷◌, ◌++◌, refl, sym, ap, ◌∙◌, append-nil, arith, filter, flat_map, range_with_len, cases_eq, flat_map_more, text_more}
use Rattle.cert_text.specs.Prelude.{all_spaced, element_name, has_node, Instance, node, node_names, node_numbers, NodeSet, spaced, spaced_if_in, Word}

-- what passes a test, each by a function, joined: each that passes by the function, and the others by nothing
abbrev passing : (ℕ → Bool) → (ℕ → Word) → List ℕ → List ℕ
passing test name ns = flat_map (λ n. if test n then spaced (name n) else []) ns

one_more : (test : ℕ → Bool) (name : ℕ → Word) (n : ℕ) (ns : List ℕ) (b : Bool) → test n ≡ b → passing test name ns ≡ all_spaced (map name (filter test ns)) →
    passing test name (n ∷ ns) ≡ all_spaced (map name (filter test (n ∷ ns)))
one_more test name n ns true is rest = rw (is, rest) refl
one_more test name n ns false is rest = rw (is, rest) refl

spaced_passing : (test : ℕ → Bool) (name : ℕ → Word) (ns : List ℕ) → passing test name ns ≡ all_spaced (map name (filter test ns))
spaced_passing test name [] = refl
spaced_passing test name (n ∷ ns) = one_more test name n ns (test n) refl (spaced_passing test name ns)

pub spaced_listed : (p : Instance) (set : NodeSet) → flat_map (spaced_if_in p set) (node_numbers p) ≡ all_spaced (node_names p set)
spaced_listed p set = spaced_passing (has_node set) (λ n. element_name p (node n)) (node_numbers p)

-- ---- from one node of the set to the next

-- nodes that the set has not add nothing
pub none_listed : (p : Instance) (set : NodeSet) (from to : ℕ) → from ≤ to → ((m : ℕ) → from ≤ m → m < to → has_node set m ≡ false) →
    flat_map (spaced_if_in p set) (range_with_len 0 to) ≡ flat_map (spaced_if_in p set) (range_with_len 0 from)
none_listed p set from zero low none = let same : from ≡ 0 = omega (arith, low) in rw same refl
none_listed p set from (suc to) low none = elim (cases_eq from (suc to)) [
  | inl same ↦ rw same refl
  | inr other ↦
      let before = none_listed p set from to (omega (arith, low)) (λ m le lt. none m le (omega (arith, lt))) in
      let one : suc to ≡ to + 1 = omega arith in
      let off : has_node set to ≡ false = none to (omega (arith, low)) (omega arith) in
      let nothing : spaced_if_in p set to ≡ [] = rw off refl in
      ap (λ (k : ℕ). flat_map (spaced_if_in p set) (range_with_len 0 k)) one
      ∙ flat_map_more (spaced_if_in p set) to
      ∙ ap (λ (text : List ℕ). flat_map (spaced_if_in p set) (range_with_len 0 to) ++ text) nothing
      ∙ append-nil (flat_map (spaced_if_in p set) (range_with_len 0 to))
      ∙ before
]

-- a node of the set adds its name
pub one_listed : (p : Instance) (set : NodeSet) (n next : ℕ) (start now new : List ℕ) → now ≡ start ++ flat_map (spaced_if_in p set) (range_with_len 0 n) → IsTrue (has_node set n) → new ≡ now ++ spaced (element_name p (node n)) → n + 1 ≤ next → ((m : ℕ) → n + 1 ≤ m → m < next → has_node set m ≡ false) →
    new ≡ start ++ flat_map (spaced_if_in p set) (range_with_len 0 next)
one_listed p set n next start now new was there step low none =
    text_more (spaced_if_in p set) n start now new was (rw there step) ∙ ap (λ text. start ++ text) (sym (none_listed p set (n + 1) next low none))
