-- Lists and sets that are cut down by tables are those that the definitions give.
use Rattle.std.specs.List.{filter_map}
use Rattle.base.proofs.Public.{◌≡◌, ℕ, zero, suc, ◌+◌, ◌<◌, ◌≤◌, Bool, true, false, ◌&&◌, ◌==◌, List, [], ◌∷◌, map, filter, fold, nat_lt, Option, Some, None, if◌then◌else◌, refl, sym, ap, ap₂, ◌∙◌, and_parts, arith, eqb-true, get_or-map-range_with_len, lt-ltb, ltb-true, range_with_len}
use Rattle.cluster.specs.declared.ids.VmId.{VmId}
use Rattle.cluster.specs.declared.sets.NodeSet.{NodeSet}
use Rattle.catalogue.specs.Prelude.{are_below, has_node, Instance, max_nodes, no_nodes, with_node}
use Rattle.slices.specs.Elements.{machine_count, node_count}
use Rattle.parts.specs.Cuts.{cut_machine, cut_machines, cut_nodes}
use Rattle.parts.specs.Groups.{in_group, machine_group}
use Rattle.parts.specs.Numbers.{new_number}
use Rattle.parts.specs.Parts.{in_part}
use Rattle.parts.proofs.Public.{new-le}
use Rattle.partition.specs.Cutting.{cut_node, machines_by, nodes_by, numbered, with_one}
use Rattle.partition.specs.Division.{Divides, group_number}
use Rattle.partition.specs.Numbering.{AreNumbers, machine_number, node_number}
use Rattle.partition.specs.Reach.{at}
use Rattle.partition.proofs.DivisionLemmas.{at_node, in_as_number}
use Rattle.partition.proofs.FaultLemmas.{at_machine}
use Rattle.partition.proofs.NumberingLemmas.{count_nodes}

-- ---- tests that agree

pub same_filter : (a b : ℕ → Bool) (from n : ℕ) → ((k : ℕ) → from ≤ k → k < from + n → a k ≡ b k) → filter a (range_with_len from n) ≡ filter b (range_with_len from n)
same_filter a b from zero same = refl
same_filter a b from (suc n) same = by (b from) refl (same_filter a b (from + 1) n (λ k low high. same k (omega (arith, low)) (omega (arith, high))))
  where
    by : (t : Bool) → b from ≡ t → filter a (range_with_len (from + 1) n) ≡ filter b (range_with_len (from + 1) n) → filter a (range_with_len from (suc n)) ≡ filter b (range_with_len from (suc n))
    by true e rest = rw (same from (omega arith) (omega arith), e) (ap (λ (l : List ℕ). from ∷ l) rest)
    by false e rest = rw (same from (omega arith) (omega arith), e) rest

-- what is given for the numbers that pass
pub same_given : {A : Type 0} (f g : ℕ → Option A) (test : ℕ → Bool) (from n : ℕ) → ((k : ℕ) → from ≤ k → k < from + n → test k ≡ true → f k ≡ g k) →
    filter_map f (filter test (range_with_len from n)) ≡ filter_map g (filter test (range_with_len from n))
same_given f g test from zero same = refl
same_given {A = A} f g test from (suc n) same =
    by (test from) refl (same_given f g test (from + 1) n (λ k low high. same k (omega (arith, low)) (omega (arith, high))))
  where
    given : (o : Option A) → g from ≡ o → f from ≡ g from → filter_map f (filter test (range_with_len (from + 1) n)) ≡ filter_map g (filter test (range_with_len (from + 1) n)) →
        filter_map f (from ∷ filter test (range_with_len (from + 1) n)) ≡ filter_map g (from ∷ filter test (range_with_len (from + 1) n))
    given None e here rest = rw (here, e) rest
    given (Some x) e here rest = rw (here, e) (ap (λ (l : List A). x ∷ l) rest)

    by : (t : Bool) → test from ≡ t → filter_map f (filter test (range_with_len (from + 1) n)) ≡ filter_map g (filter test (range_with_len (from + 1) n)) →
        filter_map f (filter test (range_with_len from (suc n))) ≡ filter_map g (filter test (range_with_len from (suc n)))
    by true e rest = rw e (given (g from) refl (same from (omega arith) (omega arith) e) rest)
    by false e rest = rw e rest

-- a fold that looks at a number where two tests pass
pub same_fold : {S : Type 0} (step put : S → ℕ → S) (new : ℕ → ℕ) (a b : ℕ → Bool) (from n : ℕ) (s : S) →
    ((k : ℕ) (t : S) → from ≤ k → k < from + n → step t k ≡ (if a k && b k then put t (new k) else t)) →
    fold step s (range_with_len from n) ≡ fold put s (map new (filter a (filter b (range_with_len from n))))
same_fold step put new a b from zero s same = refl
same_fold {S = S} step put new a b from (suc n) s same =
    by (b from) (a from) refl refl (λ t. same_fold step put new a b (from + 1) n t (λ k u low high. same k u (omega (arith, low)) (omega (arith, high))))
  where
    -- the state after one step
    stepped : (x y : Bool) → b from ≡ x → a from ≡ y → step s from ≡ (if y && x then put s (new from) else s)
    stepped x y eb ea = same from s (omega arith) (omega arith) ∙ ap₂ (λ (p q : Bool). if p && q then put s (new from) else s) ea eb

    one : (x y : Bool) → b from ≡ x → a from ≡ y → fold put s (map new (filter a (filter b (from ∷ range_with_len (from + 1) n)))) ≡ fold put (if y && x then put s (new from) else s) (map new (filter a (filter b (range_with_len (from + 1) n))))
    one true true eb ea = rw (eb, ea) refl
    one true false eb ea = rw (eb, ea) refl
    one false true eb ea = rw eb refl
    one false false eb ea = rw eb refl

    by : (x y : Bool) → b from ≡ x → a from ≡ y → ((t : S) → fold step t (range_with_len (from + 1) n) ≡ fold put t (map new (filter a (filter b (range_with_len (from + 1) n))))) →
        fold step s (from ∷ range_with_len (from + 1) n) ≡ fold put s (map new (filter a (filter b (from ∷ range_with_len (from + 1) n))))
    by x y eb ea rest =
        ap (λ (t : S). fold step t (range_with_len (from + 1) n)) (stepped x y eb ea) ∙ rest (if y && x then put s (new from) else s) ∙ sym (one x y eb ea)

-- ---- numbers, by the tables

module _ (p : Instance) (groups : List NodeSet) (node_groups machine_groups node_numbers machine_numbers : List ℕ) (d : Divides p groups node_groups machine_groups) (numbers : AreNumbers p groups node_numbers machine_numbers) where
  -- of a node of the group
  pub node_new : (i n : ℕ) → n < node_count p → group_number groups n ≡ i → at node_numbers n ≡ new_number (in_group groups i) n
  node_new i n l same =
      ap (λ (t : List ℕ). at t n) numbers.by_node ∙ get_or-map-range_with_len (node_number groups) 0 (node_count p) n n 0 l (omega arith) ∙
      ap (λ (j : ℕ). new_number (in_group groups j) n) same

  -- of a machine of the part
  pub machine_new : (i v : ℕ) → v < machine_count p → machine_group p groups v ≡ i → at machine_numbers v ≡ new_number (in_part p groups i) v
  machine_new i v l same =
      ap (λ (t : List ℕ). at t v) numbers.by_machine ∙ get_or-map-range_with_len (machine_number p groups) 0 (machine_count p) v v 0 l (omega arith) ∙
      ap (λ (j : ℕ). new_number (in_part p groups j) v) same

  node_of : (i n : ℕ) → n < node_count p → (at node_groups n == i) ≡ true → group_number groups n ≡ i
  node_of i n l same = sym (at_node p groups node_groups d.covers n l) ∙ eqb-true _ _ same

  -- ---- sets of nodes

  put_as : (i n : ℕ) (cut : NodeSet) → n < node_count p → node_count p ≤ max_nodes → group_number groups n ≡ i → with_one cut (at node_numbers n) ≡ with_node cut (new_number (in_group groups i) n)
  put_as i n cut l few same =
      let small : new_number (in_group groups i) n < max_nodes = omega (arith, new-le (in_group groups i) n, l, few) in
      ap (with_one cut) (node_new i n l same) ∙ ap (λ (b : Bool). if b then with_node cut (new_number (in_group groups i) n) else cut) (lt-ltb _ _ small)

  step_as : (i : ℕ) (set : NodeSet) → node_count p ≤ max_nodes → (n : ℕ) (cut : NodeSet) → n < node_count p →
      cut_node node_groups node_numbers i set cut n ≡ (if has_node set n && in_group groups i n then with_node cut (new_number (in_group groups i) n) else cut)
  step_as i set few n cut l = by (has_node set n) (at node_groups n == i) refl
    where
      by : (a b : Bool) → (at node_groups n == i) ≡ b → (if a && b then with_one cut (at node_numbers n) else cut) ≡ (if a && in_group groups i n then with_node cut (new_number (in_group groups i) n) else cut)
      by false b e = refl
      by true false e = ap (λ (t : Bool). if t then with_node cut (new_number (in_group groups i) n) else cut) (sym e ∙ in_as_number p groups node_groups d.covers n i l)
      by true true e =
          put_as i n cut l few (node_of i n l e) ∙ ap (λ (t : Bool). if t then with_node cut (new_number (in_group groups i) n) else cut) (sym e ∙ in_as_number p groups node_groups d.covers n i l)

  pub nodes_as : node_count p ≤ max_nodes → (i : ℕ) (set : NodeSet) → nodes_by node_groups node_numbers i set ≡ cut_nodes (in_group groups i) (node_count p) set
  nodes_as few i set =
      ap (λ (m : ℕ). fold (cut_node node_groups node_numbers i set) no_nodes (range_with_len 0 m)) (count_nodes p groups node_groups machine_groups d) ∙
      same_fold (cut_node node_groups node_numbers i set) with_node (new_number (in_group groups i)) (has_node set) (in_group groups i) 0 (node_count p) no_nodes (λ n cut low high. step_as i set few n cut (omega (arith, high)))

  -- ---- lists of machines

  pub machine_as : (i : ℕ) (v : VmId) → v.0 < machine_count p → machine_group p groups v.0 ≡ i → numbered machine_numbers v ≡ cut_machine (in_part p groups i) v
  machine_as i v l same = ap (λ (k : ℕ). record { 0 = k }) (machine_new i v.0 l same)

  pub machines_as : (i : ℕ) (vs : List VmId) → are_below (machine_count p) vs ≡ true → machines_by machine_groups machine_numbers i vs ≡ cut_machines (in_part p groups i) vs
  machines_as i [] below = refl
  machines_as i (v ∷ vs) below =
      let sides = and_parts (nat_lt v.0 (machine_count p)) (are_below (machine_count p) vs) below in
      by (machine_group p groups v.0 == i) refl (ltb-true v.0 (machine_count p) sides.0) (machines_as i vs sides.1)
    where
      group_same : v.0 < machine_count p → (at machine_groups v.0 == i) ≡ (machine_group p groups v.0 == i)
      group_same l = ap (λ (j : ℕ). j == i) (at_machine p groups node_groups machine_groups d v.0 l)

      by : (b : Bool) → (machine_group p groups v.0 == i) ≡ b → v.0 < machine_count p → machines_by machine_groups machine_numbers i vs ≡ cut_machines (in_part p groups i) vs →
          machines_by machine_groups machine_numbers i (v ∷ vs) ≡ cut_machines (in_part p groups i) (v ∷ vs)
      by true e l rest = rw (group_same l, e) (ap₂ (λ (x : VmId) (xs : List VmId). x ∷ xs) (machine_as i v l (eqb-true _ _ e)) rest)
      by false e l rest = rw (group_same l, e) rest
