-- The text of a step names that step.
use Rattle.cert_check.proofs.Prelude.{map, ◌≡◌, ◌∙◌, ℕ, zero, suc, ◌+◌, ◌<◌, ◌≤◌, ◌==◌, ◌&&◌, ◌||◌, Bool, true, false, nat_lt, List, [], ◌∷◌, length, Some, refl, sym, ap, arith, inl, inr, filter, range_with_len, cases_eq, cases_lt, nat_tests, AreListed, as_instant, At, Element, element_name, first_nodes, From, has_all, has_node, HasPart, HasPlace, Instance, inventory_of, IsElement, IsInstance, IsNamed, IsNumber, machine_count, max_nodes, named_constraint, named_element, named_hall, named_load, named_machine, named_node, named_nodes, named_pair, named_part, named_place, named_resource, named_stay, named_step, named_use, no_nodes, Node, node, node_added, node_count, NodeId, nodes_added, nodes_text, NodeSet, Nowhere, part_text, place_name, reason_text, resource_name, step_text, Upto, Vm, VmId, with_node, Word, Place, Step, element_named-name_of, resource_named-listed, has_node-no_nodes, has_node-with_node, same_set, Idle, each_passes}
use Rattle.cert_check.specs.Prelude.{named_reason}
use Rattle.domains.specs.declared.parts.Part.{Part}
use Rattle.reasons.specs.declared.reason.Reason.{Reason}
use Rattle.reasons.specs.declared.reason.Reason.TheVariants as reason
use Rattle.trees.specs.declared.steps.Step.TheVariants as step

-- ---- numbers

early : (t : ℕ) → t ≤ 4294967295 → as_instant t ≡ t
unfolding as_instant
early t small = omega arith

pub instant_here : (p : Instance) → IsInstance p → (t : ℕ) → t ≤ p.horizon → as_instant t ≡ t
instant_here p is t upto = early t (omega (arith, upto, is.horizon))

constraint_here : (p : Instance) (c : ℕ) → c < length p.constraints → named_constraint p c ≡ Some c
unfolding named_constraint
constraint_here p c there =
    let test : nat_lt c (length p.constraints) ≡ true = grind (arith, nat_tests) in
    rw test refl

-- ---- names

element_here : (p : Instance) → IsInstance p → (e : Element) → IsElement p e → named_element p (element_name p e) ≡ Some e
unfolding named_element
element_here p is e there = element_named-name_of (inventory_of p) e is.inventory there

machine_here : (p : Instance) → IsInstance p → (v : VmId) → v.0 < machine_count p → named_machine p (element_name p (Vm v)) ≡ Some v
unfolding named_machine
machine_here p is v there = rw (element_here p is (Vm v) there) refl

node_here : (p : Instance) → IsInstance p → (n : NodeId) → n.0 < node_count p → named_node p (element_name p (Node n)) ≡ Some n
unfolding named_node
node_here p is n there = rw (element_here p is (Node n) there) refl

resource_here : (p : Instance) → IsInstance p → (r : ℕ) → r < length p.resources → named_resource p (resource_name p r) ≡ Some r
unfolding named_resource
resource_here p is r there = resource_named-listed (inventory_of p) r is.inventory there

place_here : (p : Instance) → IsInstance p → (place : Place) → HasPlace p place → named_place p (place_name p place) ≡ Some place
unfolding named_place
place_here p is Nowhere there = refl
place_here p is (At n) there = rw (node_here p is n there) refl

part_here : (p : Instance) → IsInstance p → (part : Part) → HasPart p part → named_part p (part_text p part) ≡ Some part
unfolding named_part
part_here p is Idle there = refl
part_here p is (Upto place start) there = rw (place_here p is place there.0, early start (omega (arith, there.1))) refl
part_here p is (From place start) there = rw (place_here p is place there.0, early start (omega (arith, there.1))) refl

-- ---- sets of nodes

-- the first nodes are those below their number
one_more : (m n : ℕ) → ((m == n) || nat_lt m n) ≡ nat_lt m (suc n)
one_more m n = elim (cases_eq m n) [ inl same ↦ grind (arith, nat_tests) | inr other ↦ grind (arith, nat_tests) ]

has_first : (n m : ℕ) → n ≤ max_nodes → has_node (first_nodes n) m ≡ nat_lt m n
unfolding first_nodes
has_first zero m few = let none : nat_lt m 0 ≡ false = grind (arith, nat_tests) in has_node-no_nodes m ∙ sym none
has_first (suc n) m few = has_node-with_node (first_nodes n) n m (omega arith) ∙ ap (λ b. (m == n) || b) (has_first n m (omega arith)) ∙ one_more m n

-- a set that has all nodes of the instance, and no other
all_nodes_are : (p : Instance) → IsInstance p → (set : NodeSet) → AreListed p set → has_all p set ≡ true → first_nodes (node_count p) ≡ set
all_nodes_are p is set listed all = same_set (first_nodes (node_count p)) set (λ m. has_first (node_count p) m is.inventory.few_nodes ∙ at m)
  where
    at : (m : ℕ) → nat_lt m (node_count p) ≡ has_node set m
    at m = elim (cases_lt m (node_count p)) [
      | inl low ↦
          let has : has_node set m ≡ true = each_passes (has_node set) 0 (node_count p) m all (omega arith) (omega arith) in
          let test : nat_lt m (node_count p) ≡ true = grind (arith, nat_tests) in
          test ∙ sym has
      | inr past ↦
          let none : has_node set m ≡ false = listed.within m past in
          let test : nat_lt m (node_count p) ≡ false = grind (arith, nat_tests) in
          test ∙ sym none
    ]

-- so far a set has the nodes of another that are below a number
abbrev HasBelow : NodeSet → ℕ → NodeSet → Type 0
HasBelow set n some = (m : ℕ) → has_node some m ≡ (nat_lt m n && has_node set m)

below_more : (set : NodeSet) (n m : ℕ) → has_node set n ≡ true → ((m == n) || (nat_lt m n && has_node set m)) ≡ (nat_lt m (n + 1) && has_node set m)
below_more set n m has = elim (cases_eq m n) [
  | inl same ↦ let here : has_node set m ≡ true = ap (has_node set) same ∙ has in grind (arith, nat_tests)
  | inr other ↦ grind (arith, nat_tests)
]

below_same : (set : NodeSet) (n m : ℕ) → has_node set n ≡ false → (nat_lt m n && has_node set m) ≡ (nat_lt m (n + 1) && has_node set m)
below_same set n m none = elim (cases_eq m n) [
  | inl same ↦ let here : has_node set m ≡ false = ap (has_node set) same ∙ none in grind (arith, nat_tests)
  | inr other ↦ grind (arith, nat_tests)
]

not_yet : (set some : NodeSet) (n : ℕ) → HasBelow set n some → has_node some n ≡ false
not_yet set some n below = let test : nat_lt n n ≡ false = grind (arith, nat_tests) in below n ∙ ap (λ b. b && has_node set n) test

-- the names of the nodes that pass, of a range
abbrev passing : Instance → (ℕ → Bool) → ℕ → ℕ → List Word
passing p test first count = map (λ n. element_name p (node n)) (filter test (range_with_len first count))

added_here : (p : Instance) → IsInstance p → (some : NodeSet) (n : ℕ) → n < node_count p → has_node some n ≡ false → node_added p some (element_name p (node n)) ≡ Some (with_node some n)
unfolding node_added
added_here p is some n there none = rw (node_here p is (record { 0 = n }) there, none) refl

then_others : (p : Instance) (some more : NodeSet) (name : Word) (names : List Word) → node_added p some name ≡ Some more → nodes_added p some (name ∷ names) ≡ nodes_added p more names
unfolding nodes_added
then_others p some more name names added = rw added refl

no_others : (p : Instance) (some : NodeSet) → nodes_added p some [] ≡ Some some
unfolding nodes_added
no_others p some = refl

-- the set that the names of a range give
record IsNamedSet (p : Instance) (set some : NodeSet) (first count : ℕ) : Type 0 where
  all : NodeSet
  added : nodes_added p some (passing p (has_node set) first count) ≡ Some all
  has : HasBelow set (first + count) all

module _ (p : Instance) (is : IsInstance p) (set : NodeSet) where
  -- with the first node of the range, or without it
  names_next : (first count : ℕ) (some : NodeSet) → first + suc count ≤ node_count p → HasBelow set first some → (b : Bool) → has_node set first ≡ b →
      (has_node set first ≡ true → IsNamedSet p set (with_node some first) (first + 1) count) → (has_node set first ≡ false → IsNamedSet p set some (first + 1) count) → IsNamedSet p set some first (suc count)
  names_next first count some within below true has with_it without_it =
      let rest = with_it has in
      let added = added_here p is some first (omega (arith, within)) (not_yet set some first below) in
      record {
        all = rest.all;
        added = rw has (then_others p some (with_node some first) (element_name p (node first)) (passing p (has_node set) (first + 1) count) added ∙ rest.added);
        has = λ m. rest.has m ∙ ap (λ (k : ℕ). nat_lt m k && has_node set m) (omega arith);
      }
  names_next first count some within below false none with_it without_it =
      let rest = without_it none in
      record {
        all = rest.all;
        added = rw none rest.added;
        has = λ m. rest.has m ∙ ap (λ (k : ℕ). nat_lt m k && has_node set m) (omega arith);
      }

  names_give : (first count : ℕ) (some : NodeSet) → first + count ≤ node_count p → HasBelow set first some → IsNamedSet p set some first count
  names_give first zero some within below = record {
    all = some;
    added = no_others p some;
    has = λ m. below m ∙ ap (λ (k : ℕ). nat_lt m k && has_node set m) (omega arith);
  }
  names_give first (suc count) some within below =
      let few : first < max_nodes = omega (arith, within, is.inventory.few_nodes) in
      names_next first count some within below (has_node set first) refl
      (λ has. names_give (first + 1) count (with_node some first) (omega (arith, within)) (λ m. has_node-with_node some first m few ∙ ap (λ b. (m == first) || b) (below m) ∙ below_more set first m has))
      (λ none. names_give (first + 1) count some (omega (arith, within)) (λ m. below m ∙ below_same set first m none))

  module _ (listed : AreListed p set) where
    within_count : (m : ℕ) → (nat_lt m (0 + node_count p) && has_node set m) ≡ has_node set m
    within_count m = elim (cases_lt m (node_count p)) [
      | inl low ↦ grind (arith, nat_tests)
      | inr past ↦ let none : has_node set m ≡ false = listed.within m past in grind (arith, nat_tests)
    ]

    none_below : HasBelow set 0 no_nodes
    none_below m = let test : nat_lt m 0 ≡ false = grind (arith, nat_tests) in has_node-no_nodes m ∙ sym (ap (λ b. b && has_node set m) test)

    nodes_by : (b : Bool) → has_all p set ≡ b → named_nodes p (nodes_text p set) ≡ Some set
    unfolding named_nodes
    nodes_by true all = rw all (ap (λ k. Some k) (all_nodes_are p is set listed all))
    nodes_by false few =
        let given = names_give 0 (node_count p) no_nodes (omega arith) none_below in
        rw few (given.added ∙ ap (λ k. Some k) (same_set given.all set (λ m. given.has m ∙ within_count m)))

    nodes_here : named_nodes p (nodes_text p set) ≡ Some set
    nodes_here = nodes_by (has_all p set) refl

-- ---- reasons and steps

module _ (p : Instance) (is : IsInstance p) where
  pub reason_here : (r : Reason) → IsNamed p r → named_reason p (reason_text p r) ≡ Some r
  unfolding named_reason named_pair named_stay named_use named_load named_hall
  reason_here (reason.Empty e) named = rw (element_here p is e named) refl
  reason_here reason.Bound named = refl
  reason_here (reason.Load t r set) named = rw (resource_here p is r named.1, nodes_here p is set named.2, instant_here p is t named.0) refl
  reason_here (reason.Pair c t v w n) named =
      rw (constraint_here p c named.0, machine_here p is v named.2, machine_here p is w named.3, node_here p is n named.4, instant_here p is t named.1) refl
  reason_here (reason.Place c t v n) named = rw (constraint_here p c named.0, machine_here p is v named.2, node_here p is n named.3, instant_here p is t named.1) refl
  reason_here (reason.Group c t) named = rw (constraint_here p c named.0, instant_here p is t named.1) refl
  reason_here (reason.SetLoad c t) named = rw (constraint_here p c named.0, instant_here p is t named.1) refl
  reason_here (reason.Power c t) named = rw (constraint_here p c named.0, instant_here p is t named.1) refl
  reason_here (reason.Usable t v n) named = rw (machine_here p is v named.1, node_here p is n named.2, instant_here p is t named.0) refl
  reason_here (reason.Hall c t set) named = rw (constraint_here p c named.0, nodes_here p is set named.2, instant_here p is t named.1) refl

-- all that a step names is the problem's, and its numbers are those of the code
abbrev pub IsNamedStep : Instance → Step → Type 0
IsNamedStep p (step.Decide x part) = IsElement p x × HasPart p part
IsNamedStep p (step.Cut x part r) = IsElement p x × HasPart p part × IsNamed p r
IsNamedStep p (step.Fail r) = IsNamed p r
IsNamedStep p (step.Plan cost) = IsNumber cost
IsNamedStep p step.Left = Unit {0}

pub step_here : (p : Instance) → IsInstance p → (s : Step) → IsNamedStep p s → named_step p (step_text p s) ≡ Some s
unfolding named_step
step_here p is (step.Decide x part) named = rw (element_here p is x named.0, part_here p is part named.1) refl
step_here p is (step.Cut x part r) named = rw (element_here p is x named.0, part_here p is part named.1, reason_here p is r named.2) refl
step_here p is (step.Fail r) named = rw (reason_here p is r named) refl
step_here p is (step.Plan cost) named = refl
step_here p is step.Left named = refl
