-- The steps of a problem are lines, where they can be written.
use Rattle.std.proofs.Common.{map}
use Rattle.base.proofs.Public.{◌≡◌, ◌≢◌, ◌∙◌, ℕ, zero, suc, ◌+◌, ◌<◌, ◌≤◌, Bool, true, false, List, [], length, refl, sym, ap, arith, inl, inr, and_from, cases_lt, filter, list_all, range_with_len}
use Rattle.cert_text.specs.Prelude.{AreListed, AreNodes, At, Element, element_name, has_all, has_node, HasPart, HasPlace, HasReason, HasStep, Instance, inventory_of, is_name, IsElement, IsInstance, IsName, IsNamed, IsNumber, IsPart, IsPlace, IsReason, IsStep, node, node_count, node_names, nodes_text, NodeSet, Nowhere, Part, part_text, place_name, Reason, reason_text, resource_name, step_text, vm, Word}
use Rattle.cluster.specs.declared.choices.Place.{Place}
use Rattle.domains.specs.declared.parts.Part.TheVariants.{Idle, Upto, From}
use Rattle.trees.specs.declared.steps.Step.{Step}
use Rattle.cluster.proofs.Public.{is_name-name_of}
use Rattle.reasons.specs.declared.reason.Reason.TheVariants as reason
use Rattle.trees.specs.declared.steps.Step.TheVariants as step

element_named : (p : Instance) → IsInstance p → (e : Element) → IsElement p e → IsName (element_name p e)
element_named p is e there = is_name-name_of (inventory_of p) e is.inventory there

resource_named : (p : Instance) → IsInstance p → (r : ℕ) → r < length p.resources → IsName (resource_name p r)
resource_named p is r there = is.inventory.named_resources r [] there

place_named : (p : Instance) → IsInstance p → (place : Place) → HasPlace p place → IsPlace (place_name p place)
place_named p is Nowhere there = tt
place_named p is (At n) there = element_named p is (node n.0) there

part_line : (p : Instance) → IsInstance p → (part : Part) → HasPart p part → IsPart (part_text p part)
part_line p is Idle there = tt
part_line p is (Upto place start) there = (place_named p is place there.0, omega (arith, there.1))
part_line p is (From place start) there = (place_named p is place there.0, omega (arith, there.1))

-- ---- nodes

-- the names of nodes of the instance are names
abbrev passing : Instance → (ℕ → Bool) → ℕ → ℕ → List Word
passing p test first count = map (λ n. element_name p (node n)) (filter test (range_with_len first count))

names_step : (p : Instance) → IsInstance p → (test : ℕ → Bool) (first count : ℕ) (b : Bool) → test first ≡ b → first < node_count p → list_all is_name (passing p test (first + 1) count) ≡ true →
    list_all is_name (passing p test first (suc count)) ≡ true
names_step p is test first count true pass within rest = rw pass (and_from _ _ (element_named p is (node first) within) rest)
names_step p is test first count false pass within rest = rw pass rest

names_good : (p : Instance) → IsInstance p → (test : ℕ → Bool) (first count : ℕ) → first + count ≤ node_count p → list_all is_name (passing p test first count) ≡ true
names_good p is test first zero within = refl
names_good p is test first (suc count) within = names_step p is test first count (test first) refl (omega arith) (names_good p is test (first + 1) count (omega arith))

-- a number that passes a test is left by it
some_step : (p : Instance) (test : ℕ → Bool) (first count n : ℕ) (b : Bool) → test first ≡ b → test n ≡ true → (n ≢ first → passing p test (first + 1) count ≢ []) → passing p test first (suc count) ≢ []
some_step p test first count n true pass passes later = rw pass (λ nothing. cc)
some_step p test first count n false pass passes later = rw pass (later (λ same. let bad : false ≡ true = sym pass ∙ ap test (sym same) ∙ passes in cc))

some_left : (p : Instance) (test : ℕ → Bool) (first count n : ℕ) → first ≤ n → n < first + count → test n ≡ true → passing p test first count ≢ []
some_left p test first zero n low high passes = absurd (omega arith)
some_left p test first (suc count) n low high passes =
    some_step p test first count n (test first) refl passes (λ differ. some_left p test (first + 1) count n (omega arith) (omega arith) passes)

-- a set that has not each node has some, where nodes are listed
listed_some : (p : Instance) (set : NodeSet) → AreListed p set → has_all p set ≡ false → node_names p set ≢ []
listed_some p set listed few =
    elim (cases_lt 0 (node_count p)) [
      | inl some ↦
          let found = listed.some some in
          let low : found.0 < node_count p = elim (cases_lt found.0 (node_count p)) [
            | inl low ↦ low
            | inr past ↦ let none = listed.within found.0 past in let has = found.1 in absurd (cc)
          ] in
          some_left p (has_node set) 0 (node_count p) found.0 (omega arith) (omega arith) found.1
      | inr none ↦
          let empty : node_count p ≡ 0 = omega arith in
          let all : has_all p set ≡ true = ap (λ (n : ℕ). list_all (has_node set) (range_with_len 0 n)) empty in
          absurd (cc)
    ]

nodes_by : (p : Instance) → IsInstance p → (set : NodeSet) (b : Bool) → has_all p set ≡ b → AreListed p set → AreNodes (nodes_text p set)
nodes_by p is set true all listed = rw all tt
nodes_by p is set false few listed = rw few (listed_some p set listed few, names_good p is (has_node set) 0 (node_count p) (omega arith))

nodes_line : (p : Instance) → IsInstance p → (set : NodeSet) → AreListed p set → AreNodes (nodes_text p set)
nodes_line p is set listed = nodes_by p is set (has_all p set) refl listed

reason_line : (p : Instance) → IsInstance p → (r : Reason) → HasReason p r → IsReason (reason_text p r)
reason_line p is (reason.Empty e) there = element_named p is e there
reason_line p is reason.Bound there = tt
reason_line p is (reason.Load t r set) there = (there.0, resource_named p is r there.1, nodes_line p is set there.2)
reason_line p is (reason.Pair c t v w n) there =
    (there.0, there.1, element_named p is (vm v.0) there.2, element_named p is (vm w.0) there.3, element_named p is (node n.0) there.4)
reason_line p is (reason.Place c t v n) there = (there.0, there.1, element_named p is (vm v.0) there.2, element_named p is (node n.0) there.3)
reason_line p is (reason.Group c t) there = there
reason_line p is (reason.SetLoad c t) there = there
reason_line p is (reason.Power c t) there = there
reason_line p is (reason.Usable t v n) there = (there.0, element_named p is (vm v.0) there.1, element_named p is (node n.0) there.2)
reason_line p is (reason.Hall c t set) there = (there.0, there.1, nodes_line p is set there.2)

pub step_line_is : (p : Instance) → IsInstance p → (s : Step) → HasStep p s → IsStep (step_text p s)
step_line_is p is (step.Decide e part) there = (element_named p is e there.0, part_line p is part there.1)
step_line_is p is (step.Cut e part r) there = (element_named p is e there.0, part_line p is part there.1, reason_line p is r there.2)
step_line_is p is (step.Fail r) there = reason_line p is r there
step_line_is p is (step.Plan cost) there = there
step_line_is p is step.Left there = tt

-- ---- a reason that names what the instance has can be written

module _ (p : Instance) (is : IsInstance p) where
  number_fits : (c : ℕ) → c < length p.constraints → IsNumber c
  number_fits c there = omega (arith, there, is.few)

  instant_fits : (t : ℕ) → t ≤ p.horizon → IsNumber t
  instant_fits t upto = omega (arith, upto, is.horizon)

  pub named_reason : (r : Reason) → IsNamed p r → HasReason p r
  named_reason (reason.Empty e) named = named
  named_reason reason.Bound named = tt
  named_reason (reason.Load t r set) named = (instant_fits t named.0, named.1, named.2)
  named_reason (reason.Pair c t v w n) named = (number_fits c named.0, instant_fits t named.1, named.2, named.3, named.4)
  named_reason (reason.Place c t v n) named = (number_fits c named.0, instant_fits t named.1, named.2, named.3)
  named_reason (reason.Group c t) named = (number_fits c named.0, instant_fits t named.1)
  named_reason (reason.SetLoad c t) named = (number_fits c named.0, instant_fits t named.1)
  named_reason (reason.Power c t) named = (number_fits c named.0, instant_fits t named.1)
  named_reason (reason.Usable t v n) named = (instant_fits t named.0, named.1, named.2)
  named_reason (reason.Hall c t set) named = (number_fits c named.0, instant_fits t named.1, named.2)
