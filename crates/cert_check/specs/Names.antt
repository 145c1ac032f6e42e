-- Which step of a problem the text of a step names, if it names one.
use Rattle.std.specs.Prelude.{ℕ, zero, suc, List, [], ◌∷◌, length, min, nat_lt, Option, Some, None, if◌then◌else◌}
use Rattle.cert_read.specs.Prelude.{element_named, has_node, Instance, inventory_of, no_nodes, node_count, resource_named, with_node, Word}
use Rattle.cluster.specs.declared.{choices.Place.Place, choices.Place.TheVariants.Nowhere, choices.Place.TheVariants.At, ids.Element.Element, ids.Element.TheVariants.Vm, ids.Element.TheVariants.Node, ids.NodeId.NodeId, ids.VmId.VmId, sets.NodeSet.NodeSet}
use Rattle.domains.specs.declared.parts.Part.{Part}
use Rattle.reasons.specs.declared.reason.Reason.{Reason}
use Rattle.trees.specs.declared.steps.Step.{Step}
use Rattle.cert_text.specs.declared.text.{NodesText.NodesText, NodesText.TheVariants.All, NodesText.TheVariants.Listed, PartText.PartText, PartText.TheVariants.Idle, PartText.TheVariants.Upto, PartText.TheVariants.From, ReasonText.ReasonText, ReasonText.TheVariants.Empty, ReasonText.TheVariants.Bound, ReasonText.TheVariants.Load, ReasonText.TheVariants.Pair, ReasonText.TheVariants.Place as PlaceReason, ReasonText.TheVariants.Group, ReasonText.TheVariants.SetLoad, ReasonText.TheVariants.Power, ReasonText.TheVariants.Usable, ReasonText.TheVariants.Hall, StepText.StepText, StepText.TheVariants.Decide, StepText.TheVariants.Cut, StepText.TheVariants.Fail, StepText.TheVariants.Plan, StepText.TheVariants.Left}
use Rattle.domains.specs.declared.parts.Part.TheVariants as part
use Rattle.reasons.specs.declared.reason.Reason.TheVariants as reason
use Rattle.trees.specs.declared.steps.Step.TheVariants as step

-- what is named, and what is made of it
infixl 10 ◌>>=◌
abbrev pub ◌>>=◌ : {A B : Type 0} → Option A → (A → Option B) → Option B
None >>= f = None
(Some x) >>= f = f x

-- ---- elements, machines, nodes, resources, constraints and instants

unfoldable pub named_element : Instance → Word → Option Element
named_element p name = element_named (inventory_of p) name

abbrev pub as_machine : Element → Option VmId
as_machine (Vm v) = Some v
as_machine (Node n) = None

abbrev pub as_node : Element → Option NodeId
as_node (Vm v) = None
as_node (Node n) = Some n

unfoldable pub named_machine : Instance → Word → Option VmId
named_machine p name = named_element p name >>= as_machine

unfoldable pub named_node : Instance → Word → Option NodeId
named_node p name = named_element p name >>= as_node

unfoldable pub named_resource : Instance → Word → Option ℕ
named_resource p name = resource_named (inventory_of p) name

unfoldable pub named_constraint : Instance → ℕ → Option ℕ
named_constraint p c = if nat_lt c (length p.constraints) then Some c else None

-- an instant past what 32 bits hold is taken as the greatest of them, which is past each horizon too
unfoldable pub as_instant : ℕ → ℕ
as_instant t = min t 4294967295

-- ---- parts

unfoldable pub named_place : Instance → Option Word → Option Place
named_place p None = Some Nowhere
named_place p (Some name) = named_node p name >>= λ n. Some (At n)

unfoldable pub named_part : Instance → PartText → Option Part
named_part p Idle = Some part.Idle
named_part p (Upto place start) = named_place p place >>= λ at. Some (part.Upto at (as_instant start))
named_part p (From place start) = named_place p place >>= λ at. Some (part.From at (as_instant start))

-- ---- lists of nodes

-- a list with one more node, unless it has that already
unfoldable pub node_added : Instance → NodeSet → Word → Option NodeSet
node_added p set name = named_node p name >>= λ n. if has_node set n.0 then None else Some (with_node set n.0)

unfoldable pub nodes_added : Instance → NodeSet → List Word → Option NodeSet
nodes_added p set [] = Some set
nodes_added p set (name ∷ names) = node_added p set name >>= λ more. nodes_added p more names

unfoldable pub first_nodes : ℕ → NodeSet
first_nodes zero = no_nodes
first_nodes (suc n) = with_node (first_nodes n) n

unfoldable pub named_nodes : Instance → NodesText → Option NodeSet
named_nodes p All = Some (first_nodes (node_count p))
named_nodes p (Listed names) = nodes_added p no_nodes names

-- ---- reasons

-- two machines and a node, and one
unfoldable pub named_pair : Instance → ℕ → ℕ → Word → Word → Word → Option Reason
named_pair p c t v w n =
    named_constraint p c >>= λ rule. named_machine p v >>= λ one. named_machine p w >>= λ other. named_node p n >>= λ at.
    Some (reason.Pair rule (as_instant t) one other at)

unfoldable pub named_stay : Instance → ℕ → ℕ → Word → Word → Option Reason
named_stay p c t v n =
    named_constraint p c >>= λ rule. named_machine p v >>= λ one. named_node p n >>= λ at. Some (reason.Place rule (as_instant t) one at)

unfoldable pub named_use : Instance → ℕ → Word → Word → Option Reason
named_use p t v n = named_machine p v >>= λ one. named_node p n >>= λ at. Some (reason.Usable (as_instant t) one at)

unfoldable pub named_load : Instance → ℕ → Word → NodesText → Option Reason
named_load p t r nodes = named_resource p r >>= λ of. named_nodes p nodes >>= λ set. Some (reason.Load (as_instant t) of set)

unfoldable pub named_hall : Instance → ℕ → ℕ → NodesText → Option Reason
named_hall p c t nodes = named_constraint p c >>= λ rule. named_nodes p nodes >>= λ set. Some (reason.Hall rule (as_instant t) set)

unfoldable pub named_reason : Instance → ReasonText → Option Reason
named_reason p (Empty e) = named_element p e >>= λ x. Some (reason.Empty x)
named_reason p Bound = Some reason.Bound
named_reason p (Load t r nodes) = named_load p t r nodes
named_reason p (Pair c t v w n) = named_pair p c t v w n
named_reason p (PlaceReason c t v n) = named_stay p c t v n
named_reason p (Group c t) = named_constraint p c >>= λ rule. Some (reason.Group rule (as_instant t))
named_reason p (SetLoad c t) = named_constraint p c >>= λ rule. Some (reason.SetLoad rule (as_instant t))
named_reason p (Power c t) = named_constraint p c >>= λ rule. Some (reason.Power rule (as_instant t))
named_reason p (Usable t v n) = named_use p t v n
named_reason p (Hall c t nodes) = named_hall p c t nodes

-- ---- steps

unfoldable pub named_step : Instance → StepText → Option Step
named_step p (Decide e side) = named_element p e >>= λ x. named_part p side >>= λ of. Some (step.Decide x of)
named_step p (Cut e side why) = named_element p e >>= λ x. named_part p side >>= λ of. named_reason p why >>= λ r. Some (step.Cut x of r)
named_step p (Fail why) = named_reason p why >>= λ r. Some (step.Fail r)
named_step p (Plan cost) = Some (step.Plan cost)
named_step p Left = Some step.Left
