-- Which lines the steps of a problem are.
use Rattle.std.specs.Prelude.{ℕ, ◌<◌, ◌^◌, Bool, List, [], ◌++◌, length, map, slice_index_or, Option, Some, None, codes, if◌then◌else◌}
use Rattle.std.specs.List.{filter, flat_map, list_all, range_with_len}
use Rattle.trees.specs.Prelude.{AreListed, has_node, Instance, inventory_of, IsElement, machine_count, name_of, node, node_count}
use Rattle.cluster.specs.declared.choices.Place.{Place}
use Rattle.cluster.specs.declared.choices.Place.TheVariants.{Nowhere, At}
use Rattle.cluster.specs.declared.ids.Element.{Element}
use Rattle.cluster.specs.declared.ids.Element.TheVariants.{Vm, Node}
use Rattle.cluster.specs.declared.sets.NodeSet.{NodeSet}
use Rattle.domains.specs.declared.parts.Part.{Part}
use Rattle.domains.specs.declared.parts.Part.TheVariants.{Idle as IdlePart, Upto as UptoPart, From as FromPart}
use Rattle.reasons.specs.declared.reason.Reason.{Reason}
use Rattle.trees.specs.declared.steps.Goal.{Goal}
use Rattle.trees.specs.declared.steps.Step.{Step}
use Rattle.reasons.specs.declared.reason.Reason.TheVariants as reason
use Rattle.trees.specs.declared.steps.Step.TheVariants as step
use Rattle.cert_text.specs.declared.text.LineText.TheVariants.{Step as StepLine, End}
use Rattle.cert_text.specs.declared.text.NodesText.{NodesText}
use Rattle.cert_text.specs.declared.text.NodesText.TheVariants.{All as AllNodes, Listed}
use Rattle.cert_text.specs.declared.text.PartText.{PartText}
use Rattle.cert_text.specs.declared.text.PartText.TheVariants.{Idle, Upto, From}
use Rattle.cert_text.specs.declared.text.ReasonText.{ReasonText}
use Rattle.cert_text.specs.declared.text.ReasonText.TheVariants.{Empty, Bound, Load, Pair, Place as PlaceReason, Group, SetLoad, Power, Usable, Hall}
use Rattle.cert_text.specs.declared.text.StepText.{StepText}
use Rattle.cert_text.specs.declared.text.StepText.TheVariants.{Decide, Cut, Fail, Plan, Left}
use Rattle.cert_text.specs.Kinds.{Word}
use Rattle.cert_text.specs.Texts.{IsNumber, header, joined, line_words}

-- ---- by names

abbrev pub element_name : Instance → Element → Word
element_name p e = name_of (inventory_of p) e

abbrev pub resource_name : Instance → ℕ → Word
resource_name p r = slice_index_or p.resources r []

abbrev pub place_name : Instance → Place → Option Word
place_name p Nowhere = None
place_name p (At n) = Some (element_name p (Node n))

abbrev pub part_text : Instance → Part → PartText
part_text p IdlePart = Idle
part_text p (UptoPart place start) = Upto (place_name p place) start
part_text p (FromPart place start) = From (place_name p place) start

-- the nodes of an instance, in their order
abbrev pub node_numbers : Instance → List ℕ
node_numbers p = range_with_len 0 (node_count p)

-- whether a set has each node of the instance
abbrev pub has_all : Instance → NodeSet → Bool
has_all p set = list_all (has_node set) (node_numbers p)

-- the names of the nodes that a set has, in their order
abbrev pub node_names : Instance → NodeSet → List Word
node_names p set = map (λ n. element_name p (node n)) (filter (has_node set) (node_numbers p))

-- all nodes, or else the names of those that the set has
abbrev pub nodes_text : Instance → NodeSet → NodesText
nodes_text p set = if has_all p set then AllNodes else Listed (node_names p set)

abbrev pub reason_text : Instance → Reason → ReasonText
reason_text p (reason.Empty e) = Empty (element_name p e)
reason_text p reason.Bound = Bound
reason_text p (reason.Load t r set) = Load t (resource_name p r) (nodes_text p set)
reason_text p (reason.Pair c t v w n) = Pair c t (element_name p (Vm v)) (element_name p (Vm w)) (element_name p (Node n))
reason_text p (reason.Place c t v n) = PlaceReason c t (element_name p (Vm v)) (element_name p (Node n))
reason_text p (reason.Group c t) = Group c t
reason_text p (reason.SetLoad c t) = SetLoad c t
reason_text p (reason.Power c t) = Power c t
reason_text p (reason.Usable t v n) = Usable t (element_name p (Vm v)) (element_name p (Node n))
reason_text p (reason.Hall c t set) = Hall c t (nodes_text p set)

abbrev pub step_text : Instance → Step → StepText
step_text p (step.Decide e part) = Decide (element_name p e) (part_text p part)
step_text p (step.Cut e part r) = Cut (element_name p e) (part_text p part) (reason_text p r)
step_text p (step.Fail r) = Fail (reason_text p r)
step_text p (step.Plan cost) = Plan cost
step_text p step.Left = Left

-- ---- the lines, each with its newline

unfoldable pub header_line : List ℕ
header_line = header ++ codes "\n"

unfoldable pub step_line : Instance → Step → List ℕ
step_line p s = joined (line_words (StepLine (step_text p s))) ++ codes "\n"

unfoldable pub end_line : Goal → List ℕ
end_line goal = joined (line_words (End goal)) ++ codes "\n"

-- the text of a certificate with these steps and this goal
unfoldable pub certificate_text : Instance → List Step → Goal → List ℕ
certificate_text p steps goal = header_line ++ flat_map (step_line p) steps ++ end_line goal

-- ---- which steps can be written: each element, machine, node and resource that they name is the problem's, a set of nodes has one of
-- them unless there is none, and numbers fit those of the code

abbrev pub HasPlace : Instance → Place → Type 0
HasPlace p Nowhere = Unit {0}
HasPlace p (At n) = n.0 < node_count p

-- the start of a part, as each instant of the code, has 32 bits
abbrev pub IsStart : ℕ → Type 0
IsStart t = t < 2 ^ 32

abbrev pub HasPart : Instance → Part → Type 0
HasPart p IdlePart = Unit {0}
HasPart p (UptoPart place start) = HasPlace p place × IsStart start
HasPart p (FromPart place start) = HasPlace p place × IsStart start

abbrev pub HasReason : Instance → Reason → Type 0
HasReason p (reason.Empty e) = IsElement p e
HasReason p reason.Bound = Unit {0}
HasReason p (reason.Load t r set) = IsNumber t × (r < length p.resources) × AreListed p set
HasReason p (reason.Pair c t v w n) = IsNumber c × IsNumber t × (v.0 < machine_count p) × (w.0 < machine_count p) × (n.0 < node_count p)
HasReason p (reason.Place c t v n) = IsNumber c × IsNumber t × (v.0 < machine_count p) × (n.0 < node_count p)
HasReason p (reason.Group c t) = IsNumber c × IsNumber t
HasReason p (reason.SetLoad c t) = IsNumber c × IsNumber t
HasReason p (reason.Power c t) = IsNumber c × IsNumber t
HasReason p (reason.Usable t v n) = IsNumber t × (v.0 < machine_count p) × (n.0 < node_count p)
HasReason p (reason.Hall c t set) = IsNumber c × IsNumber t × AreListed p set

abbrev pub HasStep : Instance → Step → Type 0
HasStep p (step.Decide e part) = IsElement p e × HasPart p part
HasStep p (step.Cut e part r) = IsElement p e × HasPart p part × HasReason p r
HasStep p (step.Fail r) = HasReason p r
HasStep p (step.Plan cost) = IsNumber cost
HasStep p step.Left = Unit {0}
