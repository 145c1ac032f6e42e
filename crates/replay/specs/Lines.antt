-- The lines of a report.
use Rattle.std.specs.Prelude.{ℕ, List, [], ◌++◌, length, slice_index_or, Option, Some, None, codes}
use Rattle.std.specs.{Fmt.decimal, List.flat_map, List.range_with_len}
use Rattle.judge.specs.Prelude.{Choices, cost_of, Instance, inventory_of, Loads, loads_of, name_of, node, node_count, snapshot_at, vm}
use Rattle.cluster.specs.declared.ids.Element.{Element}
use Rattle.slices.specs.declared.rule.{Broken.Broken, Rule.Rule, Rule.TheVariants.Load, Rule.TheVariants.Usable, Rule.TheVariants.Constraint}

-- a word after a blank
abbrev pub spaced : List ℕ → List ℕ
spaced word = codes " " ++ word

abbrev pub element_name : Instance → Element → List ℕ
element_name p e = name_of (inventory_of p) e

abbrev pub resource_name : Instance → ℕ → List ℕ
resource_name p r = slice_index_or p.resources r []

-- the loads of a node, one for each resource in order
abbrev pub loads_text : Instance → Loads → ℕ → List ℕ
loads_text p loads n = flat_map (λ r. spaced (decimal (loads n r))) (range_with_len 0 (length p.resources))

-- a node's name and its loads
unfoldable pub node_text : Instance → Loads → ℕ → List ℕ
node_text p loads n = spaced (element_name p (node n)) ++ loads_text p loads n

-- each node in order
abbrev pub nodes_text : Instance → Loads → List ℕ
nodes_text p loads = flat_map (node_text p loads) (range_with_len 0 (node_count p))

-- an instant, and each node with its loads there
unfoldable pub at_line : Instance → Choices → ℕ → List ℕ
at_line p plan t = codes "at " ++ decimal t ++ nodes_text p (loads_of p (snapshot_at p plan t)) ++ codes "\n"

-- a rule: the load of a node for a resource, a machine on a node that is to be usable, or a constraint by its number
abbrev pub rule_text : Instance → Rule → List ℕ
rule_text p (Load n r) = codes "load " ++ element_name p (node n.0) ++ spaced (resource_name p r)
rule_text p (Usable v n) = codes "usable " ++ element_name p (vm v.0) ++ spaced (element_name p (node n.0))
rule_text p (Constraint c) = codes "rule " ++ decimal c

-- the instant and the rule that are broken
unfoldable pub broken_line : Instance → Broken → List ℕ
broken_line p b = codes "broken " ++ decimal b.at ++ spaced (rule_text p b.rule) ++ codes "\n"

-- the cost of a valid plan, or else what is broken
unfoldable pub verdict_line : Instance → Choices → Option Broken → List ℕ
verdict_line p plan None = codes "valid " ++ decimal (cost_of p plan) ++ codes "\n"
verdict_line p plan (Some b) = broken_line p b
