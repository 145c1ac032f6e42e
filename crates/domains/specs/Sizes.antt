-- How large a region is.
use Rattle.std.specs.Prelude.{ℕ, ◌+◌, ◌*◌, ◌<◌, length}
use Rattle.base.specs.Sums.{sum_to, product_to}
use Rattle.cluster.specs.declared.ids.Element.{Element}
use Rattle.cluster.specs.declared.ids.Element.TheVariants.{Vm, Node}
use Rattle.domains.specs.Sets.{Sets}

-- how many choices a machine has, and a node
abbrev pub machine_choices : Sets → ℕ → ℕ
machine_choices s v = length (s (Vm (record { 0 = v })))

abbrev pub node_choices : Sets → ℕ → ℕ
node_choices s n = length (s (Node (record { 0 = n })))

-- how many plans are in the region of so many machines and nodes: the product over all elements, 1 for none
abbrev pub size : ℕ → ℕ → Sets → ℕ
size machines nodes s = product_to machines (machine_choices s) * product_to nodes (node_choices s)

-- how many choices are left over all elements: each narrowing that takes one away lowers it
abbrev pub choice_count : ℕ → ℕ → Sets → ℕ
choice_count machines nodes s = sum_to machines (machine_choices s) + sum_to nodes (node_choices s)

-- the element is one of so many machines and nodes
abbrev pub IsOneOf : ℕ → ℕ → Element → Type 0
IsOneOf machines nodes (Vm v) = v.0 < machines
IsOneOf machines nodes (Node n) = n.0 < nodes
