-- Elements by number: the machines first, and then the nodes, each in their order.
use Rattle.std.specs.Prelude.{ℕ, ◌+◌, ◌-◌, length, nat_lt, if◌then◌else◌}
use Rattle.cluster.specs.declared.ids.Element.{Element}
use Rattle.cluster.specs.declared.ids.Element.TheVariants.{Vm, Node as NodeElement}
use Rattle.cluster.specs.Inventory.{Inventory}

-- how many elements there are
abbrev pub element_count : Inventory → ℕ
element_count k = length k.machines + length k.nodes

-- the number of an element
abbrev pub element_number : Inventory → Element → ℕ
element_number k (Vm v) = v.0
element_number k (NodeElement n) = length k.machines + n.0

-- the element of a number
abbrev pub element_at : Inventory → ℕ → Element
element_at k x = if nat_lt x (length k.machines) then Vm (record { 0 = x }) else NodeElement (record { 0 = x - length k.machines })
