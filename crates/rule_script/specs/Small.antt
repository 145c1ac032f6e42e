-- Helping only: elements that sets of machines and of nodes have a place for.
use Rattle.std.specs.Prelude.{Bool, nat_lt}
use Rattle.cluster.specs.Prelude.{max_machines, max_nodes}
use Rattle.cluster.specs.declared.ids.Element.{Element}
use Rattle.cluster.specs.declared.ids.Element.TheVariants.{Node, Vm}

abbrev pub is_small : Element → Bool
is_small (Vm v) = nat_lt v.0 max_machines
is_small (Node n) = nat_lt n.0 max_nodes
