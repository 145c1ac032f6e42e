-- Lists of elements: what is in one, how two are put together, and lists of one sort alone.
use Rattle.std.specs.Prelude.{ℕ, ◌+◌, ◌&&◌, ◌++◌, Bool, not, nat_le, nat_lt, List, [], ◌∷◌, Option, Some, None, option_map, if◌then◌else◌}
use Rattle.std.specs.List.{filter}
use Rattle.cluster.specs.Prelude.{no_nodes, with_node}
use Rattle.cluster.specs.declared.ids.Element.{Element}
use Rattle.cluster.specs.declared.sets.NodeSet.{NodeSet}
use Rattle.cluster.specs.declared.ids.VmId.{VmId}
use Rattle.cluster.specs.declared.ids.Element.TheVariants.{Node, Vm}
use Rattle.rule_script.specs.declared.places.Places.{Places}
use Rattle.rule_script.specs.declared.tokens.Operator.{Operator}
use Rattle.rule_script.specs.declared.tokens.Operator.TheVariants.{Plus, Minus, Both}
pub use Rattle.rule_script.specs.Marks.{in_list, is_same, number_at}
pub use Rattle.rule_script.specs.Small.{is_small}

-- ---- two lists put together

-- `a + b` is a and then those of b not in a; `a - b` and `a & b` are in a's order
abbrev pub joined_by : Operator → List Element → List Element → List Element
joined_by Plus a b = a ++ filter (λ e. not (in_list a e)) b
joined_by Minus a b = filter (λ e. not (in_list b e)) a
joined_by Both a b = filter (λ e. in_list b e) a

-- ---- lists of which some entries do not count

-- the number of an element
abbrev pub entry_of : Places → Element → ℕ
entry_of s (Vm v) = number_at s.machines.items v.0
entry_of s (Node n) = number_at s.nodes.items n.0

-- whether an entry of that number counts, where those of its element do from one number on, and none where that is 0
abbrev pub counts : ℕ → ℕ → Bool
counts first number = nat_lt 0 first && nat_le first number

-- the entries that count; the first entry has that number
unfoldable pub standing : (Element → ℕ) → ℕ → List Element → List Element
standing entry n [] = []
standing entry n (e ∷ es) = if counts (entry e) n then e ∷ standing entry (n + 1) es else standing entry (n + 1) es

-- ---- lists of one sort

-- the machines of a list that has no node
unfoldable pub machines_of : List Element → Option (List VmId)
machines_of [] = Some []
machines_of (Vm v ∷ es) = option_map (λ vs. v ∷ vs) (machines_of es)
machines_of (Node n ∷ es) = None

-- the nodes of a list that has no machine, added to a set
unfoldable pub nodes_with : NodeSet → List Element → Option NodeSet
nodes_with s [] = Some s
nodes_with s (Node n ∷ es) = nodes_with (with_node s n.0) es
nodes_with s (Vm v ∷ es) = None

-- the nodes of a list that has no machine
abbrev pub nodes_of : List Element → Option NodeSet
nodes_of es = nodes_with no_nodes es

-- the machine that a list is, where it is one machine
unfoldable pub machine_alone : List Element → Option VmId
machine_alone (Vm v ∷ []) = Some v
machine_alone (Vm v ∷ e ∷ es) = None
machine_alone (Node n ∷ es) = None
machine_alone [] = None
