-- What breaks a constraint in a snapshot, by its form.
use Rattle.std.specs.Prelude.{ℕ, ◌<◌, List}
use Rattle.relax.specs.Prelude.{Allowed, Apart, Bounded, BreaksGroup, Form, has_node, Instance, InTurn, IsMember, machine_count, Ordered, Places, Powered, powered_nodes, Separates, Separation, Settled, Snapshot, Together, total}
use Rattle.{cluster.specs.declared.ids.VmId.VmId, closing.specs.Stands.IsPlacedBadly, closing.specs.Stands.ShareNode}

-- two machines of the instance that are kept apart are on one node
abbrev pub HasSeparated : Instance → Snapshot → Separation → Type 0
HasSeparated p s separation =
    (v : ℕ) × (w : ℕ) × (v < machine_count p) × (w < machine_count p) × Separates separation v w × ShareNode p v w s

-- a member of the instance is where it may not be
abbrev pub HasMisplaced : Instance → Snapshot → List VmId → Places → Type 0
HasMisplaced p s vs places = (v : ℕ) × (v < machine_count p) × IsMember vs v × IsPlacedBadly p places v s

abbrev pub IsFormBroken : Instance → Snapshot → Form → Type 0
IsFormBroken p s (Apart separation) = HasSeparated p s separation
IsFormBroken p s (Allowed vs places) = HasMisplaced p s vs places
IsFormBroken p s (Together vs groups) = BreaksGroup p s (Together vs groups)
IsFormBroken p s (Ordered before after) = BreaksGroup p s (Ordered before after)
IsFormBroken p s (InTurn vs) = BreaksGroup p s (InTurn vs)
IsFormBroken p s (Bounded weight ns amount) = amount < total p s weight (has_node ns)
IsFormBroken p s (Powered ns amount) = amount < powered_nodes p s (has_node ns)
IsFormBroken p s Settled = ⊥
