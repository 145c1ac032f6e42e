-- Helping only: which groups are named, by the groups of machines and of nodes in two tables.
use Rattle.std.specs.Prelude.{ℕ, Bool, true, false, ◌==◌, nat_lt, List, [], ◌∷◌, length, Option, Some, None, fold, slice_index_or, if◌then◌else◌}
use Rattle.std.specs.List.{range_with_len}
use Rattle.cluster.specs.declared.ids.VmId.{VmId}
use Rattle.cluster.specs.declared.sets.NodeSet.{NodeSet}
use Rattle.catalogue.specs.Prelude.{has_node}
use Rattle.slices.specs.Forms.{Form, Apart, Allowed, Together, Ordered, InTurn, Bounded, Powered, Settled, AnyNode, AnyOf, separated}
use Rattle.partition.specs.declared.reach.Reach.{Reach}
use Rattle.partition.specs.declared.reach.Reach.TheVariants.{Nowhere, One, Several}

-- ---- what is known of the groups that are named

abbrev pub only_of : Reach → Option ℕ
only_of Nowhere = None
only_of (One h) = Some h
only_of (Several h) = None

abbrev pub fits : Reach → ℕ → Bool
fits Nowhere i = true
fits (One h) i = h == i
fits (Several h) i = false

abbrev pub first_of : Reach → ℕ
first_of Nowhere = 0
first_of (One h) = h
first_of (Several h) = h

abbrev pub is_several : Reach → Bool
is_several Nowhere = false
is_several (One h) = false
is_several (Several h) = true

-- ---- more groups that are named

abbrev pub lesser : ℕ → ℕ → ℕ
lesser i h = if nat_lt i h then i else h

abbrev pub and_group : Reach → ℕ → Reach
and_group Nowhere i = One i
and_group (One h) i = if i == h then One h else Several (lesser i h)
and_group (Several h) i = Several (lesser i h)

-- what a table says of a number
abbrev pub at : List ℕ → ℕ → ℕ
at table x = slice_index_or table x 0

abbrev pub and_machine : List ℕ → Reach → VmId → Reach
and_machine table r v = and_group r (at table v.0)

abbrev pub and_machines : List ℕ → Reach → List VmId → Reach
and_machines table r vs = fold (and_machine table) r vs

abbrev pub and_node : List ℕ → NodeSet → Reach → ℕ → Reach
and_node table set r n = if has_node set n then and_group r (at table n) else r

abbrev pub and_nodes : List ℕ → Reach → NodeSet → Reach
and_nodes table r set = fold (and_node table set) r (range_with_len 0 (length table))

abbrev pub and_sets : List ℕ → Reach → List NodeSet → Reach
and_sets table r sets = fold (and_nodes table) r sets

-- ---- the groups that a form names, if it is a joint one

abbrev pub form_reach : List ℕ → List ℕ → Form → Reach
form_reach machines nodes (Apart separation) = and_machines machines Nowhere (separated separation)
form_reach machines nodes (Allowed vs places) = Nowhere
form_reach machines nodes (Together vs AnyNode) = and_machines machines Nowhere vs
form_reach machines nodes (Together vs (AnyOf sets)) = and_sets nodes (and_machines machines Nowhere vs) sets
form_reach machines nodes (Ordered before after) = and_machines machines Nowhere (before ∷ after ∷ [])
form_reach machines nodes (InTurn vs) = and_machines machines Nowhere vs
form_reach machines nodes (Bounded weight ns amount) = and_nodes nodes Nowhere ns
form_reach machines nodes (Powered ns amount) = and_nodes nodes Nowhere ns
form_reach machines nodes Settled = Nowhere
