-- The start region: all legal choices of each element.
use Rattle.std.specs.Prelude.{filter, ◌+◌, Bool, nat_lt, List, [], ◌∷◌, map, if◌then◌else◌}
use Rattle.std.specs.List.{flat_map, range_with_len}
use Rattle.domains.specs.Prelude.{Sets, starts_from}
use Rattle.slices.specs.Prelude.{Choices, Instance, is_legal, machine_count, node_count}
use Rattle.cluster.specs.declared.choices.Choice.{Choice}
use Rattle.cluster.specs.declared.choices.Choice.TheVariants.{Idle}
use Rattle.cluster.specs.declared.choices.Place.{Place}
use Rattle.cluster.specs.declared.choices.Place.TheVariants.{Nowhere, At}
use Rattle.cluster.specs.declared.ids.Element.{Element}
use Rattle.cluster.specs.declared.ids.Element.TheVariants.{Vm, Node as TheNode}

-- nowhere, and each node
abbrev pub places : Instance → List Place
places p = Nowhere ∷ map (λ n. At (record { 0 = n })) (range_with_len 0 (node_count p))

-- Idle, and at each place a start at each instant up to the horizon
abbrev pub every_choice : Instance → List Choice
every_choice p = Idle ∷ flat_map (λ place. starts_from place 0 (p.horizon + 1)) (places p)

-- whether the instance has the element
abbrev pub is_element : Instance → Element → Bool
is_element p (Vm v) = nat_lt v.0 (machine_count p)
is_element p (TheNode n) = nat_lt n.0 (node_count p)

-- an element's legal choices; one that the instance has not can only stay
unfoldable pub start_sets : Instance → Sets
start_sets p e = if is_element p e then filter (is_legal p e) (every_choice p) else Idle ∷ []

-- a plan, with all that the instance has not idle: what it has for that makes no difference
abbrev pub within : Instance → Choices → Choices
within p plan e = if is_element p e then plan e else Idle
