-- Helping only: what is read of durations is within the limits of a cluster.
use Rattle.std.specs.Prelude.{ℕ, Bool, List, Option, is_none, if◌then◌else◌}
use Rattle.std.specs.List.{list_all}
use Rattle.cluster.specs.declared.durations.Duration.{Duration}
use Rattle.cluster.specs.declared.kinds.Kind.{Kind}
use Rattle.cluster.specs.Inventory.{own_fits, machine_own_fits, node_own_fits}
use Rattle.instance_json.specs.declared.durations.Owner.{Owner}
use Rattle.instance_json.specs.declared.durations.Owner.TheVariants.{Machine, Node, Either}
use Rattle.instance_json.specs.Durations.{has_kind}

-- whether what is read of one kind fits
abbrev pub kind_fits : ℕ → Owner → Kind → Option Duration → Bool
kind_fits count owner kind duration = if has_kind owner kind then own_fits count duration else is_none duration

-- whether what is read of the ten kinds fits
abbrev pub owner_fits : ℕ → Owner → List (Option Duration) → Bool
owner_fits count Machine durations = machine_own_fits count durations
owner_fits count Node durations = node_own_fits count durations
owner_fits count Either durations = list_all (own_fits count) durations
