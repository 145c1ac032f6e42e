-- The host of a machine.
use Rattle.std.specs.Prelude.{◌≡◌, ℕ, Bool, false, Option, Some, None}
use Rattle.{cluster.specs.declared.ids.NodeId.NodeId, slices.specs.Stages.one}

-- whether node n is the host, if there is one
abbrev pub HostIs : Option NodeId → ℕ → Bool → Type 0
HostIs None n is = is ≡ false
HostIs (Some h) n is = is ≡ one n h.0
