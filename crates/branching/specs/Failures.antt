-- How many failures were reported of each element.
use Rattle.std.specs.Prelude.{ℕ, ◌+◌, ◌-◌, ◌^◌, min, List, slice_index_or, slice_set}
use Rattle.cluster.specs.declared.ids.Element.{Element}
use Rattle.cluster.specs.declared.ids.Element.TheVariants.{Vm, Node}

-- what contracts see of a `MostFailures`: the counters of the machines, and of the nodes
pub record Failures : Type 0 where
  pub machines : List ℕ
  pub nodes : List ℕ

-- an element without a counter has none
abbrev pub failures_of : Failures → Element → ℕ
failures_of f (Vm v) = slice_index_or f.machines v.0 0
failures_of f (Node n) = slice_index_or f.nodes n.0 0

-- the counter at a place of the list is one higher, if there is one, and stands still at its type's end
abbrev pub raised : List ℕ → ℕ → List ℕ
raised counts i = slice_set counts i (min (2 ^ 32 - 1) (slice_index_or counts i 0 + 1))

-- after a failure is reported of the element
abbrev pub with_failure : Failures → Element → Failures
with_failure f (Vm v) = record { machines = raised f.machines v.0; nodes = f.nodes }
with_failure f (Node n) = record { machines = f.machines; nodes = raised f.nodes n.0 }
