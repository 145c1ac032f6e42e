-- The host of a machine.
use Rattle.standings.proofs.Prelude.{◌≡◌, ℕ, Option, None, Some, sym, ap, hosted_in, HostIs, NodeId, one, State}
use Rattle.relax.specs.Areas.{is_node_in}
use Rattle.relax.specs.Prelude.{host_of}

-- the host of a state tells where a machine in it is hosted
pub host_is : (s : State) (h : Option NodeId) (n : ℕ) → h ≡ host_of s → HostIs h n (hosted_in s (one n))
host_is s None n e = ap (λ h. is_node_in h (one n)) (sym e)
host_is s (Some m) n e = ap (λ h. is_node_in h (one n)) (sym e)
