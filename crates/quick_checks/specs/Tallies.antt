-- What the machines of a region hold together.
use Rattle.std.specs.Prelude.{◌≡◌, ℕ, ◌*◌, ◌≤◌, IsSomeAnd, slice_get}
use Rattle.relax.specs.Prelude.{has_node, Instance, machine_count, max_held, NodeSet, Sets, sure, total, Weight}
use Rattle.slices.specs.Forms.{Bounded, form_of}
use Rattle.quick_checks.specs.declared.tally.Tally.{Tally}

-- the constraint of a number bounds by an amount what machines have on a set of nodes
abbrev pub BoundsAmount : Instance → ℕ → Weight → NodeSet → ℕ → Type 0
BoundsAmount p c w set amount = IsSomeAnd (slice_get p.constraints c) (λ k. form_of k ≡ Bounded w set amount)

-- where its constraint bounds an amount, machines of these choices surely hold no less on the nodes of that
pub record IsTally (p : Instance) (s : Sets) (x : Tally) : Type 0 where
  pub held : (w : Weight) (set : NodeSet) (amount : ℕ) → BoundsAmount p x.constraint w set amount → x.total ≤ total p (sure p s x.at) w (has_node set)
  pub small : x.total ≤ machine_count p * max_held
