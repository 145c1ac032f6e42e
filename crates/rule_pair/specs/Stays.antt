-- Helping only: how long a machine may stay on its host.
use Rattle.std.specs.Prelude.{◌≡◌, ℕ, ◌≤◌, List}
use Rattle.rule_constraint.specs.Prelude.{comes_by, have_come, Instance, least, leave_of}
use Rattle.cluster.specs.declared.choices.Choice.{Choice}
use Rattle.standings.specs.declared.numbers.Standing.{Standing}

-- machine v surely keeps its host no longer than by this number, and comes to the node, if there is one, to which all these choices go
pub record StandsWithin (p : Instance) (v : ℕ) (cs : List Choice) (k : Standing) : Type 0 where
  pub leave : least (leave_of p v) cs ≤ k.leave
  pub come : (n t : ℕ) → comes_by n t k.come ≡ have_come n t cs
