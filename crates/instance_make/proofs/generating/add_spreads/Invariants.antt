use Rattle.std.proofs.Common.{◌≡◌, map}
use Rattle.instance_make.specs.Prelude.{from, spread_of, with_more}
use Rattle.instance_make.proofs.generating.add_spreads.Given as goal

abbrev pub invariant-loop-g : goal.invariant-loop-g
invariant-loop-g l = l.problem.given ≡ with_more l.initial.problem.given (map spread_of (from 0 l.g))
