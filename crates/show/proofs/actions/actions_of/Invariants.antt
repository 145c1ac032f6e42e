use Rattle.base.proofs.Public.{◌≡◌, flat_map, range_with_len}
use Rattle.show.specs.Prelude.{action_of, choices_of}
use Rattle.show.proofs.actions.actions_of.Given as goal

abbrev pub invariant-loop-x : goal.invariant-loop-x
invariant-loop-x l = l.actions.items ≡ flat_map (action_of l.p.given (choices_of l.plan)) (range_with_len 0 l.x)
