use Rattle.base.proofs.Public.{◌≡◌, filter, range_with_len}
use Rattle.replay.specs.Prelude.{choices_of, is_event}
use Rattle.replay.proofs.events.events.Given as goal

abbrev pub invariant-loop-t : goal.invariant-loop-t
invariant-loop-t l = l.instants.items ≡ filter (is_event l.p.given (choices_of l.plan)) (range_with_len 0 l.t)
