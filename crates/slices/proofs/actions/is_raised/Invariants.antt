use Rattle.base.proofs.Public.{◌≡◌, ◌-◌, length, list_any, range_with_len}
use Rattle.slices.specs.Actions.{differs_in, is_raised}
use Rattle.slices.proofs.actions.is_raised.Given as goal

abbrev pub invariant-loop-r : goal.invariant-loop-r
invariant-loop-r l =
    is_raised l.p.given l.v.0 ≡ list_any (differs_in l.p.given l.v.0) (range_with_len l.r (length l.p.given.resources - l.r))
