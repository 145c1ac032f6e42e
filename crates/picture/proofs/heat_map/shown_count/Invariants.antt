use Rattle.base.proofs.Public.{◌≡◌, ◌≤◌, filter, length, range_with_len}
use Rattle.picture.specs.Prelude.{choices_of, is_shown}
use Rattle.picture.proofs.heat_map.shown_count.Given as goal

abbrev pub invariant-loop-n : goal.invariant-loop-n
invariant-loop-n l = record {
  few : l.count ≤ l.n;
  shown : l.count ≡ length (filter (is_shown l.p.given (choices_of l.plan) l.actions) (range_with_len 0 l.n));
}
