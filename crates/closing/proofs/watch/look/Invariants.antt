use Rattle.closing.proofs.Prelude.{ℕ, ◌<◌, ◌≤◌, ◌+◌, ◌-◌, broken_at, IsFreeOf, IsTurn, sets, changing}
use Rattle.closing.proofs.watch.look.Given as goal

abbrev pub invariant-instants : goal.invariant-instants
invariant-instants g l = record {
  most : l.at ≤ l.p.given.horizon + 1;
  clean : (t : ℕ) → t < l.at → IsTurn l.p.given (changing l.change_instants (sets l.g)) t → IsFreeOf (broken_at (g.W.Watched.watch l.watched l.p.given) l.p.given t) l.p.given (sets l.g) t;
}

abbrev pub decreases-instants : goal.decreases-instants
decreases-instants g l = l.p.given.horizon + 1 - l.at
