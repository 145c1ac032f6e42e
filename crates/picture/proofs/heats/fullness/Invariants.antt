use Rattle.base.proofs.Public.{◌≡◌}
use Rattle.picture.specs.Prelude.{capacity_of, cell, most_to, parts_of}
use Rattle.picture.proofs.heats.fullness.Given as goal

abbrev pub invariant-loop-r : goal.invariant-loop-r
invariant-loop-r l = l.most ≡ most_to l.r (λ r. parts_of (capacity_of l.p.given l.n.0 r) (cell l.table l.n.0 r))
