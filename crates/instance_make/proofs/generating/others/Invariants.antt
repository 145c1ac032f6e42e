use Rattle.base.proofs.Public.{◌≡◌, ◌==◌, not, filter}
use Rattle.instance_make.specs.Generated.{from, set_of}
use Rattle.instance_make.proofs.generating.others.Given as goal

abbrev pub invariant-loop-n : goal.invariant-loop-n
invariant-loop-n l = l.set ≡ set_of (filter (λ n. not (n == l.k)) (from 0 l.n))
