use Rattle.std.proofs.Common.{◌≡◌, take}
use Rattle.explain.specs.Prelude.{without}
use Rattle.explain.proofs.subs.without.Given as goal

abbrev pub invariant-loop-x : goal.invariant-loop-x
invariant-loop-x l = l.fewer.items ≡ without l.c (take l.x-index l.kept)
