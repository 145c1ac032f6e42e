use Rattle.std.proofs.Common.{◌≡◌, take}
use Rattle.explain.specs.Prelude.{picked}
use Rattle.explain.proofs.subs.pick.Given as goal

abbrev pub invariant-loop-c : goal.invariant-loop-c
invariant-loop-c l = l.picks.items ≡ picked l.constraints (take l.c-index l.kept)
