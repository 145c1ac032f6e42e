use Rattle.std.proofs.Common.{◌≡◌, length}
use Rattle.bench_regions.proofs.start.Given as goal

abbrev pub invariant-loop-m : goal.invariant-loop-m
invariant-loop-m l = length l.domains.items ≡ l.m
