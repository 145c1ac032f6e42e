use Rattle.std.proofs.Common.{◌≡◌, ◌<◌, length}
use Rattle.bench_regions.proofs.run.Given as goal

abbrev pub invariant-loop-k : goal.invariant-loop-k
invariant-loop-k l = record { there : length l.trail.region.machines ≡ l.machines; marked : 0 < length l.trail.marks }
