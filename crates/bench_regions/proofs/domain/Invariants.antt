use Rattle.cluster.specs.declared.choices.Place.TheVariants.{At}
use Rattle.domains.specs.Choices.{ComesAfter}
use Rattle.bench_regions.proofs.domain.Given as goal

abbrev pub invariant-loop-n : goal.invariant-loop-n
invariant-loop-n l = ComesAfter (At (record { 0 = l.n })) l.domain.rows
