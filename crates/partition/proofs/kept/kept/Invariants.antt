use Rattle.base.proofs.Public.{◌≡◌, ℕ, ◌<◌, false, length, get_or, take}
use Rattle.slices.specs.Elements.{machine_count}
use Rattle.partition.specs.Division.{is_kept_by}
use Rattle.partition.proofs.kept.kept.Given as goal

abbrev pub invariant-loop-constraint : goal.invariant-loop-constraint
invariant-loop-constraint l = record {
  each : length l.kept.items ≡ machine_count l.p.given;
  kept : (w : ℕ) → w < machine_count l.p.given → get_or l.kept.items w false ≡ is_kept_by l.p.given l.nodes l.machines (take l.constraint-index l.p.given.constraints) w;
}
