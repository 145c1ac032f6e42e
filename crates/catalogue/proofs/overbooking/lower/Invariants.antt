use Rattle.std.proofs.Common.{◌≡◌, ℕ, ◌<◌, length, if◌then◌else◌, nat_lt}
use Rattle.catalogue.specs.Prelude.{limit_cell, limit_with, max_resources, written_of}
use Rattle.catalogue.specs.declared.constraint.Constraint.TheVariants.{Overbook}
use Rattle.catalogue.proofs.overbooking.lower.Given as goal

abbrev pub invariant-loop-i : goal.invariant-loop-i
invariant-loop-i l = record {
  rows : length l.table.items ≡ length l.cluster.given.nodes;
  cells : (n q : ℕ) → n < length l.cluster.given.nodes → q < max_resources →
      limit_cell l.table.items n q ≡ (if nat_lt n l.i then limit_with n q (written_of l.cluster.given.nodes n q) (limit_cell l.initial.table.items n q) (Overbook l.nodes l.r l.num l.den) else limit_cell l.initial.table.items n q);
}
