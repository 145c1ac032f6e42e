use Rattle.std.proofs.Common.{◌≡◌, ℕ, ◌<◌, length, take}
use Rattle.catalogue.specs.Prelude.{is_member, wish_cell, wish_where}
use Rattle.catalogue.proofs.wishes.wish_machines.Given as goal

abbrev pub invariant-loop-id : goal.invariant-loop-id
invariant-loop-id l = (v : ℕ) → v < length l.table →
    wish_cell l.table v ≡ wish_where (is_member (take l.id-index l.machines) v) (wish_cell l.initial.table v) l.target
