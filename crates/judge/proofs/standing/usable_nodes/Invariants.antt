use Rattle.std.proofs.Common.{◌≡◌, ℕ, ◌<◌, false, slice_index_or, length}
use Rattle.judge.specs.Prelude.{choices_of, snapshot_at}
use Rattle.judge.proofs.standing.usable_nodes.Given as goal

abbrev pub invariant-loop-n : goal.invariant-loop-n
invariant-loop-n l =
    (length l.table ≡ 512) × ((n : ℕ) → n < l.n → slice_index_or l.table n false ≡ (snapshot_at l.p.given (choices_of l.plan) l.t).usable n)
