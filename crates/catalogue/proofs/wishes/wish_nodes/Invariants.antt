use Rattle.std.proofs.Common.{◌≡◌, ℕ, ◌<◌, length, if◌then◌else◌, nat_lt}
use Rattle.catalogue.specs.Prelude.{has_node, wish_cell, wish_where}
use Rattle.catalogue.proofs.wishes.wish_nodes.Given as goal

abbrev pub invariant-loop-i : goal.invariant-loop-i
invariant-loop-i l = (n : ℕ) → n < length l.table →
    wish_cell l.table n ≡ (if nat_lt n l.i then wish_where (has_node l.nodes n) (wish_cell l.initial.table n) l.target else wish_cell l.initial.table n)
