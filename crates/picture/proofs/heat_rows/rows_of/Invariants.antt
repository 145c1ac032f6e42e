use Rattle.base.proofs.Public.{◌≡◌, ◌+◌, ◌*◌, ◌≤◌, All, filter, map, range_with_len}
use Rattle.picture.specs.Prelude.{choices_of, IsHeatRow, is_shown, node_of_row}
use Rattle.picture.proofs.heat_rows.rows_of.Given as goal

abbrev pub invariant-loop-n : goal.invariant-loop-n
invariant-loop-n l = record {
  nodes : map node_of_row l.made.rows.items ≡ filter (is_shown l.p.given (choices_of l.plan) l.actions) (range_with_len 0 l.n);
  drawn : All (IsHeatRow l.p.given (choices_of l.plan) l.actions l.span l.instants) l.made.rows.items;
  foot : l.made.foot ≤ l.top + 16 * l.n;
}
