use Rattle.base.proofs.Public.{◌≡◌, ◌+◌, ◌*◌, ◌≤◌, All, filter, map, take}
use Rattle.picture.specs.Prelude.{action_of_bar, choices_of, IsPlaced, stands}
use Rattle.picture.proofs.bars.bars_of.Given as goal

abbrev pub invariant-loop-action : goal.invariant-loop-action
invariant-loop-action l = record {
  actions : map action_of_bar l.bars.items ≡ filter (stands l.p.given (choices_of l.plan) l.row) (take l.action-index l.actions);
  placed : All (IsPlaced l.span l.top (5 + 19 * l.rows.lanes)) l.bars.items;
  kept : l.fn.rows.lanes ≤ l.rows.lanes;
  few : l.rows.lanes ≤ l.fn.rows.lanes + l.action-index;
}
