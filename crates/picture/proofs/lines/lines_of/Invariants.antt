use Rattle.base.proofs.Public.{◌≡◌, All, filter, map, take}
use Rattle.picture.specs.Prelude.{action_of_bar, choices_of, IsLine, stands}
use Rattle.picture.proofs.lines.lines_of.Given as goal

abbrev pub invariant-loop-action : goal.invariant-loop-action
invariant-loop-action l = record {
  actions : map action_of_bar l.lines.items ≡ filter (stands l.p.given (choices_of l.plan) l.row) (take l.action-index l.actions);
  placed : All (IsLine l.span l.y) l.lines.items;
}
