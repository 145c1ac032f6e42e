use Rattle.base.proofs.Public.{◌≡◌, take}
use Rattle.std.specs.List.{count_by}
use Rattle.picture.specs.Prelude.{is_under_way}
use Rattle.picture.proofs.counts.acting_at.Given as goal

abbrev pub invariant-loop-action : goal.invariant-loop-action
invariant-loop-action l = l.count ≡ count_by (is_under_way l.t) (take l.action-index l.actions)
