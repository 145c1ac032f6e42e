use Rattle.std.proofs.Common.{◌≡◌, take}
use Rattle.instance_make.specs.Prelude.{duration_of_kind, kind_word, KINDS, members, members_by}
use Rattle.instance_make.proofs.amounts.durations_value.Given as goal

abbrev pub invariant-loop-kind : goal.invariant-loop-kind
invariant-loop-kind l = members l.object ≡ members_by kind_word (duration_of_kind l.resources l.durations) (take l.kind-index KINDS)
