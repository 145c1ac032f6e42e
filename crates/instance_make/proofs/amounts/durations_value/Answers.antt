use Rattle.base.proofs.Public.{◌∙◌, ◌<◌, length, ap, arith, rules, take_all}
use Rattle.instance_make.specs.Prelude.{duration_of_kind, durations_data, kind_count, kind_word, KINDS, kinds, members, members_by}
use Rattle.serde_json.specs.Data.{object}
use Rattle.instance_make.proofs.Putting.{kind_free, kinds_more}
use Rattle.instance_make.proofs.amounts.durations_value.Goals as goal

pub loop-kind-init : goal.loop-kind-init
unfolding members_by
loop-kind-init c = search rules

pub put_duration-requires : goal.put_duration-requires
put_duration-requires c =
    let lt : c.loop-kind.kind-index < kind_count = omega arith in
    rw c.loop-kind.invariant (kind_free (duration_of_kind c.args.resources.now c.args.durations.now) c.loop-kind.kind-index _ lt)

pub loop-kind-preserved : goal.loop-kind-preserved
loop-kind-preserved c =
    let lt : c.loop-kind.kind-index < length KINDS = omega arith in
    kinds_more (duration_of_kind c.args.resources.now c.args.durations.now) c.loop-kind.kind-index _ (members c.loop-kind.object) (members c.put_duration.new.object) lt c.loop-kind.invariant c.in_ok-put_duration.ensures

pub returns : goal.returns
unfolding durations_data kinds
returns c =
    c.finish.ensures ∙ ap object (c.loop-kind.invariant ∙ ap (members_by kind_word (duration_of_kind c.args.resources.now c.args.durations.now)) (take_all c.loop-kind.kind-index KINDS c.loop-kind-test.false))
