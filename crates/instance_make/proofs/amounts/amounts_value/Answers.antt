use Rattle.std.proofs.Common.{◌≡◌, ◌∙◌, ◌<◌, length, ap, arith}
use Rattle.instance_make.specs.Prelude.{amounts_data, members}
use Rattle.serde_json.specs.Data.{object}
use Rattle.instance_make.proofs.Putting.{none_to, resource_free, amounts_more, amounts_to}
use Rattle.instance_make.proofs.amounts.amounts_value.Goals as goal

pub loop-r-init : goal.loop-r-init
loop-r-init c = c.new-object.ensures ∙ none_to c.args.cluster.now.given.resources c.args.amounts.now

pub put-requires : goal.put-requires
put-requires c =
    let names = c.args.cluster.now.given.resources in
    let within : c.loop-r.r < length names = omega (arith, c.loop-r-test.true, ap length c.resources-name-items.ensures.resources) in
    let at = rw c.resources-name-items.ensures.resources at c.name-item.is in
    let new = resource_free names c.args.amounts.now c.loop-r.r c.name-item.result c.args.cluster.now.sound.apart_resources within at in
    rw (c.as_text.ensures.text, c.loop-r.invariant) new

pub loop-r-preserved : goal.loop-r-preserved
loop-r-preserved c =
    let names = c.args.cluster.now.given.resources in
    let within : c.loop-r.r < length names = omega (arith, c.loop-r-test.true, ap length c.resources-name-items.ensures.resources) in
    let at = rw c.resources-name-items.ensures.resources at c.name-item.is in
    let put_here = rw (c.as_text.ensures.text, c.number.ensures) at (c.in_ok-put.ensures.ok) in
    amounts_more names c.args.amounts.now c.loop-r.r c.name-item.result (members c.loop-r.object) (members c.put.new.self) within at c.loop-r.invariant put_here

pub returns : goal.returns
unfolding amounts_data
returns c =
    let all : c.loop-r.r ≡ length c.args.cluster.now.given.resources = omega (arith, c.loop-r-test.false, ap length c.resources-name-items.ensures.resources) in
    c.finish.ensures ∙ ap object (c.loop-r.invariant ∙ ap (amounts_to c.args.cluster.now.given.resources c.args.amounts.now) all)
