use Rattle.rule_pair.proofs.Prelude.{get_or, get_or_default, subst, VmId, ◌∙◌, refl, []}
use Rattle.rule_pair.specs.Prelude.{IsMember}
use Rattle.rule_pair.proofs.StrangerLemmas.{member_there}
use Rattle.rule_pair.proofs.TwinLemmas.{in_one_part}
use Rattle.rule_pair.proofs.twins.has_twin_in.Goals as goal

pub returns-then-is_in_one : goal.returns-then-is_in_one
returns-then-is_in_one c = λ _.
    let none : VmId = record { 0 = 0 } in
    let u : VmId = get_or c.items-machines.result.now c.loop-k.k none in
    let same = c.items-machines.ensures ∙ c.index-parts-i.is ∙ get_or_default c.args.parts.now c.args.i c.index-parts-i.result [] c.requires.part in
    let there = subst (λ vs. IsMember vs u.0) same (member_there c.items-machines.result.now c.loop-k.k u.0 none c.loop-k-test.true refl) in
    (u.0, c.is_twin.ensures c.if-is_twin.true, in_one_part c.args.parts.now c.args.i c.args.v.0 u.0 c.requires.alone there (c.is_in_one.ensures c.if-is_in_one.true))
