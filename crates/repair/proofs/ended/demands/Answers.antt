use Rattle.std.proofs.Common.{◌≡◌, length, ap, ◌∙◌, arith}
use Rattle.repair.proofs.GoingLemmas.{all_demands}
use Rattle.repair.proofs.ended.demands.Goals as goal

pub returns : goal.returns
returns c =
    let all = c.loop-r.invariant in
    let count : length c.resources-r-end.result.now ≡ length c.args.p.now.given.resources = ap length (c.resources-r-end.ensures.resources ∙ ap (λ k. k.resources) c.cluster.ensures.cluster) in
    all_demands c.args.p.now.given c.args.p.now.sound c.args.v.0 c.requires c.loop-r.usage all.places (λ r l. all.listed r (omega (arith, l, count))) (λ r l. all.past r (omega (arith, l, count)))
