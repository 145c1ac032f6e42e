use Rattle.load_bounds.proofs.Prelude.{rules, seen, sure}
use Rattle.load_bounds.proofs.OverLemmas.{near_alone, near_with}
use Rattle.load_bounds.proofs.over.use_beside.Goals as goal

pub returns-in_default-clause-sum : goal.returns-in_default-clause-sum
returns-in_default-clause-sum c = near_alone c.args.p.now.given (sure c.args.p.now.given (seen c.args.view.now.region.now c.args.view.now.lens) c.args.t) c.args.r c.args.n.0 c.args.kept.near.now c.requires.kept.near.machines

pub returns-then-v-machines-clause-sum : goal.returns-then-v-machines-clause-sum
returns-then-v-machines-clause-sum c = near_alone c.args.p.now.given (sure c.args.p.now.given (seen c.args.view.now.region.now c.args.view.now.lens) c.args.t) c.args.r c.args.n.0 c.args.kept.near.now c.requires.kept.near.machines

pub returns-then-is_listed-clause-sum : goal.returns-then-is_listed-clause-sum
returns-then-is_listed-clause-sum c = near_alone c.args.p.now.given (sure c.args.p.now.given (seen c.args.view.now.region.now c.args.view.now.lens) c.args.t) c.args.r c.args.n.0 c.args.kept.near.now c.requires.kept.near.machines

pub returns-clause-sum : goal.returns-clause-sum
returns-clause-sum c =
    near_with c.args.p.now.given (sure c.args.p.now.given (seen c.args.view.now.region.now c.args.view.now.lens) c.args.t) c.args.r c.args.n.0 _ c.use_seen.result c.args.kept.near.now c.requires.kept.near.machines
    (search rules) (search rules) c.use_seen.ensures.held
