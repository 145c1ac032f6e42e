use Rattle.cert_model.proofs.{Prelude.rules, Prelude.sets, PlanLemmas.leaf_costs, PlanLemmas.plan_leaf}
use Rattle.cert_model.proofs.claims.is_plan_leaf.Goals as goal

pub returns-then-sum-cost-clause-no : goal.returns-then-sum-cost-clause-no
returns-then-sum-cost-clause-no c =
    λ _ leaf. c.if-sum-cost.true (leaf_costs c.args.p.now.given c.args.bound (sets c.args.g.now) c.args.sum c.args.cost c.requires.sum leaf)

pub returns-clause-yes : goal.returns-clause-yes
returns-clause-yes c =
    λ good. plan_leaf c.args.p.now.given c.args.bound (sets c.args.g.now) c.args.sum c.args.cost c.in-Some.known _ c.in-Some.is c.if-cost-known.false c.if-sum-cost.false c.requires.sum c.in_ok-plan.ensures.only
    (c.judge.ensures.valid.0 (search (rules, c.is_none.ensures, good)))
