use Rattle.base.proofs.Public.{◌≡◌, rules, replicate}
use Rattle.search.specs.Prelude.{element_count, Idle, inventory_of}
use Rattle.search.proofs.StayLemmas.{not_valid}
use Rattle.search.proofs.staying.staying_plan.Goals as goal

pub returns-then-not-is_valid-clause-none : goal.returns-then-not-is_valid-clause-none
returns-then-not-is_valid-clause-none c =
    let items : c.in_ok-choices.choices.items ≡ replicate (element_count (inventory_of c.args.p.now.given)) Idle = search rules in
    λ _. not_valid c.args.p.now.given c.in_ok-choices.choices.items c.idle_or-plan.result items c.idle_or-plan.ensures.plan (λ v. let yes = c.is_valid.ensures.1 v in let no = c.if-not-is_valid.true in cc)
