use Rattle.base.proofs.Public.{◌++◌, List, sym, ap, ◌∙◌}
use Rattle.remake.proofs.AddLemmas.{rule_in_turn}
use Rattle.remake.proofs.making.problem_with.Goals as goal

pub add_rule-requires : goal.add_rule-requires
add_rule-requires c =
    let at = c.loop-constraint in
    rw at.invariant.made
    (rule_in_turn c.args.cluster.given c.args.horizon c.args.constraints.items c.requires at.yielded c.in-Some.constraint _
    (ap (λ (l : List _). at.yielded ++ l) (sym c.in-Some.ensures.steps.0) ∙ at.invariant.whole))
