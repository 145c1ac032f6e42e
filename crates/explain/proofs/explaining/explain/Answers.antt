use Rattle.base.proofs.Public.{subst}
use Rattle.explain.specs.Prelude.{TrialGives}
use Rattle.explain.proofs.CoreLemmas.{all_left_open, is_decided}
use Rattle.explain.proofs.explaining.explain.Goals as goal
use Rattle.explain.proofs.explaining.explain.Goals.{in-Feasible, in-Infeasible+in_ok-shrink-in-Infeasible, in-Undecided+in_ok-all_numbers-in-Undecided}

pub returns-clause-explained : goal.returns-clause-explained
returns-clause-explained g c =
    let p = c.args.p.now.given in
    let budget = c.args.budget in
    elim c.match-branch-2.branch [
      | in-Feasible w ↦ rw w.result-is (subst (TrialGives p budget) w.in-Feasible.is c.in_ok-plan.ensures)
      | in-Infeasible+in_ok-shrink-in-Infeasible w ↦ rw w.result-is w.in_ok-shrink-in-Infeasible.ensures
      | in-Undecided+in_ok-all_numbers-in-Undecided w ↦ rw (w.result-is, w.in_ok-all_numbers-in-Undecided.ensures) (all_left_open p budget w.in-Undecided.certificate.items (subst (TrialGives p budget) w.in-Undecided.is c.in_ok-plan.ensures))
    ]

pub returns-clause-decided : goal.returns-clause-decided
returns-clause-decided g c = is_decided c.args.p.now.given c.args.budget c.match-branch-2.result (returns-clause-explained g c)
