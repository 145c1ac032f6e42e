use Rattle.base.proofs.Public.{◌≡◌, subst}
use Rattle.explain.specs.Prelude.{IsOpen, IsRefuted, sub, TrialGives}
use Rattle.explain.proofs.CoreLemmas.{is_needed, numbers_without}
use Rattle.explain.proofs.trials.leave_out.Goals as goal
use Rattle.explain.proofs.trials.leave_out.Goals.{in-Feasible, in-Infeasible, in-Undecided}

pub sub_problem-requires : goal.sub_problem-requires
sub_problem-requires g c = rw (c.deref.ensures.value, c.in_ok-fewer.ensures) (numbers_without c.args.p.now.given c.args.kept.now c.args.c c.requires)

pub returns : goal.returns
returns g c =
    let p = c.args.p.now.given in
    let q = c.in_ok-sub.sub.given in
    let fewer = c.in_ok-fewer.fewer.items in
    let sub_is : q ≡ sub p fewer = rw c.deref.ensures.value at c.in_ok-sub.ensures in
    elim c.match-branch-4.branch [
      | in-Feasible w ↦ rw w.result-is (is_needed p c.args.kept.now fewer c.args.c q w.in-Feasible.plan w.cost.result c.in_ok-fewer.ensures sub_is (subst (TrialGives q c.args.budget) w.in-Feasible.is c.in_ok-plan.ensures) w.cost.ensures.cost)
      | in-Infeasible w ↦ rw w.result-is (c.in_ok-fewer.ensures, subst (λ x. IsRefuted x c.args.budget w.in-Infeasible.certificate.items) sub_is (subst (TrialGives q c.args.budget) w.in-Infeasible.is c.in_ok-plan.ensures))
      | in-Undecided w ↦ rw w.result-is (c.in_ok-fewer.ensures, subst (λ x. IsOpen x c.args.budget w.in-Undecided.certificate.items) sub_is (subst (TrialGives q c.args.budget) w.in-Undecided.is c.in_ok-plan.ensures))
    ]
