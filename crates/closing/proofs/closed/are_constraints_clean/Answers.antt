use Rattle.closing.proofs.Prelude.{ap, arith, length, constraint_watch, IsClean, sets, below_more}
use Rattle.closing.proofs.ClosedLemmas.{clean_constraint, clean_by, found}
use Rattle.closing.proofs.closed.are_constraints_clean.Goals as goal

pub returns-then-not-is_clean-clause-no : goal.returns-then-not-is_clean-clause-no
returns-then-not-is_clean-clause-no c =
    λ _ clean.
    found (constraint_watch c.args.p.now.given c.loop-c.c) c.args.p.now.given (sets c.args.g.now) c.look_at_constraint.result (c.is_clean.ensures.no c.if-not-is_clean.true) c.look_at_constraint.ensures
    (clean_constraint c.args.p.now.given (sets c.args.g.now) clean c.loop-c.c (omega (arith, ap length c.constraints-c-end.ensures.constraints)))

pub loop-c-preserved : goal.loop-c-preserved
loop-c-preserved c =
    below_more (λ k. IsClean (constraint_watch c.args.p.now.given k) c.args.p.now.given (sets c.args.g.now)) c.loop-c.c c.loop-c.invariant
    (clean_by (constraint_watch c.args.p.now.given c.loop-c.c) c.args.p.now.given (sets c.args.g.now) c.look_at_constraint.result (c.is_clean.ensures.yes c.if-not-is_clean.false) c.look_at_constraint.ensures)

pub returns-clause-yes : goal.returns-clause-yes
returns-clause-yes c = λ _ k h. c.loop-c.invariant k (omega (arith, h, ap length c.constraints-c-end.ensures.constraints))
