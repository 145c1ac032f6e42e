use Rattle.closing.proofs.Prelude.{arith, IsClean, sets, usable_watch, below_more}
use Rattle.closing.proofs.ClosedLemmas.{clean_usable, clean_by, found}
use Rattle.closing.proofs.closed.are_usable_clean.Goals as goal

pub returns-then-not-is_clean-clause-no : goal.returns-then-not-is_clean-clause-no
returns-then-not-is_clean-clause-no c =
    λ _ clean.
    found (usable_watch c.args.p.now.given c.loop-i.i) c.args.p.now.given (sets c.args.g.now) c.look_at_usable.result (c.is_clean.ensures.no c.if-not-is_clean.true) c.look_at_usable.ensures
    (clean_usable c.args.p.now.given (sets c.args.g.now) clean c.loop-i.i (omega arith))

pub loop-i-preserved : goal.loop-i-preserved
loop-i-preserved c =
    below_more (λ k. IsClean (usable_watch c.args.p.now.given k) c.args.p.now.given (sets c.args.g.now)) c.loop-i.i c.loop-i.invariant
    (clean_by (usable_watch c.args.p.now.given c.loop-i.i) c.args.p.now.given (sets c.args.g.now) c.look_at_usable.result (c.is_clean.ensures.yes c.if-not-is_clean.false) c.look_at_usable.ensures)

pub returns-clause-yes : goal.returns-clause-yes
returns-clause-yes c = λ _ k h. c.loop-i.invariant k (omega (arith, h))
