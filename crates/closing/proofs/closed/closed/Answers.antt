use Rattle.closing.proofs.{Prelude.arith, Prelude.true_from_ne_false, Prelude.sets, ClosedLemmas.closed_by_watches, ClosedLemmas.some_element}
use Rattle.closing.proofs.closed.closed.Goals as goal

pub returns-then-have_choices : goal.returns-then-have_choices
returns-then-have_choices c =
    let some = some_element c.args.p.now.given (omega (arith, c.if-machines_of-nodes_of-eq0.false, c.machines_of.ensures, c.nodes_of.ensures)) in
    let both = closed_by_watches c.args.p.now.given (sets c.args.g.now) some.0 some.1 in (
      λ yes. both.1 (c.have_choices.ensures.yes c.if-have_choices.true, c.are_always_clean.ensures.yes yes),
      λ closed. true_from_ne_false _ (λ e. c.are_always_clean.ensures.no e (both.0 closed).1),
    )
