use Rattle.cert_model.proofs.{Prelude.Some, Prelude.sets, Prelude.stays, EndLemmas.has_end, EndLemmas.is_narrowed, EndLemmas.small_with, EndLemmas.whole_of_loss}
use Rattle.cert_model.proofs.ends.sum_outside.Goals as goal

pub after_loss-requires-clause-within : goal.after_loss-requires-clause-within
after_loss-requires-clause-within c =
    let s = sets c.args.g.now in
    rw (c.domain.ensures.domain, whole_of_loss c.args.p.now.given s c.args.x c.args.part c.end_seen-gone.result c.end_seen-gone.ensures)
    (has_end c.args.p.now.given s c.args.x (stays (Some c.args.part)) c.args.sum c.requires.element c.requires.sum)

pub after_loss-requires-clause-small : goal.after_loss-requires-clause-small
after_loss-requires-clause-small c =
    let s = sets c.args.g.now in
    rw (c.domain.ensures.domain, whole_of_loss c.args.p.now.given s c.args.x c.args.part c.end_seen-gone.result c.end_seen-gone.ensures)
    (small_with c.args.p.now.given s c.args.x (stays (Some c.args.part)) c.args.sum c.requires.element c.requires.sum c.args.p.now.sound c.requires.legal)

pub returns : goal.returns
returns c =
    let s = sets c.args.g.now in
    is_narrowed c.args.p.now.given s c.args.x (stays (Some c.args.part)) c.args.sum c.requires.element c.requires.sum c.after_loss.result
    (rw (c.domain.ensures.domain, whole_of_loss c.args.p.now.given s c.args.x c.args.part c.end_seen-gone.result c.end_seen-gone.ensures) at c.after_loss.ensures)
