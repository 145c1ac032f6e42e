use Rattle.std.proofs.Common.{ap}
use Rattle.relax.specs.Prelude.{choices, end_of, least}
use Rattle.bound.proofs.EndLemmas.{all_stay, before_loss}
use Rattle.bound.proofs.ends.after_change.Goals as goal

pub after_loss-requires-clause-within : goal.after_loss-requires-clause-within
after_loss-requires-clause-within c =
    let f = end_of c.args.p.now.given c.args.e in
    let before = before_loss f c.in-Lost.lost c.args.domain.now c.lost_end.result (rw c.in-Lost.is at c.requires.narrowed) c.lost_end.ensures in
    rw before (rw c.in-Lost.is at c.requires.within)

pub after_loss-requires-clause-small : goal.after_loss-requires-clause-small
after_loss-requires-clause-small c =
    let f = end_of c.args.p.now.given c.args.e in
    let before = before_loss f c.in-Lost.lost c.args.domain.now c.lost_end.result (rw c.in-Lost.is at c.requires.narrowed) c.lost_end.ensures in
    let now = ap (least f) (all_stay (choices c.args.domain.now)) in
    rw (before, now) (rw c.in-Lost.is at c.requires.small)

pub returns-in-Lost : goal.returns-in-Lost
returns-in-Lost c =
    let f = end_of c.args.p.now.given c.args.e in
    let before = before_loss f c.in-Lost.lost c.args.domain.now c.lost_end.result (rw c.in-Lost.is at c.requires.narrowed) c.lost_end.ensures in
    let now = ap (least f) (all_stay (choices c.args.domain.now)) in
    rw c.in-Lost.is (rw (before, now) at c.after_loss.ensures)
