use Rattle.cert_model.proofs.{Prelude.rules, LeanLemmas.is_undecided, LeanLemmas.undecided_below}
use Rattle.cert_model.proofs.lean.is_undecided.Goals as goal

pub returns-then-not-is_below-clause-no : goal.returns-then-not-is_below-clause-no
returns-then-not-is_below-clause-no g c =
    let f = c.args.frontier.now in
    λ _ e cheapest undecided.
    let below = c.is_below.ensures.1 (undecided_below c.args.p.now.given f.trail.region c.requires.region c.args.cheapest f.sum c.requires.sum e cheapest undecided) in
    let not_below = c.if-not-is_below.true in
    cc

pub returns-clause-yes : goal.returns-clause-yes
returns-clause-yes g c =
    let f = c.args.frontier.now in
    λ yes e cheapest. is_undecided c.args.p.now.given f.trail.region c.requires.region c.args.cheapest f.sum c.requires.sum e cheapest (c.is_closed.ensures.closed.0 yes)
    (λ fixed. let is = c.is_fixed.ensures.1 (rw c.region.ensures fixed) in let not = c.if-is_fixed.false in cc)
    (c.is_below.ensures.0 (search (rules, c.if-not-is_below.false)))
