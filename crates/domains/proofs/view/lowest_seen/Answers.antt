use Rattle.base.proofs.Public.{ap, sym, ◌∙◌, filter}
use Rattle.domains.specs.Prelude.{choices, in_part, lowest as lowest_of}
use Rattle.domains.proofs.MeasureLemmas.{filter_true}
use Rattle.domains.proofs.view.lowest_seen.Goals as goal

pub returns-in-All : goal.returns-in-All
returns-in-All g c =
    c.lowest.ensures
    ∙ ap (lowest_of (g.M.Measure.value_of c.args.m.now))
    (filter_true (choices c.domain-domain.result.now) ∙ ap choices c.domain-domain.ensures.domain ∙ sym (c.in-All.ensures.seen c.args.view.now.region.now))

pub returns-in-In : goal.returns-in-In
returns-in-In g c =
    c.lowest-in-In-2.ensures
    ∙ ap (lowest_of (g.M.Measure.value_of c.args.m.now))
    (filter_true (choices c.inside.result) ∙ c.inside.ensures.set ∙ ap (λ d. filter (in_part c.in-In.part) (choices d)) c.domain-domain.ensures.domain ∙ sym (c.in-In.ensures.seen c.args.view.now.region.now))
