use Rattle.relax.proofs.{Prelude.◌≡◌, Prelude.ap, Prelude.◌∙◌, Prelude.domain_at, PlanLemmas.one_start}
use Rattle.relax.proofs.plan.only_choice.Goals as goal

pub returns-in-len1-up : goal.returns-in-len1-up
returns-in-len1-up c =
    let is : c.rows.result.now ≡ (domain_at c.args.g.now c.args.e).rows = c.rows.ensures.items ∙ ap (λ d. d.rows) c.domain.ensures.domain in
    rw is (one_start (domain_at c.args.g.now c.args.e) _ (rw is at c.rows.ensures.climbs) (rw is at c.in-len1-up.len_at_least) c.requires.fixed)
