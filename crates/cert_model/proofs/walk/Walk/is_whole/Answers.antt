use Rattle.cert_model.proofs.{Prelude.the_view, StandLemmas.open_when_due, StandLemmas.stands_as}
use Rattle.cert_model.proofs.walk.Walk.is_whole.Goals as goal

pub returns-in_default : goal.returns-in_default
returns-in_default c =
    λ p bound strict steps known.
    let w = the_view c.self.inside in
    let open_still = open_when_due p bound strict steps w (stands_as p bound strict steps w c.args.self.now c.self.view_is known) c.in_default.not-Nothing in
    (λ wrong. absurd (cc), λ whole. absurd (open_still whole))
