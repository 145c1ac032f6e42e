use Rattle.closing.proofs.Prelude.{refl, sym, ◌∙◌, false≢true, places_seen, sets}
use Rattle.closing.proofs.SettingLemmas.{placed_free, placed_met}
use Rattle.closing.proofs.exact.places.member_found.Goals as goal

pub returns-in-None : goal.returns-in-None
returns-in-None c =
    placed_free c.args.p.now.given (sets c.args.g.now) c.args.t (places_seen c.args.places.now) c.args.v.0
    (λ x. false≢true (sym (c.stands_badly.ensures.no c.if-stands_badly.false x.0 x.1 x.2) ∙ (c.standing.ensures.nodes x.0 ∙ x.3)))
    (rw c.domain.ensures.domain at c.in-None.ensures.none)

pub returns-in-Some : goal.returns-in-Some
returns-in-Some c = (refl, placed_met c.args.p.now.given (sets c.args.g.now) c.args.t (places_seen c.args.places.now) c.args.v.0 c.requires.machine c.in-Some.c (rw c.domain.ensures.domain at c.in-Some.ensures.some))
