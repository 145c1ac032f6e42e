use Rattle.rule_place.proofs.Prelude.{inl, inr, arith, cases_eq, sets}
use Rattle.rule_place.proofs.OptionalLemmas.{away_goes}
use Rattle.rule_place.proofs.optional.all_may_be_gone.Goals as goal

pub loop-i-preserved : goal.loop-i-preserved
loop-i-preserved c = λ v l.
    elim (cases_eq v c.loop-i.i) [
      | inl same ↦ rw same (away_goes c.args.p.now.given (sets c.args.g.now) c.loop-i.i c.args.n.0 c.args.x (omega (arith, c.args.p.now.sound.horizon)) c.requires.late (c.may_be_gone.ensures c.if-not-may_be_gone.false))
      | inr other ↦ c.loop-i.invariant v (omega (arith, l, other))
    ]
