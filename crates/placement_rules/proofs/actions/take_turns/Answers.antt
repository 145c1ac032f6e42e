use Rattle.placement_rules.proofs.Prelude.{◌∙◌, arith, sym, false≢true, iff_false, choices_of, snapshot_at}
use Rattle.placement_rules.proofs.Turns.{meet}
use Rattle.placement_rules.proofs.actions.take_turns.Goals as goal

pub returns-then-not-is_at_most : goal.returns-then-not-is_at_most
returns-then-not-is_at_most c =
    let p = c.args.p.now.given in
    (λ f. absurd (false≢true f), λ turns. absurd (meet p (snapshot_at p (choices_of c.args.plan.now) c.args.t) c.args.machines.now c.loop-v.v-index _ c.loop-v.acting (omega arith) c.requires.machines (sym c.acts.ensures ∙ c.if-not-acts.false) (iff_false c.is_at_most.ensures c.if-not-is_at_most.true) c.loop-v.invariant turns))
