use Rattle.rule_group.proofs.Prelude.{arith, false≢true, inl, inr, sym, ◌∙◌}
use Rattle.rule_group.specs.Prelude.{choices, groups_seen, Idle}
use Rattle.rule_group.proofs.TogetherLemmas.{found_by, idle_there}
use Rattle.rule_group.proofs.together.groups_of_idle.Goals as goal

pub returns : goal.returns
returns c = λ j h.
    elim (c.add_serving.ensures j h) [
      | inl old ↦ absurd (false≢true (sym (c.new-found.ensures.nodes j) ∙ old))
      | inr new ↦
          found_by c.args.p.now.given (choices c.args.domain.now) c.args.always c.args.v.0 Idle (groups_seen c.args.groups.now) c.args.among.now c.spots_of_idle-spots.result j c.args.p.now.sound (omega (arith, c.args.p.now.sound.horizon))
          (idle_there c.args.domain.now c.requires.climbs (sym c.idle.ensures ∙ c.if-not-idle.false)) c.spots_of_idle-spots.ensures new
    ]
