use Rattle.base.proofs.Public.{◌∙◌}
use Rattle.picture.specs.Prelude.{choices_of}
use Rattle.picture.proofs.Whole.{heat_map_made}
use Rattle.picture.proofs.heat_map.heat_map_of.Goals as goal

pub returns : goal.returns
returns c = record {
  heat_map = heat_map_made c.args.p.now.given (choices_of c.args.plan.now) c.in_ok-heat_map.heat_map _ _ _ c.in_ok-actions.ensures.listing c.deref.ensures.value (c.deref-2.ensures.value ∙ c.in_ok-instants.ensures.events)
      c.in_ok-heat_map.ensures.span c.in_ok-heat_map.ensures.acting c.in_ok-heat_map.ensures.powered c.in_ok-heat_map.ensures.rows c.in_ok-heat_map.ensures.loose;
}
