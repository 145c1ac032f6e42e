use Rattle.rule_group.proofs.Prelude.{arith, inl, inr, slice_index_or}
use Rattle.rule_group.specs.Prelude.{Act, choices, groups_seen, no_row}
use Rattle.rule_group.proofs.TogetherLemmas.{found_by, row_there}
use Rattle.rule_group.proofs.together.add_row.Goals as goal

pub returns : goal.returns
returns c = λ j h.
    elim (c.add_serving.ensures j h) [
      | inl old ↦ inl old
      | inr new ↦
          inr
          (found_by c.args.p.now.given (choices c.args.domain.now) c.args.always c.args.v.0 (Act (slice_index_or c.rows-rows.result.now c.args.i no_row).place (slice_index_or c.rows-rows.result.now c.args.i no_row).lo) (groups_seen c.args.groups.now)
          c.args.among.now c.spots_of_row-spots.result j c.args.p.now.sound (omega (arith, c.args.p.now.sound.horizon))
          (row_there c.args.domain.now c.rows-rows.result.now c.args.i c.rows-rows.ensures.items c.rows-rows.ensures.climbs c.requires.row) c.spots_of_row-spots.ensures.first new)
    ]
