use Rattle.rule_group.proofs.Prelude.{arith}
use Rattle.rule_group.specs.Prelude.{Act, groups_seen}
use Rattle.rule_group.proofs.TogetherLemmas.{fits_at}
use Rattle.rule_group.proofs.together.row_fits.Goals as goal

pub returns : goal.returns
returns c = record {
  first = λ yes. fits_at c.args.p.now.given c.args.always c.args.v.0 (Act c.args.row.place c.args.row.lo) (groups_seen c.args.groups.now) c.args.common.now c.spots_of_row.result c.args.p.now.sound (omega (arith, c.args.p.now.sound.horizon))
      c.spots_of_row.ensures.first (c.is_served_by.ensures c.requires.nodes yes);
  last = λ yes. fits_at c.args.p.now.given c.args.always c.args.v.0 (Act c.args.row.place c.args.row.hi) (groups_seen c.args.groups.now) c.args.common.now c.spots_of_row.result c.args.p.now.sound (omega (arith, c.args.p.now.sound.horizon))
      c.spots_of_row.ensures.last (c.is_served_by.ensures c.requires.nodes yes);
}
