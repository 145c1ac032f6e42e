use Rattle.domains.specs.Choices.{no_row}
use Rattle.std.proofs.Common.{◌∙◌}
use Rattle.domains.proofs.RowLemmas.{Climbs-at}
use Rattle.domains.proofs.PartLemmas.{inside_gap, inside_found}
use Rattle.domains.proofs.domain.row_inside.Goals as goal

pub inside-requires : goal.inside-requires
inside-requires c = rw c.as_slice.ensures (Climbs-at 0 c.args.rows.now.rows c.in-Ok.i no_row c.requires.climbs c.in-Ok.ensures.found.within).1

pub returns-in-Ok-clause-set : goal.returns-in-Ok-clause-set
returns-in-Ok-clause-set c =
    c.inside.ensures.set ∙ rw c.as_slice.ensures (inside_found c.args.rows.now.rows c.args.place c.args.part c.requires.climbs c.requires.at c.in-Ok.i no_row c.in-Ok.ensures.found)

pub returns-in-Err-clause-set : goal.returns-in-Err-clause-set
returns-in-Err-clause-set c =
    inside_gap c.args.rows.now.rows c.args.place c.args.part c.requires.climbs c.requires.at c.in-Err.field-0 c.in-Err.ensures.gap
