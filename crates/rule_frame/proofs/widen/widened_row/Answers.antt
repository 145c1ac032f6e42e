use Rattle.rule_frame.proofs.WidenLemmas.{end_of_row_holds}
use Rattle.rule_frame.proofs.widen.widened_row.Goals as goal

pub row_of_end-row-requires : goal.row_of_end-row-requires
row_of_end-row-requires g c = rw c.domain.ensures.domain c.requires.is_end

pub from_an_end-requires-clause-holds : goal.from_an_end-requires-clause-holds
from_an_end-requires-clause-holds g c =
    end_of_row_holds c.args.p.now.given c.args.g.now c.args.e c.args.place c.args.start c.row_of_end-row.result c.is_first.result c.args.reason c.is_first.ensures c.row_of_end-row.ensures.place c.row_of_end-row.ensures.is_end
    c.requires.element c.requires.is_end (rw c.domain.ensures.domain at c.row_of_end-row.ensures.first) (rw c.domain.ensures.domain at c.row_of_end-row.ensures.last) c.requires.refuted
