use Rattle.relax.proofs.{Prelude.no_row, AwayLemmas.start_in}
use Rattle.relax.proofs.sure.has_out.Goals as goal

pub returns-else-idle : goal.returns-else-idle
returns-else-idle c =
    λ t.
    let out = rw c.rows.ensures.items at (c.has_row_out.ensures t) in
    (_, start_in c.args.domain.now out.0 no_row c.requires out.1, out.2)
