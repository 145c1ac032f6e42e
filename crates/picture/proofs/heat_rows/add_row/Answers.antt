use Rattle.base.proofs.Public.{All-push}
use Rattle.picture.specs.Prelude.{choices_of, IsHeatRow}
use Rattle.picture.proofs.heat_rows.add_row.Goals as goal

pub returns-clause-drawn : goal.returns-clause-drawn
returns-clause-drawn c =
    rw c.in_ok-push.ensures.items (All-push (IsHeatRow c.args.p.now.given (choices_of c.args.plan.now) c.args.actions.now c.args.span c.args.instants.now) c.args.made.now.rows.items c.in_ok-row.row c.requires.drawn c.in_ok-row.ensures.row)
