use Rattle.std.proofs.Common.{◌+◌, ◌*◌, arith}
use Rattle.picture.proofs.Placed.{placed_push}
use Rattle.picture.proofs.bars.add_bar.Goals as goal

pub returns-clause-placed : goal.returns-clause-placed
returns-clause-placed c =
    rw c.in_ok-push.ensures.items (placed_push c.args.span c.args.top (5 + 19 * c.args.rows.now.lanes) (5 + 19 * c.bar.new.rows.lanes) c.args.bars.now.items c.in_ok-bar.bar c.requires.placed (let more = c.in_ok-bar.ensures.kept in omega arith) c.in_ok-bar.ensures.placed)
