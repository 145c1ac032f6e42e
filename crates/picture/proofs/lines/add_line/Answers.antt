use Rattle.base.proofs.Public.{All-push}
use Rattle.picture.specs.Prelude.{IsLine}
use Rattle.picture.proofs.lines.add_line.Goals as goal

pub returns-clause-placed : goal.returns-clause-placed
returns-clause-placed c =
    rw c.in_ok-push.ensures.items (All-push (IsLine c.args.span c.args.y) c.args.lines.now.items c.in_ok-line.line c.requires.placed c.in_ok-line.ensures.placed)
