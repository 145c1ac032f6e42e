use Rattle.prop_core.proofs.Public.{closed_when_quiet}
use Rattle.prop_core.proofs.asking.closed_when_quiet.Goals as goal

pub returns : goal.returns
returns g c = closed_when_quiet _ _ _ _ c.requires.covered c.requires.quiet c.requires.choices
