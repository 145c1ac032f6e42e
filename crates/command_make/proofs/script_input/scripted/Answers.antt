use Rattle.command_make.proofs.ScriptReadings.{adds_constraints}
use Rattle.command_make.proofs.script_input.scripted.Goals as goal

pub returns-in-Ok-clause-adds : goal.returns-in-Ok-clause-adds
returns-in-Ok-clause-adds c = adds_constraints c.args.p.given c.args.bytes.now c.in-Ok.problem c.in-Ok.ensures
