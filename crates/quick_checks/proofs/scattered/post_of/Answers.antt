use Rattle.quick_checks.proofs.Prelude.{◌∙◌, sym}
use Rattle.slices.proofs.Public.{member_below}
use Rattle.quick_checks.proofs.scattered.post_of.Goals as goal

pub is_on-requires-clause-machine : goal.is_on-requires-clause-machine
is_on-requires-clause-machine c = member_below _ c.args.machines.now _ c.requires.machines (sym c.has.ensures ∙ c.if-has.true)
