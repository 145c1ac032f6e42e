use Rattle.closing.proofs.{Prelude.sets, GroupLemmas.group_free}
use Rattle.closing.proofs.exact.groups.group_found.Goals as goal

pub returns-in-None : goal.returns-in-None
returns-in-None c = group_free c.args.p.now.given (sets c.args.g.now) c.args.t c.args.constraint.now c.args.machines.now c.requires.members (c.is_group.ensures.no c.if-is_group.false) c.in-None.ensures.none
