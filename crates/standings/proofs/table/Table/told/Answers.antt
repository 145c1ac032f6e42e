use Rattle.standings.proofs.Prelude.{subst, AreFewer, choices, domain_at, domain_before, sets}
use Rattle.standings.proofs.table.Table.told.Goals as goal

pub told_machine-requires-clause-fewer : goal.told_machine-requires-clause-fewer
told_machine-requires-clause-fewer c =
    subst (λ e. AreFewer (sets c.args.g.now e) (choices (domain_before c.args.before c.args.kept.now (domain_at c.args.g.now e)))) c.in-Vm.is c.requires.fewer
