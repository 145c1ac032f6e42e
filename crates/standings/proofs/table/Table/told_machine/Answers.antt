use Rattle.standings.proofs.Prelude.{sym, subst, AreFewer, choices, domain_before}
use Rattle.standings.proofs.table.Table.told_machine.Goals as goal

pub standing_after-k-requires-clause-fewer : goal.standing_after-k-requires-clause-fewer
standing_after-k-requires-clause-fewer c =
    subst (λ d. AreFewer (choices d) (choices (domain_before c.args.before c.args.kept.now d))) (sym c.domain-domain.ensures.domain) c.requires.fewer
