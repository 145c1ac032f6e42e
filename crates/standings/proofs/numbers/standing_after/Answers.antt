use Rattle.standings.proofs.Prelude.{subst, AreFewer, choices, domain_before}
use Rattle.standings.proofs.numbers.standing_after.Goals as goal

pub leave_after-leave-requires-clause-fewer : goal.leave_after-leave-requires-clause-fewer
leave_after-leave-requires-clause-fewer c =
    subst (λ b. AreFewer (choices c.args.domain.now) (choices (domain_before b c.args._kept.now c.args.domain.now))) c.in-Lost.is c.requires.fewer
