use Rattle.domains.specs.Choices.{DomainView}
use Rattle.domains.proofs.PartLemmas.{outside_idle, without_idle}
use Rattle.domains.proofs.domain.Domain.cut.Goals as goal

pub returns-then-not-self-clause-set : goal.returns-then-not-self-clause-set
returns-then-not-self-clause-set c =
    let d : DomainView = record { idle = c.self.inside.idle; rows = c.self.inside.rows.rows; slots = c.self.inside.rows.slots } in
    rw (c.in-Idle.is, ← c.self.view_is) (without_idle d c.if-not-self.true)

pub returns-else-not-self-clause-set : goal.returns-else-not-self-clause-set
returns-else-not-self-clause-set c =
    rw (c.in-Idle.is, ← c.self.view_is) (outside_idle c.self.inside.idle c.self.inside.rows.rows)
