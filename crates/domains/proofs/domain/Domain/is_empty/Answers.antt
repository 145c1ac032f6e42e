use Rattle.domains.specs.Choices.{DomainView}
use Rattle.domains.proofs.SizeLemmas.{empty_is}
use Rattle.domains.proofs.domain.Domain.is_empty.Goals as goal

pub returns-then-not-self : goal.returns-then-not-self
returns-then-not-self c =
    let d : DomainView = record { idle = c.self.inside.idle; rows = c.self.inside.rows.rows; slots = c.self.inside.rows.slots } in
    rw (← c.self.view_is) (empty_is d c.len.result c.self.invariant.climb c.if-not-self.true c.len.ensures)
