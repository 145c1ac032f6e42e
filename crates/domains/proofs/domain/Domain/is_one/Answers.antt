use Rattle.std.proofs.Common.{◌≡◌, ℕ, cond, not, length, ap, ◌∙◌, refl, arith}
use Rattle.domains.specs.Choices.{no_row, DomainView}
use Rattle.domains.proofs.SizeLemmas.{row_one, not_one}
use Rattle.domains.proofs.domain.Domain.is_one.Goals as goal

pub returns-then-not-self-clause-one : goal.returns-then-not-self-clause-one
returns-then-not-self-clause-one c =
    let d : DomainView = record { idle = c.self.inside.idle; rows = c.self.inside.rows.rows; slots = c.self.inside.rows.slots } in
    let size : length c.self.inside.rows.rows ≡ 1 = omega (arith, ap length c.as_slice.ensures) in
    rw (c.as_slice.ensures, ← c.self.view_is) (row_one d no_row c.self.invariant.climb size c.if-not-self.true)

pub returns-else-not-self-clause-one : goal.returns-else-not-self-clause-one
returns-else-not-self-clause-one c =
    let d : DomainView = record { idle = c.self.inside.idle; rows = c.self.inside.rows.rows; slots = c.self.inside.rows.slots } in
    let with_idle : ◌≡◌ {A = ℕ} (cond c.self.inside.idle 1 0) 1 = rw c.if-not-self.false refl in
    rw (← c.self.view_is) (ap not c.if-not-self.false ∙ not_one d c.self.invariant.climb (omega (arith, ap length c.as_slice.ensures)))

pub returns-in_default-clause-one : goal.returns-in_default-clause-one
returns-in_default-clause-one c =
    let d : DomainView = record { idle = c.self.inside.idle; rows = c.self.inside.rows.rows; slots = c.self.inside.rows.slots } in
    rw (← c.self.view_is) (not_one d c.self.invariant.climb (omega (arith, ap length c.as_slice.ensures)))
