use Rattle.rule_group.proofs.Prelude.{inl, inr}
use Rattle.rule_group.proofs.together.groups_of.Goals as goal

pub loop-i-preserved : goal.loop-i-preserved
loop-i-preserved c = λ j h. elim (c.add_row.ensures j h) [ inl old ↦ c.loop-i.invariant j old | inr new ↦ new ]

pub returns-then-eq : goal.returns-then-eq
returns-then-eq c = λ j h. elim (c.add_row.ensures j h) [ inl old ↦ (rw c.domain-domain.ensures.domain at c.loop-i.invariant) j old | inr new ↦ rw c.domain-domain.ensures.domain at new ]

pub returns-after-loop-i : goal.returns-after-loop-i
returns-after-loop-i c = rw c.domain-domain.ensures.domain at c.loop-i.invariant
