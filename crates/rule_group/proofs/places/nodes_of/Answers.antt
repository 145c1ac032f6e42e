use Rattle.rule_group.proofs.Prelude.{inl, inr}
use Rattle.rule_group.proofs.places.nodes_of.Goals as goal

pub loop-n-preserved : goal.loop-n-preserved
loop-n-preserved c = λ m h. elim (c.add_if_had.ensures m h) [ inl old ↦ c.loop-n.invariant m old | inr new ↦ new ]

pub returns : goal.returns
returns c = record { each = c.loop-n.invariant }
