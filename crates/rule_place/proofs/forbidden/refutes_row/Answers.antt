use Rattle.rule_place.proofs.Prelude.{refl}
use Rattle.rule_place.proofs.forbidden.refutes_row.Goals as goal

pub refutes_place-requires : goal.refutes_place-requires
refutes_place-requires c = rw c.in-Place.is at (c.if-not-is_named.ensures.yes refl)

pub returns : goal.returns
returns c = λ yes. rw c.in-Place.is (c.refutes_place.ensures yes)
