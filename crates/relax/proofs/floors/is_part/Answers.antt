use Rattle.relax.proofs.Prelude.{in_part, out_of_part, filter_is_fewer}
use Rattle.relax.proofs.floors.is_part.Goals as goal

pub returns-in-In : goal.returns-in-In
returns-in-In c = λ _ cs x h. filter_is_fewer (in_part c.in-In.field-0) cs x (rw c.in-In.is at h)

pub returns-in-Out : goal.returns-in-Out
returns-in-Out c = λ _ cs x h. filter_is_fewer (out_of_part c.in-Out.field-0) cs x (rw c.in-Out.is at h)
