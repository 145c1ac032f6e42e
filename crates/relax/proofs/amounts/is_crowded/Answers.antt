use Rattle.relax.proofs.Prelude.{lt-ltb, ltb-true}
use Rattle.relax.proofs.amounts.is_crowded.Goals as goal

pub returns-in-Each : goal.returns-in-Each
returns-in-Each c =
    rw (c.in-Each.is, c.nodes_in.ensures, c.present_in.ensures, c.items.ensures) (λ t. ltb-true _ _ t, λ l. lt-ltb _ _ l)
