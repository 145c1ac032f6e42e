use Rattle.base.proofs.Public.{◌∙◌, Bool, List, ap, false, get_or}
use Rattle.partition.proofs.TableLemmas.{free_found}
use Rattle.partition.proofs.kept.first_free.Goals as goal

pub returns : goal.returns
returns c =
    free_found c.args.p.now.given c.args.nodes.now c.args.machines.now _ _ c.first_unkept.ensures
    (λ w l. ap (λ (t : List Bool). get_or t w false) c.deref.ensures.value ∙ c.in_ok-kept.ensures.kept w l)
