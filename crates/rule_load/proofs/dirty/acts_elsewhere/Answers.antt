use Rattle.rule_load.proofs.Prelude.{sym, ◌∙◌, sets, vm}
use Rattle.rule_load.proofs.StayLemmas.{none_at}
use Rattle.rule_load.proofs.dirty.acts_elsewhere.Goals as goal

pub returns-in-Some : goal.returns-in-Some
returns-in-Some c =
    let host = rw c.in-Some.is at c.host_of.ensures in
    λ none n hosted d there. none_at (sets c.args.g.now (vm c.args.v.0)) c.in-Some.h n d (c.leaves_none.ensures.0 none) (sym (host n) ∙ hosted) there
