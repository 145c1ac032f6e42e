use Rattle.domains.specs.Sets.{sets}
use Rattle.rule_place.proofs.ShutdownLemmas.{all_gone}
use Rattle.rule_place.proofs.optional.is_optional.Goals as goal

pub returns-in-Some : goal.returns-in-Some
returns-in-Some c = λ yes. all_gone c.args.p.now.given (sets c.args.g.now) c.args.n.0 c.in-Some.x c.in-Some.ensures.shutdown (c.all_may_be_gone.ensures yes)
