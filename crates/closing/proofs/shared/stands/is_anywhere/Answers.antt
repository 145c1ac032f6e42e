use Rattle.closing.proofs.{Prelude.sym, Prelude.◌∙◌, Prelude.node_count, StandLemmas.first_there, StandLemmas.second_there}
use Rattle.closing.proofs.shared.stands.is_anywhere.Goals as goal

pub returns-then-is_some-clause-yes : goal.returns-then-is_some-clause-yes
returns-then-is_some-clause-yes c = λ h. first_there (node_count c.args.p.now.given) c.args.stands c.in-On.a c.in-On.b c.in-On.is c.requires.within (sym c.is_some.ensures ∙ h)

pub returns-else-is_some-clause-yes : goal.returns-else-is_some-clause-yes
returns-else-is_some-clause-yes c = λ h. second_there (node_count c.args.p.now.given) c.args.stands c.in-On.a c.in-On.b c.in-On.is c.requires.within (sym c.is_some-else-is_some.ensures ∙ h)
