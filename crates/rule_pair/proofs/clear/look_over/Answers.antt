use Rattle.rule_pair.proofs.Prelude.{separation_seen, sets}
use Rattle.rule_pair.proofs.ApartLemmas.{apart_clean, apart_listed, on_clear}
use Rattle.rule_pair.proofs.clear.look_over.Goals as goal

pub all_alone-requires-clause-machines : goal.all_alone-requires-clause-machines
all_alone-requires-clause-machines c = apart_listed c.args.p.now.given c.args.constraint.now (separation_seen c.in-Some.separation) c.in-Some.ensures.some c.requires.rule

pub returns-in-Some : goal.returns-in-Some
returns-in-Some c = on_clear c.all_alone.result _ _ (apart_clean c.args.p.now.given (sets c.args.g.now) c.first_instant.result c.args.constraint.now (separation_seen c.in-Some.separation) c.first_instant.ensures c.in-Some.ensures.some) c.all_alone.ensures
