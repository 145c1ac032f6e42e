use Rattle.std.proofs.lemmas.Option.{slice_get_read}
use Rattle.rule_pair.proofs.Prelude.{◌≡◌, arith, length, refl, rules, separation_seen, sets, true}
use Rattle.rule_pair.specs.Prelude.{inventory_of, is_rule}
use Rattle.rule_pair.proofs.ApartLemmas.{apart_listed}
use Rattle.rule_pair.proofs.TwinLemmas.{twin_harmless}
use Rattle.rule_pair.proofs.twins.is_spared.Goals as goal

pub has_twin-requires-clause-machines : goal.has_twin-requires-clause-machines
has_twin-requires-clause-machines c =
    let rule : is_rule (inventory_of c.args.p.now.given) c.index-constraints-c.result ≡ true = search rules in
    apart_listed c.args.p.now.given c.index-constraints-c.result (separation_seen c.in-Some.separation) c.in-Some.ensures.some rule

pub returns-in-Some : goal.returns-in-Some
returns-in-Some c = λ yes.
    let twin = c.has_twin.ensures yes in
    twin_harmless c.args.p.now.given (sets c.args.g.now) c.args.c c.index-constraints-c.result (separation_seen c.in-Some.separation) c.args.v twin.0 (omega (arith, c.args.p.now.sound.horizon))
    (slice_get_read c.args.p.now.given.constraints (length c.args.p.now.given.constraints) c.args.c _ refl c.requires.constraint (rw c.constraints.ensures.constraints at c.index-constraints-c.is)) c.in-Some.ensures.some twin.1 twin.2
