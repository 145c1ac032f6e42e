use Rattle.std.proofs.lemmas.Option.{slice_get_read}
use Rattle.rule_place.proofs.Prelude.{length, refl, sets}
use Rattle.rule_place.proofs.SparedLemmas.{place_spared}
use Rattle.rule_place.proofs.allowed.is_spared.Goals as goal

pub returns-in-Some : goal.returns-in-Some
returns-in-Some c =
    λ yes. place_spared c.args.p.now.given c.args.p.now.sound c.args.c c.index-constraints-c.result _ _ c.args.v (sets c.args.g.now) c.requires.machine
    (slice_get_read c.args.p.now.given.constraints (length c.args.p.now.given.constraints) c.args.c _ refl c.requires.constraint (rw c.constraints.ensures.constraints at c.index-constraints-c.is))
    c.in-Some.ensures.some (c.has_choice.ensures yes)
