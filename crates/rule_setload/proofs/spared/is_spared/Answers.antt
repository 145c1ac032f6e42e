use Rattle.std.proofs.lemmas.Option.{slice_get_read}
use Rattle.rule_setload.proofs.Prelude.{length, refl, sym, ◌∙◌, sets}
use Rattle.rule_setload.proofs.SparedLemmas.{away_harmless}
use Rattle.rule_setload.proofs.spared.is_spared.Goals as goal

pub returns-in-Some : goal.returns-in-Some
returns-in-Some c =
    λ yes. away_harmless c.args.p.now.given (sets c.args.g.now) c.args.c c.index-constraints-c.result c.in-Some.bound c.args.v c.args.p.now.sound
    (slice_get_read c.args.p.now.given.constraints (length c.args.p.now.given.constraints) c.args.c _ refl c.requires.constraint (rw c.constraints.ensures.constraints at c.index-constraints-c.is))
    (sym c.bound_of.ensures.bound ∙ c.in-Some.is) (c.is_away.ensures yes).stays (c.is_away.ensures yes).extra
