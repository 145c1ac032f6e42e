use Rattle.rule_load.proofs.Prelude.{◌≤◌, sym, ◌∙◌, arith, nat_tests, leave_of}
use Rattle.rule_load.proofs.StayLemmas.{least_was, least_was_so}
use Rattle.rule_load.proofs.dirty.kept_as_long.Goals as goal

pub returns-in-None : goal.returns-in-None
returns-in-None c =
    λ yes. rw c.in-Lost.is
    (least_was (leave_of c.args.p.now.given c.args.v.0) c.in-Lost.lost c.args.domain.now c.args.leave (rw c.in-Lost.is at c.requires.fewer) c.requires.some c.requires.leave (sym c.lowest_lost.ensures ∙ c.in-None.is))

pub returns-in-Some : goal.returns-in-Some
returns-in-Some c =
    λ less.
    let longer : c.args.leave ≤ c.in-Some.first = grind (arith, nat_tests, less) in
    rw c.in-Lost.is
    (least_was_so (leave_of c.args.p.now.given c.args.v.0) c.in-Lost.lost c.args.domain.now c.args.leave c.in-Some.first (rw c.in-Lost.is at c.requires.fewer) c.requires.some c.requires.leave (sym c.lowest_lost.ensures ∙ c.in-Some.is) longer)
