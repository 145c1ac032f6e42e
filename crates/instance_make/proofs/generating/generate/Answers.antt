use Rattle.std.proofs.Common.{◌≡◌, ◌∙◌, [], ◌∷◌, map, refl, arith}
use Rattle.catalogue.specs.declared.constraint.Constraint.TheVariants.{Online, Offline}
use Rattle.instance_make.specs.Generated.{from, set_of, others, spread_of}
use Rattle.instance_make.proofs.Ruling.{bare, bare_room, fewer, goals_room, spreads_room, whole}
use Rattle.instance_make.proofs.Valid.{is_feasible}
use Rattle.instance_make.proofs.generating.generate.Goals as goal

pub add_goals-requires-clause-room : goal.add_goals-requires-clause-room
unfolding bare
add_goals-requires-clause-room c =
    let start : c.new-problem.result.given ≡ bare c.args.seed = c.new-problem.ensures ∙ rw c.in_ok-cluster.ensures refl in
    rw start (bare_room c.args.seed)

pub add_spreads-requires : goal.add_spreads-requires
unfolding bare
add_spreads-requires c =
    let start : c.new-problem.result.given ≡ bare c.args.seed = c.new-problem.ensures ∙ rw c.in_ok-cluster.ensures refl in
    rw (c.in_ok-add_goals.ensures, start) (fewer _ 10 12 (omega arith) (goals_room c.args.seed _ refl))

pub add_limits-requires : goal.add_limits-requires
unfolding bare
add_limits-requires c =
    let start : c.new-problem.result.given ≡ bare c.args.seed = c.new-problem.ensures ∙ rw c.in_ok-cluster.ensures refl in
    rw (c.in_ok-add_spreads.ensures, c.in_ok-add_goals.ensures, start) (spreads_room _ (map spread_of (from 0 10)) (goals_room c.args.seed (Offline (set_of (c.emptied.result ∷ [])) ∷ Online (set_of (others c.emptied.result)) ∷ []) refl) refl)

pub returns-clause-problem : goal.returns-clause-problem
unfolding bare
returns-clause-problem c =
    let start : c.new-problem.result.given ≡ bare c.args.seed = c.new-problem.ensures ∙ rw c.in_ok-cluster.ensures refl in
    rw (c.in_ok-add_limits.ensures, c.in_ok-add_spreads.ensures, c.in_ok-add_goals.ensures, start, c.emptied.ensures.node) (whole c.args.seed)

pub returns-clause-feasible : goal.returns-clause-feasible
returns-clause-feasible c = rw (returns-clause-problem c) (is_feasible c.args.seed)
