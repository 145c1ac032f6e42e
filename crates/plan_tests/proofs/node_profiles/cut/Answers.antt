use Rattle.domains.specs.declared.undo.Before.TheVariants.{Lost}
use Rattle.domains.specs.Parts.{out_of_part}
use Rattle.profiles.proofs.Public.{fewer_law}
use Rattle.plan_tests.proofs.node_profiles.cut.Goals as goal

pub told-requires-clause-fewer : goal.told-requires-clause-fewer
told-requires-clause-fewer c =
    fewer_law c.args.g.now c.cut-lost.new.self c.args.x (out_of_part c.args.part) (Lost c.cut-lost.result) c.args.kept.now c.cut-lost.ensures.lost c.cut-lost.ensures.sets
