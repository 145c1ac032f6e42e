use Rattle.base.proofs.Public.{◌≡◌, ◌∙◌, ap, arith, length, slice_index_or}
use Rattle.partition.specs.SplitProblems.{SplitView}
use Rattle.partition.proofs.SplitProblemLemmas.{part_count, part_is}
use Rattle.partition.proofs.split_problem.SplitProblem.part_plan.Goals as goal

pub index-requires : goal.index-requires
index-requires c =
    let count : length c.self.inside.parts.items ≡ length c.args.groups.now = ap (λ (s : SplitView). length s.parts) c.self.view_is ∙ part_count _ _ _ c.requires.split in
    omega (arith, count, c.requires.within)

pub part_plan-requires-clause-part : goal.part_plan-requires-clause-part
part_plan-requires-clause-part c =
    let at : c.index.result.now ≡ slice_index_or c.args.self.now.parts c.args.i c.index.result.now =
    c.index.ensures ∙ ap (λ (s : SplitView). slice_index_or s.parts c.args.i c.index.result.now) c.self.view_is in
    part_is _ _ _ c.requires.split c.args.i c.requires.within c.index.result.now at
