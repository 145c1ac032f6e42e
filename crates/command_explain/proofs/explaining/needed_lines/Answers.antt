use Rattle.std.proofs.lemmas.Slice.Zip.{either_empty_from_Zip, Zip-more}
use Rattle.command_explain.proofs.ExplainAnswers.{all_said, one_more}
use Rattle.command_explain.proofs.explaining.needed_lines.Goals as goal

pub loop-number-preserved : goal.loop-number-preserved
loop-number-preserved c =
    let moved = Zip-more c.loop-number.number-iterator c.next.new.self c.next.result _ c.in-Some.is c.next.ensures.steps in
    one_more _ _ _ _ _ _ _ _ _ c.loop-number.invariant moved.0 moved.1 c.in_ok-push_needed.ensures

pub returns : goal.returns
returns c = all_said _ _ _ _ c.loop-number.invariant (either_empty_from_Zip c.loop-number.number-iterator c.next.new.self c.next.result c.in-None.is c.next.ensures.steps)
