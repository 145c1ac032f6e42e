use Rattle.rule_frame.proofs.suggestion.take_one.Given as goal

abbrev pub decreases-loop-it : goal.decreases-loop-it
decreases-loop-it l = goal.left-loop-it l
