use Rattle.part_solver.proofs.SolvedLemmas.{AreBefore}
use Rattle.part_solver.proofs.solving.solve_all.Given as goal

abbrev pub invariant-loop-i : goal.invariant-loop-i
invariant-loop-i g l = AreBefore l.split l.budget l.solved.items l.i
