use Rattle.std.proofs.Common.{◌∙◌, ap, string_bytes}
use Rattle.command_explain.specs.Prelude.{Ends, feasible_line}
use Rattle.command_explain.proofs.ExplainAnswers.{feasible}
use Rattle.command_explain.proofs.explaining.say_feasible.Goals as goal

pub returns-clause-ends : goal.returns-clause-ends
unfolding Ends
returns-clause-ends c = λ files printed.
    feasible c.args.p.now.given c.args.plan.now files printed (string_bytes c.in_ok-line.line) c.requires (c.in_ok-line.ensures ∙ ap feasible_line c.cost.ensures.cost)
