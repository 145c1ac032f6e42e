use Rattle.load_bounds.proofs.Prelude.{sym, ap, ◌∙◌, choices, sets}
use Rattle.load_bounds.proofs.HoldOnLemmas.{gone_holds, init_holds, ready_holds, running_holds, sleeping_holds}
use Rattle.load_bounds.proofs.hold_on.holds_on.Goals as goal

pub returns-then-is_node : goal.returns-then-is_node
returns-then-is_node c = λ on.
    running_holds c.args.p.now.given (sets c.args.g.now) c.args.v.0 c.in-Running.h c.domain.result.now c.rows.result.now (ap choices (sym c.domain.ensures.domain)) c.rows.ensures.items
    (sym c.state_of.ensures ∙ c.in-Running.is) (c.is_node.ensures c.if-is_node.true) (c.all_go_on.ensures on)

pub returns-in-Init : goal.returns-in-Init
returns-in-Init c = λ on. init_holds c.args.p.now.given (sets c.args.g.now) c.args.v.0 (sym c.state_of.ensures ∙ c.in-Init.is)

pub returns-in-Ready : goal.returns-in-Ready
returns-in-Ready c = λ on. ready_holds c.args.p.now.given (sets c.args.g.now) c.args.v.0 (sym c.state_of.ensures ∙ c.in-Ready.is)

pub returns-in-Sleeping : goal.returns-in-Sleeping
returns-in-Sleeping c = λ on. sleeping_holds c.args.p.now.given (sets c.args.g.now) c.args.v.0 _ (sym c.state_of.ensures ∙ c.in-Sleeping.is)

pub returns-in-Gone : goal.returns-in-Gone
returns-in-Gone c = λ on. gone_holds c.args.p.now.given (sets c.args.g.now) c.args.v.0 (sym c.state_of.ensures ∙ c.in-Gone.is)
