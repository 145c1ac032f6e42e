use Rattle.std.proofs.Common.{List, ◌++◌, ◌∙◌, ap}
use Rattle.std.specs.List.{flat_map}
use Rattle.show.specs.Prelude.{action_line, choices_of, last_line}
use Rattle.show.specs.declared.actions.Action.{Action}
use Rattle.show.proofs.Texts.{last_cut, lines_cut}
use Rattle.show.proofs.writing.show_plan.Goals as goal

pub returns-in_err-write_actions-clause-cut : goal.returns-in_err-write_actions-clause-cut
returns-in_err-write_actions-clause-cut g c = λ tells.
    lines_cut c.args.p.now.given (choices_of c.args.plan.now) c.judge-answer.result c.in_ok-actions.actions.items _ _
    (record { valid = c.judge-answer.ensures.valid; broken = c.judge-answer.ensures.broken }) c.in_ok-actions.ensures.listing
    (rw c.deref.ensures.value at (c.write_actions.ensures.cut tells))

pub returns-in_err-line-clause-cut : goal.returns-in_err-line-clause-cut
returns-in_err-line-clause-cut g c = λ tells.
    lines_cut c.args.p.now.given (choices_of c.args.plan.now) c.judge-answer.result c.in_ok-actions.actions.items _ _
    (record { valid = c.judge-answer.ensures.valid; broken = c.judge-answer.ensures.broken }) c.in_ok-actions.ensures.listing
    (rw c.deref.ensures.value at (c.write_actions.ensures.cut tells))

pub returns-in_err-write_text-clause-cut : goal.returns-in_err-write_text-clause-cut
returns-in_err-write_text-clause-cut g c = λ tells.
    let p = c.args.p.now.given in
    let plan = choices_of c.args.plan.now in
    last_cut p plan c.judge-answer.result c.in_ok-actions.actions.items _ _ _ _
    (record { valid = c.judge-answer.ensures.valid; broken = c.judge-answer.ensures.broken }) c.in_ok-actions.ensures.listing
    (c.in_ok-write_actions.ensures.written tells ∙ ap (λ (l : List Action). g.O.Sink.written c.args.out.now ++ flat_map (action_line p plan) l) c.deref.ensures.value)
    (c.as_bytes.ensures.value ∙ c.in_ok-line.ensures ∙ ap (λ (l : List Action). last_line p plan l c.judge-answer.result) c.deref-2.ensures.value)
    (c.write_text.ensures.cut tells)

pub returns-clause-cut : goal.returns-clause-cut
returns-clause-cut g c = λ tells.
    let p = c.args.p.now.given in
    let plan = choices_of c.args.plan.now in
    last_cut p plan c.judge-answer.result c.in_ok-actions.actions.items _ _ _ _
    (record { valid = c.judge-answer.ensures.valid; broken = c.judge-answer.ensures.broken }) c.in_ok-actions.ensures.listing
    (c.in_ok-write_actions.ensures.written tells ∙ ap (λ (l : List Action). g.O.Sink.written c.args.out.now ++ flat_map (action_line p plan) l) c.deref.ensures.value)
    (c.as_bytes.ensures.value ∙ c.in_ok-line.ensures ∙ ap (λ (l : List Action). last_line p plan l c.judge-answer.result) c.deref-2.ensures.value)
    (c.write_text.ensures.cut tells)
