use Rattle.std.proofs.Common.{inl, inr}
use Rattle.explain.specs.Prelude.{IsCore, IsLeftOpen}
use Rattle.command_explain.specs.Prelude.{outside}
use Rattle.command_explain.proofs.ExplainAnswers.{ends_core, ends_feasible, ends_open, same_core, same_open}
use Rattle.command_explain.proofs.explaining.end_explained.Goals as goal

pub returns-in-Feasible-clause-ends : goal.returns-in-Feasible-clause-ends
returns-in-Feasible-clause-ends g c = λ told printed.
    let before = outside (g.D.Desk.files c.args.desk.now) printed in
    ends_feasible c.args.core.now c.args.certificate.now c.args.budget c.args.p.now.given before before c.say_feasible.result (c.say_feasible.ensures.ends (g.D.Desk.files c.args.desk.now) printed)

-- ---- a core

pub returns-in-Core-clause-ends : goal.returns-in-Core-clause-ends
returns-in-Core-clause-ends g c = λ told printed.
    let core : IsCore c.args.p.now.given c.args.budget c.deref.result.now c.deref-in-Core.result.now c.deref-in-Core-2.result.now =
    same_core c.args.p.now.given c.args.budget c.deref.result.now c.deref-in-Core.result.now c.deref-in-Core-2.result.now c.in-Core.kept.items c.in-Core.text.items c.in-Core.costs.items c.deref.ensures.value c.deref-in-Core.ensures.value c.deref-in-Core-2.ensures.value
    (rw c.in-Core.is at c.in_ok-explained.ensures.explained) in
    ends_core c.args.core.now c.args.certificate.now c.args.budget c.args.p.now.given (outside (g.D.Desk.files c.args.desk.now) printed) (outside (g.D.Desk.files c.end_core.new.desk) printed) c.end_core.result (c.end_core.ensures.ends told c.args.budget core printed)

pub returns-in-Core-clause-left : goal.returns-in-Core-clause-left
returns-in-Core-clause-left g c = λ told.
    let core : IsCore c.args.p.now.given c.args.budget c.deref.result.now c.deref-in-Core.result.now c.deref-in-Core-2.result.now =
    same_core c.args.p.now.given c.args.budget c.deref.result.now c.deref-in-Core.result.now c.deref-in-Core-2.result.now c.in-Core.kept.items c.in-Core.text.items c.in-Core.costs.items c.deref.ensures.value c.deref-in-Core.ensures.value c.deref-in-Core-2.ensures.value
    (rw c.in-Core.is at c.in_ok-explained.ensures.explained) in
    inr (record { kept = c.deref.result.now; text = c.deref-in-Core.result.now; explains = inl (c.deref-in-Core-2.result.now, core); cut = c.end_core.ensures.left told })

-- ---- a search stayed undecided

pub returns-in-Undecided-clause-ends : goal.returns-in-Undecided-clause-ends
returns-in-Undecided-clause-ends g c = λ told printed.
    let left : IsLeftOpen c.args.p.now.given c.args.budget c.deref-in-Undecided.result.now c.deref-in-Undecided-2.result.now =
    same_open c.args.p.now.given c.args.budget c.deref-in-Undecided.result.now c.deref-in-Undecided-2.result.now c.in-Undecided.kept.items c.in-Undecided.text.items c.deref-in-Undecided.ensures.value c.deref-in-Undecided-2.ensures.value
    (rw c.in-Undecided.is at c.in_ok-explained.ensures.explained) in
    ends_open c.args.core.now c.args.certificate.now c.args.budget c.args.p.now.given (outside (g.D.Desk.files c.args.desk.now) printed) (outside (g.D.Desk.files c.end_open.new.desk) printed) c.end_open.result (c.end_open.ensures.ends told c.args.budget left printed)

pub returns-in-Undecided-clause-left : goal.returns-in-Undecided-clause-left
returns-in-Undecided-clause-left g c = λ told.
    let left : IsLeftOpen c.args.p.now.given c.args.budget c.deref-in-Undecided.result.now c.deref-in-Undecided-2.result.now =
    same_open c.args.p.now.given c.args.budget c.deref-in-Undecided.result.now c.deref-in-Undecided-2.result.now c.in-Undecided.kept.items c.in-Undecided.text.items c.deref-in-Undecided.ensures.value c.deref-in-Undecided-2.ensures.value
    (rw c.in-Undecided.is at c.in_ok-explained.ensures.explained) in
    inr (record { kept = c.deref-in-Undecided.result.now; text = c.deref-in-Undecided-2.result.now; explains = inr left; cut = c.end_open.ensures.left told })
