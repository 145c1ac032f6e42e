use Rattle.std.proofs.Common.{◌≡◌, sym, true, None}
use Rattle.plan_json.specs.Prelude.{action_for, is_legal_action, IsElement}
use Rattle.plan_json.proofs.Finding.{none_of}
use Rattle.plan_json.proofs.MarkLemmas.{AreActions-more}
use Rattle.plan_json.proofs.actions.push_action.Goals as goal

pub returns-clause-legal : goal.returns-clause-legal
returns-clause-legal c =
    let action = c.in_ok-action.action in
    let there : IsElement c.args.p.now.given action.element = rw c.cluster.ensures.cluster at c.in_ok-action.ensures.listed in
    let legal : is_legal_action c.args.p.now.given action ≡ true = sym c.if-not-is_legal_action.ensures in
    let new : action_for c.args.actions.now action.element ≡ None = none_of (action_for c.args.actions.now action.element) (sym c.if-has.ensures) in
    rw c.in_ok-push.ensures (AreActions-more c.args.p.now.given c.args.actions.now action c.requires there legal new)
