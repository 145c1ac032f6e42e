use Rattle.rule_constraint.proofs.Prelude.{◌≡◌, ◌⊎◌, ◌∙◌, refl, sym, ap, Apart, Between, Each, form_of, form_seen, IsInPart, IsMember, Ordered, Powered, scope_of}
use Rattle.rule_constraint.proofs.AddLemmas.{LooksAtMachines, actions_look, added_machines, added_nodes, presences_look}
use Rattle.rule_constraint.proofs.IndexLemmas.{put_then}
use Rattle.rule_constraint.proofs.index.Lists.add.Goals as goal
use Rattle.rule_constraint.proofs.index.Lists.add.Goals.{in-Allowed, in-Allowed-2, in-Allowed-3}

pub returns-in_ok-put_parts-in-Apart-Between : goal.returns-in_ok-put_parts-in-Apart-Between
returns-in_ok-put_parts-in-Apart-Between c =
    let k = c.in-Apart-Between in
    let is : form_of c.args.constraint.now ≡ Apart (Between k.parts.now) = sym c.form_of.ensures.form ∙ rw (k.is, k.field-0-is) refl in
    rw (← c.self.view_is)
    (added_machines _ _ c.args.c _ c.put_parts.new.lists (rw is (presences_look (λ v. (i : _) × IsInPart k.parts.now i v))) (rw c.items-in-Apart-Between.ensures at c.in_ok-put_parts-in-Apart-Between.ensures))

pub returns-in_ok-put-in-Ordered-2 : goal.returns-in_ok-put-in-Ordered-2
returns-in_ok-put-in-Ordered-2 c =
    let k = c.in-Ordered in
    let is : form_of c.args.constraint.now ≡ Ordered k.before k.after = sym c.form_of.ensures.form ∙ ap form_seen k.is in
    rw (← c.self.view_is)
    (added_machines _ _ c.args.c _ c.put-in-Ordered.new.lists (rw is (actions_look (λ v. (v ≡ k.before.0) ⊎ (v ≡ k.after.0))))
    (put_then _ _ _ _ _ _ _ (λ v h. h) c.in_ok-put-in-Ordered.ensures c.in_ok-put-in-Ordered-2.ensures))

pub returns-in_ok-put_nodes-in-Powered : goal.returns-in_ok-put_nodes-in-Powered
returns-in_ok-put_nodes-in-Powered c =
    let k = c.in-Powered in
    let is : form_of c.args.constraint.now ≡ Powered k.nodes.now k.field-1 = sym c.form_of.ensures.form ∙ ap form_seen k.is in
    rw (← c.self.view_is) (added_nodes _ k.nodes.now c.args.c _ c.put_nodes.new.lists (rw is refl) c.in_ok-put_nodes-in-Powered.ensures)

pub returns-in_ok-put_machines-in-Apart-Each : goal.returns-in_ok-put_machines-in-Apart-Each
returns-in_ok-put_machines-in-Apart-Each c =
    let k = c.in-Apart-Each in
    let is : form_of c.args.constraint.now ≡ Apart (Each k.machines.now) = sym c.form_of.ensures.form ∙ rw (k.is, k.field-0-is) refl in
    rw (← c.self.view_is)
    (added_machines _ _ c.args.c _ c.put_machines.new.lists (rw is (presences_look (IsMember k.machines.now))) (rw c.items.ensures at c.in_ok-put_machines-in-Apart-Each.ensures))

pub returns-in_ok-put_machines-in-Allowed : goal.returns-in_ok-put_machines-in-Allowed
returns-in_ok-put_machines-in-Allowed c =
    let looks : LooksAtMachines (scope_of c.args.constraint.now) (IsMember c.items-in-Allowed.result.now) =
    elim c.in-Allowed-1.branch [
      | in-Allowed w ↦ rw (c.items-in-Allowed.ensures, w.machines-is, ← w.in-Allowed.ensures.form) (presences_look _)
      | in-Allowed-2 w ↦ rw (c.items-in-Allowed.ensures, w.machines-is, ← w.in-Allowed.ensures.form) (presences_look _)
      | in-Allowed-3 w ↦ rw (c.items-in-Allowed.ensures, w.machines-is, ← w.in-Allowed.ensures.form) (actions_look _)
    ] in
    rw (← c.self.view_is) (added_machines _ _ c.args.c _ c.put_machines-in-Allowed.new.lists looks c.in_ok-put_machines-in-Allowed.ensures)
