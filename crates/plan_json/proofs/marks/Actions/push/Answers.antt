use Rattle.base.proofs.Public.{◌≡◌, ◌++◌, ◌∷◌, [], arith, common_steps}
use Rattle.plan_json.proofs.MarkLemmas.{AreMarked-push}
use Rattle.plan_json.proofs.marks.Actions.push.Goals as goal

pub invariant_of-self-2 : goal.invariant_of-self-2
invariant_of-self-2 c =
    let items : c.push.new.self.items ≡ c.self.inside.list.items ++ c.args.action ∷ [] = grind (arith, common_steps) in
    rw items (AreMarked-push c.self.inside.machines c.mark.new.machines c.self.inside.nodes c.mark.new.nodes c.self.inside.list.items c.args.action c.self.invariant c.mark.ensures.machines c.mark.ensures.nodes)
