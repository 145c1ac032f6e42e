use Rattle.base.proofs.Public.{◌≡◌, ◌∙◌, ap, ◌++◌, ◌∷◌, [], false, arith, common_steps}
use Rattle.instance_json.specs.Prelude.{all_of, is_member, listed_machines}
use Rattle.instance_json.proofs.ListLemmas.{AreMarked-push}
use Rattle.instance_json.proofs.listing.Listing.push.Goals as goal

pub invariant_of-self-2 : goal.invariant_of-self-2
invariant_of-self-2 c =
    let items : c.push.new.self.items ≡ c.self.inside.current.items ++ c.args.v ∷ [] = grind (arith, common_steps) in
    let new : is_member (all_of c.self.inside.before.items ++ c.self.inside.current.items) c.args.v.0 ≡ false = ap (λ l. is_member (listed_machines l) c.args.v.0) c.self.view_is ∙ c.requires.new in
    rw items (AreMarked-push c.self.inside.marks c.insert.new.self (all_of c.self.inside.before.items) c.self.inside.current.items c.args.v c.self.invariant new c.insert.ensures)
