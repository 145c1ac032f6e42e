use Rattle.base.proofs.Public.{◌≡◌, ◌++◌, ◌∷◌, [], arith, common_steps}
use Rattle.instance_json.proofs.ListLemmas.{AreMarked-close}
use Rattle.instance_json.proofs.listing.Listing.close.Goals as goal

pub invariant_of-self-2 : goal.invariant_of-self-2
invariant_of-self-2 c =
    let items : c.push.new.self.items ≡ c.self.inside.before.items ++ c.self.inside.current.items ∷ [] = grind (arith, common_steps) in
    let empty : c.replace-list.new.dest.items ≡ [] = grind (arith, common_steps) in
    rw (items, empty) (AreMarked-close c.self.inside.marks c.self.inside.before.items c.self.inside.current.items c.self.invariant)
