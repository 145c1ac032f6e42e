-- An element that is not listed has no name.
use Rattle.base.proofs.Public.{◌≡◌, ◌<◌, ◌≤◌, [], length, arith, ⊎_elim, cases_lt, get_or_past, length-map}
use Rattle.cluster.specs.Prelude.{Inventory, IsListed, name_of, names_of_machines, names_of_nodes}
use Rattle.cluster.specs.declared.ids.Element.{Element}
use Rattle.cluster.specs.declared.ids.Element.TheVariants.{Node, Vm}

pub name_of-past : (k : Inventory) (e : Element) → (IsListed k e → ⊥) → name_of k e ≡ []
name_of-past k (Vm v) past = ⊎_elim
    (λ (listed : v.0 < length k.machines). absurd (past listed))
    (λ (le : length k.machines ≤ v.0). get_or_past (names_of_machines k.machines) v.0 [] (omega (arith, length-map k.machines (λ m. m.name))))
    (cases_lt v.0 (length k.machines))
name_of-past k (Node n) past = ⊎_elim
    (λ (listed : n.0 < length k.nodes). absurd (past listed))
    (λ (le : length k.nodes ≤ n.0). get_or_past (names_of_nodes k.nodes) n.0 [] (omega (arith, length-map k.nodes (λ n. n.name))))
    (cases_lt n.0 (length k.nodes))

pub ruleset past_rules = (name_of-past)
