-- The form of a constraint without a fault is sound.
use Rattle.base.proofs.Public.{◌≡◌, Bool, true, false, ◌&&◌, length, refl, and_parts, false≢true, ltb-true}
use Rattle.slices.specs.Prelude.{are_named_machines, are_named_nodes, differ, form_of, Instance, inventory_of, is_fitting, is_named_resource, is_rule, IsSound, machines_in, SoundForm}
use Rattle.catalogue.specs.declared.constraint.Constraint.{Constraint}
use Rattle.catalogue.specs.declared.constraint.Constraint.TheVariants.{Spread, Ban, Fence, Gather, Lonely, Among, Split, Root, Precedence, Serialize, Preserve, ResourceCapacity, RunningCapacity, MaxOnline, Overbook, Online, Offline, Running, Sleeping, Ready, Killed}

-- the parts of a constraint without a fault
record IsRule (p : Instance) (c : Constraint) : Type 0 where
  machines : are_named_machines (inventory_of p) c ≡ true
  resource : is_named_resource (inventory_of p) c ≡ true
  twice : differ (machines_in c) ≡ true
  fitting : is_fitting c ≡ true

parts-of : (a b c d e : Bool) → (a && b && c && d && e) ≡ true → (a ≡ true) × (c ≡ true) × (d ≡ true) × (e ≡ true)
parts-of true true true true true h = (refl, refl, refl, refl)
parts-of true true true true false h = absurd (false≢true h)
parts-of true true true false e h = absurd (false≢true h)
parts-of true true false d e h = absurd (false≢true h)
parts-of true false c d e h = absurd (false≢true h)
parts-of false b c d e h = absurd (false≢true h)

is-rule : (p : Instance) (c : Constraint) → is_rule (inventory_of p) c ≡ true → IsRule p c
is-rule p c h =
    let k = inventory_of p in
    let parts = parts-of (are_named_machines k c) (are_named_nodes k c) (is_named_resource k c) (differ (machines_in c)) (is_fitting c) h in
    record { machines = parts.0; resource = parts.1; twice = parts.2; fitting = parts.3 }

sound-by : (p : Instance) (c : Constraint) → IsRule p c → IsSound p (form_of c)
sound-by p (Spread vs b) r = record { listed = r.machines; differ = r.twice; fit = tt }
sound-by p (Split parts b) r = record { listed = r.machines; differ = r.twice; fit = tt }
sound-by p (Lonely vs b) r = record { listed = r.machines; differ = r.twice; fit = tt }
sound-by p (Ban vs ns b) r = record { listed = r.machines; differ = r.twice; fit = tt }
sound-by p (Fence vs ns b) r = record { listed = r.machines; differ = r.twice; fit = tt }
sound-by p (Root vs) r = record { listed = r.machines; differ = r.twice; fit = tt }
sound-by p (Gather vs b) r = record { listed = r.machines; differ = r.twice; fit = tt }
sound-by p (Among vs groups b) r = record { listed = r.machines; differ = r.twice; fit = (and_parts _ _ r.fitting).0 }
sound-by p (Precedence before after) r = record { listed = r.machines; differ = r.twice; fit = tt }
sound-by p (Serialize vs) r = record { listed = r.machines; differ = r.twice; fit = tt }
sound-by p (ResourceCapacity ns q amount b) r = record { listed = refl; differ = refl; fit = ltb-true q (length p.resources) r.resource }
sound-by p (RunningCapacity ns amount b) r = record { listed = refl; differ = refl; fit = tt }
sound-by p (MaxOnline ns amount b) r = record { listed = refl; differ = refl; fit = tt }
sound-by p (Preserve vs q amount) r = record { listed = refl; differ = refl; fit = tt }
sound-by p (Overbook ns q num den) r = record { listed = refl; differ = refl; fit = tt }
sound-by p (Online ns) r = record { listed = refl; differ = refl; fit = tt }
sound-by p (Offline ns) r = record { listed = refl; differ = refl; fit = tt }
sound-by p (Running vs) r = record { listed = refl; differ = refl; fit = tt }
sound-by p (Sleeping vs) r = record { listed = refl; differ = refl; fit = tt }
sound-by p (Ready vs) r = record { listed = refl; differ = refl; fit = tt }
sound-by p (Killed vs) r = record { listed = refl; differ = refl; fit = tt }

pub sound_form : SoundForm
sound_form p c h = sound-by p c (is-rule p c h)
