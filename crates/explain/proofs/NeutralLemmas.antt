-- A constraint that is no part of the demand, of the capacity or of the legal choices changes nothing of them.
use Rattle.base.proofs.Public.{◌≡◌, ◌≢◌, ℕ, Option, refl}
use Rattle.catalogue.specs.Prelude.{limit_with, machine_wish_with, node_wish_with, preserved_with}
use Rattle.catalogue.specs.declared.targets.Wish.{Wish}
use Rattle.explain.specs.Prelude.{form_of, Settled}
use Rattle.catalogue.specs.declared.constraint.Constraint.{Constraint}
use Rattle.catalogue.specs.declared.constraint.Constraint.TheVariants.{Spread, Ban, Fence, Gather, Lonely, Among, Split, Root, Precedence, Serialize, Preserve, ResourceCapacity, RunningCapacity, MaxOnline, Overbook, Online, Offline, Running, Sleeping, Ready, Killed}

pub record IsNeutral (c : Constraint) : Type 0 where
  pub preserved : (v r u : ℕ) → preserved_with v r u c ≡ u
  pub limit : (n r w : ℕ) (l : Option ℕ) → limit_with n r w l c ≡ l
  pub machine_wish : (v : ℕ) (w : Wish) → machine_wish_with v w c ≡ w
  pub node_wish : (n : ℕ) (w : Wish) → node_wish_with n w c ≡ w

pub neutral : (c : Constraint) → form_of c ≢ Settled → IsNeutral c
neutral (Spread vs b) h = record { preserved = λ v r u. refl; limit = λ n r w l. refl; machine_wish = λ v w. refl; node_wish = λ n w. refl }
neutral (Split parts b) h = record { preserved = λ v r u. refl; limit = λ n r w l. refl; machine_wish = λ v w. refl; node_wish = λ n w. refl }
neutral (Lonely vs b) h = record { preserved = λ v r u. refl; limit = λ n r w l. refl; machine_wish = λ v w. refl; node_wish = λ n w. refl }
neutral (Ban vs ns b) h = record { preserved = λ v r u. refl; limit = λ n r w l. refl; machine_wish = λ v w. refl; node_wish = λ n w. refl }
neutral (Fence vs ns b) h = record { preserved = λ v r u. refl; limit = λ n r w l. refl; machine_wish = λ v w. refl; node_wish = λ n w. refl }
neutral (Root vs) h = record { preserved = λ v r u. refl; limit = λ n r w l. refl; machine_wish = λ v w. refl; node_wish = λ n w. refl }
neutral (Gather vs b) h = record { preserved = λ v r u. refl; limit = λ n r w l. refl; machine_wish = λ v w. refl; node_wish = λ n w. refl }
neutral (Among vs groups b) h = record { preserved = λ v r u. refl; limit = λ n r w l. refl; machine_wish = λ v w. refl; node_wish = λ n w. refl }
neutral (Precedence before after) h = record { preserved = λ v r u. refl; limit = λ n r w l. refl; machine_wish = λ v w. refl; node_wish = λ n w. refl }
neutral (Serialize vs) h = record { preserved = λ v r u. refl; limit = λ n r w l. refl; machine_wish = λ v w. refl; node_wish = λ n w. refl }
neutral (ResourceCapacity ns q amount b) h = record { preserved = λ v r u. refl; limit = λ n r w l. refl; machine_wish = λ v w. refl; node_wish = λ n w. refl }
neutral (RunningCapacity ns amount b) h = record { preserved = λ v r u. refl; limit = λ n r w l. refl; machine_wish = λ v w. refl; node_wish = λ n w. refl }
neutral (MaxOnline ns amount b) h = record { preserved = λ v r u. refl; limit = λ n r w l. refl; machine_wish = λ v w. refl; node_wish = λ n w. refl }
neutral (Preserve vs q amount) h = absurd (h refl)
neutral (Overbook ns q num den) h = absurd (h refl)
neutral (Online ns) h = absurd (h refl)
neutral (Offline ns) h = absurd (h refl)
neutral (Running vs) h = absurd (h refl)
neutral (Sleeping vs) h = absurd (h refl)
neutral (Ready vs) h = absurd (h refl)
neutral (Killed vs) h = absurd (h refl)
