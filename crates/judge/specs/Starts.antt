-- The next start after an instant.
use Rattle.std.specs.Prelude.{◌≡◌, ◌⊎◌, ℕ, ◌<◌, ◌≤◌, List, Some, IsTrue}
use Rattle.std.specs.Option.{ForSome}
use Rattle.placement_rules.specs.Prelude.{Choices, Form, form_matters, Instance, IsElement, IsInPart, start_of}
use Rattle.cluster.specs.declared.{choices.Choice.Choice, ids.Element.Element, ids.Element.TheVariants.Vm, ids.Element.TheVariants.Node as TheNode, ids.VmId.VmId}

-- ---- sets of elements

-- the machines whose numbers are among these, and the nodes
abbrev pub AreMachines : (ℕ → Type 0) → Element → Type 0
AreMachines among (Vm v) = among v.0
AreMachines among (TheNode n) = ⊥

abbrev pub AreNodes : (ℕ → Type 0) → Element → Type 0
AreNodes among (Vm v) = ⊥
AreNodes among (TheNode n) = among n.0

-- the machine is in one of the first k parts
abbrev pub IsInSome : List (List VmId) → ℕ → ℕ → Type 0
IsInSome parts k v = (i : ℕ) × (i < k) × IsInPart parts i v

-- the elements of the instance whose starts can break the form
abbrev pub Matters : Instance → Form → Element → Type 0
Matters p f e = IsElement p e × IsTrue (form_matters f e)

-- ---- starts

-- the action of the choice does not start after t and before b
abbrev pub Waits : Choice → ℕ → ℕ → Type 0
Waits c t b = ForSome (start_of c) (λ s. (s ≤ t) ⊎ (b ≤ s))

-- the least start after t of those elements, where it is before old, or else old
pub record IsNext (plan : Choices) (those : Element → Type 0) (t old new : ℕ) : Type 0 where
  pub later : t < new
  pub lower : new ≤ old
  pub waits : (e : Element) → those e → Waits (plan e) t new
  pub start : (new ≡ old) ⊎ ((e : Element) × those e × (start_of (plan e) ≡ Some new))
