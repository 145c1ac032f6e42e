-- Loops over parts, and over the machines that are not in a set.
use Rattle.closing.proofs.Prelude.{◌≢◌, ℕ, ◌<◌, List, [], length, slice_index_or, Choice, Element, Instance, IsAnyOf, IsFreeOf, IsMetWith, MeetsOtherPart, Sets, ShareNode, Snapshot, VmId, part_listed}

module _ (p : Instance) (s : Sets) (t : ℕ) (parts : List (List VmId)) where
  abbrev met_in : ℕ → ℕ → Snapshot → Type 0
  met_in v j = IsAnyOf (slice_index_or parts j []) (ShareNode p v)

  pub others_free : (i v : ℕ) → ((k : ℕ) → k < length parts → i ≢ k → IsFreeOf (met_in v k) p s t) → IsFreeOf (MeetsOtherPart p parts i v) p s t
  others_free i v each = record {
    base = λ x. (each x.0 (part_listed parts x.0 x.2.0 x.2.1) x.1).base x.2;
    ends = λ e c h end x. (each x.0 (part_listed parts x.0 x.2.0 x.2.1) x.1).ends e c h end x.2;
  }

  pub parts_free : ((k : ℕ) → k < length parts → IsFreeOf (IsAnyOf (slice_index_or parts k []) (MeetsOtherPart p parts k)) p s t) → IsFreeOf (λ b. (i : ℕ) × (i < length parts) × IsAnyOf (slice_index_or parts i []) (MeetsOtherPart p parts i) b) p s t
  parts_free each = record {
    base = λ x. (each x.0 x.1).base x.2;
    ends = λ e c h end x. (each x.0 x.1).ends e c h end x.2;
  }

  pub parts_met : (i : ℕ) → i < length parts → (e : Element) (c : Choice) → IsMetWith (IsAnyOf (slice_index_or parts i []) (MeetsOtherPart p parts i)) p s t e c → IsMetWith (λ b. (i : ℕ) × (i < length parts) × IsAnyOf (slice_index_or parts i []) (MeetsOtherPart p parts i) b) p s t e c
  parts_met i h e c x = record { element = x.element; is_end = x.is_end; is_met = (i, h, x.is_met) }
