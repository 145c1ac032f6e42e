-- What a look at a watch over a region says.
use Rattle.std.specs.Prelude.{◌≡◌, ℕ, ◌≤◌, ◌==◌}
use Rattle.relax.specs.Prelude.{Instance, IsElement, IsEnd, Sets, setting, Snapshot, sure}
use Rattle.cluster.specs.declared.{choices.Choice.Choice, ids.Element.Element}
use Rattle.closing.specs.{declared.look.Look.Look, declared.look.Look.TheVariants.Clean, declared.look.Look.TheVariants.Fail, declared.look.Look.TheVariants.Cut, Watches.Watch}

-- ---- at one instant

-- a condition is met neither by what is sure of the sets, nor with any one element set to an end of its choices
pub record IsFreeOf (met : Snapshot → Type 0) (p : Instance) (s : Sets) (t : ℕ) : Type 0 where
  pub base : ¬ met (sure p s t)
  pub ends : (e : Element) (c : Choice) → IsElement p e → IsEnd (s e) c → ¬ met (sure p (setting e c s) t)

-- it is met with the element set to that end of its choices
pub record IsMetWith (met : Snapshot → Type 0) (p : Instance) (s : Sets) (t : ℕ) (e : Element) (c : Choice) : Type 0 where
  pub element : IsElement p e
  pub is_end : IsEnd (s e) c
  pub is_met : met (sure p (setting e c s) t)

-- what a look at the condition at the instant says
abbrev pub IsFound : (Snapshot → Type 0) → Instance → Sets → ℕ → Look → Type 0
IsFound met p s t Clean = IsFreeOf met p s t
IsFound met p s t (Fail u) = (u ≡ t) × met (sure p s t)
IsFound met p s t (Cut e c u) = (u ≡ t) × IsMetWith met p s t e c

-- ---- at all instants

-- what breaks the watch at an instant
abbrev pub broken_at : Watch → Instance → ℕ → Snapshot → Type 0
broken_at w p t b = w.broken b (t == p.horizon)

-- at no instant up to the horizon is the watch broken in the region, or with any one element set to an end of its choices
abbrev pub IsClean : Watch → Instance → Sets → Type 0
IsClean w p s = (t : ℕ) → t ≤ p.horizon → IsFreeOf (broken_at w p t) p s t

-- what a look at the watch says: it is clean; it is broken at an instant; or it is with an element set to an end
abbrev pub IsLook : Watch → Instance → Sets → Look → Type 0
IsLook w p s Clean = IsClean w p s
IsLook w p s (Fail t) = (t ≤ p.horizon) × broken_at w p t (sure p s t)
IsLook w p s (Cut e c t) = (t ≤ p.horizon) × IsMetWith (broken_at w p t) p s t e c
