-- Helping only: how many nodes of a set are powered during a period.
use Rattle.std.specs.Prelude.{◌≡◌, ℕ, ◌+◌, ◌<◌, ◌≤◌, ◌||◌, ◌&&◌, ◌==◌, Bool, true, false, Option, Some, None, IsTrue, if◌then◌else◌}
use Rattle.relax.specs.Prelude.{powered_nodes}
use Rattle.closing.specs.Prelude.{Allowed, Apart, Bounded, Form, Instance, InTurn, IsEnd, IsFreeOf, node, Nodes, Ordered, Powered, powered_at, Sets, Settled, sure, Together}
use Rattle.cluster.specs.declared.choices.Choice.{Choice}
use Rattle.power_bounds.specs.declared.period.Period.{Period}
use Rattle.power_bounds.specs.declared.power.PowerBound.{PowerBound}

-- the instant is one of the period
abbrev pub IsDuring : Period → ℕ → Type 0
IsDuring x t = (x.from ≤ t) × (t ≤ x.to)

-- how many nodes a form lets be powered, if it is on that
abbrev pub power_of : Form → Option PowerBound
power_of (Apart separation) = None
power_of (Allowed vs places) = None
power_of (Together vs groups) = None
power_of (Ordered before after) = None
power_of (InTurn vs) = None
power_of (Bounded weight ns amount) = None
power_of (Powered ns amount) = Some (record { nodes = ns; amount = amount })
power_of Settled = None

-- whether a node of the set is surely powered at one end of the period, and 1 for one that is
abbrev pub powered_most : Instance → Sets → Nodes → Period → ℕ → Bool
powered_most p s set x n = set n && ((sure p s x.from).powered n || (sure p s x.to).powered n)

abbrev pub power_most : Instance → Sets → Nodes → Period → ℕ → ℕ
power_most p s set x n = if powered_most p s set x n then 1 else 0

-- under the choice the node is powered at neither end
abbrev pub AreNotPowered : Instance → ℕ → Period → Choice → Type 0
AreNotPowered p n x c = (powered_at p n x.from c ≡ false) × (powered_at p n x.to c ≡ false)

-- where a node of the set is powered under an end of its choices, it surely is
pub record IsPoweredFit (p : Instance) (s : Sets) (set : Nodes) (x : Period) (n : ℕ) : Type 0 where
  pub each : (t : ℕ) (c : Choice) → IsDuring x t → IsEnd (s (node n)) c → set n ≡ true → powered_at p n t c ≡ true → (sure p s t).powered n ≡ true

-- no more are powered than the amount, nor are they with any one element set to an end of its choices
abbrev pub PowerStaysAt : Instance → Sets → Nodes → ℕ → ℕ → Type 0
PowerStaysAt p s set amount t = IsFreeOf (λ b. amount < powered_nodes p b set) p s t

abbrev pub PowerStaysDuring : Instance → Sets → Nodes → ℕ → Period → Type 0
PowerStaysDuring p s set amount x = (t : ℕ) → IsDuring x t → PowerStaysAt p s set amount t

-- from an instant on and before a later one, which is the one after the horizon at the latest
pub record PowerStaysPast (p : Instance) (s : Sets) (set : Nodes) (amount from until : ℕ) : Type 0 where
  pub later : from < until
  pub most : until ≤ p.horizon + 1
  pub stays : (t : ℕ) → from ≤ t → t < until → PowerStaysAt p s set amount t

-- whenever it has to be so: always, or at the horizon alone
abbrev pub PowerStaysWhenDue : Instance → Sets → Nodes → ℕ → Bool → Type 0
PowerStaysWhenDue p s set amount always = (t : ℕ) → t ≤ p.horizon → IsTrue (always || (t == p.horizon)) → PowerStaysAt p s set amount t
