-- Laws of the sum of least ends, for those who keep one beside a region that is changed.
use Rattle.std.specs.Prelude.{◌≡◌, ◌≢◌, ℕ, ◌≤◌, Bool, length}
use Rattle.relax.specs.Prelude.{AreFewer, AreLegal, choices, domain_at, DomainView, HasElement, Instance, IsElement, IsInstance, IsSized, keeping, least_cost, max_cost, RegionView, Sets, sets, with_domain}
use Rattle.cluster.specs.declared.choices.Choice.{Choice}
use Rattle.cluster.specs.declared.ids.Element.{Element}

-- the same sets have the same sum
abbrev pub SameCost : Type 0
SameCost = (p : Instance) (s t : Sets) → ((e : Element) → s e ≡ t e) → least_cost p s ≡ least_cost p t

-- where one element was changed, the region with its old domain put back has the sum from before
abbrev pub CostPutBack : Type 0
CostPutBack =
    (p : Instance) (before after : RegionView) (x : Element) → HasElement after x →
    ((e : Element) → e ≢ x → sets after e ≡ sets before e) →
    least_cost p (sets (with_domain after x (domain_at before x))) ≡ least_cost p (sets before)

-- what is asked where a sum is told that an element had an old domain, and that before the sum was another
pub record MayTell (p : Instance) (sum : ℕ) (after : RegionView) (x : Element) (old : DomainView) : Type 0 where
  pub region : IsSized p after
  pub legal : AreLegal p (sets after)
  pub narrowed : AreFewer (sets after x) (choices old)
  pub agreed : sum ≡ least_cost p (sets (with_domain after x old))

-- a narrowing may be told
abbrev pub NarrowingTells : Type 0
NarrowingTells =
    (p : Instance) (before after : RegionView) (x : Element) (test : Choice → Bool) → IsSized p before → AreLegal p (sets before) → IsElement p x →
    length after.machines ≡ length before.machines → length after.nodes ≡ length before.nodes → ((e : Element) → sets after e ≡ keeping x test (sets before) e) →
    MayTell p (least_cost p (sets before)) after x (domain_at before x)

-- no sum is greater than the greatest cost of a plan
abbrev pub CostIsSmall : Type 0
CostIsSmall = (p : Instance) → IsInstance p → (s : Sets) → AreLegal p s → least_cost p s ≤ max_cost
