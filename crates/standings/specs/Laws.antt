-- The laws of the two numbers: what a machine surely has on one node at each instant is a function of them.
use Rattle.std.specs.Prelude.{◌≡◌, ◌≢◌, ℕ, ◌<◌, ◌≤◌, Bool, List, [], nat_lt, slice_index_or, IsTrue}
use Rattle.relax.specs.Prelude.{AreFewer, choices, domain_at, domain_before, DomainView, held_at, Instance, keeping, least, load, machine_count, one, presences, present_at, RegionView, Sets, sets, sum_to, sure, surely}
use Rattle.cluster.specs.declared.{choices.Choice.Choice, ids.Element.Element}
use Rattle.slices.specs.declared.slice.Weight.{Weight, TheVariants.Amount, TheVariants.Presence}
use Rattle.domains.specs.declared.undo.Before.{Before}
use Rattle.domains.specs.SetsBefore.{sets_before}
use Rattle.standings.specs.{declared.numbers.Standing.Standing, Standings.IsStanding, Standings.comes_by, Standings.kept_use, Standings.never, Tables.AreStanding, Tables.no_standing}

-- the least that is held over the choices: amounts, presences and images, whatever the machine's state
abbrev pub KeptLaw : Type 0
KeptLaw =
    (p : Instance) (v : ℕ) (w : Weight) (n t : ℕ) (cs : List Choice) (k : Standing) → t < never → IsStanding p v cs k →
    least (held_at p v w (one n) t) cs ≡ kept_use p v w n t k

-- whether the machine is present under each choice
abbrev pub PresentLaw : Type 0
PresentLaw =
    (p : Instance) (v n t : ℕ) (cs : List Choice) (k : Standing) → t < never → cs ≢ [] → IsStanding p v cs k →
    surely (present_at p v (one n) t) cs ≡ nat_lt 0 (kept_use p v Presence n t k)

-- the load of a node, and the presences there, are sums over the numbers of all machines
abbrev pub LoadLaw : Type 0
LoadLaw =
    (p : Instance) (s : Sets) (ks : List Standing) (r n t : ℕ) → t < never → AreStanding p s ks →
    load p (sure p s t) r (one n) ≡ sum_to (machine_count p) (λ v. kept_use p v (Amount r) n t (slice_index_or ks v no_standing))

abbrev pub PresencesLaw : Type 0
PresencesLaw =
    (p : Instance) (s : Sets) (ks : List Standing) (n t : ℕ) → t < never → AreStanding p s ks →
    presences p (sure p s t) (one n) ≡ sum_to (machine_count p) (λ v. kept_use p v Presence n t (slice_index_or ks v no_standing))

-- ---- fewer choices, of which there are some

-- what the numbers of fewer choices say is no less: the host is kept no shorter, and what had come has come
pub record IsNoLess (k now : Standing) : Type 0 where
  pub leave : k.leave ≤ now.leave
  pub come : (n t : ℕ) → IsTrue (comes_by n t k.come) → IsTrue (comes_by n t now.come)

abbrev pub GrowLaw : Type 0
GrowLaw =
    (p : Instance) (v : ℕ) (fewer cs : List Choice) (k now : Standing) → AreFewer fewer cs → fewer ≢ [] →
    IsStanding p v cs k → IsStanding p v fewer now → IsNoLess k now

-- ---- what is told of a change, so that one element keeps what passes a test

-- the sets before it are those of the region before it
abbrev pub BeforeLaw : Type 0
BeforeLaw =
    (g now : RegionView) (x : Element) (test : Choice → Bool) (before : Before) (kept : DomainView) →
    domain_before before kept (domain_at now x) ≡ domain_at g x → ((e : Element) → sets now e ≡ keeping x test (sets g) e) →
    sets_before now x before kept ≡ sets g

-- and the element has fewer choices
abbrev pub FewerLaw : Type 0
FewerLaw =
    (g now : RegionView) (x : Element) (test : Choice → Bool) (before : Before) (kept : DomainView) →
    domain_before before kept (domain_at now x) ≡ domain_at g x → ((e : Element) → sets now e ≡ keeping x test (sets g) e) →
    AreFewer (sets now x) (choices (domain_before before kept (domain_at now x)))
