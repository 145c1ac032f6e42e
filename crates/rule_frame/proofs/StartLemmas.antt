-- Choices before and after a change: the first and the last start at a place; and that there are no more than before.
use Rattle.base.proofs.Public.{◌≡◌, ◌≢◌, ◌⊎◌, inl, inr, ℕ, zero, suc, ◌<◌, ◌≤◌, Bool, true, false, ◌&&◌, nat_le, cond, nat_tests, List, [], ◌∷◌, refl, sym, ap, subst, ◌∙◌, arith, cases_eq, cases_lt, Contains}
use Rattle.cluster.specs.declared.choices.Choice.{Choice}
use Rattle.cluster.specs.declared.choices.Choice.TheVariants.{Act, Idle}
use Rattle.cluster.specs.declared.choices.Place.{Place}
use Rattle.cluster.specs.declared.choices.Place.TheVariants.{At, Nowhere}
use Rattle.cluster.specs.declared.ids.NodeId.{NodeId}
use Rattle.domains.proofs.Public.{filter_is_fewer}
use Rattle.domains.specs.Prelude.{AreFewer}
use Rattle.domains.specs.declared.parts.Change.{Change}
use Rattle.domains.specs.declared.undo.Before.{Before}
use Rattle.prop_core.specs.Propagators.{IsNarrowed}
use Rattle.relax.specs.Prelude.{on_side}
use Rattle.prop_core.specs.Prelude.{domain_before}
use Rattle.rule_frame.specs.Prelude.{choices, domain_at, DomainView, Instance, RegionView, sets}

starts_at : (c : Choice) (q : Place) → ((s : ℕ) × (c ≡ Act q s)) ⊎ ((u : ℕ) → c ≢ Act q u)
starts_at Idle q = inr (λ u e. cc)
starts_at (Act Nowhere s) Nowhere = inl (s, refl)
starts_at (Act Nowhere s) (At m) = inr (λ u e. cc)
starts_at (Act (At k) s) Nowhere = inr (λ u e. cc)
starts_at (Act (At k) s) (At m) = by (cases_eq k.0 m.0)
  where
    number : (k m : NodeId) (s u : ℕ) → Act (At k) s ≡ Act (At m) u → k ≡ m
    number k m s u e = cc

    by : (k.0 ≡ m.0) ⊎ (k.0 ≢ m.0) → ((u : ℕ) × (Act (At k) s ≡ Act (At m) u)) ⊎ ((u : ℕ) → Act (At k) s ≢ Act (At m) u)
    by (inl same) = inl (s, ap (λ (i : ℕ). let c : Choice = Act (At (record { 0 = i })) s in c) same)
    by (inr other) = inr (λ u e. other (ap (λ (i : NodeId). i.0) (number k m s u e)))

start_is : (q : Place) (s u : ℕ) → Act q s ≡ Act q u → s ≡ u
start_is q s u e = cc

pub cases_in : (c d : Choice) (cs : List Choice) → Contains (c ∷ cs) d → (c ≡ d) ⊎ Contains cs d
cases_in c d cs (zero, h, e) = inl e
cases_in c d cs (suc k, h, e) = inr (k, omega arith, e)

pub later_in : (c d : Choice) (cs : List Choice) → Contains cs d → Contains (c ∷ cs) d
later_in c d cs (k, h, e) = (suc k, omega arith, e)

-- by an order of instants: the start at a place that comes before all others there
module _ (before : ℕ → ℕ → Type 0) (total : (a b : ℕ) → before a b ⊎ before b a) (trans : (a b c : ℕ) → before a b → before b c → before a c) where
  abbrev IsOutermost : List Choice → Place → ℕ → Type 0
  IsOutermost cs q b = Contains cs (Act q b) × ((u : ℕ) → Contains cs (Act q u) → before b u)

  self : (a : ℕ) → before a a
  self a = elim (total a a) [ inl x ↦ x | inr x ↦ x ]

  outermost_or_none : (cs : List Choice) (q : Place) → ((b : ℕ) × IsOutermost cs q b) ⊎ ((u : ℕ) → ¬ Contains cs (Act q u))
  outermost_or_none [] q = inr (λ u h. omega (arith, h.1))
  outermost_or_none (c ∷ cs) q = by (starts_at c q) (outermost_or_none cs q)
    where
      among : (s b : ℕ) → c ≡ Act q s → before b s → ((u : ℕ) → Contains cs (Act q u) → before b u) → (u : ℕ) → Contains (c ∷ cs) (Act q u) → before b u
      among s b is first rest u h = elim (cases_in c (Act q u) cs h) [ inl here ↦ subst (λ u. before b u) (start_is q s u (sym is ∙ here)) first | inr later ↦ rest u later ]

      head : (s : ℕ) → c ≡ Act q s → Contains (c ∷ cs) (Act q s)
      head s is = (0, omega arith, is)

      by : ((s : ℕ) × (c ≡ Act q s)) ⊎ ((u : ℕ) → c ≢ Act q u) → ((b : ℕ) × IsOutermost cs q b) ⊎ ((u : ℕ) → ¬ Contains cs (Act q u)) → ((b : ℕ) × IsOutermost (c ∷ cs) q b) ⊎ ((u : ℕ) → ¬ Contains (c ∷ cs) (Act q u))
      by (inl here) (inl rest) =
          elim (total rest.0 here.0) [
            | inl l ↦ inl (rest.0, (later_in c (Act q rest.0) cs rest.1.0, among here.0 rest.0 here.1 l rest.1.1))
            | inr l ↦ inl (here.0, (head here.0 here.1, among here.0 here.0 here.1 (self here.0) (λ u h. trans here.0 rest.0 u l (rest.1.1 u h))))
          ]
      by (inl here) (inr none) = inl (here.0, (head here.0 here.1, among here.0 here.0 here.1 (self here.0) (λ u h. absurd (none u h))))
      by (inr other) (inl rest) = inl (rest.0, (later_in c (Act q rest.0) cs rest.1.0, λ u h. elim (cases_in c (Act q u) cs h) [ inl here ↦ absurd (other u here) | inr later ↦ rest.1.1 u later ]))
      by (inr other) (inr none) = inr (λ u h. elim (cases_in c (Act q u) cs h) [ inl here ↦ other u here | inr later ↦ none u later ])

  outermost_of : (cs : List Choice) (q : Place) (s : ℕ) → Contains cs (Act q s) → (b : ℕ) × IsOutermost cs q b
  outermost_of cs q s h = elim (outermost_or_none cs q) [ inl x ↦ x | inr none ↦ absurd (none s h) ]

pub first_of : (cs : List Choice) (q : Place) (s : ℕ) → Contains cs (Act q s) → (b : ℕ) × Contains cs (Act q b) × ((u : ℕ) → Contains cs (Act q u) → b ≤ u)
first_of cs q s h =
    let x = outermost_of (λ a b. a ≤ b) (λ a b. elim (cases_lt a b) [ inl l ↦ inl (omega (arith, l)) | inr l ↦ inr l ]) (λ a b c l u. omega (arith, l, u)) cs q s h in
    (x.0, x.1.0, x.1.1)

pub last_of : (cs : List Choice) (q : Place) (s : ℕ) → Contains cs (Act q s) → (b : ℕ) × Contains cs (Act q b) × ((u : ℕ) → Contains cs (Act q u) → u ≤ b)
last_of cs q s h =
    let x = outermost_of (λ a b. b ≤ a) (λ a b. elim (cases_lt a b) [ inl l ↦ inr (omega (arith, l)) | inr l ↦ inl l ]) (λ a b c l u. omega (arith, l, u)) cs q s h in
    (x.0, x.1.0, x.1.1)

-- a sooner start holds no less
pub no_less : (there : Bool) (u s t k : ℕ) → u ≤ s → cond (there && nat_le s t) k 0 ≤ cond (there && nat_le u t) k 0
no_less false u s t k l = omega arith
no_less true u s t k l = by (cases_lt t s)
  where
    by : (t < s) ⊎ (s ≤ t) → cond (nat_le s t) k 0 ≤ cond (nat_le u t) k 0
    by (inl early) = let off : nat_le s t ≡ false = grind (arith, nat_tests, early) in rw off (omega arith)
    by (inr late) = let on : nat_le s t ≡ true = grind (arith, nat_tests, late) in let too : nat_le u t ≡ true = grind (arith, nat_tests, late, l) in rw (on, too) (omega arith)

-- ---- a change that narrows

pub narrowed_is_fewer : (p : Instance) (g : RegionView) (change : Change) (before : Before) (kept : DomainView) → IsNarrowed p g change before kept → AreFewer (sets g change.element) (choices (domain_before before kept (domain_at g change.element)))
narrowed_is_fewer p g change before kept narrowed c h = filter_is_fewer (on_side change.side change.part) (choices (domain_before before kept (domain_at g change.element))) c (subst (λ cs. Contains cs c) narrowed.left h)
