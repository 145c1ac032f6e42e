-- Closed sets, by watches.
use Rattle.closing.proofs.Prelude.{IsTrue, ◌≡◌, ◌≢◌, inl, inr, ℕ, zero, suc, ◌+◌, ◌<◌, Bool, ◌||◌, ◌==◌, List, [], ◌∷◌, length, Option, Some, None, refl, arith, slice_get, cases_lt, all_nodes, AreClean, AreCleanAt, Bound, Choice, Clean, ClosedByWatches, Constraint, constraint_watch, Cut, Element, Empty, Fail, Group, Hall, HasPair, HasPlace, Instance, is_continuous, IsBroken, IsClean, IsClosed, IsElement, IsEnd, IsFree, IsGroup, IsLook, IsNeeded, IsOverloaded, IsPower, IsSetLoad, Load, load_watch, Look, machine_count, node, Node as TheNode, node_count, one, Pair, Power, ReasonKind, SetLoad, Sets, setting, Snapshot, sure, total_load_watch, Usable, usable_watch, Vm, vm, Watch, watch_of, closed_by_kinds, quiet_is_free}
use Rattle.closing.specs.Prelude.{Place}

-- no watch is broken in a snapshot
record AreUnbroken (p : Instance) (b : Snapshot) (last : Bool) : Type 0 where
  loads : (n : ℕ) → n < node_count p → ¬ IsOverloaded p (one n) b
  total : ¬ IsOverloaded p (all_nodes p) b
  usable : (n : ℕ) → n < node_count p → ¬ IsNeeded p n b
  constraints : (c : ℕ) → c < length p.constraints → ¬ (constraint_watch p c).broken b last

module _ (p : Instance) (b : Snapshot) (last : Bool) where
  -- a constraint that applies is not broken
  unbroken : AreUnbroken p b last → (P : Constraint → Type 0) → ((k : Constraint) → P k → IsBroken p b k) → (c : ℕ) (k : Constraint) → slice_get p.constraints c ≡ Some k → IsTrue (is_continuous k || last) → ¬ P k
  unbroken u P breaks c k is on h = u.constraints c (there p.constraints c k is) (rw is (on, breaks k h))
    where
      there : (ks : List Constraint) (c : ℕ) (k : Constraint) → slice_get ks c ≡ Some k → c < length ks
      there [] c k is = cc
      there (x ∷ ks) zero k is = omega arith
      there (x ∷ ks) (suc c) k is = omega (arith, there ks c k is)

  unbroken-free : AreUnbroken p b last → (kind : ReasonKind) → IsFree p b last kind
  unbroken-free u Empty = tt
  unbroken-free u Bound = tt
  unbroken-free u Load = λ r i. record { each = λ n h over. u.loads n h (r, i, over); all = λ over. u.total (r, i, over) }
  unbroken-free u Pair = λ c k is on. unbroken u (HasPair p b) (λ k x. inl x) c k is on
  unbroken-free u Place = λ c k is on. unbroken u (HasPlace p b) (λ k x. inr (inl x)) c k is on
  unbroken-free u Group = λ c k is on. unbroken u (IsGroup p b) (λ k x. inr (inr (inl x))) c k is on
  unbroken-free u SetLoad = λ c k is on. unbroken u (IsSetLoad p b) (λ k x. inr (inr (inr (inl x)))) c k is on
  unbroken-free u Power = λ c k is on. unbroken u (IsPower p b) (λ k x. inr (inr (inr (inr x)))) c k is on
  unbroken-free u Usable = λ v n i j x. u.usable n j (v, i, x)
  unbroken-free u Hall = tt

  free-unbroken : ((kind : ReasonKind) → IsFree p b last kind) → AreUnbroken p b last
  free-unbroken free = record {
    loads = λ n h x. (free Load x.0 x.1).each n h x.2;
    total = λ x. (free Load x.0 x.1).all x.2;
    usable = λ n h x. free Usable x.0 n x.1 h x.2;
    constraints = λ c h. at c (slice_get p.constraints c) refl;
  }
    where
      at : (c : ℕ) (o : Option Constraint) → slice_get p.constraints c ≡ o → ¬ (watch_of p o).broken b last
      at c None is x = x
      at c (Some k) is (on, inl x) = free Pair c k is on x
      at c (Some k) is (on, inr (inl x)) = free Place c k is on x
      at c (Some k) is (on, inr (inr (inl x))) = free Group c k is on x
      at c (Some k) is (on, inr (inr (inr (inl x)))) = free SetLoad c k is on x
      at c (Some k) is (on, inr (inr (inr (inr x)))) = free Power c k is on x

clean-of : (p : Instance) (s : Sets) (t : ℕ) → AreUnbroken p (sure p s t) (t == p.horizon) → ((e : Element) (c : Choice) → IsElement p e → IsEnd (s e) c → AreUnbroken p (sure p (setting e c s) t) (t == p.horizon)) → AreCleanAt p s t
clean-of p s t base ends = record {
  nodes = record {
    loads = λ n h. record { base = base.loads n h; ends = λ e c i end. (ends e c i end).loads n h };
    usable = λ n h. record { base = base.usable n h; ends = λ e c i end. (ends e c i end).usable n h };
  };
  total = record { base = base.total; ends = λ e c i end. (ends e c i end).total };
  constraints = record { each = λ k h. record { base = base.constraints k h; ends = λ e c i end. (ends e c i end).constraints k h } };
}

ends-of : (p : Instance) (s : Sets) (t : ℕ) → AreCleanAt p s t → (e : Element) (c : Choice) → IsElement p e → IsEnd (s e) c → AreUnbroken p (sure p (setting e c s) t) (t == p.horizon)
ends-of p s t clean e c i end = record {
  loads = λ n h. (clean.nodes.loads n h).ends e c i end;
  total = clean.total.ends e c i end;
  usable = λ n h. (clean.nodes.usable n h).ends e c i end;
  constraints = λ k h. (clean.constraints.each k h).ends e c i end;
}

pub closed_by_watches : ClosedByWatches
closed_by_watches p s e there = (
  λ closed.
      let kinds = (closed_by_kinds p s).0 closed in (
        kinds.0,
        record {
          at = λ t l.
              clean-of p s t (free-unbroken p (sure p s t) (t == p.horizon) (λ kind. quiet_is_free p s kind e there kinds.0 (kinds.1 kind) t l))
              (λ x c i end. free-unbroken p (sure p (setting x c s) t) (t == p.horizon) (λ kind. (kinds.1 kind).quiet x c i end t l));
        },
      ),
  λ clean.
      (closed_by_kinds p s).1
      (clean.0, λ kind. record { quiet = λ x c i end t l. unbroken-free p (sure p (setting x c s) t) (t == p.horizon) (ends-of p s t (clean.1.at t l) x c i end) kind }),
)

-- ---- with an element, and without any

pub none_closed : (p : Instance) (s : Sets) → machine_count p ≡ 0 → node_count p ≡ 0 → IsClosed p s
none_closed p s machines nodes = record { some = λ e x. absurd (no_one e x); ends = λ e c x end. absurd (no_one e x) }
  where
    no_one : (e : Element) → IsElement p e → ⊥
    no_one (Vm v) x = omega (arith, x, machines)
    no_one (TheNode n) x = omega (arith, x, nodes)

pub some_element : (p : Instance) → 0 < machine_count p + node_count p → (e : Element) × IsElement p e
some_element p h = elim (cases_lt 0 (machine_count p)) [ inl m ↦ (vm 0, m) | inr none ↦ (node 0, omega (arith, h, none)) ]

-- ---- by the watches

-- clean at each instant is that each watch is clean
pub all_clean : (p : Instance) (s : Sets) → ((n : ℕ) → n < node_count p → IsClean (load_watch p n) p s) → ((n : ℕ) → n < node_count p → IsClean (usable_watch p n) p s) → ((c : ℕ) → c < length p.constraints → IsClean (constraint_watch p c) p s) → IsClean (total_load_watch p) p s → AreClean p s
all_clean p s loads usable constraints total = record {
  at = λ t l. record {
    nodes = record { loads = λ n h. loads n h t l; usable = λ n h. usable n h t l };
    total = total t l;
    constraints = record { each = λ k h. constraints k h t l };
  };
}

module _ (p : Instance) (s : Sets) (clean : AreClean p s) where
  pub clean_load : (n : ℕ) → n < node_count p → IsClean (load_watch p n) p s
  clean_load n h t l = (clean.at t l).nodes.loads n h

  pub clean_usable : (n : ℕ) → n < node_count p → IsClean (usable_watch p n) p s
  clean_usable n h t l = (clean.at t l).nodes.usable n h

  pub clean_constraint : (c : ℕ) → c < length p.constraints → IsClean (constraint_watch p c) p s
  clean_constraint c h t l = (clean.at t l).constraints.each c h

  pub clean_total : IsClean (total_load_watch p) p s
  clean_total t l = (clean.at t l).total

-- what a look says that finds nothing
pub clean_by : (w : Watch) (p : Instance) (s : Sets) (look : Look) → look ≡ Clean → IsLook w p s look → IsClean w p s
clean_by w p s look is h = rw is at h

-- where a look finds something, the watch is not clean
pub found : (w : Watch) (p : Instance) (s : Sets) (look : Look) → look ≢ Clean → IsLook w p s look → ¬ IsClean w p s
found w p s Clean ne h clean = ne refl
found w p s (Fail t) ne h clean = (clean t h.0).base h.1
found w p s (Cut e c t) ne h clean = (clean t h.0).ends e c h.1.element h.1.is_end h.1.is_met
