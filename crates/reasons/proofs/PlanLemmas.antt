-- Where each constraint holds of a plan's snapshot, none is broken there; and the other way round.
use Rattle.std.proofs.Common.{IsTrue}
use Rattle.std.proofs.lemmas.Bool.{true≢false}
use Rattle.base.proofs.Public.{◌≡◌, ◌≢◌, ◌⊎◌, inl, inr, ℕ, zero, suc, ◌<◌, ◌≤◌, Bool, true, false, not, List, [], ◌∷◌, length, refl, sym, ap, subst, ◌∙◌, arith, All, Any, cases_Bool, cases_eq, cases_lt, false_from_ne_true, false≢true, ltb-true, not_from_false, not-true, All-cons, All-head, All-nil, All-get_or, length-map-range_with_len, length-map}
use Rattle.reasons.specs.Prelude.{Allowed, AnyNode, AnyOf, Apart, are_below, AreBothActing, AreGrouped, AreScattered, AreWithin, Between, Bounded, BreaksGroup, Choices, Each, ExceedsAmount, ExceedsPower, Form, form_of, FormForbidsPair, FormForbidsPlace, FromOthers, group_sets, Groups, has_node, HasOutside, Holds, Instance, InTurn, is_member, IsGroup, IsGroupsFit, IsInstance, IsKept, IsMember, IsPair, IsPlace, IsPower, IsSetLoad, IsSound, machine_count, node_count, Nodes, one, Ordered, Powered, present_at, Separates, Separation, Settled, Snapshot, snapshot_of, TakeTurns, Together, vm, VmId}
use Rattle.catalogue.specs.declared.constraint.Constraint.{Constraint}
use Rattle.slices.proofs.Public.{present_on_set, present_somewhere}
use Rattle.slices.proofs.Public.{member_below}
use Rattle.reasons.proofs.RuleLemmas.{parts_differ}

-- a constraint is broken in no way
pub record IsUnbroken (p : Instance) (s : Snapshot) (k : Constraint) : Type 0 where
  pub pair : (v w n : ℕ) → v < machine_count p → w < machine_count p → n < node_count p → ¬ IsPair p s k v w n
  pub place : (v n : ℕ) → v < machine_count p → n < node_count p → ¬ IsPlace p s k v n
  pub group : ¬ IsGroup p s k
  pub set_load : ¬ IsSetLoad p s k
  pub power : ¬ IsPower p s k

-- ---- what holds is not broken

module _ (p : Instance) (s : Snapshot) where
  kept-no_pair : (f : Form) (v w n : ℕ) → v < machine_count p → w < machine_count p → n < node_count p → IsKept p s f → FormForbidsPair f v w → IsTrue (s.present v (one n)) → s.present w (one n) ≡ false
  kept-no_pair (Apart separation) v w n i j l h f = h n v w l i j f
  kept-no_pair (Allowed vs places) v w n i j l h f = absurd f
  kept-no_pair (Together vs groups) v w n i j l h f = absurd f
  kept-no_pair (Ordered before after) v w n i j l h f = absurd f
  kept-no_pair (InTurn vs) v w n i j l h f = absurd f
  kept-no_pair (Bounded weight ns amount) v w n i j l h f = absurd f
  kept-no_pair (Powered ns amount) v w n i j l h f = absurd f
  kept-no_pair Settled v w n i j l h f = absurd f

  pub holds-no_pair : (k : Constraint) (v w n : ℕ) → v < machine_count p → w < machine_count p → n < node_count p → Holds p s k → ¬ IsPair p s k v w n
  holds-no_pair k v w n i j l h x = true≢false (sym x.second ∙ kept-no_pair (form_of k) v w n i j l h x.forbidden x.first)

  kept-no_place : (f : Form) (v n : ℕ) → v < machine_count p → n < node_count p → IsKept p s f → FormForbidsPlace p f v n → s.present v (one n) ≡ false
  kept-no_place (Apart separation) v n i l h f = absurd f
  kept-no_place (Allowed vs places) v n i l h f = h v n i l f
  kept-no_place (Together vs groups) v n i l h f = absurd f
  kept-no_place (Ordered before after) v n i l h f = absurd f
  kept-no_place (InTurn vs) v n i l h f = absurd f
  kept-no_place (Bounded weight ns amount) v n i l h f = absurd f
  kept-no_place (Powered ns amount) v n i l h f = absurd f
  kept-no_place Settled v n i l h f = absurd f

  pub holds-no_place : (k : Constraint) (v n : ℕ) → v < machine_count p → n < node_count p → Holds p s k → ¬ IsPlace p s k v n
  holds-no_place k v n i l h x = true≢false (sym x.present ∙ kept-no_place (form_of k) v n i l h x.forbidden)

  kept-no_amount : (f : Form) → IsKept p s f → ¬ ExceedsAmount p s f
  kept-no_amount (Apart separation) h = λ x. x
  kept-no_amount (Allowed vs places) h = λ x. x
  kept-no_amount (Together vs groups) h = λ x. x
  kept-no_amount (Ordered before after) h = λ x. x
  kept-no_amount (InTurn vs) h = λ x. x
  kept-no_amount (Bounded weight ns amount) h = λ x. omega (arith, h, x)
  kept-no_amount (Powered ns amount) h = λ x. x
  kept-no_amount Settled h = λ x. x

  pub holds-no_set_load : (k : Constraint) → Holds p s k → ¬ IsSetLoad p s k
  holds-no_set_load k h = kept-no_amount (form_of k) h

  kept-no_power : (f : Form) → IsKept p s f → ¬ ExceedsPower p s f
  kept-no_power (Apart separation) h = λ x. x
  kept-no_power (Allowed vs places) h = λ x. x
  kept-no_power (Together vs groups) h = λ x. x
  kept-no_power (Ordered before after) h = λ x. x
  kept-no_power (InTurn vs) h = λ x. x
  kept-no_power (Bounded weight ns amount) h = λ x. x
  kept-no_power (Powered ns amount) h = λ x. omega (arith, h, x)
  kept-no_power Settled h = λ x. x

  pub holds-no_power : (k : Constraint) → Holds p s k → ¬ IsPower p s k
  holds-no_power k h = kept-no_power (form_of k) h

  turns-no_acting : (vs : List VmId) → are_below (machine_count p) vs ≡ true → TakeTurns p s vs → ¬ AreBothActing s vs
  turns-no_acting vs below h x =
      true≢false (sym x.second ∙ h x.v x.w (member_below (machine_count p) vs x.v below x.first_member) (member_below (machine_count p) vs x.w below x.second_member) x.differ x.first_member x.second_member x.first)

-- ---- groups, in the snapshot of a plan

pub search_to : (n : ℕ) (P Q : ℕ → Type 0) → ((k : ℕ) → P k ⊎ Q k) → ((k : ℕ) × (k < n) × P k) ⊎ ((k : ℕ) → k < n → Q k)
search_to zero P Q h = inr (λ k l. absurd (omega arith))
search_to (suc n) P Q h =
    elim (search_to n P Q h) [
      | inl x ↦ inl (x.0, omega (arith, x.1), x.2)
      | inr rest ↦ elim (h n) [ inl y ↦ inl (n, omega arith, y) | inr q ↦ inr (λ k l. elim (cases_eq k n) [ inl e ↦ subst Q (sym e) q | inr ne ↦ rest k (omega arith) ]) ]
    ]

module _ (p : Instance) (sound : IsInstance p) (plan : Choices) (t : ℕ) (vs : List VmId) where
  grouped-no_scattered : are_below (machine_count p) vs ≡ true → (groups : List Nodes) → AreGrouped p (snapshot_of p plan t) vs groups → ¬ AreScattered (snapshot_of p plan t) vs groups
  grouped-no_scattered below [] h x = x.some refl
  grouped-no_scattered below (g ∷ gs) (inl absent) x =
      let out = All-head (HasOutside (snapshot_of p plan t) vs) g gs x.each in
      let there = present_somewhere p sound out.0 (λ n. not (g n)) t (plan (vm out.0)) out.2 in
      true≢false (sym there.3 ∙ absent out.0 there.0 (member_below (machine_count p) vs out.0 below out.1) there.1 out.1)
  grouped-no_scattered below (g ∷ gs) (inr h) x =
      let set : Nodes = h.1 in
      let out : HasOutside (snapshot_of p plan t) vs set = rw h.3 at (All-get_or (HasOutside (snapshot_of p plan t) vs) (g ∷ gs) h.0 set h.2 x.each) in
      let there = present_somewhere p sound out.0 (λ n. not (set n)) t (plan (vm out.0)) out.2 in
      let inside = h.4 out.0 there.0 (member_below (machine_count p) vs out.0 below out.1) there.1 out.1 there.3 in
      true≢false (sym inside ∙ not-true (set there.0) there.2)

  -- the members are all within a set, or one of them is outside
  node_out : (g : Nodes) (v n : ℕ) → (IsTrue (present_at p v (one n) t (plan (vm v))) × (g n ≡ false)) ⊎ (IsTrue (present_at p v (one n) t (plan (vm v))) → IsTrue (g n))
  node_out g v n = at (present_at p v (one n) t (plan (vm v))) (g n)
    where
      at : (a b : Bool) → (IsTrue a × (b ≡ false)) ⊎ (IsTrue a → IsTrue b)
      at a true = inr (λ x. refl)
      at true false = inl (refl, refl)
      at false false = inr (λ x. absurd (false≢true x))

  abbrev IsOut : Nodes → ℕ → Type 0
  IsOut g v = IsMember vs v × ((n : ℕ) × (n < node_count p) × IsTrue (present_at p v (one n) t (plan (vm v))) × (g n ≡ false))

  abbrev IsInside : Nodes → ℕ → Type 0
  IsInside g v = IsMember vs v → (n : ℕ) → n < node_count p → IsTrue (present_at p v (one n) t (plan (vm v))) → IsTrue (g n)

  member_out : (g : Nodes) (v : ℕ) → IsOut g v ⊎ IsInside g v
  member_out g v =
      elim (cases_Bool (is_member vs v)) [
        | inl m ↦
            elim (search_to (node_count p) (λ n. IsTrue (present_at p v (one n) t (plan (vm v))) × (g n ≡ false)) (λ n. IsTrue (present_at p v (one n) t (plan (vm v))) → IsTrue (g n)) (node_out g v)) [
              | inl x ↦ inl (m, (x.0, x.1, x.2.0, x.2.1))
              | inr all ↦ inr (λ m n l x. all n l x)
            ]
        | inr other ↦ inr (λ m. absurd (true≢false (sym m ∙ other)))
      ]

  within_or_out : (g : Nodes) → AreWithin p (snapshot_of p plan t) vs g ⊎ HasOutside (snapshot_of p plan t) vs g
  within_or_out g =
      elim (search_to (machine_count p) (IsOut g) (IsInside g) (member_out g)) [
        | inl x ↦ inr (x.0, x.2.0, present_on_set p x.0 x.2.1.0 (λ n. not (g n)) t (plan (vm x.0)) (not_from_false (g x.2.1.0) x.2.1.3) x.2.1.2)
        | inr all ↦ inl (λ v n i j m x. all v i m n j x)
      ]

  some_group : (groups : List Nodes) → Any (AreWithin p (snapshot_of p plan t) vs) groups ⊎ All (HasOutside (snapshot_of p plan t) vs) groups
  some_group [] = inr (All-nil (HasOutside (snapshot_of p plan t) vs))
  some_group (g ∷ gs) =
      elim (within_or_out g) [
        | inl here ↦ inl (0, g, omega arith, refl, here)
        | inr out ↦
            elim (some_group gs) [
              | inl x ↦ inl (suc x.0, x.1, omega (arith, x.2), x.3, x.4)
              | inr rest ↦ inr (All-cons (HasOutside (snapshot_of p plan t) vs) g gs out rest)
            ]
      ]

  no_scattered-grouped : (groups : List Nodes) → (groups ≡ [] → node_count p ≡ 0) → ¬ AreScattered (snapshot_of p plan t) vs groups → AreGrouped p (snapshot_of p plan t) vs groups
  no_scattered-grouped groups none unscattered =
      elim (some_group groups) [
        | inl x ↦ inr x
        | inr all ↦ at groups none all unscattered
      ]
    where
      at : (gs : List Nodes) → (gs ≡ [] → node_count p ≡ 0) → All (HasOutside (snapshot_of p plan t) vs) gs → ¬ AreScattered (snapshot_of p plan t) vs gs → AreGrouped p (snapshot_of p plan t) vs gs
      at [] none all unscattered = let no_nodes = none refl in inl (λ v n i j m. absurd (omega (arith, j, no_nodes)))
      at (g ∷ gs) none all unscattered = absurd (unscattered (record { some = λ e. cc; each = all }))

-- ---- a constraint of a plan's snapshot

module _ (p : Instance) (sound : IsInstance p) (plan : Choices) (t : ℕ) where
  kept-no_group : (f : Form) → IsSound p f → IsKept p (snapshot_of p plan t) f → ¬ BreaksGroup p (snapshot_of p plan t) f
  kept-no_group (Apart separation) rule h = λ x. x
  kept-no_group (Allowed vs places) rule h = λ x. x
  kept-no_group (Together vs groups) rule h = grouped-no_scattered p sound plan t vs rule.listed _ h
  kept-no_group (Ordered before after) rule h = λ x. true≢false (sym x.1 ∙ h x.0)
  kept-no_group (InTurn vs) rule h = turns-no_acting p (snapshot_of p plan t) vs rule.listed h
  kept-no_group (Bounded weight ns amount) rule h = λ x. x
  kept-no_group (Powered ns amount) rule h = λ x. x
  kept-no_group Settled rule h = λ x. x

  pub holds-no_group : (k : Constraint) → IsSound p (form_of k) → Holds p (snapshot_of p plan t) k → ¬ IsGroup p (snapshot_of p plan t) k
  holds-no_group k rule h = kept-no_group (form_of k) rule h

  at_most : (a b : ℕ) → ¬ (a < b) → b ≤ a
  at_most a b within = elim (cases_lt a b) [ inl over ↦ absurd (within over) | inr le ↦ le ]

  -- two machines that are kept apart differ
  separated_differ : (separation : Separation) → IsSound p (Apart separation) → (v w : ℕ) → Separates separation v w → v ≢ w
  separated_differ (Each vs) rule v w f e = f.2 e
  separated_differ (Between parts) rule v w f e = parts_differ parts f.0 f.1 v rule.differ f.2 f.3 (rw e f.4)
  separated_differ (FromOthers vs) rule v w f e = f.1 (subst (IsMember vs) e f.0)

  no_groups : (groups : Groups) → IsGroupsFit groups → group_sets p groups ≡ [] → node_count p ≡ 0
  no_groups AnyNode fit e = sym (length-map-range_with_len one 0 (node_count p)) ∙ ap length e
  no_groups (AnyOf groups) fit e = absurd (omega (arith, ltb-true 0 (length groups) fit, length-map groups has_node, ap length e))

  -- where a form is broken in no way, it is kept
  unbroken-kept : (f : Form) → IsSound p f →
      ((v w n : ℕ) → v < machine_count p → w < machine_count p → n < node_count p → FormForbidsPair f v w → v ≢ w → IsTrue ((snapshot_of p plan t).present v (one n)) → ¬ IsTrue ((snapshot_of p plan t).present w (one n))) →
      ((v n : ℕ) → v < machine_count p → n < node_count p → FormForbidsPlace p f v n → ¬ IsTrue ((snapshot_of p plan t).present v (one n))) →
      ¬ BreaksGroup p (snapshot_of p plan t) f → ¬ ExceedsAmount p (snapshot_of p plan t) f → ¬ ExceedsPower p (snapshot_of p plan t) f →
      IsKept p (snapshot_of p plan t) f
  unbroken-kept (Apart separation) rule pair place group amount power =
      λ n v w l i j f x. false_from_ne_true _ (λ y. pair v w n i j l f (separated_differ separation rule v w f) x y)
  unbroken-kept (Allowed vs places) rule pair place group amount power = λ v n i l f. false_from_ne_true _ (λ y. place v n i l f y)
  unbroken-kept (Together vs groups) rule pair place group amount power = no_scattered-grouped p sound plan t vs _ (no_groups groups rule.fit) group
  unbroken-kept (Ordered before after) rule pair place group amount power = λ x. false_from_ne_true _ (λ y. group (x, y))
  unbroken-kept (InTurn vs) rule pair place group amount power =
      λ v w i j d m k x. false_from_ne_true _ (λ y. group (record { v = v; w = w; differ = d; first_member = m; second_member = k; first = x; second = y }))
  unbroken-kept (Bounded weight ns amount) rule pair place group over power = at_most amount _ over
  unbroken-kept (Powered ns amount) rule pair place group over power = at_most amount _ power
  unbroken-kept Settled rule pair place group amount power = tt

  pub unbroken-holds : (k : Constraint) → IsSound p (form_of k) → IsUnbroken p (snapshot_of p plan t) k → Holds p (snapshot_of p plan t) k
  unbroken-holds k rule unbroken =
      unbroken-kept (form_of k) rule (λ v w n i j l f d x y. unbroken.pair v w n i j l (record { forbidden = f; differ = d; first = x; second = y }))
      (λ v n i l f y. unbroken.place v n i l (record { forbidden = f; present = y })) unbroken.group unbroken.set_load unbroken.power
