-- What is broken in a snapshot is broken in each one with more.
use Rattle.std.proofs.Common.{IsTrue}
use Rattle.base.proofs.Public.{ℕ, ◌<◌, ◌≤◌, Bool, true, false, not, ◌==◌, cond, List, [], ◌∷◌, length, Option, Some, None, refl, arith, filter, IsSomeAnd, eq-eqb, false≢true, or_left, or_right, All-weaker, sum_to-le, cond-implied, cond-le, fails_below, positive_above}
use Rattle.reasons.specs.Prelude.{Acting, Allowed, Amount, Apart, AreBothActing, AreScattered, Between, Bounded, BreaksGroup, capacity_of, Each, ExceedsAmount, ExceedsNodes, ExceedsPower, ExceedsSeparated, Form, form_of, FromOthers, has_node, HasOutside, Image, Instance, InTurn, IsGroup, IsHall, IsMember, IsOverload, IsPair, IsPartIn, IsPlace, IsPower, IsSetLoad, IsUnusable, machine_count, members, node_count, Nodes, one, Ordered, PartsAreIn, PartsBreak, Powered, Progress, room, Separation, Settled, Snapshot, Started, Together, total, Unended, VmId, Weight}
use Rattle.catalogue.specs.declared.constraint.Constraint.{Constraint}
use Rattle.slices.proofs.Public.{or_implied}

pub parts_are_in : PartsAreIn
parts_are_in p s big part = record {
  held = λ v i w set. part.held v w set;
  present = part.present;
  usable = part.usable;
  powered = part.powered;
  action = part.action;
}

-- a constraint that applies passes a weaker test
pub applies-weaker : (o : Option Constraint) (on : Constraint → Bool) (P Q : Constraint → Type 0) → ((k : Constraint) → P k → Q k) → IsSomeAnd o (λ k. IsTrue (on k) × P k) → IsSomeAnd o (λ k. IsTrue (on k) × Q k)
applies-weaker None on P Q f h = h
applies-weaker (Some k) on P Q f h = (h.0, f k h.1)

-- a weaker test keeps no fewer
filter-implied : (f g : VmId → Bool) (vs : List VmId) → ((v : VmId) → IsTrue (f v) → IsTrue (g v)) → length (filter f vs) ≤ length (filter g vs)
filter-implied f g [] h = omega arith
filter-implied f g (v ∷ vs) h = at (f v) (g v) (h v) (filter-implied f g vs h)
  where
    at : (a b : Bool) → (IsTrue a → IsTrue b) → length (filter f vs) ≤ length (filter g vs) → length (cond a (v ∷ filter f vs) (filter f vs)) ≤ length (cond b (v ∷ filter g vs) (filter g vs))
    at true true i l = omega arith
    at true false i l = absurd (false≢true (i refl))
    at false true i l = omega arith
    at false false i l = l

-- ---- whole groups, by more of their members alone

-- the members are present, or as far, where they were
abbrev ArePresentToo : Snapshot → Snapshot → List VmId → Type 0
ArePresentToo s big vs = (v : ℕ) (set : Nodes) → IsMember vs v → IsTrue (s.present v set) → IsTrue (big.present v set)

abbrev AreSoFarToo : Snapshot → Snapshot → List VmId → Type 0
AreSoFarToo s big vs = (v : ℕ) (far : Progress) → IsMember vs v → IsTrue (s.action v far) → IsTrue (big.action v far)

pub scattered_grows : (s big : Snapshot) (vs : List VmId) (groups : List Nodes) → ArePresentToo s big vs → AreScattered s vs groups → AreScattered big vs groups
scattered_grows s big vs groups present h = record {
  some = h.some;
  each = All-weaker (HasOutside s vs) (HasOutside big vs) (λ g x. (x.0, x.1, present x.0 (λ n. not (g n)) x.1 x.2)) groups h.each;
}

pub acting_grows : (s big : Snapshot) (vs : List VmId) → AreSoFarToo s big vs → AreBothActing s vs → AreBothActing big vs
acting_grows s big vs far h = record {
  v = h.v;
  w = h.w;
  differ = h.differ;
  first_member = h.first_member;
  second_member = h.second_member;
  first = far h.v Acting h.first_member h.first;
  second = far h.w Acting h.second_member h.second;
}

pub group_grows : (p : Instance) (s big : Snapshot) (f : Form) → ArePresentToo s big (members f) → AreSoFarToo s big (members f) → BreaksGroup p s f → BreaksGroup p big f
group_grows p s big (Apart separation) present far h = h
group_grows p s big (Allowed vs places) present far h = h
group_grows p s big (Together vs groups) present far h = scattered_grows s big vs _ present h
group_grows p s big (Ordered before after) present far h = (
  far after.0 Started (or_right (before.0 == after.0) _ (or_left (after.0 == after.0) false (eq-eqb after.0 after.0 refl))) h.0,
  far before.0 Unended (or_left (before.0 == before.0) _ (eq-eqb before.0 before.0 refl)) h.1,
)
group_grows p s big (InTurn vs) present far h = acting_grows s big vs far h
group_grows p s big (Bounded weight ns amount) present far h = h
group_grows p s big (Powered ns amount) present far h = h
group_grows p s big Settled present far h = h

-- ---- a part of a snapshot

module _ (p : Instance) (s big : Snapshot) (part : IsPartIn p s big) where
  total-part : (w : Weight) (set : Nodes) → total p s w set ≤ total p big w set
  total-part w set = sum_to-le (machine_count p) (λ v. s.held v w set) (λ v. big.held v w set) (λ v i. part.held v i w set)

  room-part : (r : ℕ) (set : Nodes) → room p big r set ≤ room p s r set
  room-part r set =
      sum_to-le (node_count p) (λ n. cond (set n) (cond (big.usable n) (capacity_of p n r) 0) 0) (λ n. cond (set n) (cond (s.usable n) (capacity_of p n r) 0) 0)
      (λ n i. cond-le (set n) _ _ (λ x. cond-implied (big.usable n) (s.usable n) (capacity_of p n r) (part.usable n)))

  pub overload-part : (r : ℕ) (set : Nodes) → IsOverload p s r set → IsOverload p big r set
  overload-part r set over = omega (arith, over, room-part r set, total-part (Amount r) set)

  pub pair-part : (k : Constraint) (v w n : ℕ) → IsPair p s k v w n → IsPair p big k v w n
  pair-part k v w n h = record {
    forbidden = h.forbidden;
    differ = h.differ;
    first = part.present v (one n) h.first;
    second = part.present w (one n) h.second;
  }

  pub place-part : (k : Constraint) (v n : ℕ) → IsPlace p s k v n → IsPlace p big k v n
  place-part k v n h = record { forbidden = h.forbidden; present = part.present v (one n) h.present }

  pub group-part : (k : Constraint) → IsGroup p s k → IsGroup p big k
  group-part k h = group_grows p s big (form_of k) (λ v set m. part.present v set) (λ v far m. part.action v far) h

  amount-part : (f : Form) → ExceedsAmount p s f → ExceedsAmount p big f
  amount-part (Apart separation) h = h
  amount-part (Allowed vs places) h = h
  amount-part (Together vs groups) h = h
  amount-part (Ordered before after) h = h
  amount-part (InTurn vs) h = h
  amount-part (Bounded weight ns amount) h = omega (arith, h, total-part weight (has_node ns))
  amount-part (Powered ns amount) h = h
  amount-part Settled h = h

  pub set_load-part : (k : Constraint) → IsSetLoad p s k → IsSetLoad p big k
  set_load-part k h = amount-part (form_of k) h

  powered-part : (f : Form) → ExceedsPower p s f → ExceedsPower p big f
  powered-part (Apart separation) h = h
  powered-part (Allowed vs places) h = h
  powered-part (Together vs groups) h = h
  powered-part (Ordered before after) h = h
  powered-part (InTurn vs) h = h
  powered-part (Bounded weight ns amount) h = h
  powered-part (Powered ns amount) h = omega (arith, h, sum_to-le (node_count p) (λ n. cond (has_node ns n) (cond (s.powered n) 1 0) 0) (λ n. cond (has_node ns n) (cond (big.powered n) 1 0) 0) (λ n i. cond-le (has_node ns n) _ _ (λ x. cond-implied (s.powered n) (big.powered n) 1 (part.powered n))))
  powered-part Settled h = h

  pub power-part : (k : Constraint) → IsPower p s k → IsPower p big k
  power-part k h = powered-part (form_of k) h

  pub unusable-part : (v n : ℕ) → v < machine_count p → IsUnusable s v n → IsUnusable big v n
  unusable-part v n i h = record {
    stands = or_implied _ _ _ _ (part.present v (one n)) (positive_above _ _ (part.held v i Image (one n))) h.stands;
    unusable = fails_below _ _ (part.usable n) h.unusable;
  }

  separated-part : (set : Nodes) (separation : Separation) → ExceedsSeparated p s set separation → ExceedsSeparated p big set separation
  separated-part set (Each vs) h = omega (arith, h, filter-implied (λ v. s.present v.0 set) (λ v. big.present v.0 set) vs (λ v. part.present v.0 set))
  separated-part set (Between parts) h = h
  separated-part set (FromOthers vs) h = h

  nodes-part : (set : Nodes) (f : Form) → ExceedsNodes p s set f → ExceedsNodes p big set f
  nodes-part set (Apart separation) h = separated-part set separation h
  nodes-part set (Allowed vs places) h = h
  nodes-part set (Together vs groups) h = h
  nodes-part set (Ordered before after) h = h
  nodes-part set (InTurn vs) h = h
  nodes-part set (Bounded weight ns amount) h = h
  nodes-part set (Powered ns amount) h = h
  nodes-part set Settled h = h

  pub hall-part : (set : Nodes) (k : Constraint) → IsHall p s set k → IsHall p big set k
  hall-part set k h = nodes-part set (form_of k) h

pub parts_break : PartsBreak
parts_break p s big part = record {
  overload = overload-part p s big part;
  pair = pair-part p s big part;
  place = place-part p s big part;
  group = group-part p s big part;
  set_load = set_load-part p s big part;
  power = power-part p s big part;
  unusable = unusable-part p s big part;
  hall = hall-part p s big part;
}
