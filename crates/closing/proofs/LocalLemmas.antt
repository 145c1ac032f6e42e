-- What each watch looks at, and that change instants decide whether it is clean.
use Rattle.closing.proofs.Prelude.{◌≡◌, ◌≢◌, inl, inr, ℕ, Bool, false, ◌==◌, cond, Option, Some, None, refl, arith, cases_eq, false≢true, ne_eqb, slice_get, sum_to-le, cond-implied, cond-le, fails_below, positive_above, Allowed, Amount, Apart, Between, Bounded, broken_at, capacity_of, Clean, Constraint, constraint_watch, ConstraintIsLocal, Cut, Each, Fail, Form, form_of, form_scope, FromOthers, has_node, HasSeparated, Image, Instance, InTurn, is_continuous, IsFormBroken, IsFound, IsLocal, IsLook, IsOverload, IsPartOf, IsPartWithin, load_scope, LoadIsLocal, Look, machine_count, node_count, one, Ordered, Powered, rule_watch, Scope, Separates, Separation, separation_scope, Sets, setting, Settled, Snapshot, Started, sure, Together, ChangeInstantsAreEnough, Unended, UsableIsLocal, watch_of, or_implied, acting_grows, quiet_at_turns_for, scattered_grows, turns_decide_for}
use Rattle.closing.proofs.FormLemmas.{broken_form, form_broken}

-- ---- loads and usable nodes

pub load_is_local : LoadIsLocal
load_is_local p set = record { part = λ s big last part over. (over.0, over.1, more s big part over.0 over.2) }
  where
    more : (s big : Snapshot) → IsPartWithin (load_scope set) s big → (r : ℕ) → IsOverload p s r set → IsOverload p big r set
    more s big part r over =
        omega (
          arith,
          over,
          sum_to-le (machine_count p) (λ v. s.held v (Amount r) set) (λ v. big.held v (Amount r) set) (λ v i. part.held v (Amount r) set (r, refl, refl)),
          sum_to-le (node_count p) (λ n. cond (set n) (cond (big.usable n) (capacity_of p n r) 0) 0) (λ n. cond (set n) (cond (s.usable n) (capacity_of p n r) 0) 0)
              (λ n i. cond-le (set n) _ _ (λ x. cond-implied (big.usable n) (s.usable n) (capacity_of p n r) (part.usable n x))),
        )

pub usable_is_local : UsableIsLocal
usable_is_local p n = record {
  part = λ s big last part x. (
    x.0,
    x.1,
    record {
      stands = or_implied _ _ _ _ (part.present x.0 (one n) refl) (positive_above _ _ (part.held x.0 Image (one n) (refl, refl))) x.2.stands;
      unusable = fails_below _ _ (part.usable n refl) x.2.unusable;
    },
  );
}

-- ---- constraints

-- the machines that are kept apart are looked at
separated-seen : (separation : Separation) (v w n : ℕ) → Separates separation v w → (separation_scope separation).present v (one n) × (separation_scope separation).present w (one n)
separated-seen (Each vs) v w n h = (h.0, h.1)
separated-seen (Between parts) v w n h = ((h.0, h.3), (h.1, h.4))
separated-seen (FromOthers vs) v w n h = (tt, tt)

module _ (p : Instance) (s big : Snapshot) where
  separated-within : (separation : Separation) → IsPartWithin (separation_scope separation) s big → HasSeparated p s separation → HasSeparated p big separation
  separated-within separation part (v, w, i, j, h, (ne, n, l, x, y)) =
      let seen = separated-seen separation v w n h in (v, w, i, j, h, (ne, n, l, part.present v (one n) seen.0 x, part.present w (one n) seen.1 y))

  form-within : (f : Form) → IsPartWithin (form_scope f) s big → IsFormBroken p s f → IsFormBroken p big f
  form-within (Apart separation) part h = separated-within separation part h
  form-within (Allowed vs places) part (v, i, m, (n, l, o, x)) = (v, i, m, (n, l, o, part.present v (one n) m x))
  form-within (Together vs groups) part h = scattered_grows s big vs _ (λ v set m. part.present v set m) h
  form-within (Ordered before after) part h = (part.action after.0 Started (inr refl) h.0, part.action before.0 Unended (inl refl) h.1)
  form-within (InTurn vs) part h = acting_grows s big vs (λ v far m. part.action v far m) h
  form-within (Bounded weight ns amount) part h =
      omega (arith, h, sum_to-le (machine_count p) (λ v. s.held v weight (has_node ns)) (λ v. big.held v weight (has_node ns)) (λ v i. part.held v weight (has_node ns) (refl, refl)))
  form-within (Powered ns amount) part h =
      omega (arith, h, sum_to-le (node_count p) (λ n. cond (has_node ns n) (cond (s.powered n) 1 0) 0) (λ n. cond (has_node ns n) (cond (big.powered n) 1 0) 0) (λ n i. cond-le (has_node ns n) _ _ (λ x. cond-implied (s.powered n) (big.powered n) 1 (part.powered n x))))
  form-within Settled part h = h

pub constraint_is_local : ConstraintIsLocal
constraint_is_local p c = by (slice_get p.constraints c)
  where
    by : (o : Option Constraint) → IsLocal (watch_of p o)
    by None = record { part = λ s big last part x. x }
    by (Some k) = record { part = λ s big last part x. (x.0, broken_form p big k (form-within p s big (form_of k) part (form_broken p s k x.1))) }

-- ---- instants

within-all : (k : Scope) (s big : Snapshot) → IsPartOf s big → IsPartWithin k s big
within-all k s big part = record {
  held = λ v w set i. part.held v w set;
  present = λ v set i. part.present v set;
  usable = λ n i. part.usable n;
  powered = λ n i. part.powered n;
  action = λ v far i. part.action v far;
}

pub change_instants_are_enough : ChangeInstantsAreEnough
change_instants_are_enough w p s local of clean t l = record {
  base = turns_decide_for (λ b last. ¬ w.broken b last) keeps p s of (λ u m change. (clean u m change).base) t l;
  ends = λ e c there end. quiet_at_turns_for (λ b last. ¬ w.broken b last) keeps p s of e c there end (λ u m change. (clean u m change).ends e c there end) t l;
}
  where
    keeps : (s big : Snapshot) (last : Bool) → IsPartOf s big → ¬ w.broken big last → ¬ w.broken s last
    keeps s big last part free x = free (local.part s big last (within-all w.scope s big part) x)

-- ---- a constraint that is to hold at the last instant alone

pub last_look : (p : Instance) (s : Sets) (c : ℕ) (k : Constraint) (look : Look) → slice_get p.constraints c ≡ Some k → is_continuous k ≡ false → IsFound (broken_at (constraint_watch p c) p p.horizon) p s p.horizon look → IsLook (constraint_watch p c) p s look
last_look p s c k look is discrete found = rw is (by look (rw is at found))
  where
    early : (t : ℕ) → t ≢ p.horizon → (b : Snapshot) → ¬ broken_at (rule_watch p k) p t b
    early t ne b x = let off : (t == p.horizon) ≡ false = ne_eqb t p.horizon ne in false≢true (rw (discrete, off) at x.0)

    by : (look : Look) → IsFound (broken_at (rule_watch p k) p p.horizon) p s p.horizon look → IsLook (rule_watch p k) p s look
    by Clean h =
        λ t l.
        elim (cases_eq t p.horizon) [
          | inl same ↦ rw same h
          | inr ne ↦ record { base = early t ne (sure p s t); ends = λ e d i end. early t ne (sure p (setting e d s) t) }
        ]
    by (Fail u) h = (omega (arith, h.0), rw h.0 h.1)
    by (Cut e d u) h = (omega (arith, h.0), rw h.0 h.1)
