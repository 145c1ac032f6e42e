-- Between starts there is only less.
use Rattle.std.proofs.Common.{IsTrue, slice_index_or}
use Rattle.base.proofs.Public.{◌≡◌, ◌⊎◌, inl, inr, ℕ, zero, suc, ◌+◌, ◌≤◌, Bool, ◌==◌, List, [], ◌∷◌, refl, ◌∙◌, arith, le-leb, leb-true, cases_lt, or_left, or_right, nat_tests, get_or_past, list_any-append, sum_to-le, positive_above}
use Rattle.slices.specs.Prelude.{Act, Acting, action_at, action_duration, ActionQuiet, all_of, Allowed, Amount, Apart, Between, Bounded, Choice, choice_duration, Choices, choices_of, Constraint as OfConstraint, Each, Element, Form, form_of, FromOthers, held_at, HeldQuiet, Holds, Idle, Image, Instance, InTurn, is_member, is_online, IsElement, IsLessForForm, IsLessSeparated, IsPlanOf, IsQuiet, Keeps, KeepsQuiet, Load, machine_count, machine_matters, matters, MattersQuiet, node, Node as TheNode, node_count, node_matters, Nodes, one, Ordered, PlanChoices, Powered, powered_at, PoweredQuiet, Presence, Progress, Rule, Separation, separation_matters, Settled, snapshot, snapshot_at, stage_at, stage_of, stages_at, Started, Together, Unended, Usable, usable_at, UsableQuiet, Vm, vm, VmId, Weight}
use Rattle.catalogue.specs.declared.constraint.Constraint.{Constraint}
use Rattle.slices.proofs.FewerLemmas.{less_holds}
use Rattle.slices.proofs.MemberLemmas.{joined_member}
use Rattle.slices.proofs.PartLemmas.{held_by-part, not-part, or_implied, powered_of-part, progress_of-part, usable_of-part}

same-number : (v : ℕ) → IsTrue (v == v)
same-number v = grind (arith, nat_tests)

-- ---- a choice that does not start has no more started, and no less ended

pub started-quiet : (d : ℕ) (c : Choice) (u t : ℕ) → u ≤ t → IsQuiet c u t → IsTrue (stage_of d c t).started → IsTrue (stage_of d c u).started
started-quiet d Idle u t l q x = x
started-quiet d (Act place start) u t l q x =
    elim (q start refl) [ inl below ↦ le-leb start u below | inr above ↦ absurd (omega (arith, leb-true start t x)) ]

pub ended-quiet : (d : ℕ) (c : Choice) (u t : ℕ) → u ≤ t → IsTrue (stage_of d c u).ended → IsTrue (stage_of d c t).ended
ended-quiet d Idle u t l x = x
ended-quiet d (Act place start) u t l x = le-leb (start + d) t (omega (arith, leb-true (start + d) u x))

-- ---- one choice

pub held_quiet : HeldQuiet
unfolding held_at stage_at
held_quiet p v w set u t c l q =
    let d = choice_duration p (vm v) c in
    held_by-part p v w set c (stage_of d c t) (stage_of d c u) (started-quiet d c u t l q) (ended-quiet d c u t l)

pub usable_quiet : UsableQuiet
unfolding usable_at stage_at
usable_quiet p n u t c l q =
    let d = choice_duration p (node n) c in
    usable_of-part (is_online p.nodes n) c (stage_of d c t) (stage_of d c u) (started-quiet d c u t l q) (ended-quiet d c u t l)

pub powered_quiet : PoweredQuiet
unfolding powered_at stage_at
powered_quiet p n u t c l q =
    let d = choice_duration p (node n) c in
    powered_of-part (is_online p.nodes n) c (stage_of d c t) (stage_of d c u) (started-quiet d c u t l q) (ended-quiet d c u t l)

pub action_quiet : ActionQuiet
unfolding action_at stage_at
action_quiet p v far u t c l q =
    let d = choice_duration p (vm v) c in
    progress_of-part far c (stage_of d c t) (stage_of d c u) (started-quiet d c u t l q) (ended-quiet d c u t l)

-- what has not ended had not, whether it has started or not
unended-earlier : (p : Instance) (v u t : ℕ) (c : Choice) → u ≤ t → IsTrue (action_at p v Unended t c) → IsTrue (action_at p v Unended u c)
unfolding action_at stage_at
unended-earlier p v u t Idle l x = x
unended-earlier p v u t (Act place start) l x =
    not-part _ _ (ended-quiet (action_duration p (vm v) place) (Act place start) u t l) x

-- ---- all choices

module _ (p : Instance) (plan : Choices) (u t : ℕ) (l : u ≤ t) where
  held-then : (v : ℕ) → IsQuiet (plan (vm v)) u t → (w : Weight) (set : Nodes) → (snapshot_at p plan t).held v w set ≤ (snapshot_at p plan u).held v w set
  unfolding snapshot stages_at held_at
  held-then v q w set = held_quiet p v w set u t (plan (vm v)) l q

  present-then : (v : ℕ) → IsQuiet (plan (vm v)) u t → (set : Nodes) → IsTrue ((snapshot_at p plan t).present v set) → IsTrue ((snapshot_at p plan u).present v set)
  unfolding snapshot stages_at held_at
  present-then v q set = positive_above _ _ (held_quiet p v Presence set u t (plan (vm v)) l q)

  usable-then : (n : ℕ) → IsQuiet (plan (node n)) u t → IsTrue ((snapshot_at p plan u).usable n) → IsTrue ((snapshot_at p plan t).usable n)
  unfolding snapshot stages_at usable_at
  usable-then n q = usable_quiet p n u t (plan (node n)) l q

  powered-then : (n : ℕ) → IsQuiet (plan (node n)) u t → IsTrue ((snapshot_at p plan t).powered n) → IsTrue ((snapshot_at p plan u).powered n)
  unfolding snapshot stages_at powered_at
  powered-then n q = powered_quiet p n u t (plan (node n)) l q

  action-then : (v : ℕ) → IsQuiet (plan (vm v)) u t → (far : Progress) → IsTrue ((snapshot_at p plan t).action v far) → IsTrue ((snapshot_at p plan u).action v far)
  unfolding snapshot stages_at action_at
  action-then v q far = action_quiet p v far u t (plan (vm v)) l q

  unended-then : (v : ℕ) → IsTrue ((snapshot_at p plan t).action v Unended) → IsTrue ((snapshot_at p plan u).action v Unended)
  unfolding snapshot stages_at action_at
  unended-then v = unended-earlier p v u t (plan (vm v)) l

  less_apart-quiet : (separation : Separation) → ((v : ℕ) → IsTrue (separation_matters separation v) → IsQuiet (plan (vm v)) u t) → IsLessSeparated p separation (snapshot_at p plan t) (snapshot_at p plan u)
  less_apart-quiet (Each vs) q = λ v i m. present-then v (q v m)
  less_apart-quiet (Between parts) q = λ j v i m. present-then v (q v (joined_member parts j v m))
  less_apart-quiet (FromOthers vs) q = λ v i. present-then v (q v refl)

  less_for-quiet : (f : Form) → ((v : ℕ) → IsTrue (machine_matters f v) → IsQuiet (plan (vm v)) u t) → ((n : ℕ) → IsTrue (node_matters f n) → IsQuiet (plan (node n)) u t) → IsLessForForm p f (snapshot_at p plan t) (snapshot_at p plan u)
  less_for-quiet (Apart separation) q r = less_apart-quiet separation q
  less_for-quiet (Allowed vs places) q r = λ v i m. present-then v (q v m)
  less_for-quiet (Together vs groups) q r = λ v i m. present-then v (q v m)
  less_for-quiet (Ordered before after) q r = (action-then after.0 (q after.0 (same-number after.0)) Started, unended-then before.0)
  less_for-quiet (InTurn vs) q r = λ v i m. action-then v (q v m) Acting
  less_for-quiet (Bounded weight ns amount) q r = λ v i. held-then v (q v refl) weight
  less_for-quiet (Powered ns amount) q r = λ n i m. powered-then n (r n m)
  less_for-quiet Settled q r = tt

  holds-quiet : (c : Constraint) → ((e : Element) → IsTrue (matters c e) → IsQuiet (plan e) u t) → Holds p (snapshot_at p plan u) c → Holds p (snapshot_at p plan t) c
  holds-quiet c q = less_holds p (snapshot_at p plan t) (snapshot_at p plan u) c (less_for-quiet (form_of c) (λ v m. q (vm v) m) (λ n m. q (node n) m))

  keeps-quiet : ((e : Element) → IsQuiet (plan e) u t) → (last : Bool) (r : Rule) → Keeps p (snapshot_at p plan u) last r → Keeps p (snapshot_at p plan t) last r
  keeps-quiet q last (Load n r) h =
      omega (arith, h, sum_to-le (machine_count p) (λ v. (snapshot_at p plan t).held v (Amount r) (one n.0)) (λ v. (snapshot_at p plan u).held v (Amount r) (one n.0)) (λ v i. held-then v (q (vm v)) (Amount r) (one n.0)))
  keeps-quiet q last (Usable v n) h =
      λ x. usable-then n.0 (q (node n.0)) (h (or_implied _ _ _ _ (present-then v.0 (q (vm v.0)) (one n.0)) (positive_above _ _ (held-then v.0 (q (vm v.0)) Image (one n.0))) x))
  keeps-quiet q last (OfConstraint c) h = λ a k e. holds-quiet k (λ x m. q x) (h a k e)

-- past the end, a plan's choices are Idle
pub past-idle : (p : Instance) (plan : PlanChoices) → IsPlanOf p plan → (e : Element) → IsElement p e ⊎ (choices_of plan e ≡ Idle)
past-idle p plan is (Vm v) =
    elim (cases_lt v.0 (machine_count p)) [ inl below ↦ inl below | inr past ↦ inr (get_or_past plan.machines v.0 Idle (omega (arith, is.machines))) ]
past-idle p plan is (TheNode n) =
    elim (cases_lt n.0 (node_count p)) [ inl below ↦ inl below | inr past ↦ inr (get_or_past plan.nodes n.0 Idle (omega (arith, is.nodes))) ]

quiet-all : (p : Instance) (plan : PlanChoices) → IsPlanOf p plan → (u t : ℕ) (e : Element) → (IsElement p e → IsQuiet (choices_of plan e) u t) → IsQuiet (choices_of plan e) u t
quiet-all p plan is u t e q =
    elim (past-idle p plan is e) [ inl there ↦ q there | inr idle ↦ rw idle (λ s f. cc) ]

pub matters_quiet : MattersQuiet
matters_quiet p plan is u t c l q =
    holds-quiet p (choices_of plan) u t l c (λ e m. quiet-all p plan is u t e (λ there. q e there m))

pub keeps_quiet : KeepsQuiet
keeps_quiet p plan is u t l q last r =
    keeps-quiet p (choices_of plan) u t l (λ e. quiet-all p plan is u t e (q e)) last r
