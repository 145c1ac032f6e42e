-- A plan of the whole is legal and valid exactly where the plans of its parts are.
use Rattle.std.proofs.Common.{IsTrue, slice_get}
use Rattle.base.proofs.Public.{◌≡◌, inl, inr, ℕ, ◌<◌, ◌≤◌, Bool, true, false, not, ◌==◌, ◌||◌, List, length, Option, Some, nat_lt, refl, sym, ap, ap₂, subst, ◌∙◌, arith, cases_Bool, eq-eqb, eqb-true, false≢true, or_left, or_right, slice_get_within, true≢false}
use Rattle.cluster.specs.declared.ids.Element.TheVariants.{Vm, Node as TheNode}
use Rattle.cluster.specs.declared.sets.NodeSet.{NodeSet}
use Rattle.catalogue.specs.Prelude.{capacity_of, continuous_at, Instance, is_continuous}
use Rattle.catalogue.specs.declared.constraint.Constraint.{Constraint}
use Rattle.slices.specs.declared.rule.Rule.{Rule}
use Rattle.slices.specs.declared.rule.Rule.TheVariants.{Load, Usable, Constraint as OfConstraint}
use Rattle.slices.specs.declared.slice.Weight.TheVariants.{Amount, Image}
use Rattle.slices.specs.Actions.{is_legal}
use Rattle.slices.specs.Elements.{machine_count, node, node_count, vm}
use Rattle.slices.specs.Ends.{snapshot_of}
use Rattle.slices.specs.Forms.{Form, Apart, Allowed, Together, Ordered, InTurn, Bounded, Powered, Settled, form_of}
use Rattle.slices.specs.Holds.{Holds, IsKept}
use Rattle.slices.specs.Plans.{Choices, IsPlan}
use Rattle.slices.specs.Rules.{InRange, IsValid, Keeps}
use Rattle.slices.specs.Snapshots.{load, Snapshot, stands_on, total}
use Rattle.slices.specs.Stages.{one}
use Rattle.slices.proofs.Public.{is_pointwise}
use Rattle.parts.proofs.CutForms.{cut_form}
use Rattle.parts.specs.Cuts.{cut_constraint}
use Rattle.parts.specs.Embeds.{Embeds, node_at, vm_at}
use Rattle.parts.specs.Groups.{in_group, machine_group, node_group}
use Rattle.parts.specs.Laws.{Split}
use Rattle.parts.specs.Numbers.{new_number}
use Rattle.parts.specs.Parts.{has_form, in_part, part_of}
use Rattle.parts.specs.Splits.{home, is_joint}
use Rattle.parts.proofs.CutLemmas.{cuts_form}
use Rattle.parts.proofs.FindLemmas.{found}
use Rattle.parts.proofs.HoldLemmas.{legal_agrees, node_legal_agrees}
use Rattle.parts.proofs.InsideLemmas.{home_in, inside_home}
use Rattle.parts.proofs.NumberLemmas.{old_apart}
use Rattle.parts.proofs.SplitLemmas.{covered, group_in, part_embeds}
use Rattle.parts.proofs.ViewLemmas.{allowed_up, held_one, IsInside, IsView, kept_down, kept_up, node_back, node_in, node_new, node_ours, present_at, total_agrees, unjoint_down, vm_back, vm_in, vm_new}
use Rattle.parts.proofs.WholeLemmas.{AllFit, Fits, view}

-- the part has a joint form at its home alone
pub at_home : (p : Instance) (groups : List NodeSet) (i : ℕ) (f : Form) → is_joint f ≡ true → has_form p groups i f ≡ true → home p groups f ≡ i
at_home p groups i f joint has = by (is_joint f) joint has
  where
    by : (b : Bool) → b ≡ true → (not b || (home p groups f == i)) ≡ true → home p groups f ≡ i
    by true e h = eqb-true _ _ h
    by false e h = absurd (false≢true e)

has_home : (p : Instance) (groups : List NodeSet) (f : Form) → has_form p groups (home p groups f) f ≡ true
has_home p groups f = or_right (not (is_joint f)) _ (eq-eqb (home p groups f) (home p groups f) refl)

has_each : (p : Instance) (groups : List NodeSet) (i : ℕ) (f : Form) → is_joint f ≡ false → has_form p groups i f ≡ true
has_each p groups i f apart = or_left (not (is_joint f)) _ (ap not apart)

module _ (p : Instance) (groups : List NodeSet) (split : Split p groups) where
  emb : (i : ℕ) → Embeds p (part_of p groups i) (in_part p groups i) (in_group groups i) (has_form p groups i)
  emb i = part_embeds p groups split i

  -- ---- what is where, in the whole and in a part

  module _ (i : ℕ) (li : i < length groups) (s u : Snapshot) (seen : IsView p (part_of p groups i) (in_part p groups i) (in_group groups i) s u) where
    load_agrees : (m r : ℕ) → m < node_count (part_of p groups i) → load p s r (one (node_at p (in_group groups i) m)) ≡ load (part_of p groups i) u r (one m)
    load_agrees m r lm =
        total_agrees p (part_of p groups i) (in_part p groups i) (in_group groups i) (has_form p groups i) (emb i) s u seen (Amount r) (one (node_at p (in_group groups i) m))
        (λ n same. subst (λ (x : ℕ). IsTrue (in_group groups i x)) (sym (eqb-true n (node_at p (in_group groups i) m) same)) (node_ours p (part_of p groups i) (in_part p groups i) (in_group groups i) (has_form p groups i) (emb i) m lm))
        ∙ ap (total (part_of p groups i) u (Amount r)) (λ j n. old_apart (in_group groups i) (node_count p) n m j)

    stands_agrees : (k m : ℕ) → k < machine_count (part_of p groups i) → stands_on s (vm_at p (in_part p groups i) k) (node_at p (in_group groups i) m) ≡ stands_on u k m
    stands_agrees k m lk =
        ap₂ (λ (a b : Bool). a || b)
        (present_at p (part_of p groups i) (in_part p groups i) (in_group groups i) (has_form p groups i) (emb i) s u seen k m lk)
        (ap (nat_lt 0) (held_one p (part_of p groups i) (in_part p groups i) (in_group groups i) (has_form p groups i) (emb i) s u seen k m Image lk))

    -- ---- from the whole to the part

    holds_down : (c : ℕ) (x : Constraint) → slice_get p.constraints c ≡ Some x → has_form p groups i (form_of x) ≡ true → Holds p s x → Holds (part_of p groups i) u (cut_constraint (in_part p groups i) (in_group groups i) (node_count p) x)
    holds_down c x at has h =
        subst (IsKept (part_of p groups i) u) (sym (cuts_form (in_part p groups i) (in_group groups i) (node_count p) x).form)
        (elim (cases_Bool (is_joint (form_of x))) [
          | inr apart ↦ unjoint_down p (part_of p groups i) (in_part p groups i) (in_group groups i) (has_form p groups i) (emb i) s u seen (form_of x) apart h
          | inl joint ↦
              let here : home p groups (form_of x) ≡ i = at_home p groups i (form_of x) joint has in
              kept_down p (part_of p groups i) (in_part p groups i) (in_group groups i) (has_form p groups i) (emb i) s u seen (form_of x)
              (subst (λ (j : ℕ). IsInside p (in_part p groups j) (in_group groups j) (form_of x)) here (inside_home p groups split c x at joint)) h
        ])

    keeps_down : (last : Bool) → ((r : Rule) → InRange p r → Keeps p s last r) → (r : Rule) → InRange (part_of p groups i) r → Keeps (part_of p groups i) u last r
    keeps_down last all (Load n r) range =
        let big : load p s r (one (node_at p (in_group groups i) n.0)) ≤ capacity_of p (node_at p (in_group groups i) n.0) r =
        all (Load (record { 0 = node_at p (in_group groups i) n.0 }) r) (node_in p (part_of p groups i) (in_part p groups i) (in_group groups i) (has_form p groups i) (emb i) n.0 range.0, subst (λ (l : List (List ℕ)). r < length l) (emb i).resources range.1) in
        omega (arith, big, load_agrees n.0 r range.0, (emb i).capacity n.0 r range.0)
    keeps_down last all (Usable v n) range = λ stands.
        sym (seen.usable n.0 range.1)
        ∙ all (Usable (record { 0 = vm_at p (in_part p groups i) v.0 }) (record { 0 = node_at p (in_group groups i) n.0 })) (vm_in p (part_of p groups i) (in_part p groups i) (in_group groups i) (has_form p groups i) (emb i) v.0 range.0, node_in p (part_of p groups i) (in_part p groups i) (in_group groups i) (has_form p groups i) (emb i) n.0 range.1)
        (stands_agrees v.0 n.0 range.0 ∙ stands)
    keeps_down last all (OfConstraint d) range = λ applies y at.
        let from = (emb i).only d y at in
        let continuous : is_continuous y ≡ is_continuous from.x = ap is_continuous (sym from.cut) ∙ (cuts_form (in_part p groups i) (in_group groups i) (node_count p) from.x).continuous in
        let now : (continuous_at (slice_get p.constraints from.place) || last) ≡ true =
        ap (λ (o : Option Constraint). continuous_at o || last) from.at ∙ ap (λ (b : Bool). b || last) (sym continuous) ∙ sym (ap (λ (o : Option Constraint). continuous_at o || last) at) ∙ applies in
        subst (Holds (part_of p groups i) u) from.cut (holds_down from.place from.x from.at from.kept (all (OfConstraint from.place) (slice_get_within p.constraints from.place from.x from.at) now from.x from.at))

  -- ---- from all parts to the whole

  module _ (s : Snapshot) (u : ℕ → Snapshot) (seen : (i : ℕ) → i < length groups → IsView p (part_of p groups i) (in_part p groups i) (in_group groups i) s (u i)) (last : Bool)
      (all : (i : ℕ) → i < length groups → (r : Rule) → InRange (part_of p groups i) r → Keeps (part_of p groups i) (u i) last r) where
    -- a constraint that a part has holds there
    holds_cut : (i : ℕ) → i < length groups → (c : ℕ) (x : Constraint) → slice_get p.constraints c ≡ Some x → has_form p groups i (form_of x) ≡ true → (continuous_at (slice_get p.constraints c) || last) ≡ true →
        IsKept (part_of p groups i) (u i) (cut_form (in_part p groups i) (in_group groups i) (node_count p) (form_of x))
    holds_cut i li c x at has applies =
        let w = (emb i).has c x at has in
        let now : (continuous_at (slice_get (part_of p groups i).constraints w.0) || last) ≡ true =
        ap (λ (o : Option Constraint). continuous_at o || last) w.1 ∙ ap (λ (b : Bool). b || last) (cuts_form (in_part p groups i) (in_group groups i) (node_count p) x).continuous ∙ sym (ap (λ (o : Option Constraint). continuous_at o || last) at) ∙ applies in
        subst (IsKept (part_of p groups i) (u i)) (cuts_form (in_part p groups i) (in_group groups i) (node_count p) x).form
        (all i li (OfConstraint w.0) (slice_get_within (part_of p groups i).constraints w.0 _ w.1) now (cut_constraint (in_part p groups i) (in_group groups i) (node_count p) x) w.1)

    unjoint_up : (f : Form) → is_joint f ≡ false → ((i : ℕ) → i < length groups → IsKept (part_of p groups i) (u i) (cut_form (in_part p groups i) (in_group groups i) (node_count p) f)) → IsKept p s f
    unjoint_up (Apart separation) apart h = absurd (true≢false apart)
    unjoint_up (Allowed vs places) apart h = λ v n lv ln off.
        let i : ℕ = machine_group p groups v in
        let li : machine_group p groups v < length groups = group_in p groups split v in
        allowed_up p (part_of p groups (machine_group p groups v)) (in_part p groups (machine_group p groups v)) (in_group groups (machine_group p groups v)) (has_form p groups (machine_group p groups v)) (emb (machine_group p groups v)) s (u (machine_group p groups v)) (seen (machine_group p groups v) li) vs places
        (h (machine_group p groups v) li) v n lv ln (eq-eqb (machine_group p groups v) (machine_group p groups v) refl) off
    unjoint_up (Together vs choices) apart h = absurd (true≢false apart)
    unjoint_up (Ordered before after) apart h = absurd (true≢false apart)
    unjoint_up (InTurn vs) apart h = absurd (true≢false apart)
    unjoint_up (Bounded weight ns amount) apart h = absurd (true≢false apart)
    unjoint_up (Powered ns amount) apart h = absurd (true≢false apart)
    unjoint_up Settled apart h = tt

    keeps_up : (r : Rule) → InRange p r → Keeps p s last r
    keeps_up (Load n r) range =
        let g = covered p groups split n.0 range.0 in
        let in_g = found (λ j. in_group groups j n.0) 0 (length groups) g.0 g.1 in
        let lg : g.0 < length groups = omega (arith, in_g.high) in
        let lm = node_new p (part_of p groups g.0) (in_part p groups g.0) (in_group groups g.0) (has_form p groups g.0) (emb g.0) n.0 range.0 in_g.passes in
        let back : node_at p (in_group groups g.0) (new_number (in_group groups g.0) n.0) ≡ n.0 = node_back p (part_of p groups g.0) (in_part p groups g.0) (in_group groups g.0) (has_form p groups g.0) (emb g.0) n.0 range.0 in_g.passes in
        let small : load (part_of p groups g.0) (u g.0) r (one (new_number (in_group groups g.0) n.0)) ≤ capacity_of (part_of p groups g.0) (new_number (in_group groups g.0) n.0) r =
        all g.0 lg (Load (record { 0 = new_number (in_group groups g.0) n.0 }) r) (lm, subst (λ (l : List (List ℕ)). r < length l) (sym (emb g.0).resources) range.1) in
        let there : load p s r (one (node_at p (in_group groups g.0) (new_number (in_group groups g.0) n.0))) ≤ capacity_of p (node_at p (in_group groups g.0) (new_number (in_group groups g.0) n.0)) r =
        omega (arith, small, load_agrees g.0 lg s (u g.0) (seen g.0 lg) (new_number (in_group groups g.0) n.0) r lm, (emb g.0).capacity (new_number (in_group groups g.0) n.0) r lm) in
        subst (λ (x : ℕ). load p s r (one x) ≤ capacity_of p x r) back there
    keeps_up (Usable v n) range = λ stands.
        let i : ℕ = machine_group p groups v.0 in
        let li : machine_group p groups v.0 < length groups = group_in p groups split v.0 in
        let own : IsTrue (in_part p groups (machine_group p groups v.0) v.0) = eq-eqb (machine_group p groups v.0) (machine_group p groups v.0) refl in
        elim (cases_Bool (in_group groups (machine_group p groups v.0) n.0)) [
          | inr out ↦
              let away : stands_on s v.0 n.0 ≡ false =
              ap₂ (λ (a b : Bool). a || b) ((seen (machine_group p groups v.0) li).elsewhere_absent v.0 n.0 range.0 own range.1 out) (ap (nat_lt 0) ((seen (machine_group p groups v.0) li).elsewhere v.0 n.0 Image range.0 own range.1 out)) in
              absurd (false≢true (sym away ∙ stands))
          | inl on ↦ usable_up (machine_group p groups v.0) li v.0 n.0 range.0 range.1 own on stands
        ]
      where
        usable_up : (i : ℕ) → i < length groups → (v n : ℕ) → v < machine_count p → n < node_count p → IsTrue (in_part p groups i v) → IsTrue (in_group groups i n) → IsTrue (stands_on s v n) → IsTrue (s.usable n)
        usable_up i li v n lv ln own on stands =
            let lk = vm_new p (part_of p groups i) (in_part p groups i) (in_group groups i) (has_form p groups i) (emb i) v lv own in
            let lm = node_new p (part_of p groups i) (in_part p groups i) (in_group groups i) (has_form p groups i) (emb i) n ln on in
            let vm_is : vm_at p (in_part p groups i) (new_number (in_part p groups i) v) ≡ v = vm_back p (part_of p groups i) (in_part p groups i) (in_group groups i) (has_form p groups i) (emb i) v lv own in
            let node_is : node_at p (in_group groups i) (new_number (in_group groups i) n) ≡ n = node_back p (part_of p groups i) (in_part p groups i) (in_group groups i) (has_form p groups i) (emb i) n ln on in
            let there : IsTrue (stands_on (u i) (new_number (in_part p groups i) v) (new_number (in_group groups i) n)) =
            sym (stands_agrees i li s (u i) (seen i li) (new_number (in_part p groups i) v) (new_number (in_group groups i) n) lk) ∙ ap₂ (λ (a b : ℕ). stands_on s a b) vm_is node_is ∙ stands in
            ap s.usable (sym node_is) ∙ (seen i li).usable (new_number (in_group groups i) n) lm
            ∙ all i li (Usable (record { 0 = new_number (in_part p groups i) v }) (record { 0 = new_number (in_group groups i) n })) (lk, lm) there
    keeps_up (OfConstraint c) range = λ applies x at.
        elim (cases_Bool (is_joint (form_of x))) [
          | inr apart ↦ unjoint_up (form_of x) apart (λ i li. holds_cut i li c x at (has_each p groups i (form_of x) apart) applies)
          | inl joint ↦
              let lh = home_in p groups split c x at joint in
              kept_up p (part_of p groups (home p groups (form_of x))) (in_part p groups (home p groups (form_of x))) (in_group groups (home p groups (form_of x))) (has_form p groups (home p groups (form_of x))) (emb (home p groups (form_of x))) s (u (home p groups (form_of x))) (seen (home p groups (form_of x)) lh) (form_of x) joint
              (inside_home p groups split c x at joint) (holds_cut (home p groups (form_of x)) lh c x at (has_home p groups (form_of x)) applies)
        ]

  -- ---- plans

  -- a plan of a part that fits a plan of the whole
  pub part_legal : (i : ℕ) (plan part : Choices) → Fits p (part_of p groups i) (in_part p groups i) (in_group groups i) plan part → IsPlan p plan → IsPlan (part_of p groups i) part
  part_legal i plan part fits legal (Vm v) l =
      sym (legal_agrees p (part_of p groups i) (in_part p groups i) (in_group groups i) (has_form p groups i) (emb i) v.0 l (part (Vm v)))
      ∙ ap (is_legal p (vm (vm_at p (in_part p groups i) v.0))) (sym (fits.machines v.0 l))
      ∙ legal (vm (vm_at p (in_part p groups i) v.0)) (vm_in p (part_of p groups i) (in_part p groups i) (in_group groups i) (has_form p groups i) (emb i) v.0 l)
  part_legal i plan part fits legal (TheNode n) l =
      sym (node_legal_agrees p (part_of p groups i) (in_part p groups i) (in_group groups i) (has_form p groups i) (emb i) n.0 l (part (TheNode n)))
      ∙ ap (is_legal p (node (node_at p (in_group groups i) n.0))) (sym (fits.nodes n.0 l))
      ∙ legal (node (node_at p (in_group groups i) n.0)) (node_in p (part_of p groups i) (in_part p groups i) (in_group groups i) (has_form p groups i) (emb i) n.0 l)

  module _ (plan : Choices) (plans : ℕ → Choices) (fits : AllFit p groups plan plans) where
    pub valid_down : IsValid p plan → (i : ℕ) → i < length groups → IsValid (part_of p groups i) (plans i)
    unfolding IsValid
    valid_down valid i li t lt r range =
        let same : (t == p.horizon) ≡ (t == (part_of p groups i).horizon) = ap (λ (h : ℕ). t == h) (sym (emb i).horizon) in
        let all : (x : Rule) → InRange p x → Keeps p (snapshot_of p plan t) (t == (part_of p groups i).horizon) x = λ x range.
        subst (λ (b : Bool). Keeps p (snapshot_of p plan t) b x) same (subst (λ (s : Snapshot). Keeps p s (t == p.horizon) x) (is_pointwise p plan t) (valid t (omega (arith, lt, (emb i).horizon)) x range)) in
        subst (λ (s : Snapshot). Keeps (part_of p groups i) s (t == (part_of p groups i).horizon) r) (sym (is_pointwise (part_of p groups i) (plans i) t))
        (keeps_down i li (snapshot_of p plan t) (snapshot_of (part_of p groups i) (plans i) t) (view p groups split plan plans fits t i li) (t == (part_of p groups i).horizon) all r range)

    pub valid_up : ((i : ℕ) → i < length groups → IsValid (part_of p groups i) (plans i)) → IsValid p plan
    unfolding IsValid
    valid_up valid t lt r range =
        subst (λ (s : Snapshot). Keeps p s (t == p.horizon) r) (sym (is_pointwise p plan t))
        (keeps_up (snapshot_of p plan t) (λ i. snapshot_of (part_of p groups i) (plans i) t) (λ i li. view p groups split plan plans fits t i li) (t == p.horizon)
        (λ i li x inside.
        let same : (t == (part_of p groups i).horizon) ≡ (t == p.horizon) = ap (λ (h : ℕ). t == h) (emb i).horizon in
        subst (λ (b : Bool). Keeps (part_of p groups i) (snapshot_of (part_of p groups i) (plans i) t) b x) same
        (subst (λ (s : Snapshot). Keeps (part_of p groups i) s (t == (part_of p groups i).horizon) x) (is_pointwise (part_of p groups i) (plans i) t) (valid i li t (omega (arith, lt, (emb i).horizon)) x inside)))
        r range)

    pub legal_down : IsPlan p plan → (i : ℕ) → i < length groups → IsPlan (part_of p groups i) (plans i)
    legal_down legal i li = part_legal i plan (plans i) (fits i li) legal

    pub legal_up : ((i : ℕ) → i < length groups → IsPlan (part_of p groups i) (plans i)) → IsPlan p plan
    legal_up legal (Vm v) l = machine (machine_group p groups v.0) (group_in p groups split v.0) v.0 l (eq-eqb (machine_group p groups v.0) (machine_group p groups v.0) refl)
      where
        machine : (i : ℕ) → i < length groups → (v : ℕ) → v < machine_count p → IsTrue (in_part p groups i v) → IsTrue (is_legal p (vm v) (plan (vm v)))
        machine i li v lv own =
            let lk = vm_new p (part_of p groups i) (in_part p groups i) (in_group groups i) (has_form p groups i) (emb i) v lv own in
            let back : vm_at p (in_part p groups i) (new_number (in_part p groups i) v) ≡ v = vm_back p (part_of p groups i) (in_part p groups i) (in_group groups i) (has_form p groups i) (emb i) v lv own in
            ap (λ (x : ℕ). is_legal p (vm x) (plan (vm x))) (sym back)
            ∙ ap (is_legal p (vm (vm_at p (in_part p groups i) (new_number (in_part p groups i) v)))) ((fits i li).machines (new_number (in_part p groups i) v) lk)
            ∙ legal_agrees p (part_of p groups i) (in_part p groups i) (in_group groups i) (has_form p groups i) (emb i) (new_number (in_part p groups i) v) lk (plans i (vm (new_number (in_part p groups i) v)))
            ∙ legal i li (vm (new_number (in_part p groups i) v)) lk
    legal_up legal (TheNode n) l = there (covered p groups split n.0 l)
      where
        at_node : (i : ℕ) → i < length groups → (n : ℕ) → n < node_count p → IsTrue (in_group groups i n) → IsTrue (is_legal p (node n) (plan (node n)))
        at_node i li n ln on =
            let lm = node_new p (part_of p groups i) (in_part p groups i) (in_group groups i) (has_form p groups i) (emb i) n ln on in
            let back : node_at p (in_group groups i) (new_number (in_group groups i) n) ≡ n = node_back p (part_of p groups i) (in_part p groups i) (in_group groups i) (has_form p groups i) (emb i) n ln on in
            ap (λ (x : ℕ). is_legal p (node x) (plan (node x))) (sym back)
            ∙ ap (is_legal p (node (node_at p (in_group groups i) (new_number (in_group groups i) n)))) ((fits i li).nodes (new_number (in_group groups i) n) lm)
            ∙ node_legal_agrees p (part_of p groups i) (in_part p groups i) (in_group groups i) (has_form p groups i) (emb i) (new_number (in_group groups i) n) lm (plans i (node (new_number (in_group groups i) n)))
            ∙ legal i li (node (new_number (in_group groups i) n)) lm

        there : (j : ℕ) × (node_group groups n.0 ≡ Some j) → IsTrue (is_legal p (TheNode n) (plan (TheNode n)))
        there g =
            let in_g = found (λ j. in_group groups j n.0) 0 (length groups) g.0 g.1 in
            at_node g.0 (omega (arith, in_g.high)) n.0 l in_g.passes
