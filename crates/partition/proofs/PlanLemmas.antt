-- Parts and unions of plans by tables are those of the definitions.
use Rattle.std.proofs.Common.{IsTrue}
use Rattle.base.proofs.Public.{◌≡◌, inl, inr, ℕ, zero, suc, ◌+◌, ◌<◌, ◌≤◌, Bool, true, false, not, ◌||◌, ◌==◌, List, [], ◌∷◌, ◌++◌, add-zero, append-nil, drop, drop-append-add, length, take, take-append_seam, map, filter, if◌then◌else◌, slice_index_or, refl, sym, ap, ap₂, subst, ◌∙◌, append_assoc, arith, cases_Bool, cases_lt, each_passes, false≢true, list_all, filter-append, get_or-map, get_or-map-range_with_len, get_or_past, length-map, map-append, range_more, range_with_len}
use Rattle.cluster.specs.declared.choices.Choice.{Choice}
use Rattle.cluster.specs.declared.choices.Choice.TheVariants.{Idle, Act}
use Rattle.cluster.specs.declared.choices.Place.TheVariants.{Nowhere, At}
use Rattle.cluster.specs.declared.ids.Element.{Element}
use Rattle.cluster.specs.declared.ids.Element.TheVariants.{Vm, Node as TheNode}
use Rattle.cluster.specs.declared.sets.NodeSet.{NodeSet}
use Rattle.catalogue.specs.Prelude.{Instance}
use Rattle.slices.specs.Actions.{is_legal}
use Rattle.slices.specs.Elements.{machine_count, node, node_count, vm}
use Rattle.slices.specs.Plans.{choices_of, IsPlanOf, parted, PlanChoices}
use Rattle.parts.specs.Cuts.{renumbered_choice}
use Rattle.parts.specs.Groups.{in_group}
use Rattle.parts.specs.Laws.{Split}
use Rattle.parts.specs.Numbers.{new_number, old_number, passing}
use Rattle.parts.specs.Parts.{in_part, part_of}
use Rattle.parts.specs.Unions.{part_choices, StaysIn}
use Rattle.parts.proofs.Public.{legal_place, never_legal, old_in, old_passes, part_embeds, part_is_plan}
use Rattle.partition.specs.Division.{Divides, group_number}
use Rattle.partition.specs.Numbering.{AreNumbers, node_number}
use Rattle.partition.specs.Plans.{cut_choices, cut_plan, IsPartPlan, part_stays_by, PartLeaves, PartStays, stays_by}
use Rattle.partition.specs.Reach.{at}
use Rattle.partition.proofs.DivisionLemmas.{in_as_number, in_own}
use Rattle.partition.proofs.FaultLemmas.{at_machine}
use Rattle.partition.proofs.NumberingLemmas.{count_machines, count_nodes}

-- ---- lists of those that pass

same_filter : (a b : ℕ → Bool) (from n : ℕ) → ((x : ℕ) → from ≤ x → x < from + n → a x ≡ b x) → filter a (range_with_len from n) ≡ filter b (range_with_len from n)
same_filter a b from zero same = refl
same_filter a b from (suc n) same =
    ap₂ (λ (t : Bool) (l : List ℕ). if t then from ∷ l else l) (same from (omega arith) (omega arith)) (same_filter a b (from + 1) n (λ x low high. same x (omega (arith, low)) (omega (arith, high))))

same_passing : (a b : ℕ → Bool) (n m : ℕ) → n ≡ m → ((x : ℕ) → x < m → a x ≡ b x) → passing a n ≡ passing b m
same_passing a b n m long same = ap (passing a) long ∙ same_filter a b 0 m (λ x low high. same x (omega (arith, high)))

-- one number more, if it passes
more_if : {A : Type 0} (test : ℕ → Bool) (f : ℕ → A) (n : ℕ) (b : Bool) → test n ≡ b → map f (passing test n) ++ (if b then f n ∷ [] else []) ≡ map f (passing test (n + 1))
more_if test f n true pass =
    let more : passing test (n + 1) ≡ passing test n ++ n ∷ [] = ap (filter test) (range_more n) ∙ filter-append test (range_with_len 0 n) (n ∷ []) ∙ rw pass refl in
    sym (ap (map f) more ∙ map-append f (passing test n) (n ∷ []))
more_if test f n false fail =
    let same : passing test (n + 1) ≡ passing test n = ap (filter test) (range_more n) ∙ filter-append test (range_with_len 0 n) (n ∷ []) ∙ rw fail (append-nil (passing test n)) in
    append-nil (map f (passing test n)) ∙ ap (map f) (sym same)

pub one_more_if : {A : Type 0} (test : ℕ → Bool) (f : ℕ → A) (n : ℕ) (start now new : List A) (b : Bool) (y : A) → now ≡ start ++ map f (passing test n) → new ≡ now ++ (if b then y ∷ [] else []) → test n ≡ b → y ≡ f n →
    new ≡ start ++ map f (passing test (n + 1))
one_more_if test f n start now new b y was step passes is =
    step ∙ ap₂ (λ (l : List _) (z : _). l ++ (if b then z ∷ [] else [])) was is ∙ append_assoc start (map f (passing test n)) (if b then f n ∷ [] else []) ∙ ap (λ (l : List _). start ++ l) (more_if test f n b passes)

-- one number more
pub one_more_joined : {A : Type 0} (f : ℕ → A) (n : ℕ) (start now : List A) (y : A) → now ≡ start ++ map f (range_with_len 0 n) → y ≡ f n → now ++ y ∷ [] ≡ start ++ map f (range_with_len 0 (n + 1))
one_more_joined f n start now y was is =
    ap₂ (λ (l : List _) (z : _). l ++ z ∷ []) was is ∙ append_assoc start (map f (range_with_len 0 n)) (f n ∷ []) ∙ ap (λ (l : List _). start ++ l) (sym (map-append f (range_with_len 0 n) (n ∷ [])) ∙ ap (map f) (sym (range_more n)))

-- ---- the part of a plan

-- the choices of those that pass, and the choice of each of them by its old number
cut_at : (test : ℕ → Bool) (count : ℕ) (number other : ℕ → ℕ) (choices : List Choice) → length choices ≡ count →
    ((x : ℕ) → x < count → test x ≡ true → renumbered_choice number (slice_index_or choices x Idle) ≡ renumbered_choice other (slice_index_or choices x Idle)) → (k : ℕ) →
    slice_index_or (map (λ x. renumbered_choice number (slice_index_or choices x Idle)) (passing test count)) k Idle ≡ renumbered_choice other (slice_index_or choices (old_number test count k) Idle)
cut_at test count number other choices long same k =
    elim (cases_lt k (length (passing test count))) [
      | inl low ↦
          get_or-map (λ x. renumbered_choice number (slice_index_or choices x Idle)) (passing test count) k (count + k) Idle low
          ∙ same (old_number test count k) (old_in test count k low) (old_passes test count k low)
      | inr past ↦
          let old : old_number test count k ≡ count + k = get_or_past (passing test count) k (count + k) past in
          get_or_past (map (λ x. renumbered_choice number (slice_index_or choices x Idle)) (passing test count)) k Idle (omega (arith, past, length-map (passing test count) (λ x. renumbered_choice number (slice_index_or choices x Idle))))
          ∙ sym (ap (renumbered_choice other) (get_or_past choices (old_number test count k) Idle (omega (arith, old, long))))
    ]

-- ---- a list of choices, machines first

abbrev plan_from : List Choice → List Choice → PlanChoices
plan_from machines nodes = record { machines = machines; nodes = nodes }

pub parted_is : (p : Instance) (machines nodes choices : List Choice) → choices ≡ machines ++ nodes → length machines ≡ machine_count p → parted p choices ≡ record { machines = machines; nodes = nodes }
parted_is p machines nodes choices is long =
    ap₂ plan_from
    (ap (take (machine_count p)) is ∙ ap (λ (n : ℕ). take n (machines ++ nodes)) (sym long) ∙ take-append_seam machines nodes)
    (ap (drop (machine_count p)) is ∙ ap (λ (n : ℕ). drop n (machines ++ nodes)) (sym long ∙ sym (add-zero (length machines))) ∙ drop-append-add machines nodes 0)

-- ---- whether machines stay

-- a number that fails a test of all
record IsFailing (test : ℕ → Bool) (from n : ℕ) : Type 0 where
  x : ℕ
  low : from ≤ x
  high : x < from + n
  fails : test x ≡ false

later : (test : ℕ → Bool) (from n : ℕ) → IsFailing test (from + 1) n → IsFailing test from (suc n)
later test from n f = record { x = f.x; low = omega (arith, f.low); high = omega (arith, f.high); fails = f.fails }

failing : (test : ℕ → Bool) (from n : ℕ) → list_all test (range_with_len from n) ≡ false → IsFailing test from n
failing test from zero none = absurd (false≢true (sym none))
failing test from (suc n) some =
    elim (cases_Bool (test from)) [
      | inr fails ↦ record { x = from; low = omega arith; high = omega arith; fails = fails }
      | inl passes ↦ let rest : list_all test (range_with_len (from + 1) n) ≡ false = rw passes at some in later test from n (failing test (from + 1) n rest)
    ]

-- a test that is asked of some
asked : (a b : Bool) → (not a || b) ≡ true → a ≡ true → b ≡ true
asked true b all on = all
asked false b all on = absurd (false≢true on)

refused : (a b : Bool) → (not a || b) ≡ false → (a ≡ true) × (b ≡ false)
refused true b none = (refl, none)
refused false b none = absurd (false≢true (sym none))

node_stays : (p : Instance) (groups : List NodeSet) (i x : ℕ) (c : Choice) → IsTrue (is_legal p (node x) c) → StaysIn groups i c
node_stays p groups i x Idle legal = tt
node_stays p groups i x (Act Nowhere start) legal = tt
node_stays p groups i x (Act (At n) start) legal = absurd (never_legal p x n start legal)

module _ (p : Instance) (groups : List NodeSet) (split : Split p groups) (nodes machines : List ℕ) (d : Divides p groups nodes machines) (node_numbers machine_numbers : List ℕ) (numbers : AreNumbers p groups node_numbers machine_numbers) where
  stay_as : (i v : ℕ) (c : Choice) → IsTrue (is_legal p (vm v) c) → stays_by nodes i c ≡ true → StaysIn groups i c
  stay_as i v Idle legal stays = tt
  stay_as i v (Act Nowhere start) legal stays = tt
  stay_as i v (Act (At n) start) legal stays = sym (in_as_number p groups nodes d.covers n.0 i (legal_place p v n start legal)) ∙ stays

  leave_as : (i v : ℕ) (c : Choice) → IsTrue (is_legal p (vm v) c) → stays_by nodes i c ≡ false → ¬ StaysIn groups i c
  leave_as i v Idle legal leaves stays = false≢true (sym leaves)
  leave_as i v (Act Nowhere start) legal leaves stays = false≢true (sym leaves)
  leave_as i v (Act (At n) start) legal leaves stays = false≢true (sym leaves ∙ in_as_number p groups nodes d.covers n.0 i (legal_place p v n start legal) ∙ stays)

  abbrev stays_test : ℕ → PlanChoices → ℕ → Bool
  stays_test i plan v = not (at machines v == i) || stays_by nodes i (choices_of plan (vm v))

  pub part_stays : (i : ℕ) (plan : PlanChoices) → IsPlanOf p plan → part_stays_by nodes machines i plan ≡ true → PartStays p groups i (choices_of plan)
  part_stays i plan is all v l mine =
      let passes = each_passes (stays_test i plan) 0 (length machines) v all (omega arith) (omega (arith, l, count_machines p groups nodes machines d)) in
      let here : (at machines v == i) ≡ true = ap (λ (g : ℕ). g == i) (at_machine p groups nodes machines d v l) ∙ mine in
      stay_as i v (choices_of plan (vm v)) (is.legal (vm v) l) (asked (at machines v == i) (stays_by nodes i (choices_of plan (vm v))) passes here)

  pub part_leaves : (i : ℕ) (plan : PlanChoices) → IsPlanOf p plan → part_stays_by nodes machines i plan ≡ false → PartLeaves p groups i (choices_of plan)
  part_leaves i plan is some =
      let f = failing (stays_test i plan) 0 (length machines) some in
      let l : f.x < machine_count p = omega (arith, f.high, count_machines p groups nodes machines d) in
      let sides = refused (at machines f.x == i) (stays_by nodes i (choices_of plan (vm f.x))) f.fails in
      record {
        machine = f.x;
        within = l;
        of_part = ap (λ (g : ℕ). g == i) (sym (at_machine p groups nodes machines d f.x l)) ∙ sides.0;
        leaves = leave_as i f.x (choices_of plan (vm f.x)) (is.legal (vm f.x) l) sides.1;
      }

  cut_place : (i n : ℕ) → IsTrue (in_group groups i n) → at node_numbers n ≡ new_number (in_group groups i) n
  cut_place i n on =
      let low : n < node_count p = split.are_groups.listed i n on in
      let own : group_number groups n ≡ i = split.are_groups.apart (group_number groups n) i n (in_own p groups nodes d.covers n low) on in
      ap (λ (t : List ℕ). at t n) numbers.by_node ∙ get_or-map-range_with_len (node_number groups) 0 (node_count p) n n 0 low (omega arith) ∙ ap (λ (j : ℕ). new_number (in_group groups j) n) own

  cut_choice : (i : ℕ) (c : Choice) → StaysIn groups i c → renumbered_choice (at node_numbers) c ≡ renumbered_choice (new_number (in_group groups i)) c
  cut_choice i Idle stays = refl
  cut_choice i (Act Nowhere start) stays = refl
  cut_choice i (Act (At n) start) stays = ap (λ (x : ℕ). Act (At (record { 0 = x })) start) (cut_place i n.0 stays)

  module _ (i : ℕ) (plan : PlanChoices) (is : IsPlanOf p plan) (stays : PartStays p groups i (choices_of plan)) where
    machines_as : passing (λ x. at machines x == i) (length machines) ≡ passing (in_part p groups i) (machine_count p)
    machines_as = same_passing _ _ _ _ (count_machines p groups nodes machines d) (λ x l. ap (λ (g : ℕ). g == i) (at_machine p groups nodes machines d x l))

    nodes_as : passing (λ x. at nodes x == i) (length nodes) ≡ passing (in_group groups i) (node_count p)
    nodes_as = same_passing _ _ _ _ (count_nodes p groups nodes machines d) (λ x l. in_as_number p groups nodes d.covers x i l)

    cut_is : (e : Element) → choices_of (cut_plan nodes machines node_numbers i plan) e ≡ part_choices p groups i (choices_of plan) e
    unfolding part_choices
    cut_is (Vm v) =
        ap (λ (l : List ℕ). slice_index_or (map (λ x. renumbered_choice (at node_numbers) (slice_index_or plan.machines x Idle)) l) v.0 Idle) machines_as
        ∙ cut_at (in_part p groups i) (machine_count p) (at node_numbers) (new_number (in_group groups i)) plan.machines is.machines (λ x l pass. cut_choice i (slice_index_or plan.machines x Idle) (stays x l pass)) v.0
    cut_is (TheNode n) =
        ap (λ (l : List ℕ). slice_index_or (map (λ x. renumbered_choice (at node_numbers) (slice_index_or plan.nodes x Idle)) l) n.0 Idle) nodes_as
        ∙ cut_at (in_group groups i) (node_count p) (at node_numbers) (new_number (in_group groups i)) plan.nodes is.nodes (λ x l pass. cut_choice i (slice_index_or plan.nodes x Idle) (node_stays p groups i x (slice_index_or plan.nodes x Idle) (is.legal (node x) l))) n.0

    cut_count : (table : List ℕ) (choices : List Choice) → length (cut_choices table i node_numbers choices) ≡ length (passing (λ x. at table x == i) (length table))
    cut_count table choices = length-map (passing (λ x. at table x == i) (length table)) (λ x. renumbered_choice (at node_numbers) (slice_index_or choices x Idle))

    pub cut_is_part : IsPartPlan p groups i (choices_of plan) (cut_plan nodes machines node_numbers i plan)
    cut_is_part = record {
      stays = stays;
      plan_is = record {
        machines = cut_count machines plan.machines ∙ ap length machines_as ∙ sym (part_embeds p groups split i).machines;
        nodes = cut_count nodes plan.nodes ∙ ap length nodes_as ∙ sym (part_embeds p groups split i).nodes;
        legal = λ e l. subst (λ (c : Choice). IsTrue (is_legal (part_of p groups i) e c)) (sym (cut_is e)) (part_is_plan p groups split (choices_of plan) is.legal i stays e l);
      };
      choices = cut_is;
    }
