-- Numbers by a table of groups are those that the definitions give.
use Rattle.base.proofs.Public.{◌≡◌, ℕ, zero, suc, ◌+◌, ◌<◌, ◌≤◌, Bool, ◌==◌, List, [], ◌∷◌, ◌++◌, length, map, if◌then◌else◌, refl, sym, ap, ap₂, ◌∙◌, arith, length-map-range_with_len, range_with_len, subst, sum_to-same}
use Rattle.cluster.specs.declared.sets.NodeSet.{NodeSet}
use Rattle.catalogue.specs.Prelude.{Instance, IsInstance, max_machines}
use Rattle.slices.specs.Elements.{machine_count, node_count}
use Rattle.parts.specs.Groups.{machine_group}
use Rattle.parts.specs.Numbers.{new_number}
use Rattle.parts.proofs.Public.{new-le}
use Rattle.partition.specs.Division.{Divides, group_number}
use Rattle.partition.specs.Numbering.{AreNumbers, machine_number, node_number, number_by, numbers_by}
use Rattle.partition.specs.Reach.{at}
use Rattle.partition.proofs.DivisionLemmas.{at_node, in_as_number, number_in}
use Rattle.partition.proofs.FaultLemmas.{at_machine, group_below}
use Rattle.partition.proofs.TableLemmas.{one_more}

-- ---- maps of a range

pub same_range : {A : Type 0} (f g : ℕ → A) (from n : ℕ) → ((k : ℕ) → from ≤ k → k < from + n → f k ≡ g k) → map f (range_with_len from n) ≡ map g (range_with_len from n)
same_range f g from zero same = refl
same_range f g from (suc n) same =
    ap₂ (λ (y : _) (ys : List _). y ∷ ys) (same from (omega arith) (omega arith)) (same_range f g (from + 1) n (λ k low high. same k (omega (arith, low)) (omega (arith, high))))

-- tests that agree below a number give it the same new number
pub same_number : (a b : ℕ → Bool) (x : ℕ) → ((y : ℕ) → y < x → a y ≡ b y) → new_number a x ≡ new_number b x
same_number a b x same = sum_to-same x _ _ (λ y l. ap (λ (t : Bool). if t then 1 else 0) (same y l))

-- ---- one more is counted

abbrev same_group : List ℕ → ℕ → ℕ → Bool
same_group table g y = at table y == g

pub few_before : (table counts : List ℕ) (x : ℕ) → ((g : ℕ) → at counts g ≡ new_number (λ y. at table y == g) x) → x < length table → length table ≤ max_machines → at counts (at table x) < max_machines
few_before table counts x counted l few = omega (arith, counted (at table x), new-le (same_group table (at table x)) x, l, few)

pub counted_more : (table old new : List ℕ) (x g : ℕ) → at old g ≡ new_number (λ y. at table y == g) x → at new g ≡ at old g + (if at table x == g then 1 else 0) → at new g ≡ new_number (λ y. at table y == g) (x + 1)
counted_more table old new x g was is =
    let next : x + 1 ≡ suc x = omega arith in
    is ∙ ap (λ (m : ℕ). m + (if at table x == g then 1 else 0)) was ∙ sym (ap (new_number (same_group table g)) next)

pub number_more : (table numbers counts : List ℕ) (x number : ℕ) → numbers ≡ map (number_by table) (range_with_len 0 x) → at counts (at table x) ≡ new_number (λ y. at table y == at table x) x → number ≡ at counts (at table x) →
    numbers ++ number ∷ [] ≡ map (number_by table) (range_with_len 0 (x + 1))
number_more table numbers counts x number was counted is = one_more (number_by table) x numbers number was (is ∙ counted)

-- ---- the numbers of a division

module _ (p : Instance) (groups : List NodeSet) (nodes machines : List ℕ) (d : Divides p groups nodes machines) where
  pub count_nodes : length nodes ≡ node_count p
  count_nodes = ap length d.covers.by_node ∙ length-map-range_with_len (group_number groups) 0 (node_count p)

  pub count_machines : length machines ≡ machine_count p
  count_machines = ap length d.by_machine ∙ length-map-range_with_len (machine_group p groups) 0 (machine_count p)

  node_as : (n : ℕ) → n < node_count p → number_by nodes n ≡ node_number groups n
  node_as n l =
      same_number _ _ n (λ y below.
      ap (λ (i : ℕ). at nodes y == i) (at_node p groups nodes d.covers n l) ∙ in_as_number p groups nodes d.covers y (group_number groups n) (omega (arith, below, l)))

  machine_as : (v : ℕ) → v < machine_count p → number_by machines v ≡ machine_number p groups v
  machine_as v l =
      same_number _ _ v (λ y below.
      ap₂ ◌==◌ (at_machine p groups nodes machines d y (omega (arith, below, l))) (at_machine p groups nodes machines d v l))

  pub are_numbers : (node_numbers machine_numbers : List ℕ) → node_numbers ≡ numbers_by nodes → machine_numbers ≡ numbers_by machines → AreNumbers p groups node_numbers machine_numbers
  are_numbers node_numbers machine_numbers are_nodes are_machines = record {
    by_node =
        are_nodes ∙ ap (λ (m : ℕ). map (number_by nodes) (range_with_len 0 m)) count_nodes ∙ same_range _ _ 0 (node_count p) (λ n low high. node_as n (omega (arith, high)));
    by_machine =
        are_machines ∙ ap (λ (m : ℕ). map (number_by machines) (range_with_len 0 m)) count_machines ∙ same_range _ _ 0 (machine_count p) (λ v low high. machine_as v (omega (arith, high)));
  }

  pub node_within : (x : ℕ) → x < length nodes → at nodes x < length groups
  node_within x l =
      let low : x < node_count p = omega (arith, l, count_nodes) in
      subst (λ (i : ℕ). i < length groups) (sym (at_node p groups nodes d.covers x low)) (number_in p groups nodes d.covers x low)

  pub machine_within : (x : ℕ) → x < length machines → at machines x < length groups
  machine_within x l =
      let low : x < machine_count p = omega (arith, l, count_machines) in
      subst (λ (i : ℕ). i < length groups) (sym (at_machine p groups nodes machines d x low)) (group_below p groups nodes machines d x)

  pub few_in_nodes : IsInstance p → length nodes ≤ max_machines
  few_in_nodes sound = omega (arith, sound.inventory.few_nodes, count_nodes)

  pub few_in_machines : IsInstance p → length machines ≤ max_machines
  few_in_machines sound = omega (arith, sound.inventory.few_machines, count_machines)
