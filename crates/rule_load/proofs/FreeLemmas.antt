-- Where bounds of what is used fit, nothing is overloaded.
use Rattle.rule_load.proofs.Prelude.{◌≡◌, inl, inr, ℕ, zero, suc, ◌+◌, ◌-◌, ◌<◌, ◌≤◌, cond, List, length, refl, subst, sym, arith, slice_index_or, cases_eq, cases_lt, sum_to-le, all_nodes, Amount, AreMost, AreStanding, capacity_of, Choice, Element, HasRoom, Instance, is_steady, IsDuring, IsElement, IsEnd, IsFreeDuring, IsFreeOf, IsFreePast, IsOverload, IsOverloaded, load, machine_count, MachinesFit, may_wait, most_anywhere, most_kept, never, no_standing, node, TheNode, node_count, Nodes, NodesFit, one, Period, RegionView, Sets, sets, setting, Standing, sum_to, sure, Vm, vm, end_is_choice, machine_change, node_change, setting_agrees, setting_total}
use Rattle.load_bounds.proofs.Public.{are_most, steady-fits, steady-room, sure_most}

-- with one term left out, a sum of lesser terms is still the lesser one
left-out : (n : ℕ) (f g : ℕ → ℕ) (place : ℕ) → place < n → ((k : ℕ) → k < n → f k ≤ g k) → sum_to n f + g place ≤ sum_to n g + f place
left-out zero f g place l h = absurd (omega (arith, l))
left-out (suc n) f g place l h =
    elim (cases_eq place n) [
      | inl here ↦
          let before = sum_to-le n f g (λ k b. h k (omega (arith, b))) in
          rw here (omega (arith, before))
      | inr earlier ↦
          let before = left-out n f g place (omega (arith, l, earlier)) (λ k b. h k (omega (arith, b))) in
          let last = h n (omega arith) in
          omega (arith, before, last)
    ]

module _ (p : Instance) (s : Sets) (r : ℕ) (set : Nodes) (x : Period) (most : ℕ → ℕ) (used free spare : ℕ) (sum : used ≡ sum_to (machine_count p) most) (are : AreMost p s r set x most) (has : HasRoom p s r set x free) (rest : used + spare ≤ free) where
  abbrev sure-use : ℕ → ℕ → ℕ
  sure-use t v = (sure p s t).held v (Amount r) set

  load-less : (t : ℕ) → IsDuring x t → load p (sure p s t) r set ≤ used
  load-less t h = let less = sum_to-le (machine_count p) (sure-use t) most (λ v l. are.each v t l h) in omega (arith, less, sum)

  machine-free : MachinesFit p s r set x most spare → (v : ℕ) (c : Choice) (t : ℕ) → v < machine_count p → IsEnd (s (vm v)) c → IsDuring x t → ¬ IsOverload p (sure p (setting (vm v) c s) t) r set
  machine-free machines v c t l end h over =
      let others = left-out (machine_count p) (sure-use t) most v l (λ k b. are.each k t b h) in
      let fits = (machines.each v l).each c t end h in
      let changed = setting_total p s v c t (Amount r) set l in
      let same = (machine_change p (setting (vm v) c s) s v t l (setting_agrees s (vm v) c)).of_room r set in
      let had = has.at t h in
      omega (arith, others, fits, changed, same, had, sum, rest, over)

  node-free : NodesFit p s r set x used → (n : ℕ) (c : Choice) (t : ℕ) → n < node_count p → IsEnd (s (node n)) c → IsDuring x t → ¬ IsOverload p (sure p (setting (node n) c s) t) r set
  node-free nodes n c t l end h over =
      let fits = nodes.each n c t l (end_is_choice (s (node n)) c end) h in
      let same = (node_change p (setting (node n) c s) s n t l (setting_agrees s (node n) c)).of_total (Amount r) set in
      let less = load-less t h in
      omega (arith, fits, same, less, over)

  pub free_during : MachinesFit p s r set x most spare → NodesFit p s r set x used → IsFreeDuring (λ b. IsOverload p b r set) p s x
  free_during machines nodes = record { each = λ t h. record { base = base t h; ends = λ e c i end. ends t h e c i end } }
    where
      base : (t : ℕ) → IsDuring x t → ¬ IsOverload p (sure p s t) r set
      base t h over = let less = load-less t h in let had = has.at t h in omega (arith, less, had, rest, over)

      ends : (t : ℕ) → IsDuring x t → (e : Element) (c : Choice) → IsElement p e → IsEnd (s e) c → ¬ IsOverload p (sure p (setting e c s) t) r set
      ends t h (Vm v) c i end = machine-free machines v.0 c t i end h
      ends t h (TheNode n) c i end = node-free nodes n.0 c t i end h

-- the same of one node, by where machines surely stand
pub load_free : (p : Instance) (s : Sets) (ks : List Standing) (r n : ℕ) (x : Period) (used free : ℕ) → x.to < never → AreStanding p s ks →
    used ≡ sum_to (machine_count p) (λ v. most_kept p v (Amount r) n x (slice_index_or ks v no_standing)) → HasRoom p s r (one n) x free → used ≤ free →
    MachinesFit p s r (one n) x (λ v. most_kept p v (Amount r) n x (slice_index_or ks v no_standing)) (free - used) → NodesFit p s r (one n) x used →
    IsFreeDuring (λ b. IsOverload p b r (one n)) p s x
load_free p s ks r n x used free short are sum has fits machines nodes =
    free_during p s r (one n) x (λ v. most_kept p v (Amount r) n x (slice_index_or ks v no_standing)) used free (free - used) sum (sure_most p s ks r n x short are) has (omega (arith, fits)) machines nodes

-- the same of all nodes together
pub total_free : (p : Instance) (g : RegionView) (ks : List Standing) (r : ℕ) (x : Period) (used free : ℕ) → x.to < never → AreStanding p (sets g) ks →
    used ≡ sum_to (machine_count p) (λ v. most_anywhere p v r x (may_wait p (sets g) x v) (slice_index_or ks v no_standing)) →
    free ≡ sum_to (node_count p) (λ n. cond (is_steady p (sets g) x n) (capacity_of p n r) 0) → used ≤ free →
    MachinesFit p (sets g) r (all_nodes p) x (λ v. most_anywhere p v r x (may_wait p (sets g) x v) (slice_index_or ks v no_standing)) (free - used) →
    IsFreeDuring (λ b. IsOverload p b r (all_nodes p)) p (sets g) x
total_free p g ks r x used free short are sum is fits machines =
    free_during p (sets g) r (all_nodes p) x (λ v. most_anywhere p v r x (may_wait p (sets g) x v) (slice_index_or ks v no_standing)) used free (free - used) sum (are_most p g ks r (all_nodes p) x short are)
    (record { at = λ t h. omega (arith, is, steady-room p (sets g) x t h r) }) (omega (arith, fits)) machines
    (record { each = λ n c t l i h. omega (arith, is, fits, steady-fits p (sets g) x t h r n c i) })

-- and of those that may be usable
pub loose_free : (p : Instance) (g : RegionView) (ks : List Standing) (r : ℕ) (x : Period) (used total : ℕ) → x.to < never → AreStanding p (sets g) ks →
    used ≡ sum_to (machine_count p) (λ v. most_anywhere p v r x (may_wait p (sets g) x v) (slice_index_or ks v no_standing)) → HasRoom p (sets g) r (all_nodes p) x total → used ≤ total →
    MachinesFit p (sets g) r (all_nodes p) x (λ v. most_anywhere p v r x (may_wait p (sets g) x v) (slice_index_or ks v no_standing)) (total - used) → NodesFit p (sets g) r (all_nodes p) x used →
    IsFreeDuring (λ b. IsOverload p b r (all_nodes p)) p (sets g) x
loose_free p g ks r x used total short are sum has fits machines nodes =
    free_during p (sets g) r (all_nodes p) x (λ v. most_anywhere p v r x (may_wait p (sets g) x v) (slice_index_or ks v no_standing)) used total (total - used) sum (are_most p g ks r (all_nodes p) x short are) has (omega (arith, fits)) machines nodes

-- where no machine uses more than what is spare of less, none does of more
spare_more : (p : Instance) (s : Sets) (r : ℕ) (set : Nodes) (x : Period) (most : ℕ → ℕ) (less more : ℕ) → less ≤ more → MachinesFit p s r set x most less → MachinesFit p s r set x most more
spare_more p s r set x most less more l fits = record { each = λ v low. record { each = λ c t end h. omega (arith, l, (fits.each v low).each c t end h) } }

-- and by a bound of what is used that leaves enough for any machine and any node
pub roomy_free : (p : Instance) (g : RegionView) (ks : List Standing) (r : ℕ) (x : Period) (used total stake : ℕ) → x.to < never → AreStanding p (sets g) ks →
    sum_to (machine_count p) (λ v. most_anywhere p v r x (may_wait p (sets g) x v) (slice_index_or ks v no_standing)) ≤ used → HasRoom p (sets g) r (all_nodes p) x total → used + stake ≤ total →
    ((s : Sets) (y : Period) (most : ℕ → ℕ) → MachinesFit p s r (all_nodes p) y most (total - used)) → ((k : ℕ) → k + stake ≤ total → NodesFit p (sets g) r (all_nodes p) x k) →
    IsFreeDuring (λ b. IsOverload p b r (all_nodes p)) p (sets g) x
roomy_free p g ks r x used total stake short are within has fits machines nodes =
    loose_free p g ks r x exact total short are refl has (omega (arith, within, fits))
    (spare_more p (sets g) r (all_nodes p) x each (total - used) (total - exact) (omega (arith, within)) (machines (sets g) x each)) (nodes exact (omega (arith, within, fits)))
  where
    each : ℕ → ℕ
    each v = most_anywhere p v r x (may_wait p (sets g) x v) (slice_index_or ks v no_standing)

    exact : ℕ
    exact = sum_to (machine_count p) each

-- ---- resource by resource

pub free_more : (p : Instance) (s : Sets) (set : Nodes) (x : Period) (k : ℕ) → ((r : ℕ) → r < k → IsFreeDuring (λ b. IsOverload p b r set) p s x) → IsFreeDuring (λ b. IsOverload p b k set) p s x → (r : ℕ) → r < k + 1 → IsFreeDuring (λ b. IsOverload p b r set) p s x
free_more p s set x k below here r h =
    elim (cases_eq r k) [ inl e ↦ subst (λ r. IsFreeDuring (λ b. IsOverload p b r set) p s x) (sym e) here | inr ne ↦ below r (omega (arith, h, ne)) ]

pub all_free : (p : Instance) (s : Sets) (set : Nodes) (x : Period) → ((r : ℕ) → r < length p.resources → IsFreeDuring (λ b. IsOverload p b r set) p s x) → IsFreeDuring (IsOverloaded p set) p s x
all_free p s set x each = record {
  each = λ t h. record {
    base = λ over. ((each over.0 over.1).each t h).base over.2;
    ends = λ e c i end over. ((each over.0 over.1).each t h).ends e c i end over.2;
  };
}

-- ---- period by period

pub free_past : (p : Instance) (s : Sets) (set : Nodes) (x : Period) (next : ℕ) → next ≡ x.to + 1 → ((t : ℕ) → t < x.from → IsFreeOf (IsOverloaded p set) p s t) → IsFreeDuring (IsOverloaded p set) p s x → (t : ℕ) → t < next → IsFreeOf (IsOverloaded p set) p s t
free_past p s set x next is before here t h =
    elim (cases_lt t x.from) [ inl earlier ↦ before t earlier | inr now ↦ here.each t (now, omega (arith, h, is)) ]

-- and so up to the end of the next period
pub free_on : (p : Instance) (s : Sets) (set : Nodes) (from until : ℕ) → ((t : ℕ) → t < from → IsFreeOf (IsOverloaded p set) p s t) → IsFreePast p s set from until → (t : ℕ) → t < until → IsFreeOf (IsOverloaded p set) p s t
free_on p s set from until before past t h = elim (cases_lt t from) [ inl earlier ↦ before t earlier | inr now ↦ past.clean t now h ]
