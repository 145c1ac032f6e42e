-- Where each node's load is kept and nothing stands on an unusable node, no set of nodes is overloaded.
use Rattle.std.proofs.Common.{IsTrue}
use Rattle.base.proofs.Public.{◌≡◌, inl, inr, ℕ, ◌<◌, ◌≤◌, Bool, true, false, ◌||◌, ◌==◌, cond, length, refl, sym, ◌∙◌, arith, cases_lt, false≢true, Decides-eqb, nat_tests, sum_to-change, sum_to-le, sum_to-none, sum_to-same, sum_to-swap, sum_to-zero}
use Rattle.reasons.specs.Prelude.{Amount, capacity_of, Choices, held_at, InRange, Instance, IsInstance, IsOverload, Keeps, load, machine_count, node, node_count, Nodes, one, present_at, room, Rule, Snapshot, snapshot_of, sum_to, usable_at, vm}
use Rattle.slices.specs.declared.rule.Rule.TheVariants.{Load, Usable}
use Rattle.slices.proofs.Public.{absent_uses_nothing, held_by_node}

-- what is on no node or on a usable one is not on one that is not usable
never : (x y u : Bool) → (IsTrue (x || y) → IsTrue u) → u ≡ false → x ≡ false
never true y u f off = absurd (false≢true (sym off ∙ f refl))
never false y u f off = refl

module _ (p : Instance) (sound : IsInstance p) (plan : Choices) (t : ℕ) (last : Bool) (keeps : (r : Rule) → InRange p r → Keeps p (snapshot_of p plan t) last r) where
  unused : (v n r : ℕ) → v < machine_count p → n < node_count p → usable_at p n t (plan (node n)) ≡ false → held_at p v (Amount r) (one n) t (plan (vm v)) ≡ 0
  unused v n r h k off =
      absent_uses_nothing p sound v (one n) r t (plan (vm v))
      (never (present_at p v (one n) t (plan (vm v))) _ (usable_at p n t (plan (node n))) (keeps (Usable (record { 0 = v }) (record { 0 = n })) (h, k)) off)

  at_node : (r k : ℕ) → r < length p.resources → k < node_count p → (x y : Bool) → y ≡ usable_at p k t (plan (node k)) → sum_to (machine_count p) (λ v. cond x (held_at p v (Amount r) (one k) t (plan (vm v))) 0) ≤ cond x (cond y (capacity_of p k r) 0) 0
  at_node r k i h false y e = omega (arith, sum_to-zero (machine_count p))
  at_node r k i h true true e = keeps (Load (record { 0 = k }) r) (h, i)
  at_node r k i h true false e =
      omega (arith, sum_to-none (machine_count p) (λ v. held_at p v (Amount r) (one k) t (plan (vm v))) (λ v u. unused v k r u h (sym e)))

  pub no_overload : (r : ℕ) → r < length p.resources → (set : Nodes) → ¬ IsOverload p (snapshot_of p plan t) r set
  no_overload r i set over =
      let by_nodes : load p (snapshot_of p plan t) r set ≡ sum_to (node_count p) (λ k. sum_to (machine_count p) (λ v. cond (set k) (held_at p v (Amount r) (one k) t (plan (vm v))) 0)) =
      sum_to-same (machine_count p) (λ v. held_at p v (Amount r) set t (plan (vm v))) (λ v. sum_to (node_count p) (λ k. cond (set k) (held_at p v (Amount r) (one k) t (plan (vm v))) 0))
      (λ v u. held_by_node p sound v (Amount r) set t (plan (vm v)))
      ∙ sum_to-swap (machine_count p) (node_count p) (λ v k. cond (set k) (held_at p v (Amount r) (one k) t (plan (vm v))) 0) in
      let within = sum_to-le (node_count p) (λ k. sum_to (machine_count p) (λ v. cond (set k) (held_at p v (Amount r) (one k) t (plan (vm v))) 0)) (λ k. cond (set k) (cond (usable_at p k t (plan (node k))) (capacity_of p k r) 0) 0)
      (λ k u. at_node r k i u (set k) (usable_at p k t (plan (node k))) refl) in
      omega (arith, over, by_nodes, within)

-- ---- one node

-- a sum in which one place counts
sum_to-at : (n k : ℕ) (f : ℕ → ℕ) → k < n → sum_to n (λ j. cond (j == k) (f j) 0) ≡ f k
sum_to-at n k f l =
    let here : (k == k) ≡ true = (Decides-eqb k k).1 refl in
    let at : cond (k == k) (f k) 0 ≡ f k = rw here refl in
    omega (arith, at, sum_to-zero n, sum_to-change n (λ j. cond (j == k) (f j) 0) (λ j. 0) k l (λ j ne. let other : (j == k) ≡ false = grind (arith, nat_tests) in rw other refl))

-- where a node is not overloaded its capacity is kept
pub not_overload-le : (p : Instance) (s : Snapshot) (r n : ℕ) → n < node_count p → ¬ IsOverload p s r (one n) → load p s r (one n) ≤ capacity_of p n r
not_overload-le p s r n l fits =
    let at = sum_to-at (node_count p) n (λ j. cond (s.usable j) (capacity_of p j r) 0) l in
    elim (cases_lt (room p s r (one n)) (load p s r (one n))) [
      | inl over ↦ absurd (fits over)
      | inr within ↦ le (s.usable n) within at
    ]
  where
    le : (b : Bool) → load p s r (one n) ≤ room p s r (one n) → room p s r (one n) ≡ cond b (capacity_of p n r) 0 → load p s r (one n) ≤ capacity_of p n r
    le true within e = omega (arith, within, e)
    le false within e = omega (arith, within, e)
