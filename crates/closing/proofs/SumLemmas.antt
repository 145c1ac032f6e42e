-- What setting one element changes in a sum of what machines hold.
use Rattle.closing.proofs.Prelude.{◌≡◌, ℕ, ◌+◌, ◌<◌, ◌≤◌, Bool, true, false, cond, length, IsTrue, refl, arith, Amount, capacity_of, Choice, Element, Instance, IsAbove, IsElement, IsEnd, IsFreeOf, IsMetWith, IsNodeMissed, IsNodeSpared, IsOverload, IsOverloaded, IsSpared, load, machine_count, node, Node as TheNode, node_count, Nodes, room, Sets, setting, sure, usable_at, Vm, vm, machine_change, node_change, setting_agrees, setting_room, setting_total}

module _ (p : Instance) (s : Sets) (r : ℕ) (set : Nodes) (t spare : ℕ) (fits : spare + load p (sure p s t) r set ≡ room p (sure p s t) r set) where
  -- a machine's choice changes no room, and a node's no load
  same-room : (v : ℕ) (c : Choice) → v < machine_count p → room p (sure p (setting (vm v) c s) t) r set ≡ room p (sure p s t) r set
  same-room v c h = (machine_change p (setting (vm v) c s) s v t h (setting_agrees s (vm v) c)).of_room r set

  same-load : (n : ℕ) (c : Choice) → n < node_count p → load p (sure p (setting (node n) c s) t) r set ≡ load p (sure p s t) r set
  same-load n c h = (node_change p (setting (node n) c s) s n t h (setting_agrees s (node n) c)).of_total (Amount r) set

  machine-fits : (v : ℕ) → v < machine_count p → IsSpared p s (Amount r) set t spare v → (c : Choice) → IsEnd (s (vm v)) c → ¬ IsOverload p (sure p (setting (vm v) c s) t) r set
  machine-fits v h spared c end over =
      spared.ends c end (omega (arith, setting_total p s v c t (Amount r) set h, same-room v c h, over, fits))

  pub machine-breaks : (v : ℕ) → v < machine_count p → (c : Choice) → IsAbove p s (Amount r) set t spare v c → IsMetWith (λ b. IsOverload p b r set) p s t (vm v) c
  machine-breaks v h c above = record {
    element = h;
    is_end = above.is_end;
    is_met = omega (arith, setting_total p s v c t (Amount r) set h, same-room v c h, above.passes, fits);
  }

  abbrev part : ℕ → Bool → ℕ
  part n b = cond (set n) (cond b (capacity_of p n r) 0) 0

  node-fits : (n : ℕ) → n < node_count p → IsNodeSpared p s r set t spare n → (c : Choice) → IsEnd (s (node n)) c → ¬ IsOverload p (sure p (setting (node n) c s) t) r set
  node-fits n h spared c end over =
      let less = at (set n) ((sure p s t).usable n) (usable_at p n t c) (capacity_of p n r) (λ a b k e. (spared.ends a b k).ends c end e) in
      omega (arith, setting_room p s n c t r set h, same-load n c h, fits, over, less)
    where
      at : (a b d : Bool) (k : ℕ) → (IsTrue a → IsTrue b → spare < k → d ≡ false → ⊥) → cond a (cond b k 0) 0 ≤ cond a (cond d k 0) 0 + spare
      at true true true k f = omega arith
      at true true false k f = few k (λ m. f refl refl m refl)
        where
          few : (k : ℕ) → (spare < k → ⊥) → k ≤ 0 + spare
          few k f = omega (arith, f)
      at true false d k f = omega arith
      at false b d k f = omega arith

  pub node-breaks : (n : ℕ) → n < node_count p → (c : Choice) → IsNodeMissed p s r set t spare n c → IsMetWith (λ b. IsOverload p b r set) p s t (node n) c
  node-breaks n h c missed = record {
    element = h;
    is_end = missed.misses.is_end;
    is_met =
        let before : part n ((sure p s t).usable n) ≡ capacity_of p n r = rw (missed.inside, missed.may_be) refl in
        let after : part n (usable_at p n t c) ≡ 0 = rw (missed.inside, missed.misses.passes) refl in
        omega (arith, setting_room p s n c t r set h, same-load n c h, fits, before, after, missed.needed);
  }

  pub fits-free : ((v : ℕ) → v < machine_count p → IsSpared p s (Amount r) set t spare v) → ((n : ℕ) → n < node_count p → IsNodeSpared p s r set t spare n) → IsFreeOf (λ b. IsOverload p b r set) p s t
  fits-free machines nodes = record { base = λ over. omega (arith, over, fits); ends = at }
    where
      at : (e : Element) (c : Choice) → IsElement p e → IsEnd (s e) c → ¬ IsOverload p (sure p (setting e c s) t) r set
      at (Vm v) c h end = machine-fits v.0 h (machines v.0 h) c end
      at (TheNode n) c h end = node-fits n.0 h (nodes n.0 h) c end

module _ (p : Instance) (s : Sets) (set : Nodes) (t : ℕ) where
  pub resources-free : ((r : ℕ) → r < length p.resources → IsFreeOf (λ b. IsOverload p b r set) p s t) → IsFreeOf (IsOverloaded p set) p s t
  resources-free each = record {
    base = λ x. (each x.0 x.1).base x.2;
    ends = λ e c i end x. (each x.0 x.1).ends e c i end x.2;
  }
