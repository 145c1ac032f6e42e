-- What is held of slices says all that they weigh.
use Rattle.std.proofs.Common.{◌≡◌, inl, inr, ℕ, ◌+◌, ◌-◌, ◌<◌, Bool, true, false, ◌&&◌, ◌||◌, nat_lt, Option, Some, None, cond, refl, ap, ◌∙◌, subst, arith}
use Rattle.slices.specs.Prelude.{Amount, amount_in, Choice, count_in, covers, Demand, demand_of, Held, held_at, held_by, held_of, Holding, holding_of, Image, image_in, Instance, is_in, is_raise, IsHeldWithin, IsHolding, IsHoldingAt, IsInstance, IsNodeWithin, node_count, node_of, NodeId, Nodes, Presence, Slice, Slices, slices_of, Stage, stage_at, Use, use_of, vm, weigh, Weight, weight_of, What, with_raise}
use Rattle.slices.specs.declared.slice.What.TheVariants.{Image as OfImage}
use Rattle.catalogue.proofs.Public.{use_of_le}
use Rattle.slices.proofs.PlaceLemmas.{AreSlices, ArePlain, IsSliceOf, allocated, are_slices}

module _ (p : Instance) (v : ℕ) (set : Nodes) (g : Stage) where
  -- what a slice weighs is the amount of what is held of it
  amount_held : (r : ℕ) (o : Option Slice) → weigh p v (Amount r) o g set ≡ amount_in p v r set (held_of o g)
  amount_held r None = refl
  amount_held r (Some s) = at (set s.node.0) (covers s.span g) refl
    where
      at : (a b : Bool) → set s.node.0 ≡ a → cond (a && b) (weight_of p v (Amount r) s.what) 0 ≡ amount_in p v r set (cond b (Some (record { node = s.node; what = s.what })) None)
      at true true e = rw e refl
      at false true e = rw e refl
      at true false e = refl
      at false false e = refl

  -- what is no image counts as one presence
  presence_held : (nodes : ℕ) (what : What) (o : Option Slice) → weight_of p v Presence what ≡ 1 → IsSliceOf nodes what o → weigh p v Presence o g set ≡ count_in set (held_of o g)
  presence_held nodes what None e h = refl
  presence_held nodes what (Some s) e h =
      let one : weight_of p v Presence s.what ≡ 1 = ap (weight_of p v Presence) h.1 ∙ e in
      rw one (at (set s.node.0) (covers s.span g) refl)
    where
      at : (a b : Bool) → set s.node.0 ≡ a → cond (a && b) 1 0 ≡ count_in set (cond b (Some (record { node = s.node; what = s.what })) None)
      at true true e = rw e refl
      at false true e = rw e refl
      at true false e = refl
      at false false e = refl

  image_held : (nodes : ℕ) (o : Option Slice) → IsSliceOf nodes OfImage o → weigh p v Image o g set ≡ image_in set (node_of (held_of o g))
  image_held nodes None h = refl
  image_held nodes (Some s) h =
      let one : weight_of p v Image s.what ≡ 1 = ap (weight_of p v Image) h.1 in
      rw one (at (set s.node.0) (covers s.span g) refl)
    where
      at : (a b : Bool) → set s.node.0 ≡ a → cond (a && b) 1 0 ≡ image_in set (node_of (cond b (Some (record { node = s.node; what = s.what })) None))
      at true true e = rw e refl
      at false true e = rw e refl
      at true false e = refl
      at false false e = refl

  -- a slice whose sort weighs nothing
  pub no_weight : (w : Weight) (nodes : ℕ) (what : What) (o : Option Slice) → weight_of p v w what ≡ 0 → IsSliceOf nodes what o → weigh p v w o g set ≡ 0
  no_weight w nodes what None e h = refl
  no_weight w nodes what (Some s) e h =
      let none : weight_of p v w s.what ≡ 0 = ap (weight_of p v w) h.1 ∙ e in
      rw none (at (set s.node.0 && covers s.span g))
    where
      at : (b : Bool) → ◌≡◌ {A = ℕ} (cond b 0 0) 0
      at true = refl
      at false = refl

-- where a presence is counted there is one
is_counted : (set : Nodes) (a b : Option Held) → nat_lt 0 (count_in set a + count_in set b) ≡ (is_in set a || is_in set b)
is_counted set None None = refl
is_counted set None (Some y) = at (set y.node.0)
  where
    at : (b : Bool) → nat_lt 0 (0 + cond b 1 0) ≡ b
    at true = refl
    at false = refl
is_counted set (Some x) None = at (set x.node.0)
  where
    at : (a : Bool) → nat_lt 0 (cond a 1 0 + 0) ≡ (a || false)
    at true = refl
    at false = refl
is_counted set (Some x) (Some y) = at (set x.node.0) (set y.node.0)
  where
    at : (a b : Bool) → nat_lt 0 (cond a 1 0 + cond b 1 0) ≡ (a || b)
    at true true = refl
    at true false = refl
    at false true = refl
    at false false = refl

held-within : (nodes : ℕ) (what : What) (g : Stage) (o : Option Slice) → IsSliceOf nodes what o → IsHeldWithin nodes (held_of o g)
held-within nodes what g None h = tt
held-within nodes what g (Some s) h = at (covers s.span g)
  where
    at : (b : Bool) → IsHeldWithin nodes (cond b (Some (record { node = s.node; what = s.what })) None)
    at true = h.0
    at false = tt

node-within : (nodes : ℕ) (o : Option Held) → IsHeldWithin nodes o → IsNodeWithin nodes (node_of o)
node-within nodes None h = tt
node-within nodes (Some x) h = h

-- a machine whose slices are a use, a demand and an image
not_raised : (nodes : ℕ) (g : Stage) (source : Option Held) (o : Option Slice) (image : Option NodeId) → IsSliceOf nodes Demand o → with_raise source (held_of o g) image ≡ record { source = source; target = held_of o g; image = image }
not_raised nodes g source None image h = refl
not_raised nodes g source (Some s) image h = at (covers s.span g)
  where
    plain : is_raise s.what ≡ false
    plain = ap is_raise h.1

    at : (b : Bool) → with_raise source (cond b (Some (record { node = s.node; what = s.what })) None) image ≡ record { source = source; target = cond b (Some (record { node = s.node; what = s.what })) None; image = image }
    at true = rw plain refl
    at false = refl

-- the weights of three slices
abbrev weights : Instance → ℕ → Slices → Stage → Weight → Nodes → ℕ
weights p v x g w set = weigh p v w x.source g set + weigh p v w x.target g set + weigh p v w x.image g set

abbrev IsHoldingAs : Instance → ℕ → Slices → Stage → Holding → Type 0
IsHoldingAs p v x g h = IsHolding p v (weights p v x g) (λ set. nat_lt 0 (weights p v x g Presence set)) h

module _ (p : Instance) (v : ℕ) (g : Stage) where
  of_plain : (x : Slices) → ArePlain (node_count p) x → IsHoldingAs p v x g (record { source = held_of x.source g; target = held_of x.target g; image = node_of (held_of x.image g) })
  of_plain x plain = record {
    amounts = λ r set. omega (arith, amount_held p v set g r x.source, amount_held p v set g r x.target, no_weight p v set g (Amount r) _ OfImage x.image refl plain.image);
    presences = presences;
    present = λ set. rw (presences set) (is_counted set (held_of x.source g) (held_of x.target g));
    images = λ set. omega (arith, no_weight p v set g Image _ Use x.source refl plain.source, no_weight p v set g Image _ Demand x.target refl plain.target, image_held p v set g _ x.image plain.image);
    source = held-within _ Use g x.source plain.source;
    target = held-within _ Demand g x.target plain.target;
    image = node-within _ (held_of x.image g) (held-within _ OfImage g x.image plain.image);
  }
    where
      presences : (set : Nodes) → weights p v x g Presence set ≡ count_in set (held_of x.source g) + count_in set (held_of x.target g)
      presences set = omega (arith, presence_held p v set g _ Use x.source refl plain.source, presence_held p v set g _ Demand x.target refl plain.target, no_weight p v set g Presence _ OfImage x.image refl plain.image)

  of_allocated : (h : NodeId) → h.0 < node_count p → IsHoldingAs p v (allocated h) g (holding_of (allocated h) g)
  of_allocated h l = at g.started
    where
      at : (b : Bool) → IsHoldingAs p v (allocated h) (record { started = b; ended = g.ended }) (holding_of (allocated h) (record { started = b; ended = g.ended }))
      at true = record {
        amounts = λ r set. amount r (set h.0);
        presences = λ set. once (set h.0);
        present = λ set. there (set h.0);
        images = λ set. none (set h.0);
        source = l;
        target = tt;
        image = tt;
      }
        where
          amount : (r : ℕ) (b : Bool) → cond (b && true) (use_of p.machines v r) 0 + cond (b && true) (demand_of p v r - use_of p.machines v r) 0 + 0 ≡ cond b (demand_of p v r) 0 + 0
          amount r true = omega (arith, use_of_le p v r)
          amount r false = refl

          once : (b : Bool) → ◌≡◌ {A = ℕ} (cond (b && true) 1 0 + cond (b && true) 0 0 + 0) (cond b 1 0 + 0)
          once true = refl
          once false = refl

          there : (b : Bool) → nat_lt 0 (cond (b && true) 1 0 + cond (b && true) 0 0 + 0) ≡ (b || false)
          there true = refl
          there false = refl

          none : (b : Bool) → ◌≡◌ {A = ℕ} (cond (b && true) 0 0 + cond (b && true) 0 0 + 0) 0
          none true = refl
          none false = refl
      at false = record {
        amounts = λ r set. amount r (set h.0);
        presences = λ set. once (set h.0);
        present = λ set. there (set h.0);
        images = λ set. none (set h.0);
        source = l;
        target = tt;
        image = tt;
      }
        where
          amount : (r : ℕ) (b : Bool) → cond (b && true) (use_of p.machines v r) 0 + cond (b && false) (demand_of p v r - use_of p.machines v r) 0 + 0 ≡ cond b (use_of p.machines v r) 0 + 0
          amount r true = omega arith
          amount r false = refl

          once : (b : Bool) → ◌≡◌ {A = ℕ} (cond (b && true) 1 0 + cond (b && false) 0 0 + 0) (cond b 1 0 + 0)
          once true = refl
          once false = refl

          there : (b : Bool) → nat_lt 0 (cond (b && true) 1 0 + cond (b && false) 0 0 + 0) ≡ (b || false)
          there true = refl
          there false = refl

          none : (b : Bool) → ◌≡◌ {A = ℕ} (cond (b && true) 0 0 + cond (b && false) 0 0 + 0) 0
          none true = refl
          none false = refl

  of_slices : (x : Slices) → AreSlices (node_count p) x → IsHoldingAs p v x g (holding_of x g)
  of_slices x (inl plain) = rw (not_raised _ g (held_of x.source g) x.target (node_of (held_of x.image g)) plain.target) (of_plain x plain)
  of_slices x (inr w) = rw w.2 (of_allocated w.0 w.1)

-- what is held of a machine's slices is all that it holds
pub holding_of-is : (p : Instance) → IsInstance p → (v : ℕ) (c : Choice) (t : ℕ) (h : Holding) → holding_of (slices_of p v c) (stage_at p (vm v) c t) ≡ h → IsHoldingAt p v c t h
unfolding held_at held_by
holding_of-is p s v c t h e =
    subst (IsHoldingAs p v (slices_of p v c) (stage_at p (vm v) c t)) e (of_slices p v (stage_at p (vm v) c t) (slices_of p v c) (are_slices p s v c))
