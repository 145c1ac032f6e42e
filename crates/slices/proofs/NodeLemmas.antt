-- What is held on a set of nodes, by its nodes; and how much it is at most.
use Rattle.std.proofs.Common.{IsTrue}
use Rattle.base.proofs.Public.{◌≡◌, inl, inr, ℕ, zero, suc, ◌+◌, ◌-◌, ◌<◌, ◌≤◌, Bool, true, false, ◌&&◌, ◌==◌, cond, Option, Some, None, refl, sym, ap, ◌∙◌, arith, false≢true, lt-ltb, ltb-true, cases_lt, nat_tests, sum_to-add, sum_to-none, sum_to-one, sum_to-same, cond-none}
use Rattle.slices.specs.Prelude.{AbsentUsesNothing, Amount, covers, Demand, demand_of, held_at, held_by, HeldByNode, HeldIsSmall, HeldOnMore, Image, Instance, IsInstance, max_amount, node_count, Nodes, one, Presence, PresentOnSet, PresentSomewhere, Raise, Slice, Slices, slices_of, Stage, stage_at, sum_to, Use, use_of, vm, weigh, Weight, weight_of, What}
use Rattle.slices.specs.declared.slice.What.TheVariants.{Image as OfImage}
use Rattle.catalogue.proofs.Public.{demand_of_le, use_of_le}
use Rattle.slices.proofs.HoldingLemmas.{no_weight}
use Rattle.slices.proofs.PlaceLemmas.{AreSlices, IsSliceOf, are_slices}

-- ---- by node

cond-and : (a b : Bool) (k : ℕ) → cond (a && b) k 0 ≡ cond a (cond b k 0) 0
cond-and true b k = refl
cond-and false b k = refl

cond-sum : (b : Bool) (x y : ℕ) → cond b x 0 + cond b y 0 ≡ cond b (x + y) 0
cond-sum true x y = refl
cond-sum false x y = refl

-- the slice, if there is one, is on one of so many nodes
abbrev IsWithin : ℕ → Option Slice → Type 0
IsWithin n None = Unit {0}
IsWithin n (Some s) = s.node.0 < n

weigh-by_node : (p : Instance) (v : ℕ) (w : Weight) (o : Option Slice) (g : Stage) (set : Nodes) (n : ℕ) → IsWithin n o → weigh p v w o g set ≡ sum_to n (λ k. cond (set k) (weigh p v w o g (one k)) 0)
weigh-by_node p v w None g set n h = sym (sum_to-none n (λ k. cond (set k) 0 0) (λ k u. cond-none (set k)))
weigh-by_node p v w (Some o) g set n h =
    cond-and (set o.node.0) (covers o.span g) (weight_of p v w o.what)
    ∙ sym (sum_to-one n o.node.0 (cond (covers o.span g) (weight_of p v w o.what) 0) set h)
    ∙ sum_to-same n _ _ (λ k u. ap (λ x. cond (set k) x 0) (sym (cond-and (o.node.0 == k) (covers o.span g) (weight_of p v w o.what))))

record AreWithin (n : ℕ) (x : Slices) : Type 0 where
  source : IsWithin n x.source
  target : IsWithin n x.target
  image : IsWithin n x.image

slice-within : (n : ℕ) (what : What) (o : Option Slice) → IsSliceOf n what o → IsWithin n o
slice-within n what None h = tt
slice-within n what (Some s) h = h.0

slices-within : (n : ℕ) (x : Slices) → AreSlices n x → AreWithin n x
slices-within n x (inl plain) = record {
  source = slice-within n Use x.source plain.source;
  target = slice-within n Demand x.target plain.target;
  image = slice-within n OfImage x.image plain.image;
}
slices-within n x (inr w) = rw w.2 (record { source = w.1; target = w.1; image = tt })

-- what is a sum by nodes
abbrev IsByNode : (Nodes → ℕ) → ℕ → Type 0
IsByNode f n = (set : Nodes) → f set ≡ sum_to n (λ k. cond (set k) (f (one k)) 0)

add-by_node : (f g : Nodes → ℕ) (n : ℕ) → IsByNode f n → IsByNode g n → IsByNode (λ set. f set + g set) n
add-by_node f g n x y set =
    rw (x set, y set) (sym (sum_to-add n (λ k. cond (set k) (f (one k)) 0) (λ k. cond (set k) (g (one k)) 0))
    ∙ sum_to-same n _ _ (λ k u. cond-sum (set k) (f (one k)) (g (one k))))

pub held_by_node : HeldByNode
unfolding held_at held_by
held_by_node p s v w set t c =
    let n = node_count p in
    let g : Stage = stage_at p (vm v) c t in
    let x = slices_of p v c in
    let within : AreWithin n x = slices-within n x (are_slices p s v c) in
    add-by_node (λ set. weigh p v w x.source g set + weigh p v w x.target g set) (λ set. weigh p v w x.image g set) n
    (add-by_node (λ set. weigh p v w x.source g set) (λ set. weigh p v w x.target g set) n
    (λ set. weigh-by_node p v w x.source g set n within.source) (λ set. weigh-by_node p v w x.target g set n within.target))
    (λ set. weigh-by_node p v w x.image g set n within.image) set

-- ---- on more nodes

weigh-more : (p : Instance) (v : ℕ) (w : Weight) (o : Option Slice) (g : Stage) (few many : Nodes) → ((n : ℕ) → IsTrue (few n) → IsTrue (many n)) → weigh p v w o g few ≤ weigh p v w o g many
weigh-more p v w None g few many h = omega arith
weigh-more p v w (Some o) g few many h = at (few o.node.0) (many o.node.0) (covers o.span g) (h o.node.0)
  where
    at : (a b k : Bool) → (IsTrue a → IsTrue b) → cond (a && k) (weight_of p v w o.what) 0 ≤ cond (b && k) (weight_of p v w o.what) 0
    at true true k f = omega arith
    at true false k f = absurd (false≢true (f refl))
    at false b k f = omega arith

pub held_on_more : HeldOnMore
unfolding held_at held_by
held_on_more p v w few many t c h =
    let g : Stage = stage_at p (vm v) c t in
    let x = slices_of p v c in
    omega (arith, weigh-more p v w x.source g few many h, weigh-more p v w x.target g few many h, weigh-more p v w x.image g few many h)

one-in : (set : Nodes) (n k : ℕ) → IsTrue (set n) → IsTrue (k == n) → IsTrue (set k)
one-in set n k h e = let same : k ≡ n = grind (arith, nat_tests) in rw same h

pub present_on_set : PresentOnSet
present_on_set p v n set t c h x =
    let more = held_on_more p v Presence (one n) set t c (λ k e. one-in set n k h e) in grind (arith, nat_tests)

-- a sum of some amount has a term of some amount
some-term : (n : ℕ) (set : ℕ → Bool) (f : ℕ → ℕ) → 0 < sum_to n (λ k. cond (set k) (f k) 0) → (k : ℕ) × (k < n) × IsTrue (set k) × (0 < f k)
some-term zero set f h = absurd (omega arith)
some-term (suc n) set f h = at (some-term n set f) (set n) refl h
  where
    up : (k : ℕ) × (k < n) × IsTrue (set k) × (0 < f k) → (k : ℕ) × (k < suc n) × IsTrue (set k) × (0 < f k)
    up w = (w.0, omega (arith, w.1), w.2, w.3)

    at : (0 < sum_to n (λ k. cond (set k) (f k) 0) → (k : ℕ) × (k < n) × IsTrue (set k) × (0 < f k)) → (b : Bool) → set n ≡ b → 0 < sum_to n (λ k. cond (set k) (f k) 0) + cond b (f n) 0 → (k : ℕ) × (k < suc n) × IsTrue (set k) × (0 < f k)
    at rest false e l = up (rest (omega arith))
    at rest true e l = elim (cases_lt 0 (f n)) [ inl here ↦ (n, omega arith, e, here) | inr none ↦ up (rest (omega arith)) ]

pub present_somewhere : PresentSomewhere
present_somewhere p s v set t c h =
    let total : 0 < sum_to (node_count p) (λ n. cond (set n) (held_at p v Presence (one n) t c) 0) = (rw (held_by_node p s v Presence set t c) at (ltb-true 0 (held_at p v Presence set t c) h)) in
    let w = some-term (node_count p) set (λ n. held_at p v Presence (one n) t c) total in
    (w.0, w.1, w.2, lt-ltb 0 (held_at p v Presence (one w.0) t c) w.3)

-- ---- where there is no presence, and how much there is at most

module _ (p : Instance) (v : ℕ) (g : Stage) (set : Nodes) where
  -- a slice whose sort is a presence, and none is counted
  absent-slice : (r nodes : ℕ) (what : What) (o : Option Slice) → weight_of p v Presence what ≡ 1 → IsSliceOf nodes what o → weigh p v Presence o g set ≡ 0 → weigh p v (Amount r) o g set ≡ 0
  absent-slice r nodes what None e h none = refl
  absent-slice r nodes what (Some s) e h none =
      let one : weight_of p v Presence s.what ≡ 1 = ap (weight_of p v Presence) h.1 ∙ e in
      at (set s.node.0 && covers s.span g) (rw one at none)
    where
      at : (b : Bool) → ◌≡◌ {A = ℕ} (cond b 1 0) 0 → cond b (weight_of p v (Amount r) s.what) 0 ≡ 0
      at true f = cc
      at false f = refl

  weigh-le : (w : Weight) (m : ℕ) (o : Option Slice) → ((what : What) → weight_of p v w what ≤ m) → weigh p v w o g set ≤ m
  weigh-le w m None h = omega arith
  weigh-le w m (Some s) h = at (set s.node.0 && covers s.span g)
    where
      at : (b : Bool) → cond b (weight_of p v w s.what) 0 ≤ m
      at true = h s.what
      at false = omega arith

  absent : (r : ℕ) (x : Slices) → AreSlices (node_count p) x → weigh p v Presence x.source g set + weigh p v Presence x.target g set + weigh p v Presence x.image g set ≡ 0 → weigh p v (Amount r) x.source g set + weigh p v (Amount r) x.target g set + weigh p v (Amount r) x.image g set ≡ 0
  absent r x (inl plain) h =
      let source = absent-slice r _ Use x.source refl plain.source (omega arith) in
      let target = absent-slice r _ Demand x.target refl plain.target (omega arith) in
      omega (arith, source, target, no_weight p v set g (Amount r) _ OfImage x.image refl plain.image)
  absent r x (inr w) h = rw w.2 (at (set w.0.0) g.started (rw w.2 at h))
    where
      at : (b k : Bool) → ◌≡◌ {A = ℕ} (cond (b && true) 1 0 + cond (b && k) 0 0 + 0) 0 → cond (b && true) (use_of p.machines v r) 0 + cond (b && k) (demand_of p v r - use_of p.machines v r) 0 + 0 ≡ 0
      at true true f = cc
      at true false f = cc
      at false k f = refl

  amount-le : IsInstance p → (r : ℕ) (what : What) → weight_of p v (Amount r) what ≤ max_amount
  amount-le s r Use = omega (arith, use_of_le p v r, demand_of_le p v r s)
  amount-le s r Demand = demand_of_le p v r s
  amount-le s r Raise = omega (arith, demand_of_le p v r s)
  amount-le s r OfImage = omega arith

  presence-le : (what : What) → weight_of p v Presence what ≤ 1
  presence-le Use = omega arith
  presence-le Demand = omega arith
  presence-le Raise = omega arith
  presence-le OfImage = omega arith

  image-le : (what : What) → weight_of p v Image what ≤ 1
  image-le Use = omega arith
  image-le Demand = omega arith
  image-le Raise = omega arith
  image-le OfImage = omega arith

  -- an image has no amount and is no presence, and nothing else is an image
  image-none : (w : Weight) (x : Slices) → AreSlices (node_count p) x → weight_of p v w OfImage ≡ 0 → weigh p v w x.image g set ≡ 0
  image-none w x (inl plain) e = no_weight p v set g w _ OfImage x.image e plain.image
  image-none w x (inr k) e = rw k.2 refl

  source-none : (x : Slices) → AreSlices (node_count p) x → weigh p v Image x.source g set ≡ 0
  source-none x (inl plain) = no_weight p v set g Image _ Use x.source refl plain.source
  source-none x (inr k) = rw k.2 (cond-none (set k.0.0 && true))

  target-none : (x : Slices) → AreSlices (node_count p) x → weigh p v Image x.target g set ≡ 0
  target-none x (inl plain) = no_weight p v set g Image _ Demand x.target refl plain.target
  target-none x (inr k) = rw k.2 (cond-none (set k.0.0 && g.started))

pub absent_uses_nothing : AbsentUsesNothing
unfolding held_at held_by
absent_uses_nothing p s v set r t c h =
    absent p v (stage_at p (vm v) c t) set r (slices_of p v c) (are_slices p s v c) (grind (arith, nat_tests))

pub held_is_small : HeldIsSmall
unfolding held_at held_by
held_is_small p s v set t c =
    let g = stage_at p (vm v) c t in
    let x = slices_of p v c in
    let are = are_slices p s v c in
    record {
      amounts = λ r. omega (arith, weigh-le p v g set (Amount r) max_amount x.source (amount-le p v g set s r), weigh-le p v g set (Amount r) max_amount x.target (amount-le p v g set s r), image-none p v g set (Amount r) x are refl);
      presences = omega (arith, weigh-le p v g set Presence 1 x.source (presence-le p v g set), weigh-le p v g set Presence 1 x.target (presence-le p v g set), image-none p v g set Presence x are refl);
      images = omega (arith, source-none p v g set x are, target-none p v g set x are, weigh-le p v g set Image 1 x.image (image-le p v g set));
    }
