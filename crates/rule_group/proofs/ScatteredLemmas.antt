-- Members of which no group has all.
use Rattle.rule_group.proofs.Prelude.{All, arith, get_or, get_or-map-range_with_len, inl, inr, eq-eqb, IsTrue, length, length-map, length-map-range_with_len, List, list_any_at, map, nat_tests, None, not, Option, range_with_len, refl, Some, suc, zero, ◌<◌, ◌==◌, ◌∷◌, ◌⊎◌, ◌≡◌, ℕ, []}
use Rattle.rule_group.specs.Prelude.{AnyNode, AnyOf, AreScattered, Choice, group_count, group_nodes, group_sets, Groups, has_node, HasOutside, Instance, IsSpot, LacksSpot, node_count, NodeId, Nodes, NodeSet, one, Presence, present_at, Sets, Snapshot, Spots, StandsAt, sure, vm, VmId}
use Rattle.cluster.specs.Sets.{no_nodes}
use Rattle.slices.proofs.Public.{held_on_more}
use Rattle.rule_group.proofs.ActingLemmas.{surely-more}

-- ---- one machine

present-more : (p : Instance) (v : ℕ) (few many : Nodes) (t : ℕ) (c : Choice) → ((n : ℕ) → IsTrue (few n) → IsTrue (many n)) → IsTrue (present_at p v few t c) → IsTrue (present_at p v many t c)
present-more p v few many t c h x = let more = held_on_more p v Presence few many t c h in grind (arith, nat_tests)

surely-on-more : (p : Instance) (s : Sets) (v : ℕ) (few many : Nodes) (t : ℕ) → ((n : ℕ) → IsTrue (few n) → IsTrue (many n)) → IsTrue ((sure p s t).present v few) → IsTrue ((sure p s t).present v many)
unfolding sure
surely-on-more p s v few many t h x = surely-more (present_at p v few t) (present_at p v many t) (s (vm v)) (λ c y. present-more p v few many t c h y) x

not-at : (set : Nodes) (spot : Option NodeId) (n : ℕ) → LacksSpot set spot → IsSpot spot n → IsTrue (not (set n))
not-at set None n lacks at = absurd at
not-at set (Some m) n lacks at = rw (← at, lacks) refl

-- a machine that is surely on these nodes stands there
pub stands_there : (p : Instance) (s : Sets) (v t : ℕ) (x : Spots) (near : NodeSet) → ((n : ℕ) → IsTrue (has_node near n) → IsSpot x.host n ⊎ IsSpot x.place n) → IsTrue ((sure p s t).present v (has_node near)) → StandsAt (sure p s t) v x
stands_there p s v t x near at there = record {
  outside = λ set host place. surely-on-more p s v (has_node near) (λ n. not (set n)) t (λ n h. elim (at n h) [ inl a ↦ not-at set x.host n host a | inr b ↦ not-at set x.place n place b ]) there;
}

-- ---- one group

-- a machine at a place of the list is outside it
pub outside_at : (s : Snapshot) (vs : List VmId) (set : Nodes) (k : ℕ) (d : VmId) → k < length vs → IsTrue (s.present (get_or vs k d).0 (λ n. not (set n))) → HasOutside s vs set
outside_at s vs set k d low h = ((get_or vs k d).0, list_any_at (λ x. x.0 == (get_or vs k d).0) vs k d low (eq-eqb (get_or vs k d).0 (get_or vs k d).0 refl), h)

-- ---- all groups

some-group : (s : Snapshot) (vs : List VmId) (groups : List Nodes) → 0 < length groups → All (HasOutside s vs) groups → AreScattered s vs groups
some-group s vs [] low h = absurd (omega arith)
some-group s vs (g ∷ groups) low h = record { some = λ e. cc; each = h }

nth-set : (P : Nodes → Type 0) (gs : List NodeSet) (k : ℕ) (d : Nodes) → k < length gs → P (has_node (get_or gs k no_nodes)) → P (get_or (map has_node gs) k d)
nth-set P [] k d low h = absurd (omega arith)
nth-set P (g ∷ gs) zero d low h = h
nth-set P (g ∷ gs) (suc k) d low h = nth-set P gs k d (omega arith) h

-- each of the groups by their numbers has a member outside
pub all_scattered : (s : Snapshot) (vs : List VmId) (p : Instance) (groups : Groups) → 0 < group_count p groups → ((k : ℕ) → k < group_count p groups → HasOutside s vs (group_nodes groups k)) → AreScattered s vs (group_sets p groups)
all_scattered s vs p AnyNode low h =
    let count : length (map one (range_with_len 0 (node_count p))) ≡ node_count p = length-map-range_with_len one 0 (node_count p) in
    some-group s vs (map one (range_with_len 0 (node_count p))) (omega (arith, count, low)) (λ k d u. rw (get_or-map-range_with_len one 0 (node_count p) k k d (omega (arith, count, u)) (omega arith)) (h k (omega (arith, count, u))))
all_scattered s vs p (AnyOf groups) low h =
    let count : length (map has_node groups) ≡ length groups = length-map groups has_node in
    some-group s vs (map has_node groups) (omega (arith, count, low)) (λ k d u. nth-set (HasOutside s vs) groups k d (omega (arith, count, u)) (h k (omega (arith, count, u))))
