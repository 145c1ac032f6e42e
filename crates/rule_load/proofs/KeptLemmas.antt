-- The machines near each node, told of one more.
use Rattle.rule_load.proofs.Prelude.{narrowed_is_fewer, ◌≡◌, inl, inr, ℕ, ◌<◌, Bool, true, false, cond, nat_le, List, length, Some, None, refl, sym, ap, subst, ◌∙◌, arith, slice_index_or, Contains, and_parts, cases_eq, false≢true, ne_eqb, nat_tests, AreFirstAt, AreFirsts, AreKept, AreKeptAt, AreMovers, AreStanding, Arrival, Before, cache_of, Change, Choice, choices, comes_by, domain_at, domain_before, DomainView, Element, FixedView, Grows, HaveCome, Instance, Idle, IsCacheTold, IsListedBy, IsListedFor, IsNarrowed, IsNear, IsPut, level_at, list_at, machine_count, no_standing, TheNode, node_count, one, RegionView, same_element, Sets, sets, Standing, Tables, Vm, vm, sets_before, same_is, level_below, level_top, near_put, firsts_fewer}
use Rattle.standings.specs.Levels.{Levels}
use Rattle.rule_load.specs.Prelude.{AreRooms, IsWidened, RoomsView, StayersHoldOn}
use Rattle.load_bounds.proofs.Public.{rooms_widened}

-- ---- one machine more

pub none_listed : (p : Instance) (v : ℕ) (k : Standing) (xs : List (List ℕ)) → k.come ≡ None → IsListedBy p v k xs
none_listed p v k xs none = record { there = λ n t low on. absurd (false≢true (subst (λ o. comes_by n t o ≡ true) none on)) }

pub put_listed : (p : Instance) (v : ℕ) (k : Standing) (a : Arrival) (xs ys : List (List ℕ)) → k.come ≡ Some a → IsNear p ys → IsPut a.node.0 v xs ys → IsListedBy p v k ys
put_listed p v k a xs ys some near put = record { there = λ n t low on. at n t low (subst (λ o. comes_by n t o ≡ true) some on) }
  where
    at : (n t : ℕ) → n < node_count p → comes_by n t (Some a) ≡ true → Contains (list_at ys n) v
    at n t low on =
        let same : a.node.0 ≡ n = grind (arith, nat_tests, (and_parts (one n a.node.0) (nat_le a.last t) on).0) in
        subst (λ i. Contains (list_at ys i) v) same (put.there (omega (arith, low, near.count, same)))

pub grows_put : (n v count : ℕ) (xs ys : List (List ℕ)) → v < count → IsPut n v xs ys → Grows count xs ys
grows_put n v count xs ys low put = record { kept = put.kept; near = λ p same is. near_put p n v xs ys (omega (arith, low, same)) is put }

pub grows_not : (count : ℕ) (xs : List (List ℕ)) → Grows count xs xs
grows_not count xs = record { kept = λ n v h. h; near = λ p same is. is }

-- ---- all that have come

-- after a change of one element
pub come_told : (p : Instance) (g : RegionView) (x : Element) (before : Before) (kept : DomainView) (ks : List Standing) (xs ys : List (List ℕ)) (count : ℕ) → HaveCome p (sets_before g x before kept) xs → Grows count xs ys → AreStanding p (sets g) ks → IsListedFor p x ks ys → HaveCome p (sets g) ys
come_told p g (TheNode k) before kept ks xs ys count come grows are listed = record { come = λ n v t low l on. grows.kept n v (come.come n v t low l on) }
come_told p g (Vm w) before kept ks xs ys count come grows are listed = record {
  come = λ n v t low l on. elim (cases_eq v w.0) [
    | inl same ↦ subst (λ i. Contains (list_at ys n) i) (sym same) (listed.there n t low (subst (λ i. comes_by n t (slice_index_or ks i no_standing).come ≡ true) same ((are.each v l).come n t ∙ on)))
    | inr other ↦ let off : same_element (vm v) (Vm w) ≡ false = ne_eqb v w.0 other in grows.kept n v (come.come n v t low l (rw off on))
  ];
}

-- ---- levels

-- the top of what has as many levels
same-top : (m : Tables) (f : Levels ℕ) → length f.older ≡ length m.older → level_at f (length m.older) ≡ f.top
same-top m f same = ap (level_at f) (sym same) ∙ level_top f

pub kept_at : (p : Instance) (s : Sets) (m : Tables) (x : FixedView) (xs : List (List ℕ)) (f ws : Levels ℕ) (os : RoomsView) (hold : Bool) (n : ℕ) (fs : List ℕ) → n < node_count p → AreKept p s m x xs f ws os hold (length m.older) → AreFirstAt p s n fs → AreKeptAt p s n x m.top (list_at xs n) fs
kept_at p s m x xs f ws os hold n fs low kept first = record {
  fixed = kept.fixed;
  standing = subst (λ ks. AreStanding p s ks) (level_top m) kept.standing;
  near = record { machines = kept.near.machines n; hosted = λ v l on. kept.near.hosted n v low l on; come = λ v t l on. kept.come.come n v t low l on };
  firsts = first;
}

-- before when no machine starts at a node
pub kept_firsts : (p : Instance) (s : Sets) (m : Tables) (x : FixedView) (xs : List (List ℕ)) (f ws : Levels ℕ) (os : RoomsView) (hold : Bool) → AreKept p s m x xs f ws os hold (length m.older) → AreFirsts p s f.top
kept_firsts p s m x xs f ws os hold kept = subst (λ fs. AreFirsts p s fs) (same-top m f kept.same) kept.firsts

-- the machines that may not stay
pub kept_movers : (p : Instance) (s : Sets) (m : Tables) (x : FixedView) (xs : List (List ℕ)) (f ws : Levels ℕ) (os : RoomsView) (hold : Bool) → AreKept p s m x xs f ws os hold (length m.older) → AreMovers p s ws.top
kept_movers p s m x xs f ws os hold kept = subst (λ vs. AreMovers p s vs) (same-top m ws kept.alike) kept.movers

-- what a machine may do after a change that has narrowed its element it might do before
was-there : (p : Instance) (g : RegionView) (change : Change) (before : Before) (kept : DomainView) → IsNarrowed p g change before kept → (v : ℕ) (c : Choice) → Contains (sets g (vm v)) c → Contains (sets_before g change.element before kept (vm v)) c
was-there p g change before kept narrowed v c h = at (same_element (vm v) change.element) refl
  where
    at : (b : Bool) → same_element (vm v) change.element ≡ b → Contains (cond b (choices (domain_before before kept (domain_at g change.element))) (sets g (vm v))) c
    at true same = narrowed_is_fewer p g change before kept narrowed c (subst (λ e. Contains (sets g e) c) (same_is (vm v) change.element same) h)
    at false other = h

-- so no machine starts at a node before then
pub kept_fewer : (p : Instance) (g : RegionView) (change : Change) (before : Before) (kept : DomainView) (m : Tables) (x : FixedView) (xs : List (List ℕ)) (f ws : Levels ℕ) (os : RoomsView) (hold : Bool) → IsNarrowed p g change before kept → AreKept p (sets_before g change.element before kept) m x xs f ws os hold (length m.older) → AreFirsts p (sets g) f.top
kept_fewer p g change before kept m x xs f ws os hold narrowed was =
    firsts_fewer p (sets g) (sets_before g change.element before kept) f.top (kept_firsts p (sets_before g change.element before kept) m x xs f ws os hold was) (λ v c low h. was-there p g change before kept narrowed v c h)

-- and who may stay never has less than at present
pub hold_told : (p : Instance) (g : RegionView) (change : Change) (before : Before) (kept : DomainView) → IsNarrowed p g change before kept → StayersHoldOn p (sets_before g change.element before kept) → StayersHoldOn p (sets g)
hold_told p g change before kept narrowed was = record {
  each = λ v low idle. record { each = λ r t c h. (was.each v low (was-there p g change before kept narrowed v Idle idle)).each r t c (was-there p g change before kept narrowed v c h) };
}

pub cache_told : (p : Instance) (s old : Sets) (m now : Tables) (x : FixedView) (xs ys : List (List ℕ)) (f h ws vs : Levels ℕ) (os us : RoomsView) (hold : Bool) → now.older ≡ m.older → h.older ≡ f.older → vs.older ≡ ws.older → AreStanding p s now.top → AreFirsts p s h.top → AreKept p old m x xs f ws os hold (length m.older) → Grows (machine_count p) xs ys → HaveCome p s ys →
    AreMovers p s vs.top → IsWidened (node_count p) os us → AreRooms p s us → (hold ≡ true → StayersHoldOn p s) → IsCacheTold p s (cache_of m x xs f ws os hold) (cache_of now x ys h vs us hold)
cache_told p s old m now x xs ys f h ws vs os us hold same like alike are first was grows come movers widened rooms holds = record {
  below = record {
    kept = λ j q r low k. record {
      standing = subst (λ ks. AreStanding q r ks) (sym (level_below m now j same low)) k.standing;
      fixed = k.fixed;
      near = grows.near q (sym k.fixed.hosts.count ∙ was.fixed.hosts.count) k.near;
      come = record { come = λ n v t l i on. grows.kept n v (k.come.come n v t l i on) };
      firsts = subst (λ fs. AreFirsts q r fs) (sym (level_below f h j like (omega (arith, low, was.same)))) k.firsts;
      same = level;
      movers = subst (λ ms. AreMovers q r ms) (sym (level_below ws vs j alike (omega (arith, low, was.alike)))) k.movers;
      alike = lists;
      rooms = rooms_widened q r os us (node_count p) (sym k.near.count ∙ was.near.count) k.rooms widened;
      hold = k.hold;
    };
  };
  top = record {
    standing = subst (λ ks. AreStanding p s ks) (sym (level_top now)) are;
    fixed = was.fixed;
    near = grows.near p refl was.near;
    come = come;
    firsts = subst (λ fs. AreFirsts p s fs) (sym (same-top now h level)) first;
    same = level;
    movers = subst (λ ms. AreMovers p s ms) (sym (same-top now vs lists)) movers;
    alike = lists;
    rooms = rooms;
    hold = holds;
  };
}
  where
    level : length h.older ≡ length now.older
    level = rw (like, same) was.same

    lists : length vs.older ≡ length now.older
    lists = rw (alike, same) was.alike
