-- The room of all nodes but those of a list, and that list with one node more.
use Rattle.load_bounds.proofs.Prelude.{◌≡◌, inl, inr, ℕ, zero, suc, ◌+◌, ◌-◌, ◌<◌, ◌≤◌, ◌==◌, ◌||◌, Bool, true, false, cond, List, [], ◌∷◌, ◌++◌, length, refl, sym, subst, arith, slice_index_or, Contains, Decides-eqb, cases_eq, ne_eqb, sum_by, sum_to-le, Choice, Element, Instance, node, node_count, Sets, sum_by-cons, sum_to, sum_whole, take, capacity_of, same_element, TheNode, Vm, list_any}
use Rattle.load_bounds.specs.Prelude.{sure, always, AreRooms, AreWholeRooms, IsListedOrLasts, IsWholeRoom, IsWidened, IsWidenedBy, Lasts, no_room_at_all, RoomsView}
use Rattle.load_bounds.specs.declared.loose_room.LooseRoom.{LooseRoom}
use Rattle.domains.specs.SetsBefore.{putting}
use Rattle.load_bounds.proofs.LooseLemmas.{AreLasting}
use Rattle.load_bounds.proofs.RoomLemmas.{may-between}
use Rattle.profiles.proofs.Public.{each_push}
use Rattle.base.proofs.Public.{Contains-append_left, Contains-push, Contains-push_cases, length-append}

-- ---- resource by resource

pub whole_push : (p : Instance) (n : ℕ) (xs : List LooseRoom) (x : LooseRoom) → AreWholeRooms p n xs → IsWholeRoom p n x → AreWholeRooms p (n + 1) (xs ++ x ∷ [])
whole_push p n xs x are is = record {
  count = omega (arith, length-append xs (x ∷ []), are.count);
  each = each_push (λ r k. IsWholeRoom p r k) no_room_at_all n xs x are.count are.each is;
}

-- ---- a sum without the terms of a list

part : (b : Bool) (k : ℕ) → cond b k 0 ≤ k
part true k = omega arith
part false k = omega arith

more-of : (b c : Bool) (k : ℕ) → c ≡ false → cond (b || c) k 0 ≤ cond b k 0
more-of true c k e = omega arith
more-of false c k e = rw e (omega arith)

-- with one term more it grows by that at the most
one-more : (m : ℕ) (f : ℕ → ℕ) (on : ℕ → Bool) (x : ℕ) → sum_to m (λ n. cond (on n || (n == x)) (f n) 0) ≤ sum_to m (λ n. cond (on n) (f n) 0) + f x
one-more zero f on x = omega arith
one-more (suc m) f on x = elim (cases_eq m x) [
  | inl same ↦
      let before = sum_to-le m (λ n. cond (on n || (n == x)) (f n) 0) (λ n. cond (on n) (f n) 0) (λ k low. more-of (on k) (k == x) (f k) (ne_eqb k x (λ e. omega (arith, e, same, low)))) in
      let here : f m ≡ f x = rw same refl in
      omega (arith, before, part (on m || (m == x)) (f m), here)
  | inr other ↦ omega (arith, one-more m f on x, more-of (on m) (m == x) (f m) (ne_eqb m x other))
]

or-left : (a b : Bool) → a ≡ true → (a || b) ≡ true
or-left true b e = refl
or-left false b e = absurd (cc)

or-right : (a b : Bool) → b ≡ true → (a || b) ≡ true
or-right true b e = refl
or-right false b e = e

later-in : (x : ℕ) (xs : List ℕ) (n : ℕ) → Contains xs n → Contains (x ∷ xs) n
later-in x xs n h = (suc h.0, omega (arith, h.1), h.2)

first-in : (x : ℕ) (xs : List ℕ) → Contains (x ∷ xs) x
first-in x xs = (0, omega arith, refl)

pub but_listed : (m : ℕ) (f : ℕ → ℕ) (on : ℕ → Bool) (xs : List ℕ) → ((n : ℕ) → n < m → ¬ Contains xs n → on n ≡ true) → sum_to m f ≤ sum_to m (λ n. cond (on n) (f n) 0) + sum_by f xs
but_listed m f on [] others =
    let all = sum_to-le m f (λ n. cond (on n) (f n) 0) (λ n low. let is = others n low (λ h. omega (arith, h.1)) in rw is (omega arith)) in
    omega (arith, all)
but_listed m f on (x ∷ xs) others =
    let rest = but_listed m f (λ n. on n || (n == x)) xs (λ n low out. at n low out) in
    omega (arith, rest, one-more m f on x, sum_by-cons f x xs)
  where
    at : (n : ℕ) → n < m → ¬ Contains xs n → (on n || (n == x)) ≡ true
    at n low out = elim (cases_eq n x) [
      | inl same ↦ or-right (on n) (n == x) ((Decides-eqb n x).1 same)
      | inr other ↦ or-left (on n) (n == x) (others n low (λ h. apart n h other out))
    ]
      where
        apart : (n : ℕ) → Contains (x ∷ xs) n → ¬ (n ≡ x) → ¬ Contains xs n → ⊥
        apart n (zero, low, is) other out = other (sym is)
        apart n (suc k, low, is) other out = out (k, omega (arith, low), is)

-- what all nodes have but those of the list lasts
pub rooms_last : (p : Instance) (s : Sets) (x : RoomsView) (r whole left : ℕ) → AreRooms p s x → whole ≡ sum_to (node_count p) (λ n. capacity_of p n r) → left ≡ whole - sum_by (λ n. capacity_of p n r) x.leavers → AreLasting p s r (always p) (node_count p) left
unfolding sure
rooms_last p s x r whole left are is rest t h =
    let all = but_listed (node_count p) (λ n. capacity_of p n r) (λ n. (sure p s t).usable n) x.leavers (λ n low out. at n (are.others n low out)) in
    omega (arith, all, is, rest)
  where
    at : (n : ℕ) → Lasts p s n → (sure p s t).usable n ≡ true
    at n lasts = may-between p n t (always p) (s (node n)) h lasts.first lasts.last

-- so it is of what is left of a room after a pass over the list
pub room_lasts : (p : Instance) (s : Sets) (x : RoomsView) (r i total : ℕ) (w : LooseRoom) → AreRooms p s x → r < length p.resources → w ≡ slice_index_or x.rooms r no_room_at_all → length x.leavers ≤ i → total ≡ w.total - sum_by (λ n. capacity_of p n r) (take i x.leavers) → AreLasting p s r (always p) (node_count p) total
room_lasts p s x r i total w are low is all left =
    let whole : IsWholeRoom p r w = rw is (are.whole.each r low) in
    let sum : sum_by (λ n. capacity_of p n r) (take i x.leavers) ≡ sum_by (λ n. capacity_of p n r) x.leavers = sum_whole (λ n. capacity_of p n r) x.leavers i (sum_by (λ n. capacity_of p n r) (take i x.leavers)) all refl in
    rooms_last p s x r w.total total are whole.total (omega (arith, left, sum))

-- ---- one node more

pub found_listed : (xs : List ℕ) (n : ℕ) → list_any (λ m. m == n) xs ≡ true → Contains xs n
found_listed [] n e = absurd (cc)
found_listed (x ∷ xs) n e = elim (cases_eq x n) [
  | inl same ↦ rw same (first-in n xs)
  | inr other ↦ later-in x xs n (found_listed xs n (rw (ne_eqb x n other) at e))
]

pub widened_not : (count : ℕ) (x : RoomsView) → IsWidened count x x
widened_not count x = record { rooms = refl; kept = λ n h. h; nodes = λ p same are. are }

pub widened_push : (count n : ℕ) (x y : RoomsView) → n < count → y.rooms ≡ x.rooms → y.leavers ≡ x.leavers ++ n ∷ [] → IsWidened count x y
widened_push count n x y low rooms is = record {
  rooms = rooms;
  kept = λ m h. rw is (Contains-append_left x.leavers (n ∷ []) m h);
  nodes = λ p same are m h. elim (Contains-push_cases x.leavers n m (rw is at h)) [ inl old ↦ are m old | inr new ↦ omega (arith, low, same, new) ];
}

pub lasts_told : (p : Instance) (s : Sets) (n : ℕ) (xs : List ℕ) → Lasts p s n → IsListedOrLasts p s n xs
lasts_told p s n xs is = record { lasts = λ out. is }

pub listed_told : (p : Instance) (s : Sets) (n : ℕ) (xs : List ℕ) → Contains xs n → IsListedOrLasts p s n xs
listed_told p s n xs h = record { lasts = λ out. absurd (out h) }

pub pushed_told : (p : Instance) (s : Sets) (n : ℕ) (xs ys : List ℕ) → ys ≡ xs ++ n ∷ [] → IsListedOrLasts p s n ys
pushed_told p s n xs ys is = listed_told p s n ys (rw is (Contains-push xs n))

-- the first nodes are told, and one more
pub next_widened : (p : Instance) (s : Sets) (i count : ℕ) (x y : RoomsView) → IsWidened count x y → ((n : ℕ) → n < i → IsListedOrLasts p s n x.leavers) → IsListedOrLasts p s i y.leavers → (n : ℕ) → n < i + 1 → IsListedOrLasts p s n y.leavers
next_widened p s i count x y widened before here n h =
    elim (cases_eq n i) [
      | inl same ↦ rw same here
      | inr other ↦ record { lasts = λ out. (before n (omega (arith, h, other))).lasts (λ old. out (widened.kept n old)) }
    ]

-- ---- what stays right

-- after a change of element x, which had other choices
pub rooms_told : (p : Instance) (s : Sets) (x : Element) (cs : List Choice) (os vs : RoomsView) → AreRooms p (putting x cs s) os → IsWidened (node_count p) os vs → IsWidenedBy p s x vs.leavers → AreRooms p s vs
unfolding sure
rooms_told p s (Vm v) cs os vs was widened told = record {
  whole = rw widened.rooms was.whole;
  nodes = widened.nodes p refl was.nodes;
  others = λ n low out. let is = was.others n low (λ old. out (widened.kept n old)) in record { first = is.first; last = is.last };
}
rooms_told p s (TheNode m) cs os vs was widened told = record {
  whole = rw widened.rooms was.whole;
  nodes = widened.nodes p refl was.nodes;
  others = λ n low out. elim (cases_eq n m.0) [
    | inl is ↦ rw is (told.lasts (subst (λ k. ¬ Contains vs.leavers k) is out))
    | inr other ↦
        let off : same_element (node n) (TheNode m) ≡ false = ne_eqb n m.0 other in
        let lasts = was.others n low (λ old. out (widened.kept n old)) in
        record { first = rw off at lasts.first; last = rw off at lasts.last }
  ];
}

-- in any region in which the list was right before it grew
pub rooms_widened : (p : Instance) (s : Sets) (os vs : RoomsView) (count : ℕ) → node_count p ≡ count → AreRooms p s os → IsWidened count os vs → AreRooms p s vs
rooms_widened p s os vs count same was widened = record {
  whole = rw widened.rooms was.whole;
  nodes = widened.nodes p same was.nodes;
  others = λ n low out. was.others n low (λ old. out (widened.kept n old));
}
