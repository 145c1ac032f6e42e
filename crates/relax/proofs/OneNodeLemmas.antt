-- Sets of one node, what a machine has there, and the room there.
use Rattle.relax.proofs.Prelude.{IsTrue, ◌≡◌, ◌≢◌, inl, inr, ℕ, zero, suc, ◌+◌, ◌<◌, ◌≤◌, ◌==◌, Bool, true, false, not, cond, List, length, refl, sym, subst, arith, slice_index_or, Contains, cases_eq, cases_lt, false≢true, ne_eqb, Decides-eqb, sum_to-change, sum_to-none, sum_to-zero, Act, capacity_of, Choice, choices, Climbs, DomainView, goes_in, has_node, Instance, IsFirstFrom, IsWithin, node_count, NodeSet, one, room, Row, Snapshot, sum_to}
use Rattle.relax.proofs.AwayLemmas.{start_in}

-- a set with no node before its first one, and none after it, has that alone
pub only_one : (s : NodeSet) (n : ℕ) → IsFirstFrom s 0 n → IsWithin s (n + 1) → has_node s ≡ one n
only_one s n first last = λ i m. same m i
  where
    same : (m : ℕ) → has_node s m ≡ (m == n)
    same m = elim (cases_eq m n) [
      | inl is ↦ let on : (m == n) ≡ true = (Decides-eqb m n).1 is in rw (on, is) first.there
      | inr other ↦
          let off : (m == n) ≡ false = ne_eqb m n other in
          rw off (elim (cases_lt m n) [
            | inl before ↦ first.none m (omega arith) before
            | inr after ↦ last m (omega (arith, after, other))
          ])
    ]

-- the first choice, which does not go to a node
pub first_out : (d : DomainView) (rows : List Row) (x : Row) (n : ℕ) (goes : Bool) → Climbs 0 d.rows → rows ≡ d.rows → 1 ≤ length rows → ((start : ℕ) → goes ≡ goes_in (Act (slice_index_or rows 0 x).place start) (one n)) → IsTrue (not goes) → (c : Choice) × Contains (choices d) c × (goes_in c (one n) ≡ false)
first_out d rows x n true climbs same some told out = absurd (false≢true out)
first_out d rows x n false climbs same some told out =
    let there = start_in d 0 x climbs (subst (λ rs. 0 < length rs) same (omega (arith, some))) in
    (_, there, sym (subst (λ rs. false ≡ goes_in (Act (slice_index_or rs 0 x).place (slice_index_or rs 0 x).lo) (one n)) same (told (slice_index_or rows 0 x).lo)))

-- terms of 0 add nothing
pub sum_of_more : (a b : ℕ) (f : ℕ → ℕ) → a ≤ b → ((k : ℕ) → a ≤ k → k < b → f k ≡ 0) → sum_to b f ≡ sum_to a f
sum_of_more a zero f low none = let same : a ≡ 0 = omega (arith, low) in rw same refl
sum_of_more a (suc b) f low none = elim (cases_eq a (suc b)) [
  | inl same ↦ rw same refl
  | inr other ↦ omega (arith, sum_of_more a b f (omega (arith, low)) (λ k from to. none k from (omega (arith, to))), none b (omega (arith, low)) (omega arith))
]

-- one term more, and then terms of 0
pub sum_of_next : (i next total term : ℕ) (f : ℕ → ℕ) → total ≡ sum_to i f → term ≡ f i → i + 1 ≤ next → ((k : ℕ) → i + 1 ≤ k → k < next → f k ≡ 0) → total + term ≡ sum_to next f
sum_of_next i next total term f same is low none =
    let more : sum_to next f ≡ sum_to (suc i) f = sum_of_more (suc i) next f (omega (arith, low)) (λ k from to. none k (omega (arith, from)) to) in
    omega (arith, same, is, more)

-- of a sum over one node there is one term
sum_of_one : (count n : ℕ) (f : ℕ → ℕ) → n < count → sum_to count (λ k. cond (one n k) (f k) 0) ≡ f n
sum_of_one count n f low =
    let here : cond (one n n) (f n) 0 ≡ f n = let same : (n == n) ≡ true = (Decides-eqb n n).1 refl in rw same refl in
    let other : (k : ℕ) → k ≢ n → cond (one n k) (f k) 0 ≡ 0 = λ k ne. let off : (k == n) ≡ false = ne_eqb k n ne in rw off refl in
    omega (arith, sum_to-change count (λ k. cond (one n k) (f k) 0) (λ _. 0) n low other, sum_to-zero count, here)

pub room_of_one : (p : Instance) (s : Snapshot) (r n : ℕ) → n < node_count p → room p s r (one n) ≡ cond (s.usable n) (capacity_of p n r) 0
room_of_one p s r n low = sum_of_one (node_count p) n (λ k. cond (s.usable k) (capacity_of p k r) 0) low

-- and past the nodes there is no room
pub room_of_none : (p : Instance) (s : Snapshot) (r n : ℕ) → node_count p ≤ n → room p s r (one n) ≡ 0
room_of_none p s r n past = sum_to-none (node_count p) (λ k. cond (one n k) (cond (s.usable k) (capacity_of p k r) 0) 0) none
  where
    none : (k : ℕ) → k < node_count p → cond (one n k) (cond (s.usable k) (capacity_of p k r) 0) 0 ≡ 0
    none k low = let off : (k == n) ≡ false = ne_eqb k n (omega (arith, low, past)) in rw off refl
