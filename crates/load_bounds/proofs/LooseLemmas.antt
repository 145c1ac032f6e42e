-- Which room all nodes have where some of them may be usable or not.
use Rattle.load_bounds.proofs.Prelude.{◌≡◌, ℕ, ◌+◌, ◌<◌, ◌≤◌, Bool, true, false, cond, nat_lt, refl, sym, ◌∙◌, arith, false≢true, lt-ltb, sum_to-le, setting_room}
use Rattle.load_bounds.specs.Prelude.{all_nodes, capacity_of, HasRoom, Instance, is_online, is_steady, IsAtStake, IsDuring, may, node, node_count, NodesFit, Period, Sets, sum_to, sure, usable_at}
use Rattle.load_bounds.proofs.RoomLemmas.{each-steady, may-between, may-more, offline-after, online-before}

part : (b : Bool) (k : ℕ) → cond b k 0 ≤ k
part true k = omega arith
part false k = omega arith

-- ---- what lasts

pub none_lasts : (p : Instance) (s : Sets) (n r t : ℕ) → 0 ≤ cond ((sure p s t).usable n) (capacity_of p n r) 0
none_lasts p s n r t = omega arith

pub lasts_all_through : (p : Instance) (s : Sets) (n r : ℕ) (x : Period) → (sure p s x.from).usable n ≡ true → (sure p s x.to).usable n ≡ true → (t : ℕ) → IsDuring x t → capacity_of p n r ≤ cond ((sure p s t).usable n) (capacity_of p n r) 0
unfolding sure
lasts_all_through p s n r x first last t h = rw (may-between p n t x (s (node n)) h first last) (omega arith)

-- ---- what is at stake

pub capacity_stakes : (p : Instance) (s : Sets) (r n : ℕ) (x : Period) → IsAtStake p s r x n (capacity_of p n r)
capacity_stakes p s r n x c t i h = omega (arith, part ((sure p s t).usable n) (capacity_of p n r))

pub steady_stakes : (p : Instance) (s : Sets) (r n : ℕ) (x : Period) → is_steady p s x n ≡ true → IsAtStake p s r x n 0
steady_stakes p s r n x steady c t i h = rw (each-steady p s x t h n c steady i) (omega (arith, part ((sure p s t).usable n) (capacity_of p n r)))

-- who may be usable at neither end of a period may not be so between them
unused-between : (p : Instance) (s : Sets) (n t : ℕ) (x : Period) → IsDuring x t → (sure p s x.from).usable n ≡ false → (sure p s x.to).usable n ≡ false → (sure p s t).usable n ≡ false
unfolding sure
unused-between p s n t x h first last = by (may (usable_at p n t) (s (node n))) refl
  where
    earlier : is_online p.nodes n ≡ true → may (usable_at p n t) (s (node n)) ≡ true → may (usable_at p n x.from) (s (node n)) ≡ true
    earlier on = may-more (usable_at p n t) (usable_at p n x.from) (s (node n)) (λ c e. online-before p n x.from t c on h.0 e)

    later : is_online p.nodes n ≡ false → may (usable_at p n t) (s (node n)) ≡ true → may (usable_at p n x.to) (s (node n)) ≡ true
    later off = may-more (usable_at p n t) (usable_at p n x.to) (s (node n)) (λ c e. offline-after p n t x.to c off h.1 e)

    either : (b : Bool) → is_online p.nodes n ≡ b → may (usable_at p n t) (s (node n)) ≡ true → ⊥
    either true on e = false≢true (sym first ∙ earlier on e)
    either false off e = false≢true (sym last ∙ later off e)

    by : (b : Bool) → may (usable_at p n t) (s (node n)) ≡ b → b ≡ false
    by true e = absurd (either (is_online p.nodes n) refl e)
    by false e = refl

pub unused_stakes : (p : Instance) (s : Sets) (r n : ℕ) (x : Period) → (sure p s x.from).usable n ≡ false → (sure p s x.to).usable n ≡ false → IsAtStake p s r x n 0
unused_stakes p s r n x first last c t i h = rw (unused-between p s n t x h first last) (omega arith)

-- more is at stake
pub more_stakes : (p : Instance) (s : Sets) (r n : ℕ) (x : Period) (k l : ℕ) → k ≤ l → IsAtStake p s r x n k → IsAtStake p s r x n l
more_stakes p s r n x k l le stake c t i h = omega (arith, le, stake c t i h)

-- ---- all nodes

abbrev pub AreLasting : Instance → Sets → ℕ → Period → ℕ → ℕ → Type 0
AreLasting p s r x count total = (t : ℕ) → IsDuring x t → total ≤ sum_to count (λ n. cond ((sure p s t).usable n) (capacity_of p n r) 0)

within : (p : Instance) (n k : ℕ) → n < node_count p → k ≤ cond (nat_lt n (node_count p)) k 0
within p n k l = rw (lt-ltb n (node_count p) l) (omega arith)

pub loose_has_room : (p : Instance) (s : Sets) (r : ℕ) (x : Period) (total : ℕ) → AreLasting p s r x (node_count p) total → HasRoom p s r (all_nodes p) x total
loose_has_room p s r x total lasting = record {
  at = λ t h. omega (
    arith,
    lasting t h,
    sum_to-le (node_count p) (λ n. cond ((sure p s t).usable n) (capacity_of p n r) 0) (λ n. cond (all_nodes p n) (cond ((sure p s t).usable n) (capacity_of p n r) 0) 0)
        (λ n l. within p n (cond ((sure p s t).usable n) (capacity_of p n r) 0) l),
  );
}

pub lasting_room : (p : Instance) (s : Sets) (r : ℕ) (x : Period) (count total : ℕ) → count ≡ node_count p → AreLasting p s r x count total → HasRoom p s r (all_nodes p) x total
lasting_room p s r x count total all lasting = loose_has_room p s r x total (rw all at lasting)

pub loose_fits : (p : Instance) (s : Sets) (r : ℕ) (x : Period) (total stake : ℕ) → HasRoom p s r (all_nodes p) x total → ((n : ℕ) → n < node_count p → IsAtStake p s r x n stake) → (used : ℕ) → used + stake ≤ total → NodesFit p s r (all_nodes p) x used
loose_fits p s r x total stake room stakes used fits = record {
  each = λ m c t l i h.
      let change = rw (lt-ltb m (node_count p) l) at (setting_room p s m c t r (all_nodes p) l) in
      omega (arith, change, stakes m l c t i h, room.at t h, fits);
}
