-- A list of domains and its counts.
use Rattle.base.proofs.Public.{◌≡◌, ◌≢◌, ◌⊎◌, inl, inr, ℕ, ◌+◌, ◌-◌, ◌*◌, ◌<◌, ◌≤◌, ◌==◌, Bool, true, false, cond, List, length, get_or, set, slice_index, replicate, refl, sym, ap, ◌∙◌, arith, add-one, ◌^◌, nat_tests, Decides-eqb, length-set, get_or-set_same, get_or-set_other, get_or-replicate, get_or_read, All-set, sum_to-same, sum_to-term, sum_to-bound, sum_to-change}
use Rattle.domains.specs.Prelude.{AreCounted, AreFixed, AreListed, block_count, block_of, Climbs, DomainView, is_one, IsFirstFrom, staying, sum_to, unfixed, unfixed_in}

unfixed-le : (d : DomainView) → unfixed d ≤ 1
unfixed-le d = by (is_one d)
  where
    by : (b : Bool) → cond b 0 1 ≤ 1
    by true = omega arith
    by false = omega arith

block-lt : (i : ℕ) → block_of i < block_count
block-lt i = omega arith

-- a domain in a block and one in another
in_block : (ds : List DomainView) (i block : ℕ) → block_of i ≡ block → unfixed_in ds block i ≡ unfixed (get_or ds i staying)
in_block ds i block e = let here : (block_of i == block) ≡ true = (Decides-eqb (block_of i) block).1 e in rw here refl

in_other : (ds : List DomainView) (i block : ℕ) → block_of i ≢ block → unfixed_in ds block i ≡ 0
in_other ds i block ne = let other : (block_of i == block) ≡ false = grind (arith, nat_tests) in rw other refl

in_block-le : (ds : List DomainView) (block i : ℕ) → unfixed_in ds block i ≤ 1
in_block-le ds block i = by (block_of i == block) (unfixed (get_or ds i staying)) (unfixed-le (get_or ds i staying))
  where
    by : (b : Bool) (n : ℕ) → n ≤ 1 → cond b n 0 ≤ 1
    by true n l = l
    by false n l = omega arith

module _ (counts : List ℕ) (ds : List DomainView) where
  -- a count is at most the number of domains counted, and at least what each domain adds to it
  pub count-room : (n : ℕ) → AreCounted counts ds n → (i : ℕ) → slice_index counts (block_of i) ≤ n
  count-room n c i = omega (arith, c.counts (block_of i) (block-lt i), sum_to-bound n 1 (unfixed_in ds (block_of i)) (λ k l. in_block-le ds (block_of i) k))

  pub count-term : AreCounted counts ds (length ds) → (i : ℕ) → i < length ds → unfixed (get_or ds i staying) ≤ slice_index counts (block_of i)
  count-term c i l =
      omega (arith, c.counts (block_of i) (block-lt i), sum_to-term (length ds) (unfixed_in ds (block_of i)) i l, in_block ds i (block_of i) refl)

  -- where a count is 0, each domain of the block has one choice
  pub count-none : AreCounted counts ds (length ds) → (i : ℕ) → i < length ds → slice_index counts (block_of i) ≡ 0 → is_one (get_or ds i staying) ≡ true
  count-none c i l none = by (is_one (get_or ds i staying)) (omega (arith, count-term c i l))
    where
      by : (b : Bool) → cond b 0 1 ≤ 0 → b ≡ true
      by true l = refl
      by false l = absurd (omega arith)

  -- what the blocks of all other domains add stays
  same_in : (i : ℕ) (d : DomainView) (block k : ℕ) → k ≢ i → unfixed_in ds block k ≡ unfixed_in (set ds i d) block k
  same_in i d block k ne = ap (λ x. cond (block_of k == block) (unfixed x) 0) (sym (get_or-set_other ds i k d staying ne))

  count_here : (i : ℕ) (d : DomainView) → AreCounted counts ds (length ds) → i < length ds → (slice_index counts (block_of i) + unfixed d) - unfixed (get_or ds i staying) ≡ sum_to (length ds) (unfixed_in (set ds i d) (block_of i))
  count_here i d c l =
      let change = sum_to-change (length ds) (unfixed_in ds (block_of i)) (unfixed_in (set ds i d) (block_of i)) i l (same_in i d (block_of i)) in
      let old = in_block ds i (block_of i) refl in
      let new : unfixed_in (set ds i d) (block_of i) i ≡ unfixed d = in_block (set ds i d) i (block_of i) refl ∙ ap unfixed (get_or-set_same ds i d staying l) in
      omega (arith, c.counts (block_of i) (block-lt i), change, old, new)

  count_other : (i : ℕ) (d : DomainView) (block : ℕ) → block_of i ≢ block → sum_to (length ds) (unfixed_in ds block) ≡ sum_to (length ds) (unfixed_in (set ds i d) block)
  count_other i d block ne = sum_to-same (length ds) (unfixed_in ds block) (unfixed_in (set ds i d) block) (λ k l. by k (grind arith))
    where
      by : (k : ℕ) → (k ≡ i) ⊎ (k ≢ i) → unfixed_in ds block k ≡ unfixed_in (set ds i d) block k
      by k (inl here) = rw here (in_other ds i block ne ∙ sym (in_other (set ds i d) i block ne))
      by k (inr other) = same_in i d block k other

  -- the counts after one domain has changed
  pub counted_set : (i : ℕ) (d : DomainView) → AreCounted counts ds (length ds) → i < length ds → AreCounted (set counts (block_of i) ((slice_index counts (block_of i) + unfixed d) - unfixed (get_or ds i staying))) (set ds i d) (length (set ds i d))
  counted_set i d c l = record {
    blocks = length-set counts (block_of i) _ ∙ c.blocks;
    counts = λ block lt. rw (length-set ds i d) (at block lt (grind arith));
  }
    where
      at : (block : ℕ) → block < block_count → (block_of i ≡ block) ⊎ (block_of i ≢ block) → slice_index (set counts (block_of i) ((slice_index counts (block_of i) + unfixed d) - unfixed (get_or ds i staying))) block ≡ sum_to (length ds) (unfixed_in (set ds i d) block)
      at block lt (inl here) = rw (← here) (get_or-set_same counts (block_of i) _ 0 (omega (arith, c.blocks, block-lt i)) ∙ count_here i d c l)
      at block lt (inr other) = get_or-set_other counts (block_of i) block _ 0 (λ e. other (sym e)) ∙ c.counts block lt ∙ count_other i d block other

-- the counts where no domain has been counted
pub counted_none : (ds : List DomainView) → AreCounted (replicate 64 0) ds 0
counted_none ds = record { blocks = refl; counts = λ block lt. get_or-replicate 64 block 0 0 lt }

-- a domain that has changed, and whose rows climb
pub listed_set : (counts : List ℕ) (ds : List DomainView) (i : ℕ) (d : DomainView) → AreListed counts ds → i < length ds → Climbs 0 d.rows → AreListed (set counts (block_of i) ((slice_index counts (block_of i) + unfixed d) - unfixed (get_or ds i staying))) (set ds i d)
listed_set counts ds i d a l c = record {
  few = rw (length-set ds i d) a.few;
  climb = All-set (λ x. Climbs 0 x.rows) ds i d c a.climb;
  counted = counted_set counts ds i d a.counted l;
}

-- before and after a change, by what the code has read
module _ (counts : List ℕ) (ds : List DomainView) (i : ℕ) (old : DomainView) (was : Bool) (listed : AreListed counts ds) (within : i < length ds) (read : old ≡ get_or ds i old) (was_is : was ≡ is_one old) where
  pub recount_term : cond was 0 1 ≤ slice_index counts (block_of i)
  recount_term = rw (was_is, get_or_read ds i old within read staying) (count-term counts ds listed.counted i within)

  pub listed_change : (after : List ℕ) (d : DomainView) (is : Bool) → Climbs 0 d.rows → is ≡ is_one d → after ≡ set counts (block_of i) ((slice_index counts (block_of i) + cond is 0 1) - cond was 0 1) → AreListed after (set ds i d)
  listed_change after d is c is_is e =
      rw (e, is_is, was_is, get_or_read ds i old within read staying) (listed_set counts ds i d listed within c)

pub recount_room : (counts : List ℕ) (ds : List DomainView) (n i : ℕ) → AreCounted counts ds n → n < 2 ^ 63 → slice_index counts (block_of i) + 1 < 2 ^ 64
recount_room counts ds n i c l = omega (arith, count-room counts ds n c i)

-- where the blocks before one have the count 0, the first domain is sought from its start on
module _ (counts : List ℕ) (ds : List DomainView) (listed : AreListed counts ds) (block : ℕ) (none : (b : ℕ) → b < block → slice_index counts b ≡ 0) where
  pub fixed_at : (k : ℕ) → k < length ds → block_of k < block → is_one (get_or ds k staying) ≡ true
  fixed_at k l b = count-none counts ds listed.counted k l (none (block_of k) b)

  fixed_all : block < block_count → (k : ℕ) → k < length ds → (64 * block ≤ k → is_one (get_or ds k staying) ≡ true) → is_one (get_or ds k staying) ≡ true
  fixed_all small k l later = by (grind arith)
    where
      by : (k < 64 * block) ⊎ (64 * block ≤ k) → is_one (get_or ds k staying) ≡ true
      by (inl before) = fixed_at k l (omega arith)
      by (inr from) = later from

  pub first_some : block < block_count → (i : ℕ) → IsFirstFrom ds (64 * block) i → IsFirstFrom ds 0 i
  first_some small i f = record {
    from_there = omega arith;
    within = f.within;
    unfixed_there = f.unfixed_there;
    before = λ k l u. let i_in = f.within in fixed_all small k (omega arith) (λ from. f.before k from u);
  }

  pub first_none : block < block_count → AreFixed ds (64 * block) (length ds) → AreFixed ds 0 (length ds)
  first_none small f = λ k l u. fixed_all small k u (λ from. f k from u)
