-- Amounts and durations that are read place by place are within the limits of a cluster.
use Rattle.std.proofs.Common.{map, slice_set, if◌then◌else◌}
use Rattle.base.proofs.Public.{◌≡◌, ℕ, zero, suc, ◌+◌, ◌-◌, ◌<◌, ◌≤◌, ◌==◌, ◌&&◌, Bool, true, false, List, [], ◌∷◌, length, replicate, take, drop, get_or, Option, Some, None, is_none, unwrap_or, nat_lt, nat_le, refl, sym, ap, ◌∙◌, arith, ⊎_elim, zero-add, and_from, and_parts, cases_lt, lt-ltb, le-ltb, le-leb, lt-leb, length-set, drop-replicate, drop-set-lt, drop-set-add, take-set-le, get_or-map, get_or_default, get_or-range_with_len, take-set-lt, list_all}
use Rattle.instance_json.specs.Prelude.{amounts_fit, Duration, duration_fits, Either, Kind, kind_count, kind_fits, kind_number, KINDS, Machine, machine_kind_count, max_amount, max_resources, no_durations, Node, one_instant, own_fits, Owner, owner_fits}

list_all-set : {X : Type 0} (p : X → Bool) (xs : List X) (i : ℕ) (y : X) → list_all p xs ≡ true → p y ≡ true → list_all p (slice_set xs i y) ≡ true
list_all-set p [] i y all here = refl
list_all-set p (x ∷ xs) zero y all here = and_from _ _ here (and_parts (p x) _ all).1
list_all-set p (x ∷ xs) (suc i) y all here = and_from _ _ (and_parts (p x) _ all).0 (list_all-set p xs i y (and_parts (p x) _ all).1 here)

-- ---- amounts

abbrev is_small : ℕ → Bool
is_small a = nat_le a max_amount

abbrev is_zero : ℕ → Bool
is_zero a = a == 0

-- so many amounts that are small, and zeros at the places past them
pub record AreAmounts (place : ℕ) (amounts : List ℕ) : Type 0 where
  pub long : length amounts ≡ max_resources
  pub small : list_all (λ a. nat_le a max_amount) amounts ≡ true
  pub rest : drop place amounts ≡ replicate (max_resources - place) 0

drop-more : {X : Type 0} (xs ys : List X) (i : ℕ) → drop i xs ≡ drop i ys → drop (suc i) xs ≡ drop (suc i) ys
drop-more xs ys i same = one xs i ∙ ap (drop 1) same ∙ sym (one ys i)
  where
    one : {X : Type 0} (xs : List X) (i : ℕ) → drop (suc i) xs ≡ drop 1 (drop i xs)
    one [] zero = refl
    one [] (suc i) = refl
    one (x ∷ xs) zero = refl
    one (x ∷ xs) (suc i) = one xs i

pub amounts_more : (i : ℕ) (amounts : List ℕ) (n : ℕ) → AreAmounts i amounts → nat_le n max_amount ≡ true → AreAmounts (i + 1) (slice_set amounts i n)
amounts_more i amounts n old small = rw add (record {
  long = length-set amounts i n ∙ old.long;
  small = list_all-set is_small amounts i n old.small small;
  rest =
      drop-set-lt (suc i) amounts i n (omega arith)
      ∙ drop-more amounts (replicate max_resources 0) i (old.rest ∙ sym (drop-replicate i max_resources 0))
      ∙ drop-replicate (suc i) max_resources 0;
})
  where
    add : i + 1 ≡ suc i
    add = omega arith

none_of : (n : ℕ) → list_all is_zero (replicate n 0) ≡ true
none_of zero = refl
none_of (suc n) = none_of n

pub amounts_all : (i : ℕ) (amounts : List ℕ) → AreAmounts i amounts → amounts_fit i amounts ≡ true
amounts_all i amounts is = and_from _ _ is.small (rw is.rest (none_of (max_resources - i)))

pub no_amounts_fit : (count : ℕ) → amounts_fit count (replicate max_resources 0) ≡ true
no_amounts_fit count = ap (list_all is_zero) (drop-replicate {X = ℕ} count max_resources 0) ∙ none_of (max_resources - count)

-- ---- durations

pub none_fit : (count : ℕ) (owner : Owner) → owner_fits count owner no_durations ≡ true
none_fit count Machine = refl
none_fit count Node = refl
none_fit count Either = refl

-- the kind at a place has the place's number
number_at : (i : ℕ) (kind : Kind) → i < kind_count → kind ≡ get_or KINDS i kind → kind_number kind ≡ i
number_at i kind lt is =
    ap kind_number is ∙ sym (get_or-map kind_number KINDS i kind 0 lt) ∙ get_or-range_with_len 0 kind_count i 0 lt ∙ zero-add i

-- one more duration, by a test of those before a bound and by one of those from the bound on
sides_more : (p q : Option Duration → Bool) (bound : ℕ) (ds : List (Option Duration)) (i : ℕ) (d : Option Duration)
    → (i < bound → p d ≡ true) → (bound ≤ i → q d ≡ true) → (list_all p (take bound ds) && list_all q (drop bound ds)) ≡ true
    → (list_all p (take bound (slice_set ds i d)) && list_all q (drop bound (slice_set ds i d))) ≡ true
sides_more p q bound ds i d before after old =
    let parts = and_parts (list_all p (take bound ds)) _ old in
    ⊎_elim
    (λ (below : i < bound). and_from _ _
    (ap (list_all p) (take-set-lt bound ds i d below) ∙ list_all-set p (take bound ds) i d parts.0 (before below))
    (ap (list_all q) (drop-set-lt bound ds i d below) ∙ parts.1))
    (λ (above : bound ≤ i).
    let split : i ≡ bound + (i - bound) = omega arith in
    and_from _ _
    (ap (list_all p) (take-set-le bound ds i d above) ∙ parts.0)
    (ap (λ j. list_all q (drop bound (slice_set ds j d))) split
    ∙ ap (list_all q) (drop-set-add bound ds (i - bound) d)
    ∙ list_all-set q (drop bound ds) (i - bound) d parts.1 (after above)))
    (cases_lt i bound)

if_true : {A : Type 0} (b : Bool) (x y z : A) → b ≡ true → (if b then x else y) ≡ z → x ≡ z
if_true b x y z is h = rw is at h

if_false : {A : Type 0} (b : Bool) (x y z : A) → b ≡ false → (if b then x else y) ≡ z → y ≡ z
if_false b x y z is h = rw is at h

owner_more : (count : ℕ) (owner : Owner) (ds : List (Option Duration)) (i : ℕ) (kind : Kind) (d : Option Duration) → i < kind_count → kind ≡ get_or KINDS i kind
    → owner_fits count owner ds ≡ true → kind_fits count owner kind d ≡ true → owner_fits count owner (slice_set ds i d) ≡ true
owner_more count Machine ds i kind d lt is old fits =
    let number = number_at i kind lt is in
    sides_more (own_fits count) is_none machine_kind_count ds i d
    (λ below. if_true (nat_lt (kind_number kind) machine_kind_count) (own_fits count d) (is_none d) true (rw number (lt-ltb i machine_kind_count below)) fits)
    (λ above. if_false (nat_lt (kind_number kind) machine_kind_count) (own_fits count d) (is_none d) true (rw number (le-ltb i machine_kind_count above)) fits)
    old
owner_more count Node ds i kind d lt is old fits =
    let number = number_at i kind lt is in
    sides_more is_none (own_fits count) machine_kind_count ds i d
    (λ below. if_false (nat_le machine_kind_count (kind_number kind)) (own_fits count d) (is_none d) true (rw number (lt-leb machine_kind_count i below)) fits)
    (λ above. if_true (nat_le machine_kind_count (kind_number kind)) (own_fits count d) (is_none d) true (rw number (le-leb machine_kind_count i above)) fits)
    old
owner_more count Either ds i kind d lt is old fits = list_all-set (own_fits count) ds i d old fits

pub all_durations_fit : (count : ℕ) (ds : List (Option Duration)) → owner_fits count Either ds ≡ true → list_all (duration_fits count) (map (λ d. unwrap_or d one_instant) ds) ≡ true
all_durations_fit count [] fits = refl
all_durations_fit count (d ∷ ds) fits =
    let parts = and_parts (own_fits count d) _ fits in and_from _ _ (one d parts.0) (all_durations_fit count ds parts.1)
  where
    one : (d : Option Duration) → own_fits count d ≡ true → duration_fits count (unwrap_or d one_instant) ≡ true
    one None fits = refl
    one (Some x) fits = fits

pub owner_more_at : (count : ℕ) (owner : Owner) (ds : List (Option Duration)) (i : ℕ) (k : Kind) (d : Option Duration) → i < kind_count
    → owner_fits count owner ds ≡ true → kind_fits count owner (get_or KINDS i k) d ≡ true → owner_fits count owner (slice_set ds i d) ≡ true
owner_more_at count owner ds i k d lt old fits = owner_more count owner ds i (get_or KINDS i k) d lt (get_or_default KINDS i k (get_or KINDS i k) lt) old fits
