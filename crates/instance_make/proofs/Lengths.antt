-- How many bytes the compact text of a value has at most.
use Rattle.std.proofs.Common.{map, IfSome, lit<}
use Rattle.std.proofs.Math.Nat.{suc-mul}
use Rattle.std.specs.Char.{digit_char}
use Rattle.base.proofs.Public.{◌≡◌, ℕ, suc, ◌+◌, ◌*◌, ◌/◌, ◌%◌, ◌<◌, ◌≤◌, Bool, true, false, cond, List, [], ◌∷◌, ◌++◌, length, nat_lt, Option, Some, None, arith, lt_trans, mul-le-mul_right, length-append, length-decimal-le, All-head, All-tail, All, fold, nat_cmp, slice_cmp, decimal}
use Rattle.instance_make.specs.Prelude.{list_data, members_by, put_if}
use Rattle.json.specs.Print.{escape_letter, escape_byte, escape, quoted}
use Rattle.serde_json.specs.Data.{Data, boolean, string, number, unsigned, object, Items, no_items, item, Members, no_members, member, put}
use Rattle.serde_json.specs.View.{items_of}
use Rattle.serde_json.specs.Written.{compact_text, items_text, members_text}
use Rattle.instance_make.proofs.Putting.{either_way}

-- a value's text has at most n bytes
pub record IsShort (n : ℕ) (d : Data) : Type 0 where
  pub fits : length (compact_text d) ≤ n

-- that of members, with a comma before the first and the closing brace
pub record AreShort (n : ℕ) (ms : Members) : Type 0 where
  pub fits : length (members_text true ms) ≤ n

pub shorter : (m n : ℕ) (d : Data) → m ≤ n → IsShort m d → IsShort n d
shorter m n d le short = record { fits = omega (arith, short.fits, le) }

-- ---- strings

byte_length : (x : ℕ) → length (escape_byte x) ≤ 6
unfolding escape_byte
byte_length x = by (nat_lt 0 (escape_letter x)) (nat_lt x 32)
  where
    by : (letter control : Bool) → length (cond letter (92 ∷ escape_letter x ∷ []) (cond control (92 ∷ 117 ∷ 48 ∷ 48 ∷ digit_char (x / 16) ∷ digit_char (x % 16) ∷ []) (x ∷ []))) ≤ 6
    by true control = omega arith
    by false true = omega arith
    by false false = omega arith

escape_length : (s : List ℕ) → length (escape s) ≤ 6 * length s
escape_length [] = omega arith
escape_length (x ∷ s) = omega (arith, byte_length x, escape_length s, length-append (escape_byte x) (escape s))

quoted_length : (s : List ℕ) → length (quoted s) ≤ 6 * length s + 2
quoted_length s = omega (arith, escape_length s, length-append (escape s) (34 ∷ []))

-- ---- single values

pub short-string : (n : ℕ) (s : List ℕ) → length s ≤ n → IsShort (6 * n + 2) (string s)
short-string n s few = record { fits = omega (arith, quoted_length s, few) }

pub short-decimal : (n : ℕ) → n < 1000 → length (decimal n) ≤ 3
short-decimal n small = length-decimal-le 3 n (lit< tt) small (lt_trans small (lit< tt))

pub short-number : (n : ℕ) → n < 1000 → IsShort 3 (number (unsigned n))
short-number n small = record { fits = short-decimal n small }

pub short-boolean : (b : Bool) → IsShort 5 (boolean b)
short-boolean true = record { fits = omega arith }
short-boolean false = record { fits = omega arith }

-- ---- objects

member_length : (k : List ℕ) (d : Data) (ms : Members) → length (members_text true (member k d ms)) ≡ length (quoted k) + length (compact_text d) + length (members_text true ms) + 2
member_length k d ms = omega (arith, length-append (quoted k) (58 ∷ (compact_text d ++ members_text true ms)), length-append (compact_text d) (members_text true ms))

-- with no comma before the first member it is no longer
comma_less : (ms : Members) → length (members_text false ms) ≤ length (members_text true ms)
comma_less no_members = omega arith
comma_less (member k d ms) = omega arith

pub short-object : (n : ℕ) (ms : Members) → AreShort n ms → IsShort (n + 1) (object ms)
short-object n ms short = record { fits = omega (arith, comma_less ms, short.fits) }

pub short-end : AreShort 1 no_members
short-end = record { fits = omega arith }

-- one more member, whose key has at most 16 bytes
pub short-member : (a b : ℕ) (k : List ℕ) (d : Data) (ms : Members) → length k ≤ 16 → IsShort a d → AreShort b ms → AreShort (a + b + 100) (member k d ms)
short-member a b k d ms few here rest = record { fits = omega (arith, member_length k d ms, quoted_length k, few, here.fits, rest.fits) }

put_length : (k : List ℕ) (d : Data) (ms : Members) → length (members_text true (put k d ms)) ≤ length (quoted k) + length (compact_text d) + length (members_text true ms) + 2
put_length k d no_members = omega (arith, member_length k d no_members)
put_length k d (member l e ms) =
    either_way (λ ns. length (members_text true ns) ≤ length (quoted k) + length (compact_text d) + length (members_text true (member l e ms)) + 2)
    (slice_cmp nat_cmp k l) (member k d (member l e ms)) (member l d ms) (member l e (put k d ms))
    (omega (arith, member_length k d (member l e ms)))
    (omega (arith, member_length l d ms, member_length l e ms))
    (omega (arith, member_length l e (put k d ms), member_length l e ms, put_length k d ms))

pub short-put_if : (a b : ℕ) (k : List ℕ) (o : Option Data) (ms : Members) → length k ≤ 16 → IfSome o (IsShort a) → AreShort b ms → AreShort (a + b + 100) (put_if k o ms)
short-put_if a b k None ms few here rest = record { fits = omega (arith, rest.fits) }
short-put_if a b k (Some d) ms few here rest = record { fits = omega (arith, put_length k d ms, quoted_length k, few, here.fits, rest.fits) }

-- n members of the same bound, and one more
one_more : (n a b : ℕ) → n * (a + 100) + (a + b + 100) ≡ suc n * (a + 100) + b
one_more n a b = omega (arith, suc-mul n (a + 100))

short_from : {X : Type 0} (a b : ℕ) (key : X → List ℕ) (value : X → Option Data) (xs : List X) (ms : Members) → ((x : X) → length (key x) ≤ 16) → ((x : X) → IfSome (value x) (IsShort a)) → AreShort b ms
    → AreShort (length xs * (a + 100) + b) (fold (λ ms x. put_if (key x) (value x) ms) ms xs)
short_from a b key value [] ms few each rest = record { fits = omega (arith, rest.fits) }
short_from a b key value (x ∷ xs) ms few each rest =
    let more = short_from a (a + b + 100) key value xs (put_if (key x) (value x) ms) few each (short-put_if a b (key x) (value x) ms (few x) (each x) rest) in
    record { fits = omega (arith, more.fits, one_more (length xs) a b) }

pub short-members_by : {X : Type 0} (a : ℕ) (key : X → List ℕ) (value : X → Option Data) (xs : List X) → ((x : X) → length (key x) ≤ 16) → ((x : X) → IfSome (value x) (IsShort a))
    → AreShort (length xs * (a + 100) + 1) (members_by key value xs)
unfolding members_by
short-members_by a key value xs few each = short_from a 1 key value xs no_members few each short-end

-- ---- lists

items_length : {X : Type 0} (n : ℕ) (spelled : X → Data) (xs : List X) → All (λ x. IsShort n (spelled x)) xs → length (items_text true (items_of (map spelled xs))) ≤ length xs * (n + 1) + 1
items_length n spelled [] each = omega arith
items_length n spelled (x ∷ xs) each =
    let here = All-head (λ y. IsShort n (spelled y)) x xs each in
    let rest = items_length n spelled xs (All-tail (λ y. IsShort n (spelled y)) x xs each) in
    omega (arith, here.fits, rest, suc-mul (length xs) (n + 1), length-append (compact_text (spelled x)) (items_text true (items_of (map spelled xs))))

-- with no comma before the first item it is no longer
first_less : (ds : Items) → length (items_text false ds) ≤ length (items_text true ds)
first_less no_items = omega arith
first_less (item d ds) = omega arith

pub short-list : {X : Type 0} (n : ℕ) (spelled : X → Data) (xs : List X) → All (λ x. IsShort n (spelled x)) xs → IsShort (length xs * (n + 1) + 2) (list_data (map spelled xs))
short-list n spelled xs each = record { fits = omega (arith, first_less (items_of (map spelled xs)), items_length n spelled xs each) }

-- the same of at most so many items
pub short-few : {X : Type 0} (n most : ℕ) (spelled : X → Data) (xs : List X) → length xs ≤ most → All (λ x. IsShort n (spelled x)) xs → IsShort (most * (n + 1) + 2) (list_data (map spelled xs))
short-few n most spelled xs few each = record { fits = omega (arith, (short-list n spelled xs each).fits, mul-le-mul_right (n + 1) few) }
