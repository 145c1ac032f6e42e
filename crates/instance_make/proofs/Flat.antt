-- What is printed has no floats and nests no deeper than can be read.
use Rattle.std.proofs.Common.{map, IfSome}
use Rattle.base.proofs.Public.{◌≡◌, ℕ, suc, ◌≤◌, Bool, false, ◌||◌, List, [], ◌∷◌, Option, Some, None, refl, arith, max-le, fold}
use Rattle.instance_make.specs.Prelude.{list_data, members_by, put_if}
use Rattle.serde_json.specs.Data.{Data, boolean, string, number, unsigned, object, Members, no_members, member, depth, members_depth}
use Rattle.serde_json.specs.View.{items_of}
use Rattle.serde_json.specs.Written.{has_float, members_have_float, items_have_float}
use Rattle.serde_json.specs.Data.{items_depth}
use Rattle.json_text.proofs.Public.{members_have_float-put, members_depth-put}

-- a value, or members, without floats, that nest at most n deep
pub record IsFlat (n : ℕ) (d : Data) : Type 0 where
  pub plain : has_float d ≡ false
  pub small : depth d ≤ n

pub record AreFlat (n : ℕ) (ms : Members) : Type 0 where
  pub plain : members_have_float ms ≡ false
  pub small : members_depth ms ≤ n

or_none : (a b : Bool) → a ≡ false → b ≡ false → (a || b) ≡ false
or_none a b x y = rw (x, y) refl

-- ---- single values

pub flat-string : (n : ℕ) (s : List ℕ) → IsFlat n (string s)
flat-string n s = record { plain = refl; small = omega arith }

pub flat-number : (n a : ℕ) → IsFlat n (number (unsigned a))
flat-number n a = record { plain = refl; small = omega arith }

pub flat-boolean : (n : ℕ) (b : Bool) → IsFlat n (boolean b)
flat-boolean n b = record { plain = refl; small = omega arith }

-- ---- objects

pub flat-object : (n : ℕ) (ms : Members) → AreFlat n ms → IsFlat (suc n) (object ms)
flat-object n ms flat = record { plain = flat.plain; small = omega (arith, flat.small) }

pub flat-end : (n : ℕ) → AreFlat n no_members
flat-end n = record { plain = refl; small = omega arith }

pub flat-member : (n : ℕ) (k : List ℕ) (d : Data) (ms : Members) → IsFlat n d → AreFlat n ms → AreFlat n (member k d ms)
flat-member n k d ms here rest = record { plain = or_none _ _ here.plain rest.plain; small = max-le here.small rest.small }

pub flat-put_if : (n : ℕ) (k : List ℕ) (o : Option Data) (ms : Members) → IfSome o (IsFlat n) → AreFlat n ms → AreFlat n (put_if k o ms)
flat-put_if n k None ms here rest = rest
flat-put_if n k (Some d) ms here rest = record { plain = members_have_float-put k d ms here.plain rest.plain; small = members_depth-put n k d ms here.small rest.small }

flat_from : {X : Type 0} (n : ℕ) (key : X → List ℕ) (value : X → Option Data) (xs : List X) (ms : Members) → ((x : X) → IfSome (value x) (IsFlat n)) → AreFlat n ms
    → AreFlat n (fold (λ ms x. put_if (key x) (value x) ms) ms xs)
flat_from n key value [] ms each rest = rest
flat_from n key value (x ∷ xs) ms each rest = flat_from n key value xs (put_if (key x) (value x) ms) each (flat-put_if n (key x) (value x) ms (each x) rest)

pub flat-members_by : {X : Type 0} (n : ℕ) (key : X → List ℕ) (value : X → Option Data) (xs : List X) → ((x : X) → IfSome (value x) (IsFlat n)) → AreFlat n (members_by key value xs)
unfolding members_by
flat-members_by n key value xs each = flat_from n key value xs no_members each (flat-end n)

-- ---- lists

flat_items : {X : Type 0} (n : ℕ) (spelled : X → Data) (xs : List X) → ((x : X) → IsFlat n (spelled x))
    → (items_have_float (items_of (map spelled xs)) ≡ false) × (items_depth (items_of (map spelled xs)) ≤ n)
flat_items n spelled [] each = (refl, omega arith)
flat_items n spelled (x ∷ xs) each =
    let rest = flat_items n spelled xs each in
    (or_none _ _ (each x).plain rest.0, max-le (each x).small rest.1)

pub flat-list : {X : Type 0} (n : ℕ) (spelled : X → Data) (xs : List X) → ((x : X) → IsFlat n (spelled x)) → IsFlat (suc n) (list_data (map spelled xs))
flat-list n spelled xs each =
    let flat = flat_items n spelled xs each in
    record { plain = flat.0; small = omega (arith, flat.1) }
