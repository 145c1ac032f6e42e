-- The lemmas that crates above may cite: that a value that was built has no floats, and how deep it nests.
use Rattle.std.proofs.Common.{All}
use Rattle.base.proofs.Public.{◌≡◌, ℕ, ◌≤◌, List, [], ◌∷◌, Bool, true, false, ◌||◌, Ordering, Less, Equal, Greater, refl, arith, max-le, le-max_left, le-max_right, All-head, All-tail, nat_cmp, match_ordering, slice_cmp}
use Rattle.serde_json.specs.Data.{Data, Members, no_members, member, put, depth, items_depth, members_depth}
use Rattle.serde_json.specs.View.{items_of}
use Rattle.serde_json.specs.Written.{has_float, items_have_float, members_have_float}

or_none : (a b : Bool) → a ≡ false → b ≡ false → (a || b) ≡ false
or_none a b x y = rw (x, y) refl

pub items_have_float-items_of : (ds : List Data) → All (λ d. has_float d ≡ false) ds → items_have_float (items_of ds) ≡ false
items_have_float-items_of [] h = refl
items_have_float-items_of (d ∷ ds) h = or_none _ _ (All-head (λ x. has_float x ≡ false) d ds h) (items_have_float-items_of ds (All-tail (λ x. has_float x ≡ false) d ds h))

pub items_depth-items_of : (n : ℕ) (ds : List Data) → All (λ d. depth d ≤ n) ds → items_depth (items_of ds) ≤ n
items_depth-items_of n [] h = omega arith
items_depth-items_of n (d ∷ ds) h = max-le (All-head (λ x. depth x ≤ n) d ds h) (items_depth-items_of n ds (All-tail (λ x. depth x ≤ n) d ds h))

either_way : (P : Members → Type 0) (o : Ordering) (a b c : Members) → P a → P b → P c → P (match_ordering o a b c)
either_way P Less a b c x y z = x
either_way P Equal a b c x y z = y
either_way P Greater a b c x y z = z

none_of : (a b : Bool) → (a || b) ≡ false → (a ≡ false) × (b ≡ false)
none_of false b h = (refl, h)
none_of true b h = cc

pub members_have_float-put : (k : List ℕ) (d : Data) (ms : Members) → has_float d ≡ false → members_have_float ms ≡ false → members_have_float (put k d ms) ≡ false
members_have_float-put k d no_members plain h = or_none _ _ plain refl
members_have_float-put k d (member l e ms) plain h =
    let parts = none_of _ _ h in
    let P : Members → Type 0 = λ ns. members_have_float ns ≡ false in
    either_way P (slice_cmp nat_cmp k l) (member k d (member l e ms)) (member l d ms) (member l e (put k d ms))
    (or_none _ _ plain h) (or_none _ _ plain parts.1) (or_none _ _ parts.0 (members_have_float-put k d ms plain parts.1))

pub members_depth-put : (n : ℕ) (k : List ℕ) (d : Data) (ms : Members) → depth d ≤ n → members_depth ms ≤ n → members_depth (put k d ms) ≤ n
members_depth-put n k d no_members small h = max-le small (omega arith)
members_depth-put n k d (member l e ms) small h =
    let here : depth e ≤ n = omega (arith, le-max_left (depth e) (members_depth ms)) in
    let later : members_depth ms ≤ n = omega (arith, le-max_right (depth e) (members_depth ms)) in
    let P : Members → Type 0 = λ ns. members_depth ns ≤ n in
    either_way P (slice_cmp nat_cmp k l) (member k d (member l e ms)) (member l d ms) (member l e (put k d ms))
    (max-le small h) (max-le small later) (max-le here (members_depth-put n k d ms small later))
