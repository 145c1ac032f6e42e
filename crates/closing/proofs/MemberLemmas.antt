-- What no machine of a list meets, and sets of machines.
use Rattle.closing.proofs.Prelude.{slice_index_or, ◌≡◌, ℕ, ◌+◌, ◌<◌, Bool, true, false, ◌||◌, ◌==◌, List, [], length, take, get_or, ◌∙◌, arith, nat_tests, get_or_default, list_any_more, Instance, is_member, IsAnyOf, IsFreeOf, IsMember, IsMetWith, Sets, Snapshot, VmId}

-- a part by its number
pub is_part : (parts : List (List VmId)) (vs given : List VmId) (j : ℕ) → j < length parts → vs ≡ given → given ≡ get_or parts j given → vs ≡ slice_index_or parts j []
is_part parts vs given j h same is = same ∙ is ∙ get_or_default parts j given [] h

-- what no machine of a list meets, none of them meets
pub any_free : (met : ℕ → Snapshot → Type 0) (p : Instance) (s : Sets) (t : ℕ) (vs : List VmId) → ((v : ℕ) → IsMember vs v → IsFreeOf (met v) p s t) → IsFreeOf (IsAnyOf vs met) p s t
any_free met p s t vs each = record {
  base = λ x. (each x.0 x.1).base x.2;
  ends = λ e c i end x. (each x.0 x.1).ends e c i end x.2;
}

-- what one of them meets, some does
pub any_met : (met : ℕ → Snapshot → Type 0) (p : Instance) (s : Sets) (t : ℕ) (vs : List VmId) (v : ℕ) → IsMember vs v → (e : _) (c : _) → IsMetWith (met v) p s t e c → IsMetWith (IsAnyOf vs met) p s t e c
any_met met p s t vs v m e c x = record { element = x.element; is_end = x.is_end; is_met = (v, m, x.is_met) }

-- ---- sets of machines

either_way : (a b : ℕ) (c : Bool) → ((a == b) || c) ≡ (c || (b == a))
either_way a b true = grind (arith, nat_tests)
either_way a b false = grind (arith, nat_tests)

-- one machine more is in the set
pub mark_more : (vs : List VmId) (i : ℕ) (d : VmId) (v : ℕ) (was : Bool) → i < length vs → was ≡ is_member (take i vs) v → ((v == (get_or vs i d).0) || was) ≡ is_member (take (i + 1) vs) v
mark_more vs i d v was low same = rw (list_any_more (λ x. x.0 == v) vs i d low, ← same) (either_way v (get_or vs i d).0 was)
