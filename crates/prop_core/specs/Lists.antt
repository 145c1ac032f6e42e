-- Lists of propagators; `m` gives what each means.
use Rattle.std.specs.Prelude.{All, sum_by, ◌≡◌, ℕ, ◌+◌, ◌<◌, ◌≤◌, Bool, List, length, slice_index_or, Result, Ok, Err, IsTrue}
use Rattle.std.specs.List.{list_any}
use Rattle.prop_core.specs.Words.{Instance, Sets, Memory, ReasonKind}
use Rattle.prop_core.specs.declared.propagator.Answer.{Answer}
use Rattle.prop_core.specs.declared.propagator.Answer.TheVariants.{Quiet, Cut, Fail}
use Rattle.prop_core.specs.Propagators.{AllQuiet, CutHolds, FailHolds, IsBack, IsMarked, IsPosted, IsStandard, IsTold, Meaning, SameRule, TopAgrees, most}

-- some propagator covers a kind
abbrev pub is_covered : {B : Type 0} → (B → Meaning) → List B → ReasonKind → Bool
is_covered m xs k = list_any (λ b. (m b).covers k) xs

-- each kind of standard reasons is covered
pub record Covered {B : Type 0} (m : B → Meaning) (xs : List B) : Type 0 where
  pub each : (k : ReasonKind) → IsStandard k → IsTrue (is_covered m xs k)

-- ---- before and after

-- as many as before, and R holds of what each means before and after
pub record Pairs {B : Type 0} (m : B → Meaning) (R : Meaning → Meaning → Type 0) (xs ys : List B) : Type 0 where
  pub count : length ys ≡ length xs
  pub each : (k : ℕ) (d : B) → k < length xs → R (m (slice_index_or xs k d)) (m (slice_index_or ys k d))

-- the kinds that it covers stay
pub record SameCover (m n : Meaning) : Type 0 where
  pub covers : (k : ReasonKind) → n.covers k ≡ m.covers k

pub record PostedSame (p : Instance) (s : Sets) (m n : Meaning) : Type 0 where
  pub same : SameRule m n
  pub posted : IsPosted p s n

pub record ToldSame (p : Instance) (s : Sets) (m n : Meaning) : Type 0 where
  pub same : SameRule m n
  pub level : n.level ≡ m.level
  pub told : IsTold p s m n

pub record MarkedSame (m n : Meaning) : Type 0 where
  pub same : SameRule m n
  pub marked : IsMarked m n

pub record BackSame (m n : Meaning) : Type 0 where
  pub same : SameRule m n
  pub dropped : IsBack m n

-- ---- of all

-- the top level of each agrees with the sets
pub record TopsAgree {B : Type 0} (m : B → Meaning) (p : Instance) (s : Sets) (xs : List B) : Type 0 where
  pub each : All (λ b. TopAgrees (m b) p s) xs

-- what one answer of all of them says
abbrev pub AllRight : {B : Type 0} → (B → Meaning) → Instance → Sets → List B → Answer → Type 0
AllRight m p s xs Quiet = All (λ b. AllQuiet p s (m b)) xs
AllRight m p s xs (Cut x part r) = CutHolds p s x part r
AllRight m p s xs (Fail r) = FailHolds p s r

-- ---- counts

-- the cuts and fails that all have answered
abbrev pub given_sum : {B : Type 0} → (B → Meaning) → List B → ℕ
given_sum m xs = sum_by (λ b. (m b).given) xs

-- no count has fallen, and their sum has risen by n at least, unless a count stands at its end
pub record Rise {B : Type 0} (m : B → Meaning) (n : ℕ) (xs ys : List B) : Type 0 where
  pub grown : (k : ℕ) (d : B) → k < length xs → (m (slice_index_or xs k d)).given ≤ (m (slice_index_or ys k d)).given
  pub risen : All (λ b. (m b).given < most) ys → given_sum m xs + n ≤ given_sum m ys

-- how many cuts and fails an answer is
abbrev pub steps_of : Answer → ℕ
steps_of Quiet = 0
steps_of (Cut x part r) = 1
steps_of (Fail r) = 1

abbrev pub steps_shown : Result Answer Memory → ℕ
steps_shown (Ok a) = steps_of a
steps_shown (Err e) = 0
