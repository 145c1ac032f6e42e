-- What the parts of a search do to its steps, to the file and to the propagators.
use Rattle.std.specs.Prelude.{All, ◌≡◌, ℕ, ◌+◌, ◌<◌, ◌≤◌, List, [], ◌∷◌, ◌++◌, map, reverse, Option, Some, None, Bool, true, false, IfSome, IsTrue}
use Rattle.prop_core.specs.Prelude.{given_sum, IsTrailOf, Marked, Meaning, most, Rise}
use Rattle.cert_write.specs.Prelude.{end_line, HasStep, HaveChoices, inside, Instance, IsClosed, IsFixed, IsSplit, least_cost, outside, RegionView, Sets, sets, steps_of, Tree}
use Rattle.cluster.specs.declared.ids.Element.{Element}
use Rattle.domains.specs.declared.parts.Part.{Part}
use Rattle.trees.specs.declared.steps.Step.{Step}
use Rattle.search.specs.declared.{looks.Look.Look, looks.Look.TheVariants.Clear, looks.Look.TheVariants.Narrowed, looks.Look.TheVariants.Refuted, progress.Best.Best, progress.Progress.Progress, found.Found.Found, ground.Ground.Ground}
use Rattle.search.specs.{Answers.IsTreeOf, Answers.goal_in, Underway.Underway, Underway.cost_kept, Written.answered, Written.lines}

-- ---- what is kept of the regions

-- they are ones of the instance, and the sums are those of their least ends
pub record IsGround (p : Instance) (g : Ground) : Type 0 where
  pub trail : IsTrailOf p g.trail
  pub top : g.bound.top ≡ least_cost p (sets g.trail.region)
  pub older : g.bound.older ≡ map (λ m. least_cost p (sets m)) g.trail.marks

-- the sets are closed, and the sum of their least ends is below the cost of the plan that is kept
pub record IsClear (p : Instance) (best : Option Best) (s : Sets) : Type 0 where
  pub closed : IsClosed p s
  pub below : IfSome (cost_kept best) (λ known. least_cost p s < known)

-- the region had choices for each element, and the part parts those of one
pub record IsParted (p : Instance) (g : RegionView) (s : Element × Part) : Type 0 where
  pub some : HaveChoices p (sets g)
  pub split : IsSplit p (sets g) s.0 s.1

-- there is a split for each mark, the newest first
abbrev pub ArePaired : Instance → List RegionView → List (Element × Part) → Type 0
ArePaired p [] [] = Unit {0}
ArePaired p [] (s ∷ splits) = ⊥
ArePaired p (mark ∷ marks) [] = ⊥
ArePaired p (mark ∷ marks) (s ∷ splits) = IsParted p mark s × ArePaired p marks splits

-- the outer sides that wait: what each mark's region has outside its part
abbrev pub outer_sides : List RegionView → List (Element × Part) → List Sets
outer_sides [] splits = []
outer_sides (mark ∷ marks) [] = []
outer_sides (mark ∷ marks) (s ∷ splits) = outside s.0 s.1 (sets mark) ∷ outer_sides marks splits

-- all that is open
abbrev pub open_sets : Marked → List (Element × Part) → List Sets
open_sets t splits = sets t.region ∷ outer_sides t.marks (reverse splits)

-- ---- what was done

-- The first of the open sets was worked on until these are open in its place, by more steps: each is one of the instance, their lines are in
-- the file, and each that a propagator answered is counted. k, old and xs are from before; l, new and ys from after
pub record Works {B : Type 0} (m : B → Meaning) (p : Instance) (budget : ℕ) (tells : Bool) (k l : Progress) (old new : List ℕ) (xs ys : List B) (s : Sets) (now : List Sets) : Type 0 where
  pub more : List Step
  pub named : All (HasStep p) more
  pub text : IsTrue tells → new ≡ old ++ lines p more
  pub given : Rise m (answered more) xs ys
  pub runs : (steps : List Step) (rest : List Sets) → Underway p budget k steps (s ∷ rest) → Underway p budget l (steps ++ more) (now ++ rest)

-- the same for all that is open
pub record Goes {B : Type 0} (m : B → Meaning) (p : Instance) (budget : ℕ) (tells : Bool) (k l : Progress) (old new : List ℕ) (xs ys : List B) (from now : List Sets) : Type 0 where
  pub more : List Step
  pub named : All (HasStep p) more
  pub text : IsTrue tells → new ≡ old ++ lines p more
  pub given : Rise m (answered more) xs ys
  pub runs : (steps : List Step) → Underway p budget k steps from → Underway p budget l (steps ++ more) now

-- whether the sets are still open
abbrev pub still_open : Bool → Sets → List Sets
still_open true s = s ∷ []
still_open false s = []

-- what is open after a look
abbrev pub open_after : Look → Sets → List Sets
open_after Clear s = s ∷ []
open_after Narrowed s = s ∷ []
open_after Refuted s = []

-- a leaf was written
pub record IsLeaf (p : Instance) (budget : ℕ) (tells : Bool) (k l : Progress) (old new : List ℕ) (s : Sets) : Type 0 where
  pub step : Step
  pub named : HasStep p step
  pub text : IsTrue tells → new ≡ old ++ lines p (step ∷ [])
  pub given : answered (step ∷ []) ≡ 0
  pub runs : (steps : List Step) (rest : List Sets) → Underway p budget k steps (s ∷ rest) → Underway p budget l (steps ++ step ∷ []) rest

-- none was due, and there is room for a decision
pub record IsDue (budget : ℕ) (tells : Bool) (k l : Progress) (old new : List ℕ) (g : RegionView) : Type 0 where
  pub progress : l ≡ k
  pub text : IsTrue tells → new ≡ old
  pub free : ¬ IsFixed g
  pub room : k.spent < budget

abbrev pub IsLeafWritten : Instance → ℕ → Bool → Progress → Progress → List ℕ → List ℕ → RegionView → Bool → Type 0
IsLeafWritten p budget tells k l old new g true = IsLeaf p budget tells k l old new (sets g)
IsLeafWritten p budget tells k l old new g false = IsDue budget tells k l old new g

-- the region was split: what is inside the part is at hand behind a mark, and what is outside it waits
pub record Splits {B : Type 0} (m : B → Meaning) (p : Instance) (tells : Bool) (k l : Progress) (old new : List ℕ) (xs ys : List B) (t u : Marked) (s : Element × Part) : Type 0 where
  pub parted : IsParted p t.region s
  pub region : sets u.region ≡ inside s.0 s.1 (sets t.region)
  pub marks : u.marks ≡ t.region ∷ t.marks
  pub spent : l.spent ≡ k.spent + 1
  pub works : (budget : ℕ) → k.spent < budget → Works m p budget tells k l old new xs ys (sets t.region) (inside s.0 s.1 (sets t.region) ∷ outside s.0 s.1 (sets t.region) ∷ [])

-- nothing is left open in the region
pub record Ends {B : Type 0} (m : B → Meaning) (p : Instance) (budget : ℕ) (tells : Bool) (k l : Progress) (old new : List ℕ) (xs ys : List B) (t u : Marked) : Type 0 where
  pub marks : u.marks ≡ t.marks
  pub spent : l.spent ≡ k.spent
  pub works : Works m p budget tells k l old new xs ys (sets t.region) []

-- it was closed and split: what is inside the part is at hand, behind a mark of the closed region
pub record Enters {B : Type 0} (m : B → Meaning) (p : Instance) (budget : ℕ) (tells : Bool) (k l : Progress) (old new : List ℕ) (xs ys : List B) (t u : Marked) (s : Element × Part) : Type 0 where
  pub mark : RegionView
  pub marks : u.marks ≡ mark ∷ t.marks
  pub parted : IsParted p mark s
  pub region : sets u.region ≡ inside s.0 s.1 (sets mark)
  pub spent : l.spent ≡ k.spent + 1
  pub room : k.spent < budget
  pub works : Works m p budget tells k l old new xs ys (sets t.region) (sets u.region ∷ outside s.0 s.1 (sets mark) ∷ [])

abbrev pub IsVisited : {B : Type 0} → (B → Meaning) → Instance → ℕ → Bool → Progress → Progress → List ℕ → List ℕ → List B → List B → Marked → Marked → Option (Element × Part) → Type 0
IsVisited m p budget tells k l old new xs ys t u None = Ends m p budget tells k l old new xs ys t u
IsVisited m p budget tells k l old new xs ys t u (Some s) = Enters m p budget tells k l old new xs ys t u s

-- a next region is at hand
pub record GoesOn {B : Type 0} (m : B → Meaning) (p : Instance) (budget : ℕ) (tells : Bool) (k l : Progress) (old new : List ℕ) (xs ys : List B) (t u : Marked) (splits left : List (Element × Part)) : Type 0 where
  pub paired : ArePaired p u.marks (reverse left)
  pub some : HaveChoices p (sets u.region)
  pub goes : Goes m p budget tells k l old new xs ys (open_sets t splits) (open_sets u left)

-- after a round a next region is at hand, or nothing is open
abbrev pub IsRoundDone : {B : Type 0} → (B → Meaning) → Instance → ℕ → Bool → Progress → Progress → List ℕ → List ℕ → List B → List B → Marked → Marked → List (Element × Part) → List (Element × Part) → Bool → Type 0
IsRoundDone m p budget tells k l old new xs ys t u splits left true = GoesOn m p budget tells k l old new xs ys t u splits left
IsRoundDone m p budget tells k l old new xs ys t u splits left false = Goes m p budget tells k l old new xs ys (open_sets t splits) []

-- ---- the whole search

-- One tree shows the answer; the file has its old bytes, the lines of that tree's steps and the end line; and of its steps no more are
-- answers of propagators than the sum of their counts has risen, unless a count stands at its end
pub record IsShown {B : Type 0} (m : B → Meaning) (p : Instance) (budget : ℕ) (tells : Bool) (old : List ℕ) (new : Option (List ℕ)) (xs ys : List B) (found : Found) : Type 0 where
  pub tree : Tree
  pub tree_is : IsTreeOf p budget found tree
  pub text : IsTrue tells → new ≡ Some (old ++ lines p (steps_of tree) ++ end_line (goal_in p budget found))
  pub given : All (λ b. (m b).given < most) ys → given_sum m xs + answered (steps_of tree) ≤ given_sum m ys
