-- Laws of sets of choices: parts, plans in a region, sizes, and what holds of each choice.
use Rattle.std.specs.Prelude.{filter, ◌≡◌, ◌≢◌, ◌<◌, ◌≤◌, ◌+◌, ◌==◌, ◌⊎◌, ℕ, Bool, true, false, nat_lt, List, [], length, Option, Some, None, if◌then◌else◌}
use Rattle.std.specs.List.{Contains}
use Rattle.base.specs.Least.{lowest, least}
use Rattle.cluster.specs.declared.ids.Element.{Element}
use Rattle.cluster.specs.declared.choices.Choice.{Choice}
use Rattle.domains.specs.declared.parts.Part.{Part}
use Rattle.domains.specs.declared.undo.Lost.{Lost}
use Rattle.domains.specs.Choices.{DomainView, choices}
use Rattle.domains.specs.Measures.{lower_option}
use Rattle.domains.specs.Parts.{in_part, out_of_part}
use Rattle.domains.specs.Sets.{Sets, keeping, surely, may, IsIn}
use Rattle.domains.specs.Undo.{restored, lost_choices}
use Rattle.domains.specs.Sizes.{size, choice_count, IsOneOf}

-- ---- parts

-- each choice is inside or outside of a part
abbrev pub PartsCover : Type 0
PartsCover = (part : Part) (cs : List Choice) (c : Choice) → Contains cs c → Contains (filter (in_part part) cs) c ⊎ Contains (filter (out_of_part part) cs) c

-- and none is both
abbrev pub PartsAreDisjoint : Type 0
PartsAreDisjoint = (part : Part) (cs : List Choice) (c : Choice) → Contains (filter (in_part part) cs) c → Contains (filter (out_of_part part) cs) c → ⊥

-- ---- plans in a region

-- a plan of the region is inside or outside of each part
abbrev pub PlanSplits : Type 0
PlanSplits = (s : Sets) (plan : Element → Choice) (x : Element) (part : Part) → IsIn s plan → IsIn (keeping x (in_part part) s) plan ⊎ IsIn (keeping x (out_of_part part) s) plan

-- a plan of a narrower region is one of the region
abbrev pub PlanStays : Type 0
PlanStays = (s : Sets) (plan : Element → Choice) (x : Element) (test : Choice → Bool) → IsIn (keeping x test s) plan → IsIn s plan

-- ---- sizes

-- the two sides of a split add up to the whole
abbrev pub SplitAddsUp : Type 0
SplitAddsUp = (machines nodes : ℕ) (s : Sets) (x : Element) (part : Part) → IsOneOf machines nodes x →
    size machines nodes (keeping x (in_part part) s) + size machines nodes (keeping x (out_of_part part) s) ≡ size machines nodes s

-- a narrowing raises no size
abbrev pub SizeFalls : Type 0
SizeFalls = (machines nodes : ℕ) (s : Sets) (x : Element) (test : Choice → Bool) → size machines nodes (keeping x test s) ≤ size machines nodes s

-- where no set is empty there is a plan, and two where some set has more than one choice
abbrev pub SizeIsPositive : Type 0
SizeIsPositive = (machines nodes : ℕ) (s : Sets) → ((x : Element) → IsOneOf machines nodes x → s x ≢ []) → 1 ≤ size machines nodes s

abbrev pub OpenHasTwo : Type 0
OpenHasTwo = (machines nodes : ℕ) (s : Sets) → ((x : Element) → IsOneOf machines nodes x → s x ≢ []) →
    ¬ ((x : Element) → IsOneOf machines nodes x → length (s x) ≡ 1) → 2 ≤ size machines nodes s

-- ---- how many choices are left

-- a narrowing raises no count, and lowers it where it takes a choice away
abbrev pub CountFalls : Type 0
CountFalls = (machines nodes : ℕ) (s : Sets) (x : Element) (test : Choice → Bool) → choice_count machines nodes (keeping x test s) ≤ choice_count machines nodes s

abbrev pub CountFallsBelow : Type 0
CountFallsBelow = (machines nodes : ℕ) (s : Sets) (x : Element) (test : Choice → Bool) (c : Choice) → IsOneOf machines nodes x → Contains (s x) c → test c ≡ false →
    choice_count machines nodes (keeping x test s) < choice_count machines nodes s

-- ---- each choice of a set

abbrev pub LeastOfEach : Type 0
LeastOfEach = (f : Choice → ℕ) (cs : List Choice) (c : Choice) → Contains cs c → least f cs ≤ f c

abbrev pub SurelyEach : Type 0
SurelyEach = (test : Choice → Bool) (cs : List Choice) (c : Choice) → Contains cs c → surely test cs ≡ true → test c ≡ true

abbrev pub MayEach : Type 0
MayEach = (test : Choice → Bool) (cs : List Choice) (c : Choice) → Contains cs c → test c ≡ true → may test cs ≡ true

-- ---- fewer choices

-- each choice of the one list is in the other
abbrev pub AreFewer : List Choice → List Choice → Type 0
AreFewer fewer cs = (c : Choice) → Contains fewer c → Contains cs c

-- what a domain was, is what it has and what it has lost
abbrev pub RestoredIsBoth : Type 0
RestoredIsBoth = (lost : Lost) (d : DomainView) (c : Choice) → Contains (choices (restored lost d)) c → Contains (choices d) c ⊎ Contains (lost_choices lost) c

abbrev pub LostIsRestored : Type 0
LostIsRestored = (lost : Lost) (d : DomainView) (c : Choice) → Contains (lost_choices lost) c → Contains (choices (restored lost d)) c

-- so its least value is the lower of those of both
abbrev pub LowestBefore : Type 0
LowestBefore = (f : Choice → ℕ) (lost : Lost) (d : DomainView) → AreFewer (choices d) (choices (restored lost d)) →
    lowest f (choices (restored lost d)) ≡ lower_option (lowest f (choices d)) (lowest f (lost_choices lost))

abbrev pub FilterIsFewer : Type 0
FilterIsFewer = (test : Choice → Bool) (cs : List Choice) → AreFewer (filter test cs) cs

abbrev pub SurelyStays : Type 0
SurelyStays = (test : Choice → Bool) (fewer cs : List Choice) → AreFewer fewer cs → surely test cs ≡ true → surely test fewer ≡ true

abbrev pub MayStays : Type 0
MayStays = (test : Choice → Bool) (fewer cs : List Choice) → AreFewer fewer cs → may test fewer ≡ true → may test cs ≡ true

abbrev pub LeastGrows : Type 0
LeastGrows = (f : Choice → ℕ) (fewer cs : List Choice) → AreFewer fewer cs → fewer ≢ [] → least f cs ≤ least f fewer

-- ---- surely and may by the least of a measure that is 0 or 1

abbrev pub is_above_none : Option ℕ → Bool
is_above_none None = true
is_above_none (Some n) = nat_lt 0 n

abbrev pub is_nought : Option ℕ → Bool
is_nought None = false
is_nought (Some n) = n == 0

abbrev pub SurelyByLeast : Type 0
SurelyByLeast = (test : Choice → Bool) (cs : List Choice) → surely test cs ≡ is_above_none (lowest (λ c. if test c then 1 else 0) cs)

abbrev pub MayByLeast : Type 0
MayByLeast = (test : Choice → Bool) (cs : List Choice) → may test cs ≡ is_nought (lowest (λ c. if test c then 0 else 1) cs)
