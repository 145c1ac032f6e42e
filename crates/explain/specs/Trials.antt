-- Of the code alone: what its parts give.
use Rattle.std.specs.Prelude.{◌≡◌, ℕ, ◌<◌, ◌≤◌, List, Contains, EachIndex, length, slice_index}
use Rattle.slices.specs.Prelude.{Instance}
use Rattle.search.specs.Prelude.{IsValidPlan}
use Rattle.explain.specs.Subs.{AreNumbers, sub, without}
use Rattle.explain.specs.Explained.{IsNeeded, IsOpen, IsRefuted}
use Rattle.explain.specs.declared.{trials.Loss.Loss, trials.Round.Round, trials.Trial.Trial}
use Rattle.explain.specs.declared.trials.Trial.TheVariants as trial
use Rattle.explain.specs.declared.trials.Loss.TheVariants as loss
use Rattle.explain.specs.declared.trials.Round.TheVariants as round

-- a search of one problem: a valid plan, that there is none, or that it stays open
abbrev pub TrialGives : Instance → ℕ → Trial → Type 0
TrialGives p budget (trial.Feasible plan) = IsValidPlan p plan
TrialGives p budget (trial.Infeasible certificate) = IsRefuted p budget certificate.items
TrialGives p budget (trial.Undecided certificate) = IsOpen p budget certificate.items

-- a search without one of the constraints that are kept
abbrev pub LossGives : Instance → ℕ → List ℕ → ℕ → Loss → Type 0
LossGives p budget kept c (loss.Needed cost) = IsNeeded p kept c cost
LossGives p budget kept c (loss.Lost fewer certificate) = (fewer.items ≡ without c kept) × IsRefuted (sub p fewer.items) budget certificate.items
LossGives p budget kept c (loss.Open fewer certificate) = (fewer.items ≡ without c kept) × IsOpen (sub p fewer.items) budget certificate.items

-- the first so many constraints are known to be needed, each by a plan of the cost at its place
pub record AreNeeded (p : Instance) (kept costs : List ℕ) : Type 0 where
  pub few : length costs ≤ length kept
  pub needed : EachIndex costs (λ i. IsNeeded p kept (slice_index kept i) (slice_index costs i))

-- where a list of constraints is made shorter: it has no valid plan, and the first so many are known to be needed
pub record IsShrunk (p : Instance) (budget : ℕ) (kept certificate costs : List ℕ) : Type 0 where
  pub numbers : AreNumbers p kept
  pub core : IsRefuted (sub p kept) budget certificate
  pub needed : AreNeeded p kept costs

-- all are needed, or the first that is not known to be is lost, or the search without one stays open
abbrev pub RoundGives : Instance → ℕ → List ℕ → List ℕ → Round → Type 0
RoundGives p budget kept costs round.AllNeeded = length costs ≡ length kept
RoundGives p budget kept costs (round.Lost c fewer certificate) =
    (length costs < length kept) × (slice_index kept (length costs) ≡ c) × (fewer.items ≡ without c kept) × IsRefuted (sub p fewer.items) budget certificate.items
RoundGives p budget kept costs (round.Open fewer certificate) =
    (c : ℕ) × Contains kept c × (fewer.items ≡ without c kept) × IsOpen (sub p fewer.items) budget certificate.items
