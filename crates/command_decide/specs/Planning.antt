-- What `plan` answers, and what it leaves in the files.
use Rattle.std.specs.Prelude.{◌≡◌, ◌⊎◌, ◌++◌, ℕ, List, Option, Some, None, Ok, option_map, codes}
use Rattle.std.specs.{Fmt.decimal, Io.StartsWith}
use Rattle.plan_json.specs.Prelude.{plan_of, plan_text}
use Rattle.search.specs.Prelude.{bytes_of, Instance, IsInstance, IsTrueOf, MayStay, plan_in}
use Rattle.plan_io.specs.Prelude.{Files}
use Rattle.solver.specs.Prelude.{IsCertificateCut, IsCertified, IsToStay, plan_cost}
use Rattle.search.specs.declared.found.Found.{Found, TheVariants.Optimal, TheVariants.Infeasible, TheVariants.Undecided}
use Rattle.command_frame.specs.{Answer.Outside, Outputs.RestStays, declared.status.Status.Status}

-- ---- what is said

-- The line of what stayed undecided: the cost of the best plan, if one was met, and the cost that no valid plan undercuts.
abbrev pub undecided_line : (best : Option ℕ) (least : ℕ) → List ℕ
undecided_line None least = codes "undecided least " ++ decimal least ++ codes "\n"
undecided_line (Some cost) least = codes "undecided best " ++ decimal cost ++ codes " least " ++ decimal least ++ codes "\n"

-- The line of an answer.
unfoldable pub found_line : Instance → Found → List ℕ
found_line p (Optimal plan) = codes "optimal " ++ decimal (plan_cost p plan) ++ codes "\n"
found_line p Infeasible = codes "infeasible\n"
found_line p (Undecided best least) = undecided_line (option_map (plan_cost p) best) least

-- Its status.
abbrev pub found_status : Found → Status
found_status (Optimal plan) = Status.Good
found_status Infeasible = Status.Negative
found_status (Undecided best least) = Status.Undecided

-- ---- what is written

-- The certificate of an answer is whole, and the plan's file is absent, empty or a prefix of the text of the plan that is answered, or of none.
pub record IsPlanCut (p : Instance) (budget : ℕ) (certificate plan : Option (List ℕ)) : Type 0 where
  pub found : Found
  pub certified : IsCertified p budget found certificate
  pub cut : StartsWith (plan_text p (plan_in found)) (bytes_of plan)

-- ---- the command

-- An answer is written: one tree shows it, it is so of all plans of the problem, the two files are whole, the plan's is read back, and no other file changes. Where staying is a valid plan it is the answer, whatever the budget.
pub record IsWritten (plan_file certificate : List ℕ) (budget : ℕ) (p : Instance) (before after : Files) (found : Found) : Type 0 where
  pub problem : IsInstance p
  pub certified : IsCertified p budget found (after certificate)
  pub true_of : IsTrueOf p budget found
  pub stays : MayStay p → IsToStay p found
  pub plan_whole : after plan_file ≡ Some (plan_text p (plan_in found))
  pub plan_reads : plan_of p (bytes_of (after plan_file)) ≡ Ok (plan_in found)
  pub others : RestStays plan_file certificate before after

-- `plan` of a problem: an answer is written, and its line is printed.
pub record IsPlanned (plan_file certificate : List ℕ) (budget : ℕ) (p : Instance) (before after : Outside) (result : Status) : Type 0 where
  pub found : Found
  pub written : IsWritten plan_file certificate budget p before.files after.files found
  pub printed : after.printed ≡ before.printed ++ found_line p found
  pub status : result ≡ found_status found

-- What `plan` leaves in the files, by the problem that it read, however it ends: the plan's file is as before until the certificate is whole.
pub record LeavesPlanned (plan_file certificate : List ℕ) (budget : ℕ) (p : Instance) (before after : Files) : Type 0 where
  pub certificate_cut : IsCertificateCut p (before certificate) (after certificate)
  pub plan_cut : (after plan_file ≡ before plan_file) ⊎ IsPlanCut p budget (after certificate) (after plan_file)
  pub others : RestStays plan_file certificate before after
