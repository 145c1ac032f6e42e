-- What `plan` answers and leaves, by what was found of its problem.
use Rattle.base.proofs.Public.{◌≡◌, ◌≢◌, ◌⊎◌, ◌∙◌, ℕ, List, [], ◌++◌, Option, Some, Ok, sym, ap, subst, inl, inr, append_assoc, All-nil, decimal, Result, Err, codes}
use Rattle.command_decide.specs.Prelude.{Files, Found, found_line, found_status, Instance, instance_in, IsCertificateCut, IsCertified, IsCut, IsInstance, IsPlanCut, IsPlanned, IsToStay, IsTrueOf, IsWritten, LeavesBy, LeavesPlanned, MayStay, OthersStay, outside, plan_of, plan_text, RestStays, Status}
use Rattle.trees.specs.declared.steps.Goal.TheVariants.{Infeasible as NonePlanned}
use Rattle.search.specs.Answers.{plan_in}
use Rattle.search.specs.Prelude.{HasStep}
use Rattle.command_decide.specs.Planning.{undecided_line}
use Rattle.command_frame.proofs.Public.{rest_of_both}

-- ---- the line

-- the line with the cost of a plan
pub line_with_best : (cost least : ℕ) (best : Option ℕ) (line : List ℕ) → best ≡ Some cost →
    line ≡ codes "undecided best " ++ (decimal cost ++ (codes " least " ++ (decimal least ++ codes "\n"))) → line ≡ undecided_line best least
line_with_best cost least best line is e =
    let whole : codes "undecided best " ++ decimal cost ++ codes " least " ++ decimal least ++ codes "\n" ≡ codes "undecided best " ++ (decimal cost ++ (codes " least " ++ (decimal least ++ codes "\n"))) =
    append_assoc (codes "undecided best " ++ decimal cost ++ codes " least ") (decimal least) (codes "\n")
    ∙ append_assoc (codes "undecided best " ++ decimal cost) (codes " least ") (decimal least ++ codes "\n")
    ∙ append_assoc (codes "undecided best ") (decimal cost) (codes " least " ++ (decimal least ++ codes "\n")) in
    rw is (e ∙ sym whole)

-- ---- by the problem

rest_of_one : (plan_file certificate : List ℕ) (before after : Files) → OthersStay certificate before after → RestStays plan_file certificate before after
rest_of_one plan_file certificate before after stay = λ other not_plan not_certificate. stay other not_certificate

-- what is left where the certificate is not whole
pub leaves_certificate : (plan_file certificate : List ℕ) (budget : ℕ) (p : Instance) (before after : Files) → plan_file ≢ certificate → IsCertificateCut p (before certificate) (after certificate) → OthersStay certificate before after →
    LeavesPlanned plan_file certificate budget p before after
leaves_certificate plan_file certificate budget p before after apart cut stay = record {
  certificate_cut = cut;
  plan_cut = inl (stay plan_file apart);
  others = rest_of_one plan_file certificate before after stay;
}

-- what is left where it is
pub leaves_plan : (plan_file certificate : List ℕ) (budget : ℕ) (p : Instance) (found : Found) (before between after : Files) → plan_file ≢ certificate → IsCertified p budget found (between certificate) →
    IsCertificateCut p (before certificate) (between certificate) → OthersStay certificate before between → IsCut (between plan_file) (plan_text p (plan_in found)) (after plan_file) → OthersStay plan_file between after →
    LeavesPlanned plan_file certificate budget p before after
leaves_plan plan_file certificate budget p found before between after apart whole cut stay plan_cut then = record {
  certificate_cut = subst (λ (file : Option (List ℕ)). IsCertificateCut p (before certificate) file) (sym kept) cut;
  plan_cut = by plan_cut;
  others = rest_of_both certificate plan_file before between after stay then;
}
  where
    kept : after certificate ≡ between certificate
    kept = then certificate (λ same. apart (sym same))

    by : IsCut (between plan_file) (plan_text p (plan_in found)) (after plan_file) → (after plan_file ≡ before plan_file) ⊎ IsPlanCut p budget (after certificate) (after plan_file)
    by (inl same) = inl (same ∙ stay plan_file apart)
    by (inr front) = inr (record { found = found; certified = subst (IsCertified p budget found) (sym kept) whole; cut = front })

-- the answer is written
pub written : (plan_file certificate : List ℕ) (budget : ℕ) (p : Instance) (found : Found) (before between after : Files) → plan_file ≢ certificate → IsInstance p → IsCertified p budget found (between certificate) →
    OthersStay certificate before between → IsTrueOf p budget found → (MayStay p → IsToStay p found) → after plan_file ≡ Some (plan_text p (plan_in found)) → plan_of p (plan_text p (plan_in found)) ≡ Ok (plan_in found) → OthersStay plan_file between after →
    IsWritten plan_file certificate budget p before after found
written plan_file certificate budget p found before between after apart sound whole stay is stays plan_whole reads then = record {
  problem = sound;
  certified = subst (IsCertified p budget found) (sym (then certificate (λ same. apart (sym same)))) whole;
  true_of = is;
  stays = stays;
  plan_whole = plan_whole;
  plan_reads = rw plan_whole reads;
  others = rest_of_both certificate plan_file before between after stay then;
}

-- and said
pub planned : (plan_file certificate : List ℕ) (budget : ℕ) (p : Instance) (found : Found) (before after : Files) (printed line : List ℕ) (said : Status) → IsWritten plan_file certificate budget p before after found →
    line ≡ found_line p found → said ≡ found_status found → IsPlanned plan_file certificate budget p (outside before printed) (outside after (printed ++ line)) said
planned plan_file certificate budget p found before after printed line said is text status_is = record {
  found = found;
  written = is;
  printed = ap (λ l. printed ++ l) text;
  status = status_is;
}

-- ---- by the file of the instance

-- what is left where nothing was written
pub leaves_nothing : (plan_file certificate : List ℕ) (budget : ℕ) (reading : Result Instance (List ℕ)) (before after : Files) → after ≡ before → LeavesBy (LeavesPlanned plan_file certificate budget) reading before after
leaves_nothing plan_file certificate budget (Ok p) before after same = record {
  certificate_cut = record { steps = []; named = All-nil (HasStep p); goal = NonePlanned; goal_is = tt; cut = inl (λ i. same i certificate) };
  plan_cut = inl (λ i. same i plan_file);
  others = λ other _ _ i. same i other;
}
leaves_nothing plan_file certificate budget (Err line) before after same = same

-- what is left where the instance has a problem
pub leaves_well : (instance plan_file certificate : List ℕ) (budget : ℕ) (before between after : Files) (p : Instance) → between ≡ before → instance_in before instance ≡ Ok p → LeavesPlanned plan_file certificate budget p between after →
    LeavesBy (LeavesPlanned plan_file certificate budget) (instance_in before instance) before after
leaves_well instance plan_file certificate budget before between after p kept read leaves = rw read (rw kept at leaves)
