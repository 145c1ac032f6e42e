-- What `demo` answers and leaves.
use Rattle.std.proofs.Common.{lit<}
use Rattle.base.proofs.Public.{◌≡◌, ◌≢◌, ◌∙◌, ℕ, true, false, List, ◌++◌, Option, Ok, refl, sym, ap, subst, inl, inr, append_assoc, bytes_eq-Decides, decimal, Result, Err, codes}
use Rattle.instance_make.proofs.Public.{is_feasible}
use Rattle.slices.specs.Prelude.{IsInfeasible}
use Rattle.command_demo.specs.Prelude.{bytes_of, demo_certificate, demo_decisions, demo_instance, demo_plan, Ending, Ends, Fault, Files, Found, generated, HasAnswer, HasGenerated, Infeasible, Instance, instance_in, instance_of, instance_text, IsChecked, IsConcluded, IsDemonstrated, IsOfReading, IsPlannedAndChecked, IsTrueOf, IsWritten, LeavesDemo, LeavesDemoUnread, LeavesGenerated, LeavesPlanned, lined, Optimal, optimal_line, out_fault, OutFault, outcome_status, Outside, outside, plan_cost, PlanChoices, printed_with, reading_of, Reads, SaysDemo, Status, Undecided, unsettled_line}
use Rattle.command_decide.proofs.Public.{checked_is_yes, written_is_accepted}
use Rattle.command_frame.proofs.Public.{ends_more}

-- ---- its files and its line

-- the files that are planned into are two
pub files_apart : demo_plan ≢ demo_certificate
files_apart same = let both : false ≡ true = (bytes_eq-Decides demo_plan demo_certificate).1 same in absurd (cc)

-- the line of an optimal plan
pub optimal_text : (seed cost : ℕ) (line : List ℕ) → line ≡ codes "demo " ++ (decimal seed ++ (codes " optimal " ++ (decimal cost ++ codes " yes\n"))) → line ≡ optimal_line seed cost
optimal_text seed cost line is = is ∙ sym
    (append_assoc (codes "demo " ++ decimal seed ++ codes " optimal ") (decimal cost) (codes " yes\n")
    ∙ append_assoc (codes "demo " ++ decimal seed) (codes " optimal ") (decimal cost ++ codes " yes\n")
    ∙ append_assoc (codes "demo ") (decimal seed) (codes " optimal " ++ (decimal cost ++ codes " yes\n")))

-- ---- where the check said yes

-- an optimal plan is said
pub optimal_said : (seed : ℕ) (p : Instance) (found : Found) (plan : PlanChoices) (before : Outside) (line : List ℕ) → found ≡ Optimal plan → line ≡ optimal_line seed (plan_cost p plan) →
    SaysDemo seed p found before (outside before.files (before.printed ++ line)) Status.Good
unfolding SaysDemo
optimal_said seed p found plan before line is text =
    subst (λ (f : Found). SaysDemo seed p f before (outside before.files (before.printed ++ line)) Status.Good) (sym is)
    (record { printed = ap (λ l. before.printed ++ l) text; status = refl; files = refl })

-- and what stayed undecided
pub unsettled_said : (seed : ℕ) (p : Instance) (found : Found) (best : Option PlanChoices) (least : ℕ) (before : Outside) (line : List ℕ) → found ≡ Undecided best least → line ≡ unsettled_line seed →
    SaysDemo seed p found before (outside before.files (before.printed ++ line)) Status.Undecided
unfolding SaysDemo
unsettled_said seed p found best least before line is text =
    subst (λ (f : Found). SaysDemo seed p f before (outside before.files (before.printed ++ line)) Status.Undecided) (sym is)
    (record { printed = ap (λ l. before.printed ++ l) text; status = refl; files = refl })

-- ---- after the check

-- a yes
pub said_yes : (seed : ℕ) (p : Instance) (found : Found) (before after checked : Outside) (said : Status) (ending : Ending) → after ≡ before → IsChecked demo_plan demo_certificate false p before checked said → said ≡ Status.Good →
    ((start : Outside) → Ends (SaysDemo seed p found start) start (Ok ending)) → Ends (IsConcluded seed p found before) after (Ok ending)
unfolding Ends
said_yes seed p found before after checked said ending same is good says = record {
  checked = checked;
  said = said;
  check_is = is;
  yes = λ _. subst (λ (start : Outside). SaysDemo seed p found start (outside after.files (printed_with after.printed ending.line)) (outcome_status ending.outcome)) same (says after);
  other = λ bad. absurd (bad good);
}

-- anything else
pub said_other : (seed : ℕ) (p : Instance) (found : Found) (before checked : Outside) (said : Status) → IsChecked demo_plan demo_certificate false p before checked said → said ≢ Status.Good → IsConcluded seed p found before checked said
said_other seed p found before checked said is bad = record { checked = checked; said = said; check_is = is; yes = λ good. absurd (bad good); other = λ _. (refl, refl) }

-- a fault of the check
pub said_fault : (seed : ℕ) (p : Instance) (found : Found) (before after : Outside) (f : Fault) → Ends (IsChecked demo_plan demo_certificate false p before) after (Err f) → Ends (IsConcluded seed p found before) after (Err f)
unfolding Ends
said_fault seed p found before after Fault.Words is = said_other seed p found before _ Status.Words is (λ e. absurd (cc))
said_fault seed p found before after (Fault.Input line) is = said_other seed p found before _ Status.Input is (λ e. absurd (cc))
said_fault seed p found before after Fault.ReadFault is = tt
said_fault seed p found before after Fault.WriteFault is = tt
said_fault seed p found before after Fault.Memory is = tt

-- ---- by the generated problem

-- it reads back
pub read_back : (seed : ℕ) (before between : Files) → HasGenerated seed demo_instance before between → instance_of (instance_text (generated seed)) ≡ Ok (generated seed) → instance_in between demo_instance ≡ Ok (generated seed)
unfolding reading_of
read_back seed before between is reads = ap (λ file. lined (instance_of (bytes_of file))) is.whole ∙ ap lined reads

-- so what is read is no other problem
pub no_other : (seed : ℕ) (before between : Files) (p : Instance) → HasGenerated seed demo_instance before between → instance_of (instance_text (generated seed)) ≡ Ok (generated seed) → instance_in between demo_instance ≡ Ok p → p ≡ generated seed
no_other seed before between p is reads read = same (instance_in between demo_instance) (read_back seed before between is reads) read
  where
    same : (reading : Result Instance (List ℕ)) → reading ≡ Ok (generated seed) → reading ≡ Ok p → p ≡ generated seed
    same reading one two = cc

-- and it is not refused
pub not_refused : {T : Type 0} (answer : Outside → Status → Type 0) (after : Outside) (view : T → Instance) (reading : Result Instance (List ℕ)) (p : Instance) (fault : Fault) → reading ≡ Ok p → IsOfReading fault →
    (¬ (◌≡◌ {A = Result T Fault} (Err fault) (Err Fault.ReadFault)) → Reads view (Err fault) reading) → Ends answer after (Err fault)
unfolding Ends
not_refused answer after view reading p Fault.Words read kind reads = absurd kind
not_refused answer after view reading p (Fault.Input line) read kind reads = let refused = reads (λ e. cc) in absurd (cc)
not_refused answer after view reading p Fault.ReadFault read kind reads = tt
not_refused answer after view reading p Fault.WriteFault read kind reads = absurd kind
not_refused answer after view reading p Fault.Memory read kind reads = tt

-- that it has no plan is never found
pub never_infeasible : (seed : ℕ) (p : Instance) (found : Found) (before between : Files) → p ≡ generated seed → IsWritten demo_plan demo_certificate demo_decisions p before between found → found ≡ Infeasible → ⊥
never_infeasible seed p found before between same written none =
    let no_plan : IsInfeasible p = subst (λ (f : Found). IsTrueOf p demo_decisions f) none written.true_of in
    is_feasible seed (subst IsInfeasible same no_plan)

-- the check of what was written says yes, and what was found is said
accepted : (seed : ℕ) (found : Found) (before between : Files) (printed : List ℕ) (then : Outside) (result : Status) → IsWritten demo_plan demo_certificate demo_decisions (generated seed) before between found →
    IsConcluded seed (generated seed) found (outside between printed) then result → IsPlannedAndChecked seed (outside before printed) then result
accepted seed found before between printed then result written is =
    let are = written_is_accepted demo_plan demo_certificate demo_decisions (lit< tt) (generated seed) before between found written in
    let good : is.said ≡ Status.Good = (checked_is_yes demo_plan demo_certificate demo_decisions (generated seed) found false (outside between printed) is.checked is.said are is.check_is).status in
    record {
      found = found;
      between = between;
      checked = is.checked;
      written = written;
      accepted = subst (λ (said : Status). IsChecked demo_plan demo_certificate false (generated seed) (outside between printed) is.checked said) good is.check_is;
      says = is.yes good;
    }

pub checked_then : (seed : ℕ) (p : Instance) (found : Found) (before between after : Files) (printed : List ℕ) (ended : Result Ending Fault) → p ≡ generated seed → IsWritten demo_plan demo_certificate demo_decisions p before between found →
    Ends (IsConcluded seed p found (outside between printed)) (outside after printed) ended → Ends (IsPlannedAndChecked seed (outside before printed)) (outside after printed) ended
checked_then seed p found before between after printed ended same written ends =
    let sound : IsWritten demo_plan demo_certificate demo_decisions (generated seed) before between found = subst (λ (q : Instance). IsWritten demo_plan demo_certificate demo_decisions q before between found) same written in
    ends_more (IsConcluded seed p found (outside between printed)) (IsPlannedAndChecked seed (outside before printed)) (outside after printed) ended
    (λ then result is. accepted seed found before between printed then result sound (subst (λ (q : Instance). IsConcluded seed q found (outside between printed) then result) same is)) ends

-- ---- by the seed

pub answered : (seed : ℕ) (before between middle after : Files) (printed : List ℕ) (p : Instance) (ended : Result Ending Fault) → HasGenerated seed demo_instance before between →
    instance_of (instance_text (generated seed)) ≡ Ok (generated seed) → middle ≡ between → instance_in between demo_instance ≡ Ok p →
    (p ≡ generated seed → Ends (IsPlannedAndChecked seed (outside middle printed)) (outside after printed) ended) → Ends (IsDemonstrated seed (outside before printed)) (outside after printed) ended
answered seed before between middle after printed p ended is reads same read ends =
    ends_more (IsPlannedAndChecked seed (outside between printed)) (IsDemonstrated seed (outside before printed)) (outside after printed) ended
    (λ then result answer. record { between = between; generated_is = is; reads_back = read_back seed before between is reads; answer = answer })
    (subst (λ (files : Files). Ends (IsPlannedAndChecked seed (outside files printed)) (outside after printed) ended) same (ends (no_other seed before between p is reads read)))

-- ---- what is left

pub leaves_generated : (seed : ℕ) (before after : Files) → LeavesGenerated seed demo_instance before after → LeavesDemo seed before after
leaves_generated seed before after left = record { between = after; generated_cut = left; then = inl refl }

pub leaves_unread : (seed : ℕ) (before between after : Files) → LeavesGenerated seed demo_instance before between → after ≡ between → LeavesDemo seed before after
leaves_unread seed before between after left same = record { between = between; generated_cut = left; then = inl same }

pub leaves_planned : (seed : ℕ) (before between middle after : Files) (p : Instance) → LeavesGenerated seed demo_instance before between → HasGenerated seed demo_instance before between →
    instance_of (instance_text (generated seed)) ≡ Ok (generated seed) → middle ≡ between → instance_in between demo_instance ≡ Ok p → LeavesPlanned demo_plan demo_certificate demo_decisions p middle after → LeavesDemo seed before after
leaves_planned seed before between middle after p left is reads same read planned =
    let started = subst (λ (files : Files). LeavesPlanned demo_plan demo_certificate demo_decisions p files after) same planned in
    record { between = between; generated_cut = left; then = inr (is, subst (λ (q : Instance). LeavesPlanned demo_plan demo_certificate demo_decisions q between after) (no_other seed before between p is reads read) started) }

-- ---- after a failed read

-- a refused write is no failed read
pub no_read : (refused : OutFault) → ¬ (out_fault refused ≡ Fault.ReadFault)
no_read OutFault.Failed = λ e. cc
no_read OutFault.Memory = λ e. cc

-- the answer stood already
pub has_answer : (p : Instance) (found : Found) (before between after : Files) → IsWritten demo_plan demo_certificate demo_decisions p before between found → after ≡ between → HasAnswer p before after
has_answer p found before between after written same = record { found = found; written = subst (λ (files : Files). IsWritten demo_plan demo_certificate demo_decisions p before files found) (sym same) written }

pub unread : (seed : ℕ) (before between after : Files) → HasGenerated seed demo_instance before between → after ≡ between → LeavesDemoUnread seed before after
unread seed before between after is same = record { between = between; generated_is = is; then = inl same }

pub unread_planned : (seed : ℕ) (before between middle after : Files) (p : Instance) → HasGenerated seed demo_instance before between → instance_of (instance_text (generated seed)) ≡ Ok (generated seed) →
    middle ≡ between → instance_in between demo_instance ≡ Ok p → HasAnswer p middle after → LeavesDemoUnread seed before after
unread_planned seed before between middle after p is reads same read has =
    let started = subst (λ (files : Files). HasAnswer p files after) same has in
    record { between = between; generated_is = is; then = inr (subst (λ (q : Instance). HasAnswer q between after) (no_other seed before between p is reads read) started) }
