-- What has been printed is a prefix of an answer.
use Rattle.base.proofs.Public.{◌≡◌, ℕ, List, ◌++◌, inl, inr, Ok, refl, StartsWith, whole, further}
use Rattle.command_frame.specs.Prelude.{AnswersFromPlan, Choices, Files, Instance, instance_in, Outside, outside, plan_in, PrintsPrefixOf, Status}
use Rattle.command_frame.proofs.Ends.{answers_from_plan}

-- nothing is a prefix of every answer
pub prints_nothing : (answer : Outside → Status → Type 0) (before after : Files) (printed : List ℕ) → PrintsPrefixOf answer (outside before printed) (outside after printed)
unfolding PrintsPrefixOf
prints_nothing answer before after printed = (whole printed, inl refl)

-- what stands of an answer after its last line was begun
pub prints_last : (answer : Outside → Status → Type 0) (before : Outside) (after : Files) (printed line text now : List ℕ) (said : Status) → PrintsPrefixOf answer before (outside after printed) → answer (outside after (printed ++ line)) said → text ≡ line → StartsWith now printed → StartsWith (printed ++ text) now → PrintsPrefixOf answer before (outside after now)
unfolding PrintsPrefixOf
prints_last answer before after printed line text now said prefix answered is stays cut =
    (further before.printed printed now prefix.0 stays, inr (record { whole = printed ++ line; result = said; answered = answered; prefix = rw (← is) cut }))

-- a prefix of an answer is one of each answer that follows from it
pub prints_more : (answer wider : Outside → Status → Type 0) (before after : Outside) → ((then : Outside) (result : Status) → answer then result → wider then result) → PrintsPrefixOf answer before after → PrintsPrefixOf wider before after
unfolding PrintsPrefixOf
prints_more answer wider before after more (stays, inl same) = (stays, inl same)
prints_more answer wider before after more (stays, inr cut) = (stays, inr (record { whole = cut.whole; result = cut.result; answered = more _ _ cut.answered; prefix = cut.prefix }))

-- a prefix of the answer by a problem and its plan, once they were read
pub prints_from_plan : (answer : Instance → Choices → Outside → Outside → Status → Type 0) (instance plan_file : List ℕ) (before between then : Files) (printed : List ℕ) (after : Outside) (p : Instance) (plan : Choices) →
    between ≡ before → then ≡ between → instance_in before instance ≡ Ok p → plan_in p between plan_file ≡ Ok plan → PrintsPrefixOf (answer p plan (outside then printed)) (outside then printed) after →
    PrintsPrefixOf (AnswersFromPlan answer instance plan_file (outside before printed)) (outside before printed) after
prints_from_plan answer instance plan_file before between then printed after p plan kept then_kept read plan_read prints =
    prints_more (answer p plan (outside before printed)) (AnswersFromPlan answer instance plan_file (outside before printed)) (outside before printed) after
    (λ last result. answers_from_plan answer instance plan_file (outside before printed) last p plan result read (rw kept at plan_read)) (rw (then_kept, kept) at prints)
