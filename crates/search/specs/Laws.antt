-- What follows of the tree that a search shows.
use Rattle.std.specs.Prelude.{ℕ, IfSome}
use Rattle.cert_write.specs.Prelude.{Instance, IsInstance, IsPlanOf, Tree}
use Rattle.search.specs.{declared.found.Found.Found, Answers.IsTreeOf, Answers.IsTrueOf, Answers.plan_in}

-- an answer that a tree shows, with a whole plan if with any, is so of all plans
abbrev pub TreeIsTrue : Type 0
TreeIsTrue = (p : Instance) → IsInstance p → (budget : ℕ) (found : Found) (t : Tree) → IfSome (plan_in found) (IsPlanOf p) → IsTreeOf p budget found t → IsTrueOf p budget found
