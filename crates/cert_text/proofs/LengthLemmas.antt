-- The lines of steps and goals are no longer than lines may be.
use Rattle.std.proofs.Common.{length-append}
use Rattle.base.proofs.Public.{◌≡◌, ℕ, zero, suc, ◌+◌, ◌≤◌, Bool, true, false, length, refl, arith, length-map, filter, range_with_len}
use Rattle.cert_text.specs.Prelude.{element_name, End, Goal, goal_words, has_all, has_node, HasStep, Instance, IsGoal, IsInstance, joined, line_words, node, node_count, node_numbers, nodes_text, nodes_words, NodeSet, Part, part_text, part_words, Reason, reason_text, reason_words, Step as StepLine, step_text, step_words}
use Rattle.domains.specs.declared.parts.Part.TheVariants.{Idle, Upto, From}
use Rattle.trees.specs.declared.steps.Goal.TheVariants.{Optimal, Infeasible, Undecided}
use Rattle.trees.specs.declared.steps.Step.{Step}
use Rattle.reasons.specs.declared.reason.Reason.TheVariants as reason
use Rattle.trees.specs.declared.steps.Step.TheVariants as step
use Rattle.cert_text.proofs.SplitLemmas.{line_short}
use Rattle.cert_text.proofs.StepLemmas.{step_line_is}

part_count : (p : Instance) (part : Part) → length (part_words (part_text p part)) ≤ 3
part_count p Idle = omega arith
part_count p (Upto place start) = omega arith
part_count p (From place start) = omega arith

one_more : (test : ℕ → Bool) (first count : ℕ) (b : Bool) → test first ≡ b → length (filter test (range_with_len (first + 1) count)) ≤ count → length (filter test (range_with_len first (suc count))) ≤ suc count
one_more test first count true pass rest = rw pass (omega arith)
one_more test first count false pass rest = rw pass (omega arith)

few_pass : (test : ℕ → Bool) (first count : ℕ) → length (filter test (range_with_len first count)) ≤ count
few_pass test first zero = omega arith
few_pass test first (suc count) = one_more test first count (test first) refl (few_pass test (first + 1) count)

nodes_by : (p : Instance) → IsInstance p → (set : NodeSet) (b : Bool) → has_all p set ≡ b → length (nodes_words (nodes_text p set)) ≤ 512
nodes_by p is set true all = rw all (omega arith)
nodes_by p is set false few =
    let passing = few_pass (has_node set) 0 (node_count p) in
    let within = is.inventory.few_nodes in
    rw few (omega (arith, length-map (filter (has_node set) (node_numbers p)) (λ n. element_name p (node n))))

nodes_few : (p : Instance) → IsInstance p → (set : NodeSet) → length (nodes_words (nodes_text p set)) ≤ 512
nodes_few p is set = nodes_by p is set (has_all p set) refl

reason_count : (p : Instance) → IsInstance p → (r : Reason) → length (reason_words (reason_text p r)) ≤ 515
reason_count p is (reason.Empty e) = omega arith
reason_count p is reason.Bound = omega arith
reason_count p is (reason.Load t r set) = let few = nodes_few p is set in omega arith
reason_count p is (reason.Pair c t v w n) = omega arith
reason_count p is (reason.Place c t v n) = omega arith
reason_count p is (reason.Group c t) = omega arith
reason_count p is (reason.SetLoad c t) = omega arith
reason_count p is (reason.Power c t) = omega arith
reason_count p is (reason.Usable t v n) = omega arith
reason_count p is (reason.Hall c t set) = let few = nodes_few p is set in omega arith

step_count : (p : Instance) → IsInstance p → (s : Step) → length (step_words (step_text p s)) ≤ 520
step_count p is (step.Decide e part) = let few = part_count p part in omega arith
step_count p is (step.Cut e part r) =
    let few = part_count p part in
    let some = reason_count p is r in
    omega (arith, length-append (part_words (part_text p part)) (reason_words (reason_text p r)))
step_count p is (step.Fail r) = let some = reason_count p is r in omega arith
step_count p is (step.Plan cost) = omega arith
step_count p is step.Left = omega arith

goal_count : (goal : Goal) → length (goal_words goal) ≤ 2
goal_count (Optimal cost) = omega arith
goal_count Infeasible = omega arith
goal_count (Undecided count) = omega arith

pub step_line_fits : (p : Instance) → IsInstance p → (s : Step) → HasStep p s → length (joined (line_words (StepLine (step_text p s)))) ≤ 65536
step_line_fits p is s there =
    let bytes = line_short (StepLine (step_text p s)) (step_line_is p is s there) in
    let words = step_count p is s in
    omega arith

pub end_line_fits : (goal : Goal) → IsGoal goal → length (joined (line_words (End goal))) ≤ 65536
end_line_fits goal is =
    let bytes = line_short (End goal) is in
    let words = goal_count goal in
    omega arith
