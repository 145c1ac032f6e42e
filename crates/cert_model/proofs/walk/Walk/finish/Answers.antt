use Rattle.cert_model.proofs.Prelude.{◌≡◌, ◌∙◌, ap, sym, rules, is_some, goal_of, the_view}
use Rattle.cert_model.proofs.{StandLemmas.goal_kept, StandLemmas.stands_as, WholeLemmas.proof_of, WholeLemmas.whole_of}
use Rattle.cert_model.proofs.walk.Walk.finish.Goals as goal

pub returns-then-not-is_whole : goal.returns-then-not-is_whole
returns-then-not-is_whole c =
    λ p bound strict steps known proof.
    let whole = (c.is_whole.ensures p bound strict steps known).1 (whole_of p bound strict steps proof) in
    let not = c.if-not-is_whole.true in
    cc

pub returns-then-is_same_goal : goal.returns-then-is_same_goal
returns-then-is_same_goal c =
    λ p bound strict steps known.
    let w = the_view c.self.inside in
    let stands = stands_as p bound strict steps w c.args.self.now c.self.view_is known in
    let shows : c.goal_shown-shown.result ≡ goal_of (is_some c.self.inside.least_left) c.self.inside.decisions c.self.inside.bound = c.goal_shown-shown.ensures ∙ ap (λ b. goal_of b c.self.inside.decisions c.self.inside.bound) (search (rules, c.is_some.ensures)) in (
      proof_of p bound strict steps ((c.is_whole.ensures p bound strict steps known).0 (search (rules, c.if-not-is_whole.false))),
      c.is_same_goal.ensures.0 (search (rules, c.if-is_same_goal.true)) ∙ shows ∙ goal_kept p bound strict steps w stands,
    )

pub returns-else-is_same_goal : goal.returns-else-is_same_goal
returns-else-is_same_goal c =
    λ p bound strict steps known.
    let w = the_view c.self.inside in
    let stands = stands_as p bound strict steps w c.args.self.now c.self.view_is known in
    let shows : c.goal_shown-shown.result ≡ goal_of (is_some c.self.inside.least_left) c.self.inside.decisions c.self.inside.bound = c.goal_shown-shown.ensures ∙ ap (λ b. goal_of b c.self.inside.decisions c.self.inside.bound) (search (rules, c.is_some.ensures)) in (
      proof_of p bound strict steps ((c.is_whole.ensures p bound strict steps known).0 (search (rules, c.if-not-is_whole.false))),
      λ same.
          let is = c.is_same_goal.ensures.1 (same ∙ sym (shows ∙ goal_kept p bound strict steps w stands)) in
          let not = c.if-is_same_goal.false in
          cc,
    )
