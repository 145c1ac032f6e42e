use Rattle.base.proofs.Public.{◌≡◌, drop, list_any}
use Rattle.picture.specs.Prelude.{choices_of, touches}
use Rattle.picture.proofs.nodes.has_bar.Given as goal

abbrev pub invariant-loop-action : goal.invariant-loop-action
invariant-loop-action l = list_any (touches l.p.given (choices_of l.plan) l.n.0) l.actions ≡ list_any (touches l.p.given (choices_of l.plan) l.n.0) (drop l.action-index l.actions)
