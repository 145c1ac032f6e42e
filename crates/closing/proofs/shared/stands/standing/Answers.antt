use Rattle.closing.proofs.Prelude.{ap, sym, ◌∙◌, choices, is_in, is_node, one, sets}
use Rattle.closing.proofs.StandLemmas.{empty_stands, stands_by}
use Rattle.closing.proofs.shared.stands.standing.Goals as goal

pub returns-in-None-clause-nodes : goal.returns-in-None-clause-nodes
returns-in-None-clause-nodes c =
    λ n. empty_stands c.args.p.now.given (sets c.args.g.now) c.args.v.0 c.args.t n (sym (ap choices c.domain.ensures.domain) ∙ c.in-None.ensures.none)

pub returns-in-Some-clause-nodes : goal.returns-in-Some-clause-nodes
returns-in-Some-clause-nodes c =
    λ n. stands_by c.args.p.now.given (sets c.args.g.now) c.args.v.0 c.args.t n c.in-Some.c (rw c.domain.ensures.domain at c.in-Some.ensures.some)
    (is_in (one n) c.holding-now.result.source) (is_in (one n) c.holding-now.result.target)
    (is_node c.sure_node.result n) (is_node c.sure_node-in-Some.result n)
    (c.holding-now.ensures.present (one n)) (c.sure_node.ensures.node n) (c.sure_node-in-Some.ensures.node n)
