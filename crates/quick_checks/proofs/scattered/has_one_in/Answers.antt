use Rattle.quick_checks.proofs.{Prelude.◌∙◌, Prelude.nodes_of, Prelude.seen, Prelude.sym, KnownLemmas.present_inside}
use Rattle.quick_checks.proofs.scattered.has_one_in.Goals as goal

pub returns-then-has : goal.returns-then-has
returns-then-has c =
    λ yes.
    let post = c.requires.post in
    (c.args.post.machine.0, post.member, present_inside c.args.p.now.given (seen c.args.view.now.region.now c.args.view.now.lens) c.args.post.machine.0 c.args.t c.args.post.node.0 (nodes_of c.args.p.now.given c.args.area.now) (sym c.has.ensures ∙ c.if-has.true) post.there)
