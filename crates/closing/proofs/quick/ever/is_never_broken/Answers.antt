use Rattle.closing.proofs.Prelude.{◌∙◌, ap, sym, form_seen, sets}
use Rattle.closing.proofs.EverLemmas.{bounded_unbroken}
use Rattle.closing.proofs.quick.ever.is_never_broken.Goals as goal

pub returns-in-Bounded : goal.returns-in-Bounded
returns-in-Bounded c =
    let k = c.in-Bounded in
    λ yes. bounded_unbroken c.args.p.now.given (sets c.args.g.now) c.args.constraint.now k.weight k.nodes.now k.amount (sym c.form_of.ensures.form ∙ ap form_seen k.is) (c.stays_within.ensures yes)
