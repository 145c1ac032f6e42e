use Rattle.base.proofs.Public.{ℕ, ◌<◌, ◌∙◌, None, Option, ap, arith, get_or, length, option_or}
use Rattle.slices.specs.Forms.{Form, form_of}
use Rattle.partition.specs.Division.{tie_by}
use Rattle.partition.proofs.TableLemmas.{first_noted}
use Rattle.partition.proofs.division.note_ties.Goals as goal

pub loop-constraint-preserved : goal.loop-constraint-preserved
loop-constraint-preserved c = λ w h.
    let within : w < length c.loop-constraint.ties = omega arith in
    let now : Option ℕ = get_or c.loop-constraint.ties w None in
    first_noted (λ x. tie_by c.args.nodes.now w (form_of x)) c.args.constraints.now c.loop-constraint.constraint-index c.constraint-item.result _ now _ c.loop-constraint-test.true c.constraint-item.is
    (c.loop-constraint.invariant w within)
    (c.note_tie.ensures w within ∙ ap (λ (f : Form). option_or now (tie_by c.args.nodes.now w f)) c.form_of.ensures.form)
