use Rattle.relax.proofs.{Prelude.◌≡◌, Prelude.arith, Prelude.node_count, StartLemmas.all_held, StartLemmas.more_held}
use Rattle.relax.proofs.start.legal_domain.Goals as goal

pub loop-n-preserved : goal.loop-n-preserved
loop-n-preserved c =
    more_held c.args.p.now.given c.args.e c.loop-n.n c.add_row-in-loop-n.new.domain c.loop-n.domain c.legal_row-in-loop-n.result c.loop-n.invariant c.in_ok-add_row-2.ensures.idle c.in_ok-add_row-2.ensures.rows c.legal_row-in-loop-n.ensures.set c.legal_row-in-loop-n.ensures.row

pub returns : goal.returns
returns c =
    let all : c.loop-n.n ≡ node_count c.args.p.now.given = omega arith in
    all_held c.args.p.now.given c.args.e c.loop-n.domain c.requires (rw all at c.loop-n.invariant)
