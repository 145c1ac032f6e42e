use Rattle.rule_frame.proofs.Prelude.{sym, ◌∙◌, arith, sets}
use Rattle.rule_frame.proofs.AskLemmas.{clean_all, clean_found, clean_next}
use Rattle.rule_frame.proofs.watcher.ask.Goals as goal
use Rattle.rule_frame.proofs.watcher.ask.Goals.{then-is_dirty+in_ok-found+in-None, else-is_dirty}

pub loop-i-preserved : goal.loop-i-preserved
loop-i-preserved g c =
    elim c.if-is_dirty.branch [
      | then-is_dirty+in_ok-found+in-None w ↦
          rw (w.dirty-is, w.set_dirty.ensures, w.pass.ensures)
          (clean_found (g.W.Watcher.watch c.args.w.now c.args.p.now.given) c.args.p.now.given (sets c.args.g.now) c.loop-i.i c.args.dirty.now c.loop-i.dirty c.loop-i.invariant
          (omega (arith, c.loop-i-test.true, c.count-i-end.ensures, c.loop-i.invariant.kept.count)) (rw w.in-None.is at w.in_ok-found.ensures.clean))
      | else-is_dirty w ↦
          rw w.dirty-is
          (clean_next (g.W.Watcher.watch c.args.w.now c.args.p.now.given) c.args.p.now.given (sets c.args.g.now) c.loop-i.i c.args.dirty.now c.loop-i.dirty c.loop-i.invariant
          (sym c.is_dirty.ensures ∙ w.if-is_dirty.false))
    ]

pub returns-clause-answer : goal.returns-clause-answer
returns-clause-answer g c =
    clean_all (g.W.Watcher.watch c.args.w.now c.args.p.now.given) c.args.p.now.given (sets c.args.g.now) c.loop-i.i c.args.dirty.now c.loop-i.dirty c.loop-i.invariant
    (g.W.Watcher.count_of c.args.w.now c.args.p.now.given) c.requires.count (omega (arith, c.requires.count, c.count-i-end.ensures))
