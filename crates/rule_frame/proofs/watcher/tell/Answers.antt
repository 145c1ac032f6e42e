use Rattle.rule_frame.proofs.TellLemmas.{told_kept}
use Rattle.rule_frame.proofs.watcher.tell.Goals as goal

pub returns : goal.returns
returns g c = told_kept _ _ _ _ _ _ _ (λ i. g.met.W.Watcher.local c.args.w.now c.args.p.now.given i) c.requires.narrowed.exists c.disturb.ensures c.requires.agreed
