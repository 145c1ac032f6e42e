use Rattle.closing.proofs.{Prelude.all_nodes, LocalLemmas.load_is_local}
use Rattle.closing.proofs.watch.look_at_total_load.Goals as goal

pub look-requires-clause-local : goal.look-requires-clause-local
look-requires-clause-local c = load_is_local c.args.p.now.given (all_nodes c.args.p.now.given)
