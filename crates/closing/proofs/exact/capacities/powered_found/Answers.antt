use Rattle.closing.proofs.{Prelude.arith, Prelude.has_node, Prelude.sets, SettingLemmas.few_free}
use Rattle.closing.proofs.exact.capacities.powered_found.Goals as goal

pub returns-then-count-amount-2 : goal.returns-then-count-amount-2
returns-then-count-amount-2 c = few_free c.args.p.now.given (sets c.args.g.now) (has_node c.args.nodes.now) c.args.t c.args.amount (omega arith)
