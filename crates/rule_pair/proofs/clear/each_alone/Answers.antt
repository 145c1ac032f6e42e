use Rattle.rule_pair.specs.Prelude.{max_nodes, sets}
use Rattle.rule_pair.proofs.ApartLemmas.{keeps_clear, on_clear}
use Rattle.rule_pair.proofs.LongestLemmas.{none_ordered}
use Rattle.rule_pair.proofs.clear.each_alone.Goals as goal

pub tell_machines-requires-clause-ordered : goal.tell_machines-requires-clause-ordered
tell_machines-requires-clause-ordered c = none_ordered max_nodes

pub returns : goal.returns
returns c =
    on_clear c.machines_keep_off.result _ _
    (λ off v w here there ne. keeps_clear c.args.p.now.given (sets c.args.g.now) c.tell_machines.new.table c.args.from v w v w ne (off v here).some (c.tell_machines.ensures.told c.if-not-tell_machines.false v here) (off w there))
    c.machines_keep_off.ensures
