use Rattle.rule_pair.specs.Prelude.{class_of, has_machine, max_nodes, sets}
use Rattle.rule_pair.proofs.ApartLemmas.{keeps_clear, on_clear}
use Rattle.rule_pair.proofs.LongestLemmas.{none_ordered}
use Rattle.rule_pair.proofs.strangers.set_alone.Goals as goal

pub tell_all-requires-clause-ordered : goal.tell_all-requires-clause-ordered
tell_all-requires-clause-ordered c = none_ordered max_nodes

pub returns : goal.returns
returns c =
    on_clear c.all_keep_off.result _ _
    (λ off v w here there ne. keeps_clear c.args.p.now.given (sets c.args.g.now) c.tell_all.new.table c.args.from (class_of (has_machine c.args.members.now) v) (class_of (has_machine c.args.members.now) w) v w ne (off v here).some
    (c.tell_all.ensures c.if-not-tell_all.false v here) (off w there))
    c.all_keep_off.ensures
