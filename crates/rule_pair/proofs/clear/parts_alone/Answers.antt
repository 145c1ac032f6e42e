use Rattle.rule_pair.specs.Prelude.{max_nodes, sets}
use Rattle.rule_pair.proofs.ApartLemmas.{keeps_clear, on_clear}
use Rattle.rule_pair.proofs.LongestLemmas.{none_ordered}
use Rattle.rule_pair.proofs.clear.parts_alone.Goals as goal

pub tell_parts-requires-clause-ordered : goal.tell_parts-requires-clause-ordered
tell_parts-requires-clause-ordered c = none_ordered max_nodes

pub returns : goal.returns
returns c =
    on_clear c.parts_keep_off.result _ _
    (λ off i j v w ne here there. keeps_clear c.args.p.now.given (sets c.args.g.now) c.tell_parts.new.table c.args.from i j v w ne (off i v here).some (c.tell_parts.ensures c.if-not-tell_parts.false i v here) (off j w there))
    c.parts_keep_off.ensures
