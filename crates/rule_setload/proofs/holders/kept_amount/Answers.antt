use Rattle.rule_setload.proofs.Prelude.{refl, has_node}
use Rattle.rule_setload.proofs.HolderLemmas.{host_kept}
use Rattle.rule_setload.proofs.holders.kept_amount.Goals as goal

pub returns-then-is_among : goal.returns-then-is_among
returns-then-is_among c =
    let among = c.if-is_among.ensures refl in
    host_kept c.args.p.now.given c.args.p.now.sound c.args.bound.now.weight (has_node c.args.bound.now.nodes) c.args.v.0 c.in-Some.h.0 c.base.result among.0 among.1 c.in-Some.ensures.some c.base.ensures.base c.base.ensures.small
