use Rattle.rule_pair.proofs.Prelude.{◌∙◌, sym}
use Rattle.rule_pair.proofs.ApartLemmas.{on_clear}
use Rattle.rule_pair.proofs.StrangerLemmas.{same_class}
use Rattle.rule_pair.specs.Prelude.{has_machine, is_member}
use Rattle.rule_pair.proofs.strangers.strangers_alone.Goals as goal

pub returns : goal.returns
returns c =
    on_clear c.set_alone.result _ _
    (λ apart v w here there ne. apart v w here there
    (λ e. ne (sym (same_class (has_machine c.members.result) (is_member c.args.machines.now) c.members.ensures v) ∙ e ∙ same_class (has_machine c.members.result) (is_member c.args.machines.now) c.members.ensures w)))
    c.set_alone.ensures
