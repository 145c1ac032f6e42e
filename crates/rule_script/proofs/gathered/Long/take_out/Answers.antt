use Rattle.base.proofs.Public.{◌∙◌, ap, filter, not}
use Rattle.rule_script.specs.Elements.{entry_of}
use Rattle.rule_script.specs.Marks.{in_list}
use Rattle.rule_script.proofs.ElementLemmas.{taken_out, taken_out_marks}
use Rattle.rule_script.proofs.gathered.Long.take_out.Goals as goal

pub invariant_of-self : goal.invariant_of-self
invariant_of-self c = (c.self.invariant.0, taken_out_marks (entry_of c.self.inside.places) (entry_of c.set_all.new.self) c.self.inside.list.items c.self.invariant.1 c.args.others.now c.set_all.ensures)

pub returns : goal.returns
returns c =
    taken_out (entry_of c.self.inside.places) (entry_of c.set_all.new.self) c.self.inside.list.items c.self.invariant.1 c.args.others.now c.set_all.ensures
    ∙ ap (filter (λ e. not (in_list c.args.others.now e))) c.self.view_is
