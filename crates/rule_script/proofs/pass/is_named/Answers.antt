use Rattle.base.proofs.Public.{◌∙◌, decimal, sym}
use Rattle.rule_script.proofs.PassLemmas.{named_so}
use Rattle.rule_script.proofs.pass.is_named.Goals as goal

pub returns : goal.returns
returns c = λ is. named_so c.args.cluster.now.given c.args.element c.args.name.now (decimal c.args.number) c.args.cluster.now.sound c.requires (sym c.name.ensures.name ∙ sym c.as_bytes.ensures.value ∙ c.is_joined.ensures is)
