use Rattle.instance_make.proofs.ShortText.{generated_text_is_short}
use Rattle.instance_make.proofs.laws.generated_text_is_short.Goals as goal

pub returns : goal.returns
returns c = generated_text_is_short
