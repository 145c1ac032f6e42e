use Rattle.base.proofs.Public.{◌==◌, rules, YieldsList-from_slice_split}
use Rattle.cert_text.proofs.SplitLemmas.{map_from_extend}
use Rattle.cert_text.proofs.parsing.words_of.Goals as goal

pub returns : goal.returns
returns c =
    let ran = c.in_ok-extend.ensures.ran in
    map_from_extend _ _ ran.1 c.in_ok-words.ensures.items ran.3.0 ran.2 ran.4 (YieldsList-from_slice_split _ (λ b. b == 32) c.args.bytes.now c.split.ensures.rest c.split.ensures.done c.split.ensures.closure (search rules))
