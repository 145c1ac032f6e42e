use Rattle.cluster.proofs.BitLemmas.{first_shifted, none_shifted, past_word}
use Rattle.cluster.proofs.bits.first_set.Goals as goal

pub returns-then-from-ge64 : goal.returns-then-from-ge64
returns-then-from-ge64 c = past_word c.args.word c.args.from c.ranges.word.fits c.if-from-ge64.true

pub returns-then-rest-eq0 : goal.returns-then-rest-eq0
returns-then-rest-eq0 c = none_shifted c.args.word c.args.from c.if-rest-eq0.true

pub returns : goal.returns
returns c = first_shifted c.args.word c.args.from c.ranges.word.fits c.if-rest-eq0.false
