use Rattle.std.proofs.Common.{[], ◌∙◌, ap, slice_index_or}
use Rattle.cluster.specs.Kinds.{kind_word, kind_words}
use Rattle.cluster.proofs.kinds.Kind.word.Goals as goal

pub returns : goal.returns
unfolding kind_word kind_words
returns c = c.word_at.ensures ∙ ap (λ i. slice_index_or kind_words i []) c.number.ensures.number
