use Rattle.std.proofs.Common.{[], ◌∙◌, ap, slice_index_or}
use Rattle.cluster.specs.States.{state_word, state_words}
use Rattle.cluster.proofs.states.State.word.Goals as goal

pub returns : goal.returns
unfolding state_word state_words
returns c = c.word_at.ensures ∙ ap (λ i. slice_index_or state_words i []) c.number.ensures
