use Rattle.std.proofs.Common.{[], ◌∙◌, ap, slice_index_or}
use Rattle.catalogue.specs.Words.{constraint_word, constraint_words}
use Rattle.catalogue.proofs.constraint.Constraint.word.Goals as goal

pub returns : goal.returns
unfolding constraint_word constraint_words
returns c = c.word_at.ensures ∙ ap (λ i. slice_index_or constraint_words i []) c.number.ensures
