use Rattle.std.proofs.Common.{◌≡◌, ◌∙◌, ap, sym, slice_get, option_and_then, arith}
use Rattle.std.proofs.lemmas.Grind.{common_steps}
use Rattle.cluster.specs.Kinds.{kind_of_word, kinds, kind_words}
use Rattle.cluster.proofs.kinds.Kind.of_word.Goals as goal

pub returns : goal.returns
unfolding kind_of_word kinds kind_words
returns c =
    let here : c.copied.result ≡ slice_get kinds c.in_ok-place.place = grind (arith, common_steps) in
    here ∙ ap (option_and_then (slice_get kinds)) (sym c.in_ok-place.was ∙ c.place_of_word.ensures)

pub returns-in_err-place : goal.returns-in_err-place
unfolding kind_of_word kinds kind_words
returns-in_err-place c = c.from_residual.ensures ∙ ap (option_and_then (slice_get kinds)) (sym c.in_err-place.was ∙ c.place_of_word.ensures)
