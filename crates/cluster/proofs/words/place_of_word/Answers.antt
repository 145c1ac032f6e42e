use Rattle.base.proofs.Public.{ℕ, List, Bor, bytes_eq, ◌∙◌, sym}
use Rattle.cluster.proofs.NameTable.{position-map}
use Rattle.cluster.proofs.words.place_of_word.Goals as goal

pub returns : goal.returns
returns c = c.first_place.ensures ∙ sym (position-map (λ (w : Bor (List ℕ)). w.now) (bytes_eq c.args.word.now) c.args.words.now)
