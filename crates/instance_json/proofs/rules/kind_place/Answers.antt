use Rattle.catalogue.proofs.Public.{constraint_words-CONSTRAINT_WORDS}
use Rattle.instance_json.proofs.rules.kind_place.Goals as goal

pub returns-clause-gives : goal.returns-clause-gives
returns-clause-gives c = rw constraint_words-CONSTRAINT_WORDS c.word_field.ensures.gives
