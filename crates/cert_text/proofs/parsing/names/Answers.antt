use Rattle.cert_text.proofs.NamesLemmas.{good_more, name_more}
use Rattle.cert_text.proofs.parsing.names.Goals as goal

pub words-preserved : goal.words-preserved
words-preserved c = record {
  words = rw c.in_ok-push.ensures.items (name_more c.words.names.items c.words.words c.name.new.self c.args.words.now c.in_ok-name.field-0 c.words.invariant.words c.in_ok-name.ensures);
  good = rw c.in_ok-push.ensures.items (good_more c.words.names.items c.words.words c.name.new.self c.in_ok-name.field-0 c.words.invariant.good c.in_ok-name.ensures);
}
