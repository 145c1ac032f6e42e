use Rattle.base.proofs.Public.{◌≡◌, ◌++◌, flat_map, take}
use Rattle.picture.specs.Prelude.{bar_text}
use Rattle.picture.proofs.printing.put_bars.Given as goal

abbrev pub invariant-loop-bar : goal.invariant-loop-bar
invariant-loop-bar l = l.paper.text.items ≡ l.initial.paper.text.items ++ flat_map bar_text (take l.bar-index l.bars)
