use Rattle.base.proofs.Public.{◌≡◌, ◌++◌, take}
use Rattle.svg.specs.Elements.{escaped}
use Rattle.svg.proofs.paper.Paper.put_escaped.Given as goal

abbrev pub invariant-loop-byte : goal.invariant-loop-byte
invariant-loop-byte l = l.self.text.items ≡ l.initial.self.text.items ++ escaped (take l.byte-index l.bytes)
