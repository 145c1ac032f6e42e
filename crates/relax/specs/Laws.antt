-- Helping only: regions whose choices are all legal.
use Rattle.std.specs.Prelude.{Bool}
use Rattle.reasons.specs.Prelude.{Instance, keeping, Sets}
use Rattle.{cluster.specs.declared.choices.Choice.Choice, cluster.specs.declared.ids.Element.Element, relax.specs.Areas.AreLegal}

-- where an element keeps some of its choices, legal ones stay legal
abbrev pub LegalStays : Type 0
LegalStays = (p : Instance) (s : Sets) (x : Element) (test : Choice → Bool) → AreLegal p s → AreLegal p (keeping x test s)
