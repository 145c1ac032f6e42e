use Rattle.base.proofs.Public.{◌≡◌, ◌++◌, drop}
use Rattle.picture.specs.Prelude.{shades_text}
use Rattle.picture.specs.declared.shade.Shade.TheVariants.{Faint}
use Rattle.picture.proofs.heat_printing.put_shades.Given as goal

abbrev pub invariant-loop-heat : goal.invariant-loop-heat
invariant-loop-heat l = l.paper.text.items ++ shades_text l.span l.row l.shade l.x (drop l.heat-index l.row.heats.items) ≡ l.initial.paper.text.items ++ shades_text l.span l.row Faint 118 l.row.heats.items
