use Rattle.base.proofs.Public.{◌≡◌, ◌++◌, flat_map, take}
use Rattle.picture.specs.Prelude.{band_text}
use Rattle.picture.proofs.printing.put_bands.Given as goal

abbrev pub invariant-loop-band : goal.invariant-loop-band
invariant-loop-band l = l.paper.text.items ≡ l.initial.paper.text.items ++ flat_map (band_text l.span) (take l.band-index l.bands)
