-- The parts of a problem that groups split are as many as the groups, and each is that of its group.
use Rattle.base.proofs.Public.{◌≡◌, ◌∙◌, ℕ, ◌<◌, List, length, slice_index_or, ap, sym, arith, get_or-map, get_or-map-range_with_len, length-map, length-map-range_with_len}
use Rattle.cluster.specs.declared.sets.NodeSet.{NodeSet}
use Rattle.catalogue.specs.Prelude.{Instance, SoundInstance}
use Rattle.parts.specs.Parts.{part_of}
use Rattle.partition.specs.SplitProblems.{IsSplitBy, SplitView}

pub part_count : (p : Instance) (groups : List NodeSet) (s : SplitView) → IsSplitBy p groups s → length s.parts ≡ length groups
part_count p groups s is =
    sym (length-map s.parts (λ q. q.given)) ∙ ap length is.parts ∙ length-map-range_with_len (part_of p groups) 0 (length groups)

pub part_is : (p : Instance) (groups : List NodeSet) (s : SplitView) → IsSplitBy p groups s → (i : ℕ) → i < length groups → (q : SoundInstance) → q ≡ slice_index_or s.parts i q → q.given ≡ part_of p groups i
part_is p groups s is i li q at =
    ap (λ (r : SoundInstance). r.given) at
    ∙ sym (get_or-map (λ (r : SoundInstance). r.given) s.parts i q (part_of p groups i) (omega (arith, li, part_count p groups s is)))
    ∙ ap (λ (given : List Instance). slice_index_or given i (part_of p groups i)) is.parts
    ∙ get_or-map-range_with_len (part_of p groups) 0 (length groups) i i (part_of p groups i) li (omega arith)
