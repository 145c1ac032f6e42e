-- What a log tells.
use Rattle.std.proofs.Common.{reverse}
use Rattle.base.proofs.Public.{◌≡◌, ◌≤◌, ℕ, List, [], ◌∷◌, ◌++◌, length, arith, length-reverse, reverse-append}
use Rattle.domains.specs.Prelude.{domain_at, RegionView, restored, with_domain}
use Rattle.trail.specs.declared.log.Entry.{Entry}
use Rattle.trail.specs.declared.log.Entry.TheVariants.{Mark, Whole, Lost}
use Rattle.trail.specs.Logs.{marked, IsLog}

-- there are no more marks than entries
marks-few : (g : RegionView) (es : List Entry) → length (marked g es) ≤ length es
marks-few g [] = omega arith
marks-few g (Mark ∷ es) = omega (arith, marks-few g es)
marks-few g (Whole x old ∷ es) = omega (arith, marks-few (with_domain g x old.value) es)
marks-few g (Lost x lost ∷ es) = omega (arith, marks-few (with_domain g x (restored lost (domain_at g x))) es)

pub few_marks : (g : RegionView) (log : List Entry) (marks : ℕ) → IsLog g log marks → marks ≤ length log
few_marks g log marks l = omega (arith, l.count, marks-few g (reverse log), length-reverse log)

pub reverse_push : (es : List Entry) (e : Entry) → reverse (es ++ e ∷ []) ≡ e ∷ reverse es
reverse_push es e = reverse-append es (e ∷ [])
