-- One row more comes before the next place.
use Rattle.std.proofs.Common.{ℕ, ◌+◌, ◌<◌, List, [], ◌∷◌, ◌++◌, arith}
use Rattle.std.specs.List.{All}
use Rattle.std.proofs.lemmas.List.Elements.{All-push, All-weaker}
use Rattle.domains.specs.declared.parts.Row.{Row}
use Rattle.domains.specs.Choices.{place_index}

pub All-next : (rows : List Row) (r : Row) (n m : ℕ) → All (λ q. place_index q.place < n) rows → place_index r.place < m → n < m → All (λ q. place_index q.place < m) (rows ++ r ∷ [])
All-next rows r n m all here less =
    All-push (λ q. place_index q.place < m) rows r
    (All-weaker (λ q. place_index q.place < n) (λ q. place_index q.place < m) (λ q l. omega arith) rows all) here
