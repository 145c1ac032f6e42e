-- Places on the axis are small.
use Rattle.base.proofs.Public.{ℕ, ◌*◌, ◌/◌, ◌≤◌, div-le_self}

pub away_small : (t s : ℕ) → t * 790 / s ≤ t * 790
away_small t s = div-le_self (t * 790) s
