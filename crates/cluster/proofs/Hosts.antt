-- What holds of hosts.
use Rattle.std.proofs.Common.{◌≡◌, ℕ, zero, suc, ◌<◌, true, List, [], ◌∷◌, ◌++◌, length, arith, sym, true≢false}
use Rattle.cluster.specs.Prelude.{Gone, host_is_online, Init, is_online, Ready, Running, Sleeping, State}
use Rattle.cluster.specs.declared.nodes.Node.{Node}

-- an online node is one of the list
pub is_online-lt : (nodes : List Node) (h : ℕ) → is_online nodes h ≡ true → h < length nodes
is_online-lt [] h e = absurd (true≢false (sym e))
is_online-lt (x ∷ xs) zero e = omega arith
is_online-lt (x ∷ xs) (suc h) e = let rest = is_online-lt xs h e in omega arith

-- and stays online as a node comes
pub is_online-push : (nodes : List Node) (n : Node) (h : ℕ) → is_online nodes h ≡ true → is_online (nodes ++ n ∷ []) h ≡ true
is_online-push [] n h e = absurd (true≢false (sym e))
is_online-push (x ∷ xs) n zero e = e
is_online-push (x ∷ xs) n (suc h) e = is_online-push xs n h e

pub host-push : (nodes : List Node) (n : Node) (s : State) → host_is_online nodes s ≡ true → host_is_online (nodes ++ n ∷ []) s ≡ true
host-push nodes n Init e = e
host-push nodes n Ready e = e
host-push nodes n (Running h) e = is_online-push nodes n h.0 e
host-push nodes n (Sleeping h) e = is_online-push nodes n h.0 e
host-push nodes n Gone e = e
