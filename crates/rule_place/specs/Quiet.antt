-- Helping only: the watches of nodes look at nothing past their scopes, and where all are clean no node that is needed is not usable.
use Rattle.std.proofs.Common.{◌≡◌, ℕ, true}
use Rattle.rule_place.specs.Words.{AllClean, Instance, IsLocal, IsQuietKind, Sets, ReasonKind, Empty, Bound, Load, Pair, Place, Group, SetLoad, Power, Usable, Hall, usable_is_local}
use Rattle.rule_place.specs.Covers.{needed_kinds}
use Rattle.rule_place.specs.Nodes.{needed_count, needed_watch}

pub nodes_are_local : (p : Instance) (n : ℕ) → IsLocal (needed_watch p n)
nodes_are_local p n = usable_is_local p n

pub nodes_are_quiet : (p : Instance) (s : Sets) (kind : ReasonKind) → needed_kinds kind ≡ true → AllClean (needed_watch p) p s (needed_count p) → IsQuietKind p s kind
nodes_are_quiet p s Empty on clean = cc
nodes_are_quiet p s Bound on clean = cc
nodes_are_quiet p s Load on clean = cc
nodes_are_quiet p s Pair on clean = cc
nodes_are_quiet p s Place on clean = cc
nodes_are_quiet p s Group on clean = cc
nodes_are_quiet p s SetLoad on clean = cc
nodes_are_quiet p s Power on clean = cc
nodes_are_quiet p s Usable on clean = record { quiet = λ e c x end t l v n i j h. (clean.clean n j t l).ends e c x end (v, i, h) }
nodes_are_quiet p s Hall on clean = cc
