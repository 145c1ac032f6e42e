-- The instants at which something happens.
use Rattle.std.specs.Prelude.{ℕ, ◌+◌, Bool, false, ◌||◌, ◌==◌, List}
use Rattle.std.specs.List.{filter, list_any, range_with_len}
use Rattle.judge.specs.Prelude.{Choices, element_at, element_count, end_of, Instance, inventory_of}
use Rattle.cluster.specs.declared.{choices.Choice.Choice, choices.Choice.TheVariants.Idle, choices.Choice.TheVariants.Act, ids.Element.Element}

-- whether an element's action, if its choice is one, starts or ends at an instant
unfoldable pub turns : Instance → Element → Choice → ℕ → Bool
turns p e Idle t = false
turns p e (Act place start) t = (t == start) || (t == end_of p e (Act place start))

-- whether the action of one of the first k elements starts or ends at an instant
abbrev pub turns_below : Instance → Choices → ℕ → ℕ → Bool
turns_below p plan k t = list_any (λ x. let e = element_at (inventory_of p) x in turns p e (plan e) t) (range_with_len 0 k)

-- whether an instant is 0, the horizon, or the start or the end of an action
unfoldable pub is_event : Instance → Choices → ℕ → Bool
is_event p plan t = (t == 0) || (t == p.horizon) || turns_below p plan (element_count (inventory_of p)) t

-- the event instants, ascending
unfoldable pub events : Instance → Choices → List ℕ
events p plan = filter (is_event p plan) (range_with_len 0 (p.horizon + 1))
