-- Whose starts are change instants.
use Rattle.std.specs.Prelude.{◌≡◌, nat_lt, true}
use Rattle.std.specs.List.{list_all}
use Rattle.relax.specs.Prelude.{Instance, machine_count, Sets}
use Rattle.closing.specs.{declared.shared.change_instants.ChangeInstants.ChangeInstants, declared.shared.change_instants.ChangeInstants.TheVariants.OfAll, declared.shared.change_instants.ChangeInstants.TheVariants.Of, Watches.Scope, Watches.SeesOnly, Watches.only_of}

-- the machines are of the instance
abbrev pub AreListed : Instance → ChangeInstants → Type 0
AreListed p OfAll = Unit {0}
AreListed p (Of vs) = list_all (λ x. nat_lt x.0 (machine_count p)) vs.now ≡ true

-- nothing is looked at but of these machines
abbrev pub Suffice : ChangeInstants → Scope → Type 0
Suffice OfAll k = Unit {0}
Suffice (Of vs) k = SeesOnly vs.now k

-- these elements have their choices, and each other one can only stay
abbrev pub changing : ChangeInstants → Sets → Sets
changing OfAll s = s
changing (Of vs) s = only_of vs.now s
