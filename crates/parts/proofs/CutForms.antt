-- Forms that are cut down.
use Rattle.std.specs.Prelude.{ℕ, Bool, map}
use Rattle.slices.specs.Forms.{Form, Apart, Allowed, Together, Ordered, InTurn, Bounded, Powered, Settled, Groups, AnyNode, AnyOf, Places, Outside, Within, OnHost, Separation, Each, Between, FromOthers}
use Rattle.parts.specs.Cuts.{cut_machine, cut_machines, cut_nodes}

abbrev pub cut_separation : (ℕ → Bool) → Separation → Separation
cut_separation mine (Each vs) = Each (cut_machines mine vs)
cut_separation mine (Between parts) = Between (map (cut_machines mine) parts)
cut_separation mine (FromOthers vs) = FromOthers (cut_machines mine vs)

abbrev pub cut_places : (ℕ → Bool) → ℕ → Places → Places
cut_places ours count (Outside ns) = Outside (cut_nodes ours count ns)
cut_places ours count (Within ns) = Within (cut_nodes ours count ns)
cut_places ours count OnHost = OnHost

abbrev pub cut_choices : (ℕ → Bool) → ℕ → Groups → Groups
cut_choices ours count AnyNode = AnyNode
cut_choices ours count (AnyOf sets) = AnyOf (map (cut_nodes ours count) sets)

-- a form, cut down to the machines that are mine, and to those of so many nodes that are ours
abbrev pub cut_form : (ℕ → Bool) → (ℕ → Bool) → ℕ → Form → Form
cut_form mine ours count (Apart separation) = Apart (cut_separation mine separation)
cut_form mine ours count (Allowed vs places) = Allowed (cut_machines mine vs) (cut_places ours count places)
cut_form mine ours count (Together vs choices) = Together (cut_machines mine vs) (cut_choices ours count choices)
cut_form mine ours count (Ordered before after) = Ordered (cut_machine mine before) (cut_machine mine after)
cut_form mine ours count (InTurn vs) = InTurn (cut_machines mine vs)
cut_form mine ours count (Bounded weight ns amount) = Bounded weight (cut_nodes ours count ns) amount
cut_form mine ours count (Powered ns amount) = Powered (cut_nodes ours count ns) amount
cut_form mine ours count Settled = Settled
