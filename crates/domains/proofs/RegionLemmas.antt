-- A domain of a region, changed and set back.
use Rattle.base.proofs.Public.{◌≡◌, ℕ, List, get_or, set, ap, ◌∙◌, set-set, set-get_or}
use Rattle.domains.specs.Prelude.{domain_at, DomainView, Element, Lost, Node, RegionView, restored, staying, Vm, with_domain}

set_back : (ds : List DomainView) (i : ℕ) (d : DomainView) → set (set ds i d) i (get_or ds i staying) ≡ ds
set_back ds i d = set-set ds i d (get_or ds i staying) ∙ set-get_or ds i staying

-- an element's old domain, set again
pub with-back : (g : RegionView) (e : Element) (d : DomainView) → with_domain (with_domain g e d) e (domain_at g e) ≡ g
with-back g (Vm v) d = ap (λ (ds : List DomainView). let h : RegionView = record { machines = ds; nodes = g.nodes } in h) (set_back g.machines v.0 d)
with-back g (Node n) d = ap (λ (ds : List DomainView). let h : RegionView = record { machines = g.machines; nodes = ds } in h) (set_back g.nodes n.0 d)

-- what a domain has lost, put back
pub cut_back : (old new : List DomainView) (i : ℕ) (lost : Lost) → new ≡ set old i (get_or new i staying) → restored lost (get_or new i staying) ≡ get_or old i staying → set new i (restored lost (get_or new i staying)) ≡ old
cut_back old new i lost others undone =
    ap (λ d. set new i d) undone ∙ ap (λ ds. set ds i (get_or old i staying)) others ∙ set_back old i (get_or new i staying)
