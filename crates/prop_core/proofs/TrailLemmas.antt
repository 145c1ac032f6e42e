-- What a trail's regions stay, call after call, and that a cut takes a choice away.
use Rattle.prop_core.proofs.Prelude.{All, ◌≡◌, ◌<◌, Bool, not, List, [], ◌∷◌, length, sym, ap, subst, arith, All-cons, All-head, All-tail, Choice, choice_count, CutHolds, Element, Instance, IsElement, IsOneOf, IsRegionOf, IsTrailOf, keeping, machine_count, Marked, Node, node_count, out_of_part, Part, Reason, RegionView, Sets, sets, Vm, count_falls_below}
use Rattle.prop_core.proofs.ChangeLemmas.{region_stays}

pub trail_started : (p : Instance) (t : Marked) → IsRegionOf p t.region → t.marks ≡ [] → IsTrailOf p t
trail_started p t r e = record { region = r; marks = subst (λ (gs : List RegionView). All (IsRegionOf p) gs) (sym e) (λ k d h. absurd (omega arith)) }

pub trail_changed : (p : Instance) (t u : Marked) (x : Element) (test : Choice → Bool) → IsTrailOf p t → length u.region.machines ≡ length t.region.machines → length u.region.nodes ≡ length t.region.nodes → ((e : Element) → sets u.region e ≡ keeping x test (sets t.region) e) → u.marks ≡ t.marks → IsTrailOf p u
trail_changed p t u x test r a b s e =
    record { region = region_stays p t.region u.region x test r.region a b s; marks = subst (λ (gs : List RegionView). All (IsRegionOf p) gs) (sym e) r.marks }

pub trail_marked : (p : Instance) (t u : Marked) → IsTrailOf p t → u ≡ record { region = t.region; marks = t.region ∷ t.marks } → IsTrailOf p u
trail_marked p t u r e =
    subst (λ (v : Marked). IsTrailOf p v) (sym e) (record { region = r.region; marks = All-cons (IsRegionOf p) t.region t.marks r.region r.marks })

pub trail_back : (p : Instance) (t u : Marked) → IsTrailOf p t → t.marks ≡ u.region ∷ u.marks → IsTrailOf p u
trail_back p t u r e =
    let both : All (IsRegionOf p) (u.region ∷ u.marks) = subst (λ (gs : List RegionView). All (IsRegionOf p) gs) e r.marks in
    record { region = All-head (IsRegionOf p) u.region u.marks both; marks = All-tail (IsRegionOf p) u.region u.marks both }

one_of : (p : Instance) (e : Element) → IsElement p e → IsOneOf (machine_count p) (node_count p) e
one_of p (Vm v) h = h
one_of p (Node n) h = h

-- a cut takes a choice away
pub cut_falls : (p : Instance) (s : Sets) (x : Element) (part : Part) (r : Reason) → CutHolds p s x part r → choice_count (machine_count p) (node_count p) (keeping x (out_of_part part) s) < choice_count (machine_count p) (node_count p) s
cut_falls p s x part r cut =
    count_falls_below (machine_count p) (node_count p) s x (out_of_part part) cut.held.0 (one_of p x cut.exists) cut.held.1 (ap not cut.held.2)
