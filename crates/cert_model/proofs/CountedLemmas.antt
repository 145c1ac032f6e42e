-- The numbers of machines are those of a trail still after each call.
use Rattle.cert_model.proofs.Prelude.{◌≡◌, ◌≢◌, ◌∷◌, ◌++◌, ◌<◌, List, [], length, arith, refl, length-reverse, reverse, reverse-append, before_law, fewer_law, AreCounted, AreCountedAt, AreFewer, AreKnown, AreStanding, Before, Change, choices, Choice, domain_at, domain_before, DomainView, Element, IfSome, Instance, IsRegionOf, IsTally, keeping, Marked, on_side, RegionView, Sets, sets, Standing, Tables, Tally, Bool, Option, None, Some, tally_stays}
use Rattle.domains.specs.SetsBefore.{sets_before}
use Rattle.prop_core.proofs.Public.{trail_back, trail_changed, trail_marked, trail_started}

some-level : (p : Instance) (gs : List RegionView) (levels : List (List Standing)) → AreCountedAt p gs levels → 0 < length gs → 0 < length levels
some-level p [] levels c l = absurd (omega arith)
some-level p (g ∷ gs) [] c l = absurd c
some-level p (g ∷ gs) (ks ∷ levels) c l = omega arith

module _ (p : Instance) where
  pub counted_posted : (g : RegionView) (table : Tables) → IsRegionOf p g → table.older ≡ [] → AreStanding p (sets g) table.top → AreCounted p (record { region = g; marks = [] }) table
  counted_posted g table region none top =
      let t : Marked = record { region = g; marks = [] } in
      record { trail = trail_started p t region refl; top = top; older = rw none tt }

  pub counted_marked : (t u : Marked) (table now : Tables) → u ≡ record { region = t.region; marks = t.region ∷ t.marks } → now ≡ record { older = table.older ++ table.top ∷ []; top = table.top } → AreCounted p t table → AreCounted p u now
  counted_marked t u table now same is c =
      let levels : reverse (table.older ++ table.top ∷ []) ≡ table.top ∷ reverse table.older = reverse-append table.older (table.top ∷ []) in
      record { trail = trail_marked p t u c.trail same; top = rw (same, is) c.top; older = rw (same, is, levels) (c.top, c.older) }

  pub counted_back : (t u : Marked) (table now : Tables) → t.marks ≡ u.region ∷ u.marks → table.older ≡ now.older ++ now.top ∷ [] → AreCounted p t table → AreCounted p u now
  counted_back t u table now marks is c =
      let levels : reverse (now.older ++ now.top ∷ []) ≡ now.top ∷ reverse now.older = reverse-append now.older (now.top ∷ []) in
      let both : AreStanding p (sets u.region) now.top × AreCountedAt p u.marks (reverse now.older) = rw (marks, is, levels) at c.older in
      record { trail = trail_back p t u c.trail marks; top = both.0; older = both.1 }

  pub counted_level : (t : Marked) (table : Tables) → AreCounted p t table → 0 < length t.marks → 0 < length table.older
  counted_level t table c l =
      let some : 0 < length (reverse table.older) = some-level p t.marks (reverse table.older) c.older l in
      let same : length (reverse table.older) ≡ length table.older = length-reverse table.older in
      omega (arith, some, same)

  pub counted_known : (t : Marked) (table : Tables) → AreCounted p t table → AreKnown p (sets t.region) table.top
  counted_known t table c = record { each = λ v l there. c.top.each v there }

  pub none_known : (t : Marked) → AreKnown p (sets t.region) []
  none_known t = record { each = λ v l there. absurd (omega arith) }

  -- ---- one change

  module _ (t u : Marked) (change : Change) (table : Tables) (narrower : (e : Element) → sets u.region e ≡ keeping change.element (on_side change.side change.part) (sets t.region) e) (c : AreCounted p t table) where
    pub counted_told : (now : Tables) → length u.region.machines ≡ length t.region.machines → length u.region.nodes ≡ length t.region.nodes → u.marks ≡ t.marks → now.older ≡ table.older → AreStanding p (sets u.region) now.top → AreCounted p u now
    counted_told now machines nodes marks older top = record {
      trail = trail_changed p t u change.element (on_side change.side change.part) c.trail machines nodes narrower marks;
      top = top;
      older = rw (marks, older) c.older;
    }

    pub right_told : (before : Before) (kept : DomainView) → domain_before before kept (domain_at u.region change.element) ≡ domain_at t.region change.element → AreStanding p (sets_before u.region change.element before kept) table.top
    right_told before kept was =
        let same : sets_before u.region change.element before kept ≡ sets t.region = before_law t.region u.region change.element (on_side change.side change.part) before kept was narrower in
        rw same c.top

    pub fewer_told : (before : Before) (kept : DomainView) → domain_before before kept (domain_at u.region change.element) ≡ domain_at t.region change.element → AreFewer (sets u.region change.element) (choices (domain_before before kept (domain_at u.region change.element)))
    fewer_told before kept was = fewer_law t.region u.region change.element (on_side change.side change.part) before kept was narrower

-- what is told to be held together is so once an element is narrowed that has a choice left
pub told_stays : (p : Instance) (s narrow : Sets) (x : Element) (keep : Choice → Bool) → ((e : Element) → narrow e ≡ keeping x keep s e) → narrow x ≢ [] → (o : Option Tally) → IfSome o (IsTally p s) → IfSome o (IsTally p narrow)
told_stays p s narrow x keep same some None told = told
told_stays p s narrow x keep same some (Some y) told = tally_stays p s narrow x keep same some y told
