-- Propagators that follow a trail still follow it after each call.
use Rattle.cert_model.proofs.Prelude.{◌≡◌, ◌∷◌, List, [], length, refl, AreFollowing, BackSame, Before, Change, Covered, domain_at, domain_before, DomainView, Element, Instance, IsAsked, IsRegionOf, keeping, Marked, MarkedSame, Meaning, on_side, Pairs, PostedSame, RegionView, SameCover, sets, ToldSame, TopsAgree}
use Rattle.domains.specs.SetsBefore.{sets_before}
use Rattle.prop_core.proofs.Public.{all_asked, all_back, all_marked, all_posted, all_told, covered_after, covers_asked, covers_same, Pairs-weaker, region_stays, tops_before, trail_back, trail_changed, trail_marked, trail_started}

module _ {B : Type 0} (m : B → Meaning) (p : Instance) where
  kinds_stay : (R : Meaning → Meaning → Type 0) (xs ys : List B) → ((a b : Meaning) → R a b → SameCover a b) → Pairs m R xs ys → Covered m xs → Covered m ys
  kinds_stay R xs ys stay r covered = covered_after m xs ys (Pairs-weaker m R SameCover xs ys stay r) covered

  pub following_posted : (g : RegionView) (xs ys : List B) → IsRegionOf p g → Covered m xs → Pairs m (PostedSame p (sets g)) xs ys → AreFollowing m p (record { region = g; marks = [] }) ys
  following_posted g xs ys region covered r =
      let t : Marked = record { region = g; marks = [] } in
      record {
        covered = kinds_stay (PostedSame p (sets g)) xs ys (λ a b s. covers_same a b s.same) r covered;
        trail = trail_started p t region refl;
        follow = all_posted m p t xs ys r refl;
      }

  pub following_marked : (t u : Marked) (xs ys : List B) → u ≡ record { region = t.region; marks = t.region ∷ t.marks } → AreFollowing m p t xs → Pairs m MarkedSame xs ys → AreFollowing m p u ys
  following_marked t u xs ys same f r = record {
    covered = kinds_stay MarkedSame xs ys (λ a b s. covers_same a b s.same) r f.covered;
    trail = trail_marked p t u f.trail same;
    follow = all_marked m p t u xs ys f.follow r same;
  }

  pub following_back : (t u : Marked) (xs ys : List B) → t.marks ≡ u.region ∷ u.marks → AreFollowing m p t xs → Pairs m BackSame xs ys → AreFollowing m p u ys
  following_back t u xs ys same f r = record {
    covered = kinds_stay BackSame xs ys (λ a b s. covers_same a b s.same) r f.covered;
    trail = trail_back p t u f.trail same;
    follow = all_back m p t u xs ys f.follow r same;
  }

  pub following_asked : (t : Marked) (xs ys : List B) → AreFollowing m p t xs → Pairs m (IsAsked p (sets t.region)) xs ys → AreFollowing m p t ys
  following_asked t xs ys f r = record {
    covered = kinds_stay (IsAsked p (sets t.region)) xs ys (λ a b s. covers_asked p (sets t.region) a b s) r f.covered;
    trail = f.trail;
    follow = all_asked m p t xs ys f.follow r;
  }

  -- ---- one change

  module _ (t u : Marked) (change : Change) (machines : length u.region.machines ≡ length t.region.machines) (nodes : length u.region.nodes ≡ length t.region.nodes)
      (narrower : (e : Element) → sets u.region e ≡ keeping change.element (on_side change.side change.part) (sets t.region) e) (xs : List B) (f : AreFollowing m p t xs) where
    pub following_told : (ys : List B) → u.marks ≡ t.marks → Pairs m (ToldSame p (sets u.region)) xs ys → AreFollowing m p u ys
    following_told ys same r = record {
      covered = kinds_stay (ToldSame p (sets u.region)) xs ys (λ a b s. covers_same a b s.same) r f.covered;
      trail = trail_changed p t u change.element (on_side change.side change.part) f.trail machines nodes narrower same;
      follow = all_told m p t u xs ys f.follow r same;
    }

    pub region_told : IsRegionOf p u.region
    region_told = region_stays p t.region u.region change.element (on_side change.side change.part) f.trail.region machines nodes narrower

    pub agreed_told : (before : Before) (kept : DomainView) → domain_before before kept (domain_at u.region change.element) ≡ domain_at t.region change.element → TopsAgree m p (sets_before u.region change.element before kept) xs
    agreed_told before kept was = tops_before m p t u.region change.element (on_side change.side change.part) before kept xs f.follow narrower was
