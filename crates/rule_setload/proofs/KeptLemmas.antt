-- What is kept beside the rule stays right.
use Rattle.rule_setload.proofs.Prelude.{◌≡◌, ℕ, Bool, true, false, false≢true, List, length, refl, sym, ap, ◌∙◌, subst, arith, AreAmountsKept, AreStanding, Before, cache_of, choices, domain_at, domain_before, DomainView, Element, Holder, Instance, IsCacheTold, IsGrown, IsToldOf, level_at, level_below, level_top, Lists, machine_count, movers_told, RegionView, Sets, sets, sets_before, Stayers, Tables}
use Rattle.profiles.specs.Prelude.{AreMovers, Levels}

pub kept_standings : (p : Instance) (s : Sets) (on : Bool) (l : Lists) (m : Tables) (xs : Levels ℕ) (ys : List Stayers) (zs : List (List Holder)) → on ≡ true → AreAmountsKept p s on l m xs ys zs (length m.older) → AreStanding p s m.top
kept_standings p s on l m xs ys zs is kept = subst (λ ks. AreStanding p s ks) (level_top m) (kept.standing is)

-- the top of what has as many levels
same-top : (m : Tables) (f : Levels ℕ) → length f.older ≡ length m.older → level_at f (length m.older) ≡ f.top
same-top m f same = ap (level_at f) (sym same) ∙ level_top f

pub kept_movers : (p : Instance) (s : Sets) (on : Bool) (l : Lists) (m : Tables) (xs : Levels ℕ) (ys : List Stayers) (zs : List (List Holder)) → on ≡ true → AreAmountsKept p s on l m xs ys zs (length m.older) → AreMovers p s xs.top
kept_movers p s on l m xs ys zs is kept = subst (λ vs. AreMovers p s vs) (same-top m xs kept.alike) (kept.movers is)

-- after a change of one element
pub amounts_told : (p : Instance) (g : RegionView) (x : Element) (before : Before) (kept : DomainView) (on : Bool) (l : Lists) (m now : Tables) (xs ys : Levels ℕ) (zs : List Stayers) (hs : List (List Holder)) → on ≡ true → now.older ≡ m.older → ys.older ≡ xs.older → AreStanding p (sets g) now.top → AreAmountsKept p (sets_before g x before kept) on l m xs zs hs (length m.older) → IsGrown (machine_count p) xs.top ys.top → IsToldOf (sets g) x ys.top → IsCacheTold p (sets g) (cache_of on l m xs zs hs) (cache_of on l now ys zs hs)
amounts_told p g x before kept on l m now xs ys zs hs is same alike are was grown told = record {
  below = record {
    kept = λ j q r low k. record {
      index = k.index;
      standing = λ e. subst (λ ks. AreStanding q r ks) (sym (level_below m now j same low)) (k.standing e);
      movers = λ e. subst (λ vs. AreMovers q r vs) (sym (level_below xs ys j alike (omega (arith, low, was.alike)))) (k.movers e);
      alike = lists;
      stayers = k.stayers;
      holders = k.holders;
    };
  };
  top = record {
    index = was.index;
    standing = λ e. subst (λ ks. AreStanding p (sets g) ks) (sym (level_top now)) are;
    movers = λ e. subst (λ vs. AreMovers p (sets g) vs) (sym (same-top now ys lists)) (movers_told p (sets g) x (choices (domain_before before kept (domain_at g x))) xs.top ys.top (machine_count p) refl (kept_movers p (sets_before g x before kept) on l m xs zs hs is was) grown told);
    alike = lists;
    stayers = was.stayers;
    holders = was.holders;
  };
}
  where
    lists : length ys.older ≡ length now.older
    lists = rw (alike, same) was.alike

-- nothing is told where no constraint bounds what machines hold
pub amounts_untold : (p : Instance) (g : RegionView) (x : Element) (before : Before) (kept : DomainView) (on : Bool) (l : Lists) (m : Tables) (xs : Levels ℕ) (zs : List Stayers) (hs : List (List Holder)) → on ≡ false → AreAmountsKept p (sets_before g x before kept) on l m xs zs hs (length m.older) → IsCacheTold p (sets g) (cache_of on l m xs zs hs) (cache_of on l m xs zs hs)
amounts_untold p g x before kept on l m xs zs hs off was = record {
  below = record { kept = λ j q r low k. k };
  top = record {
    index = was.index;
    standing = λ e. absurd (false≢true (sym off ∙ e));
    movers = λ e. absurd (false≢true (sym off ∙ e));
    alike = was.alike;
    stayers = was.stayers;
    holders = was.holders;
  };
}
