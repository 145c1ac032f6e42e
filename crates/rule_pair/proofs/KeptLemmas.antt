-- Where machines stand, kept beside the rule, at the top and at each level below.
use Rattle.rule_pair.proofs.Prelude.{◌≡◌, ◌≢◌, ℕ, ◌<◌, Bool, true, false, List, [], length, filter, refl, sym, ap, subst, ◌∙◌, arith, slice_index_or, eq-eqb, ne_eqb, false≢true, nat_lt, nat_tests, level_below, level_top, present_law, same_is, Contains, choices, Choice, DomainView, Instance, IsStanding, Standing, sets}
use Rattle.rule_pair.specs.Prelude.{sure, AreFewer, AreGone, AreKept, AreRight, AreStanding, cache_of, domain_at, domain_before, Element, IsIndexOf, in_part, keeping, kept_use, level_at, Lists, same_element, never, no_standing, one, Presence, Sets, StandsIn, Tables, Vm, vm, VmId}
use Rattle.cluster.specs.declared.ids.Element.TheVariants.{Node as TheNode}
use Rattle.cluster.specs.declared.ids.NodeId.{NodeId}
use Rattle.domains.specs.declared.parts.Part.{Part}
use Rattle.domains.specs.Prelude.{RegionView}
use Rattle.rule_frame.specs.Caches.{IsCachePosted, IsCacheTold}
use Rattle.std.specs.Prelude.{cond}
use Rattle.domains.specs.SetsBefore.{sets_before}
use Rattle.domains.specs.declared.undo.Before.{Before}
use Rattle.standings.specs.Levels.{Levels}
use Rattle.machine_bounds.proofs.Public.{gone_fewer}
use Rattle.machine_bounds.specs.Gone.{GoneView}

-- ---- numbers that are right

pub none_right : (p : Instance) (s : Sets) → AreRight p s []
none_right p s = record { each = λ v low. absurd (omega (arith, low)) }

pub all_right : (p : Instance) (s : Sets) (ks : List Standing) → AreStanding p s ks → AreRight p s ks
all_right p s ks are = record { each = λ v low. are.each v (omega (arith, low, are.count)) }

pub kept_right : (p : Instance) (s : Sets) (lists : Lists) (m : Tables) (f : GoneView) (wanted : Bool) → AreKept p s lists m f wanted (length m.older) → wanted ≡ true → AreRight p s m.top
kept_right p s lists m f wanted kept on = all_right p s m.top (subst (λ ks. AreStanding p s ks) (level_top m) (kept.standing on))

-- the top of what has as many levels
same-top : (m : Tables) (ws : Levels ℕ) → length ws.older ≡ length m.older → level_at ws (length m.older) ≡ ws.top
same-top m ws same = ap (level_at ws) (sym same) ∙ level_top ws

pub kept_gone : (p : Instance) (s : Sets) (lists : Lists) (m : Tables) (f : GoneView) (wanted : Bool) → AreKept p s lists m f wanted (length m.older) → AreGone s f.bounds f.words.top
kept_gone p s lists m f wanted kept = subst (λ gs. AreGone s f.bounds gs) (same-top m f.words kept.same) kept.gone

-- ---- levels

pub kept_posted : (p : Instance) (s : Sets) (lists : Lists) (m : Tables) (f : GoneView) (wanted : Bool) → m.older ≡ [] → f.words.older ≡ [] → IsIndexOf p (length p.constraints) lists → (wanted ≡ true → AreStanding p s m.top) → AreGone s f.bounds f.words.top → IsCachePosted p s (cache_of lists m f wanted)
kept_posted p s lists m f wanted none fresh index standing gone = record {
  level = ap length none;
  top = record {
    index = index;
    standing = λ on. subst (λ ks. AreStanding p s ks) (sym (level_top m)) (standing on);
    gone = subst (λ gs. AreGone s f.bounds gs) (sym (same-top m f.words same)) gone;
    same = same;
  };
}
  where
    same : length f.words.older ≡ length m.older
    same = ap length fresh ∙ sym (ap length none)

-- what a machine may do after a change that has taken choices from an element it might do before
was-there : (p : Instance) (g : RegionView) (x : Element) (before : Before) (kept : DomainView) → AreFewer (sets g x) (choices (domain_before before kept (domain_at g x))) → (v : ℕ) (c : Choice) → Contains (sets g (vm v)) c → Contains (sets_before g x before kept (vm v)) c
was-there p g x before kept fewer v c h = at (same_element (vm v) x) refl
  where
    at : (b : Bool) → same_element (vm v) x ≡ b → Contains (cond b (choices (domain_before before kept (domain_at g x))) (sets g (vm v))) c
    at true same = fewer c (subst (λ e. Contains (sets g e) c) (same_is (vm v) x same) h)
    at false other = h

-- so it does not start at the nodes at which it did not before
pub gone_still : (p : Instance) (g : RegionView) (x : Element) (before : Before) (kept : DomainView) (lists : Lists) (m : Tables) (f : GoneView) (wanted : Bool) → AreFewer (sets g x) (choices (domain_before before kept (domain_at g x))) → AreKept p (sets_before g x before kept) lists m f wanted (length m.older) → AreGone (sets g) f.bounds f.words.top
gone_still p g x before kept lists m f wanted fewer was = gone_fewer (sets g) (sets_before g x before kept) f.bounds f.words.top (kept_gone p (sets_before g x before kept) lists m f wanted was) (λ v c h. was-there p g x before kept fewer v c h)

pub kept_told : (p : Instance) (s old : Sets) (lists : Lists) (m now : Tables) (f h : GoneView) (wanted : Bool) → now.older ≡ m.older → h.bounds ≡ f.bounds → h.words.older ≡ f.words.older → AreKept p old lists m f wanted (length m.older) → AreStanding p s now.top → AreGone s h.bounds h.words.top → IsCacheTold p s (cache_of lists m f wanted) (cache_of lists now h wanted)
kept_told p s old lists m now f h wanted same equal like was are gone = record {
  below = record {
    kept = λ j q r low k. record {
      index = k.index;
      standing = λ on. subst (λ ks. AreStanding q r ks) (sym (level_below m now j same low)) (k.standing on);
      gone = subst (λ bs. AreGone r bs (level_at h.words j)) (sym equal) (subst (λ gs. AreGone r f.bounds gs) (sym (level_below f.words h.words j like (omega (arith, low, was.same)))) k.gone);
      same = level;
    };
  };
  top = record {
    index = was.index;
    standing = λ on. subst (λ ks. AreStanding p s ks) (sym (level_top now)) are;
    gone = subst (λ gs. AreGone s h.bounds gs) (sym (same-top now h.words level)) gone;
    same = level;
  };
}
  where
    level : length h.words.older ≡ length now.older
    level = rw (like, same) was.same

-- nothing is kept that a change could make wrong
pub unwanted_told : (p : Instance) (s old : Sets) (lists : Lists) (m : Tables) (f : GoneView) (wanted : Bool) → wanted ≡ false → AreKept p old lists m f wanted (length m.older) → AreGone s f.bounds f.words.top → IsCacheTold p s (cache_of lists m f wanted) (cache_of lists m f wanted)
unwanted_told p s old lists m f wanted off was gone = record {
  below = record { kept = λ j q r low k. k };
  top = record { index = was.index; standing = λ on. absurd (false≢true (sym off ∙ on)); gone = subst (λ gs. AreGone s f.bounds gs) (sym (same-top m f.words was.same)) gone; same = was.same };
}

-- ---- numbers of what is seen

pub stands_inside : (p : Instance) (g : RegionView) (v : ℕ) (part : Part) (k : Standing) (d inside : DomainView) → d ≡ domain_at g (vm v) → choices inside ≡ filter (in_part part) (choices d) → choices inside ≢ [] → IsStanding p v (choices inside) k → StandsIn p (keeping (vm v) (in_part part) (sets g)) v k
stands_inside p g v part k d inside at is some standing =
    let same : keeping (vm v) (in_part part) (sets g) (vm v) ≡ choices inside = rw (eq-eqb v v refl) (ap (λ x. filter (in_part part) (choices x)) (sym at) ∙ sym is) in
    record { some = λ none. some (sym same ∙ none); standing = subst (λ cs. IsStanding p v cs k) (sym same) standing }

pub stands_kept : (p : Instance) (g : RegionView) (v : ℕ) (ks : List Standing) (d : DomainView) → d ≡ domain_at g (vm v) → choices d ≢ [] → v < length ks → AreRight p (sets g) ks → StandsIn p (sets g) v (slice_index_or ks v no_standing)
stands_kept p g v ks d at some low right = record { some = λ none. some (ap choices at ∙ none); standing = right.each v low }

pub stands_itself : (p : Instance) (s : Sets) (x : VmId) (v : ℕ) (test : Choice → Bool) (k : Standing) → x.0 ≡ v → StandsIn p (keeping (vm v) test s) v k → StandsIn p (keeping (Vm x) test s) v k
stands_itself p s x v test k same here = subst (λ i. StandsIn p (keeping (vm i) test s) v k) (sym same) here

beside : (p : Instance) (s r : Sets) (v : ℕ) (k : Standing) → r (vm v) ≡ s (vm v) → StandsIn p s v k → StandsIn p r v k
beside p s r v k same here = record { some = λ none. here.some (sym same ∙ none); standing = subst (λ cs. IsStanding p v cs k) (sym same) here.standing }

pub stands_beside : (p : Instance) (s : Sets) (x : VmId) (v : ℕ) (test : Choice → Bool) (k : Standing) → x.0 ≢ v → StandsIn p s v k → StandsIn p (keeping (Vm x) test s) v k
stands_beside p s x v test k ne here = beside p s (keeping (Vm x) test s) v k (rw (ne_eqb v x.0 (λ e. ne (sym e))) refl) here

pub stands_apart : (p : Instance) (s : Sets) (n : NodeId) (v : ℕ) (test : Choice → Bool) (k : Standing) → StandsIn p s v k → StandsIn p (keeping (TheNode n) test s) v k
stands_apart p s n v test k here = beside p s (keeping (TheNode n) test s) v k refl here

-- who surely has something at a node by its numbers is there
pub present_kept : (p : Instance) (s : Sets) (v n t : ℕ) (k : Standing) → t < never → StandsIn p s v k → 0 < kept_use p v Presence n t k → (sure p s t).present v (one n) ≡ true
unfolding sure
present_kept p s v n t k short here has = present_law p v n t (s (vm v)) k short here.some here.standing ∙ positive (kept_use p v Presence n t k) has
  where
    positive : (x : ℕ) → 0 < x → nat_lt 0 x ≡ true
    positive x l = grind (arith, nat_tests, l)
