-- From region to region.
use Rattle.base.proofs.Public.{◌≡◌, ℕ, ◌+◌, ◌<◌, Bool, List, [], ◌∷◌, ◌++◌, length, refl, sym, ap, subst, ◌∙◌, arith, reverse-append, reverse}
use Rattle.search.specs.Prelude.{ArePaired, Progress, Element, Ends, Enters, Goes, GoesOn, inside, Instance, IsDue, IsLeaf, IsParted, lines, Marked, Meaning, open_sets, outer_sides, outside, Pairs, Part, RegionView, Rise, SameRule, Sets, sets, Splits, Works}
use Rattle.trees.proofs.Public.{same_sets}
use Rattle.prop_core.proofs.Public.{Rise-trans}
use Rattle.search.proofs.{RegionLemmas.some_inside, RegionLemmas.some_outside, TextLemmas.one_named}
use Rattle.search.proofs.WorkLemmas.{goes_none, rise_less, rise_none, rise_rule, works_goes, works_same, works_then}

-- ---- the stack

reverse_push : (splits : List (Element × Part)) (s : Element × Part) → reverse (splits ++ s ∷ []) ≡ s ∷ reverse splits
reverse_push splits s = reverse-append splits (s ∷ [])

none_waits : (marks : List RegionView) → outer_sides marks [] ≡ []
none_waits [] = refl
none_waits (mark ∷ marks) = refl

some_marks : (p : Instance) (marks : List RegionView) (s : Element × Part) (splits : List (Element × Part)) → ArePaired p marks (s ∷ splits) → 0 < length marks
some_marks p [] s splits h = absurd h
some_marks p (mark ∷ marks) s splits h = omega arith

-- a split that is taken off has a mark
pub marked_still : (p : Instance) (marks kept : List RegionView) (s : Element × Part) (splits left : List (Element × Part)) → ArePaired p marks (reverse splits) → splits ≡ left ++ s ∷ [] → kept ≡ marks → 0 < length kept
marked_still p marks kept s splits left h pop same =
    subst (λ (ms : List RegionView). 0 < length ms) (sym same) (some_marks p marks s (reverse left) (subst (ArePaired p marks) (ap reverse pop ∙ reverse_push left s) h))

-- and what it tells of the region at the mark
pub record IsTakenOff (p : Instance) (marks : List RegionView) (b : Marked) (s : Element × Part) (splits left : List (Element × Part)) : Type 0 where
  pub parted : IsParted p b.region s
  pub paired : ArePaired p b.marks (reverse left)
  pub waits : outer_sides marks (reverse splits) ≡ outside s.0 s.1 (sets b.region) ∷ outer_sides b.marks (reverse left)

pub taken_off : (p : Instance) (marks kept : List RegionView) (b : Marked) (s : Element × Part) (splits left : List (Element × Part)) → ArePaired p marks (reverse splits) → splits ≡ left ++ s ∷ [] → kept ≡ marks → kept ≡ b.region ∷ b.marks → IsTakenOff p marks b s splits left
taken_off p marks kept b s splits left h pop same back =
    let is : marks ≡ b.region ∷ b.marks = sym same ∙ back in
    let backwards : reverse splits ≡ s ∷ reverse left = ap reverse pop ∙ reverse_push left s in
    let pair : ArePaired p (b.region ∷ b.marks) (s ∷ reverse left) = subst (λ ms. ArePaired p ms (s ∷ reverse left)) is (subst (ArePaired p marks) backwards h) in
    record {
      parted = pair.0;
      paired = pair.1;
      waits = ap (outer_sides marks) backwards ∙ ap (λ ms. outer_sides ms (s ∷ reverse left)) is;
    }

module _ {B : Type 0} (m : B → Meaning) (p : Instance) (budget : ℕ) (tells : Bool) where
  -- ---- at one region

  -- refuted
  pub ends_refuted : (k : Progress) (old new : List ℕ) (xs ys : List B) (t u : Marked) → u.marks ≡ t.marks → Works m p budget tells k k old new xs ys (sets t.region) [] → Ends m p budget tells k k old new xs ys t u
  ends_refuted k old new xs ys t u e w = record { marks = e; spent = refl; works = w }

  -- closed, and a leaf
  pub ends_leaf : (k l : Progress) (old mid new : List ℕ) (xs ys : List B) (t u : Marked) → u.marks ≡ t.marks → length ys ≡ length xs → Works m p budget tells k k old mid xs ys (sets t.region) (sets u.region ∷ []) → IsLeaf p budget tells k l mid new (sets u.region) → l.spent ≡ k.spent →
      Ends m p budget tells k l old new xs ys t u
  ends_leaf k l old mid new xs ys t u e c w leaf spent = record {
    marks = e;
    spent = spent;
    works = works_then m p budget tells k k l old mid new xs ys ys (sets t.region) (sets u.region) [] c refl w (record {
      more = leaf.step ∷ [];
      named = one_named p leaf.step leaf.named;
      text = leaf.text;
      given = subst (λ n. Rise m n ys ys) (sym leaf.given) (rise_none m ys);
      runs = λ steps rest h. leaf.runs steps rest h;
    });
  }

  -- closed, and split
  pub enters_split : (k k' l : Progress) (old mid mid' new : List ℕ) (xs ys zs : List B) (t v u : Marked) (s : Element × Part) → v.marks ≡ t.marks → length ys ≡ length xs → length zs ≡ length ys → Works m p budget tells k k old mid xs ys (sets t.region) (sets v.region ∷ []) →
      IsDue budget tells k k' mid mid' v.region → Splits m p tells k' l mid' new ys zs v u s → Enters m p budget tells k l old new xs zs t u s
  enters_split k k' l old mid mid' new xs ys zs t v u s e c d w due q =
      let same : k' ≡ k = due.progress in
      let room : k'.spent < budget = subst (λ (n : Progress). n.spent < budget) (sym same) due.room in
      let go : Works m p budget tells k l mid' new ys zs (sets v.region) (inside s.0 s.1 (sets v.region) ∷ outside s.0 s.1 (sets v.region) ∷ []) = subst (λ (n : Progress). Works m p budget tells n l mid' new ys zs (sets v.region) (inside s.0 s.1 (sets v.region) ∷ outside s.0 s.1 (sets v.region) ∷ [])) same (q.works budget room) in
      record {
        mark = v.region;
        marks = q.marks ∙ ap (λ ms. v.region ∷ ms) e;
        parted = q.parted;
        region = q.region;
        spent = subst (λ (n : Progress). l.spent ≡ n.spent + 1) same q.spent;
        room = due.room;
        works = subst (λ (r : Sets). Works m p budget tells k l old new xs zs (sets t.region) (r ∷ outside s.0 s.1 (sets v.region) ∷ [])) (sym q.region)
            (works_then m p budget tells k k l old mid new xs ys zs (sets t.region) (sets v.region) (inside s.0 s.1 (sets v.region) ∷ outside s.0 s.1 (sets v.region) ∷ []) c d w (record {
              more = go.more;
              named = go.named;
              text = λ h. go.text h ∙ ap (λ a. a ++ lines p go.more) (due.text h);
              given = go.given;
              runs = λ steps rest h. go.runs steps rest h;
            }));
      }

  -- ---- the next region

  -- inside a split
  pub next_inside : (k l : Progress) (old new : List ℕ) (xs ys : List B) (t u : Marked) (splits left : List (Element × Part)) (s : Element × Part) → Enters m p budget tells k l old new xs ys t u s → left ≡ splits ++ s ∷ [] → ArePaired p t.marks (reverse splits) → GoesOn m p budget tells k l old new xs ys t u splits left
  next_inside k l old new xs ys t u splits left s w push pair =
      let backwards : reverse left ≡ s ∷ reverse splits = ap reverse push ∙ reverse_push splits s in
      let behind : outer_sides u.marks (reverse left) ≡ outside s.0 s.1 (sets w.mark) ∷ outer_sides t.marks (reverse splits) = ap (λ ms. outer_sides ms (reverse left)) w.marks ∙ ap (outer_sides (w.mark ∷ t.marks)) backwards in
      record {
        paired = subst (λ ms. ArePaired p ms (reverse left)) (sym w.marks) (subst (ArePaired p (w.mark ∷ t.marks)) (sym backwards) (w.parted, pair));
        some = some_inside p (sets w.mark) (sets u.region) s.0 s.1 w.parted.some w.parted.split (λ e. ap (λ (r : Sets). r e) w.region);
        goes = subst (λ waiting. Goes m p budget tells k l old new xs ys (open_sets t splits) (sets u.region ∷ waiting)) (sym behind)
            (works_goes m p budget tells k l old new xs ys (sets t.region) (outer_sides t.marks (reverse splits)) (sets u.region ∷ outside s.0 s.1 (sets w.mark) ∷ []) w.works);
      }

  -- the newest outer side
  pub next_outside : (k l : Progress) (old new : List ℕ) (xs ys zs ws : List B) (t v b u : Marked) (splits left : List (Element × Part)) (s : Element × Part) → Ends m p budget tells k l old new xs ys t v → length ys ≡ length xs → Pairs m SameRule ys zs → Pairs m SameRule zs ws →
      IsTakenOff p t.marks b s splits left → ((e : Element) → sets u.region e ≡ outside s.0 s.1 (sets b.region) e) → u.marks ≡ b.marks → GoesOn m p budget tells k l old new xs ws t u splits left
  next_outside k l old new xs ys zs ws t v b u splits left s d c r q o kept marks =
      let w : Works m p budget tells k l old new xs ws (sets t.region) [] = works_same m p budget tells k l old new xs ys ws (sets t.region) [] c (q.count ∙ r.count) d.works
      (rise_less m (0 + 0) 0 ys ws (omega arith) (Rise-trans m 0 0 ys zs ws r.count q.count (rise_rule m ys zs r) (rise_rule m zs ws q))) in
      let region : sets u.region ≡ outside s.0 s.1 (sets b.region) = same_sets (sets u.region) (outside s.0 s.1 (sets b.region)) kept in
      let open_is : outer_sides t.marks (reverse splits) ≡ open_sets u left = o.waits ∙ ap (λ (g : Sets). g ∷ outer_sides b.marks (reverse left)) (sym region) ∙ ap (λ ms. sets u.region ∷ outer_sides ms (reverse left)) (sym marks) in
      record {
        paired = subst (λ ms. ArePaired p ms (reverse left)) (sym marks) o.paired;
        some = some_outside p (sets b.region) (sets u.region) s.0 s.1 o.parted.some o.parted.split kept;
        goes = subst (λ now. Goes m p budget tells k l old new xs ws (open_sets t splits) now) open_is
            (works_goes m p budget tells k l old new xs ws (sets t.region) (outer_sides t.marks (reverse splits)) [] w);
      }

  -- none waits
  pub nothing_waits : (k l : Progress) (old new : List ℕ) (xs ys : List B) (t v : Marked) (splits : List (Element × Part)) → Ends m p budget tells k l old new xs ys t v → splits ≡ [] → Goes m p budget tells k l old new xs ys (open_sets t splits) []
  nothing_waits k l old new xs ys t v splits d none =
      let nothing : outer_sides t.marks (reverse splits) ≡ [] = ap (λ ss. outer_sides t.marks (reverse ss)) none ∙ none_waits t.marks in
      subst (λ now. Goes m p budget tells k l old new xs ys (open_sets t splits) now) nothing
      (works_goes m p budget tells k l old new xs ys (sets t.region) (outer_sides t.marks (reverse splits)) [] d.works)

-- what is open at the start
open_start : (t : Marked) (splits : List (Element × Part)) → t.marks ≡ [] → splits ≡ [] → open_sets t splits ≡ sets t.region ∷ []
open_start t splits unmarked none = ap (λ ms. sets t.region ∷ outer_sides ms (reverse splits)) unmarked

pub goes_start_open : {B : Type 0} (m : B → Meaning) (p : Instance) (budget : ℕ) (tells : Bool) (k : Progress) (old : List ℕ) (xs : List B) (t : Marked) (splits : List (Element × Part)) → t.marks ≡ [] → splits ≡ [] → Goes m p budget tells k k old old xs xs (sets t.region ∷ []) (open_sets t splits)
goes_start_open m p budget tells k old xs t splits unmarked none =
    subst (λ now. Goes m p budget tells k k old old xs xs (sets t.region ∷ []) now) (sym (open_start t splits unmarked none)) (goes_none m p budget tells k old xs (sets t.region ∷ []))

pub paired_start : (p : Instance) (t : Marked) (splits : List (Element × Part)) → t.marks ≡ [] → splits ≡ [] → ArePaired p t.marks (reverse splits)
paired_start p t splits unmarked none = subst (λ ms. ArePaired p ms (reverse splits)) (sym unmarked) (subst (λ ss. ArePaired p [] (reverse ss)) (sym none) tt)
