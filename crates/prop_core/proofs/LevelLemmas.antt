-- Levels that follow the marks of a trail.
use Rattle.prop_core.proofs.Prelude.{◌≡◌, ℕ, suc, ◌+◌, ◌<◌, ◌≤◌, List, [], ◌∷◌, length, get_or, sym, ◌∙◌, ap, subst, arith, All, AllFollow, AtMarks, BackSame, Follows, Instance, IsAsked, KeepsBelow, Marked, MarkedSame, Meaning, most, Pairs, PostedSame, RegionView, sets, ToldSame, TopAgrees, TopsAgree}
use Rattle.prop_core.proofs.PairLemmas.{All-after}

-- a level below n that is kept is one of at most n marks
marks-kept : (p : Instance) (a b : Meaning) (n : ℕ) (gs : List RegionView) → KeepsBelow n a b → length gs ≤ n → AtMarks a p gs → AtMarks b p gs
marks-kept p a b n [] k l h = tt
marks-kept p a b n (g ∷ gs) k l h = (k.kept (length gs) p (sets g) (omega arith) h.0, marks-kept p a b n gs k (omega arith) h.1)

-- the marks stay, and the top level agrees with the region h
with-top : (p : Instance) (h : RegionView) (t : Marked) (a b : Meaning) → Follows p t a → b.level ≡ a.level → KeepsBelow a.level a b → TopAgrees b p (sets h) → Follows p (record { region = h; marks = t.marks }) b
with-top p h t a b f l k top =
    let e : a.level ≡ length t.marks = f.level in
    record { level = l ∙ f.level; top = top; marks = marks-kept p a b a.level t.marks k (omega arith) f.marks }

follows-told : (p : Instance) (h : RegionView) (t : Marked) (a b : Meaning) → Follows p t a → ToldSame p (sets h) a b → Follows p (record { region = h; marks = t.marks }) b
follows-told p h t a b f s = with-top p h t a b f s.level s.told.below s.told.top

follows-asked : (p : Instance) (t : Marked) (a b : Meaning) → Follows p t a → IsAsked p (sets t.region) a b → Follows p t b
follows-asked p t a b f s = with-top p t.region t a b f s.level s.below s.top

follows-marked : (p : Instance) (t : Marked) (a b : Meaning) → Follows p t a → MarkedSame a b → Follows p (record { region = t.region; marks = t.region ∷ t.marks }) b
follows-marked p t a b f s =
    let e : a.level ≡ length t.marks = f.level in
    let l : b.level ≡ a.level + 1 = s.marked.level in
    record {
      level = omega arith;
      top = s.marked.top p (sets t.region) f.top;
      marks =
          (subst (λ n. b.agrees p n (sets t.region)) e (s.marked.below.kept a.level p (sets t.region) (omega arith) f.top), marks-kept p a b (a.level + 1) t.marks s.marked.below (omega arith) f.marks);
    }

follows-back : (p : Instance) (t u : Marked) (a b : Meaning) → t.marks ≡ u.region ∷ u.marks → Follows p t a → BackSame a b → Follows p u b
follows-back p t u a b e f s =
    let i : b.level + 1 ≡ a.level = s.dropped.level in
    let j : a.level ≡ length t.marks = f.level in
    let k : length t.marks ≡ suc (length u.marks) = ap length e in
    let both : AtMarks a p (u.region ∷ u.marks) = subst (λ ms. AtMarks a p ms) e f.marks in
    let same : length u.marks ≡ b.level = omega arith in
    record {
      level = omega arith;
      top = subst (λ n. b.agrees p n (sets u.region)) same (s.dropped.below.kept (length u.marks) p (sets u.region) (omega arith) both.0);
      marks = marks-kept p a b a.level u.marks s.dropped.below (omega arith) both.1;
    }

module _ {B : Type 0} (m : B → Meaning) (p : Instance) where
  pub all_posted : (u : Marked) (xs ys : List B) → Pairs m (PostedSame p (sets u.region)) xs ys → u.marks ≡ [] → AllFollow m p u ys
  all_posted u xs ys r e = record {
    each = λ k d i. (let l : length ys ≡ length xs = r.count in
        let s = (r.each k d (omega arith)).posted in
        let n : 0 ≡ length u.marks = sym (ap length e) in
        record {
          level = s.level ∙ n;
          top = subst (λ j. (m (get_or ys k d)).agrees p j (sets u.region)) (sym s.level) s.top;
          marks = subst (λ ms. AtMarks (m (get_or ys k d)) p ms) (sym e) tt;
        });
  }

  pub all_told : (t u : Marked) (xs ys : List B) → AllFollow m p t xs → Pairs m (ToldSame p (sets u.region)) xs ys → u.marks ≡ t.marks → AllFollow m p u ys
  all_told t u xs ys f r e =
      let next : Marked = record { region = u.region; marks = t.marks } in
      let g = All-after m (Follows p t) (Follows p next) (ToldSame p (sets u.region)) xs ys (λ a b h s. follows-told p u.region t a b h s) f.each r in
      record { each = subst (λ (ms : List RegionView). All (λ b. Follows p (record { region = u.region; marks = ms }) (m b)) ys) (sym e) g }

  pub all_asked : (t : Marked) (xs ys : List B) → AllFollow m p t xs → Pairs m (IsAsked p (sets t.region)) xs ys → AllFollow m p t ys
  all_asked t xs ys f r =
      record { each = All-after m (Follows p t) (Follows p t) (IsAsked p (sets t.region)) xs ys (λ a b h s. follows-asked p t a b h s) f.each r }

  pub all_marked : (t u : Marked) (xs ys : List B) → AllFollow m p t xs → Pairs m MarkedSame xs ys → u ≡ record { region = t.region; marks = t.region ∷ t.marks } → AllFollow m p u ys
  all_marked t u xs ys f r e =
      let next : Marked = record { region = t.region; marks = t.region ∷ t.marks } in
      subst (λ v. AllFollow m p v ys) (sym e) (record { each = All-after m (Follows p t) (Follows p next) MarkedSame xs ys (λ a b h s. follows-marked p t a b h s) f.each r })

  pub all_back : (t u : Marked) (xs ys : List B) → AllFollow m p t xs → Pairs m BackSame xs ys → t.marks ≡ u.region ∷ u.marks → AllFollow m p u ys
  all_back t u xs ys f r e =
      record { each = All-after m (Follows p t) (Follows p u) BackSame xs ys (λ a b h s. follows-back p t u a b e h s) f.each r }

  -- what the list is to be, so that it can be asked, marked and taken back
  pub tops : (t : Marked) (xs : List B) → AllFollow m p t xs → TopsAgree m p (sets t.region) xs
  tops t xs f = record { each = λ k d i. (f.each k d i).top }

  pub markable : (t : Marked) (xs : List B) → AllFollow m p t xs → length t.marks < most → All (λ b. (m b).level < most) xs
  markable t xs f l k d i = let e = (f.each k d i).level in omega arith

  pub backable : (t : Marked) (xs : List B) → AllFollow m p t xs → 0 < length t.marks → All (λ b. 0 < (m b).level) xs
  backable t xs f l k d i = let e = (f.each k d i).level in omega arith
