-- Steps that leave nothing open are those of a tree.
use Rattle.std.proofs.Common.{◌≡◌, List, [], ◌∷◌, ◌++◌, refl, sym, ap, subst, ◌∙◌, append_assoc, append-nil}
use Rattle.trees.specs.Prelude.{AtEach, Cut, cut_then, Decide, decide_both, Element, Fact, Fail, fail_leaf, inside, Leads, Left, left_leaf, outside, Part, Plan, plan_leaf, Reason, Sets, Step, steps_of, Tree}

-- the steps of several trees, one tree after the other
abbrev all_steps : List Tree → List Step
all_steps [] = []
all_steps (t ∷ ts) = steps_of t ++ all_steps ts

-- the fact holds at each step of a tree for each of the sets
abbrev AtEachOf : Fact → List Step → List Sets → List Tree → Type 0
AtEachOf fact e [] [] = Unit {0}
AtEachOf fact e (s ∷ rest) (t ∷ ts) = AtEach fact e s t × AtEachOf fact (e ++ steps_of t) rest ts
AtEachOf fact e [] (t ∷ ts) = ⊥
AtEachOf fact e (s ∷ rest) [] = ⊥

-- the steps are those of a tree for each of the sets
record IsGrown (fact : Fact) (e : List Step) (from : List Sets) (steps : List Step) : Type 0 where
  trees : List Tree
  same : steps ≡ all_steps trees
  each : AtEachOf fact e from trees

-- one tree whose steps these are, with the fact at each
pub record IsOneTree (fact : Fact) (s : Sets) (steps : List Step) : Type 0 where
  pub tree : Tree
  pub same : steps ≡ steps_of tree
  pub each : AtEach fact [] s tree

module _ (fact : Fact) where
  grow_leaf : (t : Tree) (e : List Step) (s : Sets) (rest : List Sets) (steps : List Step) → AtEach fact e s t → IsGrown fact (e ++ steps_of t) rest steps → IsGrown fact e (s ∷ rest) (steps_of t ++ steps)
  grow_leaf t e s rest steps a g = record { trees = t ∷ g.trees; same = ap (λ k. steps_of t ++ k) g.same; each = (a, g.each) }

  grow_cut : (x : Element) (part : Part) (reason : Reason) (e : List Step) (s : Sets) (rest : List Sets) (steps : List Step) → fact e s (Cut x part reason) → IsGrown fact (e ++ Cut x part reason ∷ []) (outside x part s ∷ rest) steps → IsGrown fact e (s ∷ rest) (Cut x part reason ∷ steps)
  grow_cut x part reason e s rest steps holds g = at g.trees g.same g.each
    where
      at : (ts : List Tree) → steps ≡ all_steps ts → AtEachOf fact (e ++ Cut x part reason ∷ []) (outside x part s ∷ rest) ts → IsGrown fact e (s ∷ rest) (Cut x part reason ∷ steps)
      at [] same each = absurd each
      at (t ∷ ts) same each = record {
        trees = cut_then x part reason t ∷ ts;
        same = ap (λ k. Cut x part reason ∷ k) same;
        each = ((holds, each.0), subst (λ k. AtEachOf fact k rest ts) (append_assoc e (Cut x part reason ∷ []) (steps_of t)) each.1);
      }

  grow_decide : (x : Element) (part : Part) (e : List Step) (s : Sets) (rest : List Sets) (steps : List Step) → fact e s (Decide x part) → IsGrown fact (e ++ Decide x part ∷ []) (inside x part s ∷ outside x part s ∷ rest) steps → IsGrown fact e (s ∷ rest) (Decide x part ∷ steps)
  grow_decide x part e s rest steps holds g = at g.trees g.same g.each
    where
      at : (ts : List Tree) → steps ≡ all_steps ts → AtEachOf fact (e ++ Decide x part ∷ []) (inside x part s ∷ outside x part s ∷ rest) ts → IsGrown fact e (s ∷ rest) (Decide x part ∷ steps)
      at [] same each = absurd each
      at (t ∷ []) same each = absurd each.1
      at (t ∷ u ∷ ts) same each = record {
        trees = decide_both x part t u ∷ ts;
        same = ap (λ k. Decide x part ∷ k) (same ∙ sym (append_assoc (steps_of t) (steps_of u) (all_steps ts)));
        each = (
          (holds, each.0, each.1.0),
          subst (λ k. AtEachOf fact k rest ts) (append_assoc (e ++ Decide x part ∷ []) (steps_of t) (steps_of u) ∙ append_assoc e (Decide x part ∷ []) (steps_of t ++ steps_of u)) each.1.1,
        );
      }

  -- steps that leave nothing open are those of a tree for each of the sets that were open
  grown : (steps e : List Step) (from : List Sets) → Leads fact e from steps [] → IsGrown fact e from steps
  grown [] e [] a = record { trees = []; same = refl; each = tt }
  grown [] e (s ∷ rest) a = absurd (cc)
  grown (step ∷ steps) e [] a = absurd a
  grown (Fail reason ∷ steps) e (s ∷ rest) a = grow_leaf (fail_leaf reason) e s rest steps a.0 (grown steps (e ++ Fail reason ∷ []) rest a.1)
  grown (Plan cost ∷ steps) e (s ∷ rest) a = grow_leaf (plan_leaf cost) e s rest steps a.0 (grown steps (e ++ Plan cost ∷ []) rest a.1)
  grown (Left ∷ steps) e (s ∷ rest) a = grow_leaf left_leaf e s rest steps a.0 (grown steps (e ++ Left ∷ []) rest a.1)
  grown (Cut x part reason ∷ steps) e (s ∷ rest) a = grow_cut x part reason e s rest steps a.0 (grown steps (e ++ Cut x part reason ∷ []) (outside x part s ∷ rest) a.1)
  grown (Decide x part ∷ steps) e (s ∷ rest) a = grow_decide x part e s rest steps a.0 (grown steps (e ++ Decide x part ∷ []) (inside x part s ∷ outside x part s ∷ rest) a.1)

  -- the steps from one list of sets to nothing open are those of one tree
  pub tree_of : (s : Sets) (steps : List Step) → Leads fact [] (s ∷ []) steps [] → IsOneTree fact s steps
  tree_of s steps a = let g = grown steps [] (s ∷ []) a in at g.trees g.same g.each
    where
      at : (ts : List Tree) → steps ≡ all_steps ts → AtEachOf fact [] (s ∷ []) ts → IsOneTree fact s steps
      at [] same each = absurd each
      at (t ∷ []) same each = record { tree = t; same = same ∙ append-nil (steps_of t); each = each.0 }
      at (t ∷ u ∷ ts) same each = absurd each.1
