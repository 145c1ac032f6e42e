-- Lines after lines, and fronts of them.
use Rattle.std.proofs.{Common.IsTrue, lemmas.Grind.flat_map-append}
use Rattle.base.proofs.Public.{All, All-append, All-nil, All-push, ◌≡◌, ℕ, List, [], ◌∷◌, ◌++◌, sym, ap, subst, ◌∙◌, append_assoc, append-nil, arith, Bool, StartsWith, common_steps}
use Rattle.search.specs.Prelude.{end_line, Goal, HasStep, Instance, LeavesLines, LeavesText, lines, Step, step_line}
use Rattle.cert_text.specs.Prelude.{IsGoal}

-- ---- fronts

whole_front : (text : List ℕ) → StartsWith text text
whole_front text = grind (arith, common_steps)

front_of : (a b : List ℕ) → StartsWith (a ++ b) a
front_of a b = grind (arith, common_steps)

longer : (a b new : List ℕ) → StartsWith a new → StartsWith (a ++ b) new
longer a b new h = grind (arith, common_steps)

further : (a b c : List ℕ) → StartsWith b a → StartsWith c b → StartsWith c a
further a b c h k = grind (arith, common_steps)

-- what stands behind more than the old bytes stands behind those
still : (old mid new text : List ℕ) → mid ≡ old ++ text → StartsWith new mid → StartsWith new old
still old mid new text e h = further old (old ++ text) new (front_of old text) (subst (StartsWith new) e h)

-- ---- lines

pub lines_append : (p : Instance) (a b : List Step) → lines p (a ++ b) ≡ lines p a ++ lines p b
lines_append p a b = flat_map-append (step_line p) a b

pub one_line : (p : Instance) (s : Step) → lines p (s ∷ []) ≡ step_line p s
one_line p s = append-nil (step_line p s)

module _ (p : Instance) where
  -- one step of the instance, and one more
  pub one_named : (s : Step) → HasStep p s → All (HasStep p) (s ∷ [])
  one_named s h = All-push (HasStep p) [] s (All-nil (HasStep p)) h

  pub two_named : (s t : Step) → HasStep p s → HasStep p t → All (HasStep p) (s ∷ t ∷ [])
  two_named s t h k = All-push (HasStep p) (s ∷ []) t (one_named s h) k

  -- lines, and more lines
  pub lines_then : (old mid new : List ℕ) (a b : List Step) → mid ≡ old ++ lines p a → new ≡ mid ++ lines p b → new ≡ old ++ lines p (a ++ b)
  lines_then old mid new a b e f = f ∙ ap (λ k. k ++ lines p b) e ∙ append_assoc old (lines p a) (lines p b) ∙ ap (λ k. old ++ k) (sym (lines_append p a b))

  pub text_line : (old new : List ℕ) (s : Step) → new ≡ old ++ step_line p s → new ≡ old ++ lines p (s ∷ [])
  text_line old new s e = e ∙ ap (λ k. old ++ k) (sym (one_line p s))

module _ (p : Instance) (tells : Bool) where
  pub leaves_none : (old : List ℕ) → LeavesLines p tells old old
  leaves_none old = record { some = []; named = All-nil (HasStep p); front = λ t. subst (λ k. StartsWith k old) (sym (append-nil old)) (whole_front old); stays = λ t. whole_front old }

  pub leaves_all : (old new : List ℕ) (more : List Step) → All (HasStep p) more → (IsTrue tells → new ≡ old ++ lines p more) → LeavesLines p tells old new
  leaves_all old new more named e = record {
    some = more;
    named = named;
    front = λ t. subst (λ k. StartsWith k new) (e t) (whole_front new);
    stays = λ t. still old new new (lines p more) (e t) (whole_front new);
  }

  -- after whole lines
  pub leaves_then : (old mid new : List ℕ) (more : List Step) → All (HasStep p) more → (IsTrue tells → mid ≡ old ++ lines p more) → LeavesLines p tells mid new → LeavesLines p tells old new
  leaves_then old mid new more named e l = record {
    some = more ++ l.some;
    named = All-append (HasStep p) more l.some named l.named;
    front = λ t. subst (λ k. StartsWith k new) (ap (λ k. k ++ lines p l.some) (e t) ∙ append_assoc old (lines p more) (lines p l.some) ∙ ap (λ k. old ++ k) (sym (lines_append p more l.some))) (l.front t);
    stays = λ t. still old mid new (lines p more) (e t) (l.stays t);
  }

  -- a line that was refused
  pub leaves_line : (old new : List ℕ) (s : Step) → HasStep p s → (IsTrue tells → StartsWith (old ++ step_line p s) new) → (IsTrue tells → StartsWith new old) → LeavesLines p tells old new
  leaves_line old new s named h k = record { some = s ∷ []; named = one_named p s named; front = λ t. subst (λ a. StartsWith (old ++ a) new) (sym (one_line p s)) (h t); stays = k }

  -- a line that was written
  pub leaves_lined : (old new : List ℕ) (s : Step) → HasStep p s → (IsTrue tells → new ≡ old ++ step_line p s) → LeavesLines p tells old new
  leaves_lined old new s named h = leaves_all old new (s ∷ []) (one_named p s named) (λ t. text_line p old new s (h t))

  -- after nothing
  pub leaves_same : (old mid new : List ℕ) → (IsTrue tells → mid ≡ old) → LeavesLines p tells mid new → LeavesLines p tells old new
  leaves_same old mid new e l = record {
    some = l.some;
    named = l.named;
    front = λ t. subst (λ k. StartsWith (k ++ lines p l.some) new) (e t) (l.front t);
    stays = λ t. subst (StartsWith new) (e t) (l.stays t);
  }

  -- ---- whole texts

  pub text_none : (old : List ℕ) → LeavesText p tells old old
  text_none old = record {
    some = [];
    named = All-nil (HasStep p);
    goal = Goal.Infeasible;
    goal_is = tt;
    front = λ t. longer (old ++ lines p []) (end_line Goal.Infeasible) old (longer old (lines p []) old (whole_front old));
    stays = λ t. whole_front old;
  }

  pub text_some : (old new : List ℕ) → LeavesLines p tells old new → LeavesText p tells old new
  text_some old new l = record {
    some = l.some;
    named = l.named;
    goal = Goal.Infeasible;
    goal_is = tt;
    front = λ t. longer (old ++ lines p l.some) (end_line Goal.Infeasible) new (l.front t);
    stays = l.stays;
  }

  -- an end line that was refused, or not
  pub text_end : (old mid new : List ℕ) (more : List Step) (claimed : Goal) → All (HasStep p) more → IsGoal claimed → (IsTrue tells → mid ≡ old ++ lines p more) → (IsTrue tells → StartsWith (mid ++ end_line claimed) new) → (IsTrue tells → StartsWith new mid) → LeavesText p tells old new
  text_end old mid new more claimed named is e h k = record {
    some = more;
    named = named;
    goal = claimed;
    goal_is = is;
    front = λ t. subst (λ a. StartsWith (a ++ end_line claimed) new) (e t) (h t);
    stays = λ t. still old mid new (lines p more) (e t) (k t);
  }
