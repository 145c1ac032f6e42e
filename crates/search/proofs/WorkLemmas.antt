-- How what was done composes.
use Rattle.base.proofs.Public.{All-append, All-nil}
use Rattle.std.proofs.Common.{◌≡◌, ℕ, ◌+◌, ◌≤◌, Bool, List, [], ◌∷◌, ◌++◌, length, refl, sym, subst, ◌∙◌, append_assoc, append-nil, arith}
use Rattle.search.specs.Prelude.{answered, by_rule, Progress, Cut, Decide, Fail, Goes, HasStep, Instance, IsAsked, LeavesLines, Left, Meaning, Pairs, Plan, Reason, Rise, SameCover, SameRule, Sets, Step, Underway, Works}
use Rattle.reasons.specs.declared.reason.Reason.TheVariants.{Empty, Bound, Load, Pair, Place, Group, SetLoad, Power, Usable, Hall}
use Rattle.prop_core.proofs.Public.{Pairs-same, Pairs-trans, Pairs-weaker, Rise-from_same, Rise-trans}
use Rattle.search.proofs.TextLemmas.{leaves_then, lines_then}

-- ---- how many steps propagators answered

pub answered_append : (a b : List Step) → answered (a ++ b) ≡ answered a + answered b
answered_append [] b = omega arith
answered_append (Decide x part ∷ steps) b = answered_append steps b
answered_append (Cut x part reason ∷ steps) b = omega (arith, answered_append steps b)
answered_append (Fail reason ∷ steps) b = omega (arith, answered_append steps b)
answered_append (Plan cost ∷ steps) b = answered_append steps b
answered_append (Left ∷ steps) b = answered_append steps b

pub by_rule_once : (reason : Reason) → by_rule reason ≤ 1
by_rule_once (Empty e) = omega arith
by_rule_once Bound = omega arith
by_rule_once (Load t r set) = omega arith
by_rule_once (Pair c t v w n) = omega arith
by_rule_once (Place c t v n) = omega arith
by_rule_once (Group c t) = omega arith
by_rule_once (SetLoad c t) = omega arith
by_rule_once (Power c t) = omega arith
by_rule_once (Usable t v n) = omega arith
by_rule_once (Hall c t set) = omega arith

-- ---- propagators before and after

module _ {B : Type 0} (m : B → Meaning) where
  pub cover_same : (xs : List B) → Pairs m SameCover xs xs
  cover_same xs = Pairs-same m SameCover xs (λ a. record { covers = λ k. refl })

  pub cover_trans : (xs ys zs : List B) → Pairs m SameCover xs ys → Pairs m SameCover ys zs → Pairs m SameCover xs zs
  cover_trans xs ys zs r s = Pairs-trans m SameCover SameCover SameCover xs ys zs (λ a b c r s. record { covers = λ k. s.covers k ∙ r.covers k }) r s

  pub rule_trans : (xs ys zs : List B) → Pairs m SameRule xs ys → Pairs m SameRule ys zs → Pairs m SameRule xs zs
  rule_trans xs ys zs r s = Pairs-trans m SameRule SameRule SameRule xs ys zs (λ a b c f h. record { covers = λ k. h.covers k ∙ f.covers k; given = h.given ∙ f.given }) r s

  pub cover_rule : (xs ys : List B) → Pairs m SameRule xs ys → Pairs m SameCover xs ys
  cover_rule xs ys r = Pairs-weaker m SameRule SameCover xs ys (λ a b s. record { covers = s.covers }) r

  pub cover_asked : (p : Instance) (s : Sets) (xs ys : List B) → Pairs m (IsAsked p s) xs ys → Pairs m SameCover xs ys
  cover_asked p s xs ys r = Pairs-weaker m (IsAsked p s) SameCover xs ys (λ a b h. record { covers = h.covers }) r

  pub rise_less : (n j : ℕ) (xs ys : List B) → j ≤ n → Rise m n xs ys → Rise m j xs ys
  rise_less n j xs ys l r = record { grown = r.grown; risen = λ full. (let h = r.risen full in omega arith) }

  pub rise_none : (xs : List B) → Rise m 0 xs xs
  rise_none xs = Rise-from_same m (λ a b. b.given ≡ a.given) xs xs (λ a b e. e) (Pairs-same m (λ a b. b.given ≡ a.given) xs (λ a. refl))

  pub rise_rule : (xs ys : List B) → Pairs m SameRule xs ys → Rise m 0 xs ys
  rise_rule xs ys r = Rise-from_same m SameRule xs ys (λ a b s. s.given) r

  rise_then : (a b : List Step) (xs ys zs : List B) → length ys ≡ length xs → length zs ≡ length ys → Rise m (answered a) xs ys → Rise m (answered b) ys zs → Rise m (answered (a ++ b)) xs zs
  rise_then a b xs ys zs c d r s =
      subst (λ n. Rise m n xs zs) (sym (answered_append a b)) (Rise-trans m (answered a) (answered b) xs ys zs c d r s)

-- ---- work after work

module _ {B : Type 0} (m : B → Meaning) (p : Instance) (budget : ℕ) (tells : Bool) where
  pub works_none : (k : Progress) (old : List ℕ) (xs ys : List B) (s : Sets) → Rise m 0 xs ys → Works m p budget tells k k old old xs ys s (s ∷ [])
  works_none k old xs ys s r = record {
    more = [];
    named = All-nil (HasStep p);
    text = λ t. sym (append-nil old);
    given = r;
    runs = λ e rest u. subst (λ a. Underway p budget k a (s ∷ rest)) (sym (append-nil e)) u;
  }

  -- the work on a region, and then on the one that it leaves open
  pub works_then : (k l n : Progress) (old mid new : List ℕ) (xs ys zs : List B) (s t : Sets) (now : List Sets) → length ys ≡ length xs → length zs ≡ length ys →
      Works m p budget tells k l old mid xs ys s (t ∷ []) → Works m p budget tells l n mid new ys zs t now → Works m p budget tells k n old new xs zs s now
  works_then k l n old mid new xs ys zs s t now c d a b = record {
    more = a.more ++ b.more;
    named = All-append (HasStep p) a.more b.more a.named b.named;
    text = λ h. lines_then p old mid new a.more b.more (a.text h) (b.text h);
    given = rise_then m a.more b.more xs ys zs c d a.given b.given;
    runs = λ e rest u. subst (λ x. Underway p budget n x (now ++ rest)) (append_assoc e a.more b.more) (b.runs (e ++ a.more) rest (a.runs e rest u));
  }

  -- then propagators were told, which are the same
  pub works_same : (k l : Progress) (old new : List ℕ) (xs ys zs : List B) (s : Sets) (now : List Sets) → length ys ≡ length xs → length zs ≡ length ys →
      Works m p budget tells k l old new xs ys s now → Rise m 0 ys zs → Works m p budget tells k l old new xs zs s now
  works_same k l old new xs ys zs s now c d a r = record {
    more = a.more;
    named = a.named;
    text = a.text;
    given = subst (λ n. Rise m n xs zs) (let e : answered a.more + 0 ≡ answered a.more = omega arith in e) (Rise-trans m (answered a.more) 0 xs ys zs c d a.given r);
    runs = a.runs;
  }

  pub works_goes : (k l : Progress) (old new : List ℕ) (xs ys : List B) (s : Sets) (rest now : List Sets) → Works m p budget tells k l old new xs ys s now → Goes m p budget tells k l old new xs ys (s ∷ rest) (now ++ rest)
  works_goes k l old new xs ys s rest now a = record { more = a.more; named = a.named; text = a.text; given = a.given; runs = λ e u. a.runs e rest u }

  pub goes_none : (k : Progress) (old : List ℕ) (xs : List B) (open_now : List Sets) → Goes m p budget tells k k old old xs xs open_now open_now
  goes_none k old xs open_now = record {
    more = [];
    named = All-nil (HasStep p);
    text = λ t. sym (append-nil old);
    given = rise_none m xs;
    runs = λ e u. subst (λ a. Underway p budget k a open_now) (sym (append-nil e)) u;
  }

  pub goes_then : (k l n : Progress) (old mid new : List ℕ) (xs ys zs : List B) (from mids now : List Sets) → length ys ≡ length xs → length zs ≡ length ys →
      Goes m p budget tells k l old mid xs ys from mids → Goes m p budget tells l n mid new ys zs mids now → Goes m p budget tells k n old new xs zs from now
  goes_then k l n old mid new xs ys zs from mids now c d a b = record {
    more = a.more ++ b.more;
    named = All-append (HasStep p) a.more b.more a.named b.named;
    text = λ h. lines_then p old mid new a.more b.more (a.text h) (b.text h);
    given = rise_then m a.more b.more xs ys zs c d a.given b.given;
    runs = λ e u. subst (λ x. Underway p budget n x now) (append_assoc e a.more b.more) (b.runs (e ++ a.more) (a.runs e u));
  }

  -- a front behind the lines of the work
  pub works_front : (k l : Progress) (old mid new : List ℕ) (xs ys : List B) (s : Sets) (now : List Sets) → Works m p budget tells k l old mid xs ys s now → LeavesLines p tells mid new → LeavesLines p tells old new
  works_front k l old mid new xs ys s now w f = leaves_then p tells old mid new w.more w.named w.text f

  pub goes_front : (k l : Progress) (old mid new : List ℕ) (xs ys : List B) (from now : List Sets) → Goes m p budget tells k l old mid xs ys from now → LeavesLines p tells mid new → LeavesLines p tells old new
  goes_front k l old mid new xs ys from now g f = leaves_then p tells old mid new g.more g.named g.text f
