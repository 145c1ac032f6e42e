-- A constraint still holds where there is less of what it speaks of.
use Rattle.base.proofs.Public.{inl, inr, List, cond, arith, sum_to-le, cond-implied, cond-le, fails_below}
use Rattle.slices.specs.Prelude.{Allowed, Apart, AreApart, AreGrouped, AreLessPresent, Between, Bounded, Each, Form, form_of, FromOthers, has_node, Instance, InTurn, IsKept, IsLessForForm, IsLessSeparated, LessHolds, machine_count, node_count, Nodes, one, Ordered, Powered, Separation, Settled, Snapshot, Together, VmId}

grouped : (p : Instance) (s big : Snapshot) (vs : List VmId) (groups : List Nodes) → AreLessPresent p vs s big → AreGrouped p big vs groups → AreGrouped p s vs groups
grouped p s big vs groups less (inl absent) = inl (λ v n i j m. fails_below _ _ (less v i m (one n)) (absent v n i j m))
grouped p s big vs groups less (inr h) = inr (h.0, h.1, h.2, h.3, λ v n i j m x. h.4 v n i j m (less v i m (one n) x))

apart : (p : Instance) (s big : Snapshot) (separation : Separation) → IsLessSeparated p separation s big → AreApart p big separation → AreApart p s separation
apart p s big (Each vs) less h = λ n v w i j k f x. fails_below _ _ (less w k f.1 _) (h n v w i j k f (less v j f.0 _ x))
apart p s big (Between parts) less h = λ n v w i j k f x. fails_below _ _ (less f.1 w k f.4 _) (h n v w i j k f (less f.0 v j f.3 _ x))
apart p s big (FromOthers vs) less h = λ n v w i j k f x. fails_below _ _ (less w k _) (h n v w i j k f (less v j _ x))

kept : (p : Instance) (s big : Snapshot) (f : Form) → IsLessForForm p f s big → IsKept p big f → IsKept p s f
kept p s big (Apart separation) less h = apart p s big separation less h
kept p s big (Allowed vs places) less h = λ v n i j f. fails_below _ _ (less v i f.0 _) (h v n i j f)
kept p s big (Together vs groups) less h = grouped p s big vs _ less h
kept p s big (Ordered before after) less h = λ x. fails_below _ _ less.1 (h (less.0 x))
kept p s big (InTurn vs) less h = λ v w i j d m k x. fails_below _ _ (less w j k) (h v w i j d m k (less v i m x))
kept p s big (Bounded weight ns amount) less h =
    omega (arith, h, sum_to-le (machine_count p) (λ v. s.held v weight (has_node ns)) (λ v. big.held v weight (has_node ns)) (λ v i. less v i (has_node ns)))
kept p s big (Powered ns amount) less h =
    omega (arith, h, sum_to-le (node_count p) (λ n. cond (has_node ns n) (cond (s.powered n) 1 0) 0) (λ n. cond (has_node ns n) (cond (big.powered n) 1 0) 0) (λ n i. cond-le (has_node ns n) _ _ (λ x. cond-implied (s.powered n) (big.powered n) 1 (less n i x))))
kept p s big Settled less h = tt

pub less_holds : LessHolds
less_holds p s big c less h = kept p s big (form_of c) less h
