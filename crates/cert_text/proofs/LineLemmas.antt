-- Reasons, goals and lines are read from their texts, and from no others.
use Rattle.std.proofs.lemmas.List.{append-nil}
use Rattle.base.proofs.Public.{◌≡◌, ◌∙◌, List, [], ◌∷◌, ◌++◌, Some, refl, sym, ap, append_assoc, decimal}
use Rattle.cert_text.specs.Prelude.{Bound, Cut as TheCut, Decide as TheDecide, Empty, End, Fail as TheFail, Goal, goal, goal_kind, goal_of, goal_word, goal_words, GoalKind, Group, Hall, Infeasible as TheInfeasible, IsGoal, IsLine, IsReason, Left as TheLeft, line, line_kind, line_of, line_word, line_words, LineKind, LineText, Load, nodes_words, Optimal as TheOptimal, Pair, part, part_words, Place, Plan as ThePlan, Power, reason, reason_kind, reason_of, reason_word, reason_words, ReasonKind, ReasonText, SetLoad, Step, Undecided as TheUndecided, Usable, Word}
use Rattle.reasons.specs.declared.reason.ReasonKind.TheVariants.{Empty as TheEmpty, Bound as TheBound, Load as TheLoad, Pair as ThePair, Place as ThePlace, Group as TheGroup, SetLoad as TheSetLoad, Power as ThePower, Usable as TheUsable, Hall as TheHall}
use Rattle.trees.specs.declared.steps.Goal.TheVariants.{Optimal, Infeasible, Undecided}
use Rattle.cert_text.specs.declared.kinds.LineKind.TheVariants.{End as TheEnd}
use Rattle.cert_text.specs.declared.text.StepText.TheVariants.{Decide, Cut, Fail, Plan, Left}
use Rattle.cert_text.proofs.ReadingLemmas.{both, given, goal_kind_back, goal_kind_only, line_kind_back, line_kind_only, name_back, name_then, number_back, number_then, reason_kind_back, reason_kind_only}
use Rattle.cert_text.proofs.PartLemmas.{nodes_back, nodes_then, part_back, part_only}

-- ---- reasons

reason_of_only : (kind : ReasonKind) (words : List Word) (x : ReasonText) (rest : List Word) → reason_of kind words ≡ Some (x, rest) → (reason_word kind ∷ words ≡ reason_words x ++ rest) × IsReason x
unfolding reason_of
reason_of_only TheEmpty words x rest read =
    name_then _ words x rest read (λ e rest_e e_is e_good e_then.
    let is = given (Empty e) x rest_e rest e_then in
    rw (← is.0) (rw (e_is, is.1) refl, e_good))
reason_of_only TheBound words x rest read = let is = given Bound x words rest read in rw (← is.0) (ap (λ (l : List Word). reason_word TheBound ∷ l) is.1, tt)
reason_of_only TheLoad words x rest read =
    number_then _ words x rest read (λ t rest_t t_is t_good t_then.
    name_then _ rest_t x rest t_then (λ r rest_r r_is r_good r_then.
    nodes_then _ rest_r x rest r_then (λ set set_is set_good set_then.
    let is = given (Load t r set) x [] rest set_then in
    rw (← is.0, ← is.1) (rw (t_is, r_is, set_is) (ap (λ (l : List Word). reason_word TheLoad ∷ decimal t ∷ r ∷ l) (sym (append-nil (nodes_words set)))), (t_good, r_good, set_good)))))
reason_of_only ThePair words x rest read =
    number_then _ words x rest read (λ c rest_c c_is c_good c_then.
    number_then _ rest_c x rest c_then (λ t rest_t t_is t_good t_then.
    name_then _ rest_t x rest t_then (λ v rest_v v_is v_good v_then.
    name_then _ rest_v x rest v_then (λ w rest_w w_is w_good w_then.
    name_then _ rest_w x rest w_then (λ n rest_n n_is n_good n_then.
    let is = given (Pair c t v w n) x rest_n rest n_then in
    rw (← is.0) (rw (c_is, t_is, v_is, w_is, n_is, is.1) refl, (c_good, t_good, v_good, w_good, n_good)))))))
reason_of_only ThePlace words x rest read =
    number_then _ words x rest read (λ c rest_c c_is c_good c_then.
    number_then _ rest_c x rest c_then (λ t rest_t t_is t_good t_then.
    name_then _ rest_t x rest t_then (λ v rest_v v_is v_good v_then.
    name_then _ rest_v x rest v_then (λ n rest_n n_is n_good n_then.
    let is = given (Place c t v n) x rest_n rest n_then in
    rw (← is.0) (rw (c_is, t_is, v_is, n_is, is.1) refl, (c_good, t_good, v_good, n_good))))))
reason_of_only TheGroup words x rest read =
    number_then _ words x rest read (λ c rest_c c_is c_good c_then.
    number_then _ rest_c x rest c_then (λ t rest_t t_is t_good t_then.
    let is = given (Group c t) x rest_t rest t_then in
    rw (← is.0) (rw (c_is, t_is, is.1) refl, (c_good, t_good))))
reason_of_only TheSetLoad words x rest read =
    number_then _ words x rest read (λ c rest_c c_is c_good c_then.
    number_then _ rest_c x rest c_then (λ t rest_t t_is t_good t_then.
    let is = given (SetLoad c t) x rest_t rest t_then in
    rw (← is.0) (rw (c_is, t_is, is.1) refl, (c_good, t_good))))
reason_of_only ThePower words x rest read =
    number_then _ words x rest read (λ c rest_c c_is c_good c_then.
    number_then _ rest_c x rest c_then (λ t rest_t t_is t_good t_then.
    let is = given (Power c t) x rest_t rest t_then in
    rw (← is.0) (rw (c_is, t_is, is.1) refl, (c_good, t_good))))
reason_of_only TheUsable words x rest read =
    number_then _ words x rest read (λ t rest_t t_is t_good t_then.
    name_then _ rest_t x rest t_then (λ v rest_v v_is v_good v_then.
    name_then _ rest_v x rest v_then (λ n rest_n n_is n_good n_then.
    let is = given (Usable t v n) x rest_n rest n_then in
    rw (← is.0) (rw (t_is, v_is, n_is, is.1) refl, (t_good, v_good, n_good)))))
reason_of_only TheHall words x rest read =
    number_then _ words x rest read (λ c rest_c c_is c_good c_then.
    number_then _ rest_c x rest c_then (λ t rest_t t_is t_good t_then.
    nodes_then _ rest_t x rest t_then (λ set set_is set_good set_then.
    let is = given (Hall c t set) x [] rest set_then in
    rw (← is.0, ← is.1) (rw (c_is, t_is, set_is) (ap (λ (l : List Word). reason_word TheHall ∷ decimal c ∷ decimal t ∷ l) (sym (append-nil (nodes_words set)))), (c_good, t_good, set_good)))))

pub reason_only : (words : List Word) (x : ReasonText) (rest : List Word) → reason words ≡ Some (x, rest) → (words ≡ reason_words x ++ rest) × IsReason x
unfolding reason
reason_only words x rest read =
    both reason_kind _ words x rest read (λ kind between first second.
    let found = reason_of_only kind between x rest second in
    (reason_kind_only words kind between first ∙ found.0, found.1))

pub reason_back : (x : ReasonText) → IsReason x → reason (reason_words x) ≡ Some (x, [])
unfolding reason reason_of
reason_back (Empty e) is =
    rw (reason_kind_back TheEmpty (e ∷ []), name_back e [] is) refl
reason_back Bound is = rw (reason_kind_back TheBound []) refl
reason_back (Load t r set) is =
    rw (reason_kind_back TheLoad (decimal t ∷ r ∷ nodes_words set), number_back t (r ∷ nodes_words set) is.0, name_back r (nodes_words set) is.1, nodes_back set is.2) refl
reason_back (Pair c t v w n) is =
    rw (reason_kind_back ThePair (decimal c ∷ decimal t ∷ v ∷ w ∷ n ∷ []), number_back c (decimal t ∷ v ∷ w ∷ n ∷ []) is.0, number_back t (v ∷ w ∷ n ∷ []) is.1, name_back v (w ∷ n ∷ []) is.2, name_back w (n ∷ []) is.3, name_back n [] is.4) refl
reason_back (Place c t v n) is =
    rw (reason_kind_back ThePlace (decimal c ∷ decimal t ∷ v ∷ n ∷ []), number_back c (decimal t ∷ v ∷ n ∷ []) is.0, number_back t (v ∷ n ∷ []) is.1, name_back v (n ∷ []) is.2, name_back n [] is.3) refl
reason_back (Group c t) is =
    rw (reason_kind_back TheGroup (decimal c ∷ decimal t ∷ []), number_back c (decimal t ∷ []) is.0, number_back t [] is.1) refl
reason_back (SetLoad c t) is =
    rw (reason_kind_back TheSetLoad (decimal c ∷ decimal t ∷ []), number_back c (decimal t ∷ []) is.0, number_back t [] is.1) refl
reason_back (Power c t) is =
    rw (reason_kind_back ThePower (decimal c ∷ decimal t ∷ []), number_back c (decimal t ∷ []) is.0, number_back t [] is.1) refl
reason_back (Usable t v n) is =
    rw (reason_kind_back TheUsable (decimal t ∷ v ∷ n ∷ []), number_back t (v ∷ n ∷ []) is.0, name_back v (n ∷ []) is.1, name_back n [] is.2) refl
reason_back (Hall c t set) is =
    rw (reason_kind_back TheHall (decimal c ∷ decimal t ∷ nodes_words set), number_back c (decimal t ∷ nodes_words set) is.0, number_back t (nodes_words set) is.1, nodes_back set is.2) refl

-- ---- goals

goal_of_only : (kind : GoalKind) (words : List Word) (x : Goal) (rest : List Word) → goal_of kind words ≡ Some (x, rest) → (goal_word kind ∷ words ≡ goal_words x ++ rest) × IsGoal x
unfolding goal_of
goal_of_only TheOptimal words x rest read =
    number_then _ words x rest read (λ cost rest_cost cost_is cost_good cost_then.
    let is = given (Optimal cost) x rest_cost rest cost_then in
    rw (← is.0) (rw (cost_is, is.1) refl, cost_good))
goal_of_only TheInfeasible words x rest read = let is = given Infeasible x words rest read in rw (← is.0) (ap (λ (l : List Word). goal_word TheInfeasible ∷ l) is.1, tt)
goal_of_only TheUndecided words x rest read =
    number_then _ words x rest read (λ count rest_count count_is count_good count_then.
    let is = given (Undecided count) x rest_count rest count_then in
    rw (← is.0) (rw (count_is, is.1) refl, count_good))

pub goal_only : (words : List Word) (x : Goal) (rest : List Word) → goal words ≡ Some (x, rest) → (words ≡ goal_words x ++ rest) × IsGoal x
unfolding goal
goal_only words x rest read =
    both goal_kind _ words x rest read (λ kind between first second.
    let found = goal_of_only kind between x rest second in
    (goal_kind_only words kind between first ∙ found.0, found.1))

pub goal_back : (x : Goal) → IsGoal x → goal (goal_words x) ≡ Some (x, [])
unfolding goal goal_of
goal_back (Optimal cost) is = rw (goal_kind_back TheOptimal (decimal cost ∷ []), number_back cost [] is) refl
goal_back Infeasible is = rw (goal_kind_back TheInfeasible []) refl
goal_back (Undecided count) is = rw (goal_kind_back TheUndecided (decimal count ∷ []), number_back count [] is) refl

-- ---- lines

line_of_only : (kind : LineKind) (words : List Word) (x : LineText) (rest : List Word) → line_of kind words ≡ Some (x, rest) → (line_word kind ∷ words ≡ line_words x ++ rest) × IsLine x
unfolding line_of
line_of_only TheDecide words x rest read =
    name_then _ words x rest read (λ e rest_e e_is e_good e_then.
    both part _ rest_e x rest e_then (λ side rest_side side_read side_then.
    let found = part_only rest_e side rest_side side_read in
    let is = given (Step (Decide e side)) x rest_side rest side_then in
    rw (← is.0) (rw (e_is, found.0, is.1) refl, (e_good, found.1))))
line_of_only TheCut words x rest read =
    name_then _ words x rest read (λ e rest_e e_is e_good e_then.
    both part _ rest_e x rest e_then (λ side rest_side side_read side_then.
    both reason _ rest_side x rest side_then (λ why rest_why why_read why_then.
    let found = part_only rest_e side rest_side side_read in
    let cause = reason_only rest_side why rest_why why_read in
    let is = given (Step (Cut e side why)) x rest_why rest why_then in
    rw (← is.0) (rw (e_is, found.0, cause.0, is.1) (ap (λ (l : List Word). line_word TheCut ∷ e ∷ l) (sym (append_assoc (part_words side) (reason_words why) rest))), (e_good, found.1, cause.1)))))
line_of_only TheFail words x rest read =
    both reason _ words x rest read (λ why rest_why why_read why_then.
    let cause = reason_only words why rest_why why_read in
    let is = given (Step (Fail why)) x rest_why rest why_then in
    rw (← is.0) (rw (cause.0, is.1) refl, cause.1))
line_of_only ThePlan words x rest read =
    number_then _ words x rest read (λ cost rest_cost cost_is cost_good cost_then.
    let is = given (Step (Plan cost)) x rest_cost rest cost_then in
    rw (← is.0) (rw (cost_is, is.1) refl, cost_good))
line_of_only TheLeft words x rest read = let is = given (Step Left) x words rest read in rw (← is.0) (ap (λ (l : List Word). line_word TheLeft ∷ l) is.1, tt)
line_of_only TheEnd words x rest read =
    both goal _ words x rest read (λ shown rest_shown shown_read shown_then.
    let found = goal_only words shown rest_shown shown_read in
    let is = given (End shown) x rest_shown rest shown_then in
    rw (← is.0) (rw (found.0, is.1) refl, found.1))

pub line_only : (words : List Word) (x : LineText) (rest : List Word) → line words ≡ Some (x, rest) → (words ≡ line_words x ++ rest) × IsLine x
unfolding line
line_only words x rest read =
    both line_kind _ words x rest read (λ kind between first second.
    let found = line_of_only kind between x rest second in
    (line_kind_only words kind between first ∙ found.0, found.1))

pub line_back : (x : LineText) → IsLine x → line (line_words x) ≡ Some (x, [])
unfolding line line_of
line_back (Step (Decide e side)) is =
    let read : part (part_words side) ≡ Some (side, []) = ap part (sym (append-nil (part_words side))) ∙ part_back side [] is.1 in
    rw (line_kind_back TheDecide (e ∷ part_words side), name_back e (part_words side) is.0, read) refl
line_back (Step (Cut e side why)) is =
    rw (line_kind_back TheCut (e ∷ (part_words side ++ reason_words why)), name_back e (part_words side ++ reason_words why) is.0, part_back side (reason_words why) is.1, reason_back why is.2) refl
line_back (Step (Fail why)) is = rw (line_kind_back TheFail (reason_words why), reason_back why is) refl
line_back (Step (Plan cost)) is = rw (line_kind_back ThePlan (decimal cost ∷ []), number_back cost [] is) refl
line_back (Step Left) is = rw (line_kind_back TheLeft []) refl
line_back (End shown) is = rw (line_kind_back TheEnd (goal_words shown), goal_back shown is) refl
