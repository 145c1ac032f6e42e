-- A printed plan is small enough to be read again.
use Rattle.std.proofs.Common.{IfSome, IsTrue, codes, length-append}
use Rattle.base.proofs.Public.{ℕ, zero, suc, ◌+◌, ◌*◌, ◌≤◌, Bool, true, false, cond, List, [], ◌∷◌, ◌++◌, length, nat_lt, Option, Some, None, arith, length-decimal-le, flat_map, range_with_len, option_map_or}
use Rattle.plan_json.specs.Prelude.{Act, action_data, actions_data, Allocate, At, Boot, Choice, choice_data, choices_of, Element, element_at, element_count, element_data, Forge, Idle, Instance, inventory_of, is_legal, IsInstance, IsPlanOf, Kill, Kind, kind_of, kind_word, kind_words, Migrate, name_data, name_of, Node as TheNode, NodeBoot, NodeShutdown, Nowhere, Place, plan_data, plan_text, PlanChoices, Resume, Shutdown, Suspend, word_at}
use Rattle.json.specs.Print.{escape, escape_letter, escape_byte, quoted}
use Rattle.serde_json.specs.Data.{Data, string, number, unsigned, array, Members, member, no_members}
use Rattle.serde_json.specs.View.{items_of}
use Rattle.serde_json.specs.Written.{compact_text, items_text, members_text, comma_if}
use Rattle.cluster.proofs.Public.{IsListed-element_at, length-name_of}
use Rattle.plan_json.proofs.Again.{acts}

-- ---- texts

of_three : (a b : Bool) (x y z : List ℕ) (n : ℕ) → length x ≤ n → length y ≤ n → length z ≤ n → length (cond a x (cond b y z)) ≤ n
of_three true b x y z n h k l = h
of_three false true x y z n h k l = k
of_three false false x y z n h k l = l

length-escape_byte : (x : ℕ) → length (escape_byte x) ≤ 6
unfolding escape_byte
length-escape_byte x = of_three (nat_lt 0 (escape_letter x)) (nat_lt x 32) _ _ _ 6 (omega arith) (omega arith) (omega arith)

length-escape : (s : List ℕ) → length (escape s) ≤ 6 * length s
length-escape [] = omega arith
length-escape (x ∷ s) = omega (arith, length-append (escape_byte x) (escape s), length-escape_byte x, length-escape s)

length-quoted : (s : List ℕ) (n : ℕ) → length s ≤ n → length (quoted s) ≤ 6 * n + 2
length-quoted s n le = omega (arith, length-append (escape s) (34 ∷ []), length-escape s)

length-comma : (later : Bool) → length (comma_if later) ≤ 1
length-comma true = omega arith
length-comma false = omega arith

-- a member's key has at most a bytes, its text b, and what follows c
length-member : (later : Bool) (k : List ℕ) (d : Data) (ms : Members) (a b c : ℕ) → length k ≤ a → length (compact_text d) ≤ b → length (members_text true ms) ≤ c
    → length (members_text later (member k d ms)) ≤ 6 * a + b + c + 4
length-member later k d ms a b c key value rest =
    omega (
      arith,
      length-append (comma_if later) (quoted k ++ 58 ∷ (compact_text d ++ members_text true ms)),
      length-append (quoted k) (58 ∷ (compact_text d ++ members_text true ms)),
      length-append (compact_text d) (members_text true ms),
      length-comma later,
      length-quoted k a key,
    )

-- ---- names and words

length-name_data : (p : Instance) (e : Element) → IsInstance p → length (compact_text (name_data p e)) ≤ 386
length-name_data p e is = length-quoted (name_of (inventory_of p) e) 64 (length-name_of (inventory_of p) e is.inventory)

length-kind_word : (kind : Kind) → length (kind_word kind) ≤ 13
unfolding kind_word kind_words
length-kind_word Forge = omega arith
length-kind_word Boot = omega arith
length-kind_word Shutdown = omega arith
length-kind_word Suspend = omega arith
length-kind_word Resume = omega arith
length-kind_word Migrate = omega arith
length-kind_word Allocate = omega arith
length-kind_word Kill = omega arith
length-kind_word NodeBoot = omega arith
length-kind_word NodeShutdown = omega arith

length-word : (own : Option Kind) → length (option_map_or kind_word own []) ≤ 13
length-word None = omega arith
length-word (Some kind) = length-kind_word kind

-- ---- actions

length-start : (start : ℕ) → start ≤ 1000000 → length (members_text true (member (codes "start") (number (unsigned start)) no_members)) ≤ 42
length-start start le =
    length-member true (codes "start") (number (unsigned start)) no_members 5 7 1 (omega arith) (length-decimal-le 7 start (omega arith) (omega arith) (omega arith)) (omega arith)

length-kind : (p : Instance) (e : Element) (place : Place) (ms : Members) (n : ℕ) → length (members_text true ms) ≤ n
    → length (members_text true (member (codes "kind") (string (word_at p e place)) ms)) ≤ n + 108
length-kind p e place ms n rest =
    let h = length-member true (codes "kind") (string (word_at p e place)) ms 4 80 n (omega arith) (length-quoted (word_at p e place) 13 (length-word (kind_of p e place))) rest in
    omega arith

length-action_data : (p : Instance) (e : Element) (place : Place) (start : ℕ) → IsInstance p → start ≤ 1000000 → length (compact_text (action_data p e place start)) ≤ 1003
unfolding action_data
length-action_data p e Nowhere start is early =
    let kind = length-kind p e Nowhere (member (codes "start") (number (unsigned start)) no_members) 462 (omega (arith, length-start start early)) in
    let all = length-member false (codes "element") (name_data p e) (member (codes "kind") (string (word_at p e Nowhere)) (member (codes "start") (number (unsigned start)) no_members))
    7 386 570 (omega arith) (length-name_data p e is) kind in
    omega arith
length-action_data p e (At n) start is early =
    let place = length-member true (codes "place") (name_data p (TheNode n)) (member (codes "start") (number (unsigned start)) no_members)
    5 386 42 (omega arith) (length-name_data p (TheNode n) is) (length-start start early) in
    let kind = length-kind p e (At n) (member (codes "place") (name_data p (TheNode n)) (member (codes "start") (number (unsigned start)) no_members)) 462 place in
    let all = length-member false (codes "element") (name_data p e)
    (member (codes "kind") (string (word_at p e (At n))) (member (codes "place") (name_data p (TheNode n)) (member (codes "start") (number (unsigned start)) no_members)))
    7 386 570 (omega arith) (length-name_data p e is) kind in
    omega arith

length-choice : (p : Instance) (later : Bool) (e : Element) (c : Choice) (rest : List Data) (n : ℕ) → IsInstance p → IsTrue (is_legal p e c)
    → ((l : Bool) → length (items_text l (items_of rest)) ≤ n) → length (items_text later (items_of (choice_data p e c ++ rest))) ≤ n + 1004
length-choice p later e Idle rest n is legal le = let h = le later in omega arith
length-choice p later e (Act place start) rest n is legal le =
    omega (
      arith,
      length-append (comma_if later) (compact_text (action_data p e place start) ++ items_text true (items_of rest)),
      length-append (compact_text (action_data p e place start)) (items_text true (items_of rest)),
      length-comma later,
      length-action_data p e place start is (acts p e place start is legal).early,
      le true,
    )

length-choices : (p : Instance) (plan : PlanChoices) (later : Bool) (x k : ℕ) → IsInstance p → IsPlanOf p plan → x + k ≤ element_count (inventory_of p)
    → length (items_text later (items_of (flat_map (element_data p plan) (range_with_len x k)))) ≤ 1004 * k + 1
length-choices p plan later x zero is plan_is within = omega arith
length-choices p plan later x (suc k) is plan_is within =
    let e = element_at (inventory_of p) x in
    let h = length-choice p later e (choices_of plan e) (flat_map (element_data p plan) (range_with_len (x + 1) k)) (1004 * k + 1) is
    (plan_is.legal e (IsListed-element_at (inventory_of p) x (omega arith))) (λ l. length-choices p plan l (x + 1) k is plan_is (omega arith)) in
    omega arith

length-plan_data : (p : Instance) (plan : Option PlanChoices) → IsInstance p → IfSome plan (IsPlanOf p) → length (compact_text (plan_data p plan)) ≤ 4626483
unfolding plan_data actions_data
length-plan_data p None is plan_is = omega arith
length-plan_data p (Some plan) is plan_is =
    let list = array (items_of (flat_map (element_data p plan) (range_with_len 0 (element_count (inventory_of p))))) in
    let items = length-choices p plan false 0 (element_count (inventory_of p)) is plan_is (omega arith) in
    let all = length-member false (codes "actions") list no_members 7 4626434 1 (omega arith) (omega (arith, items, is.inventory.few_nodes, is.inventory.few_machines)) (omega arith) in
    omega arith

-- below 67,108,864 bytes by far
pub length-plan_text : (p : Instance) (plan : Option PlanChoices) → IsInstance p → IfSome plan (IsPlanOf p) → length (plan_text p plan) ≤ 4626484
unfolding plan_text
length-plan_text p plan is plan_is = omega (arith, length-append (compact_text (plan_data p plan)) (10 ∷ []), length-plan_data p plan is plan_is)
