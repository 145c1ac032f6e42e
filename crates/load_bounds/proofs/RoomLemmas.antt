-- Which room a node has during a period.
use Rattle.load_bounds.proofs.Prelude.{◌≡◌, ℕ, suc, ◌+◌, ◌<◌, ◌≤◌, ◌==◌, ◌&&◌, ◌||◌, Bool, true, false, not, nat_le, nat_lt, cond, List, [], ◌∷◌, length, refl, sym, subst, arith, Contains, false≢true, lt-ltb, Decides-eqb, nat_tests, sum_to-le, sum_to-term, contains_here, surely_each, setting_room}
use Rattle.load_bounds.specs.Prelude.{Act, action_duration, all_nodes, capacity_of, Choice, choices, DomainView, HasRoom, Idle, Instance, is_online, is_steady, IsDuring, may, node, node_count, NodesFit, one, Period, room, Row, Sets, setting, Snapshot, stage_at, sum_to, sure, surely, usable_at}

-- ---- an online node is usable until a start, an offline one from an end

pub online-before : (p : Instance) (n t to : ℕ) (c : Choice) → is_online p.nodes n ≡ true → t ≤ to → usable_at p n to c ≡ true → usable_at p n t c ≡ true
unfolding usable_at stage_at
online-before p n t to Idle on l e = e
online-before p n t to (Act place start) on l e = rw on (at (rw on at e))
  where
    at : not (nat_le start to) ≡ true → not (nat_le start t) ≡ true
    at h = grind (arith, nat_tests, l, h)

pub offline-after : (p : Instance) (n from t : ℕ) (c : Choice) → is_online p.nodes n ≡ false → from ≤ t → usable_at p n from c ≡ true → usable_at p n t c ≡ true
unfolding usable_at stage_at
offline-after p n from t Idle off l e = e
offline-after p n from t (Act place start) off l e = rw off (at (action_duration p (node n) place) (rw off at e))
  where
    at : (d : ℕ) → nat_le (start + d) from ≡ true → nat_le (start + d) t ≡ true
    at d h = grind (arith, nat_tests, l, h)

-- ---- some choice

or-more : (a b c d : Bool) → (a ≡ true → c ≡ true) → (b ≡ true → d ≡ true) → (a || b) ≡ true → (c || d) ≡ true
or-more true b c d f g e = rw (f refl) refl
or-more false b true d f g e = refl
or-more false b false d f g e = g e

pub may-more : (f g : Choice → Bool) (cs : List Choice) → ((c : Choice) → f c ≡ true → g c ≡ true) → may f cs ≡ true → may g cs ≡ true
may-more f g [] h e = e
may-more f g (c ∷ cs) h e = or-more (f c) (may f cs) (g c) (may g cs) (h c) (may-more f g cs h) e

-- ---- between two instants

pub may-between : (p : Instance) (n t : ℕ) (x : Period) (cs : List Choice) → IsDuring x t → may (usable_at p n x.from) cs ≡ true → may (usable_at p n x.to) cs ≡ true → may (usable_at p n t) cs ≡ true
may-between p n t x cs h first last = by (is_online p.nodes n) refl
  where
    by : (b : Bool) → is_online p.nodes n ≡ b → may (usable_at p n t) cs ≡ true
    by true on = may-more (usable_at p n x.to) (usable_at p n t) cs (λ c e. online-before p n t x.to c on h.1 e) last
    by false off = may-more (usable_at p n x.from) (usable_at p n t) cs (λ c e. offline-after p n x.from t c off h.0 e) first

usable-between : (p : Instance) (n t : ℕ) (x : Period) (c : Choice) → IsDuring x t → usable_at p n x.from c ≡ true → usable_at p n x.to c ≡ true → usable_at p n t c ≡ true
usable-between p n t x c h first last = by (is_online p.nodes n) refl
  where
    by : (b : Bool) → is_online p.nodes n ≡ b → usable_at p n t c ≡ true
    by true on = online-before p n t x.to c on h.1 last
    by false off = offline-after p n x.from t c off h.0 first

-- ---- room

capacity-is-room : (p : Instance) (b : Snapshot) (n r : ℕ) → n < node_count p → b.usable n ≡ true → capacity_of p n r ≤ room p b r (one n)
capacity-is-room p b n r l on =
    let term = sum_to-term (node_count p) (λ m. cond (one n m) (cond (b.usable m) (capacity_of p m r) 0) 0) n l in
    let self : (n == n) ≡ true = (Decides-eqb n n).1 refl in
    let here : cond (one n n) (cond (b.usable n) (capacity_of p n r) 0) 0 ≡ capacity_of p n r = rw (self, on) refl in
    omega (arith, term, here)

pub room_while_usable : (p : Instance) (s : Sets) (r n : ℕ) (x : Period) → n < node_count p → (sure p s x.from).usable n ≡ true → (sure p s x.to).usable n ≡ true → HasRoom p s r (one n) x (capacity_of p n r)
unfolding sure
room_while_usable p s r n x l first last = record {
  at = λ t h. capacity-is-room p (sure p s t) n r l (may-between p n t x (s (node n)) h first last);
}

pub no_room : (p : Instance) (s : Sets) (r n : ℕ) (x : Period) → HasRoom p s r (one n) x 0
no_room p s r n x = record { at = λ t h. omega arith }

-- ---- with the node set to a choice

pub unused_fits : (p : Instance) (s : Sets) (r n : ℕ) (x : Period) (used : ℕ) → used ≡ 0 → NodesFit p s r (one n) x used
unused_fits p s r n x used none = record { each = λ m c t l i h. omega (arith, none) }

part-less : (a b d : Bool) (k : ℕ) → (a ≡ true → d ≡ true) → cond a (cond b k 0) 0 ≤ cond a (cond d k 0) 0
part-less true true d k f = rw (f refl) (omega arith)
part-less true false d k f = omega arith
part-less false b d k f = omega arith

pub usable_fits : (p : Instance) (s : Sets) (r n : ℕ) (x : Period) (used free : ℕ) → surely (usable_at p n x.from) (s (node n)) ≡ true → surely (usable_at p n x.to) (s (node n)) ≡ true → HasRoom p s r (one n) x free → used ≤ free → NodesFit p s r (one n) x used
usable_fits p s r n x used free first last room fits = record {
  each = λ m c t l i h.
      let change = setting_room p s m c t r (one n) l in
      let less = part-less (one n m) ((sure p s t).usable m) (usable_at p m t c) (capacity_of p m r) (λ e. on m c t i h ((Decides-eqb m n).0 e)) in
      let had = room.at t h in
      omega (arith, change, less, had, fits);
}
  where
    on : (m : ℕ) (c : Choice) (t : ℕ) → Contains (s (node m)) c → IsDuring x t → m ≡ n → usable_at p m t c ≡ true
    on m c t i h same =
        let j = subst (λ k. Contains (s (node k)) c) same i in
        subst (λ k. usable_at p k t c ≡ true) (sym same) (usable-between p n t x c h (surely_each (usable_at p n x.from) (s (node n)) c j first) (surely_each (usable_at p n x.to) (s (node n)) c j last))

-- ---- nodes that are usable at both ends of the period under each of their choices

later : (x : Choice) (xs : List Choice) (c : Choice) → Contains xs c → Contains (x ∷ xs) c
later x xs c h = (suc h.0, omega (arith, h.1), h.2)

may-within : (f g : Choice → Bool) (cs : List Choice) → ((c : Choice) → Contains cs c → f c ≡ true → g c ≡ true) → may f cs ≡ true → may g cs ≡ true
may-within f g [] h e = e
may-within f g (c ∷ cs) h e = or-more (f c) (may f cs) (g c) (may g cs) (h c (contains_here c cs)) (may-within f g cs (λ d i. h d (later c cs d i))) e

both : (a b : Bool) → (a && b) ≡ true → (a ≡ true) × (b ≡ true)
both true b e = (refl, e)
both false b e = absurd (false≢true e)

-- who is steady in each period may be used at each instant
pub usable_when_steady : (p : Instance) (s : Sets) (n : ℕ) → ((x : Period) → is_steady p s x n ≡ true) → (t : ℕ) → (sure p s t).usable n ≡ true
unfolding sure
usable_when_steady p s n steady t = (both (may (usable_at p n t) (s (node n))) (surely (usable_at p n t) (s (node n)) && surely (usable_at p n t) (s (node n))) (steady (record { from = t; to = t }))).0

pub steady_fits : (p : Instance) (s : Sets) (r n : ℕ) (x : Period) (used free : ℕ) → ((x : Period) → is_steady p s x n ≡ true) → HasRoom p s r (one n) x free → used ≤ free → NodesFit p s r (one n) x used
steady_fits p s r n x used free steady room fits =
    let rest = both (surely (usable_at p n x.from) (s (node n))) (surely (usable_at p n x.to) (s (node n))) (both (may (usable_at p n x.from) (s (node n))) (surely (usable_at p n x.from) (s (node n)) && surely (usable_at p n x.to) (s (node n))) (steady x)).1 in
    usable_fits p s r n x used free rest.0 rest.1 room fits

module _ (p : Instance) (s : Sets) (x : Period) (t : ℕ) (h : IsDuring x t) where
  pub each-steady : (n : ℕ) (c : Choice) → is_steady p s x n ≡ true → Contains (s (node n)) c → usable_at p n t c ≡ true
  each-steady n c e i =
      let rest = both (surely (usable_at p n x.from) (s (node n))) (surely (usable_at p n x.to) (s (node n))) (both (may (usable_at p n x.from) (s (node n))) (surely (usable_at p n x.from) (s (node n)) && surely (usable_at p n x.to) (s (node n))) e).1 in
      usable-between p n t x c h (surely_each (usable_at p n x.from) (s (node n)) c i rest.0) (surely_each (usable_at p n x.to) (s (node n)) c i rest.1)

  some-steady : (n : ℕ) → is_steady p s x n ≡ true → may (usable_at p n t) (s (node n)) ≡ true
  some-steady n e =
      may-within (usable_at p n x.from) (usable_at p n t) (s (node n)) (λ c i f. each-steady n c e i)
      (both (may (usable_at p n x.from) (s (node n))) (surely (usable_at p n x.from) (s (node n)) && surely (usable_at p n x.to) (s (node n))) e).0

  set-steady : (m n : ℕ) (c : Choice) → Contains (s (node m)) c → is_steady p s x n ≡ true → may (usable_at p n t) (setting (node m) c s (node n)) ≡ true
  set-steady m n c i e = by (n == m) refl
    where
      by : (b : Bool) → (n == m) ≡ b → may (usable_at p n t) (cond b (c ∷ []) (s (node n))) ≡ true
      by true is = let on : usable_at p n t c ≡ true = each-steady n c e (subst (λ k. Contains (s (node k)) c) (sym ((Decides-eqb n m).0 is)) i) in rw on refl
      by false is = some-steady n e

  part-of : (a b inside : Bool) (k : ℕ) → inside ≡ true → (a ≡ true → b ≡ true) → cond a k 0 ≤ cond inside (cond b k 0) 0
  part-of true b inside k e f = rw (e, f refl) (omega arith)
  part-of false b inside k e f = omega arith

  abbrev steady-sum : ℕ → ℕ
  steady-sum r = sum_to (node_count p) (λ n. cond (is_steady p s x n) (capacity_of p n r) 0)

  room-of-steady : (r : ℕ) (now : Sets) → ((n : ℕ) → is_steady p s x n ≡ true → may (usable_at p n t) (now (node n)) ≡ true) → steady-sum r ≤ room p (sure p now t) r (all_nodes p)
  unfolding sure
  room-of-steady r now f =
      sum_to-le (node_count p) (λ n. cond (is_steady p s x n) (capacity_of p n r) 0) (λ n. cond (all_nodes p n) (cond ((sure p now t).usable n) (capacity_of p n r) 0) 0)
      (λ n l. part-of (is_steady p s x n) (may (usable_at p n t) (now (node n))) (nat_lt n (node_count p)) (capacity_of p n r) (lt-ltb n (node_count p) l) (f n))

  pub steady-room : (r : ℕ) → steady-sum r ≤ room p (sure p s t) r (all_nodes p)
  steady-room r = room-of-steady r s some-steady

  pub steady-fits : (r m : ℕ) (c : Choice) → Contains (s (node m)) c → steady-sum r ≤ room p (sure p (setting (node m) c s) t) r (all_nodes p)
  steady-fits r m c i = room-of-steady r (setting (node m) c s) (λ n e. set-steady m n c i e)

-- ---- a node that can only stay as it is

pub stays_steady : (p : Instance) (s : Sets) (n : ℕ) (d : DomainView) (rows : List Row) → s (node n) ≡ choices d → is_online p.nodes n ≡ true → d.idle ≡ true → rows ≡ d.rows → length rows ≡ 0 → (x : Period) → is_steady p s x n ≡ true
unfolding usable_at stage_at
stays_steady p s n d rows is on idle same none x = let only : choices d ≡ Idle ∷ [] = rw (idle, sym same, empty rows none) refl in rw (is, only, on) refl
  where
    empty : (xs : List Row) → length xs ≡ 0 → xs ≡ []
    empty [] e = refl
    empty (y ∷ ys) e = absurd (omega (arith, e))
