-- Where the nodes that are surely powered at the ends of a period are no more than the amount, so it is during it.
use Rattle.power_bounds.proofs.Prelude.{◌≡◌, inl, inr, ℕ, ◌<◌, ◌≤◌, ◌==◌, ◌||◌, ◌&&◌, Bool, true, false, cond, List, [], ◌∷◌, length, slice_index_or, refl, sym, ◌∙◌, arith, IsTrue, nat_tests, sum_to-le, ends_of_rows, machine_change, setting_agrees, setting_powered}
use Rattle.power_bounds.specs.Prelude.{Act, AreNotPowered, Choice, choices, Climbs, DomainView, Element, Idle, Instance, is_online, IsDuring, IsElement, IsEnd, IsPoweredFit, IsRowEnd, no_row, Node as TheNode, node, node_count, Nodes, Period, power_most, powered_at, powered_nodes, PowerStaysAt, PowerStaysDuring, PowerStaysWhenDue, Row, Sets, setting, sum_to, sure, surely, Vm, vm}
use Rattle.slices.specs.Prelude.{action_duration, powered_of, stage_at, stage_of}

module _ (p : Instance) (n from t to : ℕ) (first : from ≤ t) (last : t ≤ to) where
  -- ---- one choice: a node that is online has been powered before, one that is not stays so

  was : (c : Choice) → is_online p.nodes n ≡ true → powered_at p n t c ≡ true → powered_at p n from c ≡ true
  unfolding powered_at stage_at
  was Idle on h = rw on refl
  was (Act place s) on h = rw on (at (action_duration p (node n) place) (rw on at h))
    where
      at : (d : ℕ) → powered_of true (Act place s) (stage_of d (Act place s) t) ≡ true → powered_of true (Act place s) (stage_of d (Act place s) from) ≡ true
      at d e = grind (arith, nat_tests, e, first)

  will : (c : Choice) → is_online p.nodes n ≡ false → powered_at p n t c ≡ true → powered_at p n to c ≡ true
  unfolding powered_at stage_at
  will Idle off h = h
  will (Act place s) off h = rw off (at (action_duration p (node n) place) (rw off at h))
    where
      at : (d : ℕ) → powered_of false (Act place s) (stage_of d (Act place s) t) ≡ true → powered_of false (Act place s) (stage_of d (Act place s) to) ≡ true
      at d e = grind (arith, nat_tests, e, last)

  stays-on : (c : Choice) → powered_at p n from c ≡ true → powered_at p n to c ≡ true → powered_at p n t c ≡ true
  unfolding powered_at stage_at
  stays-on Idle a b = a
  stays-on (Act place s) a b = at (is_online p.nodes n) (action_duration p (node n) place) a b
    where
      at : (online : Bool) (d : ℕ) → powered_of online (Act place s) (stage_of d (Act place s) from) ≡ true → powered_of online (Act place s) (stage_of d (Act place s) to) ≡ true → powered_of online (Act place s) (stage_of d (Act place s) t) ≡ true
      at true d e f = grind (arith, nat_tests, f, last)
      at false d e f = grind (arith, nat_tests, e, first)

  one-end : (c : Choice) → powered_at p n t c ≡ true → (powered_at p n from c || powered_at p n to c) ≡ true
  one-end c h = by (is_online p.nodes n) refl
    where
      or-right : (a b : Bool) → b ≡ true → (a || b) ≡ true
      or-right true b e = refl
      or-right false b e = e

      by : (b : Bool) → is_online p.nodes n ≡ b → (powered_at p n from c || powered_at p n to c) ≡ true
      by true on = rw (was c on h) refl
      by false off = or-right (powered_at p n from c) (powered_at p n to c) (will c off h)

  -- ---- all choices

  surely-more : (f g : Choice → Bool) (cs : List Choice) → ((c : Choice) → f c ≡ true → g c ≡ true) → surely f cs ≡ true → surely g cs ≡ true
  surely-more f g [] to_g e = refl
  surely-more f g (c ∷ cs) to_g e =
      let both = parts (f c) (surely f cs) e in
      rw (to_g c both.0, surely-more f g cs to_g both.1) refl
    where
      parts : (a b : Bool) → (a && b) ≡ true → (a ≡ true) × (b ≡ true)
      parts true b e = (refl, e)
      parts false b e = absurd (let no : false ≡ true = e in cc)

  surely-both : (f g h : Choice → Bool) (cs : List Choice) → ((c : Choice) → f c ≡ true → g c ≡ true → h c ≡ true) → surely f cs ≡ true → surely g cs ≡ true → surely h cs ≡ true
  surely-both f g h [] to_h a b = refl
  surely-both f g h (c ∷ cs) to_h a b =
      let one = parts (f c) (surely f cs) a in
      let two = parts (g c) (surely g cs) b in
      rw (to_h c one.0 two.0, surely-both f g h cs to_h one.1 two.1) refl
    where
      parts : (a b : Bool) → (a && b) ≡ true → (a ≡ true) × (b ≡ true)
      parts true b e = (refl, e)
      parts false b e = absurd (let no : false ≡ true = e in cc)

  module _ (s : Sets) where
    sure-end : (sure p s t).powered n ≡ true → ((sure p s from).powered n || (sure p s to).powered n) ≡ true
    unfolding sure
    sure-end h = by (is_online p.nodes n) refl
      where
        or-right : (a b : Bool) → b ≡ true → (a || b) ≡ true
        or-right true b e = refl
        or-right false b e = e

        by : (b : Bool) → is_online p.nodes n ≡ b → (surely (powered_at p n from) (s (node n)) || surely (powered_at p n to) (s (node n))) ≡ true
        by true on = rw (surely-more (powered_at p n t) (powered_at p n from) (s (node n)) (λ c. was c on) h) refl
        by false off = or-right (surely (powered_at p n from) (s (node n))) (surely (powered_at p n to) (s (node n))) (surely-more (powered_at p n t) (powered_at p n to) (s (node n)) (λ c. will c off) h)

    sure-both : (sure p s from).powered n ≡ true → (sure p s to).powered n ≡ true → (sure p s t).powered n ≡ true
    unfolding sure
    sure-both a b = surely-both (powered_at p n from) (powered_at p n to) (powered_at p n t) (s (node n)) (λ c. stays-on c) a b

module _ (p : Instance) (s : Sets) (x : Period) where
  -- both ends of each row
  abbrev pub RowsOff : ℕ → List Row → ℕ → Type 0
  RowsOff n rows count = (i : ℕ) → i < count → AreNotPowered p n x (Act (slice_index_or rows i no_row).place (slice_index_or rows i no_row).lo) × AreNotPowered p n x (Act (slice_index_or rows i no_row).place (slice_index_or rows i no_row).hi)

  pub all_off : (n count : ℕ) (d : DomainView) (rows : List Row) → s (node n) ≡ choices d → rows ≡ d.rows → Climbs 0 rows → length rows ≤ count → (d.idle ≡ true → AreNotPowered p n x Idle) → RowsOff n rows count → (c : Choice) → IsEnd (s (node n)) c → AreNotPowered p n x c
  all_off n count d rows seen same climbs past idle off c end = at c ((ends_of_rows d (rw same at climbs) c).0 (rw seen at end))
    where
      at : (c : Choice) → IsRowEnd d c → AreNotPowered p n x c
      at Idle e = idle e
      at (Act place start) e =
          let both = off e.0 (let low : e.0 < length rows = rw same e.1 in omega (arith, past, low)) in
          elim e.3 [ inl lo ↦ rw (← e.2, ← lo) (rw same at both.0) | inr hi ↦ rw (← e.2, ← hi) (rw same at both.1) ]

module _ (p : Instance) (s : Sets) (set : Nodes) (x : Period) where
  -- ---- one node

  pub out_fits : (n : ℕ) → set n ≡ false → IsPoweredFit p s set x n
  out_fits n out = record { each = λ t c h end on powered. absurd (let no : false ≡ true = sym out ∙ on in cc) }

  pub on_fits : (n : ℕ) → (sure p s x.from).powered n ≡ true → (sure p s x.to).powered n ≡ true → IsPoweredFit p s set x n
  on_fits n a b = record { each = λ t c h end on powered. sure-both p n x.from t x.to h.0 h.1 s a b }

  pub off_fits : (n : ℕ) → ((c : Choice) → IsEnd (s (node n)) c → AreNotPowered p n x c) → IsPoweredFit p s set x n
  off_fits n off = record { each = λ t c h end on powered. absurd (no t c h (off c end) powered) }
    where
      no : (t : ℕ) (c : Choice) → IsDuring x t → AreNotPowered p n x c → powered_at p n t c ≡ true → ⊥
      no t c h both powered = let some = one-end p n x.from t x.to h.0 h.1 c powered in let none : false ≡ true = rw (both.0, both.1) at some in cc

  -- ---- all nodes

  module _ (amount total : ℕ) (is : total ≡ sum_to (node_count p) (power_most p s set x)) where
    one-less : (n t : ℕ) → IsDuring x t → cond (set n) (cond ((sure p s t).powered n) 1 0) 0 ≤ power_most p s set x n
    one-less n t h = at (set n) ((sure p s t).powered n) ((sure p s x.from).powered n || (sure p s x.to).powered n) (sure-end p n x.from t x.to h.0 h.1 s)
      where
        at : (a b c : Bool) → (b ≡ true → c ≡ true) → cond a (cond b 1 0) 0 ≤ cond (a && c) 1 0
        at false b c l = omega arith
        at true false c l = omega arith
        at true true c l = rw (l refl) (omega arith)

    count-less : (t : ℕ) → IsDuring x t → powered_nodes p (sure p s t) set ≤ total
    count-less t h =
        let less = sum_to-le (node_count p) (λ n. cond (set n) (cond ((sure p s t).powered n) 1 0) 0) (power_most p s set x) (λ n low. one-less n t h) in
        omega (arith, is, less)

    most-one : (a b : Bool) → cond a (cond b 1 0) 0 ≤ 1
    most-one true true = omega arith
    most-one true false = omega arith
    most-one false b = omega arith

    machine : (v : ℕ) (c : Choice) (t : ℕ) → IsElement p (vm v) → IsDuring x t → powered_nodes p (sure p (setting (vm v) c s) t) set ≤ total
    machine v c t low h = let same = (machine_change p (setting (vm v) c s) s v t low (setting_agrees s (vm v) c)).of_powered set in omega (arith, same, count-less t h)

    pub power_spare : total < amount → PowerStaysDuring p s set amount x
    power_spare l t h = record { base = λ over. omega (arith, over, l, count-less t h); ends = λ e c i end over. at e c i end over }
      where
        at : (e : Element) (c : Choice) → IsElement p e → IsEnd (s e) c → amount < powered_nodes p (sure p (setting e c s) t) set → ⊥
        at (Vm v) c i end over = omega (arith, over, l, machine v.0 c t i h)
        at (TheNode n) c i end over = omega (arith, over, l, count-less t h, setting_powered p s n.0 c t set i, most-one (set n.0) (powered_at p n.0 t c))

    pub power_full : total ≤ amount → ((n : ℕ) → n < node_count p → IsPoweredFit p s set x n) → PowerStaysDuring p s set amount x
    power_full l fits t h = record { base = λ over. omega (arith, over, l, count-less t h); ends = λ e c i end over. at e c i end over }
      where
        own : (n : ℕ) (c : Choice) → n < node_count p → IsEnd (s (node n)) c → cond (set n) (cond (powered_at p n t c) 1 0) 0 ≤ cond (set n) (cond ((sure p s t).powered n) 1 0) 0
        own n c low end = by (set n) (powered_at p n t c) refl refl
          where
            by : (a b : Bool) → set n ≡ a → powered_at p n t c ≡ b → cond a (cond b 1 0) 0 ≤ cond a (cond ((sure p s t).powered n) 1 0) 0
            by false b e f = omega arith
            by true false e f = omega arith
            by true true e f = rw ((fits n low).each t c h end e f) (omega arith)

        at : (e : Element) (c : Choice) → IsElement p e → IsEnd (s e) c → amount < powered_nodes p (sure p (setting e c s) t) set → ⊥
        at (Vm v) c i end over = omega (arith, over, l, machine v.0 c t i h)
        at (TheNode n) c i end over = omega (arith, over, l, count-less t h, setting_powered p s n.0 c t set i, own n.0 c i end)

-- ---- period by period

module _ (p : Instance) (s : Sets) (set : Nodes) (amount : ℕ) where
  pub power_always : (always : Bool) → ((t : ℕ) → t ≤ p.horizon → PowerStaysAt p s set amount t) → PowerStaysWhenDue p s set amount always
  power_always always stays t l due = stays t l

  pub power_last : (always : Bool) → always ≡ false → PowerStaysAt p s set amount p.horizon → PowerStaysWhenDue p s set amount always
  power_last always off stays t l due = let last : t ≡ p.horizon = is t (rw off at due) in rw last stays
    where
      is : (t : ℕ) → IsTrue (false || (t == p.horizon)) → t ≡ p.horizon
      is t e = grind (arith, nat_tests, e)
