-- From one level of the comparison to the next.
use Rattle.std.proofs.Common.{◌≡◌, ◌≢◌, ◌↔◌, ℕ, ◌+◌, ◌-◌, ◌<◌, ◌≤◌, List, [], ◌∷◌, ◌++◌, length, take, drop, get_or, refl, sym, ap, ap₂, ◌∙◌, subst, arith, ◌⊎◌, inl, inr, sum_by, count_by, cond, Bool}
use Rattle.std.proofs.lemmas.List.{length-take, length-take-le, drop-take}
use Rattle.std.proofs.lemmas.List.Sums.{sum_by-cons, sum_by-append}
use Rattle.uc_term.specs.declared.node.Sym.{Sym}
use Rattle.uc_term.specs.declared.node.Node.{Node}
use Rattle.uc_term.specs.declared.node.Node.TheVariants.{Var, App}
use Rattle.uc_term.specs.Tree.{Tree, var, app, Trees, none, more, of_list, count, nodes, nodes_all}
use Rattle.uc_term.specs.Flat.{flat, flat_all, spelled, tree_of, IsWhole, AreWhole}
use Rattle.uc_term.specs.Variables.{variables, variables_all}
use Rattle.uc_term.proofs.Terms.{whole-drop, count-of_list}
use Rattle.uc_term.proofs.Ahead.{drop-at}
use Rattle.uc_order.specs.declared.order.Cmp.{Cmp}
use Rattle.uc_order.specs.declared.order.Cmp.TheVariants.{Greater, Less, Equal}
use Rattle.uc_order.proofs.Climbing.{Begins, begins, Front, front_none, front_var, front_app, arity_of, Around, around, around_ends, same_node, counts_same, at_whole, differ_at, begins_all, at_root, node_at, front_from}
use Rattle.uc_kbo.specs.Kbo.{Weighing, weight, weight_all, Kbo, Tower, tower_last, tower_copy}
use Rattle.uc_kbo.specs.declared.run.Run.{Run}
use Rattle.uc_kbo.specs.Runs.{IsRun, part, Beats, IsVerdict, IsOver, IsStack, node_weight, is_counted}
use Rattle.uc_kbo.proofs.Parts.{sum_join}
use Rattle.uc_kbo.proofs.Level.{Agree, Level, Decided, kbo_level, level_up, differ_up, irreflexive}

-- weights and counts, read from the flat list
module _ (w : Weighing) where
  mutual
    pub weight-flat : (t : Tree) → sum_by (node_weight w) (flat t) ≡ weight w t
    weight-flat (var x) = omega arith
    weight-flat (app f ts) = omega (arith, sum_by-cons (node_weight w) (App f (count ts)) (flat_all ts), weight-flat_all ts)

    pub weight-flat_all : (ts : Trees) → sum_by (node_weight w) (flat_all ts) ≡ weight_all w ts
    weight-flat_all none = refl
    weight-flat_all (more t ts) = omega (arith, sum_by-append (node_weight w) (flat t) (flat_all ts), weight-flat t, weight-flat_all ts)

mutual
  pub count-flat : (p : ℕ → Bool) (t : Tree) → count_by (is_counted p) (flat t) ≡ count_by p (variables t)
  count-flat p (var y) = refl
  count-flat p (app f ts) = omega (arith, sum_by-cons (λ n. cond (is_counted p n) 1 0) (App f (count ts)) (flat_all ts), count-flat_all p ts)

  pub count-flat_all : (p : ℕ → Bool) (ts : Trees) → count_by (is_counted p) (flat_all ts) ≡ count_by p (variables_all ts)
  count-flat_all p none = refl
  count-flat_all p (more t ts) = omega (arith, sum_by-append (λ n. cond (is_counted p n) 1 0) (flat t) (flat_all ts), sum_by-append (λ y. cond (p y) 1 0) (variables t) (variables_all ts), count-flat p t, count-flat_all p ts)

iff_trans : {A B C : Type 0} → A ↔ B → B ↔ C → A ↔ C
iff_trans p q = (λ a. q.0 (p.0 a), λ c. p.1 (q.1 c))

iff_sym : {A B : Type 0} → A ↔ B → B ↔ A
iff_sym p = (p.1, p.0)

-- the nodes at the front of both
pub common_part : (s t : List Node) (i at : ℕ) → i ≤ at → take at s ≡ take at t → part s i at ≡ part t i at
common_part s t i at h e =
    let m : at ≡ i + (at - i) = omega arith in
    let g = λ (ns : List Node). (let k : drop i (take at ns) ≡ take (at - i) (drop i ns) = ap (λ n. drop i (take n ns)) m ∙ drop-take i (at - i) ns in k) in
    sym (g s) ∙ ap (drop i) e ∙ g t

module _ (w : Weighing) (test : ℕ → ℕ → Bool) (above : ℕ → ℕ → Type 0) (agree : Agree test above) (slot : ℕ → ℕ) where
  weight_parts : (ns : List Node) (i at e : ℕ) → i ≤ at → at ≤ e → Begins ns i e → weight w (tree_of (drop i ns)) ≡ sum_by (node_weight w) (part ns i at) + sum_by (node_weight w) (part ns at e)
  weight_parts ns i at e h k b = sym (weight-flat w (tree_of (drop i ns))) ∙ ap (sum_by (node_weight w)) (sym b.nodes_are) ∙ sum_join (node_weight w) ns i at e h k

  count_parts : (x : ℕ) (ns : List Node) (i at e : ℕ) → i ≤ at → at ≤ e → Begins ns i e → count_by (test x) (variables (tree_of (drop i ns))) ≡ count_by (is_counted (test x)) (part ns i at) + count_by (is_counted (test x)) (part ns at e)
  count_parts x ns i at e h k b = sym (count-flat (test x) (tree_of (drop i ns))) ∙ ap (count_by (is_counted (test x))) (sym b.nodes_are) ∙ sum_join (λ m. cond (is_counted (test x) m) 1 0) ns i at e h k

  module _ (s t : List Node) (i at e f : ℕ) (h : i ≤ at) (k : at ≤ e) (l : at ≤ f) (b : Begins s i e) (c : Begins t i f) (common : take at s ≡ take at t) where
    into : (E : Type 0) → Beats w test above (part s at e) (part t at f) E → Decided w test above agree (tree_of (drop i s)) (tree_of (drop i t)) E
    into E d =
        let same = common_part s t i at h common in
        let p = weight_parts s i at e h k b in
        let q = weight_parts t i at f h l c in
        let r = ap (sum_by (node_weight w)) same in
        (λ x. omega (arith, d.0 x, count_parts x s i at e h k b, count_parts x t i at f h l c, ap (count_by (is_counted (test x))) same), elim d.1 [ inl m ↦ inl (omega arith) | inr m ↦ inr (omega (arith, m.0), m.1) ])

    out : (E : Type 0) → Decided w test above agree (tree_of (drop i s)) (tree_of (drop i t)) E → Beats w test above (part s at e) (part t at f) E
    out E d =
        let same = common_part s t i at h common in
        let p = weight_parts s i at e h k b in
        let q = weight_parts t i at f h l c in
        let r = ap (sum_by (node_weight w)) same in
        (λ x. omega (arith, d.0 x, count_parts x s i at e h k b, count_parts x t i at f h l c, ap (count_by (is_counted (test x))) same), elim d.1 [ inl m ↦ inl (omega arith) | inr m ↦ inr (omega (arith, m.0), m.1) ])

    -- what else is asked at equal weights is the level's
    pub answer : (V E : Type 0) → V ↔ Beats w test above (part s at e) (part t at f) E → E ↔ Level w test above agree (tree_of (drop i s)) (tree_of (drop i t)) → V ↔ Kbo w test above (tree_of (drop i s)) (tree_of (drop i t))
    answer V E a j =
        let lv = kbo_level w test above agree (tree_of (drop i s)) (tree_of (drop i t)) in (
          λ v. let d = into E (a.0 v) in lv.1 (d.0, elim d.1 [ inl m ↦ inl m | inr m ↦ inr (m.0, j.0 m.1) ]),
          λ g. let d = lv.0 g in a.1 (out E (d.0, elim d.1 [ inl m ↦ inl m | inr m ↦ inr (m.0, j.1 m.1) ])),
        )

    -- the weights differ
    pub answer_heavy : (V E : Type 0) → V ↔ Beats w test above (part s at e) (part t at f) E → sum_by (node_weight w) (part s at e) ≢ sum_by (node_weight w) (part t at f) → V ↔ Kbo w test above (tree_of (drop i s)) (tree_of (drop i t))
    answer_heavy V E a ne =
        let lv = kbo_level w test above agree (tree_of (drop i s)) (tree_of (drop i t)) in
        let same = common_part s t i at h common in
        let p = weight_parts s i at e h k b in
        let q = weight_parts t i at f h l c in
        let r = ap (sum_by (node_weight w)) same in (
          λ v. let d = into E (a.0 v) in lv.1 (d.0, elim d.1 [ inl m ↦ inl m | inr m ↦ absurd (ne (omega (arith, m.0))) ]),
          λ g. let d = lv.0 g in a.1 (out E (d.0, elim d.1 [ inl m ↦ inl m | inr m ↦ absurd (ne (omega (arith, m.0))) ])),
        )

-- towers, by their nodes
first_arg : (f : Sym) (m : Node) (ns : List Node) → tree_of (App f 1 ∷ m ∷ ns) ≡ app f (more (tree_of (m ∷ ns)) none)
first_arg f (Var y) ns = refl
first_arg f (App g k) ns = refl

args_one : (m : Node) (ns : List Node) → more (tree_of (m ∷ ns)) none ≡ of_list (take 1 (spelled (m ∷ ns)))
args_one (Var y) ns = refl
args_one (App g k) ns = refl

module _ (w : Weighing) (test : ℕ → ℕ → Bool) (above : ℕ → ℕ → Type 0) (agree : Agree test above) where
  -- a tower over a variable that is x or above it
  abbrev Over : Tree → ℕ → Type 0
  Over t x = (y : ℕ) × (Tower w t y × ((y ≡ x) ⊎ above y x))

  at_one : (f : Sym) (n : ℕ) (m : Node) (ns : List Node) (x : ℕ) → n ≡ 1 → Over (app f (more (tree_of (m ∷ ns)) none)) x → Over (tree_of (App f n ∷ m ∷ ns)) x
  at_one f n m ns x e o = let P : Tree → Type 0 = λ t. Over t x in subst P (sym (ap (λ k. tree_of (App f k ∷ m ∷ ns)) e ∙ first_arg f m ns)) o

  light_one : (f : Sym) (n : ℕ) → n ≡ 1 → w.weight_of f n ≡ 0 → w.weight_of f 1 ≡ 0
  light_one f n e z = ap (w.weight_of f) (sym e) ∙ z

  to_tower : (f : Sym) (n x : ℕ) (ns : List Node) → IsStack w test above (App f n ∷ ns) x → Over (tree_of (App f n ∷ ns)) x
  to_tower f n x [] h = absurd h.2
  to_tower f n x (Var y ∷ ns) h = at_one f n (Var y) ns x h.0 (y, (tower_last (light_one f n h.0 h.1), h.2))
  to_tower f n x (App g k ∷ ns) h = let o = to_tower g k x ns h.2 in at_one f n (App g k) ns x h.0 (o.0, (tower_copy (light_one f n h.0 h.1) o.1.0, o.1.1))

  -- the parts of a tower
  record Lifted (f : Sym) (ts : Trees) (x : ℕ) : Type 0 where
    light : w.weight_of f 1 ≡ 0
    inner : Tree
    one : ts ≡ more inner none
    below : (inner ≡ var x) ⊎ Tower w inner x

  lifted : (f : Sym) (ts : Trees) (x : ℕ) → Tower w (app f ts) x → Lifted f ts x
  lifted f none x p = elim p [ ]
  lifted f (more t (more u us)) x p = elim p [ ]
  lifted f (more (var y) none) x (tower_last z) = record { light = z; inner = var y; one = refl; below = inl refl }
  lifted f (more t none) x (tower_copy z p) = record { light = z; inner = t; one = refl; below = inr p }

  tower_heads : (y x : ℕ) → Tower w (var y) x → ⊥
  tower_heads y x p = elim p [ ]

  record Peeled (f : Sym) (n x : ℕ) (m : Node) (ns : List Node) : Type 0 where
    one : n ≡ 1
    light : w.weight_of f n ≡ 0
    whole : AreWhole (m ∷ ns)
    below : (tree_of (m ∷ ns) ≡ var x) ⊎ Tower w (tree_of (m ∷ ns)) x

  below_is : (x : ℕ) (t u : Tree) → t ≡ u → (u ≡ var x) ⊎ Tower w u x → (t ≡ var x) ⊎ Tower w t x
  below_is x t u e (inl q) = inl (e ∙ q)
  below_is x t u e (inr q) = inr (let P : Tree → Type 0 = λ z. Tower w z x in subst P (sym e) q)

  peeled : (f : Sym) (n x : ℕ) (m : Node) (ns : List Node) → AreWhole (App f n ∷ m ∷ ns) → Tower w (tree_of (App f n ∷ m ∷ ns)) x → Peeled f n x m ns
  peeled f n x m ns a p =
      let l = lifted f (of_list (take n (spelled (m ∷ ns)))) x p in
      let many = arity_of f n (m ∷ ns) a in
      let count_one = ap count l.one in
      let one : n ≡ 1 = omega (arith, count_one, count-of_list (take n (spelled (m ∷ ns))), length-take-le n (spelled (m ∷ ns)) many) in
      let same : more (tree_of (m ∷ ns)) none ≡ more l.inner none = args_one m ns ∙ ap (λ k. of_list (take k (spelled (m ∷ ns)))) (sym one) ∙ l.one in
      record { one = one; light = ap (w.weight_of f) one ∙ l.light; whole = whole-drop 1 (App f n ∷ m ∷ ns) a; below = below_is x (tree_of (m ∷ ns)) l.inner (cc) l.below }

  from_tower : (f : Sym) (n x y : ℕ) (ns : List Node) → AreWhole (App f n ∷ ns) → Tower w (tree_of (App f n ∷ ns)) y → (y ≡ x) ⊎ above y x → IsStack w test above (App f n ∷ ns) x
  from_tower f n x y [] a p d =
      let l = lifted f (of_list (take n [])) y p in
      let many = arity_of f n [] a in
      let none_taken = ap count l.one in
      absurd (omega (arith, count-of_list (take n []), length-take {A = Tree} n [], none_taken, many))
  from_tower f n x y (Var z ∷ ns) a p d =
      let l = peeled f n y (Var z) ns a p in
      (l.one, l.light, elim l.below [ inl q ↦ (let e : z ≡ y = cc in subst (λ (v : ℕ). (v ≡ x) ⊎ above v x) (sym e) d) | inr q ↦ absurd (tower_heads z y q) ])
  from_tower f n x y (App g k ∷ ns) a p d =
      let l = peeled f n y (App g k) ns a p in
      (l.one, l.light, elim l.below [ inl q ↦ absurd cc | inr q ↦ from_tower g k x y ns l.whole q d ])

  count_is : (f : Sym) (n : ℕ) (ms : List Node) → AreWhole (App f n ∷ ms) → count (of_list (take n (spelled ms))) ≡ n
  count_is f n ms wm = omega (arith, count-of_list (take n (spelled ms)), length-take-le n (spelled ms) (arity_of f n ms wm))

  level_nodes : (a b : Node) (ms ns : List Node) → AreWhole (a ∷ ms) → AreWhole (b ∷ ns) → a ≢ b → IsOver w test above (a ∷ ms) (b ∷ ns) ↔ Level w test above agree (tree_of (a ∷ ms)) (tree_of (b ∷ ns))
  level_nodes (App f n) (App g m) ms ns wh wk ne =
      let p = ap (w.rank f) (count_is f n ms wh) in
      let q = ap (w.rank g) (count_is g m ns wk) in
      (λ r. inl (omega arith), λ l. elim l [ inl r ↦ omega arith | inr d ↦ absurd (ne (ap₂ App d.0 (counts_same f g n m ms ns wh wk d.1))) ])
  level_nodes (App f n) (Var y) ms ns wh wk ne = (λ r. to_tower f n y ms r, λ l. from_tower f n y l.0 ms wh l.1.0 l.1.1)
  level_nodes (Var x) (Var y) ms ns wh wk ne = (λ r. r, λ l. l)
  level_nodes (Var x) (App g m) ms ns wh wk ne = (λ r. absurd r, λ l. absurd l)

  pub level_at : (s t : List Node) (at : ℕ) (d : Node) → AreWhole s → AreWhole t → at < length s → at < length t → get_or s at d ≢ get_or t at d → IsOver w test above (drop at s) (drop at t) ↔ Level w test above agree (tree_of (drop at s)) (tree_of (drop at t))
  level_at s t at d wh wk h k ne =
      rw (drop-at s at d h, drop-at t at d k) (level_nodes (get_or s at d) (get_or t at d) (drop (at + 1) s) (drop (at + 1) t) (at_whole s at d wh h) (at_whole t at d wk k) ne)

-- how the way up stands
pub record Climbed (w : Weighing) (test : ℕ → ℕ → Bool) (above : ℕ → ℕ → Type 0) (agree : Agree test above) (slot : ℕ → ℕ) (s t : List Node) (at p from done : ℕ) (a b : Run) (v : Cmp) : Type 0 where
  pub begun : from ≤ p
  pub part_first : p ≤ at
  pub few : from + done ≤ p
  pub front : Front s t from p done
  pub s_run : IsRun w slot s a
  pub t_run : IsRun w slot t b
  pub s_from : a.from ≡ at
  pub t_from : b.from ≡ at
  pub s_to : a.to ≡ p + nodes (tree_of (drop p s))
  pub t_to : b.to ≡ p + nodes (tree_of (drop p t))
  pub differ : tree_of (drop p s) ≢ tree_of (drop p t)
  pub told : IsVerdict w test above v (tree_of (drop p s)) (tree_of (drop p t))

module _ (w : Weighing) (test : ℕ → ℕ → Bool) (above : ℕ → ℕ → Type 0) (agree : Agree test above) (slot : ℕ → ℕ) (s t : List Node) (at p from done : ℕ) (a b : Run) (v : Cmp) (c : Climbed w test above agree slot s t at p from done a b v) (common : take at s ≡ take at t) (in_s : at < length s) (in_t : at < length t) (i : ℕ) (e : i + 1 ≡ from) (d : Node) where
  pub climbed_var : (x : ℕ) → get_or s i d ≡ Var x → Climbed w test above agree slot s t at p i (done + 1) a b v
  climbed_var x q =
      let below : i < at = omega (arith, c.begun, c.part_first) in
      record {
        begun = omega (arith, c.begun);
        part_first = c.part_first;
        few = omega (arith, c.few);
        front = front_var s t i p done x (node_at s i d (Var x) (omega arith) q) (node_at t i d (Var x) (omega arith) (sym (same_node s t i at d below common) ∙ q)) (front_from s t i from p done e c.front);
        s_run = c.s_run;
        t_run = c.t_run;
        s_from = c.s_from;
        t_from = c.t_from;
        s_to = c.s_to;
        t_to = c.t_to;
        differ = c.differ;
        told = c.told;
      }

  module _ (f : Sym) (n : ℕ) (q : get_or s i d ≡ App f n) where
    s_at : i < at → drop i s ≡ App f n ∷ drop (i + 1) s
    s_at below = node_at s i d (App f n) (omega arith) q

    t_at : i < at → drop i t ≡ App f n ∷ drop (i + 1) t
    t_at below = node_at t i d (App f n) (omega arith) (sym (same_node s t i at d below common) ∙ q)

    pub climbed_app : n ≤ done → Climbed w test above agree slot s t at p i (done - n + 1) a b v
    climbed_app h =
        let below : i < at = omega (arith, c.begun, c.part_first) in
        record {
          begun = omega (arith, c.begun);
          part_first = c.part_first;
          few = omega (arith, c.few);
          front = front_app s t i p done n f h (s_at below) (t_at below) (front_from s t i from p done e c.front);
          s_run = c.s_run;
          t_run = c.t_run;
          s_from = c.s_from;
          t_from = c.t_from;
          s_to = c.s_to;
          t_to = c.t_to;
          differ = c.differ;
          told = c.told;
        }

    module _ (ws : AreWhole s) (wt : AreWhole t) (h : done < n) where
      s_begins : Begins s p a.to
      s_begins = begins s p a.to ws (omega (arith, c.part_first)) c.s_to

      t_begins : Begins t p b.to
      t_begins = begins t p b.to wt (omega (arith, c.part_first)) c.t_to

      pub s_around : Around s i p done n f c.front.trees a.to
      s_around =
          let below : i < at = omega (arith, c.begun, c.part_first) in
          let g = front_from s t i from p done e c.front in
          around s i p done n a.to f c.front.trees ws h (s_at below) c.front.long (ap (λ m. spelled (drop m s)) e ∙ c.front.left) s_begins

      pub t_around : Around t i p done n f c.front.trees b.to
      t_around =
          let below : i < at = omega (arith, c.begun, c.part_first) in
          around t i p done n b.to f c.front.trees wt h (t_at below) c.front.long (ap (λ m. spelled (drop m t)) e ∙ c.front.right) t_begins

      module _ (a' b' : Run) (v' : Cmp) (ra : IsRun w slot s a') (rb : IsRun w slot t b') (fa : a'.from ≡ a.from) (fb : b'.from ≡ b.from) (ta : a'.to ≡ a.to + nodes_all (of_list (take (n - done - 1) (spelled (drop a.to s))))) (tb : b'.to ≡ b.to + nodes_all (of_list (take (n - done - 1) (spelled (drop b.to t))))) (g : (v' ≡ Greater) ↔ Beats w test above (part s a'.from a'.to) (part t b'.from b'.to) (v ≡ Greater)) (l : (v' ≡ Less) ↔ Beats w test above (part t b'.from b'.to) (part s a'.from a'.to) (v ≡ Less)) (ne : v' ≢ Equal) where
        rs : List Tree
        rs = take (n - done - 1) (spelled (drop a.to s))

        rt : List Tree
        rt = take (n - done - 1) (spelled (drop b.to t))

        sizes : i + 1 + nodes_all (of_list c.front.trees) ≡ p
        sizes = omega (arith, c.front.sizes)

        s_ends : a'.to ≡ i + nodes (tree_of (drop i s))
        s_ends = around_ends s i p done n a.to a'.to f c.front.trees s_around sizes c.s_to ta

        t_ends : b'.to ≡ i + nodes (tree_of (drop i t))
        t_ends = around_ends t i p done n b.to b'.to f c.front.trees t_around sizes c.t_to tb

        same_long : length rs ≡ length rt
        unfolding rs rt
        same_long = length-take-le (n - done - 1) (spelled (drop a.to s)) s_around.enough ∙ sym (length-take-le (n - done - 1) (spelled (drop b.to t)) t_around.enough)

        level_iff : Level w test above agree (tree_of (drop i s)) (tree_of (drop i t)) ↔ Kbo w test above (tree_of (drop p s)) (tree_of (drop p t))
        unfolding rs rt
        level_iff = rw (s_around.tree, t_around.tree) (level_up w test above agree f c.front.trees (tree_of (drop p s)) (tree_of (drop p t)) rs rt same_long c.differ)

        level_iff_back : Level w test above agree (tree_of (drop i t)) (tree_of (drop i s)) ↔ Kbo w test above (tree_of (drop p t)) (tree_of (drop p s))
        unfolding rs rt
        level_iff_back = rw (s_around.tree, t_around.tree) (level_up w test above agree f c.front.trees (tree_of (drop p t)) (tree_of (drop p s)) rt rs (sym same_long) (λ q. c.differ (sym q)))

        differ_i : tree_of (drop i s) ≢ tree_of (drop i t)
        unfolding rs rt
        differ_i = rw (s_around.tree, t_around.tree) (differ_up w test above agree f c.front.trees (tree_of (drop p s)) (tree_of (drop p t)) rs rt c.differ)

        pub climbed_up : Climbed w test above agree slot s t at i i 0 a' b' v'
        climbed_up =
            let below : i < at = omega (arith, c.begun, c.part_first) in
            let sb = begins s i a'.to ws (omega arith) s_ends in
            let tb = begins t i b'.to wt (omega arith) t_ends in
            let fa' : a'.from ≡ at = fa ∙ c.s_from in
            let fb' : b'.from ≡ at = fb ∙ c.t_from in
            let k : at ≤ a'.to = omega (arith, ra.ordered) in
            let m : at ≤ b'.to = omega (arith, rb.ordered) in
            let g' : (v' ≡ Greater) ↔ Beats w test above (part s at a'.to) (part t at b'.to) (v ≡ Greater) = rw (fa', fb') at g in
            let l' : (v' ≡ Less) ↔ Beats w test above (part t at b'.to) (part s at a'.to) (v ≡ Less) = rw (fa', fb') at l in
            record {
              begun = omega arith;
              part_first = omega arith;
              few = omega arith;
              front = front_none s t i;
              s_run = ra;
              t_run = rb;
              s_from = fa';
              t_from = fb';
              s_to = s_ends;
              t_to = t_ends;
              differ = differ_i;
              told = record {
                greater = answer w test above agree slot s t i at a'.to b'.to (omega arith) k m sb tb common (v' ≡ Greater) (v ≡ Greater) g' (iff_trans c.told.greater (iff_sym level_iff));
                less = answer w test above agree slot t s i at b'.to a'.to (omega arith) m k tb sb (sym common) (v' ≡ Less) (v ≡ Less) l' (iff_trans c.told.less (iff_sym level_iff_back));
                not_equal = ne;
              };
            }

pub climbed_init : (w : Weighing) (test : ℕ → ℕ → Bool) (above : ℕ → ℕ → Type 0) (agree : Agree test above) (slot : ℕ → ℕ) (s t : List Node) (at : ℕ) (a b : Run) (v inner : Cmp) (d : Node) → AreWhole s → AreWhole t → take at s ≡ take at t → at < length s → at < length t → get_or s at d ≢ get_or t at d → IsRun w slot s a → IsRun w slot t b → a.from ≡ at → b.from ≡ at → a.to ≡ at + nodes (tree_of (drop at s)) → b.to ≡ at + nodes (tree_of (drop at t)) → (inner ≡ Greater) ↔ IsOver w test above (drop at s) (drop at t) → (inner ≡ Less) ↔ IsOver w test above (drop at t) (drop at s) → (v ≡ Greater) ↔ Beats w test above (part s a.from a.to) (part t b.from b.to) (inner ≡ Greater) → (v ≡ Less) ↔ Beats w test above (part t b.from b.to) (part s a.from a.to) (inner ≡ Less) → v ≢ Equal → Climbed w test above agree slot s t at at at 0 a b v
climbed_init w test above agree slot s t at a b v inner d ws wt common hs ht ne ra rb fa fb ta tb ig il g l never =
    let sb = begins s at a.to ws hs ta in
    let tb' = begins t at b.to wt ht tb in
    let k : at ≤ a.to = omega (arith, ra.ordered) in
    let m : at ≤ b.to = omega (arith, rb.ordered) in
    let g' : (v ≡ Greater) ↔ Beats w test above (part s at a.to) (part t at b.to) (inner ≡ Greater) = rw (fa, fb) at g in
    let l' : (v ≡ Less) ↔ Beats w test above (part t at b.to) (part s at a.to) (inner ≡ Less) = rw (fa, fb) at l in
    record {
      begun = omega arith;
      part_first = omega arith;
      few = omega arith;
      front = front_none s t at;
      s_run = ra;
      t_run = rb;
      s_from = fa;
      t_from = fb;
      s_to = ta;
      t_to = tb;
      differ = differ_at s t at d ws wt hs ht ne;
      told = record {
        greater = answer w test above agree slot s t at at a.to b.to (omega arith) k m sb tb' common (v ≡ Greater) (inner ≡ Greater) g' (iff_trans ig (level_at w test above agree s t at d ws wt hs ht ne));
        less = answer w test above agree slot t s at at b.to a.to (omega arith) m k tb' sb (sym common) (v ≡ Less) (inner ≡ Less) l' (iff_trans il (level_at w test above agree t s at d wt ws ht hs (λ q. ne (sym q))));
        not_equal = never;
      };
    }

pub climbed_end : (w : Weighing) (test : ℕ → ℕ → Bool) (above : ℕ → ℕ → Type 0) (agree : Agree test above) (slot : ℕ → ℕ) (s t : List Node) (at p from done : ℕ) (a b : Run) (v : Cmp) → Climbed w test above agree slot s t at p from done a b v → from ≡ 0 → IsWhole s → AreWhole s → at < length s → IsVerdict w test above v (tree_of s) (tree_of t)
climbed_end w test above agree slot s t at p from done a b v c z whole ws h =
    let e : spelled s ≡ c.front.trees ++ spelled (drop p s) = ap (λ m. spelled (drop m s)) (sym z) ∙ c.front.left in
    let root : p ≡ 0 = at_root s t p c.front.trees whole (omega (arith, c.part_first)) ws e (omega (arith, c.front.sizes, z)) in
    let P : ℕ → Type 0 = λ m. IsVerdict w test above v (tree_of (drop m s)) (tree_of (drop m t)) in
    subst P root c.told

pub not_above_itself : (w : Weighing) (test : ℕ → ℕ → Bool) (above : ℕ → ℕ → Type 0) (agree : Agree test above) (s t : Tree) → s ≡ t → Kbo w test above s t → ⊥
not_above_itself w test above agree s t e k = let P : Tree → Type 0 = λ u. Kbo w test above u t in irreflexive w test above agree t (subst P e k)

-- the whole lists, where their weights differ
pub heavy : (w : Weighing) (test : ℕ → ℕ → Bool) (above : ℕ → ℕ → Type 0) (agree : Agree test above) (slot : ℕ → ℕ) (s t : List Node) (at : ℕ) (a b : Run) (V E : Type 0) → IsWhole s → IsWhole t → at < length s → at < length t → take at s ≡ take at t → a.from ≡ at → b.from ≡ at → a.to ≡ length s → b.to ≡ length t → IsRun w slot s a → IsRun w slot t b → a.weight ≢ b.weight → V ↔ Beats w test above (part s a.from a.to) (part t b.from b.to) E → V ↔ Kbo w test above (tree_of s) (tree_of t)
heavy w test above agree slot s t at a b V E ws wt hs ht common fa fb ta tb ra rb ne g =
    let g' : V ↔ Beats w test above (part s at (length s)) (part t at (length t)) E = rw (fa, fb, ta, tb) at g in
    let pa : a.weight ≡ sum_by (node_weight w) (part s at (length s)) = rw (fa, ta) at (ra.weight) in
    let pb : b.weight ≡ sum_by (node_weight w) (part t at (length t)) = rw (fb, tb) at (rb.weight) in
    answer_heavy w test above agree slot s t 0 at (length s) (length t) (omega arith) (omega arith) (omega arith) (begins_all s ws (omega arith)) (begins_all t wt (omega arith)) common V E g' (λ q. ne (pa ∙ q ∙ sym pb))
