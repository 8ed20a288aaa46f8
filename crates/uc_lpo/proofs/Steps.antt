-- The turns of the loops over arguments.
use Rattle.std.proofs.Common.{◌≡◌, ◌≢◌, ◌↔◌, ℕ, zero, suc, ◌-◌, ◌<◌, ◌≤◌, List, [], ◌∷◌, length, take, drop, refl, sym, ap, ◌∙◌, subst, arith, ◌⊎◌, inl, inr, length-drop}
use Rattle.uc_term.specs.declared.node.Sym.{Sym}
use Rattle.uc_term.specs.declared.node.Node.{Node}
use Rattle.uc_term.specs.Tree.{Tree, var, app, Trees, none, more}
use Rattle.uc_term.specs.Flat.{tree_of, trees_of, AreWhole}
use Rattle.uc_term.proofs.Terms.{take_of_length-le, whole-drop}
use Rattle.uc_term.proofs.Parts.{Split}
use Rattle.uc_lpo.specs.PathOrder.{PathOrder, SomeReaches, is_it, is_greater, a_later, Exceeds, no_more, one_more}
use Rattle.uc_order.specs.VarOrders.{Classes, IsHigher, representative}
use Rattle.uc_lpo.specs.Ranks.{rank_of}
use Rattle.uc_lpo.specs.Higher.{higher_transitive, higher_irreflexive}
use Rattle.uc_lpo.specs.Shown.{shown, shown_all}
use Rattle.uc_lpo.proofs.Decide.{reach_cases, head_greater, head_other, over_var, two_variables, variable_below}

-- `&ns[p..]`
pub tail_is : (ns : List Node) (p : ℕ) → take (length ns - p) (drop p ns) ≡ drop p ns
tail_is ns p = take_of_length-le (drop p ns) (length ns - p) (omega (arith, length-drop p ns))

pub tail_length : (ns : List Node) (p : ℕ) → length (take (length ns - p) (drop p ns)) ≡ length ns - p
tail_length ns p = ap length (tail_is ns p) ∙ length-drop p ns

pub tail_whole_at : (ns : List Node) (p : ℕ) → AreWhole ns → AreWhole (take (length ns - p) (drop p ns))
tail_whole_at ns p w = let P : List Node → Type 0 = AreWhole in subst P (sym (tail_is ns p)) (whole-drop p ns w)

pub nothing_left : {A : Type 0} (ns : List A) (p : ℕ) → length ns ≤ p → drop p ns ≡ []
nothing_left [] zero h = refl
nothing_left [] (suc p) h = refl
nothing_left (n ∷ ns) zero h = absurd (omega arith)
nothing_left (n ∷ ns) (suc p) h = nothing_left ns p (omega arith)

module _ (ranks : List ℕ) (classes : Classes) where
  abbrev rank : Sym → ℕ
  rank = rank_of ranks

  abbrev above : ℕ → ℕ → Type 0
  above = IsHigher classes

  abbrev represent : ℕ → ℕ
  represent = representative classes

  abbrev above_transitive : (x y z : ℕ) → above x y → above y z → above x z
  above_transitive = higher_transitive classes

  abbrev above_irreflexive : (x : ℕ) → above x x → ⊥
  above_irreflexive = higher_irreflexive classes

  pub answer_variables : (s t : List Node) (x y : ℕ) (P : Type 0) → tree_of s ≡ var x → tree_of t ≡ var y → (P ↔ above (represent x) (represent y)) → P ↔ PathOrder rank above (shown represent (tree_of s)) (shown represent (tree_of t))
  answer_variables s t x y P e k a =
      let d = two_variables rank above above_transitive above_irreflexive (represent x) (represent y) in
      rw (e, k) (λ p. d.1 (a.0 p), λ l. a.1 (d.0 l))

  pub never_below : (s t : List Node) (x : ℕ) (g : Sym) (ts : Trees) → tree_of s ≡ var x → tree_of t ≡ app g ts → PathOrder rank above (shown represent (tree_of s)) (shown represent (tree_of t)) → ⊥
  never_below s t x g ts e k = rw (e, k) (variable_below rank above above_transitive above_irreflexive (represent x) g (shown_all represent ts))

  -- what `greater` answers
  module _ (f : Sym) (s t : List Node) (head : tree_of s ≡ app f (trees_of (drop 1 s))) (P : Type 0) where
    abbrev parts : Trees
    parts = shown_all represent (trees_of (drop 1 s))

    shown_head : shown represent (tree_of s) ≡ app f parts
    shown_head = ap (shown represent) head

    through_argument : PathOrder rank above (app f parts) (shown represent (tree_of t)) ↔ SomeReaches rank above parts (shown represent (tree_of t)) → (P ↔ SomeReaches rank above (shown_all represent (trees_of (take (length s - 1) (drop 1 s)))) (shown represent (tree_of t))) → P ↔ PathOrder rank above (shown represent (tree_of s)) (shown represent (tree_of t))
    through_argument d a = rw shown_head (λ p. d.1 (rw (tail_is s 1) at (a.0 p)), λ l. a.1 (rw (tail_is s 1) (d.0 l)))

    pub answer_var : (x : ℕ) → tree_of t ≡ var x → (P ↔ SomeReaches rank above (shown_all represent (trees_of (take (length s - 1) (drop 1 s)))) (shown represent (tree_of t))) → P ↔ PathOrder rank above (shown represent (tree_of s)) (shown represent (tree_of t))
    answer_var x e a = through_argument (rw e (over_var rank above above_transitive above_irreflexive f parts (represent x))) a

    pub answer_other : (g : Sym) → tree_of t ≡ app g (trees_of (drop 1 t)) → f ≢ g → (rank g < rank f → ⊥) → (P ↔ SomeReaches rank above (shown_all represent (trees_of (take (length s - 1) (drop 1 s)))) (shown represent (tree_of t))) → P ↔ PathOrder rank above (shown represent (tree_of s)) (shown represent (tree_of t))
    answer_other g e ne n a = through_argument (rw e (head_other rank above above_transitive above_irreflexive f g parts (shown_all represent (trees_of (drop 1 t))) ne n)) a

    pub answer_greater : (g : Sym) → tree_of t ≡ app g (trees_of (drop 1 t)) → rank g < rank f → (P ↔ Exceeds rank above (shown represent (tree_of s)) (shown_all represent (trees_of (take (length t - 1) (drop 1 t))))) → P ↔ PathOrder rank above (shown represent (tree_of s)) (shown represent (tree_of t))
    answer_greater g e r a =
        let d = head_greater rank above above_transitive above_irreflexive f g parts (shown_all represent (trees_of (drop 1 t))) r in
        let b : P ↔ Exceeds rank above (shown represent (tree_of s)) (shown_all represent (trees_of (drop 1 t))) = rw (tail_is t 1) at a in
        let b' : P ↔ Exceeds rank above (app f parts) (shown_all represent (trees_of (drop 1 t))) = rw shown_head at b in
        rw (shown_head, e) (λ p. d.1 (b'.0 p), λ l. b'.1 (d.0 l))

  Exceeds-more : {s t : Tree} {ts : Trees} → Exceeds rank above s (more t ts) → PathOrder rank above s t × Exceeds rank above s ts
  Exceeds-more (one_more l e) = (l, e)

  module _ (s : Tree) (ns : List Node) (p e : ℕ) (left : Exceeds rank above s (shown_all represent (trees_of ns)) ↔ Exceeds rank above s (shown_all represent (trees_of (drop p ns)))) where
    abbrev First : Tree
    First = shown represent (tree_of (take (e - p) (drop p ns)))

    at_split : Split ns p e → Exceeds rank above s (shown_all represent (trees_of ns)) → PathOrder rank above s First × Exceeds rank above s (shown_all represent (trees_of (drop e ns)))
    at_split w h = Exceeds-more (let P : Trees → Type 0 = λ ts. Exceeds rank above s (shown_all represent ts) in subst P w.trees (left.0 h))

    from_split : Split ns p e → PathOrder rank above s First → Exceeds rank above s (shown_all represent (trees_of (drop e ns))) → Exceeds rank above s (shown_all represent (trees_of ns))
    from_split w l k = left.1 (let P : Trees → Type 0 = λ ts. Exceeds rank above s (shown_all represent ts) in subst P (sym w.trees) (one_more l k))

    pub exceeds_turn : Split ns p e → PathOrder rank above s First → Exceeds rank above s (shown_all represent (trees_of ns)) ↔ Exceeds rank above s (shown_all represent (trees_of (drop e ns)))
    exceeds_turn w l = (λ h. (at_split w h).1, from_split w l)

    pub exceeds_stop : Split ns p e → Exceeds rank above s (shown_all represent (trees_of ns)) → PathOrder rank above s First
    exceeds_stop w h = (at_split w h).0

    -- the first one is put off
    pub exceeds_put_off : Split ns p e → Exceeds rank above s (shown_all represent (trees_of (take (length ns - e) (drop e ns)))) → PathOrder rank above s First ↔ Exceeds rank above s (shown_all represent (trees_of ns))
    exceeds_put_off w k =
        let k' : Exceeds rank above s (shown_all represent (trees_of (drop e ns))) = rw (tail_is ns e) at k in
        (λ l. from_split w l k', λ h. (at_split w h).0)

    pub exceeds_no_later : Split ns p e → (Exceeds rank above s (shown_all represent (trees_of (take (length ns - e) (drop e ns)))) → ⊥) → Exceeds rank above s (shown_all represent (trees_of ns)) → ⊥
    exceeds_no_later w n h = n (rw (tail_is ns e) (at_split w h).1)

    pub exceeds_end : length ns ≤ p → Exceeds rank above s (shown_all represent (trees_of ns))
    exceeds_end h = left.1 (let P : List Node → Type 0 = λ l. Exceeds rank above s (shown_all represent (trees_of l)) in subst P (sym (nothing_left ns p h)) no_more)

  module _ (t : Tree) (ns : List Node) (p e : ℕ) (left : SomeReaches rank above (shown_all represent (trees_of ns)) t ↔ SomeReaches rank above (shown_all represent (trees_of (drop p ns))) t) where
    abbrev Head : Tree
    Head = shown represent (tree_of (take (e - p) (drop p ns)))

    reach_cases_at : Split ns p e → SomeReaches rank above (shown_all represent (trees_of ns)) t → (Head ≡ t) ⊎ (PathOrder rank above Head t ⊎ SomeReaches rank above (shown_all represent (trees_of (drop e ns))) t)
    reach_cases_at w h = reach_cases rank above above_transitive above_irreflexive (let P : Trees → Type 0 = λ ts. SomeReaches rank above (shown_all represent ts) t in subst P w.trees (left.0 h))

    back : Split ns p e → SomeReaches rank above (more Head (shown_all represent (trees_of (drop e ns)))) t → SomeReaches rank above (shown_all represent (trees_of ns)) t
    back w h = left.1 (let P : Trees → Type 0 = λ ts. SomeReaches rank above (shown_all represent ts) t in subst P (sym w.trees) h)

    pub reaches_is : Split ns p e → Head ≡ t → SomeReaches rank above (shown_all represent (trees_of ns)) t
    reaches_is w q = back w (let P : Tree → Type 0 = λ u. SomeReaches rank above (more u (shown_all represent (trees_of (drop e ns)))) t in subst P (sym q) is_it)

    pub reaches_above : Split ns p e → PathOrder rank above Head t → SomeReaches rank above (shown_all represent (trees_of ns)) t
    reaches_above w l = back w (is_greater l)

    pub reaches_turn : Split ns p e → Head ≢ t → (PathOrder rank above Head t → ⊥) → SomeReaches rank above (shown_all represent (trees_of ns)) t ↔ SomeReaches rank above (shown_all represent (trees_of (drop e ns))) t
    reaches_turn w ne n = (λ h. elim (reach_cases_at w h) [ inl q ↦ absurd (ne q) | inr (inl l) ↦ absurd (n l) | inr (inr q) ↦ q ], λ q. back w (a_later q))

    pub reaches_later : Split ns p e → SomeReaches rank above (shown_all represent (trees_of (take (length ns - e) (drop e ns)))) t → SomeReaches rank above (shown_all represent (trees_of ns)) t
    reaches_later w k = back w (a_later (rw (tail_is ns e) at k))

    -- the first one is put off
    pub reaches_put_off : Split ns p e → Head ≢ t → (SomeReaches rank above (shown_all represent (trees_of (take (length ns - e) (drop e ns)))) t → ⊥) → PathOrder rank above Head t ↔ SomeReaches rank above (shown_all represent (trees_of ns)) t
    reaches_put_off w ne n = (
      λ l. back w (is_greater l),
      λ h. elim (reach_cases_at w h) [ inl q ↦ absurd (ne q) | inr (inl l) ↦ l | inr (inr q) ↦ absurd (n (rw (tail_is ns e) q)) ],
    )

    nothing : (ts : Trees) → ts ≡ none → SomeReaches rank above ts t → ⊥
    nothing none q h = elim h [ ]
    nothing (more u ts) q h = cc

    pub reaches_end : length ns ≤ p → SomeReaches rank above (shown_all represent (trees_of ns)) t → ⊥
    reaches_end h q = nothing (shown_all represent (trees_of (drop p ns))) (ap (λ l. shown_all represent (trees_of l)) (nothing_left ns p h)) (left.0 q)
