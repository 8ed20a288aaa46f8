-- How a comparison of two terms with heads comes down to comparisons of smaller ones, each made once.
use Rattle.std.proofs.Common.{◌≡◌, ◌≢◌, ◌↔◌, ℕ, ◌<◌, refl, sym, subst, arith, ◌⊎◌, inl, inr}
use Rattle.uc_term.specs.declared.node.Sym.{Sym}
use Rattle.uc_term.specs.Tree.{Tree, var, app, Trees, none, more}
use Rattle.uc_term.proofs.Ahead.{join}
use Rattle.uc_lpo.specs.PathOrder.{PathOrder, by_variables, by_argument, by_head, by_arguments, SomeReaches, is_it, is_greater, a_later, Exceeds, no_more, one_more, FirstGreater, differ, agree}
use Rattle.uc_lpo.specs.Laws.{transitive, irreflexive, exceeds_arguments}

module _ (rank : Sym → ℕ) (above : ℕ → ℕ → Type 0) (above_transitive : (x y z : ℕ) → above x y → above y z → above x z) (above_irreflexive : (x : ℕ) → above x x → ⊥) where
  Exceeds-trans : (s t : Tree) (us : Trees) → PathOrder rank above s t → Exceeds rank above t us → Exceeds rank above s us
  Exceeds-trans s t none l e = no_more
  Exceeds-trans s t (more u us) l (one_more k e) = one_more (transitive rank above above_transitive s t u l k) (Exceeds-trans s t us l e)

  -- what is greater than a term is greater than its arguments
  pub exceeds_args : (s : Tree) (g : Sym) (ts : Trees) → PathOrder rank above s (app g ts) → Exceeds rank above s ts
  exceeds_args s g ts l = Exceeds-trans s (app g ts) ts l (exceeds_arguments rank above g ts ts (λ t p. p))

  pub head_greater : (f g : Sym) (ss ts : Trees) → rank g < rank f → PathOrder rank above (app f ss) (app g ts) ↔ Exceeds rank above (app f ss) ts
  head_greater f g ss ts r = (exceeds_args (app f ss) g ts, by_head r)

  only_part_var : (f : Sym) (ss : Trees) (x : ℕ) → PathOrder rank above (app f ss) (var x) → SomeReaches rank above ss (var x)
  only_part_var f ss x (by_argument p) = p

  pub over_var : (f : Sym) (ss : Trees) (x : ℕ) → PathOrder rank above (app f ss) (var x) ↔ SomeReaches rank above ss (var x)
  over_var f ss x = (only_part_var f ss x, by_argument)

  only_variables : {x y : ℕ} → PathOrder rank above (var x) (var y) → above x y
  only_variables (by_variables a) = a

  pub two_variables : (x y : ℕ) → PathOrder rank above (var x) (var y) ↔ above x y
  two_variables x y = (only_variables, by_variables)

  pub variable_below : (x : ℕ) (f : Sym) (ts : Trees) → PathOrder rank above (var x) (app f ts) → ⊥
  variable_below x f ts l = elim l [ ]

  -- the part of a list of arguments
  pub reach_join : (cs rs : Trees) (t : Tree) → SomeReaches rank above rs t → SomeReaches rank above (join cs rs) t
  reach_join none rs t p = p
  reach_join (more c cs) rs t p = a_later (reach_join cs rs t p)

  pub Exceeds-join : (s : Tree) (cs rs : Trees) → Exceeds rank above s cs → Exceeds rank above s rs → Exceeds rank above s (join cs rs)
  Exceeds-join s none rs no_more e = e
  Exceeds-join s (more c cs) rs (one_more l k) e = one_more l (Exceeds-join s cs rs k e)

  pub exceeds_end : (s : Tree) (cs rs : Trees) → Exceeds rank above s (join cs rs) → Exceeds rank above s rs
  exceeds_end s none rs e = e
  exceeds_end s (more c cs) rs (one_more l e) = exceeds_end s cs rs e

  -- the arguments that both have in front
  common : (f : Sym) (ss : Trees) (cs rs : Trees) → ((t : Tree) → SomeReaches rank above (join cs rs) t → SomeReaches rank above ss t) → Exceeds rank above (app f ss) cs
  common f ss none rs all = no_more
  common f ss (more c cs) rs all = one_more (by_argument (all c is_it)) (common f ss cs rs (λ t p. all t (a_later p)))

  same_front : (cs ss ts : Trees) → FirstGreater rank above ss ts → FirstGreater rank above (join cs ss) (join cs ts)
  same_front none ss ts d = d
  same_front (more c cs) ss ts d = agree (same_front cs ss ts d)

  pub first_greater : (f : Sym) (cs : Trees) (s t : Tree) (rs rt : Trees) → PathOrder rank above s t → PathOrder rank above (app f (join cs (more s rs))) (app f (join cs (more t rt))) ↔ Exceeds rank above (app f (join cs (more s rs))) rt
  first_greater f cs s t rs rt l = (there, back)
    where
      there : PathOrder rank above (app f (join cs (more s rs))) (app f (join cs (more t rt))) → Exceeds rank above (app f (join cs (more s rs))) rt
      there k = let e = exceeds_end (app f (join cs (more s rs))) cs (more t rt) (exceeds_args (app f (join cs (more s rs))) f (join cs (more t rt)) k) in tail e
        where
          tail : Exceeds rank above (app f (join cs (more s rs))) (more t rt) → Exceeds rank above (app f (join cs (more s rs))) rt
          tail (one_more k e) = e

      back : Exceeds rank above (app f (join cs (more s rs))) rt → PathOrder rank above (app f (join cs (more s rs))) (app f (join cs (more t rt)))
      back e =
          by_arguments
          (Exceeds-join (app f (join cs (more s rs))) cs (more t rt) (common f (join cs (more s rs)) cs (more s rs) (λ t p. p)) (one_more (by_argument (reach_join cs (more s rs) t (is_greater l))) e))
          (same_front cs (more s rs) (more t rt) (differ l))

  part_below : (f : Sym) (ts : Trees) (t u : Tree) → SomeReaches rank above ts t → PathOrder rank above t (app f ts) → ⊥
  part_below f ts t u p l = irreflexive rank above above_transitive above_irreflexive (app f ts) (transitive rank above above_transitive (app f ts) t (app f ts) (by_argument p) l)

  drop_front : (f : Sym) (ts : Trees) (cs rs : Trees) → ((t : Tree) → SomeReaches rank above cs t → SomeReaches rank above ts t) → SomeReaches rank above (join cs rs) (app f ts) → SomeReaches rank above rs (app f ts)
  drop_front f ts none rs all p = p
  drop_front f ts (more c cs) rs all is_it = absurd (irreflexive rank above above_transitive above_irreflexive (app f ts) (by_argument (all (app f ts) is_it)))
  drop_front f ts (more c cs) rs all (is_greater l) = absurd (part_below f ts c c (all c is_it) l)
  drop_front f ts (more c cs) rs all (a_later p) = drop_front f ts cs rs (λ t q. all t (a_later q)) p

  pub front_reaches : (cs rs : Trees) (t : Tree) → SomeReaches rank above cs t → SomeReaches rank above (join cs rs) t
  front_reaches none rs t p = elim p [ ]
  front_reaches (more c cs) rs t is_it = is_it
  front_reaches (more c cs) rs t (is_greater l) = is_greater l
  front_reaches (more c cs) rs t (a_later p) = a_later (front_reaches cs rs t p)

  -- the cases of each relation
  pub differ_cases : {s t : Tree} {ss ts : Trees} → FirstGreater rank above (more s ss) (more t ts) → PathOrder rank above s t ⊎ ((s ≡ t) × FirstGreater rank above ss ts)
  differ_cases (differ l) = inl l
  differ_cases (agree d) = inr (refl, d)

  pub reach_cases : {s t : Tree} {ss : Trees} → SomeReaches rank above (more s ss) t → (s ≡ t) ⊎ (PathOrder rank above s t ⊎ SomeReaches rank above ss t)
  reach_cases is_it = inl refl
  reach_cases (is_greater l) = inr (inl l)
  reach_cases (a_later p) = inr (inr p)

  pub cases : {f g : Sym} {ss ts : Trees} → PathOrder rank above (app f ss) (app g ts) → SomeReaches rank above ss (app g ts) ⊎ (((rank g < rank f) × Exceeds rank above (app f ss) ts) ⊎ ((f ≡ g) × Exceeds rank above (app f ss) ts × FirstGreater rank above ss ts))
  cases (by_argument p) = inl p
  cases (by_head r e) = inr (inl (r, e))
  cases (by_arguments e d) = inr (inr (refl, e, d))

  -- none of the terms that a term exceeds is that term or greater
  pub never_reached : (t : Tree) (ss : Trees) → Exceeds rank above t ss → SomeReaches rank above ss t → ⊥
  never_reached t none e p = elim p [ ]
  never_reached t (more s ss) (one_more l e) p = elim (reach_cases p) [
    | inl q ↦ irreflexive rank above above_transitive above_irreflexive t (subst (λ (u : Tree). PathOrder rank above t u) q l)
    | inr (inl k) ↦ irreflexive rank above above_transitive above_irreflexive t (transitive rank above above_transitive t s t l k)
    | inr (inr r) ↦ never_reached t ss e r
  ]

  -- a term exceeds its own arguments behind one of them
  pub over_later : (f : Sym) (cs : Trees) (s : Tree) (rs : Trees) → Exceeds rank above (app f (join cs (more s rs))) rs
  over_later f cs s rs = exceeds_arguments rank above f (join cs (more s rs)) rs (λ t p. reach_join cs (more s rs) t (a_later p))

  -- where the head is another, and not greater, only an argument can be
  pub head_other : (f g : Sym) (ss ts : Trees) → f ≢ g → (rank g < rank f → ⊥) → PathOrder rank above (app f ss) (app g ts) ↔ SomeReaches rank above ss (app g ts)
  head_other f g ss ts ne n = (λ l. elim (cases l) [ inl p ↦ p | inr (inl q) ↦ absurd (n q.0) | inr (inr q) ↦ absurd (ne q.0) ], by_argument)

  not_first : (cs : Trees) (s t : Tree) (rs rt : Trees) → s ≢ t → (PathOrder rank above s t → ⊥) → FirstGreater rank above (join cs (more s rs)) (join cs (more t rt)) → ⊥
  not_first none s t rs rt ne n d = elim (differ_cases d) [ inl l ↦ n l | inr p ↦ ne p.0 ]
  not_first (more c cs) s t rs rt ne n d = elim (differ_cases d) [ inl l ↦ irreflexive rank above above_transitive above_irreflexive c l | inr p ↦ not_first cs s t rs rt ne n p.1 ]

  module _ (f : Sym) (cs : Trees) (s t : Tree) (rs rt : Trees) (ne : s ≢ t) (n : PathOrder rank above s t → ⊥) where
    right : Tree
    right = app f (join cs (more t rt))

    t_below : PathOrder rank above right t
    unfolding right
    t_below = by_argument (reach_join cs (more t rt) t is_it)

    at_most : SomeReaches rank above (more s rs) right → SomeReaches rank above rs right
    at_most p = elim (reach_cases p) [
      | inl e ↦ absurd (n (subst (λ (u : Tree). PathOrder rank above u t) (sym e) t_below))
      | inr (inl l) ↦ absurd (n (transitive rank above above_transitive s right t l t_below))
      | inr (inr q) ↦ q
    ]

    there : PathOrder rank above (app f (join cs (more s rs))) right → SomeReaches rank above rs right
    unfolding right
    there l = elim (cases l) [
      | inl p ↦ at_most (drop_front f (join cs (more t rt)) cs (more s rs) (λ u q. front_reaches cs (more t rt) u q) p)
      | inr (inl q) ↦ absurd (omega (arith, q.0))
      | inr (inr q) ↦ absurd (not_first cs s t rs rt ne n q.2)
    ]

    pub first_not_greater : PathOrder rank above (app f (join cs (more s rs))) (app f (join cs (more t rt))) ↔ SomeReaches rank above rs (app f (join cs (more t rt)))
    unfolding right
    first_not_greater = (there, λ p. by_argument (reach_join cs (more s rs) (app f (join cs (more t rt))) (a_later p)))

  the_first : (cs : Trees) (s t : Tree) (rs rt : Trees) → s ≢ t → FirstGreater rank above (join cs (more s rs)) (join cs (more t rt)) → PathOrder rank above s t
  the_first none s t rs rt ne d = elim (differ_cases d) [ inl l ↦ l | inr p ↦ absurd (ne p.0) ]
  the_first (more c cs) s t rs rt ne d = elim (differ_cases d) [ inl l ↦ absurd (irreflexive rank above above_transitive above_irreflexive c l) | inr p ↦ the_first cs s t rs rt ne p.1 ]

  module _ (f : Sym) (cs : Trees) (s t : Tree) (rs rt : Trees) (ne : s ≢ t) where
    the_left : Tree
    the_left = app f (join cs (more s rs))

    the_right : Tree
    the_right = app f (join cs (more t rt))

    right_over : PathOrder rank above the_right t
    unfolding the_right
    right_over = by_argument (reach_join cs (more t rt) t is_it)

    pub later_reaches : SomeReaches rank above rs (app f (join cs (more t rt))) → PathOrder rank above (app f (join cs (more s rs))) (app f (join cs (more t rt)))
    later_reaches p = by_argument (reach_join cs (more s rs) (app f (join cs (more t rt))) (a_later p))

    second : {u : Tree} {us : Trees} → Exceeds rank above the_left (more u us) → Exceeds rank above the_left us
    second (one_more k e) = e

    pub exceeds_later : PathOrder rank above (app f (join cs (more s rs))) (app f (join cs (more t rt))) → Exceeds rank above (app f (join cs (more s rs))) rt
    unfolding the_left
    exceeds_later l = second (exceeds_end (app f (join cs (more s rs))) cs (more t rt) (exceeds_args (app f (join cs (more s rs))) f (join cs (more t rt)) l))

    over_first : (SomeReaches rank above rs the_right → ⊥) → SomeReaches rank above (more s rs) the_right → PathOrder rank above s t
    over_first n p = elim (reach_cases p) [
      | inl e ↦ subst (λ (u : Tree). PathOrder rank above u t) (sym e) right_over
      | inr (inl l) ↦ transitive rank above above_transitive s the_right t l right_over
      | inr (inr q) ↦ absurd (n q)
    ]

    from_whole : (SomeReaches rank above rs the_right → ⊥) → PathOrder rank above the_left the_right → PathOrder rank above s t
    unfolding the_left the_right
    from_whole n l = elim (cases l) [
      | inl p ↦ over_first n (drop_front f (join cs (more t rt)) cs (more s rs) (λ u q. front_reaches cs (more t rt) u q) p)
      | inr (inl q) ↦ absurd (omega (arith, q.0))
      | inr (inr q) ↦ the_first cs s t rs rt ne q.2
    ]

    -- where no later argument reaches the right one, and the left one exceeds all later arguments
    pub turned : (SomeReaches rank above rs (app f (join cs (more t rt))) → ⊥) → Exceeds rank above (app f (join cs (more s rs))) rt → PathOrder rank above s t ↔ PathOrder rank above (app f (join cs (more s rs))) (app f (join cs (more t rt)))
    unfolding the_left the_right
    turned n e = (λ l. (first_greater f cs s t rs rt l).1 e, from_whole n)

  -- where one list of arguments is used up, no argument is greater than its partner
  no_first : (cs rs rt : Trees) → (rs ≡ none) ⊎ (rt ≡ none) → FirstGreater rank above (join cs rs) (join cs rt) → ⊥
  no_first none none rt h d = elim d [ ]
  no_first none (more r rs) none h d = elim d [ ]
  no_first none (more r rs) (more t rt) (inl e) d = cc
  no_first none (more r rs) (more t rt) (inr e) d = cc
  no_first (more c cs) rs rt h d = elim (differ_cases d) [ inl l ↦ irreflexive rank above above_transitive above_irreflexive c l | inr p ↦ no_first cs rs rt h p.1 ]

  pub none_differ : (f : Sym) (cs rs rt : Trees) → (rs ≡ none) ⊎ (rt ≡ none) → PathOrder rank above (app f (join cs rs)) (app f (join cs rt)) ↔ SomeReaches rank above rs (app f (join cs rt))
  none_differ f cs rs rt h = (
    λ l. elim (cases l) [
      | inl p ↦ drop_front f (join cs rt) cs rs (λ u q. front_reaches cs rt u q) p
      | inr (inl q) ↦ absurd (omega (arith, q.0))
      | inr (inr q) ↦ absurd (no_first cs rs rt h q.2)
    ],
    λ p. by_argument (reach_join cs rs (app f (join cs rt)) p),
  )
