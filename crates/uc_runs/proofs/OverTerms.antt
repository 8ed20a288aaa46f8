-- Terms over a signature, with the variables that are allowed: their parts, their instances, and what ordered steps lead to.
use Rattle.std.proofs.Common.{◌≡◌, ℕ, zero, suc, ◌+◌, ◌-◌, List, [], ◌∷◌, get_or, refl, sym, ap, ◌∙◌, subst, ◌⊎◌, inl, inr}
use Rattle.uc_term.specs.declared.node.Sym.{Sym}
use Rattle.uc_term.specs.declared.equation.Equation.{Equation}
use Rattle.uc_term.specs.Tree.{Tree, var, app, Trees, none, more, count, apply, apply_all, nodes, subterms, subterms_all, subterm, put, put_all}
use Rattle.uc_term.specs.Over.{IsOver, AreOver, IsTerm}
use Rattle.uc_term.specs.Variables.{Occurs, is_itself, in_args, OccursIn, in_first, in_later}
use Rattle.uc_term.specs.Within.{at_root, under, WithinOne, at_first, at_later}
use Rattle.uc_fact.specs.declared.chain.Step.{Step}
use Rattle.uc_fact.specs.declared.fact.Stop.{Stop}
use Rattle.uc_fact.specs.Live.{Live, equations_of}
use Rattle.uc_fact.specs.Ordered.{Falls, OStep}
use Rattle.uc_fact.specs.Ground.{AreOfSignature}
use Rattle.uc_fact.proofs.Occurring.{occurs_or_not}
use Rattle.uc_rewrite.specs.Normalising.{Normalises, is_full, is_spent, is_large, goes_on}
use Rattle.uc_rewrite.proofs.Unique.{step_falls}
use Rattle.uc_pair.proofs.Replacing.{put_here, put_later, where_is}
use Rattle.uc_ground.proofs.Grounded.{count-apply_all, other_over}
use Rattle.uc_machine.specs.Lists.{Each}
use Rattle.uc_machine.proofs.Meetings.{Each-append}

count_put : (ts : Trees) (p : ℕ) (u : Tree) → count (put_all ts p u) ≡ count ts
count_put none p u = refl
count_put (more t ts) p u = elim (where_is p (nodes t)) [
  | inl k ↦ ap count (put_here t ts p u k)
  | inr k ↦ ap count (put_later t ts p u k) ∙ ap (λ n. n + 1) (count_put ts (p - nodes t) u)
]

get_each : {A : Type 0} (P : A → Type 0) (xs : List A) (n : ℕ) (d : A) → Each P xs → P d → P (get_or xs n d)
get_each P [] n d a b = b
get_each P (x ∷ xs) zero d a b = a.0
get_each P (x ∷ xs) (suc n) d a b = get_each P xs n d a.1 b

once_count : {R : Tree → Tree → Type 0} {us vs : Trees} → WithinOne R us vs → count us ≡ count vs
once_count (at_first s) = refl
once_count (at_later o) = ap (λ n. n + 1) (once_count o)

module _ (has : Sym → Type 0) (arity : Sym → ℕ) (Known : ℕ → Type 0) where
  abbrev pub Over : Tree → Type 0
  Over = IsOver has arity Known

  abbrev pub AllOver : Trees → Type 0
  AllOver = AreOver has arity Known

  -- parts

  mutual
    pub parts_over : (t : Tree) → Over t → Each Over (subterms t)
    parts_over (var x) a = (a, tt)
    parts_over (app f ts) a = (a, all_parts_over ts a.2)

    all_parts_over : (ts : Trees) → AllOver ts → Each Over (subterms_all ts)
    all_parts_over none a = tt
    all_parts_over (more t ts) a = Each-append Over (subterms t) (subterms_all ts) (parts_over t a.0) (all_parts_over ts a.1)

  pub part_over : (t : Tree) (p : ℕ) → Over t → Over (subterm t p)
  part_over t p a = get_each Over (subterms t) p t (parts_over t a) a

  -- a subterm is replaced

  mutual
    pub put_over : (t : Tree) (p : ℕ) (u : Tree) → Over t → Over u → Over (put t p u)
    put_over (var x) p u a b = b
    put_over (app f ts) zero u a b = b
    put_over (app f ts) (suc p) u a b = (a.0, count_put ts p u ∙ a.1, put_all_over ts p u a.2 b)

    put_all_over : (ts : Trees) (p : ℕ) (u : Tree) → AllOver ts → Over u → AllOver (put_all ts p u)
    put_all_over none p u a b = tt
    put_all_over (more t ts) p u a b = elim (where_is p (nodes t)) [
      | inl k ↦ subst AllOver (sym (put_here t ts p u k)) (put_over t p u a.0 b, a.1)
      | inr k ↦ subst AllOver (sym (put_later t ts p u k)) (a.0, put_all_over ts (p - nodes t) u a.1 b)
    ]

  -- instances

  at_var : (σ : ℕ → Tree) (x z : ℕ) → Occurs x (var z) → Over (σ z) → Over (σ x)
  at_var σ x _ is_itself a = a

  mutual
    pub image_over : (σ : ℕ → Tree) (t : Tree) (x : ℕ) → Occurs x t → Over (apply σ t) → Over (σ x)
    image_over σ (var z) x o a = at_var σ x z o a
    image_over σ (app f ts) x (in_args o) a = image_all_over σ ts x o a.2

    image_all_over : (σ : ℕ → Tree) (ts : Trees) (x : ℕ) → OccursIn x ts → AllOver (apply_all σ ts) → Over (σ x)
    image_all_over σ none x o a = elim o [ ]
    image_all_over σ (more t ts) x (in_first o) a = image_over σ t x o a.0
    image_all_over σ (more t ts) x (in_later o) a = image_all_over σ ts x o a.1

  mutual
    pub instance_over : (σ : ℕ → Tree) (t : Tree) → IsTerm has arity t → ((x : ℕ) → Occurs x t → Over (σ x)) → Over (apply σ t)
    instance_over σ (var x) a h = h x is_itself
    instance_over σ (app f ts) a h = (a.0, count-apply_all σ ts ∙ a.1, instances_over σ ts a.2 (λ x o. h x (in_args o)))

    instances_over : (σ : ℕ → Tree) (ts : Trees) → AreOver has arity (λ _. Unit {0}) ts → ((x : ℕ) → OccursIn x ts → Over (σ x)) → AllOver (apply_all σ ts)
    instances_over σ none a h = tt
    instances_over σ (more t ts) a h = (instance_over σ t a.0 (λ x o. h x (in_first o)), instances_over σ ts a.1 (λ x o. h x (in_later o)))

  -- steps by equations over the signature, whose least constant is over it, too
  module _ (Above : Tree → Tree → Type 0) (least : Sym) (least_over : Over (app least none)) where
    module _ (es : List Equation) (over : AreOfSignature has arity es) where
      falls_over : (u v : Tree) → Falls Above least es u v → Over u → Over v
      falls_over u v f a = subst Over (sym f.turn.v_is) (instance_over f.turn.σ f.turn.r (other_over has arity es over f.turn.number f.turn.side f.turn.l f.turn.r f.turn.sides) (λ x o. go x o (occurs_or_not x f.turn.l)))
        where
          left : Over (apply f.turn.σ f.turn.l)
          left = subst Over f.turn.u_is a

          go : (x : ℕ) → Occurs x f.turn.r → Occurs x f.turn.l ⊎ (Occurs x f.turn.l → ⊥) → Over (f.turn.σ x)
          go x r (inl l) = image_over f.turn.σ f.turn.l x l left
          go x r (inr n) = subst Over (sym (f.completed x r n)) least_over

      mutual
        pub step_over : {u v : Tree} → OStep Above least es u v → Over u → Over v
        step_over (at_root {u = u} {v = v} f) a = falls_over u v f a
        step_over (under o) a = (a.0, sym (once_count o) ∙ a.1, once_over o a.2)

        once_over : {us vs : Trees} → WithinOne (Falls Above least es) us vs → AllOver us → AllOver vs
        once_over (at_first s) a = (step_over s a.0, a.1)
        once_over (at_later o) a = (a.0, once_over o a.1)

    -- each term of a normalising, and its end
    pub normal_over : (live : List Live) → AreOfSignature has arity (equations_of live) → (limit : ℕ) (t end : Tree) (steps : List Step) (stop : Stop) → Normalises Above least live limit t steps end stop → Over t → Each (λ (x : Step). Over x.to) steps × Over end
    normal_over live over limit t _ _ _ (is_full i) a = (tt, a)
    normal_over live over _ t _ _ _ (is_spent f) a = (tt, a)
    normal_over live over _ t _ _ _ (is_large f l) a = (tt, a)
    normal_over live over _ t end _ stop (goes_on {limit = limit} {v = v} {place = p} {rule = r} {steps = steps} f l n) a =
        let b : Over v = step_over (equations_of live) over (step_falls Above least live t p r v f) a in
        let rest = normal_over live over limit v end steps stop n b in
        ((b, rest.0), rest.1)
