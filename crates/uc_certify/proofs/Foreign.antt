-- Terms in which the least constant stands for variables and for subterms with foreign heads: what the encoded axioms make equal is
-- then equal by the problem's own axioms.
use Rattle.std.proofs.Common.{◌≡◌, ℕ, zero, suc, ◌+◌, ◌==◌, Bool, true, false, List, [], ◌∷◌, map, slice_get, Option, Some, None, Ok, refl, sym, ap, ◌∙◌, subst, ◌⊎◌, inl, inr}
use Rattle.uc_term.specs.declared.node.Sym.{Sym}
use Rattle.uc_term.specs.declared.fresh.Fresh.{Fresh}
use Rattle.uc_term.specs.declared.equation.Equation.{Equation}
use Rattle.uc_term.specs.declared.equation.Side.{Side}
use Rattle.uc_term.specs.declared.equation.Side.TheVariants.{Left, Right}
use Rattle.uc_term.specs.Equations.{Sides}
use Rattle.uc_term.specs.Table.{Table}
use Rattle.uc_term.specs.Tree.{Tree, var, app, Trees, none, more, apply, count}
use Rattle.uc_term.specs.Within.{at_root, under, WithinOne, at_first, at_later, stay, go_by}
use Rattle.uc_term.specs.Conversion.{Turn, Step, Conv}
use Rattle.uc_term.specs.Encoding.{ordinary, part, AreDistinct, reflexive, refuted, encoded}
use Rattle.uc_term.proofs.Conversion.{Conv-refl, Conv-trans, Conv-turn, Conv-sym, Conv-app, AllConv, no_conv, one_conv, Conv-follows, equation_turn}
use Rattle.uc_term.proofs.Gets.{get-append_left, get-append_cases, get-map}
use Rattle.uc_term.proofs.Terms.{apply-var}
use Rattle.uc_check.specs.Clauses.{axioms_of}
use Rattle.uc_order.specs.Members.{In, in_front, in_rest}
use Rattle.uc_order.specs.Laws.{Meaning, Laws, HasSym, least_term}
use Rattle.uc_fact.specs.Ground.{AreOfSignature}
use Rattle.uc_decide.proofs.Members.{is_in}
use Rattle.uc_decide.proofs.Clean.{fitted, clean, clean_all, clean-apply}
use Rattle.uc_problem.specs.declared.problem.Problem.{Problem}
use Rattle.uc_problem.specs.declared.problem.Encoded.{Encoded}
use Rattle.uc_problem.specs.Marks.{Marks, is_open_goal}
use Rattle.uc_problem.specs.Encodes.{Encodes, encoding_of, equations_where}
use Rattle.uc_problem.proofs.FreshMarks.{plain, are_distinct, In as IsAt}
use Rattle.uc_certify.specs.Extending.{IsOwnOrder}

pub at_place : {f : Sym} (fs : List Sym) → In fs f → IsAt f fs
at_place [] i = elim i [ ]
at_place (f ∷ fs) in_front = (zero, refl)
at_place (f ∷ fs) (in_rest i) = let p = at_place fs i in (suc p.0, p.1)

module _ (own : Meaning) (laws : Laws own) where
  pub known : (f : Sym) → HasSym own f ⊎ (HasSym own f → ⊥)
  known = is_in own.symbols

  abbrev pub Cleaned : Tree → Tree
  Cleaned = clean own laws known

  abbrev pub AllCleaned : Trees → Trees
  AllCleaned = clean_all own laws known

  -- A FOREIGN HEAD

  fitted_foreign : (f : Sym) (k : HasSym own f ⊎ (HasSym own f → ⊥)) (b : Bool) (ts : Trees) → (HasSym own f → ⊥) → fitted own laws known f k b ts ≡ least_term own
  fitted_foreign f (inl h) b ts n = absurd (n h)
  fitted_foreign f (inr h) b ts n = refl

  cleaned_foreign : (f : Sym) (ts : Trees) → (HasSym own f → ⊥) → Cleaned (app f ts) ≡ least_term own
  cleaned_foreign f ts n = fitted_foreign f (known f) (count ts == own.arity f) (AllCleaned ts) n

  -- STEPS

  -- where turns by some equations become conversions by the axioms, so do steps
  module _ (es fs : List Equation) (turn : (u v : Tree) → Turn fs u v → Conv es (Cleaned u) (Cleaned v)) where
    fitted_conv : (f : Sym) (k : HasSym own f ⊎ (HasSym own f → ⊥)) (b : Bool) (us vs : Trees) → AllConv es us vs → Conv es (fitted own laws known f k b us) (fitted own laws known f k b vs)
    fitted_conv f (inl h) true us vs c = Conv-app es f c
    fitted_conv f (inl h) false us vs c = Conv-refl es (least_term own)
    fitted_conv f (inr n) b us vs c = Conv-refl es (least_term own)

    all_refl : (ts : Trees) → AllConv es ts ts
    all_refl none = no_conv
    all_refl (more t ts) = one_conv (Conv-refl es t) (all_refl ts)

    under_conv : (f : Sym) (us vs : Trees) → count us ≡ count vs → AllConv es (AllCleaned us) (AllCleaned vs) → Conv es (Cleaned (app f us)) (Cleaned (app f vs))
    under_conv f us vs e c = rw e (fitted_conv f (known f) (count vs == own.arity f) (AllCleaned us) (AllCleaned vs) c)

    once_count : {us vs : Trees} → WithinOne (Turn fs) us vs → count us ≡ count vs
    once_count (at_first s) = refl
    once_count (at_later o) = ap (λ n. n + 1) (once_count o)

    mutual
      step_conv : {u v : Tree} → Step fs u v → Conv es (Cleaned u) (Cleaned v)
      step_conv (at_root {u = u} {v = v} t) = turn u v t
      step_conv (under {f = f} {us = us} {vs = vs} o) = under_conv f us vs (once_count o) (once_conv o)

      once_conv : {us vs : Trees} → WithinOne (Turn fs) us vs → AllConv es (AllCleaned us) (AllCleaned vs)
      once_conv (at_first {ts = ts} s) = one_conv (step_conv s) (all_refl (AllCleaned ts))
      once_conv (at_later {t = t} o) = one_conv (Conv-refl es (Cleaned t)) (once_conv o)

    steps_conv : {u v : Tree} → Conv fs u v → Conv es (Cleaned u) (Cleaned v)
    steps_conv {u = u} stay = Conv-refl es (Cleaned u)
    steps_conv (go_by s c) = Conv-trans es (step_conv s) (steps_conv c)

  -- THE AXIOMS

  module _ (es : List Equation) (over : AreOfSignature (HasSym own) own.arity es) where
    equation_conv : (i : ℕ) (e : Equation) → slice_get es i ≡ Some e → (σ : ℕ → Tree) → Conv es (Cleaned (apply σ e.left)) (Cleaned (apply σ e.right))
    equation_conv i e at σ =
        let o = over i e at in
        let l : Cleaned (apply σ e.left) ≡ apply (λ x. Cleaned (σ x)) e.left = clean-apply own laws known σ e.left o.0 in
        let r : Cleaned (apply σ e.right) ≡ apply (λ x. Cleaned (σ x)) e.right = clean-apply own laws known σ e.right o.1 in
        rw (l, r) (Conv-turn es (apply (λ x. Cleaned (σ x)) e.left) (apply (λ x. Cleaned (σ x)) e.right) (equation_turn es i e at (λ x. Cleaned (σ x))))

    -- each equation of a list becomes a conversion by the axioms
    module _ (fs : List Equation) (each : (i : ℕ) (e : Equation) → slice_get fs i ≡ Some e → (σ : ℕ → Tree) → Conv es (Cleaned (apply σ e.left)) (Cleaned (apply σ e.right))) where
      sides_conv : (i : ℕ) (a : Side) (l r : Tree) → Sides fs i a l r → (σ : ℕ → Tree) → Conv es (Cleaned (apply σ l)) (Cleaned (apply σ r))
      sides_conv i Left l r s σ = rw (s.left_is, s.right_is) (each i s.equation s.equation_is σ)
      sides_conv i Right l r s σ = rw (s.left_is, s.right_is) (Conv-sym es (each i s.equation s.equation_is σ))

      turn_conv : (u v : Tree) → Turn fs u v → Conv es (Cleaned u) (Cleaned v)
      turn_conv u v t = rw (t.u_is, t.v_is) (sides_conv t.number t.side t.l t.r t.sides t.σ)

      by_each : {u v : Tree} → Conv fs u v → Conv es (Cleaned u) (Cleaned v)
      by_each c = steps_conv es fs turn_conv c

    -- THE ENCODING

    module _ (marks : Fresh) (gs : List Equation) (are : AreDistinct marks) (ordinary_own : (f : Sym) → HasSym own f → part marks f ≡ ordinary) where
      eq_foreign : HasSym own marks.eq → ⊥
      eq_foreign h = let both = sym (ordinary_own marks.eq h) ∙ are.eq_is in absurd cc

      yes_foreign : HasSym own marks.yes → ⊥
      yes_foreign h = let both = sym (ordinary_own marks.yes h) ∙ are.yes_is in absurd cc

      no_foreign : HasSym own marks.no → ⊥
      no_foreign h = let both = sym (ordinary_own marks.no h) ∙ are.no_is in absurd cc

      both_least : (f g : Sym) (ts us : Trees) → (HasSym own f → ⊥) → (HasSym own g → ⊥) → Conv es (Cleaned (app f ts)) (Cleaned (app g us))
      both_least f g ts us n k = rw (cleaned_foreign f ts n, cleaned_foreign g us k) (Conv-refl es (least_term own))

      added_conv : (e : Equation) (j : ℕ) → slice_get (reflexive marks ∷ map (refuted marks) gs) j ≡ Some e → (σ : ℕ → Tree) → Conv es (Cleaned (apply σ e.left)) (Cleaned (apply σ e.right))
      added_conv e zero at σ =
          let same : reflexive marks ≡ e = cc in
          subst (λ (d : Equation). Conv es (Cleaned (apply σ d.left)) (Cleaned (apply σ d.right))) same (both_least marks.eq marks.yes (more (σ 0) (more (σ 0) none)) none eq_foreign yes_foreign)
      added_conv e (suc j) at σ =
          let g = get-map (refuted marks) gs j e at in
          subst (λ (d : Equation). Conv es (Cleaned (apply σ d.left)) (Cleaned (apply σ d.right))) g.2 (both_least marks.eq marks.no (more (apply σ g.0.left) (more (apply σ g.0.right) none)) none eq_foreign no_foreign)

      encoded_each : (i : ℕ) (e : Equation) → slice_get (encoded marks es gs) i ≡ Some e → (σ : ℕ → Tree) → Conv es (Cleaned (apply σ e.left)) (Cleaned (apply σ e.right))
      encoded_each i e at σ = go (get-append_cases es (reflexive marks ∷ map (refuted marks) gs) i e at)
        where
          go : (slice_get es i ≡ Some e) ⊎ ((j : ℕ) × (slice_get (reflexive marks ∷ map (refuted marks) gs) j ≡ Some e)) → Conv es (Cleaned (apply σ e.left)) (Cleaned (apply σ e.right))
          go (inl here) = equation_conv i e here σ
          go (inr there) = added_conv e there.0 there.1 σ

  -- A PROBLEM

  module _ (table : Table) (problem : Problem) (is_own : IsOwnOrder problem own) where
    abbrev axioms : List Equation
    axioms = axioms_of problem.clauses

    encoding_conv : (fresh : Option Fresh) → Marks table problem (Ok fresh) → {u v : Tree} → Conv (encoding_of problem fresh).axioms u v → Conv axioms (Cleaned u) (Cleaned v)
    encoding_conv None marked c = by_each axioms is_own.axioms_over axioms (equation_conv axioms is_own.axioms_over) c
    encoding_conv (Some marks) marked c =
        let goals = equations_where is_open_goal problem.clauses in
        let plain_own : (f : Sym) → HasSym own f → part marks f ≡ ordinary = λ f h. plain table problem marks marked.2 f (at_place problem.signature.symbols (is_own.symbols f h)) in
        by_each axioms is_own.axioms_over (encoded marks axioms goals) (encoded_each axioms is_own.axioms_over marks goals (are_distinct table problem marks marked.2) plain_own) c

    own_follows : (fresh : Option Fresh) (i : ℕ) (e : Equation) → slice_get axioms i ≡ Some e → Conv (encoding_of problem fresh).axioms e.left e.right
    own_follows None i e at = one_axiom axioms i e at
      where
        one_axiom : (es : List Equation) (i : ℕ) (e : Equation) → slice_get es i ≡ Some e → Conv es e.left e.right
        one_axiom es i e at = let t = equation_turn es i e at var in Conv-turn es e.left e.right (rw (apply-var e.left, apply-var e.right) at t)
    own_follows (Some marks) i e at =
        let goals = equations_where is_open_goal problem.clauses in
        let all = encoded marks axioms goals in
        let t = equation_turn all i e (get-append_left axioms (reflexive marks ∷ map (refuted marks) goals) i e at) var in
        Conv-turn all e.left e.right (rw (apply-var e.left, apply-var e.right) at t)

    module _ (answer : Encoded) (encodes : Encodes table problem (Ok answer)) where
      axioms_are : answer.axioms ≡ (encoding_of problem answer.fresh).axioms
      axioms_are = ap (λ (x : Encoded). x.axioms) encodes.1

      -- what the encoded axioms make equal is equal by the problem's own, foreign subterms being replaced
      pub cleaned_conv : {u v : Tree} → Conv answer.axioms u v → Conv axioms (Cleaned u) (Cleaned v)
      cleaned_conv {u = u} {v = v} c = encoding_conv answer.fresh encodes.0 (subst (λ (es : List Equation). Conv es u v) axioms_are c)

      -- the encoding has the problem's axioms
      pub own_conv : {u v : Tree} → Conv axioms u v → Conv answer.axioms u v
      own_conv {u = u} {v = v} c = subst (λ (es : List Equation). Conv es u v) (sym axioms_are) (Conv-follows axioms (encoding_of problem answer.fresh).axioms (own_follows answer.fresh) c)
