-- What a term can do next is kept when its variables are renumbered.
use Rattle.std.proofs.Common.{◌≡◌, ℕ, suc, ◌+◌, ◌<◌, List, [], ◌∷◌, Bool, true, false, ◌==◌, refl, ap, sym, ◌∙◌, arith, inl, inr, subst}
use Rattle.std.specs.Prelude.{◌||◌, get_or, if◌then◌else◌}
use Rattle.std.proofs.lemmas.Bool.{cases_Bool, eqb-true, eq-eqb, false≢true}
use Rattle.uc_term.specs.declared.node.Sym.{Sym}
use Rattle.uc_term.specs.declared.equation.Equation.{Equation}
use Rattle.uc_term.specs.Tree.{Tree, var, app, Trees, none, more, apply, apply_all, nodes}
use Rattle.uc_term.specs.Variables.{variables, variables_all, is_among as is_name, firsts, firsts_after, place_of, renumbered_by}
use Rattle.uc_term.specs.Within.{Within, at_root, under, WithinOne, at_first, at_later}
use Rattle.uc_term.proofs.Terms.{apply-apply}
use Rattle.uc_term.proofs.Conversion.{Within-apply}
use Rattle.uc_order.specs.Laws.{Meaning, Laws}
use Rattle.uc_fact.specs.declared.fact.Stop.{Stop}
use Rattle.uc_fact.specs.declared.fact.Stop.TheVariants.{Full, Steps, Size}
use Rattle.uc_fact.specs.Live.{Live, Rule, rules_of, equations_of}
use Rattle.uc_fact.specs.Ordered.{Falls, OStep, IsIrreducible, IsIrreducibleBelow}
use Rattle.uc_rewrite.specs.Normalising.{Makes, FirstRule, this_rule, later_rule, FirstStep, in_arguments, at_the_term, FirstStepAmong, in_this, in_another}
use Rattle.uc_pair.specs.Reading.{renamed, renamed_all}
use Rattle.uc_pair.proofs.Names.{renamed_nodes}
use Rattle.uc_shelf.specs.declared.entry.Entry.{Entry}
use Rattle.uc_shelf.specs.Entries.{live}
use Rattle.uc_machine.specs.Lists.{Each}
use Rattle.uc_machine.specs.Promises.{StandsBy}
use Rattle.uc_machine.proofs.Lists.{Each-map, Each-front, Each-behind}

-- a term renumbered by names that it has gives it back

name_at : (names : List ℕ) (x : ℕ) → is_name x names ≡ true → get_or names (place_of names x) 0 ≡ x
name_at [] x h = absurd (false≢true h)
name_at (y ∷ ys) x h = elim (cases_Bool (x == y)) as (λ _. get_or (y ∷ ys) (if x == y then 0 else place_of ys x + 1) 0 ≡ x) [
  | inl b ↦ rw b (sym (eqb-true x y b))
  | inr b ↦ rw b (let s : place_of ys x + 1 ≡ suc (place_of ys x) = omega arith in rw s (name_at ys x (rw b at h)))
]

abbrev pub back_by : List ℕ → ℕ → Tree
back_by names k = var (get_or names k 0)

mutual
  pub back_is : (names : List ℕ) (t : Tree) → Each (λ (x : ℕ). is_name x names ≡ true) (variables t) → apply (back_by names) (renumbered_by names t) ≡ t
  back_is names (var x) h = ap var (name_at names x h.0)
  back_is names (app f ts) h = ap (app f) (back_all names ts h)

  back_all : (names : List ℕ) (ts : Trees) → Each (λ (x : ℕ). is_name x names ≡ true) (variables_all ts) → apply_all (back_by names) (apply_all (λ x. var (place_of names x)) ts) ≡ ts
  back_all names none h = refl
  back_all names (more t ts) h =
      both (back_is names t (Each-front (λ (x : ℕ). is_name x names ≡ true) (variables t) (variables_all ts) h)) (back_all names ts (Each-behind (λ (x : ℕ). is_name x names ≡ true) (variables t) (variables_all ts) h))
    where
      both : {a b : Tree} {us vs : Trees} → a ≡ b → us ≡ vs → more a us ≡ more b vs
      both p q = cc

-- the first occurrences have each number

-- x is seen or comes
abbrev Comes : List ℕ → List ℕ → ℕ → Type 0
Comes seen coming x = (is_name x seen || is_name x coming) ≡ true

comes_later : (seen coming : List ℕ) (y x : ℕ) → Comes (y ∷ seen) coming x → Comes seen (y ∷ coming) x
comes_later seen coming y x h = by_cases (x == y) (is_name x seen) (is_name x coming) h
  where
    by_cases : (c a b : Bool) → ((c || a) || b) ≡ true → (a || (c || b)) ≡ true
    by_cases true true b h = refl
    by_cases true false b h = refl
    by_cases false a b h = h

comes_now : (seen coming : List ℕ) (y : ℕ) → Comes seen (y ∷ coming) y
comes_now seen coming y = by_cases (y == y) (is_name y seen) (is_name y coming) (eq-eqb y y refl)
  where
    by_cases : (c a b : Bool) → c ≡ true → (a || (c || b)) ≡ true
    by_cases true true b h = refl
    by_cases true false b h = refl
    by_cases false a b h = absurd (false≢true h)

comes_seen : (seen coming : List ℕ) (y : ℕ) → is_name y seen ≡ true → Comes seen coming y
comes_seen seen coming y h = by_cases (is_name y seen) (is_name y coming) h
  where
    by_cases : (a b : Bool) → a ≡ true → (a || b) ≡ true
    by_cases true b h = refl
    by_cases false b h = absurd (false≢true h)

firsts_have_by : (seen ys : List ℕ) (y : ℕ) (b : Bool) → is_name y seen ≡ b → Each (Comes seen (firsts_after seen ys)) ys → Each (Comes (y ∷ seen) (firsts_after (y ∷ seen) ys)) ys
    → Each (Comes seen (if b then firsts_after seen ys else y ∷ firsts_after (y ∷ seen) ys)) (y ∷ ys)
firsts_have_by seen ys y true e here there = (comes_seen seen (firsts_after seen ys) y e, here)
firsts_have_by seen ys y false e here there = (comes_now seen (firsts_after (y ∷ seen) ys) y, Each-map (comes_later seen (firsts_after (y ∷ seen) ys) y) ys there)

firsts_have : (seen xs : List ℕ) → Each (Comes seen (firsts_after seen xs)) xs
firsts_have seen [] = tt
firsts_have seen (y ∷ ys) = firsts_have_by seen ys y (is_name y seen) refl (firsts_have seen ys) (firsts_have (y ∷ seen) ys)

pub names_have : (xs : List ℕ) → Each (λ (x : ℕ). is_name x (firsts xs) ≡ true) xs
names_have xs = firsts_have [] xs

head_is : (t u : Tree) (ts us : Trees) → more t ts ≡ more u us → t ≡ u
head_is t u ts us e = cc

rest_is : (t u : Tree) (ts us : Trees) → more t ts ≡ more u us → ts ≡ us
rest_is t u ts us e = cc

arguments_are : (f : Sym) (ts us : Trees) → app f ts ≡ app f us → ts ≡ us
arguments_are f ts us e = cc

module _ (m : Meaning) (laws : Laws m) where
  falls_apply : (τ : ℕ → Tree) (es : List Equation) (u v : Tree) → Falls m.greater m.least es u v → Falls m.greater m.least es (apply τ u) (apply τ v)
  falls_apply τ es u v f = record {
    turn = record {
      number = f.turn.number;
      side = f.turn.side;
      l = f.turn.l;
      r = f.turn.r;
      sides = f.turn.sides;
      σ = λ x. apply τ (f.turn.σ x);
      u_is = ap (apply τ) f.turn.u_is ∙ apply-apply τ f.turn.σ f.turn.l;
      v_is = ap (apply τ) f.turn.v_is ∙ apply-apply τ f.turn.σ f.turn.r;
    };
    completed = λ x o n. ap (apply τ) (f.completed x o n);
    greater = laws.instances τ u v f.greater;
  }

  irreducible_back : (τ : ℕ → Tree) (es : List Equation) (u t : Tree) → apply τ u ≡ t → IsIrreducible m.greater m.least es t → IsIrreducible m.greater m.least es u
  irreducible_back τ es u t e i v s = i (apply τ v) (subst (λ x. OStep m.greater m.least es x (apply τ v)) e (Within-apply τ (falls_apply τ es) s))

  makes_apply : (τ : ℕ → Tree) (r : Rule) (u v : Tree) → Makes m.greater m.least r u v → Makes m.greater m.least r (apply τ u) (apply τ v)
  makes_apply τ r u v a = record {
    σ = λ x. apply τ (a.σ x);
    u_is = ap (apply τ) a.u_is ∙ apply-apply τ a.σ r.from;
    v_is = ap (apply τ) a.v_is ∙ apply-apply τ a.σ r.to;
    completed = λ x o n. ap (apply τ) (a.completed x o n);
    greater = laws.instances τ u v a.greater;
  }

  -- the variables are renamed by f, and β gives the names back
  module _ (f : ℕ → ℕ) (β : ℕ → Tree) (ls : List Live) where
    abbrev First : Tree → ℕ → Rule → Tree → Type 0
    First t p r v = FirstStep m.greater m.least ls t p r v

    abbrev FirstAmong : Trees → ℕ → Rule → Trees → Type 0
    FirstAmong ts p r vs = FirstStepAmong m.greater m.least ls ts p r vs

    first_rule : (u v : Tree) → apply β (renamed f u) ≡ u → (rules : List Rule) (r : Rule) → FirstRule m.greater m.least u v rules r → FirstRule m.greater m.least (renamed f u) (renamed f v) rules r
    first_rule u v e [] r a = elim a [ ]
    first_rule u v e (r ∷ rules) _ (this_rule a) = this_rule (makes_apply (λ x. var (f x)) r u v a)
    first_rule u v e (other ∷ rules) r (later_rule n a) =
        later_rule (λ w b. n (apply β w) (subst (λ (x : Tree). Makes m.greater m.least other x (apply β w)) e (makes_apply β other (renamed f u) w b))) (first_rule u v e rules r a)

    mutual
      step_back_in : (t v : Tree) → Within (Falls m.greater m.least (equations_of ls)) t v → Within (Falls m.greater m.least (equations_of ls)) (apply β t) (apply β v)
      step_back_in t v (at_root s) = at_root (falls_apply β (equations_of ls) t v s)
      step_back_in _ _ (under {f = g} {us = us} {vs = vs} s) = under (steps_back_in us vs s)

      steps_back_in : (us vs : Trees) → WithinOne (Falls m.greater m.least (equations_of ls)) us vs → WithinOne (Falls m.greater m.least (equations_of ls)) (apply_all β us) (apply_all β vs)
      steps_back_in _ _ (at_first {u = u} {v = v} s) = at_first (step_back_in u v s)
      steps_back_in _ _ (at_later {us = us} {vs = vs} s) = at_later (steps_back_in us vs s)

    below : (t : Tree) → apply β (renamed f t) ≡ t → IsIrreducibleBelow m.greater m.least (equations_of ls) t → IsIrreducibleBelow m.greater m.least (equations_of ls) (renamed f t)
    below (var x) e i = tt
    below (app g ts) e i = λ vs s. i (apply_all β vs) (subst (λ (us : Trees). WithinOne (Falls m.greater m.least (equations_of ls)) us (apply_all β vs)) (arguments_are g (apply_all β (renamed_all f ts)) ts e) (steps_back_in (renamed_all f ts) vs s))

    mutual
      pub first_renamed : (t : Tree) (p : ℕ) (r : Rule) (v : Tree) → apply β (renamed f t) ≡ t → First t p r v → First (renamed f t) p r (renamed f v)
      first_renamed (app g us) _ r (app h vs) e (in_arguments {place = p} a) = in_arguments (among_renamed us p r vs (arguments_are g (apply_all β (renamed_all f us)) us e) a)
      first_renamed t _ r v e (at_the_term n a) = at_the_term (below t e n) (first_rule t v e (rules_of ls) r a)

      among_renamed : (us : Trees) (p : ℕ) (r : Rule) (vs : Trees) → apply_all β (renamed_all f us) ≡ us → FirstAmong us p r vs → FirstAmong (renamed_all f us) p r (renamed_all f vs)
      among_renamed none p r vs e a = elim a [ ]
      among_renamed (more u ts) p r none e a = elim a [ ]
      among_renamed (more u ts) p r (more v _) e (in_this a) = in_this (first_renamed u p r v (head_is (apply β (renamed f u)) u (apply_all β (renamed_all f ts)) ts e) a)
      among_renamed (more t us) _ r (more _ vs) e (in_another {place = p} n a) =
          subst (λ k. FirstAmong (more (renamed f t) (renamed_all f us)) (k + p) r (more (renamed f t) (renamed_all f vs))) (renamed_nodes f t)
          (in_another (irreducible_back β (equations_of ls) (renamed f t) t (head_is (apply β (renamed f t)) t (apply_all β (renamed_all f us)) us e) n)
          (among_renamed us p r vs (rest_is (apply β (renamed f t)) t (apply_all β (renamed_all f us)) us e) a))

  -- so a term stands as before by the stop of its normalising
  pub renumbered_stands : (es : List Entry) (names : List ℕ) (stop : Stop) (t : Tree) → Each (λ (x : ℕ). is_name x names ≡ true) (variables t) → StandsBy m es stop t → StandsBy m es stop (renumbered_by names t)
  renumbered_stands es names Full t h i = irreducible_back (back_by names) (equations_of (live es)) (renumbered_by names t) t (back_is names t h) i
  renumbered_stands es names Steps t h i = record { place = i.place; rule = i.rule; v = renumbered_by names i.v; first = first_renamed (place_of names) (back_by names) (live es) t i.place i.rule i.v (back_is names t h) i.first }
  renumbered_stands es names Size t h i =
      let large : 4096 < nodes i.v = i.large in
      record {
        place = i.place;
        rule = i.rule;
        v = renumbered_by names i.v;
        first = first_renamed (place_of names) (back_by names) (live es) t i.place i.rule i.v (back_is names t h) i.first;
        large = omega (arith, large, renamed_nodes (place_of names) i.v);
      }
