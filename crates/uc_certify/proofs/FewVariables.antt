-- Two terms of at most 4,096 nodes each, numbered by first occurrence, have variables that join lines can name.
use Rattle.std.proofs.Common.{◌≡◌, ℕ, ◌+◌, ◌<◌, ◌≤◌, ◌==◌, ◌||◌, ◌⊎◌, inl, inr, Bool, true, false, List, [], ◌∷◌, ◌++◌, length, length-append, if◌then◌else◌, slice_get, Some, refl, sym, ap, ◌∙◌, subst, arith, append_assoc, append-nil}
use Rattle.std.specs.List.{AllByRecursion}
use Rattle.std.proofs.Math.Bool.{or-true}
use Rattle.uc_term.specs.declared.equation.Equation.{Equation}
use Rattle.uc_term.specs.declared.node.Sym.{Sym}
use Rattle.uc_term.specs.Over.{IsOver, IsTerm}
use Rattle.uc_term.specs.Tree.{Tree, var, app, Trees, none, more, nodes, nodes_all}
use Rattle.uc_term.specs.Variables.{Occurs, is_itself, variables, variables_all, is_among, firsts_after, firsts, place_of, renumbered_by}
use Rattle.uc_term.proofs.Firsts.{is_among-append, firsts-append}
use Rattle.uc_term.proofs.Terms.{apply-var}
use Rattle.uc_order.specs.Members.{In, in_front, in_rest}
use Rattle.uc_order.proofs.Respected.{is_among-In, In-is_among}
use Rattle.uc_fact.proofs.NewVariables.{in_value}
use Rattle.uc_fact.proofs.Occurring.{occurs, among}
use Rattle.uc_runs.specs.Written.{AreNumbered, AreSmall}
use Rattle.uc_runs.proofs.OverTerms.{image_over, instance_over}
use Rattle.uc_tstp.proofs.InOrder.{among_firsts}
use Rattle.uc_certificate.specs.Printable.{AreFew}
use Rattle.uc_certificate.specs.JoinLines.{MOST_VARIABLES}
use Rattle.uc_certify.specs.Knowing.{HasKnown}
use Rattle.uc_certify.specs.Naming.{HaveFewVariables}

-- LISTS

module _ {A : Type 0} (P : A → Type 0) where
  pub all_if : (xs : List A) → ((x : A) → In xs x → P x) → AllByRecursion P xs
  all_if [] h = tt
  all_if (x ∷ xs) h = (h x in_front, all_if xs (λ y i. h y (in_rest i)))

  pub all_at : (xs : List A) (x : A) → AllByRecursion P xs → In xs x → P x
  all_at [] x a i = elim i [ ]
  all_at (_ ∷ xs) x a in_front = a.0
  all_at (y ∷ xs) x a (in_rest i) = all_at xs x a.1 i

-- KNOWN VARIABLES

abbrev pub Few : ℕ → Type 0
Few x = x < MOST_VARIABLES

pub few_if : (t : Tree) → HasKnown Few t → AreFew (variables t)
few_if t h = all_if Few (variables t) (λ x i. h x (occurs x t (In-is_among x (variables t) i)))

few_known : (t : Tree) → AreFew (variables t) → HasKnown Few t
few_known t a x o = all_at Few (variables t) x a (is_among-In x (variables t) (among x t o))

module _ (has : Sym → Type 0) (arity : Sym → ℕ) (Known : ℕ → Type 0) where
  pub over_if : (t : Tree) → IsTerm has arity t → HasKnown Known t → IsOver has arity Known t
  over_if t o h = subst (IsOver has arity Known) (apply-var t) (instance_over has arity Known var t o h)

  pub known_if : (t : Tree) → IsOver has arity Known t → HasKnown Known t
  known_if t o x i = image_over has arity Known var t x i (subst (IsOver has arity Known) (sym (apply-var t)) o)

-- NUMBERS BY FIRST OCCURRENCE

place_below : (xs rest : List ℕ) (x : ℕ) → is_among x xs ≡ true → place_of (xs ++ rest) x < length xs
place_below [] rest x e = absurd cc
place_below (y ∷ ys) rest x e = go (x == y) e (place_below ys rest x)
  where
    go : (b : Bool) → (b || is_among x ys) ≡ true → (is_among x ys ≡ true → place_of (ys ++ rest) x < length ys) → (if b then 0 else place_of (ys ++ rest) x + 1) < length (y ∷ ys)
    go true k later = omega arith
    go false k later = omega (arith, later k)

firsts_few : (seen xs : List ℕ) → length (firsts_after seen xs) ≤ length xs
firsts_few seen [] = omega arith
firsts_few seen (x ∷ xs) = go (is_among x seen) (firsts_few seen xs) (firsts_few (x ∷ seen) xs)
  where
    go : (b : Bool) → length (firsts_after seen xs) ≤ length xs → length (firsts_after (x ∷ seen) xs) ≤ length xs → length (if b then firsts_after seen xs else x ∷ firsts_after (x ∷ seen) xs) ≤ length (x ∷ xs)
    go true old new = omega (arith, old)
    go false old new = omega (arith, new)

mutual
  variables_few : (t : Tree) → length (variables t) ≤ nodes t
  variables_few (var x) = omega arith
  variables_few (app f ts) = omega (arith, variables_few_all ts)

  variables_few_all : (ts : Trees) → length (variables_all ts) ≤ nodes_all ts
  variables_few_all none = omega arith
  variables_few_all (more t ts) = omega (arith, variables_few t, variables_few_all ts, length-append (variables t) (variables_all ts))

variable_is : (y z : ℕ) → Occurs y (var z) → y ≡ z
variable_is _ z is_itself = refl

module _ (l r : Tree) (rest : List ℕ) (left_small : nodes l ≤ 4096) (right_small : nodes r ≤ 4096) where
  abbrev names : List ℕ
  names = firsts (variables l ++ (variables r ++ rest))

  abbrev own : List ℕ
  own = firsts (variables l ++ variables r)

  names_are : names ≡ own ++ firsts_after own rest
  names_are = ap firsts (sym (append_assoc (variables l) (variables r) rest)) ∙ firsts-append (variables l ++ variables r) rest

  own_few : length own ≤ 8192
  own_few = omega (arith, firsts_few [] (variables l ++ variables r), length-append (variables l) (variables r), variables_few l, variables_few r, left_small, right_small)

  among_own : (x : ℕ) → Occurs x l ⊎ Occurs x r → is_among x own ≡ true
  among_own x (inl o) = among_firsts [] (variables l ++ variables r) x refl (is_among-append x (variables l) (variables r) ∙ ap (λ b. b || is_among x (variables r)) (among x l o))
  among_own x (inr o) = among_firsts [] (variables l ++ variables r) x refl (is_among-append x (variables l) (variables r) ∙ ap (λ b. is_among x (variables l) || b) (among x r o) ∙ or-true (is_among x (variables l)))

  place_few : (x : ℕ) → Occurs x l ⊎ Occurs x r → place_of names x < MOST_VARIABLES
  place_few x o = let below : place_of names x < length own = subst (λ ns. place_of ns x < length own) (sym names_are) (place_below own (firsts_after own rest) x (among_own x o)) in omega (arith, below, own_few)

  pub numbered_few : (t u : Tree) → u ≡ renumbered_by names t → ((x : ℕ) → Occurs x t → Occurs x l ⊎ Occurs x r) → HasKnown Few u
  numbered_few t u e h y o =
      let v = in_value (λ x. var (place_of names x)) y t (subst (Occurs y) e o) in
      let is : y ≡ place_of names v.y = variable_is y (place_of names v.y) v.inside in
      subst Few (sym is) (place_few v.y (h v.y v.occurs))

pub few_variables : (es : List Equation) → AreNumbered es → AreSmall es → HaveFewVariables es
few_variables es numbered small n e at =
    let order = numbered n e at in
    let few = small n e at in
    let names : List ℕ = firsts (variables e.left ++ variables e.right) in
    let as_named : names ≡ firsts (variables e.left ++ (variables e.right ++ [])) = ap (λ xs. firsts (variables e.left ++ xs)) (sym (append-nil (variables e.right))) in
    let side : (t : Tree) → renumbered_by names t ≡ t → ((x : ℕ) → Occurs x t → Occurs x e.left ⊎ Occurs x e.right) → AreFew (variables t) = λ t is h. few_if t (numbered_few e.left e.right [] few.0 few.1 t t (sym is ∙ ap (λ ns. renumbered_by ns t) as_named) h) in
    (side e.left order.left (λ x o. inl o), side e.right order.right (λ x o. inr o))

pub few_sides : (es : List Equation) → HaveFewVariables es → (n : ℕ) (e : Equation) → slice_get es n ≡ Some e → HasKnown Few e.left × HasKnown Few e.right
few_sides es few n e at = let f = few n e at in (few_known e.left f.0, few_known e.right f.1)
