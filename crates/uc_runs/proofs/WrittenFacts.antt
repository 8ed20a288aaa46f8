-- The facts of a run have their variables numbered by first occurrence, and sides of at most 4,096 nodes.
use Rattle.std.proofs.Common.{◌≡◌, ℕ, ◌+◌, ◌≤◌, ◌==◌, Bool, true, false, List, [], ◌∷◌, ◌++◌, refl, sym, ap, ◌∙◌, subst, arith, append_assoc, append-nil}
use Rattle.std.specs.Prelude.{◌||◌, if◌then◌else◌}
use Rattle.std.proofs.lemmas.Bool.{eqb-true}
use Rattle.uc_term.specs.declared.equation.Equation.{Equation}
use Rattle.uc_term.specs.Tree.{Tree, var, apply, nodes}
use Rattle.uc_term.specs.Variables.{variables, is_among, firsts_after, firsts, place_of, renumbered_by}
use Rattle.uc_term.proofs.Agree.{same_if}
use Rattle.uc_term.proofs.Firsts.{firsts-append}
use Rattle.uc_order.specs.Laws.{Meaning}
use Rattle.uc_fact.specs.declared.chain.Chain.{Chain}
use Rattle.uc_fact.specs.declared.chain.Step.{Step}
use Rattle.uc_fact.specs.declared.fact.Fact.{Fact}
use Rattle.uc_fact.specs.declared.fact.Origin.{Origin}
use Rattle.uc_fact.specs.declared.fact.Overlap.{Overlap}
use Rattle.uc_fact.specs.declared.fact.Stop.{Stop}
use Rattle.uc_fact.specs.Chains.{variables_of_chain, reversed}
use Rattle.uc_fact.specs.Live.{Live, equation_of, equations_of}
use Rattle.uc_fact.proofs.Occurring.{among}
use Rattle.uc_rewrite.specs.Normalising.{Normalises, is_full, is_spent, is_large, goes_on}
use Rattle.uc_pair.specs.declared.formation.Formation.{Formation}
use Rattle.uc_pair.specs.declared.formation.Formation.TheVariants.{Pair as Forms, TooLarge}
use Rattle.uc_pair.specs.Overlapping.{peak, left_of, right_of}
use Rattle.uc_pair.specs.Pairs.{IsPairOf, forms_pair, names_of as pair_names}
use Rattle.uc_pair.proofs.Names.{renamed_nodes}
use Rattle.uc_pair.proofs.Renumbering.{same_numbered}
use Rattle.uc_shelf.specs.declared.entry.Entry.{Entry}
use Rattle.uc_shelf.specs.Entries.{born, live}
use Rattle.uc_machine.specs.Lists.{Each}
use Rattle.uc_machine.specs.Results.{Trial, way, names_of, made, IsPair, of_axiom, of_overlap, of_dead, IsTrial, GivesFact, left_is_greater, right_is_greater, none_is_greater}
use Rattle.uc_machine.specs.Runs.{Reaches}
use Rattle.uc_machine.specs.State.{Opening, State}
use Rattle.uc_machine.proofs.Lists.{Each-front, Each-behind}
use Rattle.uc_runs.specs.Written.{IsNumbered, AreNumbered, AreSmall}
use Rattle.uc_runs.proofs.EachFact.{each_get, live_each, each_fact}
use Rattle.uc_runs.proofs.Renumbered.{names_have, back_by, back_is}

-- names

each_among : (P : ℕ → Type 0) (xs : List ℕ) → Each P xs → (x : ℕ) → is_among x xs ≡ true → P x
each_among P [] h x e = absurd cc
each_among P (y ∷ ys) h x e = go (x == y) refl e (each_among P ys h.1 x)
  where
    go : (b : Bool) → (x == y) ≡ b → (b || is_among x ys) ≡ true → (is_among x ys ≡ true → P x) → P x
    go true q k later = subst P (sym (eqb-true x y q)) h.0
    go false q k later = later k

place_front : (x : ℕ) (ks rest : List ℕ) → is_among x ks ≡ true → place_of (ks ++ rest) x ≡ place_of ks x
place_front x [] rest e = absurd cc
place_front x (y ∷ ys) rest e = go (x == y) e (place_front x ys rest)
  where
    go : (b : Bool) → (b || is_among x ys) ≡ true → (is_among x ys ≡ true → place_of (ys ++ rest) x ≡ place_of ys x) → (if b then 0 else place_of (ys ++ rest) x + 1) ≡ (if b then 0 else place_of ys x + 1)
    go true k later = refl
    go false k later = ap (λ n. n + 1) (later k)

none_new : (seen xs : List ℕ) → Each (λ (x : ℕ). is_among x seen ≡ true) xs → firsts_after seen xs ≡ []
none_new seen [] h = refl
none_new seen (x ∷ xs) h = go (is_among x seen) h.0 (none_new seen xs h.1)
  where
    go : (b : Bool) → b ≡ true → firsts_after seen xs ≡ [] → (if b then firsts_after seen xs else x ∷ firsts_after (x ∷ seen) xs) ≡ []
    go true e k = k
    go false e k = absurd cc

-- what comes again adds no name
named_again : (xs ys : List ℕ) → firsts (xs ++ (ys ++ xs)) ≡ firsts (xs ++ ys)
named_again xs ys =
    let again = none_new (firsts (xs ++ ys)) xs (Each-front (λ (x : ℕ). is_among x (firsts (xs ++ ys)) ≡ true) xs ys (names_have (xs ++ ys))) in
    ap firsts (sym (append_assoc xs ys xs)) ∙ firsts-append (xs ++ ys) xs ∙ ap (λ zs. firsts (xs ++ ys) ++ zs) again ∙ append-nil (firsts (xs ++ ys))

-- numbered terms

module _ (l r : Tree) (rest : List ℕ) where
  abbrev all : List ℕ
  all = firsts (variables l ++ (variables r ++ rest))

  abbrev own : List ℕ
  own = firsts (variables l ++ variables r)

  all_is : all ≡ own ++ firsts_after own rest
  all_is = ap firsts (sym (append_assoc (variables l) (variables r) rest)) ∙ firsts-append (variables l ++ variables r) rest

  -- the names behind those of the two terms don't count
  numbered_by_own : (t : Tree) → Each (λ (x : ℕ). is_among x own ≡ true) (variables t) → renumbered_by all t ≡ renumbered_by own t
  numbered_by_own t h = same_if (λ x. var (place_of all x)) (λ x. var (place_of own x)) t (λ x o.
      ap var (ap (λ ns. place_of ns x) all_is ∙ place_front x own (firsts_after own rest) (each_among (λ (y : ℕ). is_among y own ≡ true) (variables t) h x (among x t o))))

  own_left : Each (λ (x : ℕ). is_among x own ≡ true) (variables l)
  own_left = Each-front (λ (x : ℕ). is_among x own ≡ true) (variables l) (variables r) (names_have (variables l ++ variables r))

  own_right : Each (λ (x : ℕ). is_among x own ≡ true) (variables r)
  own_right = Each-behind (λ (x : ℕ). is_among x own ≡ true) (variables l) (variables r) (names_have (variables l ++ variables r))

  all_left : Each (λ (x : ℕ). is_among x all ≡ true) (variables l)
  all_left = Each-front (λ (x : ℕ). is_among x all ≡ true) (variables l) (variables r ++ rest) (names_have (variables l ++ (variables r ++ rest)))

  all_right : Each (λ (x : ℕ). is_among x all ≡ true) (variables r)
  all_right = Each-front (λ (x : ℕ). is_among x all ≡ true) (variables r) rest (Each-behind (λ (x : ℕ). is_among x all ≡ true) (variables l) (variables r ++ rest) (names_have (variables l ++ (variables r ++ rest))))

  abbrev new_left : Tree
  new_left = renumbered_by all l

  abbrev new_right : Tree
  new_right = renumbered_by all r

  abbrev New : List ℕ
  New = firsts (variables new_left ++ variables new_right)

  -- to number a numbered one changes nothing
  numbered_twice : (t : Tree) → Each (λ (x : ℕ). is_among x own ≡ true) (variables t) → Each (λ (x : ℕ). is_among x all ≡ true) (variables t) → renumbered_by New (renumbered_by all t) ≡ renumbered_by all t
  numbered_twice t h k =
      let number : ℕ → Tree = λ x. var (place_of all x) in
      let back : (u : Tree) → Each (λ (x : ℕ). is_among x all ≡ true) (variables u) → u ≡ apply (back_by all) (renumbered_by all u) = λ u c. sym (back_is all u c) in
      let alike = same_numbered l r l new_left new_right new_left (back_by all) number (back l all_left) (back r all_right) (back l all_left) refl refl refl t (renumbered_by all t) (back t k) refl in
      ap (λ ns. renumbered_by ns (renumbered_by all t)) (sym (named_again (variables new_left) (variables new_right)))
      ∙ alike
      ∙ ap (λ ns. renumbered_by ns t) (named_again (variables l) (variables r))
      ∙ sym (numbered_by_own t h)

  pub is_numbered : IsNumbered (record { left = new_left; right = new_right })
  is_numbered = record { left = numbered_twice l own_left all_left; right = numbered_twice r own_right all_right }

made_numbered : (oriented : Bool) (origin : Origin) (front : ℕ) (l r : Tree) (chain : Chain) (a b : Stop) → IsNumbered (equation_of (made oriented origin front l r chain a b))
made_numbered oriented origin front l r chain a b = is_numbered l r (variables_of_chain chain)

module _ (m : Meaning) where
  fact_numbered : (origin : Origin) (front : ℕ) (t : Trial) (f : Fact) → GivesFact m origin front t f → IsNumbered (equation_of f)
  fact_numbered origin front t _ (left_is_greater q) = made_numbered true origin front t.left.term t.right.term (way t) t.left.stop t.right.stop
  fact_numbered origin front t _ (right_is_greater q) = made_numbered true origin front t.right.term t.left.term (reversed (way t)) t.right.stop t.left.stop
  fact_numbered origin front t _ (none_is_greater p q) = made_numbered false origin front t.left.term t.right.term (way t) t.left.stop t.right.stop

  pub facts_numbered : (o : Opening) (s : State) → Reaches m o s → AreNumbered (equations_of (live s.entries))
  facts_numbered o s r = live_each IsNumbered s.entries (each_fact m o (λ (f : Fact). IsNumbered (equation_of f)) (λ es h origin front t f i g. fact_numbered origin front t f g) s r)

  -- sizes

  abbrev IsSmall : Equation → Type 0
  IsSmall e = (nodes e.left ≤ 4096) × (nodes e.right ≤ 4096)

  normal_small : (fs : List Live) (limit : ℕ) (t end : Tree) (steps : List Step) (stop : Stop) → Normalises m.greater m.least fs limit t steps end stop → nodes t ≤ 4096 → nodes end ≤ 4096
  normal_small fs limit t _ _ _ (is_full i) h = h
  normal_small fs _ t _ _ _ (is_spent f) h = h
  normal_small fs _ t _ _ _ (is_large f l) h = h
  normal_small fs _ t end _ stop (goes_on {limit = limit} {v = v} {steps = steps} f l n) h = normal_small fs limit v end steps stop n l

  renumbered_small : (names : List ℕ) (t u : Tree) → u ≡ renumbered_by names t → nodes t ≤ 4096 → nodes u ≤ 4096
  renumbered_small names t u e h = let q : nodes u ≡ nodes t = ap nodes e ∙ renamed_nodes (place_of names) t in omega arith

  abbrev FormsSmall : Formation → Type 0
  FormsSmall TooLarge = Unit {0}
  FormsSmall (Forms l r chain) = (nodes l ≤ 4096) × (nodes r ≤ 4096)

  pair_small : (a b : Equation) (overlap : Overlap) (formation : Formation) → IsPairOf a b overlap formation → FormsSmall formation
  pair_small a b overlap TooLarge f = tt
  pair_small a b overlap (Forms left right chain) (forms_pair o fits by) =
      let names = pair_names (left_of o) (right_of o) (peak o) in
      (renumbered_small names (left_of o) left by.numbered.left_is fits.left_small, renumbered_small names (right_of o) right by.numbered.right_is fits.right_small)

  module _ (axioms : List Equation) (small : AreSmall axioms) where
    origin_small : (es : List Entry) → Each (λ (f : Fact). IsSmall (equation_of f)) (born es) → (origin : Origin) (e : Equation) (chain : Chain) → IsPair axioms es origin e chain → IsSmall e
    origin_small es h _ e _ (of_axiom {k = k} at) = small k e at
    origin_small es h _ _ chain (of_overlap {o = o} {a = a} {b = b} {l = l} {r = r} x y p) = pair_small (equation_of a) (equation_of b) o (Forms l r chain) p
    origin_small es h _ _ _ (of_dead {i = i} {f = f} at) = each_get (λ (g : Fact). IsSmall (equation_of g)) (born es) h i f at

    made_small : (oriented : Bool) (origin : Origin) (front : ℕ) (l r : Tree) (chain : Chain) (a b : Stop) → nodes l ≤ 4096 → nodes r ≤ 4096 → IsSmall (equation_of (made oriented origin front l r chain a b))
    made_small oriented origin front l r chain a b x y = let names = names_of l r chain in (renumbered_small names l (renumbered_by names l) refl x, renumbered_small names r (renumbered_by names r) refl y)

    fact_small : (es : List Entry) → Each (λ (f : Fact). IsSmall (equation_of f)) (born es) → (origin : Origin) (front : ℕ) (t : Trial) (f : Fact) → IsTrial m axioms es origin t → GivesFact m origin front t f → IsSmall (equation_of f)
    fact_small es h origin front t f i g = go f g
      where
        sides : IsSmall t.equation
        sides = origin_small es h origin t.equation t.chain i.pair_is

        left : nodes t.left.term ≤ 4096
        left = normal_small (live es) 4096 t.equation.left t.left.term t.left.chain.steps t.left.stop i.left_is.normalises sides.0

        right : nodes t.right.term ≤ 4096
        right = normal_small (live es) 4096 t.equation.right t.right.term t.right.chain.steps t.right.stop i.right_is.normalises sides.1

        go : (f : Fact) → GivesFact m origin front t f → IsSmall (equation_of f)
        go _ (left_is_greater q) = made_small true origin front t.left.term t.right.term (way t) t.left.stop t.right.stop left right
        go _ (right_is_greater q) = made_small true origin front t.right.term t.left.term (reversed (way t)) t.right.stop t.left.stop right left
        go _ (none_is_greater p q) = made_small false origin front t.left.term t.right.term (way t) t.left.stop t.right.stop left right

  pub facts_small : (o : Opening) → AreSmall o.axioms → (s : State) → Reaches m o s → AreSmall (equations_of (live s.entries))
  facts_small o small s r = live_each IsSmall s.entries (each_fact m o (λ (f : Fact). IsSmall (equation_of f)) (λ es h origin front t f i g. fact_small o.axioms small es h origin front t f i g) s r)
