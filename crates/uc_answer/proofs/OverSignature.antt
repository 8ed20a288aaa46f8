-- The axioms and the goals of an encoded problem are over its signature.
use Rattle.std.proofs.Common.{ℕ, suc, ◌≡◌, ◌+◌, ◌==◌, ◌||◌, Bool, true, false, List, [], ◌∷◌, ◌++◌, map, unwrap_or, Option, Some, None, Result, Ok, if◌then◌else◌, refl, sym, ap, subst}
use Rattle.std.specs.List.{list_any}
use Rattle.std.proofs.lemmas.Bool.{eqb-true}
use Rattle.uc_term.specs.declared.node.Sym.{Sym}
use Rattle.uc_term.specs.declared.node.Node.{Node}
use Rattle.uc_term.specs.declared.node.Node.TheVariants.{Var, App}
use Rattle.uc_term.specs.declared.fault.TermFault.{TermFault}
use Rattle.uc_term.specs.declared.fresh.Fresh.{Fresh}
use Rattle.uc_term.specs.declared.signature.Signature.{Signature}
use Rattle.uc_term.specs.declared.equation.Equation.{Equation}
use Rattle.uc_term.specs.Tree.{Tree, var, app, Trees, none, more}
use Rattle.uc_term.specs.Flat.{flat, flat_all}
use Rattle.uc_term.specs.Over.{IsTerm, AreOver}
use Rattle.uc_term.specs.Table.{Table, Entry, Has, IsOf, IsSymbol, arity_of}
use Rattle.uc_term.specs.Gathering.{AreOf}
use Rattle.uc_term.specs.Signatures.{Occurrence, occurrences_in, occurrences_from, same_symbol, Gathers, all_seen, seen_before, is_new, clashes, is_too_many, Completes, has_constant, gets_constant}
use Rattle.uc_term.specs.Encoding.{pair_term, reflexive, refuted, encoded}
use Rattle.uc_order.specs.Members.{In, in_front, in_rest, Each}
use Rattle.uc_clause.specs.declared.clause.Sourced.{Sourced}
use Rattle.uc_check.specs.Clauses.{equation_of, axioms_of, goals_of}
use Rattle.uc_problem.specs.declared.problem.Problem.{Problem}
use Rattle.uc_problem.specs.declared.problem.Encoded.{Encoded}
use Rattle.uc_problem.specs.Holds.{terms_of, Agrees}
use Rattle.uc_problem.specs.Marks.{Marks, is_open_goal}
use Rattle.uc_problem.specs.Encodes.{is_ground_goal, equations_where, last_goal, encoding_of, Encodes}
use Rattle.uc_ordering.specs.Choice.{all_symbols}

-- MEMBERS

in_left : {A : Type 0} {xs : List A} (ys : List A) {x : A} → In xs x → In (xs ++ ys) x
in_left ys in_front = in_front
in_left ys (in_rest i) = in_rest (in_left ys i)

in_right : {A : Type 0} (xs : List A) {ys : List A} {x : A} → In ys x → In (xs ++ ys) x
in_right [] i = i
in_right (x ∷ xs) i = in_rest (in_right xs i)

same_sym : (f g : Sym) → (f.0 == g.0) ≡ true → g ≡ f
same_sym f g e = ap (λ (n : ℕ). record { 0 = n }) (sym (eqb-true f.0 g.0 e))

pub any_in : (f : Sym) (gs : List Sym) → list_any (same_symbol f) gs ≡ true → In gs f
any_in f [] e = absurd cc
any_in f (g ∷ gs) e = go (same_symbol f g) refl e (any_in f gs)
  where
    go : (b : Bool) → same_symbol f g ≡ b → (b || list_any (same_symbol f) gs) ≡ true → (list_any (same_symbol f) gs ≡ true → In gs f) → In (g ∷ gs) f
    go true q r later = subst (λ (h : Sym). In (g ∷ gs) h) (same_sym f g q) in_front
    go false q r later = in_rest (later r)

pub split_left : {A : Type 0} (P : A → Type 0) (xs ys : List A) → Each P (xs ++ ys) → Each P xs
split_left P [] ys h = tt
split_left P (x ∷ xs) ys h = (h.0, split_left P xs ys h.1)

pub split_right : {A : Type 0} (P : A → Type 0) (xs ys : List A) → Each P (xs ++ ys) → Each P ys
split_right P [] ys h = h
split_right P (x ∷ xs) ys h = split_right P xs ys h.1

-- SYMBOLS THAT OCCUR

module _ (table : Table) where
  abbrev IsAmong : List Sym → Occurrence → Type 0
  IsAmong fs o = In fs o.symbol

  gathered : {seen : List Sym} {os : List Occurrence} {r : Result (List Sym) TermFault} → Gathers table seen os r → (fs : List Sym) → r ≡ Ok fs → ((f : Sym) → In seen f → In fs f) × Each (IsAmong fs) os
  gathered {seen = seen} all_seen fs e = let same : seen ≡ fs = cc in (λ f i. subst (λ (gs : List Sym). In gs f) same i, tt)
  gathered {seen = seen} (seen_before {o = o} b g) fs e = let p = gathered g fs e in (p.0, (p.0 o.symbol (any_in o.symbol seen b), p.1))
  gathered {seen = seen} (is_new {o = o} n m g) fs e = let p = gathered g fs e in (λ f i. p.0 f (in_left (o.symbol ∷ []) i), (p.0 o.symbol (in_right seen in_front), p.1))
  gathered (clashes b n) fs e = absurd cc
  gathered (is_too_many n m) fs e = absurd cc

  module _ (fs : List Sym) where
    abbrev NodeAmong : Node → Type 0
    NodeAmong (Var x) = Unit {0}
    NodeAmong (App f n) = In fs f

    nodes_among : (term place : ℕ) (ns : List Node) → Each (IsAmong fs) (occurrences_in term place ns) → Each NodeAmong ns
    nodes_among term place [] h = tt
    nodes_among term place (Var x ∷ ns) h = (tt, nodes_among term (place + 1) ns h)
    nodes_among term place (App f n ∷ ns) h = (h.0, nodes_among term (place + 1) ns h.1)

    mutual
      term_among : (t : Tree) → IsOf table t → Each NodeAmong (flat t) → IsTerm (In fs) (arity_of table) t
      term_among (var x) h n = tt
      term_among (app f ts) h n = (n.0, h.1, terms_among ts h.2 n.1)

      terms_among : (ts : Trees) → AreOver (Has table) (arity_of table) (λ _. Unit {0}) ts → Each NodeAmong (flat_all ts) → AreOver (In fs) (arity_of table) (λ _. Unit {0}) ts
      terms_among none h n = tt
      terms_among (more t ts) h n = (term_among t h.0 (split_left NodeAmong (flat t) (flat_all ts) n), terms_among ts h.1 (split_right NodeAmong (flat t) (flat_all ts) n))

    all_among : (term : ℕ) (ts : List Tree) → AreOf table ts → Each (IsAmong fs) (occurrences_from term ts) → Each (IsTerm (In fs) (arity_of table)) ts
    all_among term [] h o = tt
    all_among term (t ∷ ts) h o = (
      term_among t (h 0 t refl) (nodes_among term 0 (flat t) (split_left (IsAmong fs) (occurrences_in term 0 (flat t)) (occurrences_from (term + 1) ts) o)),
      all_among (term + 1) ts (λ i u e. h (suc i) u e) (split_right (IsAmong fs) (occurrences_in term 0 (flat t)) (occurrences_from (term + 1) ts) o),
    )

  -- a term over some of the symbols is one over more
  mutual
    wider : (P Q : Sym → Type 0) → ((f : Sym) → P f → Q f) → (t : Tree) → IsTerm P (arity_of table) t → IsTerm Q (arity_of table) t
    wider P Q k (var x) h = tt
    wider P Q k (app f ts) h = (k f h.0, h.1, all_wider P Q k ts h.2)

    all_wider : (P Q : Sym → Type 0) → ((f : Sym) → P f → Q f) → (ts : Trees) → AreOver P (arity_of table) (λ _. Unit {0}) ts → AreOver Q (arity_of table) (λ _. Unit {0}) ts
    all_wider P Q k none h = tt
    all_wider P Q k (more t ts) h = (wider P Q k t h.0, all_wider P Q k ts h.1)

  each_wider : (P Q : Sym → Type 0) → ((f : Sym) → P f → Q f) → (ts : List Tree) → Each (IsTerm P (arity_of table)) ts → Each (IsTerm Q (arity_of table)) ts
  each_wider P Q k [] h = tt
  each_wider P Q k (t ∷ ts) h = (wider P Q k t h.0, each_wider P Q k ts h.1)

  completed : (fs : List Sym) (signature : Signature) → Completes table fs signature → (f : Sym) → In fs f → In signature.symbols f
  completed fs _ (has_constant e) f i = i
  completed fs _ (gets_constant {c = c} e h) f i = in_left (c ∷ []) i

  -- the terms of a problem's clauses
  own_terms : (problem : Problem) → Agrees table problem → Each (IsTerm (In problem.signature.symbols) (arity_of table)) (terms_of problem.clauses)
  own_terms problem agrees =
      let s = agrees.signature in
      let terms = terms_of problem.clauses in
      each_wider (In s.symbols) (In problem.signature.symbols) (completed s.symbols problem.signature s.completes) terms (all_among s.symbols 0 terms agrees.over (gathered s.gathers s.symbols refl).1)

  -- EQUATIONS

  module _ (P : Sym → Type 0) where
    abbrev pub IsEquationOver : Equation → Type 0
    IsEquationOver e = IsTerm P (arity_of table) e.left × IsTerm P (arity_of table) e.right

    both : (xs ys : List Equation) → Each IsEquationOver xs → Each IsEquationOver ys → Each IsEquationOver (xs ++ ys)
    both [] ys h k = k
    both (x ∷ xs) ys h k = (h.0, both xs ys h.1 k)

    axioms_over : (ss : List Sourced) → Each (IsTerm P (arity_of table)) (terms_of ss) → Each IsEquationOver (axioms_of ss)
    axioms_over [] h = tt
    axioms_over (s ∷ ss) h = go s.clause.positive (axioms_over ss h.1.1)
      where
        go : (b : Bool) → Each IsEquationOver (axioms_of ss) → Each IsEquationOver (if b then equation_of s.clause ∷ axioms_of ss else axioms_of ss)
        go true later = ((h.0, h.1.0), later)
        go false later = later

    goals_over : (ss : List Sourced) → Each (IsTerm P (arity_of table)) (terms_of ss) → Each IsEquationOver (goals_of ss)
    goals_over [] h = tt
    goals_over (s ∷ ss) h = go s.clause.positive (goals_over ss h.1.1)
      where
        go : (b : Bool) → Each IsEquationOver (goals_of ss) → Each IsEquationOver (if b then goals_of ss else equation_of s.clause ∷ goals_of ss)
        go true later = later
        go false later = ((h.0, h.1.0), later)

    where_over : (is : Sourced → Bool) (ss : List Sourced) → Each (IsTerm P (arity_of table)) (terms_of ss) → Each IsEquationOver (equations_where is ss)
    where_over is [] h = tt
    where_over is (s ∷ ss) h = go (is s) (where_over is ss h.1.1)
      where
        go : (b : Bool) → Each IsEquationOver (equations_where is ss) → Each IsEquationOver (if b then equation_of s.clause ∷ equations_where is ss else equations_where is ss)
        go true later = ((h.0, h.1.0), later)
        go false later = later

    module _ (marks : Fresh) (eq : P marks.eq) (yes : P marks.yes) (no : P marks.no) (eq_arity : arity_of table marks.eq ≡ 2) (yes_arity : arity_of table marks.yes ≡ 0) (no_arity : arity_of table marks.no ≡ 0) where
      pair_over : (s t : Tree) → IsTerm P (arity_of table) s → IsTerm P (arity_of table) t → IsTerm P (arity_of table) (pair_term marks s t)
      pair_over s t h k = (eq, sym eq_arity, (h, (k, tt)))

      yes_over : IsTerm P (arity_of table) (app marks.yes none)
      yes_over = (yes, sym yes_arity, tt)

      no_over : IsTerm P (arity_of table) (app marks.no none)
      no_over = (no, sym no_arity, tt)

      refuted_over : (es : List Equation) → Each IsEquationOver es → Each IsEquationOver (map (refuted marks) es)
      refuted_over [] h = tt
      refuted_over (e ∷ es) h = ((pair_over e.left e.right h.0.0 h.0.1, no_over), refuted_over es h.1)

      encoded_over : (axioms goals : List Equation) → Each IsEquationOver axioms → Each IsEquationOver goals → Each IsEquationOver (encoded marks axioms goals)
      encoded_over axioms goals h k = both axioms (reflexive marks ∷ map (refuted marks) goals) h ((pair_over (var 0) (var 0) tt tt, yes_over), refuted_over goals k)

  -- THE ENCODED PROBLEM

  symbol_arity : (f : Sym) (name : List ℕ) (n : ℕ) → IsSymbol table f name n → arity_of table f ≡ n
  symbol_arity f name n s = ap (λ (o : Option Entry). (unwrap_or o (record { name = []; arity = 0 })).arity) s

  module _ (problem : Problem) (agrees : Agrees table problem) where
    -- the axioms of the problem itself are over its own signature
    pub own_axioms_over : Each (IsEquationOver (In problem.signature.symbols)) (axioms_of problem.clauses)
    own_axioms_over = axioms_over (In problem.signature.symbols) problem.clauses (own_terms problem agrees)

    abbrev Over : Option Fresh → List Equation → Type 0
    Over fresh es = Each (IsEquationOver (In (all_symbols problem.signature fresh))) es

    encoding_over : (fresh : Option Fresh) → Marks table problem (Ok fresh) → Over fresh (encoding_of problem fresh).axioms × Over fresh (encoding_of problem fresh).goals
    encoding_over None m =
        let terms = own_terms problem agrees in
        (axioms_over (In problem.signature.symbols) problem.clauses terms, goals_over (In problem.signature.symbols) problem.clauses terms)
    encoding_over (Some marks) m =
        let own = problem.signature.symbols in
        let three = marks.yes ∷ marks.no ∷ marks.eq ∷ [] in
        let P : Sym → Type 0 = In (own ++ three) in
        let terms = each_wider (In own) P (λ f i. in_left three i) (terms_of problem.clauses) (own_terms problem agrees) in
        let yes : P marks.yes = in_right own in_front in
        let no : P marks.no = in_right own (in_rest in_front) in
        let eq : P marks.eq = in_right own (in_rest (in_rest in_front)) in
        let eq_arity = symbol_arity marks.eq _ 2 m.2.eq.symbol in
        let yes_arity = symbol_arity marks.yes _ 0 m.2.yes.symbol in
        let no_arity = symbol_arity marks.no _ 0 m.2.no.symbol in (
          encoded_over P marks eq yes no eq_arity yes_arity no_arity (axioms_of problem.clauses) (equations_where is_open_goal problem.clauses) (axioms_over P problem.clauses terms) (where_over P is_open_goal problem.clauses terms),
          both P (equations_where is_ground_goal problem.clauses) (last_goal marks ∷ []) (where_over P is_ground_goal problem.clauses terms) ((yes_over P marks eq yes no eq_arity yes_arity no_arity, no_over P marks eq yes no eq_arity yes_arity no_arity), tt),
        )

    pub encoded_problem_over : (answer : Encoded) → Encodes table problem (Ok answer) → Over answer.fresh answer.axioms × Over answer.fresh answer.goals
    encoded_problem_over answer e =
        let p = encoding_over answer.fresh e.0 in
        (subst (Over answer.fresh) (sym (ap (λ (x : Encoded). x.axioms) e.1)) p.0, subst (Over answer.fresh) (sym (ap (λ (x : Encoded). x.goals) e.1)) p.1)
