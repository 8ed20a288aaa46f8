-- How the reader of a fact's equation decides.
use Rattle.std.proofs.Common.{◌≡◌, ℕ, ◌==◌, Bool, true, false, List, [], ◌∷◌, ◌++◌, refl, sym, ap, ap₂, ◌∙◌, subst, arith, inl, inr, Option, unwrap_or}
use Rattle.std.specs.Prelude.{Ok, Err}
use Rattle.std.specs.List.{list_all}
use Rattle.std.proofs.lemmas.Bool.Decides.{nat_tests}
use Rattle.std.proofs.lemmas.Option.{slice_get_within}
use Rattle.std.proofs.lemmas.Bool.{or_right}
use Rattle.uc_term.specs.declared.node.Sym.{Sym}
use Rattle.uc_term.specs.declared.node.Node.{Node}
use Rattle.uc_term.specs.declared.equation.Equation.{Equation}
use Rattle.uc_term.specs.Tree.{Tree, var, app, Trees, none, more, count}
use Rattle.uc_term.specs.Flat.{flat, flat_all}
use Rattle.uc_term.specs.Over.{IsTerm, AreOver}
use Rattle.uc_term.specs.Table.{Table, Entry, Has, IsSymbol, IsOf, IsDistinct, arity_of}
use Rattle.uc_term.specs.Variables.{renumbered_by}
use Rattle.uc_clause.specs.declared.token.Token.{Token}
use Rattle.uc_clause.specs.declared.fault.ClauseFault.{ClauseFault}
use Rattle.uc_clause.specs.Parse.{Parse, Parses}
use Rattle.uc_clause.specs.Meaning.{Variables, Means, variable_means, functor_means, MeanAll, none_mean, more_mean}
use Rattle.uc_clause.specs.Items.{equals_alone}
use Rattle.uc_clause.specs.Printing.{equation_text}
use Rattle.uc_clause.specs.Printable.{IsPrintableSymbol}
use Rattle.uc_clause.specs.Reading.{ReadsEquation, Refuses, SaysSides, IsUnlessMemory}
use Rattle.uc_clause.proofs.Printed.{IsReadable, readable}
use Rattle.uc_clause.proofs.Alone.{equals_alone_once, says_sides_once}
use Rattle.uc_clause.proofs.Whole.{complete, refuses}
use Rattle.uc_order.specs.Members.{In, in_front, in_rest, Each}
use Rattle.uc_system.specs.Symbols.{is_one_of}
use Rattle.uc_system.specs.Facts.{fact_variables}
use Rattle.uc_system.specs.Unread.{IsFactText, is_known, IsBounded}
use Rattle.uc_system.proofs.EquationAgain.{equation_again}
use Rattle.uc_system.proofs.FactTexts.{side_printable, fact_again, fact_is}
use Rattle.uc_system.proofs.Splits.{and_left, and_right, and_both}

-- what is read is of the table
pub arity_is : (table : Table) (f : Sym) (name : List ℕ) (n : ℕ) → IsSymbol table f name n → n ≡ arity_of table f
arity_is table f name n s = sym (ap (λ (o : Option Entry). (unwrap_or o (record { name = []; arity = 0 })).arity) s)

module _ (bytes : List ℕ) (tokens : List Token) (table : Table) where
  mutual
    means_of : {seen : Variables} {p : Parse} {t : Tree} → Means bytes tokens table seen p t → IsOf table t
    means_of (variable_means e) = tt
    means_of (functor_means {f = f} {ts = ts} s ms) = (slice_get_within table f.0 _ s, arity_is table f _ (count ts) s, mean_all_of ms)

    mean_all_of : {seen : Variables} {ps : Parses} {ts : Trees} → MeanAll bytes tokens table seen ps ts → AreOver (Has table) (arity_of table) (λ _. Unit {0}) ts
    mean_all_of none_mean = tt
    mean_all_of (more_mean m ms) = (means_of m, mean_all_of ms)

pub pair_of : (table : Table) (text : List ℕ) (pair : Tree × Tree) → ReadsEquation text table pair → IsOf table pair.0 × IsOf table pair.1
pair_of table text pair r = (means_of text r.tokens table r.means.means_left, means_of text r.tokens table r.means.means_right)

-- symbols that are known
pub one_is_in : (f : Sym) (fs : List Sym) → is_one_of f fs ≡ true → In fs f
one_is_in f [] h = absurd (cc)
one_is_in f (g ∷ gs) h = by_test (f.0 == g.0) refl (one_is_in f gs)
  where
    by_test : (b : Bool) → (f.0 == g.0) ≡ b → (is_one_of f gs ≡ true → In gs f) → In (g ∷ gs) f
    by_test true e later = let numbers : g.0 ≡ f.0 = grind (arith, nat_tests) in subst (λ (x : Sym). In (g ∷ gs) x) (ap (λ k. record { 0 = k }) numbers) in_front
    by_test false e later = in_rest (later (rw e at h))

same_itself : (n : ℕ) → (n == n) ≡ true
same_itself n = grind (arith, nat_tests)

pub in_is_one : (f : Sym) (fs : List Sym) → In fs f → is_one_of f fs ≡ true
in_is_one f [] i = elim i [ ]
in_is_one _ (g ∷ gs) in_front = rw (same_itself g.0) refl
in_is_one f (g ∷ gs) (in_rest i) = or_right (f.0 == g.0) _ (in_is_one f gs i)

all_append : (p : Node → Bool) (xs ys : List Node) → list_all p xs ≡ true → list_all p ys ≡ true → list_all p (xs ++ ys) ≡ true
all_append p [] ys h k = k
all_append p (x ∷ xs) ys h k = and_both (p x) _ (and_left (p x) _ h) (all_append p xs ys (and_right (p x) _ h) k)

all_front : (p : Node → Bool) (xs ys : List Node) → list_all p (xs ++ ys) ≡ true → list_all p xs ≡ true
all_front p [] ys h = refl
all_front p (x ∷ xs) ys h = and_both (p x) _ (and_left (p x) _ h) (all_front p xs ys (and_right (p x) _ h))

all_back : (p : Node → Bool) (xs ys : List Node) → list_all p (xs ++ ys) ≡ true → list_all p ys ≡ true
all_back p [] ys h = h
all_back p (x ∷ xs) ys h = all_back p xs ys (and_right (p x) _ h)

module _ (table : Table) (fs : List Sym) where
  mutual
    pub known_over : (t : Tree) → IsOf table t → list_all (is_known fs) (flat t) ≡ true → IsTerm (In fs) (arity_of table) t
    known_over (var x) h k = tt
    known_over (app f ts) h k = (one_is_in f fs (and_left (is_one_of f fs) _ k), h.1, known_over_all ts h.2 (and_right (is_one_of f fs) _ k))

    known_over_all : (ts : Trees) → AreOver (Has table) (arity_of table) (λ _. Unit {0}) ts → list_all (is_known fs) (flat_all ts) ≡ true → AreOver (In fs) (arity_of table) (λ _. Unit {0}) ts
    known_over_all none h k = tt
    known_over_all (more t ts) h k = (known_over t h.0 (all_front (is_known fs) (flat t) (flat_all ts) k), known_over_all ts h.1 (all_back (is_known fs) (flat t) (flat_all ts) k))

  mutual
    pub over_known : (t : Tree) → IsTerm (In fs) (arity_of table) t → list_all (is_known fs) (flat t) ≡ true
    over_known (var x) h = refl
    over_known (app f ts) h = and_both (is_one_of f fs) _ (in_is_one f fs h.0) (over_known_all ts h.2)

    over_known_all : (ts : Trees) → AreOver (In fs) (arity_of table) (λ _. Unit {0}) ts → list_all (is_known fs) (flat_all ts) ≡ true
    over_known_all none h = refl
    over_known_all (more t ts) h = all_append (is_known fs) (flat t) (flat_all ts) (over_known t h.0) (over_known_all ts h.1)

module _ (table : Table) (fs : List Sym) (printable : Each (IsPrintableSymbol table) fs) (d : IsDistinct table) (text : List ℕ) (left right : Tree) (r : ReadsEquation text table (left, right)) where
  -- it isn't a fact's where a side isn't over the symbols, or it is printed otherwise
  pub no_fact_left : list_all (is_known fs) (flat left) ≡ false → (e : Equation) → IsFactText table fs text e → ⊥
  no_fact_left n e t =
      let pairs = fact_is table fs printable d text e (left, right) t r in
      let lefts : left ≡ e.left = ap (λ (p : Tree × Tree). p.0) pairs in
      let known = over_known table fs e.left t.fact.left.over in
      let both : true ≡ false = sym known ∙ ap (λ x. list_all (is_known fs) (flat x)) (sym lefts) ∙ n in
      cc

  pub no_fact_right : list_all (is_known fs) (flat right) ≡ false → (e : Equation) → IsFactText table fs text e → ⊥
  no_fact_right n e t =
      let pairs = fact_is table fs printable d text e (left, right) t r in
      let rights : right ≡ e.right = ap (λ (p : Tree × Tree). p.1) pairs in
      let known = over_known table fs e.right t.fact.right.over in
      let both : true ≡ false = sym known ∙ ap (λ x. list_all (is_known fs) (flat x)) (sym rights) ∙ n in
      cc

  pub no_fact_text : (equation_text table true left right ≡ text → ⊥) → (e : Equation) → IsFactText table fs text e → ⊥
  no_fact_text n e t =
      let pairs = fact_is table fs printable d text e (left, right) t r in
      let lefts : left ≡ e.left = ap (λ (p : Tree × Tree). p.0) pairs in
      let rights : right ≡ e.right = ap (λ (p : Tree × Tree). p.1) pairs in
      n (ap₂ (λ a b. equation_text table true a b) lefts rights ∙ sym t.is)

  -- and it is one where they are, and it is printed so
  pub fact_here : IsBounded left → IsBounded right → list_all (is_known fs) (flat left) ≡ true → list_all (is_known fs) (flat right) ≡ true → equation_text table true left right ≡ text → IsFactText table fs text (record { left = left; right = right })
  fact_here a b k l e =
      let of = pair_of table text (left, right) r in
      let fact : Equation = record { left = left; right = right } in
      let over_left = known_over table fs left of.0 k in
      let over_right = known_over table fs right of.1 l in
      let readable_left : IsReadable table left = readable table left (side_printable table fs printable left (over_left, tt)) a.1 in
      let readable_right : IsReadable table right = readable table right (side_printable table fs printable right (over_right, tt)) b.1 in
      let again = equation_again table fact readable_left readable_right a.0 b.0 in
      let there : ReadsEquation text table (renumbered_by (fact_variables fact) left, renumbered_by (fact_variables fact) right) = subst (λ x. ReadsEquation x table (renumbered_by (fact_variables fact) left, renumbered_by (fact_variables fact) right)) e again in
      let same = once (complete equals_alone (SaysSides table) text (equals_alone_once text) (λ tokens. says_sides_once text tokens table d) (Ok (left, right)) r (renumbered_by (fact_variables fact) left, renumbered_by (fact_variables fact) right) there) in
      record {
        is = sym e;
        fact = record {
          left = record { over = over_left; small = a.0 };
          right = record { over = over_right; small = b.0 };
          in_order = record { left = ap (λ (p : Tree × Tree). p.0) (sym same); right = ap (λ (p : Tree × Tree). p.1) (sym same) };
        };
      }
    where
      once : {p q : Tree × Tree} → IsUnlessMemory (Ok q) (Ok p) → p ≡ q
      once (inl h) = cc
      once (inr h) = absurd (cc)

-- a text that is refused is no fact's
pub refused_no_fact : (table : Table) (fs : List Sym) → Each (IsPrintableSymbol table) fs → (text : List ℕ) (fault : ClauseFault) → Refuses equals_alone text fault → (e : Equation) → IsFactText table fs text e → ⊥
refused_no_fact table fs printable text fault r e t = go (refuses equals_alone (SaysSides table) text (equals_alone_once text) (Ok (e.left, e.right)) (fact_again table fs printable text e t) fault r)
  where
    go : IsUnlessMemory {V = Tree × Tree} (Err fault) (Ok (e.left, e.right)) → ⊥
    go (inl h) = cc
    go (inr h) = cc
