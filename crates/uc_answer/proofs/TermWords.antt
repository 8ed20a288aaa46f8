-- The first symbol of a term that isn't known, and where it stands in the word.
use Rattle.std.proofs.Common.{ℕ, zero, suc, ◌≡◌, ◌<◌, Bool, true, List, [], ◌∷◌, ◌++◌, length, length-append, position, get_or, slice_get, unwrap_or, Option, Some, refl, sym, ap, ◌∙◌, subst, arith}
use Rattle.std.proofs.lemmas.List.Quantifiers.{position-Some}
use Rattle.std.proofs.lemmas.Option.{slice_get-get_or}
use Rattle.uc_term.specs.declared.node.Sym.{Sym}
use Rattle.uc_term.specs.declared.node.Node.{Node}
use Rattle.uc_term.specs.declared.node.Node.TheVariants.{Var, App}
use Rattle.uc_term.specs.Tree.{Tree, var, app, Trees, none, more, count}
use Rattle.uc_term.specs.Flat.{flat, flat_all}
use Rattle.uc_term.specs.Table.{Table, Entry, Has, IsOf, IsSymbol, arity_of, name_of}
use Rattle.uc_term.specs.Over.{AreOver}
use Rattle.uc_clause.specs.declared.token.Token.{Token}
use Rattle.uc_clause.specs.declared.token.Place.{Place}
use Rattle.uc_clause.specs.Terminals.{place_or_end}
use Rattle.uc_clause.specs.Rules.{read, goes_on}
use Rattle.uc_clause.specs.Parse.{Parse, Parses, leaves, leaves_all}
use Rattle.uc_clause.specs.Terms.{Term}
use Rattle.uc_clause.specs.Items.{term_alone}
use Rattle.uc_clause.specs.Meaning.{Variables, Means, variable_means, functor_means, MeanAll, none_mean, more_mean}
use Rattle.uc_clause.specs.Reading.{ReadsTerm}
use Rattle.uc_answer.specs.TermWords.{is_foreign, first_foreign, place_or_first, node_place, HasForeign}
use Rattle.uc_answer.proofs.NodeTokens.{node_at}

pub some_within : {X : Type 0} (xs : List X) (i : ℕ) (x : X) → slice_get xs i ≡ Some x → i < length xs
some_within [] i x e = absurd cc
some_within (y ∷ xs) zero x e = omega arith
some_within (y ∷ xs) (suc i) x e = let h = some_within xs i x e in omega (arith, h)

pub within_some : {X : Type 0} (xs : List X) (i : ℕ) → i < length xs → (x : X) × (slice_get xs i ≡ Some x)
within_some [] i h = absurd (omega arith)
within_some (x ∷ xs) zero h = (x, refl)
within_some (x ∷ xs) (suc i) h = within_some xs i (omega arith)

-- what is read is of the table, and has as many nodes as its parse has leaves
module _ (bytes : List ℕ) (tokens : List Token) (table : Table) where
  arity_is : (f : Sym) (name : List ℕ) (n : ℕ) → IsSymbol table f name n → n ≡ arity_of table f
  arity_is f name n s = sym (ap (λ (o : Option Entry). (unwrap_or o (record { name = []; arity = 0 })).arity) s)

  mutual
    pub means_of : {seen : Variables} {p : Parse} {t : Tree} → Means bytes tokens table seen p t → IsOf table t
    means_of (variable_means e) = tt
    means_of (functor_means {f = f} {ts = ts} s ms) = (some_within table f.0 _ s, arity_is f _ (count ts) s, mean_all_of ms)

    mean_all_of : {seen : Variables} {ps : Parses} {ts : Trees} → MeanAll bytes tokens table seen ps ts → AreOver (Has table) (arity_of table) (λ _. Unit {0}) ts
    mean_all_of none_mean = tt
    mean_all_of (more_mean m ms) = (means_of m, mean_all_of ms)

  mutual
    pub leaves_are : {seen : Variables} {p : Parse} {t : Tree} → Means bytes tokens table seen p t → length (leaves p) ≡ length (flat t)
    leaves_are (variable_means e) = refl
    leaves_are (functor_means s ms) = omega (arith, leaves_all_are ms)

    leaves_all_are : {seen : Variables} {ps : Parses} {ts : Trees} → MeanAll bytes tokens table seen ps ts → length (leaves_all ps) ≡ length (flat_all ts)
    leaves_all_are none_mean = refl
    leaves_all_are (more_mean {p = p} {ps = ps} {t = t} {ts = ts} m ms) = omega (arith, leaves_are m, leaves_all_are ms, length-append (leaves p) (leaves_all ps), length-append (flat t) (flat_all ts))

pub term_of : (word : List ℕ) (table : Table) (t : Tree) → ReadsTerm word table t → IsOf table t
term_of word table t r = means_of word r.tokens table r.means

-- the parse of a term that is a whole text
term_alone_reads : (bytes : List ℕ) (tokens : List Token) (p : Parse) (end : ℕ) → term_alone bytes tokens 0 (read p end) → (middle : ℕ) × Term bytes tokens 0 0 (read p middle)
term_alone_reads bytes tokens p end (goes_on {v = q} {middle = middle} h (goes_on k e)) = let same : q ≡ p = cc in (middle, subst (λ x. Term bytes tokens 0 0 (read x middle)) same h)

-- symbols of a term that is of a table
pub has_both : (table : Table) (xs ys : List Node) (i : ℕ) (f : Sym) (n : ℕ) → ((i : ℕ) → slice_get xs i ≡ Some (App f n) → Has table f) → ((i : ℕ) → slice_get ys i ≡ Some (App f n) → Has table f) → slice_get (xs ++ ys) i ≡ Some (App f n) → Has table f
has_both table [] ys i f n h k e = k i e
has_both table (x ∷ xs) ys zero f n h k e = h zero e
has_both table (x ∷ xs) ys (suc i) f n h k e = has_both table xs ys i f n (λ j q. h (suc j) q) k e

mutual
  pub symbol_of : (table : Table) (t : Tree) (i : ℕ) (f : Sym) (n : ℕ) → IsOf table t → slice_get (flat t) i ≡ Some (App f n) → Has table f
  symbol_of table (var x) zero f n h e = absurd cc
  symbol_of table (var x) (suc i) f n h e = absurd cc
  symbol_of table (app g ts) zero f n h e = let same : g ≡ f = cc in subst (Has table) same h.0
  symbol_of table (app g ts) (suc i) f n h e = symbol_of_all table ts i f n h.2 e

  symbol_of_all : (table : Table) (ts : Trees) (i : ℕ) (f : Sym) (n : ℕ) → AreOver (Has table) (arity_of table) (λ _. Unit {0}) ts → slice_get (flat_all ts) i ≡ Some (App f n) → Has table f
  symbol_of_all table none i f n h e = absurd cc
  symbol_of_all table (more t ts) i f n h e = has_both table (flat t) (flat_all ts) i f n (λ j q. symbol_of table t j f n h.0 q) (λ j q. symbol_of_all table ts j f n h.1 q) e

-- a foreign node is no variable
foreign_symbol : (known : List Sym) (node : Node) → is_foreign known node ≡ true → (f : Sym) × (n : ℕ) × (node ≡ App f n)
foreign_symbol known (Var x) e = absurd cc
foreign_symbol known (App f n) e = (f, n, refl)

module _ (table : Table) (known : List Sym) (word : List ℕ) (t : Tree) (r : ReadsTerm word table t) (number : ℕ) (first : first_foreign known t ≡ Some number) where
  first_within : {X : Type 0} (p : X → Bool) (xs : List X) → position p xs ≡ Some number → number < length xs
  first_within p [] e = absurd (cc e)
  first_within p (x ∷ xs) e = (position-Some p (x ∷ xs) number x e).0

  pub the_node : (f : Sym) × (n : ℕ) × (slice_get (flat t) number ≡ Some (App f n)) × Has table f
  the_node =
      let d : Node = Var 0 in
      let within : number < length (flat t) = first_within (is_foreign known) (flat t) first in
      let node = get_or (flat t) number d in
      let at : slice_get (flat t) number ≡ Some node = slice_get-get_or (flat t) number d within in
      let p = foreign_symbol known node (position-Some (is_foreign known) (flat t) number d first).1 in
      let is : slice_get (flat t) number ≡ Some (App p.0 p.1) = at ∙ ap Some p.2 in
      (p.0, p.1, is, symbol_of table t number p.0 p.1 (term_of word table t r) is)

  pub foreign : (place : Place) (name : List ℕ) → place ≡ node_place r.tokens number → ((f : Sym) (n : ℕ) → slice_get (flat t) number ≡ Some (App f n) → name ≡ name_of table f) → HasForeign table known word place name
  foreign place name p q =
      let node = the_node in
      let whole = term_alone_reads word r.tokens r.parse r.end r.reads in
      let leaf = within_some (leaves r.parse) number (omega (arith, leaves_are word r.tokens table r.means, some_within (flat t) number (App node.0 node.1) node.2)) in
      let token = node_at word r.tokens number leaf.0 whole.1 leaf.1 in
      record {
        term = t;
        reads = r;
        number = number;
        is_first = first;
        symbol = node.0;
        arity = node.1;
        node = node.2;
        name_is = q node.0 node.1 node.2;
        token = leaf.0;
        leaf = leaf.1;
        place_is = p ∙ ap place_or_first token.2 ∙ sym (ap (place_or_end word) token.1);
      }
