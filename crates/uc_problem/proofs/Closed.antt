-- A conjecture's constants stay what they are in every later table of symbols.
use Rattle.std.proofs.Common.{◌≡◌, ℕ, suc, ◌||◌, List, [], ◌∷◌, Option, bytes_eq, refl, sym, ap₂, ◌∙◌}
use Rattle.std.specs.List.{list_any}
use Rattle.std.proofs.lemmas.List.Folds.{list_any-append}
use Rattle.uc_term.specs.declared.node.Sym.{Sym}
use Rattle.uc_term.specs.Tree.{Tree, var, app, Trees, none, more}
use Rattle.uc_term.specs.Flat.{flat, flat_all}
use Rattle.uc_term.specs.Over.{AreOver}
use Rattle.uc_term.specs.Table.{Table, Has, IsOf, Grows, arity_of}
use Rattle.uc_term.specs.Gathering.{AreOf}
use Rattle.uc_term.proofs.Grown.{name-grows}
use Rattle.uc_clause.specs.declared.clause.Sourced.{Sourced}
use Rattle.uc_clause.proofs.Tables.{symbol_grows}
use Rattle.uc_problem.specs.declared.flat.FlatClause.{FlatClause}
use Rattle.uc_problem.specs.Conjecture.{flat_terms, is_named, has_named, is_taken, constant_name, AreNamed, no_constant, a_constant, AreClosed}

module _ (old new : Table) (grows : Grows old new) where
  module _ (name : List ℕ) where
    mutual
      named_later : (t : Tree) → IsOf old t → has_named new name t ≡ has_named old name t
      named_later (var x) h = refl
      named_later (app f ts) h = ap₂ (λ n b. bytes_eq n name || b) (name-grows old new grows f h.0) (all_named_later ts h.2)

      all_named_later : (ts : Trees) → AreOver (Has old) (arity_of old) (λ _. Unit {0}) ts → list_any (is_named new name) (flat_all ts) ≡ list_any (is_named old name) (flat_all ts)
      all_named_later none h = refl
      all_named_later (more t ts) h =
          list_any-append (is_named new name) (flat t) (flat_all ts) ∙ ap₂ (λ a b. a || b) (named_later t h.0) (all_named_later ts h.1) ∙ sym (list_any-append (is_named old name) (flat t) (flat_all ts))

    -- whether a name is taken by terms
    pub taken_later : (ts : List Tree) → AreOf old ts → is_taken new ts name ≡ is_taken old ts name
    taken_later [] h = refl
    taken_later (t ∷ ts) h = ap₂ (λ a b. a || b) (named_later t (h 0 t refl)) (taken_later ts (λ i u e. h (suc i) u e))

  pub constants_later : (ts : List Tree) → AreOf old ts → {from : ℕ} {cs : List Sym} → AreNamed old ts from cs → AreNamed new ts from cs
  constants_later ts h no_constant = no_constant
  constants_later ts h (a_constant {n = n} {c = c} later taken free is rest) =
      a_constant later (λ k l m. taken_later (constant_name k) ts h ∙ taken k l m) (taken_later (constant_name n) ts h ∙ free) (symbol_grows old new c (constant_name n) 0 grows is) (constants_later ts h rest)

  pub closed_later : (flats : List FlatClause) → AreOf old (flat_terms flats) → {clauses : List Sourced} {conjecture : Option ℕ} → AreClosed old flats clauses conjecture → AreClosed new flats clauses conjecture
  closed_later flats h c = record {
    one = c.one;
    constants = c.constants;
    are = record { many = c.are.many; named = constants_later (flat_terms flats) h c.are.named };
    clauses_are = c.clauses_are;
    conjecture_is = c.conjecture_is;
  }
