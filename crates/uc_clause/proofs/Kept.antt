-- Where a table has all symbols of what is read, reading leaves it as it is.
use Rattle.std.proofs.Common.{◌≡◌, ℕ, zero, suc, ◌<◌, List, [], ◌∷◌, ◌++◌, length, slice_get, Some, refl, ap, ◌∙◌, arith}
use Rattle.uc_term.specs.declared.node.Sym.{Sym}
use Rattle.uc_term.specs.Tree.{Tree, Trees}
use Rattle.uc_term.specs.Over.{IsOver, AreOver}
use Rattle.uc_term.specs.Table.{Table, Has, Grows, IsSymbol}
use Rattle.uc_clause.specs.declared.token.Token.{Token}
use Rattle.uc_clause.specs.Terminals.{word_at}
use Rattle.uc_clause.specs.Parse.{Parse, Parses, count_all}
use Rattle.uc_clause.specs.Meaning.{Variables, Means, MeanAll, variable_means, functor_means, none_mean, more_mean}
use Rattle.uc_clause.specs.Interning.{with_symbol, with_term, with_terms}
use Rattle.uc_clause.proofs.Means.{count_mean_all}
use Rattle.uc_clause.proofs.Interned.{symbol_kept}

-- what a longer list has at an early place the shorter one has
get_early : {A : Type 0} (xs ys : List A) (i : ℕ) (x : A) → i < length xs → slice_get (xs ++ ys) i ≡ Some x → slice_get xs i ≡ Some x
get_early [] ys i x less at = absurd (omega (arith, less))
get_early (z ∷ xs) ys zero x less at = at
get_early (z ∷ xs) ys (suc i) x less at = get_early xs ys i x (omega (arith, less)) at

symbol_earlier : (old new : Table) (f : Sym) (name : List ℕ) (arity : ℕ) → Grows old new → Has old f → IsSymbol new f name arity → IsSymbol old f name arity
symbol_earlier old new f name arity g has s = get_early old g.0 f.0 (record { name = name; arity = arity }) has (rw g.1 at s)

module _ (old new : Table) (grows : Grows old new) (P : Sym → Type 0) (has : (f : Sym) → P f → Has old f) (arity : Sym → ℕ) (K : ℕ → Type 0) where
  module _ (bytes : List ℕ) (tokens : List Token) (seen : Variables) where
    mutual
      pub term_kept : {p : Parse} {t : Tree} → Means bytes tokens new seen p t → IsOver P arity K t → with_term bytes tokens old p ≡ old
      term_kept (variable_means at) o = refl
      term_kept (functor_means {k = k} {ps = ps} {f = f} s all) o =
          let counted = count_mean_all all in
          let there : IsSymbol new f (word_at bytes tokens k) (count_all ps) = rw (← counted) s in
          ap (λ t. with_symbol t (word_at bytes tokens k) (count_all ps)) (terms_kept all o.2) ∙ symbol_kept old f (word_at bytes tokens k) (count_all ps) (symbol_earlier old new f (word_at bytes tokens k) (count_all ps) grows (has f o.0) there)

      terms_kept : {ps : Parses} {ts : Trees} → MeanAll bytes tokens new seen ps ts → AreOver P arity K ts → with_terms bytes tokens old ps ≡ old
      terms_kept none_mean o = refl
      terms_kept (more_mean {ps = ps} m all) o = ap (λ t. with_terms bytes tokens t ps) (term_kept m o.0) ∙ terms_kept all o.1
