-- A parse says one thing in a table and a list of names.
use Rattle.std.proofs.Common.{◌≡◌, ℕ, zero, suc, List, [], ◌∷◌, ◌++◌, length, refl, sym, ap, ◌∙◌, arith, Bool, true, false, ◌⊎◌, inl, inr}
use Rattle.std.specs.Prelude.{◌||◌, slice_get, Some, bytes_eq, if◌then◌else◌}
use Rattle.std.specs.List.{list_any}
use Rattle.std.specs.Cmp.Lexicographic.{bytes_decides}
use Rattle.std.proofs.lemmas.Bool.{or_parts}
use Rattle.uc_term.specs.declared.node.Sym.{Sym}
use Rattle.uc_term.specs.Tree.{Tree, var, Trees, count}
use Rattle.uc_term.specs.Table.{Table, IsSymbol, IsDistinct}
use Rattle.uc_clause.specs.declared.token.Token.{Token}
use Rattle.uc_clause.specs.Distinct.{AreDistinct}
use Rattle.uc_clause.specs.Terminals.{bytes_at, word_at}
use Rattle.uc_clause.specs.Parse.{Parse, Parses}
use Rattle.uc_clause.specs.Meaning.{Variables, with_name, with_names, Means, MeanAll, variable_means, functor_means, none_mean, more_mean}

get_snoc : (xs : Variables) (y : List ℕ) (i : ℕ) (x : List ℕ) → slice_get (xs ++ y ∷ []) i ≡ Some x → (slice_get xs i ≡ Some x) ⊎ ((i ≡ length xs) × (x ≡ y))
get_snoc [] y zero x e = inr (refl, cc)
get_snoc [] y (suc i) x e = absurd cc
get_snoc (z ∷ xs) y zero x e = inl e
get_snoc (z ∷ xs) y (suc i) x e = elim (get_snoc xs y i x e) [ inl h ↦ inl h | inr h ↦ inr (let q = h.0 in omega arith, h.1) ]

not_among : (x : List ℕ) (seen : Variables) (i : ℕ) → list_any (bytes_eq x) seen ≡ false → slice_get seen i ≡ Some x → ⊥
not_among x [] i e at = absurd cc
not_among x (y ∷ seen) zero e at =
    let same : x ≡ y = cc in
    let yes : bytes_eq x y ≡ true = (bytes_decides x y).1 same in
    absurd (let both : (true || list_any (bytes_eq x) seen) ≡ false = rw yes at e in cc)
not_among x (y ∷ seen) (suc i) e at = not_among x seen i (or_parts (bytes_eq x y) (list_any (bytes_eq x) seen) e).1 at

pub with_name_distinct : (seen : Variables) (x : List ℕ) → AreDistinct seen → AreDistinct (with_name seen x)
with_name_distinct seen x d = go (list_any (bytes_eq x) seen) refl
  where
    snoc : list_any (bytes_eq x) seen ≡ false → AreDistinct (seen ++ x ∷ [])
    snoc new i j y p q = both (get_snoc seen x i y p) (get_snoc seen x j y q)
      where
        both : (slice_get seen i ≡ Some y) ⊎ ((i ≡ length seen) × (y ≡ x)) → (slice_get seen j ≡ Some y) ⊎ ((j ≡ length seen) × (y ≡ x)) → i ≡ j
        both (inl a) (inl b) = d i j y a b
        both (inl a) (inr b) = absurd (not_among x seen i new (a ∙ ap Some b.1))
        both (inr a) (inl b) = absurd (not_among x seen j new (b ∙ ap Some a.1))
        both (inr a) (inr b) = a.0 ∙ sym b.0

    go : (b : Bool) → list_any (bytes_eq x) seen ≡ b → AreDistinct (if b then seen else seen ++ x ∷ [])
    go true e = d
    go false e = snoc e

pub with_names_distinct : (seen : Variables) (xs : List (List ℕ)) → AreDistinct seen → AreDistinct (with_names seen xs)
with_names_distinct seen [] d = d
with_names_distinct seen (x ∷ xs) d = with_names_distinct (with_name seen x) xs (with_name_distinct seen x d)

pub none_distinct : AreDistinct []
none_distinct i j x p q = absurd cc

module _ (bytes : List ℕ) (tokens : List Token) (table : Table) (seen : Variables) (distinct : IsDistinct table) (names : AreDistinct seen) where
  symbol_once : (f g : Sym) (name : List ℕ) (m n : ℕ) → m ≡ n → IsSymbol table f name m → IsSymbol table g name n → f ≡ g
  symbol_once f g name m n e p q =
      let other : slice_get table g.0 ≡ Some (record { name = name; arity = m }) = rw e q in
      let number : f.0 ≡ g.0 = distinct f.0 g.0 (record { name = name; arity = m }) p other in
      ap (λ (i : ℕ). let s : Sym = record { 0 = i } in s) number

  mutual
    pub means_once : {p : Parse} {t u : Tree} → Means bytes tokens table seen p t → Means bytes tokens table seen p u → t ≡ u
    means_once (variable_means {k = k} {n = n} a) (variable_means {n = m} b) = ap var (names n m (bytes_at bytes tokens k) a b)
    means_once (functor_means {k = k} {f = f} {ts = ts} s all) (functor_means {f = g} {ts = us} r others) =
        let args : ts ≡ us = mean_all_once all others in
        let heads : f ≡ g = symbol_once f g (word_at bytes tokens k) (count ts) (count us) (ap count args) s r in
        rw (args, heads) refl

    pub mean_all_once : {ps : Parses} {ts us : Trees} → MeanAll bytes tokens table seen ps ts → MeanAll bytes tokens table seen ps us → ts ≡ us
    mean_all_once none_mean none_mean = refl
    mean_all_once (more_mean {t = t} {ts = ts} m all) (more_mean {t = u} {ts = us} n others) =
        let first : t ≡ u = means_once m n in
        let rest : ts ≡ us = mean_all_once all others in
        rw (first, rest) refl
