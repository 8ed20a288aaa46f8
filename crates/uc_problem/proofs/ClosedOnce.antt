-- The constants of a conjecture are one list and make one table, and the clauses with them are one list.
use Rattle.std.proofs.Common.{◌≡◌, ℕ, zero, suc, ◌+◌, ◌<◌, ◌≤◌, ◌||◌, Bool, true, false, List, [], ◌∷◌, length, slice_get, unwrap_or, Option, Some, None, refl, sym, ap, ap₂, ◌∙◌, subst, arith, ◌⊎◌, inl, inr}
use Rattle.std.proofs.lemmas.Option.{slice_get_within}
use Rattle.uc_term.specs.declared.node.Sym.{Sym}
use Rattle.uc_term.specs.Tree.{Tree, var, app, Trees, none, more, apply, apply_all}
use Rattle.uc_term.specs.Over.{AreOver}
use Rattle.uc_term.specs.Table.{Table, Entry, entry_of, arity_of, Has, IsSymbol, IsDistinct, IsOf, Grows}
use Rattle.uc_term.specs.Gathering.{AreOf}
use Rattle.uc_term.specs.Flat.{flat}
use Rattle.uc_term.specs.Signatures.{occurrences_from}
use Rattle.uc_term.proofs.Grown.{entry-grows}
use Rattle.uc_term.proofs.Joins.{count-apply_all}
use Rattle.uc_clause.specs.declared.token.Place.{Place}
use Rattle.uc_clause.specs.declared.clause.Clause.{Clause}
use Rattle.uc_clause.specs.declared.clause.Sourced.{Sourced}
use Rattle.uc_fof.specs.Constants.{constant_or_variable, constant_for}
use Rattle.uc_problem.specs.declared.flat.FlatClause.{FlatClause}
use Rattle.uc_problem.specs.Conjecture.{flat_terms, constant_name, is_taken, AreNamed, no_constant, a_constant, closed_if, closed_all, AreClosed}
use Rattle.uc_problem.specs.Holds.{terms_of}
use Rattle.uc_problem.specs.Filling.{AddsAll, adds_none, adds_first}
use Rattle.uc_problem.proofs.Later.{Grows-refl, Grows-trans}
use Rattle.uc_problem.proofs.Outcomes.{yes_or_no, some_once}
use Rattle.uc_problem.proofs.AddedOnce.{distinct_earlier, adds_grows, one_adds_once}
use Rattle.uc_problem.proofs.AlikeSymbols.{AreAlike, none_alike, one_alike, NodesAlike, OccurAlike, none_occurs, occur_append, nodes_occur, names_alike, alike_once, term_alike, closed_alike}

-- the first number from here on that isn't taken is one
module _ (taken others : ℕ → Bool) (same : (k : ℕ) → taken k ≡ others k) (from m n : ℕ) where
  free_once : from ≤ m → ((k : ℕ) → from ≤ k → k < m → taken k ≡ true) → taken m ≡ false → from ≤ n → ((k : ℕ) → from ≤ k → k < n → others k ≡ true) → others n ≡ false → m ≡ n
  free_once from_m below_m at_m from_n below_n at_n = go order
    where
      order : (m ≡ n) ⊎ ((m < n) ⊎ (n < m))
      order = grind arith

      go : (m ≡ n) ⊎ ((m < n) ⊎ (n < m)) → m ≡ n
      go (inl e) = e
      go (inr (inl l)) = absurd (yes_or_no (same m ∙ below_n m from_m l) at_m)
      go (inr (inr l)) = absurd (yes_or_no (below_m n from_n l) (same n ∙ at_n))

named_entry : (table : Table) (c : Sym) (name : List ℕ) → IsSymbol table c name 0 → entry_of table c ≡ record { name = name; arity = 0 }
named_entry table c name s = ap (λ (o : Option Entry). unwrap_or o (record { name = []; arity = 0 })) s

abbrev constant_entry : ℕ → Entry
constant_entry k = record { name = constant_name k; arity = 0 }

-- constants of the first free names are alike
module _ (N M : Table) (ts : List Tree) (same : (name : List ℕ) → is_taken N ts name ≡ is_taken M ts name) where
  pub named_alike : {from : ℕ} {cs ds : List Sym} → length cs ≡ length ds → AreNamed N ts from cs → AreNamed M ts from ds → AreAlike N M cs ds
  named_alike e no_constant no_constant = none_alike
  named_alike e no_constant (a_constant l t f s rest) = absurd (omega (arith, e))
  named_alike e (a_constant l t f s rest) no_constant = absurd (omega (arith, e))
  named_alike {from} e (a_constant {n = m} {c = c} {cs = cs} l t f s rest) (a_constant {n = n} {c = d} {cs = ds} k u g q others) =
      let numbers : m ≡ n = free_once (λ j. is_taken N ts (constant_name j)) (λ j. is_taken M ts (constant_name j)) (λ j. same (constant_name j)) from m n l t f k u g in
      let entries : entry_of N c ≡ entry_of M d = named_entry N c (constant_name m) s ∙ ap constant_entry numbers ∙ sym (named_entry M d (constant_name n) q) in
      let lengths : length cs ≡ length ds = omega (arith, e) in
      one_alike (record { has = slice_get_within N c.0 (constant_entry m) s; has_other = slice_get_within M d.0 (constant_entry n) q; same = entries }) (named_alike lengths rest (subst (λ j. AreNamed M ts (j + 1) ds) (sym numbers) others))

-- and they are one list in a distinct table
alike_lists_once : (table : Table) → IsDistinct table → {cs ds : List Sym} → AreAlike table table cs ds → cs ≡ ds
alike_lists_once table distinct none_alike = refl
alike_lists_once table distinct (one_alike {f = f} a rest) = ap₂ (λ c cs. c ∷ cs) (alike_once table table distinct (record { has = a.has; has_other = a.has; same = refl }) a) (alike_lists_once table distinct rest)

pub adds_all_grows : {old new : Table} {cs : List Sym} → AddsAll old new cs → Grows old new
adds_all_grows {old} adds_none = Grows-refl old
adds_all_grows {old} {new} (adds_first {middle = middle} {f = f} x xs) = Grows-trans old middle new (adds_grows old middle f x) (adds_all_grows xs)

-- constants that are alike make one table
pub adds_all_once : {N M old : Table} {cs ds : List Sym} → IsDistinct N → IsDistinct M → AreAlike N M cs ds → AddsAll old N cs → AddsAll old M ds → N ≡ M
adds_all_once distinct others none_alike adds_none adds_none = refl
adds_all_once {N} {M} {old} distinct others (one_alike {f = c} {g = d} {gs = ds} a rest) (adds_first {middle = t} x xs) (adds_first {middle = u} y ys) =
    let to_N = adds_all_grows xs in
    let to_M = adds_all_grows ys in
    let entries : entry_of t c ≡ entry_of u d = sym (entry-grows t N to_N c x.has) ∙ a.same ∙ entry-grows u M to_M d y.has in
    let middles : t ≡ u = one_adds_once old t u c d (distinct_earlier t N to_N distinct) (distinct_earlier u M to_M others) x y entries in
    adds_all_once distinct others rest xs (subst (λ v. AddsAll v M ds) (sym middles) ys)

-- of one list of clauses in flat order
module _ (flats : List FlatClause) where
  module _ (N M : Table) (same : (name : List ℕ) → is_taken N (flat_terms flats) name ≡ is_taken M (flat_terms flats) name) where
    pub constants_alike : {a b : List Sourced} {m n : Option ℕ} (x : AreClosed N flats a m) (y : AreClosed M flats b n) → AreAlike N M x.constants y.constants
    constants_alike x y = named_alike N M (flat_terms flats) same (x.are.many ∙ sym y.are.many) x.are.named y.are.named

  module _ (table : Table) (distinct : IsDistinct table) where
    constants_once : {a b : List Sourced} {m n : Option ℕ} (x : AreClosed table flats a m) (y : AreClosed table flats b n) → x.constants ≡ y.constants
    constants_once x y = alike_lists_once table distinct (constants_alike table table (λ name. refl) x y)

    pub closed_once : {a b : List Sourced} {m n : Option ℕ} → AreClosed table flats a m → AreClosed table flats b n → (a ≡ b) × (m ≡ n)
    closed_once x y = (x.clauses_are ∙ ap (λ cs. closed_all cs flats) (constants_once x y) ∙ sym y.clauses_are, x.conjecture_is ∙ sym y.conjecture_is)

-- the clauses with their constants are over the table
module _ (table : Table) where
  constants_of : {ts : List Tree} {from : ℕ} {cs : List Sym} → AreNamed table ts from cs → (x i : ℕ) → IsOf table (constant_or_variable x (slice_get cs i))
  constants_of no_constant x i = tt
  constants_of (a_constant {n = n} {c = c} l t f s rest) x zero = (slice_get_within table c.0 (constant_entry n) s, sym (ap (λ (e : Entry). e.arity) (named_entry table c (constant_name n) s)), tt)
  constants_of (a_constant l t f s rest) x (suc i) = constants_of rest x i

  module _ (σ : ℕ → Tree) (of : (x : ℕ) → IsOf table (σ x)) where
    mutual
      instance_of : (t : Tree) → IsOf table t → IsOf table (apply σ t)
      instance_of (var x) o = of x
      instance_of (app f ts) o = (o.0, count-apply_all σ ts ∙ o.1, instances_of ts o.2)

      instances_of : (ts : Trees) → AreOver (Has table) (arity_of table) (λ _. Unit {0}) ts → AreOver (Has table) (arity_of table) (λ _. Unit {0}) (apply_all σ ts)
      instances_of none o = tt
      instances_of (more t ts) o = (instance_of t o.0, instances_of ts o.1)

  module _ {ts : List Tree} {cs : List Sym} (named : AreNamed table ts 1 cs) where
    side_of : (o : Option Place) (c : Clause) → IsOf table c.left → IsOf table c.right → IsOf table (closed_if cs o c).left × IsOf table (closed_if cs o c).right
    side_of None c l r = (l, r)
    side_of (Some place) c l r = (instance_of (constant_for cs) (λ x. constants_of named x x) c.left l, instance_of (constant_for cs) (λ x. constants_of named x x) c.right r)

    pub closed_of : (flats : List FlatClause) → AreOf table (flat_terms flats) → AreOf table (terms_of (closed_all cs flats))
    closed_of [] of i t e = absurd cc
    closed_of (s ∷ ss) of i t e = go i e (side_of s.conjecture s.clause (of 0 s.clause.left refl) (of 1 s.clause.right refl)) (closed_of ss (λ j u d. of (suc (suc j)) u d))
      where
        go : (i : ℕ) → slice_get (terms_of (closed_all cs (s ∷ ss))) i ≡ Some t → IsOf table (closed_if cs s.conjecture s.clause).left × IsOf table (closed_if cs s.conjecture s.clause).right → AreOf table (terms_of (closed_all cs ss)) → IsOf table t
        go zero e sides later = subst (IsOf table) (some_once refl e) sides.0
        go (suc zero) e sides later = subst (IsOf table) (some_once refl e) sides.1
        go (suc (suc i)) e sides later = later i t e

-- in two tables that grew from one over which the terms are
module _ (old N M : Table) (to_N : Grows old N) (to_M : Grows old M) where
  pub taken_alike : (ts : List Tree) → AreOf old ts → (name : List ℕ) → is_taken N ts name ≡ is_taken M ts name
  taken_alike [] of name = refl
  taken_alike (t ∷ ts) of name = ap₂ (λ a b. a || b) (names_alike N M name (term_alike old N M to_N to_M t (of zero t refl))) (taken_alike ts (λ i u e. of (suc i) u e) name)

  module _ {cs ds : List Sym} (alike : AreAlike N M cs ds) where
    side_alike : (o : Option Place) (c : Clause) → IsOf old c.left → IsOf old c.right → NodesAlike N M (flat (closed_if cs o c).left) (flat (closed_if ds o c).left) × NodesAlike N M (flat (closed_if cs o c).right) (flat (closed_if ds o c).right)
    side_alike None c l r = (term_alike old N M to_N to_M c.left l, term_alike old N M to_N to_M c.right r)
    side_alike (Some place) c l r = (closed_alike old N M to_N to_M alike c.left l, closed_alike old N M to_N to_M alike c.right r)

    pub occurrences_alike : (flats : List FlatClause) (n : ℕ) → AreOf old (flat_terms flats) → OccurAlike N M (occurrences_from n (terms_of (closed_all cs flats))) (occurrences_from n (terms_of (closed_all ds flats)))
    occurrences_alike [] n of = none_occurs
    occurrences_alike (s ∷ ss) n of =
        let sides = side_alike s.conjecture s.clause (of 0 s.clause.left refl) (of 1 s.clause.right refl) in
        let rest = occurrences_alike ss (n + 1 + 1) (λ i t e. of (suc (suc i)) t e) in
        occur_append N M (nodes_occur N M n n 0 0 sides.0) (occur_append N M (nodes_occur N M (n + 1) (n + 1) 0 0 sides.1) rest)
