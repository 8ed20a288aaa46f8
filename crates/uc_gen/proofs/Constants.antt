-- The first constants, one after another.
use Rattle.std.proofs.Common.{◌≡◌, ℕ, suc, ◌+◌, List, [], ◌∷◌, ◌++◌, refl, sym, ap, ◌∙◌, subst, arith, inl, inr}
use Rattle.std.proofs.lemmas.List.{length-append}
use Rattle.uc_term.specs.declared.node.Sym.{Sym}
use Rattle.uc_term.specs.Table.{Table, IsSymbol, Grows}
use Rattle.uc_term.proofs.Gets.{get-append_left, get_pushed}
use Rattle.uc_clause.specs.Interning.{with_symbol}
use Rattle.uc_gen.specs.Generated.{constant_name, AreConstants, with_constants}

-- a table that has grown has the symbols that it had
pub symbol_later : (old new : Table) (f : Sym) (name : List ℕ) (arity : ℕ) → Grows old new → IsSymbol old f name arity → IsSymbol new f name arity
symbol_later old new f name arity grows s = subst (λ (t : Table). IsSymbol t f name arity) (sym grows.1) (get-append_left old grows.0 f.0 (record { name = name; arity = arity }) s)

pub no_constant : (table : Table) → AreConstants table 0 []
no_constant table = record { count = refl; each = λ i c at. absurd cc }

-- with one more behind them
pub more_constants : (old new : Table) (k : ℕ) (constants more : List Sym) (c : Sym) → AreConstants old k constants → Grows old new → IsSymbol new c (constant_name k) 0 → more ≡ constants ++ c ∷ [] → AreConstants new (k + 1) more
more_constants old new k constants more c are grows s is = rw is (record {
  count = omega (arith, are.count, length-append constants (c ∷ []));
  each = λ i d at. elim (get_pushed constants c i d at) [
    | inl h ↦ symbol_later old new d (constant_name i) 0 grows (are.each i d h)
    | inr h ↦ (let here : i ≡ k = h.0 ∙ are.count in rw (h.1, here) s)
  ];
})

-- and the table with it
pub more_interned : (old middle new : Table) (k : ℕ) → middle ≡ with_constants old k → new ≡ with_symbol middle (constant_name k) 0 → new ≡ with_constants old (k + 1)
more_interned old middle new k e f =
    let one : suc k ≡ k + 1 = omega arith in
    f ∙ ap (λ (t : Table). with_symbol t (constant_name k) 0) e ∙ ap (with_constants old) one
