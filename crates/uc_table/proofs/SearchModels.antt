-- A whole table that isn't refuted is a model, and no model is refuted.
use Rattle.std.proofs.Common.{◌≡◌, ℕ, zero, suc, ◌+◌, ◌^◌, ◌<◌, ◌==◌, Bool, true, false, List, [], ◌∷◌, ◌++◌, length, get_or, refl, sym, ap, ◌∙◌, subst, arith, inl, inr, if◌then◌else◌, length-append}
use Rattle.std.specs.Prelude.{slice_get, Option, Some, None}
use Rattle.std.specs.List.{concat}
use Rattle.std.proofs.lemmas.Bool.{eqb-true, eq-eqb, false≢true, cases_order}
use Rattle.uc_term.specs.declared.node.Sym.{Sym}
use Rattle.uc_term.specs.declared.equation.Equation.{Equation}
use Rattle.uc_term.specs.Tree.{Tree, var, app, Trees, none, more}
use Rattle.uc_term.specs.Table.{Table as SymbolTable, arity_of}
use Rattle.uc_term.specs.Signatures.{same_symbol}
use Rattle.uc_clause.specs.declared.clause.Sourced.{Sourced}
use Rattle.uc_check.specs.Clauses.{equation_of, axioms_of, goals_of}
use Rattle.uc_table.specs.declared.table.Table.{Table}
use Rattle.uc_table.specs.Algebras.{place_of, cells_among, cells_of, operation, value, values_by}
use Rattle.uc_table.specs.Tables.{AreValues, IsRow, AreRows, IsTableOf, cell_count, cells_for}
use Rattle.uc_table.specs.Models.{Assigns, Agree, IsModel}
use Rattle.uc_table.specs.SearchCells.{behind_some, first_cell, cell_in, fixed_by, all_fixed_by, AreAgainst, IsRefuted}
use Rattle.uc_table.specs.SearchPrefixes.{IsOpen}
use Rattle.uc_table.proofs.Cells.{value_below}
use Rattle.uc_table.proofs.Lists.{place_below}
use Rattle.uc_table.proofs.SearchOrder.{below_append}
use Rattle.uc_table.proofs.Evaluation.{length-values_by}
use Rattle.uc_table.proofs.Readiness.{IsKnown, AreKnown, AreKnownClauses}

-- CELLS IN ONE ROW

front_get : (xs ys : List ℕ) (i : ℕ) → i < length xs → slice_get (xs ++ ys) i ≡ Some (get_or xs i 0)
front_get [] ys i l = absurd (omega arith)
front_get (x ∷ xs) ys zero l = refl
front_get (x ∷ xs) ys (suc i) l = front_get xs ys i (omega arith)

get_behind : (xs ys : List ℕ) (i j : ℕ) → j ≡ length xs + i → slice_get (xs ++ ys) j ≡ slice_get ys i
get_behind [] ys i j e = ap (slice_get ys) (omega arith)
get_behind (x ∷ xs) ys i zero e = absurd (omega arith)
get_behind (x ∷ xs) ys i (suc j) e = get_behind xs ys i j (omega arith)

module _ (symbols : SymbolTable) (size : ℕ) where
  -- behind the cells of one symbol more
  get_later : (n : ℕ) (row cells : List ℕ) (p v : ℕ) (o : Option ℕ) → length row ≡ n → behind_some o (λ k. slice_get cells (k + p)) ≡ Some v → behind_some (behind_some o (λ k. Some (n + k))) (λ k. slice_get (row ++ cells) (k + p)) ≡ Some v
  get_later n row cells p v None l e = cc
  get_later n row cells p v (Some k) l e = get_behind row cells (k + p) (n + k + p) (omega arith) ∙ e

  -- a symbol's cells stand behind its first cell
  cell_at : (fs : List Sym) (rows : List (List ℕ)) (f : Sym) (i p : ℕ) → AreRows symbols size fs rows → slice_get fs i ≡ Some f → p < cell_count symbols size f → behind_some (first_cell symbols size fs f) (λ k. slice_get (concat rows) (k + p)) ≡ Some (get_or (cells_among fs rows f) p 0)
  cell_at [] rows f i p h e l = absurd cc
  cell_at (g ∷ gs) [] f i p h e l = absurd h
  cell_at (g ∷ gs) (row ∷ rows) f i p h e l = go (same_symbol g f) refl i e (λ j d. cell_at gs rows f j p h.1 d l)
    where
      same_sym : g.0 ≡ f.0 → g ≡ f
      same_sym e = ap (λ (n : ℕ). record { 0 = n }) e

      go : (b : Bool) → same_symbol g f ≡ b → (i : ℕ) → slice_get (g ∷ gs) i ≡ Some f → ((j : ℕ) → slice_get gs j ≡ Some f → behind_some (first_cell symbols size gs f) (λ k. slice_get (concat rows) (k + p)) ≡ Some (get_or (cells_among gs rows f) p 0)) → behind_some (if b then Some 0 else behind_some (first_cell symbols size gs f) (λ k. Some (cell_count symbols size g + k))) (λ k. slice_get (row ++ concat rows) (k + p)) ≡ Some (get_or (if b then row else cells_among gs rows f) p 0)
      go true b i e later =
          let r : IsRow size (cell_count symbols size f) row = subst (λ x. IsRow size (cell_count symbols size x) row) (same_sym (eqb-true g.0 f.0 b)) h.0 in
          let n : length row ≡ cell_count symbols size f = r.as_many in
          ap (slice_get (row ++ concat rows)) (omega arith) ∙ front_get row (concat rows) p (omega arith)
      go false b zero e later =
          let same : g ≡ f = cc in
          let yes : same_symbol f f ≡ true = eq-eqb f.0 f.0 refl in
          absurd (false≢true (sym (subst (λ x. same_symbol x f ≡ false) same b) ∙ yes))
      go false b (suc j) e later = get_later (cell_count symbols size g) row (concat rows) p (get_or (cells_among gs rows f) p 0) (first_cell symbols size gs f) h.0.as_many (later j e)

  -- how many cells rows have, and that these are values
  pub rows_long : (fs : List Sym) (rows : List (List ℕ)) → AreRows symbols size fs rows → length (concat rows) ≡ cells_for symbols size fs
  rows_long [] [] h = refl
  rows_long [] (row ∷ rows) h = absurd h
  rows_long (f ∷ fs) [] h = absurd h
  rows_long (f ∷ fs) (row ∷ rows) h =
      let n : length row ≡ cell_count symbols size f = h.0.as_many in
      let m : length (concat rows) ≡ cells_for symbols size fs = rows_long fs rows h.1 in
      let s : length (row ++ concat rows) ≡ length row + length (concat rows) = grind (arith, length-append) in
      omega arith

  pub rows_values : (fs : List Sym) (rows : List (List ℕ)) → AreRows symbols size fs rows → AreValues size (concat rows)
  rows_values [] [] h = tt
  rows_values [] (row ∷ rows) h = absurd h
  rows_values (f ∷ fs) [] h = absurd h
  rows_values (f ∷ fs) (row ∷ rows) h = below_append size row (concat rows) h.0.values (rows_values fs rows h.1)

-- VALUES

module _ {symbols : SymbolTable} {signature : List Sym} {table : Table} (is : IsTableOf symbols signature table) where
  abbrev cell : Sym → List ℕ → Option ℕ
  cell f args = cell_in symbols table.size signature (concat table.cells) f args

  cell_is : (f : Sym) (i : ℕ) (args : List ℕ) → slice_get signature i ≡ Some f → length args ≡ arity_of symbols f → AreValues table.size args → cell f args ≡ Some (operation table f args)
  cell_is f i args e l v =
      let b : (length args == arity_of symbols f) ≡ true = eq-eqb (length args) (arity_of symbols f) l in
      let p : place_of table.size args < table.size ^ length args = place_below table.size args v in
      let q : place_of table.size args < cell_count symbols table.size f = subst (λ n. place_of table.size args < table.size ^ n) l p in
      let c : behind_some (first_cell symbols table.size signature f) (λ k. slice_get (concat table.cells) (k + place_of table.size args)) ≡ Some (get_or (cells_among signature table.cells f) (place_of table.size args) 0) = cell_at symbols table.size signature table.cells f i (place_of table.size args) is.rows e q in
      let own : cells_among signature table.cells f ≡ cells_of table f = ap (λ fs. cells_among fs table.cells f) (sym is.symbols_are) in
      ap (λ (x : Bool). if x then behind_some (first_cell symbols table.size signature f) (λ k. slice_get (concat table.cells) (k + place_of table.size args)) else None) b ∙ c ∙ ap (λ cells. Some (get_or cells (place_of table.size args) 0)) own

  module _ (α : ℕ → ℕ) (below : Assigns table.size α) where
    values_below : (ts : Trees) → AreValues table.size (values_by (operation table) α ts)
    values_below none = tt
    values_below (more t ts) = (value_below is α below t, values_below ts)

    -- a whole table fixes the value of each term
    mutual
      fixed_whole : (t : Tree) → IsKnown symbols signature t → fixed_by cell α t ≡ Some (value table α t)
      fixed_whole (var x) k = refl
      fixed_whole (app f ts) k =
          ap (λ o. behind_some o (cell f)) (all_fixed_whole ts k.1) ∙ cell_is f k.0.place.0 (values_by (operation table) α ts) k.0.place.1 (length-values_by (operation table) α ts ∙ k.0.arity) (values_below ts)

      all_fixed_whole : (ts : Trees) → AreKnown symbols signature ts → all_fixed_by cell α ts ≡ Some (values_by (operation table) α ts)
      all_fixed_whole none k = refl
      all_fixed_whole (more t ts) k =
          ap (λ o. behind_some o (λ v. behind_some (all_fixed_by cell α ts) (λ vs. Some (v ∷ vs)))) (fixed_whole t k.0) ∙ ap (λ o. behind_some o (λ vs. Some (value table α t ∷ vs))) (all_fixed_whole ts k.1)

-- CLAUSES

-- an axiom, or a goal, is the equation of a clause
record IsClause (clauses : List Sourced) (positive : Bool) (e : Equation) : Type 0 where
  number : ℕ
  clause : Sourced
  clause_is : slice_get clauses number ≡ Some clause
  positive_is : clause.clause.positive ≡ positive
  equation_is : equation_of clause.clause ≡ e

later_clause : (s : Sourced) (ss : List Sourced) (positive : Bool) (e : Equation) → IsClause ss positive e → IsClause (s ∷ ss) positive e
later_clause s ss positive e c = record { number = suc c.number; clause = c.clause; clause_is = c.clause_is; positive_is = c.positive_is; equation_is = c.equation_is }

axiom_clause : (ss : List Sourced) (k : ℕ) (e : Equation) → slice_get (axioms_of ss) k ≡ Some e → IsClause ss true e
axiom_clause [] k e is = absurd cc
axiom_clause (s ∷ ss) k e is = go s.clause.positive refl k is (axiom_clause ss)
  where
    go : (b : Bool) → s.clause.positive ≡ b → (k : ℕ) → slice_get (if b then equation_of s.clause ∷ axioms_of ss else axioms_of ss) k ≡ Some e → ((k : ℕ) (e : Equation) → slice_get (axioms_of ss) k ≡ Some e → IsClause ss true e) → IsClause (s ∷ ss) true e
    go true p zero is later = record { number = 0; clause = s; clause_is = refl; positive_is = p; equation_is = cc }
    go true p (suc k) is later = later_clause s ss true e (later k e is)
    go false p k is later = later_clause s ss true e (later k e is)

goal_clause : (ss : List Sourced) (k : ℕ) (e : Equation) → slice_get (goals_of ss) k ≡ Some e → IsClause ss false e
goal_clause [] k e is = absurd cc
goal_clause (s ∷ ss) k e is = go s.clause.positive refl k is (goal_clause ss)
  where
    go : (b : Bool) → s.clause.positive ≡ b → (k : ℕ) → slice_get (if b then goals_of ss else equation_of s.clause ∷ goals_of ss) k ≡ Some e → ((k : ℕ) (e : Equation) → slice_get (goals_of ss) k ≡ Some e → IsClause ss false e) → IsClause (s ∷ ss) false e
    go false p zero is later = record { number = 0; clause = s; clause_is = refl; positive_is = p; equation_is = cc }
    go false p (suc k) is later = later_clause s ss false e (later k e is)
    go true p k is later = later_clause s ss false e (later k e is)

axiom_of_clause : (ss : List Sourced) (j : ℕ) (s : Sourced) → slice_get ss j ≡ Some s → s.clause.positive ≡ true → (k : ℕ) × (slice_get (axioms_of ss) k ≡ Some (equation_of s.clause))
axiom_of_clause [] j s is p = absurd cc
axiom_of_clause (x ∷ xs) j s is p = go x.clause.positive refl j is (axiom_of_clause xs)
  where
    go : (b : Bool) → x.clause.positive ≡ b → (j : ℕ) → slice_get (x ∷ xs) j ≡ Some s → ((j : ℕ) (s : Sourced) → slice_get xs j ≡ Some s → s.clause.positive ≡ true → (k : ℕ) × (slice_get (axioms_of xs) k ≡ Some (equation_of s.clause))) → (k : ℕ) × (slice_get (if b then equation_of x.clause ∷ axioms_of xs else axioms_of xs) k ≡ Some (equation_of s.clause))
    go true q zero is later = let same : x ≡ s = cc in (0, ap (λ (y : Sourced). Some (equation_of y.clause)) same)
    go false q zero is later = let same : x ≡ s = cc in absurd (false≢true (sym q ∙ ap (λ (y : Sourced). y.clause.positive) same ∙ p))
    go true q (suc j) is later = let r = later j s is p in (suc r.0, r.1)
    go false q (suc j) is later = later j s is p

goal_of_clause : (ss : List Sourced) (j : ℕ) (s : Sourced) → slice_get ss j ≡ Some s → s.clause.positive ≡ false → (k : ℕ) × (slice_get (goals_of ss) k ≡ Some (equation_of s.clause))
goal_of_clause [] j s is p = absurd cc
goal_of_clause (x ∷ xs) j s is p = go x.clause.positive refl j is (goal_of_clause xs)
  where
    go : (b : Bool) → x.clause.positive ≡ b → (j : ℕ) → slice_get (x ∷ xs) j ≡ Some s → ((j : ℕ) (s : Sourced) → slice_get xs j ≡ Some s → s.clause.positive ≡ false → (k : ℕ) × (slice_get (goals_of xs) k ≡ Some (equation_of s.clause))) → (k : ℕ) × (slice_get (if b then goals_of xs else equation_of x.clause ∷ goals_of xs) k ≡ Some (equation_of s.clause))
    go false q zero is later = let same : x ≡ s = cc in (0, ap (λ (y : Sourced). Some (equation_of y.clause)) same)
    go true q zero is later = let same : x ≡ s = cc in absurd (false≢true (sym p ∙ sym (ap (λ (y : Sourced). y.clause.positive) same) ∙ q))
    go false q (suc j) is later = let r = later j s is p in (suc r.0, r.1)
    go true q (suc j) is later = later j s is p

-- MODELS

module _ (symbols : SymbolTable) (signature : List Sym) (clauses : List Sourced) (table : Table) (is : IsTableOf symbols signature table) (known : AreKnownClauses symbols signature clauses) where
  abbrev Refuted : Type 0
  Refuted = IsRefuted symbols signature clauses table.size (concat table.cells)

  refuted_by : (number : ℕ) (s : Sourced) → slice_get clauses number ≡ Some s → (α : ℕ → ℕ) → Assigns table.size α → AreAgainst s.clause.positive (value table α s.clause.left) (value table α s.clause.right) → Refuted
  refuted_by number s e α below against =
      let k = known number s e in
      record {
        number = number;
        clause = s;
        clause_is = e;
        α = α;
        assigns = below;
        left = value table α s.clause.left;
        right = value table α s.clause.right;
        left_is = fixed_whole is α below s.clause.left k.0;
        right_is = fixed_whole is α below s.clause.right k.1;
        against = against;
      }

  agree_or_refuted : (s : Sourced) (number : ℕ) → slice_get clauses number ≡ Some s → s.clause.positive ≡ true → (Refuted → ⊥) → (α : ℕ → ℕ) → Assigns table.size α → value table α s.clause.left ≡ value table α s.clause.right
  agree_or_refuted s number e p free α below = elim (cases_order (value table α s.clause.left) (value table α s.clause.right)) [
    | inl same ↦ same
    | inr other ↦ absurd (free (refuted_by number s e α below (subst (λ b. AreAgainst b (value table α s.clause.left) (value table α s.clause.right)) (sym p) (λ q. (elim other [ inl l ↦ absurd (omega arith) | inr l ↦ absurd (omega arith) ])))))
  ]

  pub model_of_open : (Refuted → ⊥) → IsModel table clauses
  model_of_open free = record {
    axioms = λ k e at α below. (let c = axiom_clause clauses k e at in subst (λ (d : Equation). Agree table d α) c.equation_is (agree_or_refuted c.clause c.number c.clause_is c.positive_is free α below));
    goals = λ k e at α below same. (let c = goal_clause clauses k e at in free (refuted_by c.number c.clause c.clause_is α below (subst (λ b. AreAgainst b (value table α c.clause.clause.left) (value table α c.clause.clause.right)) (sym c.positive_is) (subst (λ (d : Equation). Agree table d α) (sym c.equation_is) same))));
  }

  pub open_of_model : IsModel table clauses → Refuted → ⊥
  open_of_model m r = go r.clause.clause.positive refl (subst (AreAgainst r.clause.clause.positive (value table r.α r.clause.clause.left)) right_is (subst (λ l. AreAgainst r.clause.clause.positive l r.right) left_is r.against))
    where
      some_once : {v w : ℕ} → Some v ≡ Some w → v ≡ w
      some_once e = cc

      left_is : r.left ≡ value table r.α r.clause.clause.left
      left_is = some_once (sym r.left_is ∙ fixed_whole is r.α r.assigns r.clause.clause.left (known r.number r.clause r.clause_is).0)

      right_is : r.right ≡ value table r.α r.clause.clause.right
      right_is = some_once (sym r.right_is ∙ fixed_whole is r.α r.assigns r.clause.clause.right (known r.number r.clause r.clause_is).1)

      go : (b : Bool) → r.clause.clause.positive ≡ b → AreAgainst r.clause.clause.positive (value table r.α r.clause.clause.left) (value table r.α r.clause.clause.right) → ⊥
      go true p a =
          let c = axiom_of_clause clauses r.number r.clause r.clause_is p in
          (subst (λ b. AreAgainst b (value table r.α r.clause.clause.left) (value table r.α r.clause.clause.right)) p a) (m.axioms c.0 (equation_of r.clause.clause) c.1 r.α r.assigns)
      go false p a =
          let c = goal_of_clause clauses r.number r.clause r.clause_is p in
          m.goals c.0 (equation_of r.clause.clause) c.1 r.α r.assigns (subst (λ b. AreAgainst b (value table r.α r.clause.clause.left) (value table r.α r.clause.clause.right)) p a)

  pub model_open : IsModel table clauses → IsOpen table.size (cells_for symbols table.size signature) (IsRefuted symbols signature clauses table.size) (concat table.cells)
  model_open m = record {
    whole = rows_long symbols table.size signature table.cells is.rows;
    below = rows_values symbols table.size signature table.cells is.rows;
    open_is = open_of_model m;
  }
