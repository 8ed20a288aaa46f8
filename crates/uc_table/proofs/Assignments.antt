-- Assignments as lists, and all of them.
use Rattle.std.proofs.Common.{◌≡◌, ℕ, zero, suc, ◌+◌, ◌<◌, ◌≤◌, ◌^◌, max, Bool, true, false, List, [], ◌∷◌, ◌++◌, length, refl, sym, ap, ap₂, ◌∙◌, subst, arith, not, IsTrue, ◌↔◌, append_assoc, append-nil, inl, inr}
use mathlib.Core.Bool.{beq}
use Rattle.std.proofs.lemmas.Bool.{cases_eq, cases_lt}
use Rattle.std.proofs.lemmas.List.{length_push, get_or_push, get_or_append_left}
use Rattle.uc_term.specs.declared.node.Sym.{Sym}
use Rattle.uc_term.specs.declared.node.Node.{Node}
use Rattle.uc_term.specs.declared.equation.Equation.{Equation}
use Rattle.uc_term.specs.Tree.{Tree, var, app, Trees, none, more}
use Rattle.uc_term.specs.Flat.{flat, flat_all}
use Rattle.uc_table.specs.declared.table.Table.{Table}
use Rattle.uc_table.specs.Algebras.{place_of, operation, value, value_by, values_by, given}
use Rattle.uc_table.specs.Tables.{AreValues, IsRow}
use Rattle.uc_table.specs.Models.{Assigns, Agree}
use Rattle.uc_table.specs.Checks.{variables_in, variables_in_all, variable_count, assignment_count}
use Rattle.uc_table.specs.Against.{Holds, Keeps, IsAgainst, nodes_variables}
use Rattle.uc_table.proofs.Lists.{place_below, place_once}

-- a term has as many variables as its nodes
max-assoc : (a b c : ℕ) → max (max a b) c ≡ max a (max b c)
max-assoc a b c = omega arith

mutual
  pub flat_variables : (t : Tree) (ns : List Node) → nodes_variables (flat t ++ ns) ≡ max (variables_in t) (nodes_variables ns)
  flat_variables (var x) ns = refl
  flat_variables (app f ts) ns = omega (arith, flat_all_variables ts ns)

  pub flat_all_variables : (ts : Trees) (ns : List Node) → nodes_variables (flat_all ts ++ ns) ≡ max (variables_in_all ts) (nodes_variables ns)
  flat_all_variables none ns = omega arith
  flat_all_variables (more t ts) ns =
      rw (append_assoc (flat t) (flat_all ts) ns) (omega (arith, flat_variables t (flat_all ts ++ ns), flat_all_variables ts ns))

pub whole_variables : (t : Tree) → nodes_variables (flat t) ≡ variables_in t
whole_variables t =
    let e : nodes_variables (flat t ++ []) ≡ max (variables_in t) 0 = flat_variables t [] in
    let k : nodes_variables (flat t) ≡ max (variables_in t) 0 = subst (λ ns. nodes_variables ns ≡ max (variables_in t) 0) (append-nil (flat t)) e in
    omega arith

-- the value of a term rests on its variables' values alone
module _ (op : Sym → List ℕ → ℕ) (α β : ℕ → ℕ) (n : ℕ) (same : (x : ℕ) → x < n → α x ≡ β x) where
  mutual
    pub value_same : (t : Tree) → variables_in t ≤ n → value_by op α t ≡ value_by op β t
    value_same (var x) h = same x (omega arith)
    value_same (app f ts) h = ap (op f) (values_same ts h)

    pub values_same : (ts : Trees) → variables_in_all ts ≤ n → values_by op α ts ≡ values_by op β ts
    values_same none h = refl
    values_same (more t ts) h = ap₂ (λ v vs. v ∷ vs) (value_same t (omega arith)) (values_same ts (omega arith))

-- the values of the first variables
pub listed : (ℕ → ℕ) → ℕ → List ℕ
listed α zero = []
listed α (suc n) = listed α n ++ α n ∷ []

-- what is listed is an assignment's list
module _ (α : ℕ → ℕ) where
  pub length-listed : (n : ℕ) → length (listed α n) ≡ n
  unfolding listed
  length-listed zero = refl
  length-listed (suc n) = length_push (listed α n) (α n) ∙ omega (arith, length-listed n)

  pub get_or-listed : (n x : ℕ) → x < n → given (listed α n) x ≡ α x
  unfolding listed
  get_or-listed zero x h = absurd (omega arith)
  get_or-listed (suc n) x h = elim (cases_eq x n) [ inl e ↦ rw e (get_or_push (listed α n) (α n) 0 n (length-listed n)) | inr d ↦ (let l : x < length (listed α n) = omega (arith, length-listed n) in get_or_append_left (listed α n) (α n ∷ []) 0 x l ∙ get_or-listed n x (omega arith)) ]

  values_push : (size : ℕ) (vs : List ℕ) (v : ℕ) → AreValues size vs → v < size → AreValues size (vs ++ v ∷ [])
  values_push size [] v h k = (k, tt)
  values_push size (w ∷ vs) v h k = (h.0, values_push size vs v h.1 k)

  pub listed_values : (size n : ℕ) → Assigns size α → AreValues size (listed α n)
  unfolding listed
  listed_values size zero h = tt
  listed_values size (suc n) h = values_push size (listed α n) (α n) (listed_values size n h) (h n)

module _ (table : Table) where
  -- an assignment's list does as the assignment
  moved : (positive : Bool) (e : Equation) (α β : ℕ → ℕ) → value table α e.left ≡ value table β e.left → value table α e.right ≡ value table β e.right → Holds table positive e α → Holds table positive e β
  moved true e α β l r h = sym l ∙ h ∙ r
  moved false e α β l r h = λ a. h (l ∙ a ∙ sym r)

  pub keeps_all : (positive : Bool) (e : Equation) → ((us : List ℕ) → IsRow table.size (variable_count e) us → Holds table positive e (given us)) → Keeps table positive e
  keeps_all positive e h α below =
      let n : ℕ = variable_count e in
      let us : List ℕ = listed α n in
      let row : IsRow table.size (variable_count e) (listed α (variable_count e)) = record { as_many = length-listed α (variable_count e); values = listed_values α table.size (variable_count e) below } in
      let same : (x : ℕ) → x < variable_count e → given (listed α (variable_count e)) x ≡ α x = get_or-listed α (variable_count e) in
      moved positive e (given (listed α (variable_count e))) α (value_same (operation table) (given (listed α (variable_count e))) α (variable_count e) same e.left (omega arith)) (value_same (operation table) (given (listed α (variable_count e))) α (variable_count e) same e.right (omega arith)) (h (listed α (variable_count e)) row)

  -- the lists before a place hold
  abbrev pub HoldBefore : Bool → Equation → ℕ → Type 0
  HoldBefore positive e place = (us : List ℕ) → IsRow table.size (variable_count e) us → place_of table.size us < place → Holds table positive e (given us)

  pub hold_more : (positive : Bool) (e : Equation) (place : ℕ) (vs : List ℕ) → IsRow table.size (variable_count e) vs → place_of table.size vs ≡ place → HoldBefore positive e place → Holds table positive e (given vs) → HoldBefore positive e (place + 1)
  hold_more positive e place vs row is before here us r h =
      elim (cases_lt (place_of table.size us) place) [
        | inl l ↦ before us r l
        | inr l ↦
            (let same : us ≡ vs = place_once table.size us vs (r.as_many ∙ sym row.as_many) r.values row.values (omega arith) in
            subst (λ ws. Holds table positive e (given ws)) (sym same) here)
      ]

  pub hold_all : (positive : Bool) (e : Equation) (place : ℕ) → assignment_count table.size e ≤ place → HoldBefore positive e place → Keeps table positive e
  hold_all positive e place h before =
      keeps_all positive e (λ us row. before us row (
      let below : place_of table.size us < table.size ^ length us = place_below table.size us row.values in
      let below' : place_of table.size us < table.size ^ variable_count e = subst (λ n. place_of table.size us < table.size ^ n) row.as_many below in
      omega arith))

  pub against_at : (positive : Bool) (e : Equation) (place : ℕ) (vs : List ℕ) → IsRow table.size (variable_count e) vs → place_of table.size vs ≡ place → HoldBefore positive e place → Holds table (not positive) e (given vs) → IsAgainst table positive vs e
  against_at positive e place vs row is before bad = record { assigns = row; bad = bad; before = λ us r h. before us r (omega arith) }

-- what a test of the two values says of a clause
module _ (table : Table) (e : Equation) (α : ℕ → ℕ) where
  pub holds_from : (positive agree : Bool) → (IsTrue agree ↔ Agree table e α) → not (beq agree positive) ≡ false → Holds table positive e α
  holds_from true true h k = h.0 refl
  holds_from true false h k = absurd cc
  holds_from false true h k = absurd cc
  holds_from false false h k = λ a. (let n : false ≡ true = h.1 a in absurd cc)

  pub fails_from : (positive agree : Bool) → (IsTrue agree ↔ Agree table e α) → not (beq agree positive) ≡ true → Holds table (not positive) e α
  fails_from true true h k = absurd cc
  fails_from true false h k = λ a. (let n : false ≡ true = h.1 a in absurd cc)
  fails_from false true h k = h.0 refl
  fails_from false false h k = absurd cc
