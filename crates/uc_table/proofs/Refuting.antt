-- What a table that satisfies equations says of their conversions.
use Rattle.std.proofs.Common.{◌≡◌, ℕ, List, ◌∷◌, refl, sym, ap, ap₂, ◌∙◌, arith}
use Rattle.uc_term.specs.declared.node.Sym.{Sym}
use Rattle.uc_term.specs.declared.equation.Equation.{Equation}
use Rattle.uc_term.specs.declared.equation.Side.{Side}
use Rattle.uc_term.specs.declared.equation.Side.TheVariants.{Left, Right}
use Rattle.uc_term.specs.Equations.{side_of, other_side_of}
use Rattle.uc_term.specs.Table.{Table as SymbolTable}
use Rattle.uc_term.specs.Tree.{Tree, var, app, Trees, none, more, apply, apply_all}
use Rattle.uc_term.specs.Within.{at_root, under, WithinOne, at_first, at_later, stay, go_by}
use Rattle.uc_term.specs.Conversion.{Turn, Step, Conv, Follows}
use Rattle.uc_table.specs.declared.table.Table.{Table}
use Rattle.uc_table.specs.Algebras.{operation, value, value_by, values_by}
use Rattle.uc_table.specs.Tables.{IsTableOf}
use Rattle.uc_table.specs.Models.{Assigns, Agree, SatisfiesAll, KeepsApart}
use Rattle.uc_table.proofs.Cells.{value_below}

-- the value of an instance is that of the term under the values of the variables' terms
module _ (op : Sym → List ℕ → ℕ) (α : ℕ → ℕ) (σ : ℕ → Tree) where
  mutual
    pub value-apply : (t : Tree) → value_by op α (apply σ t) ≡ value_by op (λ x. value_by op α (σ x)) t
    value-apply (var x) = refl
    value-apply (app f ts) = ap (op f) (values-apply ts)

    pub values-apply : (ts : Trees) → values_by op α (apply_all σ ts) ≡ values_by op (λ x. value_by op α (σ x)) ts
    values-apply none = refl
    values-apply (more t ts) = ap₂ (λ v vs. v ∷ vs) (value-apply t) (values-apply ts)

module _ {symbols : SymbolTable} {signature : List Sym} (table : Table) (is : IsTableOf symbols signature table) (axioms : List Equation) (satisfies : SatisfiesAll table axioms) (α : ℕ → ℕ) (below : Assigns table.size α) where
  -- the assignment of the variables' terms
  after : (ℕ → Tree) → ℕ → ℕ
  after σ x = value table α (σ x)

  agrees : (e : Equation) (side : Side) (β : ℕ → ℕ) → Agree table e β → value table β (side_of side e) ≡ value table β (other_side_of side e)
  agrees e Left β h = h
  agrees e Right β h = sym h

  turn_keeps : {u v : Tree} → Turn axioms u v → value table α u ≡ value table α v
  turn_keeps {u} {v} t =
      let e : Equation = t.sides.equation in
      let β : ℕ → ℕ = λ (x : ℕ). value table α (t.σ x) in
      let h : Agree table e β = satisfies t.number e t.sides.equation_is β (λ x. value_below is α below (t.σ x)) in
      let k : value table β t.l ≡ value table β t.r = ap (value table β) t.sides.left_is ∙ agrees e t.side β h ∙ sym (ap (value table β) t.sides.right_is) in
      ap (value table α) t.u_is ∙ value-apply (operation table) α t.σ t.l ∙ k ∙ sym (value-apply (operation table) α t.σ t.r) ∙ sym (ap (value table α) t.v_is)

  mutual
    step_keeps : {u v : Tree} → Step axioms u v → value table α u ≡ value table α v
    step_keeps (at_root t) = turn_keeps t
    step_keeps (under {f} w) = ap (operation table f) (steps_keep w)

    steps_keep : {us vs : Trees} → WithinOne (Turn axioms) us vs → values_by (operation table) α us ≡ values_by (operation table) α vs
    steps_keep (at_first {ts = ts} w) = ap (λ v. v ∷ values_by (operation table) α ts) (step_keeps w)
    steps_keep (at_later {t} w) = ap (λ vs. value table α t ∷ vs) (steps_keep w)

  conv_keeps : {u v : Tree} → Conv axioms u v → value table α u ≡ value table α v
  conv_keeps stay = refl
  conv_keeps (go_by s c) = step_keeps s ∙ conv_keeps c

  pub keeps : {u v : Tree} → Conv axioms u v → value table α u ≡ value table α v
  keeps c = conv_keeps c

pub refutes : (symbols : SymbolTable) (signature : List Sym) (table : Table) (axioms : List Equation) (goal : Equation) → IsTableOf symbols signature table → SatisfiesAll table axioms → KeepsApart table goal → Follows axioms goal → ⊥
refutes symbols signature table axioms goal is satisfies apart f =
    let α : ℕ → ℕ = λ (x : ℕ). 0 in
    let below : Assigns table.size α = λ x. omega (arith, is.some) in
    let β : ℕ → ℕ = λ (x : ℕ). value table α (f.σ x) in
    let e : value table α (apply f.σ goal.left) ≡ value table α (apply f.σ goal.right) = keeps table is axioms satisfies α below f.conversion in
    let k : Agree table goal β = sym (value-apply (operation table) α f.σ goal.left) ∙ e ∙ value-apply (operation table) α f.σ goal.right in
    apart β (λ x. value_below is α below (f.σ x)) k
