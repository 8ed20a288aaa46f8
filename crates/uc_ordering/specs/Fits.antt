-- When a description of an order is one for a signature.
use Rattle.std.specs.Prelude.{ℕ, ◌≡◌, ◌≤◌, List, length}
use Rattle.uc_term.specs.declared.node.Sym.{Sym}
use Rattle.uc_term.specs.Table.{Table, Has}
use Rattle.uc_order.specs.Members.{Each}
use Rattle.uc_order.specs.Precedence.{IsTotalOn}
use Rattle.uc_order.specs.declared.spec.OrderSpec.{OrderSpec}
use Rattle.uc_order.specs.declared.spec.OrderSpec.TheVariants.{Kbo, Lpo}
use Rattle.uc_kbo.specs.Faults.{weighed, HasConstant, NoneBad}

-- a variable's weight is within its limits, each symbol of the precedence has a weight, and none of them is bad
pub record AreWeights (table : Table) (w0 : ℕ) (weights : List ℕ) (precedence : List Sym) : Type 0 where
  pub w0_some : 1 ≤ w0
  pub w0_most : w0 ≤ 1000000
  pub as_many : length weights ≡ length precedence
  pub none_bad : NoneBad w0 (weighed table precedence weights)

-- the precedence has each symbol of the signature once, and the weights are good
abbrev pub IsTotalSpec : Table → List Sym → OrderSpec → Type 0
IsTotalSpec table signature (Kbo w0 weights precedence) = IsTotalOn signature precedence × AreWeights table w0 weights precedence
IsTotalSpec table signature (Lpo precedence) = IsTotalOn signature precedence

-- it describes an order of this signature, which is the table's and has a constant
pub record Fits (table : Table) (signature : List Sym) (spec : OrderSpec) : Type 0 where
  pub of_table : Each (Has table) signature
  pub constant : HasConstant table signature
  pub total : IsTotalSpec table signature spec
