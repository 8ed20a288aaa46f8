-- Constants of a signature.
use Rattle.std.specs.Prelude.{ℕ, ◌≡◌, List}
use Rattle.uc_term.specs.declared.node.Sym.{Sym}
use Rattle.uc_order.specs.Members.{In}

-- one of the symbols is a constant
pub record HasConstant (arity : Sym → ℕ) (symbols : List Sym) : Type 0 where
  pub constant : Sym
  pub is_there : In symbols constant
  pub is_bare : arity constant ≡ 0
