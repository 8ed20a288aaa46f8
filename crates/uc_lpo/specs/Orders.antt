-- What an order is made of.
use Rattle.std.specs.Prelude.{◌≡◌, List, map}
use Rattle.uc_term.specs.declared.node.Sym.{Sym}
use Rattle.uc_term.specs.Table.{Table, arity_of}
use Rattle.uc_order.specs.Members.{IsFirst}
use Rattle.uc_lpo.specs.declared.path_order.Lpo.{Lpo}

-- the order of this precedence, with the table's arities, whose least symbol is the first constant of the precedence
pub record IsOrderOf (table : Table) (precedence : List Sym) (o : Lpo) : Type 0 where
  pub precedence_is : o.precedence.items ≡ precedence
  pub arities_are : o.arities.items ≡ map (arity_of table) precedence
  pub least_is : IsFirst (λ f. arity_of table f ≡ 0) precedence o.least
