-- The ends to which two terms come under an order of variables.
use Rattle.std.specs.Prelude.{◌≡◌, List}
use Rattle.uc_term.specs.Tree.{Tree}
use Rattle.uc_order.specs.VarOrders.{Classes}
use Rattle.uc_order.specs.Laws.{Meaning}
use Rattle.uc_fact.specs.Live.{Live}
use Rattle.uc_ground.specs.Joining.{ComesTo}

module _ (m : Meaning) (live : List Live) (cases : Classes) (s t : Tree) where
  -- both come to one end
  pub record EndsAgree : Type 0 where
    pub end : Tree
    pub left_comes : ComesTo m live cases s end
    pub right_comes : ComesTo m live cases t end

  -- they come to these two, which differ
  pub record EndsDiffer (left right : Tree) : Type 0 where
    pub left_comes : ComesTo m live cases s left
    pub right_comes : ComesTo m live cases t right
    pub differ : left ≡ right → ⊥
