-- How two terms compare by an order.
use Rattle.std.specs.Prelude.{◌≡◌, ◌↔◌}
use Rattle.uc_term.specs.Tree.{Tree}
use Rattle.uc_order.specs.Laws.{Meaning}
use Rattle.uc_order.specs.declared.order.Cmp.{Cmp}
use Rattle.uc_order.specs.declared.order.Cmp.TheVariants.{Greater, Less, Equal}

-- the answer says which of the two is greater or that they are equal, exactly where it is so
pub record Compares (m : Meaning) (s t : Tree) (cmp : Cmp) : Type 0 where
  pub greater : (cmp ≡ Greater) ↔ m.greater s t
  pub less : (cmp ≡ Less) ↔ m.greater t s
  pub equal : (cmp ≡ Equal) ↔ (s ≡ t)
