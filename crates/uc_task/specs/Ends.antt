-- The two ends of a pair, with the chain between them.
use Rattle.std.specs.Prelude.{◌≡◌}
use Rattle.uc_fact.specs.declared.chain.Chain.{Chain}
use Rattle.uc_machine.specs.Results.{Trial, way}
use Rattle.uc_task.specs.declared.fact.End.{End}

-- the pair comes to these ends, and the chain leads from the left one to the right one
pub record HasEnds (left right : End) (chain : Chain) (t : Trial) : Type 0 where
  pub left_term : t.left.term ≡ left.term
  pub left_stop : t.left.stop ≡ left.stop
  pub right_term : t.right.term ≡ right.term
  pub right_stop : t.right.stop ≡ right.stop
  pub way_is : way t ≡ chain
