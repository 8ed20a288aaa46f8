-- What one worker does alone, from turn to turn.
use Rattle.std.proofs.Common.{ℕ}
use Rattle.uc_order.specs.Laws.{Meaning}
use Rattle.uc_machine.specs.State.{Opening, State}
use Rattle.uc_search.specs.declared.working.Turn.TheVariants.{Worked, Ends}
use Rattle.uc_search.specs.declared.working.Ended.{Ended}
use Rattle.uc_search.specs.Working.{Works, one_more_turn, EndsAlone, drains, finds_closed, lacks_memory, puts_back, TurnsTo, takes_turn, is_drained, is_closed, lacks_draw, lacks_result}

module _ (m : Meaning) (o : Opening) (w : ℕ) where
  -- a turn more
  pub works_on : (s u v : State) → Works m o w s u → TurnsTo m o w u Worked v → Works m o w s v
  works_on s u v a (takes_turn t) = one_more_turn a t

  -- the last turn
  pub ends_alone : (s u v : State) (why : Ended) → Works m o w s u → TurnsTo m o w u (Ends why) v → EndsAlone m o w s why v
  ends_alone s u _ _ a (is_drained d) = drains (record { last = u; works = a; draws = d })
  ends_alone s u _ _ a (is_closed {v = v} d) = finds_closed {v = v} (record { last = u; works = a; draws = d })
  ends_alone s u _ _ a lacks_draw = lacks_memory a
  ends_alone s u _ _ a (lacks_result {task = t} {drawn = x} d) = puts_back {task = t} {drawn = x} a d
