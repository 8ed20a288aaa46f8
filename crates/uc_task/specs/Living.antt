-- The facts of a front, one by one.
use Rattle.uc_fact.specs.Live.{Live}
use Rattle.uc_task.specs.declared.live.LiveFact.{LiveFact}

-- the number and the sides of a fact that lives
abbrev pub live_of : LiveFact → Live
live_of f = record { number = f.number; equation = f.equation }
