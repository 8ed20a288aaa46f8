-- Facts that are lent.
use Rattle.uc_fact.specs.Live.{Live}
use Rattle.uc_shelf.specs.declared.view.Lent.{Lent}

-- the number and the sides
abbrev pub lent_of : Lent → Live
lent_of f = record { number = f.number; equation = f.equation.now }
