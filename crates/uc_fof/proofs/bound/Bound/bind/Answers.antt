use Rattle.uc_clause.proofs.Seen.{names_insert}
use Rattle.uc_fof.proofs.bound.Bound.bind.Goals as goal

pub returns-clause-ok : goal.returns-clause-ok
returns-clause-ok c =
    rw (← c.self.view_is, ← c.in_ok-name.ensures.items) (names_insert c.self.inside.names.keys c.insert.new.self.keys c.in_ok-name.name c.in_ok-insert.ensures.keys)
