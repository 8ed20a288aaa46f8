use Rattle.uc_clause.proofs.Seen.{names_insert, name_stored, distinct_insert}
use Rattle.uc_clause.proofs.grammar.variables.Variables.number.Goals as goal

pub returns-clause-seen : goal.returns-clause-seen
returns-clause-seen c =
    rw (← c.self.view_is, ← c.in_ok-name.ensures.items) (names_insert c.self.inside.names.keys c.insert_full.new.self.keys c.in_ok-name.name c.in_ok-index.ensures.keys)

pub returns-clause-number : goal.returns-clause-number
returns-clause-number c =
    let s = c.in_ok-index.ensures.stored in
    rw (← c.in_ok-name.ensures.items) (name_stored c.insert_full.new.self.keys c.in_ok-index.index s.0 c.in_ok-name.name s.1 s.2)

pub invariant_of-self-2 : goal.invariant_of-self-2
invariant_of-self-2 c = distinct_insert c.self.inside.names.keys c.insert_full.new.self.keys c.in_ok-name.name c.in_ok-index.ensures.keys c.self.invariant
