use Rattle.std.proofs.Common.{sym, ◌∙◌}
use Rattle.uc_term.specs.Keys.{names_of}
use Rattle.uc_term.proofs.NameLists.{place_in_names, name_found, different_insert, name_stored}
use Rattle.uc_term.proofs.names.Names.insert.Goals as goal

pub returns-in-Some-clause-place : goal.returns-in-Some-clause-place
returns-in-Some-clause-place c =
    rw (← c.self.view_is) (name_found c.args.name.now (names_of c.self.inside.list.keys) c.in-Some.place (sym (place_in_names c.args.name.now c.self.inside.list.keys) ∙ sym c.in-Some.ensures.index))

pub invariant_of-self-2 : goal.invariant_of-self-2
invariant_of-self-2 c = different_insert c.self.inside.list.keys c.insert_full.new.self.keys c.in_ok-name.name c.in_ok-place.ensures.keys c.self.invariant

pub returns-clause-place : goal.returns-clause-place
returns-clause-place c =
    let s = c.in_ok-place.ensures.stored in
    rw (← c.in_ok-name.ensures.items) (name_stored c.self.inside.list.keys c.insert_full.new.self.keys c.in_ok-name.name c.in_ok-place.place s.0 s.1 s.2)

pub returns-clause-different : goal.returns-clause-different
returns-clause-different c = different_insert c.self.inside.list.keys c.insert_full.new.self.keys c.in_ok-name.name c.in_ok-place.ensures.keys c.self.invariant
