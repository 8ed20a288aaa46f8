use Rattle.std.proofs.Common.{arith, ◌∙◌}
use Rattle.std.proofs.lemmas.Result.{err_from_is_err_and}
use Rattle.uc_term.specs.declared.symbols.Key.{Key}
use Rattle.uc_term.proofs.Tables.{table_kept, named_kept, distinct_insert, named_insert, length_insert, interned}
use Rattle.uc_term.proofs.symbols.Symbols.intern.Goals as goal

pub invariant_of-self-in_err-index : goal.invariant_of-self-in_err-index
invariant_of-self-in_err-index c =
    let adds = c.in_ok-place.ensures.adds in
    let kept = table_kept c.self.inside.names c.args.name.now c.insert.new.self adds c.self.inside.keys.keys c.self.invariant.1 in
    rw (c.in_err-index.ensures.err, kept) (c.self.invariant.0, named_kept c.self.inside.names c.args.name.now c.insert.new.self adds c.self.inside.keys.keys c.self.invariant.1, c.self.invariant.2)

pub returns-in_err-index-clause-err : goal.returns-in_err-index-clause-err
returns-in_err-index-clause-err c =
    let failed = err_from_is_err_and c.from_residual-in_err-index.result c.from_residual-in_err-index.ensures.1 in
    let kept = table_kept c.self.inside.names c.args.name.now c.insert.new.self c.in_ok-place.ensures.adds c.self.inside.keys.keys c.self.invariant.1 in
    rw (failed.1, c.in_err-index.ensures.err) (kept ∙ c.self.view_is)

pub invariant_of-self-2 : goal.invariant_of-self-2
invariant_of-self-2 c =
    let adds = c.in_ok-place.ensures.adds in
    let kept = table_kept c.self.inside.names c.args.name.now c.insert.new.self adds c.self.inside.keys.keys c.self.invariant.1 in
    let named = named_kept c.self.inside.names c.args.name.now c.insert.new.self adds c.self.inside.keys.keys c.self.invariant.1 in
    let k : Key = record { place = c.in_ok-place.place; arity = c.args.arity } in
    let there = c.in_ok-place.ensures.place in
    let different = c.in_ok-place.ensures.different in (
      distinct_insert c.insert.new.self c.self.inside.keys.keys named different k c.args.name.now there c.insert_full.new.self.keys c.in_ok-index.ensures.keys (rw kept c.self.invariant.0),
      named_insert c.insert.new.self c.self.inside.keys.keys named different k c.args.name.now there c.insert_full.new.self.keys c.in_ok-index.ensures.keys,
      omega (arith, length_insert c.insert.new.self c.self.inside.keys.keys named different k c.args.name.now there c.insert_full.new.self.keys c.in_ok-index.ensures.keys, c.len.ensures.len, c.in_ok-check_room.ensures.room),
    )

pub returns-clause-interned : goal.returns-clause-interned
returns-clause-interned c =
    let adds = c.in_ok-place.ensures.adds in
    let kept = table_kept c.self.inside.names c.args.name.now c.insert.new.self adds c.self.inside.keys.keys c.self.invariant.1 in
    let named = named_kept c.self.inside.names c.args.name.now c.insert.new.self adds c.self.inside.keys.keys c.self.invariant.1 in
    let k : Key = record { place = c.in_ok-place.place; arity = c.args.arity } in
    let s = c.in_ok-index.ensures.stored in
    rw (← c.self.view_is, ← kept) (interned c.insert.new.self c.self.inside.keys.keys named c.in_ok-place.ensures.different k c.args.name.now c.in_ok-place.ensures.place c.insert_full.new.self.keys c.in_ok-index.ensures.keys c.in_ok-index.index s.0 s.1 s.2)
