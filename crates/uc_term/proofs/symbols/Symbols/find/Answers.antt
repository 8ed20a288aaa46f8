use Rattle.std.proofs.Common.{sym}
use Rattle.uc_term.proofs.NameLists.{name_found}
use Rattle.uc_term.proofs.Tables.{no_name, no_key, key_found}
use Rattle.uc_term.proofs.symbols.Symbols.find.Goals as goal

pub returns-in_err-place : goal.returns-in_err-place
returns-in_err-place c =
    rw (c.from_residual.ensures, ← c.self.view_is) (no_name c.self.inside.names c.self.inside.keys.keys c.self.invariant.1 c.args.name.now c.args.arity (sym c.in_err-place.ensures.place))

pub returns-in_err-index : goal.returns-in_err-index
returns-in_err-index c =
    let here = name_found c.args.name.now c.self.inside.names c.in_ok-place.place (sym c.in_ok-place.ensures.place) in
    rw (c.from_residual-in_err-index.ensures, ← c.self.view_is) (no_key c.self.inside.names c.self.inside.keys.keys c.self.invariant.1 c.in_ok-place.ensures.different (record { place = c.in_ok-place.place; arity = c.args.arity }) c.args.name.now here (sym c.in_err-index.ensures.index))

pub returns : goal.returns
returns c =
    let here = name_found c.args.name.now c.self.inside.names c.in_ok-place.place (sym c.in_ok-place.ensures.place) in
    rw (← c.self.view_is) (key_found c.self.inside.names c.self.inside.keys.keys c.self.invariant.1 c.in_ok-place.ensures.different (record { place = c.in_ok-place.place; arity = c.args.arity }) c.args.name.now here c.in_ok-index.index (sym c.in_ok-index.ensures.index))
