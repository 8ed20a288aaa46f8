use Rattle.std.proofs.lemmas.Result.{err_from_is_err_and}
use Rattle.uc_ordering.proofs.Signatures.{signed_own}
use Rattle.uc_ordering.proofs.Choosing.{own_has, all_known, one_unknown, one_twice, made_named}
use Rattle.uc_ordering.proofs.options.read_options.Goals as goal

pub symbols_by_name-requires : goal.symbols_by_name-requires
symbols_by_name-requires c = rw c.own_symbols.ensures (own_has c.args.symbols.now c.args.signature.now (signed_own c.args.symbols.now c.args.signature.now c.requires))

pub returns-in_err-named-clause-err : goal.returns-in_err-named-clause-err
returns-in_err-named-clause-err c =
    let p = err_from_is_err_and c.from_residual-in_err-named.result c.from_residual-in_err-named.ensures.1 in
    rw (p.1, p.2) (one_unknown c.args.symbols.now c.args.signature.now c.args.words.now c.in_ok-by_name.by_name.map.entries (rw c.own_symbols.ensures at c.in_ok-by_name.ensures) c.in_err-named.field-0.0 c.in_err-named.ensures.err)

pub returns-in_err-names-clause-err : goal.returns-in_err-names-clause-err
returns-in_err-names-clause-err c =
    let p = err_from_is_err_and c.from_residual-in_err-names.result c.from_residual-in_err-names.ensures.1 in
    let known = all_known c.args.symbols.now c.args.signature.now c.args.words.now c.in_ok-by_name.by_name.map.entries (rw c.own_symbols.ensures at c.in_ok-by_name.ensures) c.in_ok-named.ensures.known in
    rw (p.1, p.2) (one_twice c.args.symbols.now c.args.signature.now c.args.words.now c.in_err-names.field-0.0 known c.in_err-names.ensures.err)

pub returns-clause-ok : goal.returns-clause-ok
returns-clause-ok c =
    let looked = rw c.own_symbols.ensures at c.in_ok-by_name.ensures in
    record {
      known = all_known c.args.symbols.now c.args.signature.now c.args.words.now c.in_ok-by_name.by_name.map.entries looked c.in_ok-named.ensures.known;
      once = c.in_ok-names.ensures.once;
      by_name = looked;
      named = made_named c.args.symbols.now c.args.signature.now c.args.words.now c.in_ok-by_name.by_name.map.entries looked c.in_ok-named.named.items c.in_ok-named.ensures.ok;
      names = c.in_ok-names.ensures.names;
      given = c.in_ok-names.ensures.given;
    }
