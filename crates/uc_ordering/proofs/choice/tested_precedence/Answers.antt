use Rattle.std.proofs.Common.{◌∙◌}
use Rattle.std.proofs.lemmas.Result.{err_from_is_err_and}
use Rattle.uc_ordering.proofs.Signatures.{signed_own}
use Rattle.uc_ordering.proofs.Choosing.{made_precedence, none_is_bad, bad_third, looked_has}
use Rattle.uc_ordering.proofs.choice.tested_precedence.Goals as goal

pub precedence_of-requires : goal.precedence_of-requires
precedence_of-requires c = rw c.as_slice-all.ensures (signed_own c.args.symbols.now c.args.signature.now c.requires.signature).has

pub check_weights-requires : goal.check_weights-requires
check_weights-requires c = looked_has c.args.symbols.now c.args.signature.now c.args.words.now c.args.options.now c.requires.options (signed_own c.args.symbols.now c.args.signature.now c.requires.signature)

pub returns-in_err-check_weights-clause-err : goal.returns-in_err-check_weights-clause-err
returns-in_err-check_weights-clause-err c =
    let p = err_from_is_err_and c.from_residual-in_err-check_weights.result c.from_residual-in_err-check_weights.ensures.1 in
    let list = made_precedence c.args.symbols.now c.args.signature.now c.args.words.now c.args.options.now c.requires.options c.in_ok-precedence.precedence.items (rw (c.as_slice-all.ensures, c.as_slice-named.ensures.value) at c.in_ok-precedence.ensures) in
    rw (p.1, p.2) (bad_third c.args.symbols.now c.args.signature.now c.args.words.now c.args.options.now c.requires.options c.as_slice.result.now c.in_err-check_weights.field-0.0 (c.as_slice.ensures.value ∙ list) c.in_err-check_weights.ensures.err)

pub returns-clause-ok : goal.returns-clause-ok
returns-clause-ok c = made_precedence c.args.symbols.now c.args.signature.now c.args.words.now c.args.options.now c.requires.options c.in_ok-precedence.precedence.items (rw (c.as_slice-all.ensures, c.as_slice-named.ensures.value) at c.in_ok-precedence.ensures)

pub returns-clause-fit : goal.returns-clause-fit
returns-clause-fit c =
    let list = made_precedence c.args.symbols.now c.args.signature.now c.args.words.now c.args.options.now c.requires.options c.in_ok-precedence.precedence.items (rw (c.as_slice-all.ensures, c.as_slice-named.ensures.value) at c.in_ok-precedence.ensures) in
    none_is_bad c.args.symbols.now c.args.signature.now c.args.words.now c.args.options.now c.requires.options c.as_slice.result.now (c.as_slice.ensures.value ∙ list) c.in_ok-check_weights.ensures.ok
