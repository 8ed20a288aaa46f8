use Rattle.std.proofs.Common.{subst, sym}
use Rattle.std.proofs.lemmas.Result.{err_from_is_err_and}
use Rattle.std.specs.Prelude.{IfOk, IfErr}
use Rattle.uc_fof.proofs.Whole.{refused_tokens, items_read, items_interned, items_refused}
use Rattle.uc_fof.proofs.file.items_of.Goals as goal

pub returns-in_err-list-clause-refused : goal.returns-in_err-list-clause-refused
returns-in_err-list-clause-refused c =
    let p = err_from_is_err_and c.from_residual.result c.from_residual.ensures.1 in
    rw (p.1, p.2) (refused_tokens c.args.bytes.now c.in_err-list.field-0.0 c.in_err-list.ensures.refused)

pub returns-clause-reads : goal.returns-clause-reads
returns-clause-reads c = items_read c.args.bytes.now c.as_slice.result.now (rw c.as_slice.ensures c.in_ok-list.ensures.tokens) c.args.symbols.now c.items_in.new.symbols c.items_in.result c.items_in.ensures.reads

pub returns-clause-interns : goal.returns-clause-interns
returns-clause-interns c = items_interned c.args.bytes.now c.as_slice.result.now (rw c.as_slice.ensures c.in_ok-list.ensures.tokens) c.args.symbols.now c.items_in.new.symbols c.items_in.result c.items_in.ensures.reads

pub returns-clause-refused : goal.returns-clause-refused
returns-clause-refused c = items_refused c.args.bytes.now c.as_slice.result.now (rw c.as_slice.ensures c.in_ok-list.ensures.tokens) c.items_in.result c.items_in.ensures.refused
