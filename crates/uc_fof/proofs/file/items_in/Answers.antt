use Rattle.std.proofs.Common.{◌<◌, sym, subst, arith}
use Rattle.std.proofs.lemmas.Result.{err_from_is_err_and}
use Rattle.uc_clause.proofs.Ends.{some_token}
use Rattle.uc_clause.proofs.Tables.{grows_not, grows_twice}
use Rattle.uc_fof.specs.Given.{ReadsItems}
use Rattle.uc_fof.proofs.Gathered.{Gathered, gathered_none, gathered_all, gathered_more, item_refused}
use Rattle.uc_fof.proofs.Progress.{item_ahead}
use Rattle.uc_fof.proofs.file.items_in.Goals as goal

pub items-init : goal.items-init
items-init c = record {
  gathered = subst (λ found. Gathered c.args.bytes.now c.args.tokens.now c.args.symbols.now c.args.symbols.now found 0) (sym c.new-found.ensures.items) (gathered_none c.args.bytes.now c.args.tokens.now c.args.symbols.now);
  grows = grows_not c.args.symbols.now;
}

pub item_in-requires-clause-within : goal.item_in-requires-clause-within
item_in-requires-clause-within c = some_token c.args.bytes.now c.args.tokens.now c.items.at c.items-test.ensures

pub returns-in_err-item-clause-refused : goal.returns-in_err-item-clause-refused
returns-in_err-item-clause-refused c =
    let p = err_from_is_err_and c.from_residual.result c.from_residual.ensures.1 in
    rw (p.1, p.2) (item_refused c.args.bytes.now c.args.tokens.now c.args.symbols.now c.items.symbols c.items.found.items c.items.at c.items.invariant.gathered c.items-test.ensures c.in_err-item.field-0.0 c.in_err-item.ensures.refused)

pub items-smaller : goal.items-smaller
items-smaller c = omega (arith, item_ahead c.args.bytes.now c.args.tokens.now c.items.at c.in_ok-item.end c.in_ok-item.ensures.reads.entry c.in_ok-item.ensures.reads.reads, some_token c.args.bytes.now c.args.tokens.now c.items.at c.items-test.ensures)

pub items-preserved : goal.items-preserved
items-preserved c = record {
  gathered = subst (λ found. Gathered c.args.bytes.now c.args.tokens.now c.args.symbols.now c.item_in.new.symbols found c.in_ok-item.end) (sym c.in_ok-push.ensures.items) (gathered_more c.args.bytes.now c.args.tokens.now c.args.symbols.now c.items.symbols c.items.found.items c.items.at c.items.invariant.gathered c.items-test.ensures c.item_in.new.symbols c.in_ok-item.item c.in_ok-item.end c.in_ok-item.ensures.grows c.in_ok-item.ensures.reads);
  grows = grows_twice c.args.symbols.now c.items.symbols c.item_in.new.symbols c.items.invariant.grows c.in_ok-item.ensures.grows;
}

pub returns-clause-reads : goal.returns-clause-reads
returns-clause-reads c = subst (ReadsItems c.args.bytes.now c.args.tokens.now c.args.symbols.now c.items.symbols) (sym c.from_vec.ensures) (gathered_all c.args.bytes.now c.args.tokens.now c.args.symbols.now c.items.symbols c.items.found.items c.items.at c.items.invariant.gathered c.items-test.ensures)
