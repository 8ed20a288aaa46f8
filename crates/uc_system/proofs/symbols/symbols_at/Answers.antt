use Rattle.std.proofs.Common.{drop, sym, ap, ◌∙◌}
use Rattle.std.proofs.lemmas.Result.{err_from_is_err_and}
use Rattle.uc_clause.proofs.Tables.{grows_not, grows_twice}
use Rattle.uc_system.specs.Symbols.{symbols_in}
use Rattle.uc_system.specs.Interning.{interns_none}
use Rattle.uc_system.proofs.SymbolsRead.{one_more, refused, none_left}
use Rattle.uc_system.proofs.Interned.{one_interned}
use Rattle.uc_system.proofs.symbols.symbols_at.Goals as goal

pub lines-init : goal.lines-init
lines-init c = record {
  stands = c.requires.at;
  same = c.new-2.ensures.empty ∙ sym (ap symbols_in c.new.ensures.items);
  grows = grows_not c.args.symbols.now;
  interns = λ last i. i;
  leads = λ later g o h. rw c.new.ensures.items at h;
}

pub returns-in_err-symbol-clause-reads : goal.returns-in_err-symbol-clause-reads
returns-in_err-symbol-clause-reads c =
    let p = err_from_is_err_and c.from_residual.result c.from_residual.ensures.1 in
    rw (p.1, p.2) (refused c.args.header c.args.bytes.now c.lines.ranks.ranked.items c.lines.ranks.known.keys c.lines.invariant.same c.lines.here (rw c.split_at.ensures.back at (sym c.begins_symbol.ensures ∙ c.lines-test.true)) c.symbol_at.new.symbols c.args.at (λ o h. c.lines.invariant.leads c.symbol_at.new.symbols c.in_err-symbol.ensures.grows o h) c.in_err-symbol.field-0.0 c.in_err-symbol.ensures.reads)

pub lines-preserved : goal.lines-preserved
lines-preserved c =
    let begins = rw c.split_at.ensures.back at (sym c.begins_symbol.ensures ∙ c.lines-test.true) in
    record {
      stands = c.in_ok-symbol.ensures.reads.1;
      same = c.in_ok-put.ensures.same;
      grows = grows_twice c.args.symbols.now c.lines.symbols c.symbol_at.new.symbols c.lines.invariant.grows c.in_ok-symbol.ensures.grows;
      interns = λ last i. c.lines.invariant.interns last (one_interned c.args.header.kind (drop c.lines.here.from c.args.bytes.now) (drop c.in_ok-symbol.next.from c.args.bytes.now) c.lines.symbols c.symbol_at.new.symbols last begins c.in_ok-symbol.ensures.interns i);
      leads = λ later g o h. c.lines.invariant.leads later (grows_twice c.lines.symbols c.symbol_at.new.symbols later c.in_ok-symbol.ensures.grows g) o (one_more c.args.header c.args.bytes.now c.lines.ranks.ranked.items c.lines.ranks.known.keys c.lines.invariant.same c.lines.here begins c.symbol_at.new.symbols c.in_ok-symbol.symbol c.in_ok-symbol.next c.in_ok-symbol.ensures.reads later g o (rw c.in_ok-put.ensures.ranked at h));
    }

pub returns-clause-reads : goal.returns-clause-reads
returns-clause-reads c = ((λ later g. c.lines.invariant.leads later g _ (none_left later c.args.header c.args.bytes.now c.lines.ranks.ranked.items c.lines.here (rw c.split_at.ensures.back at (sym c.begins_symbol.ensures ∙ c.lines-test.false)))), c.lines.invariant.stands)

pub returns-clause-known : goal.returns-clause-known
returns-clause-known c = c.lines.invariant.same

pub returns-clause-grows : goal.returns-clause-grows
returns-clause-grows c = c.lines.invariant.grows

pub returns-clause-interns : goal.returns-clause-interns
returns-clause-interns c = c.lines.invariant.interns c.lines.symbols (interns_none (rw c.split_at.ensures.back at (sym c.begins_symbol.ensures ∙ c.lines-test.false)))

pub returns-in_err-symbol-clause-grows : goal.returns-in_err-symbol-clause-grows
returns-in_err-symbol-clause-grows c = grows_twice c.args.symbols.now c.lines.symbols c.symbol_at.new.symbols c.lines.invariant.grows c.in_err-symbol.ensures.grows

pub returns-in_err-put-clause-grows : goal.returns-in_err-put-clause-grows
returns-in_err-put-clause-grows c = grows_twice c.args.symbols.now c.lines.symbols c.symbol_at.new.symbols c.lines.invariant.grows c.in_ok-symbol.ensures.grows
