use Rattle.std.proofs.Common.{arith}
use Rattle.uc_term.proofs.Grown.{interned_grows}
use Rattle.uc_clause.proofs.Tables.{grows_not}
use Rattle.uc_system.proofs.SymbolLines.{no_line, no_symbol, no_name, near, wrong_is_so, too_many_arguments, symbol_wrong, symbol_right}
use Rattle.uc_system.proofs.Interned.{line_interns}
use Rattle.uc_system.proofs.symbols.symbol_at.Goals as goal

pub returns-in_default-clause-reads : goal.returns-in_default-clause-reads
returns-in_default-clause-reads c = rw c.departs.ensures (no_line c.args.symbols.now c.args.header c.args.earlier.now.keys c.args.bytes.now c.args.at c.in_default.ensures)

pub returns-in_default-written_in-clause-reads : goal.returns-in_default-written_in-clause-reads
returns-in_default-written_in-clause-reads c = rw c.departs-in_default-written_in.ensures (no_symbol c.args.symbols.now c.args.header c.args.earlier.now.keys c.args.bytes.now c.args.at c.in-Some.next c.in-Some.line.now c.in-Some.ensures c.in_default-written_in.ensures)

pub word_of-requires : goal.word_of-requires
word_of-requires c = omega (arith, near c.args.symbols.now c.args.header c.args.earlier.now.keys c.args.bytes.now c.args.at c.in-Some.next c.in-Some.line.now c.in-Some.ensures c.in-Some-written_in.written.spelled.now c.in-Some-written_in.written.arity c.in-Some-written_in.written.weight c.in-Some-written_in.ensures c.requires.small)

pub returns-in_default-2-clause-reads : goal.returns-in_default-2-clause-reads
returns-in_default-2-clause-reads c = rw c.departs-in_default-2.ensures (no_name c.args.symbols.now c.args.header c.args.earlier.now.keys c.args.bytes.now c.args.at c.in-Some.next c.in-Some.line.now c.in-Some.ensures c.in-Some-written_in.written.spelled.now c.in-Some-written_in.written.arity c.in-Some-written_in.written.weight c.in-Some-written_in.ensures (rw c.in_default-2.is at c.in_ok-name.ensures))

pub place_in-requires : goal.place_in-requires
place_in-requires c = near c.args.symbols.now c.args.header c.args.earlier.now.keys c.args.bytes.now c.args.at c.in-Some.next c.in-Some.line.now c.in-Some.ensures c.in-Some-written_in.written.spelled.now c.in-Some-written_in.written.arity c.in-Some-written_in.written.weight c.in-Some-written_in.ensures c.requires.small

pub returns-then-arity-gt-MAX_ARITY-clause-reads : goal.returns-then-arity-gt-MAX_ARITY-clause-reads
returns-then-arity-gt-MAX_ARITY-clause-reads c = rw c.place_in.ensures (too_many_arguments c.args.symbols.now c.args.header c.args.earlier.now.keys c.args.bytes.now c.args.at c.in-Some.next c.in-Some.line.now c.in-Some.ensures c.in-Some-written_in.written.spelled.now c.in-Some-written_in.written.arity c.in-Some-written_in.written.weight c.in-Some-written_in.ensures c.in-Some-2.name (rw c.in-Some-2.is at c.in_ok-name.ensures) c.if-arity-gt-MAX_ARITY.true)

pub returns-in-Some-symbol_fault-clause-reads : goal.returns-in-Some-symbol_fault-clause-reads
returns-in-Some-symbol_fault-clause-reads c =
    let wrong = wrong_is_so c.intern.new.self c.args.header c.args.earlier.now.keys c.args.bytes.now c.args.at c.in-Some.next c.in-Some.line.now c.in-Some.ensures c.in-Some-written_in.written.spelled.now c.in-Some-written_in.written.arity c.in-Some-written_in.written.weight c.in-Some-written_in.ensures c.in_ok-symbol.symbol c.symbol_fault.result c.contains-repeated.result c.in_ok-followed.followed c.symbol_fault.ensures c.contains-repeated.ensures in
    symbol_wrong c.intern.new.self c.args.header c.args.earlier.now.keys c.args.bytes.now c.args.at c.in-Some.next c.in-Some.line.now c.in-Some.ensures c.in-Some-written_in.written.spelled.now c.in-Some-written_in.written.arity c.in-Some-written_in.written.weight c.in-Some-written_in.ensures c.in-Some-2.name (rw c.in-Some-2.is at c.in_ok-name.ensures) c.if-arity-gt-MAX_ARITY.false c.in_ok-symbol.symbol (rw c.as_bytes.ensures at c.in_ok-symbol.ensures.interned.0) c.in_ok-followed.followed c.in_ok-followed.ensures c.symbol_fault.result wrong c.in-Some-symbol_fault.fault c.in-Some-symbol_fault.is

pub returns-in_err-followed-clause-grows : goal.returns-in_err-followed-clause-grows
returns-in_err-followed-clause-grows c = interned_grows c.args.symbols.now c.intern.new.self c.as_bytes.result.now c.in-Some-written_in.written.arity c.in_ok-symbol.symbol c.in_ok-symbol.ensures.interned

pub returns-in-Some-symbol_fault-clause-grows : goal.returns-in-Some-symbol_fault-clause-grows
returns-in-Some-symbol_fault-clause-grows c = interned_grows c.args.symbols.now c.intern.new.self c.as_bytes.result.now c.in-Some-written_in.written.arity c.in_ok-symbol.symbol c.in_ok-symbol.ensures.interned

pub returns-clause-reads : goal.returns-clause-reads
returns-clause-reads c =
    let wrong = wrong_is_so c.intern.new.self c.args.header c.args.earlier.now.keys c.args.bytes.now c.args.at c.in-Some.next c.in-Some.line.now c.in-Some.ensures c.in-Some-written_in.written.spelled.now c.in-Some-written_in.written.arity c.in-Some-written_in.written.weight c.in-Some-written_in.ensures c.in_ok-symbol.symbol c.symbol_fault.result c.contains-repeated.result c.in_ok-followed.followed c.symbol_fault.ensures c.contains-repeated.ensures in
    symbol_right c.intern.new.self c.args.header c.args.earlier.now.keys c.args.bytes.now c.args.at c.in-Some.next c.in-Some.line.now c.in-Some.ensures c.in-Some-written_in.written.spelled.now c.in-Some-written_in.written.arity c.in-Some-written_in.written.weight c.in-Some-written_in.ensures c.in-Some-2.name (rw c.in-Some-2.is at c.in_ok-name.ensures) c.if-arity-gt-MAX_ARITY.false c.in_ok-symbol.symbol (rw c.as_bytes.ensures at c.in_ok-symbol.ensures.interned.0) c.in_ok-followed.followed c.in_ok-followed.ensures c.symbol_fault.result wrong c.in-None.is

pub returns-clause-grows : goal.returns-clause-grows
returns-clause-grows c = interned_grows c.args.symbols.now c.intern.new.self c.as_bytes.result.now c.in-Some-written_in.written.arity c.in_ok-symbol.symbol c.in_ok-symbol.ensures.interned

pub returns-clause-interns : goal.returns-clause-interns
returns-clause-interns c = line_interns c.args.header.kind c.args.symbols.now c.intern.new.self c.args.bytes.now c.args.at c.in-Some.next c.in-Some.line.now c.in-Some.ensures c.in-Some-written_in.written.spelled.now c.in-Some-written_in.written.arity c.in-Some-written_in.written.weight c.in-Some-written_in.ensures c.in-Some-2.name (rw c.in-Some-2.is at c.in_ok-name.ensures) c.if-arity-gt-MAX_ARITY.false c.in_ok-symbol.symbol (rw c.as_bytes.ensures at c.in_ok-symbol.ensures.interned)

pub returns-in_default-clause-grows : goal.returns-in_default-clause-grows
returns-in_default-clause-grows c = grows_not c.args.symbols.now

pub returns-in_default-written_in-clause-grows : goal.returns-in_default-written_in-clause-grows
returns-in_default-written_in-clause-grows c = grows_not c.args.symbols.now

pub returns-in_err-name-clause-grows : goal.returns-in_err-name-clause-grows
returns-in_err-name-clause-grows c = grows_not c.args.symbols.now

pub returns-in_default-2-clause-grows : goal.returns-in_default-2-clause-grows
returns-in_default-2-clause-grows c = grows_not c.args.symbols.now

pub returns-then-arity-gt-MAX_ARITY-clause-grows : goal.returns-then-arity-gt-MAX_ARITY-clause-grows
returns-then-arity-gt-MAX_ARITY-clause-grows c = grows_not c.args.symbols.now
