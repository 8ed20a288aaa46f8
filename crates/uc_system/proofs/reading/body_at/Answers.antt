use Rattle.std.proofs.Common.{drop, sym, ◌∙◌, subst}
use Rattle.std.proofs.lemmas.Result.{err_from_is_err_and}
use Rattle.uc_clause.proofs.Tables.{grows_twice}
use Rattle.uc_system.specs.Interning.{InternsSymbols}
use Rattle.uc_system.proofs.Readers.{symbols_fail, of_table, known_printable, incomplete, facts_fail, facts_give}
use Rattle.uc_system.proofs.reading.body_at.Goals as goal

pub returns-in_err-ranks-clause-reads : goal.returns-in_err-ranks-clause-reads
returns-in_err-ranks-clause-reads c =
    let p = err_from_is_err_and c.from_residual.result c.from_residual.ensures.1 in
    rw (p.1, p.2) (symbols_fail c.args.header c.symbols_at.new.symbols c.args.bytes.now c.args.at c.in_err-ranks.field-0.0 c.in_err-ranks.ensures.reads)

pub symbols_fault-requires : goal.symbols_fault-requires
symbols_fault-requires c = rw c.as_slice.ensures.value (of_table c.args.header c.symbols_at.new.symbols c.args.bytes.now c.args.at c.in_ok-ranks.at c.in_ok-ranks.ranks c.in_ok-ranks.ensures.known c.in_ok-ranks.ensures.reads)

pub returns-in-Some-clause-reads : goal.returns-in-Some-clause-reads
returns-in-Some-clause-reads c = incomplete c.args.header c.symbols_at.new.symbols c.args.bytes.now c.args.at c.in_ok-ranks.at c.in_ok-ranks.ranks c.in_ok-ranks.ensures.known c.in_ok-ranks.ensures.reads c.in-Some.fault (rw c.as_slice.ensures.value at (sym c.symbols_fault.ensures ∙ c.in-Some.is))

pub facts_at-requires-clause-known : goal.facts_at-requires-clause-known
facts_at-requires-clause-known c = known_printable c.args.header c.symbols_at.new.symbols c.args.bytes.now c.args.at c.in_ok-ranks.at c.in_ok-ranks.ranks c.in_ok-ranks.ensures.known c.in_ok-ranks.ensures.reads

pub returns-in_err-facts-clause-reads : goal.returns-in_err-facts-clause-reads
returns-in_err-facts-clause-reads c =
    let p = err_from_is_err_and c.from_residual-in_err-facts.result c.from_residual-in_err-facts.ensures.1 in
    rw (p.1, p.2) (facts_fail c.args.header c.symbols_at.new.symbols c.args.bytes.now c.args.at c.in_ok-ranks.at c.in_ok-ranks.ranks c.in_ok-ranks.ensures.known c.in_ok-ranks.ensures.reads (rw c.as_slice.ensures.value at (sym c.symbols_fault.ensures ∙ c.in_default.is)) c.facts_at.new.symbols c.in_err-facts.ensures.grows c.in_err-facts.field-0.0 c.in_err-facts.ensures.reads)

pub returns-clause-reads : goal.returns-clause-reads
returns-clause-reads c = facts_give c.args.header c.symbols_at.new.symbols c.args.bytes.now c.args.at c.in_ok-ranks.at c.in_ok-ranks.ranks c.in_ok-ranks.ensures.known c.in_ok-ranks.ensures.reads (rw c.as_slice.ensures.value at (sym c.symbols_fault.ensures ∙ c.in_default.is)) c.facts_at.new.symbols c.in_ok-facts.ensures.grows c.in_ok-facts.facts c.in_ok-facts.at c.in_ok-spec.spec c.in_ok-facts.ensures.reads (rw c.as_slice-2.ensures.value at c.in_ok-spec.ensures)

pub returns-clause-interns : goal.returns-clause-interns
returns-clause-interns c = subst (InternsSymbols c.args.header.kind (drop c.args.at.from c.args.bytes.now) c.args.symbols.now) (sym c.in_ok-facts.ensures.keeps) c.in_ok-ranks.ensures.interns

pub returns-in_err-facts-clause-grows : goal.returns-in_err-facts-clause-grows
returns-in_err-facts-clause-grows c = grows_twice c.args.symbols.now c.symbols_at.new.symbols c.facts_at.new.symbols c.in_ok-ranks.ensures.grows c.in_err-facts.ensures.grows

pub returns-in_err-spec-clause-grows : goal.returns-in_err-spec-clause-grows
returns-in_err-spec-clause-grows c = grows_twice c.args.symbols.now c.symbols_at.new.symbols c.facts_at.new.symbols c.in_ok-ranks.ensures.grows c.in_ok-facts.ensures.grows

pub returns-clause-grows : goal.returns-clause-grows
returns-clause-grows c = grows_twice c.args.symbols.now c.symbols_at.new.symbols c.facts_at.new.symbols c.in_ok-ranks.ensures.grows c.in_ok-facts.ensures.grows
