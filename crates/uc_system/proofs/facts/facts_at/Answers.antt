use Rattle.std.proofs.Common.{◌+◌, [], ◌∷◌, length, length-append, refl, sym, ◌∙◌, ap, arith}
use Rattle.uc_clause.proofs.Tables.{grows_not, grows_twice}
use Rattle.uc_system.specs.Facts.{end_line, is_no_whole_line}
use Rattle.uc_system.proofs.Compared.{bytes_same, bytes_differ}
use Rattle.uc_system.proofs.FactsRead.{known_later, short_in_line, last_line, one_more, refused}
use Rattle.uc_system.proofs.facts.facts_at.Goals as goal

pub lines-init : goal.lines-init
lines-init c = record {
  stands = c.requires.at;
  few = omega (arith, ap length c.new-facts.ensures.items);
  grows = grows_not c.args.symbols.now;
  same = refl;
  known_ones = c.requires.known;
  leads = λ later g o h. rw c.new-facts.ensures.items at h;
}

pub returns-in_default-clause-reads : goal.returns-in_default-clause-reads
returns-in_default-clause-reads c = rw c.departs.ensures (c.lines.invariant.leads c.lines.symbols (grows_not c.lines.symbols) _ (is_no_whole_line c.in_default.ensures))

pub returns-then-eq-clause-reads : goal.returns-then-eq-clause-reads
returns-then-eq-clause-reads c =
    let is = c.in-Some.ensures in
    rw c.from_vec.ensures ((λ later g. c.lines.invariant.leads later g _ (last_line c.args.known.now.keys c.args.bytes.now c.lines.facts.items c.lines.here c.in-Some.next c.in-Some.line.now is later (bytes_same c.in-Some.line.now end_line (sym c.if-eq.ensures)))), is.stands)

pub line_fault-requires : goal.line_fault-requires
line_fault-requires c = short_in_line c.fact_in.new.symbols c.args.known.now.keys (c.len.result + 1) c.in-Some.line.now (omega (arith, c.in-Some.ensures.short, c.requires.small)) c.in-Err.unread c.in-Err.ensures.reads

pub returns-in-Err-clause-reads : goal.returns-in-Err-clause-reads
returns-in-Err-clause-reads c =
    rw c.line_fault.ensures (refused c.args.known.now.keys c.args.bytes.now c.lines.facts.items c.lines.here c.in-Some.next c.in-Some.line.now c.in-Some.ensures c.fact_in.new.symbols (c.len.result + 1) (omega (arith, c.len.ensures, c.lines.facts.ok.0)) c.args.at (λ o h. c.lines.invariant.leads c.fact_in.new.symbols c.in-Err.ensures.grows o h) c.in-Err.unread (bytes_differ c.in-Some.line.now end_line (sym c.if-eq.ensures)) c.in-Err.ensures.reads)

pub lines-preserved : goal.lines-preserved
lines-preserved c = record {
  stands = c.in-Some.ensures.stands;
  few = omega (arith, ap length c.in_ok-push-in-Ok.ensures.items, length-append c.lines.facts.items (c.in-Ok.fact ∷ []), c.in-Some.ensures.further, c.lines.invariant.few);
  grows = grows_twice c.args.symbols.now c.lines.symbols c.fact_in.new.symbols c.lines.invariant.grows c.in-Ok.ensures.grows;
  same = c.in-Ok.ensures.keeps ∙ c.lines.invariant.same;
  known_ones = known_later c.lines.symbols c.fact_in.new.symbols c.in-Ok.ensures.grows c.args.known.now.keys c.lines.invariant.known_ones;
  leads = λ later g o h. c.lines.invariant.leads later (grows_twice c.lines.symbols c.fact_in.new.symbols later c.in-Ok.ensures.grows g) o (one_more c.args.known.now.keys c.args.bytes.now c.lines.facts.items c.lines.here c.in-Some.next c.in-Some.line.now c.in-Some.ensures c.fact_in.new.symbols (c.len.result + 1) (omega (arith, c.len.ensures, c.lines.facts.ok.0)) c.in-Ok.fact c.in-Ok.ensures.reads later g o (rw c.in_ok-push-in-Ok.ensures.items at h));
}

pub returns-then-eq-clause-keeps : goal.returns-then-eq-clause-keeps
returns-then-eq-clause-keeps c = c.lines.invariant.same
