use Rattle.std.proofs.Common.{ℕ, List, map, sym, subst, Bor}
use Rattle.std.specs.Result.{IfOk}
use Rattle.uc_proof.specs.Extracted.{AreDerivedFacts}
use Rattle.uc_answer.specs.CertificateLines.{live_numbers}
use Rattle.uc_fact.specs.declared.fact.Fact.{Fact}
use Rattle.uc_answer.proofs.SearchEnds.{encoding}
use Rattle.uc_answer.proofs.SaturatedCertificates.{born_and_replayed}
use Rattle.uc_answer.proofs.certificate_lines.derived.Goals as goal

pub extract_facts_from-requires-clause-encoding : goal.extract_facts_from-requires-clause-encoding
extract_facts_from-requires-clause-encoding g c = encoding c.args.closed.now.symbols.now c.args.closed.now.command.now c.args.closed.now.problem.now c.args.closed.now.encoded.now c.args.closed.now.spec.now _ c.args.book.now.state c.requires.ended

pub extract_facts_from-requires-clause-facts : goal.extract_facts_from-requires-clause-facts
extract_facts_from-requires-clause-facts g c = (born_and_replayed c.args.closed.now.symbols.now c.args.closed.now.command.now c.args.closed.now.problem.now c.args.closed.now.encoded.now c.args.closed.now.spec.now c.args.book.now.state c.requires.ended (map (λ (f : Bor Fact). f.now) c.as_slice.result.now) c.as_slice-2.result.now (rw (sym c.as_slice.ensures.value, c.front.ensures.entries) at c.in_ok-facts.ensures) (rw (sym c.as_slice-2.ensures, c.front-2.ensures.entries) at c.in_ok-live.ensures)).0

pub extract_facts_from-requires-clause-live : goal.extract_facts_from-requires-clause-live
extract_facts_from-requires-clause-live g c = (born_and_replayed c.args.closed.now.symbols.now c.args.closed.now.command.now c.args.closed.now.problem.now c.args.closed.now.encoded.now c.args.closed.now.spec.now c.args.book.now.state c.requires.ended (map (λ (f : Bor Fact). f.now) c.as_slice.result.now) c.as_slice-2.result.now (rw (sym c.as_slice.ensures.value, c.front.ensures.entries) at c.in_ok-facts.ensures) (rw (sym c.as_slice-2.ensures, c.front-2.ensures.entries) at c.in_ok-live.ensures)).1

pub returns-clause-derived : goal.returns-clause-derived
returns-clause-derived g c =
    let facts = rw (sym c.as_slice.ensures.value, c.front.ensures.entries) at c.in_ok-facts.ensures in
    let live = rw (sym c.as_slice-2.ensures, c.front-2.ensures.entries) at c.in_ok-live.ensures in
    subst (λ (fs : List Fact). IfOk c.extract_facts_from.result (λ made. AreDerivedFacts c.args.closed.now.problem.now c.args.closed.now.encoded.now fs (live_numbers c.args.book.now.state) made.0.proof.lines made.0.files made.1)) facts
    (subst (λ (ns : List ℕ). IfOk c.extract_facts_from.result (λ made. AreDerivedFacts c.args.closed.now.problem.now c.args.closed.now.encoded.now (map (λ (f : Bor Fact). f.now) c.as_slice.result.now) ns made.0.proof.lines made.0.files made.1)) live c.extract_facts_from.ensures.derived)
