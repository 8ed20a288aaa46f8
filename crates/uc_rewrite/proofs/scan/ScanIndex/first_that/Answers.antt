use Rattle.std.proofs.Common.{◌∷◌, [], Some, None}
use Rattle.uc_term.specs.Flat.{tree_of}
use Rattle.uc_fact.specs.Live.{numbered, rules_of}
use Rattle.uc_fact.specs.Retrieval.{FindsNothing}
use Rattle.uc_rewrite.specs.Scanning.{live_fact}
use Rattle.uc_rewrite.proofs.Scanned.{err_of, nothing_at, drop_there, past_end, found_at, answered, passes_on, passes_here, none_passes}
use Rattle.uc_rewrite.proofs.scan.ScanIndex.first_that.Goals as goal

pub first_of_sides-requires-clause-can : goal.first_of_sides-requires-clause-can
first_of_sides-requires-clause-can g c found from to i = c.requires.can found from to (found_at (tree_of c.args.term.now) c.args.self.now.facts.now c.loop-number.number c.fact-item.result found from to (drop_there c.args.self.now.facts.now c.loop-number.number c.fact-item.result c.loop-number-test.true c.fact-item.is) i)

pub returns-in-Some-clause-value : goal.returns-in-Some-clause-value
returns-in-Some-clause-value g c = passes_here (tree_of c.args.term.now) (g.T.Test.accepts c.args.test.now) c.args.self.now.facts.now c.loop-number.number c.fact-item.result c.in-Some.found (drop_there c.args.self.now.facts.now c.loop-number.number c.fact-item.result c.loop-number-test.true c.fact-item.is) (answered (g.T.Test.accepts c.args.test.now) (tree_of c.args.term.now) (rules_of (live_fact c.loop-number.number c.fact-item.result ∷ [])) c.in_ok-found.field-0 (Some c.in-Some.found) c.in-Some.is c.in_ok-found.ensures.value) c.loop-number.invariant

pub loop-number-preserved : goal.loop-number-preserved
loop-number-preserved g c = passes_on (tree_of c.args.term.now) (g.T.Test.accepts c.args.test.now) c.args.self.now.facts.now c.loop-number.number c.fact-item.result (drop_there c.args.self.now.facts.now c.loop-number.number c.fact-item.result c.loop-number-test.true c.fact-item.is) (answered (g.T.Test.accepts c.args.test.now) (tree_of c.args.term.now) (rules_of (live_fact c.loop-number.number c.fact-item.result ∷ [])) c.in_ok-found.field-0 None c.in_default.is c.in_ok-found.ensures.value) c.loop-number.invariant

pub returns-clause-value : goal.returns-clause-value
returns-clause-value g c = none_passes (tree_of c.args.term.now) (g.T.Test.accepts c.args.test.now) c.args.self.now.facts.now c.loop-number.number (past_end c.args.self.now.facts.now c.loop-number.number c.loop-number-test.false) c.loop-number.invariant

pub returns-in_err-found-clause-memory : goal.returns-in_err-found-clause-memory
returns-in_err-found-clause-memory g c = err_of c.from_residual.result (FindsNothing (tree_of c.args.term.now) (rules_of (numbered c.args.self.now.facts.now)) → ⊥) (λ n. c.in_err-found.ensures.memory (nothing_at (tree_of c.args.term.now) c.args.self.now.facts.now c.loop-number.number c.fact-item.result (drop_there c.args.self.now.facts.now c.loop-number.number c.fact-item.result c.loop-number-test.true c.fact-item.is) n))
