use Rattle.std.proofs.Common.{[], ◌∷◌, sym, subst}
use Rattle.uc_term.specs.declared.equation.Side.TheVariants.{Left, Right}
use Rattle.uc_term.specs.Flat.{tree_of}
use Rattle.uc_fact.specs.Live.{numbered, rule_of, rules_of}
use Rattle.uc_fact.specs.Retrieval.{Generalises, FindsNothing}
use Rattle.uc_rewrite.specs.Scanning.{live_fact}
use Rattle.uc_rewrite.proofs.Scanned.{err_of, nothing_left, nothing_right, nothing_at, drop_there, past_end, scans_on, scanned}
use Rattle.uc_rewrite.proofs.scan.ScanIndex.generalisations.Goals as goal

pub loop-number-preserved : goal.loop-number-preserved
loop-number-preserved c = scans_on (tree_of c.args.term.now) c.args.self.now.facts.now c.loop-number.number c.fact-item.result c.loop-number.list.items c.add_match.new.list.items c.add_match-in-loop-number.new.list.items (drop_there c.args.self.now.facts.now c.loop-number.number c.fact-item.result c.loop-number-test.true c.fact-item.is) c.in_ok-add_match.ensures.value c.in_ok-add_match-2.ensures.value c.loop-number.invariant

pub returns-clause-value : goal.returns-clause-value
returns-clause-value c = subst (Generalises (tree_of c.args.term.now) (rules_of (numbered c.args.self.now.facts.now))) (sym c.from_vec.ensures) (scanned (tree_of c.args.term.now) c.args.self.now.facts.now c.loop-number.number c.loop-number.list.items (past_end c.args.self.now.facts.now c.loop-number.number c.loop-number-test.false) c.loop-number.invariant)

pub returns-in_err-add_match-clause-memory : goal.returns-in_err-add_match-clause-memory
returns-in_err-add_match-clause-memory c = err_of c.from_residual.result (FindsNothing (tree_of c.args.term.now) (rules_of (numbered c.args.self.now.facts.now)) → ⊥) (λ n. c.in_err-add_match.ensures.memory (nothing_left (tree_of c.args.term.now) (rule_of Left (live_fact c.loop-number.number c.fact-item.result) ∷ []) (rule_of Right (live_fact c.loop-number.number c.fact-item.result) ∷ []) (nothing_at (tree_of c.args.term.now) c.args.self.now.facts.now c.loop-number.number c.fact-item.result (drop_there c.args.self.now.facts.now c.loop-number.number c.fact-item.result c.loop-number-test.true c.fact-item.is) n)))

pub returns-in_err-add_match-2-clause-memory : goal.returns-in_err-add_match-2-clause-memory
returns-in_err-add_match-2-clause-memory c = err_of c.from_residual-in_err-add_match-2.result (FindsNothing (tree_of c.args.term.now) (rules_of (numbered c.args.self.now.facts.now)) → ⊥) (λ n. c.in_err-add_match-2.ensures.memory (nothing_right (tree_of c.args.term.now) (rule_of Left (live_fact c.loop-number.number c.fact-item.result) ∷ []) (rule_of Right (live_fact c.loop-number.number c.fact-item.result) ∷ []) (nothing_at (tree_of c.args.term.now) c.args.self.now.facts.now c.loop-number.number c.fact-item.result (drop_there c.args.self.now.facts.now c.loop-number.number c.fact-item.result c.loop-number-test.true c.fact-item.is) n)))
