use Rattle.std.proofs.Common.{◌∷◌, [], ◌++◌, Some, None}
use Rattle.std.proofs.lemmas.Result.{IfOk-weaker, on_err_weaker}
use Rattle.uc_term.specs.declared.equation.Side.TheVariants.{Left, Right}
use Rattle.uc_term.specs.Flat.{tree_of}
use Rattle.uc_fact.specs.Live.{rule_of}
use Rattle.uc_fact.specs.Retrieval.{FindsNothing, by_later, FirstThat}
use Rattle.uc_rewrite.specs.Scanning.{live_fact}
use Rattle.uc_rewrite.proofs.Scanned.{err_of, nothing_left, nothing_right, found_more, first_here, first_past, answered}
use Rattle.uc_rewrite.proofs.scan.first_of_sides.Goals as goal

pub first_of_side-requires-clause-can : goal.first_of_side-requires-clause-can
first_of_side-requires-clause-can g c found from to i = c.requires.can found from to (found_more (tree_of c.args.term.now) (rule_of Left (live_fact c.args.number c.args.fact.now) ∷ []) (rule_of Right (live_fact c.args.number c.args.fact.now) ∷ []) found from to i)

pub returns-in-Some-clause-value : goal.returns-in-Some-clause-value
returns-in-Some-clause-value g c = first_here (tree_of c.args.term.now) (g.T.Test.accepts c.args.test.now) (rule_of Left (live_fact c.args.number c.args.fact.now) ∷ []) (rule_of Right (live_fact c.args.number c.args.fact.now) ∷ []) c.in-Some.found (answered (g.T.Test.accepts c.args.test.now) (tree_of c.args.term.now) (rule_of Left (live_fact c.args.number c.args.fact.now) ∷ []) c.in_ok-found.field-0 (Some c.in-Some.found) c.in-Some.is c.in_ok-found.ensures.value)

pub returns-in-None-clause-value : goal.returns-in-None-clause-value
returns-in-None-clause-value g c = IfOk-weaker c.first_of_side-in-None.result (FirstThat (g.T.Test.accepts c.args.test.now) (tree_of c.args.term.now) (rule_of Right (live_fact c.args.number c.args.fact.now) ∷ [])) (FirstThat (g.T.Test.accepts c.args.test.now) (tree_of c.args.term.now) ((rule_of Left (live_fact c.args.number c.args.fact.now) ∷ []) ++ (rule_of Right (live_fact c.args.number c.args.fact.now) ∷ []))) (λ answer f. first_past (tree_of c.args.term.now) (g.T.Test.accepts c.args.test.now) (rule_of Left (live_fact c.args.number c.args.fact.now) ∷ []) (rule_of Right (live_fact c.args.number c.args.fact.now) ∷ []) answer (answered (g.T.Test.accepts c.args.test.now) (tree_of c.args.term.now) (rule_of Left (live_fact c.args.number c.args.fact.now) ∷ []) c.in_ok-found.field-0 None c.in-None.is c.in_ok-found.ensures.value) f) c.first_of_side-in-None.ensures.value

pub first_of_side-requires-in-None-clause-can : goal.first_of_side-requires-in-None-clause-can
first_of_side-requires-in-None-clause-can g c found from to i = c.requires.can found from to (by_later i)

pub returns-in_err-found-clause-memory : goal.returns-in_err-found-clause-memory
returns-in_err-found-clause-memory g c = err_of c.from_residual.result (FindsNothing (tree_of c.args.term.now) (rule_of Left (live_fact c.args.number c.args.fact.now) ∷ rule_of Right (live_fact c.args.number c.args.fact.now) ∷ []) → ⊥) (λ n. c.in_err-found.ensures.memory (nothing_left (tree_of c.args.term.now) (rule_of Left (live_fact c.args.number c.args.fact.now) ∷ []) (rule_of Right (live_fact c.args.number c.args.fact.now) ∷ []) n))

pub returns-in-None-clause-memory : goal.returns-in-None-clause-memory
returns-in-None-clause-memory g c = on_err_weaker c.first_of_side-in-None.result (λ some n. some (nothing_right (tree_of c.args.term.now) (rule_of Left (live_fact c.args.number c.args.fact.now) ∷ []) (rule_of Right (live_fact c.args.number c.args.fact.now) ∷ []) n)) c.first_of_side-in-None.ensures.memory
