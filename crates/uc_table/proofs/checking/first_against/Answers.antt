use Rattle.std.proofs.Common.{◌≡◌, ◌<◌, length, arith, sym, ap, ◌∙◌, ◌+◌, take, List, [], ◌∷◌, ◌++◌, subst}
use Rattle.std.proofs.lemmas.List.{length_push}
use Rattle.std.proofs.lemmas.Option.{MatchOption-at_some, MatchOption-at_none}
use Rattle.uc_term.specs.declared.equation.Equation.{Equation}
use Rattle.uc_check.specs.Clauses.{equation_of}
use Rattle.uc_table.specs.Against.{Keeps, KeepAll, IsAgainst, equations_of}
use Rattle.uc_table.proofs.Polarity.{more_same, more_other, front_fewer, keep_more, first_at, equal_from}
use Rattle.uc_table.proofs.checking.first_against.Goals as goal
use Rattle.uc_table.proofs.checking.first_against.Goals.{then-clause-positive+in_ok-values+in_default, else-clause-positive}

pub overflow_cast-result : goal.overflow_cast-result
overflow_cast-result c =
    let h : c.loop-sourced.number < length c.args.clauses.now = front_fewer c.args.positive c.args.clauses.now c.loop-sourced.sourced-index c.loop-sourced.number c.loop-sourced.invariant.0 c.loop-sourced-test.true in
    omega (arith, c.requires.few)

pub overflow_add-number : goal.overflow_add-number
overflow_add-number c =
    let h : c.loop-sourced.number < length c.args.clauses.now = front_fewer c.args.positive c.args.clauses.now c.loop-sourced.sourced-index c.loop-sourced.number c.loop-sourced.invariant.0 c.loop-sourced-test.true in
    omega (arith, c.requires.few)

pub returns-in-Some : goal.returns-in-Some
returns-in-Some c =
    first_at c.args.positive c.args.table.now c.args.clauses.now c.loop-sourced.sourced-index c.loop-sourced.number c.sourced-item.result c.in-Some.values c.loop-sourced.invariant.0 c.loop-sourced-test.true c.sourced-item.is c.if-clause-positive.true c.loop-sourced.invariant.1
    (MatchOption-at_some (Keeps c.args.table.now c.sourced-item.result.clause.positive (equation_of c.sourced-item.result.clause)) (λ values. IsAgainst c.args.table.now c.sourced-item.result.clause.positive values (equation_of c.sourced-item.result.clause)) c.in-Some.values c.in-Some.is c.in_ok-values.ensures)

pub loop-sourced-preserved : goal.loop-sourced-preserved
loop-sourced-preserved c =
    elim c.if-clause-positive.branch [
      | then-clause-positive+in_ok-values+in_default w ↦
          (let same : equations_of c.args.positive (take (c.loop-sourced.sourced-index + 1) c.args.clauses.now) ≡ equations_of c.args.positive (take c.loop-sourced.sourced-index c.args.clauses.now) ++ equation_of c.sourced-item.result.clause ∷ [] = more_same c.args.positive c.args.clauses.now c.loop-sourced.sourced-index c.sourced-item.result c.loop-sourced-test.true c.sourced-item.is w.if-clause-positive.true in
          let holds : Keeps c.args.table.now c.sourced-item.result.clause.positive (equation_of c.sourced-item.result.clause) = MatchOption-at_none (Keeps c.args.table.now c.sourced-item.result.clause.positive (equation_of c.sourced-item.result.clause)) (λ values. IsAgainst c.args.table.now c.sourced-item.result.clause.positive values (equation_of c.sourced-item.result.clause)) w.in_default.is w.in_ok-values.ensures in
          let held : Keeps c.args.table.now c.args.positive (equation_of c.sourced-item.result.clause) = subst (λ b. Keeps c.args.table.now b (equation_of c.sourced-item.result.clause)) (equal_from c.sourced-item.result.clause.positive c.args.positive w.if-clause-positive.true) holds in
          let count : c.if-clause-positive.number ≡ length (equations_of c.args.positive (take c.loop-sourced.sourced-index c.args.clauses.now) ++ equation_of c.sourced-item.result.clause ∷ []) = w.number-is ∙ ap (λ n. n + 1) c.loop-sourced.invariant.0 ∙ sym (length_push (equations_of c.args.positive (take c.loop-sourced.sourced-index c.args.clauses.now)) (equation_of c.sourced-item.result.clause)) in
          subst (λ (es : List Equation). (c.if-clause-positive.number ≡ length es) × KeepAll c.args.table.now c.args.positive es) (sym same) (count, keep_more c.args.positive c.args.table.now (equations_of c.args.positive (take c.loop-sourced.sourced-index c.args.clauses.now)) (equation_of c.sourced-item.result.clause) c.loop-sourced.invariant.1 held))
      | else-clause-positive w ↦
          (let same : equations_of c.args.positive (take (c.loop-sourced.sourced-index + 1) c.args.clauses.now) ≡ equations_of c.args.positive (take c.loop-sourced.sourced-index c.args.clauses.now) = more_other c.args.positive c.args.clauses.now c.loop-sourced.sourced-index c.sourced-item.result c.loop-sourced-test.true c.sourced-item.is w.if-clause-positive.false in
          subst (λ (es : List Equation). (c.if-clause-positive.number ≡ length es) × KeepAll c.args.table.now c.args.positive es) (sym same) (w.number-is ∙ c.loop-sourced.invariant.0, c.loop-sourced.invariant.1))
    ]
