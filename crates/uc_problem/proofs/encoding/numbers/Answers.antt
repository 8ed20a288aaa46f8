use Rattle.std.proofs.Common.{◌++◌, filter, append-nil, refl, sym, ap, ◌∙◌, arith}
use Rattle.std.proofs.lemmas.List.{drop_all}
use Rattle.uc_problem.specs.Kinds.{is_of}
use Rattle.uc_problem.proofs.OpenGoals.{goal_within}
use Rattle.uc_problem.proofs.Encodings.{is_at, only_goals, numbers_are, push_here, skip_here}
use Rattle.uc_problem.proofs.encoding.numbers.Goals as goal
use Rattle.uc_problem.proofs.encoding.numbers.Goals.{then-is_of+in_ok-push, else-is_of}

pub bounds-clauses-number : goal.bounds-clauses-number
bounds-clauses-number c = goal_within c.args.clauses.now c.args.goals.now c.loop-number.number-index 0 c.requires.goals c.loop-number-test.true

pub loop-number-preserved : goal.loop-number-preserved
loop-number-preserved c =
    let within = goal_within c.args.clauses.now c.args.goals.now c.loop-number.number-index 0 c.requires.goals c.loop-number-test.true in
    elim c.if-is_of.branch [
      | then-is_of+in_ok-push w ↦ push_here (is_of c.args.kind) c.args.clauses.now c.args.goals.now c.loop-number.number-index _ 0 c.index-clauses-number.result c.index-clauses-number.result c.loop-number-test.true refl within c.index-clauses-number.is c.loop-number.numbers c.if-is_of.numbers (sym c.is_of.ensures ∙ w.if-is_of.true) (w.numbers-is ∙ w.in_ok-push.ensures.ok) c.loop-number.invariant
      | else-is_of w ↦ skip_here (is_of c.args.kind) c.args.clauses.now c.args.goals.now c.loop-number.number-index _ 0 c.index-clauses-number.result c.index-clauses-number.result c.loop-number-test.true refl within c.index-clauses-number.is c.loop-number.numbers c.if-is_of.numbers (sym c.is_of.ensures ∙ w.if-is_of.false) w.numbers-is c.loop-number.invariant
    ]

pub returns : goal.returns
returns c =
    let none = drop_all c.loop-number.number-index c.args.goals.now (omega (arith, c.loop-number-test.false)) in
    sym (append-nil c.loop-number.numbers) ∙ ap (λ l. c.loop-number.numbers ++ filter (is_at (is_of c.args.kind) c.args.clauses.now) l) (sym none) ∙ c.loop-number.invariant ∙ numbers_are (is_of c.args.kind) (only_goals c.args.kind c.requires.kind) c.args.clauses.now c.args.goals.now c.requires.goals
