-- The kinds of clauses of which the lists of an encoded problem are made.
use Rattle.std.specs.Prelude.{Bool, true, false, if◌then◌else◌}
use Rattle.uc_clause.specs.declared.clause.Sourced.{Sourced}
use Rattle.uc_problem.specs.declared.encoding.Kind.{Kind}
use Rattle.uc_problem.specs.declared.encoding.Kind.TheVariants.{Axiom, Goal, OpenGoal, GroundGoal}
use Rattle.uc_problem.specs.Marks.{is_open_goal}
use Rattle.uc_problem.specs.Encodes.{is_ground_goal}

-- whether a clause is of this kind
abbrev pub is_of : Kind → Sourced → Bool
is_of Axiom s = s.clause.positive
is_of Goal s = if s.clause.positive then false else true
is_of OpenGoal s = is_open_goal s
is_of GroundGoal s = is_ground_goal s

-- only goals are of this kind, and not all of them
abbrev pub AreGoals : Kind → Type 0
AreGoals OpenGoal = Unit {0}
AreGoals GroundGoal = Unit {0}
AreGoals _ = ⊥
