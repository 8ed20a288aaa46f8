-- The files of a proof's lines: that of its clause, for a clause of the problem, and else none.
use Rattle.std.specs.Prelude.{ℕ, List, [], slice_get, Option, Some, None}
use Rattle.uc_clause.specs.declared.clause.Sourced.{Sourced}
use Rattle.uc_problem.specs.declared.problem.Problem.{Problem}
use Rattle.uc_problem.specs.declared.problem.Encoded.{Encoded}
use Rattle.uc_problem.specs.declared.problem.Source.{Source}
use Rattle.uc_problem.specs.declared.problem.Source.TheVariants as source
use Rattle.uc_proof.specs.declared.part.Part.{Part}
use Rattle.uc_proof.specs.declared.part.Part.TheVariants as part

abbrev pub clause_file : Option Sourced → List ℕ
clause_file None = []
clause_file (Some s) = s.file

abbrev pub source_file : Problem → Option Source → List ℕ
source_file problem (Some (source.Clause c)) = clause_file (slice_get problem.clauses c)
source_file problem other = []

abbrev pub part_file : Problem → Encoded → Part → List ℕ
part_file problem encoded (part.Axiom k) = source_file problem (slice_get encoded.sources k)
part_file problem encoded (part.Denial c) = clause_file (slice_get problem.clauses c)
part_file problem encoded other = []
