use Rattle.std.proofs.Common.{refl, ◌∙◌}
use Rattle.uc_problem.proofs.Encodings.{axioms_are, goals_are}
use Rattle.uc_problem.proofs.encoding.as_it_is.Goals as goal

pub returns : goal.returns
returns c =
    let axioms = c.in_ok-equations.ensures ∙ axioms_are c.as_slice-clauses.result.now in
    let goals = c.in_ok-equations-2.ensures ∙ goals_are c.as_slice-clauses.result.now in
    rw (axioms, goals, c.in_ok-clause_sources.ensures, c.in_ok-clause_numbers.ensures, c.in_ok-copy_of.ensures, c.as_slice-clauses.ensures, c.as_slice.ensures, c.as_slice-2.ensures) refl
