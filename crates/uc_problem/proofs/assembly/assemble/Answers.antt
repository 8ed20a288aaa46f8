use Rattle.std.proofs.Common.{true, false, refl, ap, ◌∙◌}
use Rattle.std.proofs.lemmas.Result.{err_from_is_err_and}
use Rattle.uc_problem.specs.Holds.{numbers_of}
use Rattle.uc_problem.specs.Assembly.{wants_memory}
use Rattle.uc_problem.proofs.Sound.{are_sound_later}
use Rattle.uc_problem.proofs.Problems.{agree}
use Rattle.uc_problem.proofs.assembly.assemble.Goals as goal

pub returns-in_err-axioms-clause-refused : goal.returns-in_err-axioms-clause-refused
returns-in_err-axioms-clause-refused c =
    let p = err_from_is_err_and c.from_residual-in_err-axioms.result c.from_residual-in_err-axioms.ensures.1 in
    rw (p.1, p.2) wants_memory

pub returns-in_err-goals-clause-refused : goal.returns-in_err-goals-clause-refused
returns-in_err-goals-clause-refused c =
    let p = err_from_is_err_and c.from_residual-in_err-goals.result c.from_residual-in_err-goals.ensures.1 in
    rw (p.1, p.2) wants_memory

pub returns-clause-agrees : goal.returns-clause-agrees
returns-clause-agrees c =
    agree c.signature_of.new.symbols c.args.clauses _ (are_sound_later c.args.symbols.now c.signature_of.new.symbols c.in_ok-signature.ensures.grows c.args.clauses c.requires.sound) refl
    (c.in_ok-axioms.ensures ∙ ap (numbers_of true 0) c.as_slice-2.ensures) (c.in_ok-goals.ensures ∙ ap (numbers_of false 0) c.as_slice-3.ensures) (rw c.as_slice.ensures at c.in_ok-signature.ensures.signature)
