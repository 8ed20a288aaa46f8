use Rattle.std.proofs.Common.{length, ap, ◌∙◌, arith}
use Rattle.std.proofs.lemmas.Result.{err_from_is_err_and}
use Rattle.uc_problem.specs.Holds.{terms_of}
use Rattle.uc_problem.specs.Assembly.{has_none, wants_memory}
use Rattle.uc_problem.proofs.Sound.{are_sound_later, terms_sound}
use Rattle.uc_problem.proofs.Sides.{length_terms}
use Rattle.uc_problem.proofs.Problems.{fault_later}
use Rattle.uc_problem.proofs.Growth.{terms_later}
use Rattle.uc_problem.proofs.Fillings.{adds_least}
use Rattle.uc_problem.proofs.assembly.signature_of.Goals as goal

pub returns-in_err-terms-clause-refused : goal.returns-in_err-terms-clause-refused
returns-in_err-terms-clause-refused c =
    let p = err_from_is_err_and c.from_residual.result c.from_residual.ensures.1 in
    rw (p.1, p.2) wants_memory

pub of-requires-clause-of : goal.of-requires-clause-of
of-requires-clause-of c = rw (c.as_slice.ensures.value, c.in_ok-terms.ensures) (terms_sound c.args.symbols.now c.args.clauses.now c.requires.sound)

pub of-requires-clause-few : goal.of-requires-clause-few
of-requires-clause-few c = omega (arith, ap length (c.as_slice.ensures.value ∙ c.in_ok-terms.ensures), length_terms c.args.clauses.now, c.requires.few)

pub refusal-requires-clause-sound : goal.refusal-requires-clause-sound
refusal-requires-clause-sound c = are_sound_later c.args.symbols.now c.of.new.symbols c.in-Err.ensures.grows c.args.clauses.now c.requires.sound

pub refusal-requires-clause-fault : goal.refusal-requires-clause-fault
refusal-requires-clause-fault c =
    fault_later c.args.symbols.now c.of.new.symbols (terms_of c.args.clauses.now) c.in-Err.fault c.in-Err.ensures.grows (terms_sound c.args.symbols.now c.args.clauses.now c.requires.sound)
    (rw (c.as_slice.ensures.value, c.in_ok-terms.ensures) at c.in-Err.ensures.err)

pub returns-in_err-refusal-in-Err-clause-refused :
    goal.returns-in_err-refusal-in-Err-clause-refused
returns-in_err-refusal-in-Err-clause-refused c =
    let p = err_from_is_err_and c.from_residual-in_err-refusal-in-Err.result c.from_residual-in_err-refusal-in-Err.ensures.1 in
    rw (p.1, p.2) wants_memory

pub returns-in-Ok-clause-least : goal.returns-in-Ok-clause-least
returns-in-Ok-clause-least c =
    let terms = terms_later c.args.symbols.now c.of.new.symbols c.in-Ok.ensures.grows (terms_of c.args.clauses.now) (terms_sound c.args.symbols.now c.args.clauses.now c.requires.sound) in
    adds_least c.of.new.symbols c.args.symbols.now (terms_of c.args.clauses.now) c.in-Ok.signature terms (rw (c.as_slice.ensures.value, c.in_ok-terms.ensures) at c.in-Ok.ensures.ok) c.in-Ok.ensures.only

pub returns-clause-refused : goal.returns-clause-refused
returns-clause-refused c = has_none (rw c.in-Err.ensures.kept at c.in_ok-refusal-in-Err.ensures)
