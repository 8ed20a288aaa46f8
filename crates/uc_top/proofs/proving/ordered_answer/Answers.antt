use Rattle.std.proofs.Common.{sym, subst, List}
use Rattle.uc_term.specs.declared.node.Sym.{Sym}
use Rattle.uc_ordering.specs.Fits.{Fits}
use Rattle.uc_answer.proofs.PrintableSymbols.{encoded_symbols}
use Rattle.uc_top.proofs.OwnSignatures.{is_signature}
use Rattle.uc_top.proofs.ProveOnce.{marks_for}
use Rattle.uc_top.proofs.ProvedAnswers.{unordered, unordered_promises}
use Rattle.uc_top.proofs.proving.ordered_answer.Goals as goal

pub choose-requires-clause-signature : goal.choose-requires-clause-signature
choose-requires-clause-signature g c = is_signature c.args.symbols.now c.args.problem.now c.requires.agrees

pub choose-requires-clause-marks : goal.choose-requires-clause-marks
choose-requires-clause-marks g c = marks_for c.args.symbols.now c.args.problem.now c.args.encoded.now.fresh c.requires.encodes.0

pub searched_answer-requires-clause-fits : goal.searched_answer-requires-clause-fits
searched_answer-requires-clause-fits g c κs within = subst (λ (fs : List Sym). Fits c.args.symbols.now fs c.in-Ok.spec) (sym (encoded_symbols c.args.symbols.now c.args.problem.now c.args.encoded.now c.requires.encodes)) c.in-Ok.ensures.fits

pub returns-in-Err-clause-answers : goal.returns-in-Err-clause-answers
returns-in-Err-clause-answers g c = λ loaded i. unordered c.args.symbols.now c.args.command.now c.args.name.now c.args.problem.now loaded c.args.encoded.now c.in-Err.fault c.choice_answer.result i c.requires.encodes c.in-Err.ensures.err c.choice_answer.ensures.answer c.choice_answer.ensures.not_memory

pub returns-in-Err-clause-promise : goal.returns-in-Err-clause-promise
returns-in-Err-clause-promise g c = unordered_promises c.args.symbols.now c.args.command.now c.args.name.now c.args.problem.now _ c.choice_answer.result c.choice_answer.ensures.answer
