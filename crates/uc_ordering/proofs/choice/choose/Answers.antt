use Rattle.std.proofs.lemmas.Result.{IfOk-weaker}
use Rattle.uc_ordering.specs.Choice.{IsChosen, all_symbols}
use Rattle.uc_ordering.specs.Fits.{Fits}
use Rattle.uc_ordering.proofs.Fitting.{fits}
use Rattle.uc_ordering.proofs.choice.choose.Goals as goal

pub returns-clause-fits : goal.returns-clause-fits
returns-clause-fits c = IfOk-weaker c.choose_by.result (IsChosen c.args.symbols.now c.args.signature.now c.args.words.now c.args.fresh) (Fits c.args.symbols.now (all_symbols c.args.signature.now c.args.fresh)) (λ spec chosen. fits c.args.symbols.now c.args.signature.now c.args.words.now c.requires.w0_some c.requires.w0_most c.requires.signature c.args.fresh spec chosen c.requires.marks) c.choose_by.ensures.ok
