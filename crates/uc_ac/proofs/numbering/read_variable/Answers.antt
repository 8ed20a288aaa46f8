use Rattle.std.proofs.Common.{ap, ◌∙◌, Some}
use Rattle.uc_ac.proofs.Reading.{variable_reads}
use Rattle.uc_ac.proofs.numbering.read_variable.Goals as goal

pub returns-clause-read : goal.returns-clause-read
returns-clause-read c symbols ts s = variable_reads symbols c.args.classes.now c.insert.new.self c.args.terms.now.items c.push.new.self.items c.args.x c.in_ok-number.number ts c.in_ok-number.ensures.grown (c.in_ok-number.ensures.number ∙ ap Some c.in_ok-class.ensures.items) c.in_ok-push.ensures.items s
