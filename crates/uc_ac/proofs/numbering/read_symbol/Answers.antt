use Rattle.uc_ac.proofs.Reading.{symbol_reads}
use Rattle.uc_ac.proofs.numbering.read_symbol.Goals as goal

pub returns-clause-read : goal.returns-clause-read
returns-clause-read c symbols other ts s =
    symbol_reads symbols c.args.classes.now c.close_arguments.new.classes c.insert.new.self c.args.terms.now.items c.close_arguments.new.terms.items c.push.new.self.items c.args.f c.args.n c.in_ok-number.number c.close_arguments.new.numbers.items c.in_ok-class.class.items ts other c.requires.enough c.in_ok-number.ensures.grown c.in_ok-class.ensures.items c.in_ok-number.ensures.number c.in_ok-push.ensures.items (c.in_ok-close_arguments.ensures.closed symbols ts s) s
