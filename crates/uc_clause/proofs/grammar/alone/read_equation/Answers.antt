use Rattle.uc_clause.specs.Items.{equals_alone}
use Rattle.uc_clause.specs.Reading.{SaysSides}
use Rattle.uc_clause.proofs.Alone.{equals_alone_once, says_sides_once}
use Rattle.uc_clause.proofs.Whole.{complete, refuses}
use Rattle.uc_clause.proofs.grammar.alone.read_equation.Goals as goal

pub returns-clause-complete : goal.returns-clause-complete
returns-clause-complete c =
    complete equals_alone (SaysSides c.equation_of-result.new.symbols) c.args.bytes.now (equals_alone_once c.args.bytes.now) (λ tokens p v w m n. says_sides_once c.args.bytes.now tokens c.equation_of-result.new.symbols c.len.ensures.distinct p v w m n) c.equation_of-result.result c.equation_of-result.ensures.answer

pub returns-clause-refuses : goal.returns-clause-refuses
returns-clause-refuses c =
    refuses equals_alone (SaysSides c.equation_of-result.new.symbols) c.args.bytes.now (equals_alone_once c.args.bytes.now) c.equation_of-result.result c.equation_of-result.ensures.answer
