use Rattle.uc_clause.specs.Items.{term_alone}
use Rattle.uc_clause.specs.Reading.{SaysTerm}
use Rattle.uc_clause.proofs.Alone.{term_alone_once, says_term_once}
use Rattle.uc_clause.proofs.Whole.{complete, refuses}
use Rattle.uc_clause.proofs.grammar.alone.read_term.Goals as goal

pub returns-clause-complete : goal.returns-clause-complete
returns-clause-complete c =
    complete term_alone (SaysTerm c.term_of-result.new.symbols) c.args.bytes.now (term_alone_once c.args.bytes.now) (λ tokens p v w m n. says_term_once c.args.bytes.now tokens c.term_of-result.new.symbols c.len.ensures.distinct p v w m n) c.term_of-result.result c.term_of-result.ensures.answer

pub returns-clause-refuses : goal.returns-clause-refuses
returns-clause-refuses c =
    refuses term_alone (SaysTerm c.term_of-result.new.symbols) c.args.bytes.now (term_alone_once c.args.bytes.now) c.term_of-result.result c.term_of-result.ensures.answer
