use Rattle.std.proofs.Common.{◌∙◌}
use Rattle.uc_problem.proofs.NameKeys.{has_name-word, has_name-integer}
use Rattle.uc_problem.proofs.names.Names.insert.Goals as goal

pub returns-in_ok-insert : goal.returns-in_ok-insert
returns-in_ok-insert c = has_name-integer c.args.self.now.words.keys c.args.self.now.integers.keys c.insert.new.self.keys c.in_ok-text.text c.args.name.now (c.in_ok-text.ensures.items ∙ c.as_bytes.ensures) c.if-name.true c.in_ok-insert.ensures.keys

pub returns-in_ok-insert-2 : goal.returns-in_ok-insert-2
returns-in_ok-insert-2 c = has_name-word c.args.self.now.words.keys c.insert-else-name.new.self.keys c.args.self.now.integers.keys c.in_ok-text.text c.args.name.now (c.in_ok-text.ensures.items ∙ c.as_bytes.ensures) c.if-name.false c.in_ok-insert-2.ensures.keys
