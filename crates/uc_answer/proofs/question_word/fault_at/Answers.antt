use Rattle.std.proofs.Common.{Some, ap, ◌∙◌}
use Rattle.uc_answer.proofs.Questions.{symbol_is, has_variable, has_unknown}
use Rattle.uc_answer.proofs.question_word.fault_at.Goals as goal

pub name-requires : goal.name-requires
name-requires c = symbol_is c.args.symbols.now c.args.word.now c.args.sides.now c.requires.reads c.args.number c.in-App.symbol c.in-App.field-1 (c.node_at.ensures ∙ ap Some c.in-App.is)

pub returns-in-Var : goal.returns-in-Var
returns-in-Var c known before interns first = (c.args.symbols.now, interns, has_variable c.args.symbols.now c.args.word.now c.args.sides.now c.requires.reads c.args.number known first c.in_ok-place.place (c.in_ok-place.ensures c.requires.reads.tokens c.requires.reads.are_tokens) c.in-Var.field-0 (c.node_at.ensures ∙ ap Some c.in-Var.is))

pub returns-in_ok-name-in-App : goal.returns-in_ok-name-in-App
returns-in_ok-name-in-App c known before interns first = (c.args.symbols.now, interns, has_unknown c.args.symbols.now c.args.word.now c.args.sides.now c.requires.reads c.args.number known first c.in_ok-place.place (c.in_ok-place.ensures c.requires.reads.tokens c.requires.reads.are_tokens) c.in-App.symbol c.in-App.field-1 c.in_ok-name-in-App.name (c.node_at.ensures ∙ ap Some c.in-App.is) (rw c.name.ensures at c.in_ok-name-in-App.ensures))
