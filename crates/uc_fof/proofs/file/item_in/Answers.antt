use Rattle.std.proofs.Common.{sym, ◌∙◌, ap₂, arith}
use Rattle.std.proofs.lemmas.Result.{err_from_is_err_and}
use Rattle.uc_fof.specs.Formulas as formulas
use Rattle.uc_fof.proofs.ItemParts.{stated_item, stated_refused, clause_item, clause_refused}
use Rattle.uc_fof.proofs.file.item_in.Goals as goal

pub returns-in-Ok-clause-reads : goal.returns-in-Ok-clause-reads
returns-in-Ok-clause-reads c = stated_item c.args.bytes.now c.args.tokens.now c.args.from (ap₂ formulas.is_formula (sym c.terminal_at.ensures) (sym c.spelling_at.ensures) ∙ sym c.is_formula.ensures ∙ c.if-is_formula.true) c.args.symbols.now c.fof_at.new.symbols c.in-Ok.found.0 c.in-Ok.found.1 c.in-Ok.ensures.reads

pub returns-in-Err-clause-refused : goal.returns-in-Err-clause-refused
returns-in-Err-clause-refused c = stated_refused c.args.bytes.now c.args.tokens.now c.args.from (ap₂ formulas.is_formula (sym c.terminal_at.ensures) (sym c.spelling_at.ensures) ∙ sym c.is_formula.ensures ∙ c.if-is_formula.true) c.in-Err.halt c.refusal.result c.in-Err.ensures.stops c.refusal.ensures

pub returns-in_err-item-clause-refused : goal.returns-in_err-item-clause-refused
returns-in_err-item-clause-refused c =
    let p = err_from_is_err_and c.from_residual.result c.from_residual.ensures.1 in
    rw (p.1, p.2) (clause_refused c.args.bytes.now c.args.tokens.now c.args.from (ap₂ formulas.is_formula (sym c.terminal_at.ensures) (sym c.spelling_at.ensures) ∙ sym c.is_formula.ensures ∙ c.if-is_formula.false) c.in_err-item.field-0.0 c.in_err-item.ensures.refused)

pub returns-in_ok-item-clause-reads : goal.returns-in_ok-item-clause-reads
returns-in_ok-item-clause-reads c = clause_item c.args.bytes.now c.args.tokens.now c.args.from (ap₂ formulas.is_formula (sym c.terminal_at.ensures) (sym c.spelling_at.ensures) ∙ sym c.is_formula.ensures ∙ c.if-is_formula.false) c.args.symbols.now c.item_at.new.symbols c.in_ok-item.item c.in_ok-item.end c.in_ok-item.ensures.reads c.in_ok-item.ensures.interns
