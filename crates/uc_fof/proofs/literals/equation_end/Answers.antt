use Rattle.std.proofs.Common.{refl, arith, ap, sym, ◌∙◌, ◌+◌}
use Rattle.uc_clause.specs.declared.grammar.stop.Why.TheVariants.{NoSign}
use Rattle.uc_fof.specs.declared.stop.Reason.TheVariants.{Inside}
use Rattle.uc_fof.specs.Rules.{goes_on, stops_first, read_or_stop}
use Rattle.uc_fof.specs.Formulas as formulas
use Rattle.uc_fof.proofs.Marks.{some_sign}
use Rattle.uc_fof.proofs.Sequences.{exits_passes, passes_more}
use Rattle.uc_fof.proofs.literals.equation_end.Goals as goal

pub returns-in_err-at : goal.returns-in_err-at
returns-in_err-at c = exits_passes (formulas.term c.args.bytes.now c.args.tokens.now c.args.conjecture c.args.bound.now c.args.from) (formulas.equation c.args.bytes.now c.args.tokens.now c.args.conjecture c.args.bound.now c.args.from) _ _ c.from_residual.ensures.1 (λ r k h. goes_on {v = c.args.from} {middle = c.args.from} refl (stops_first h)) c.in_err-at.ensures

pub returns-in_default : goal.returns-in_default
returns-in_default c = goes_on {v = c.args.from} {middle = c.args.from} refl (goes_on c.in_ok-at.ensures.reads (stops_first (ap (λ v. read_or_stop (Inside c.args.conjecture (NoSign c.args.from)) v c.in_ok-at.at) (sym (ap (formulas.sign_by c.args.conjecture) (sym c.terminal_at.ensures) ∙ sym c.sign_by.ensures ∙ c.in_default.is)))))

pub overflow_add-at : goal.overflow_add-at
overflow_add-at c = omega (arith, some_sign c.args.bytes.now c.args.tokens.now c.args.conjecture c.in_ok-at.at c.in-Some.positive (ap (formulas.sign_by c.args.conjecture) (sym c.terminal_at.ensures) ∙ sym c.sign_by.ensures ∙ c.in-Some.is))

pub returns : goal.returns
returns c = passes_more (formulas.side_behind c.args.bytes.now c.args.tokens.now c.args.conjecture c.args.bound.now c.in-Some.positive (c.in_ok-at.at + 1)) (formulas.equation c.args.bytes.now c.args.tokens.now c.args.conjecture c.args.bound.now c.args.from) (λ right. record { positive = c.in-Some.positive; sides = record { left = c.in_ok-at.ensures.value; right = right } }) c.side_end.result (λ v end h. goes_on {v = c.args.from} {middle = c.args.from} refl (goes_on c.in_ok-at.ensures.reads (goes_on {v = c.in-Some.positive} {middle = c.in_ok-at.at + 1} (ap (λ v. read_or_stop (Inside c.args.conjecture (NoSign c.args.from)) v c.in_ok-at.at) (sym (ap (formulas.sign_by c.args.conjecture) (sym c.terminal_at.ensures) ∙ sym c.sign_by.ensures ∙ c.in-Some.is))) (goes_on h refl)))) (λ r k h. goes_on {v = c.args.from} {middle = c.args.from} refl (goes_on c.in_ok-at.ensures.reads (goes_on {v = c.in-Some.positive} {middle = c.in_ok-at.at + 1} (ap (λ v. read_or_stop (Inside c.args.conjecture (NoSign c.args.from)) v c.in_ok-at.at) (sym (ap (formulas.sign_by c.args.conjecture) (sym c.terminal_at.ensures) ∙ sym c.sign_by.ensures ∙ c.in-Some.is))) (stops_first h)))) c.side_end.ensures
