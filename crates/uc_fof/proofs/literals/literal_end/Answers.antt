use Rattle.std.proofs.Common.{refl, arith, ap, sym, ◌∙◌, ◌+◌, false}
use Rattle.uc_fof.specs.Rules.{is_first, is_second, goes_on, stops_first}
use Rattle.uc_fof.specs.Formulas as formulas
use Rattle.uc_fof.proofs.Marks.{some_denial, tilde_there}
use Rattle.uc_fof.proofs.Sequences.{passes_more}
use Rattle.uc_fof.proofs.literals.literal_end.Goals as goal

pub overflow_add-from : goal.overflow_add-from
overflow_add-from c = omega (arith, some_denial c.args.bytes.now c.args.tokens.now c.args.conjecture c.args.from (ap (formulas.denies c.args.conjecture) (sym c.terminal_at.ensures) ∙ sym c.denies.ensures ∙ c.if-denies.true))

pub returns-then-denies : goal.returns-then-denies
returns-then-denies c =
    let tilde = tilde_there c.args.bytes.now c.args.tokens.now c.args.conjecture c.args.from (ap (formulas.denies c.args.conjecture) (sym c.terminal_at.ensures) ∙ sym c.denies.ensures ∙ c.if-denies.true) in
    passes_more (formulas.denied c.args.bytes.now c.args.tokens.now c.args.conjecture c.args.bound.now (c.args.from + 1)) (formulas.literal c.args.bytes.now c.args.tokens.now c.args.conjecture c.args.bound.now c.args.from) (λ sides. record { positive = false; sides = sides }) c.denied_end.result (λ v end h. is_first (ap (formulas.denies c.args.conjecture) (sym c.terminal_at.ensures) ∙ sym c.denies.ensures ∙ c.if-denies.true) (goes_on {v = tt} {middle = c.args.from + 1} (tilde, refl) (goes_on h refl))) (λ r k h. is_first (ap (formulas.denies c.args.conjecture) (sym c.terminal_at.ensures) ∙ sym c.denies.ensures ∙ c.if-denies.true) (goes_on {v = tt} {middle = c.args.from + 1} (tilde, refl) (stops_first h))) c.denied_end.ensures

pub returns-else-denies : goal.returns-else-denies
returns-else-denies c =
    passes_more (formulas.equation c.args.bytes.now c.args.tokens.now c.args.conjecture c.args.bound.now c.args.from) (formulas.literal c.args.bytes.now c.args.tokens.now c.args.conjecture c.args.bound.now c.args.from) (λ l. l) c.equation_end.result (λ v end h. is_second (λ e. cc) h) (λ r k h. is_second (λ e. cc) h) c.equation_end.ensures
