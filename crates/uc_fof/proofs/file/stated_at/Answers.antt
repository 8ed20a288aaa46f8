use Rattle.std.proofs.Common.{refl}
use Rattle.uc_clause.specs.declared.terminal.Terminal.TheVariants.{Dot}
use Rattle.uc_clause.specs.declared.grammar.stop.Why.TheVariants.{NoToken}
use Rattle.uc_fof.specs.Rules.{goes_on, stops_first}
use Rattle.uc_fof.specs.Formulas as formulas
use Rattle.uc_fof.proofs.Sequences.{exits_err}
use Rattle.uc_fof.proofs.file.stated_at.Goals as goal

pub returns-in_err-heading-clause-stops : goal.returns-in_err-heading-clause-stops
returns-in_err-heading-clause-stops c = exits_err (formulas.heading c.args.bytes.now c.args.tokens.now c.args.from) (formulas.fof c.args.bytes.now c.args.tokens.now c.args.from) _ _ c.from_residual.ensures.1 (λ r k h. stops_first h) c.in_err-heading.ensures

pub returns-in_err-literal-clause-stops : goal.returns-in_err-literal-clause-stops
returns-in_err-literal-clause-stops c = exits_err (formulas.formula c.args.bytes.now c.args.tokens.now (formulas.is_conjecture c.in_ok-heading.heading.role) c.in_ok-heading.at) (formulas.fof c.args.bytes.now c.args.tokens.now c.args.from) _ _ c.from_residual-in_err-literal.ensures.1 (λ r k h. goes_on c.in_ok-heading.ensures (stops_first h)) (rw c.is_conjecture-conjecture.ensures at c.in_err-literal.ensures.stops)

pub returns-in_err-at-clause-stops : goal.returns-in_err-at-clause-stops
returns-in_err-at-clause-stops c =
    let l = rw c.is_conjecture-conjecture.ensures at c.in_ok-literal.ensures.reads in
    exits_err (formulas.notes c.args.bytes.now c.args.tokens.now (formulas.is_conjecture c.in_ok-heading.heading.role) c.in_ok-literal.at) (formulas.fof c.args.bytes.now c.args.tokens.now c.args.from) _ _ c.from_residual-in_err-at.ensures.1 (λ r k h. goes_on c.in_ok-heading.ensures (goes_on l.reads (stops_first h))) (rw c.is_conjecture-conjecture.ensures at c.in_err-at.ensures)

pub returns-in_err-end-clause-stops : goal.returns-in_err-end-clause-stops
returns-in_err-end-clause-stops c =
    let l = rw c.is_conjecture-conjecture.ensures at c.in_ok-literal.ensures.reads in
    exits_err (formulas.outer c.args.bytes.now c.args.tokens.now Dot NoToken c.in_ok-at.at) (formulas.fof c.args.bytes.now c.args.tokens.now c.args.from) _ _ c.from_residual-in_err-end.ensures.1 (λ r k h. goes_on c.in_ok-heading.ensures (goes_on l.reads (goes_on {v = tt} (rw c.is_conjecture-conjecture.ensures at c.in_ok-at.ensures) (stops_first h)))) c.in_err-end.ensures

pub returns-clause-reads : goal.returns-clause-reads
returns-clause-reads c =
    let l = rw c.is_conjecture-conjecture.ensures at c.in_ok-literal.ensures.reads in
    record {
      literal = l.literal;
      bound = l.bound;
      middle = l.middle;
      is_literal = l.is_literal;
      reads = goes_on c.in_ok-heading.ensures (goes_on l.reads (goes_on {v = tt} (rw c.is_conjecture-conjecture.ensures at c.in_ok-at.ensures) (goes_on {v = tt} c.in_ok-end.ensures refl)));
    }
