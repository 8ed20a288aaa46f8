use Rattle.std.proofs.Common.{refl}
use Rattle.uc_clause.specs.declared.terminal.Terminal.TheVariants.{Dot}
use Rattle.uc_clause.specs.declared.grammar.stop.Why.TheVariants.{NoToken}
use Rattle.uc_clause.specs.Rules.{the, goes_on, stops_first}
use Rattle.uc_clause.specs.Items as items
use Rattle.uc_clause.proofs.Sequences.{exits_err}
use Rattle.uc_clause.proofs.grammar.file.formula_at.Goals as goal

pub returns-in_err-heading-clause-stops : goal.returns-in_err-heading-clause-stops
returns-in_err-heading-clause-stops c = exits_err (items.heading c.args.bytes.now c.args.tokens.now c.args.from) (items.cnf c.args.bytes.now c.args.tokens.now c.args.from) _ _ c.from_residual.ensures.1 (λ why k h. stops_first h) c.in_err-heading.ensures

pub returns-in_err-equation-clause-stops : goal.returns-in_err-equation-clause-stops
returns-in_err-equation-clause-stops c = exits_err (items.Clause c.args.bytes.now c.args.tokens.now 0 c.in_ok-heading.at) (items.cnf c.args.bytes.now c.args.tokens.now c.args.from) _ _ c.from_residual-in_err-equation.ensures.1 (λ why k h. goes_on c.in_ok-heading.ensures (stops_first h)) c.in_err-equation.ensures.stops

pub returns-in_err-at-clause-stops : goal.returns-in_err-at-clause-stops
returns-in_err-at-clause-stops c = exits_err (items.notes c.args.bytes.now c.args.tokens.now c.in_ok-equation.equation.pair.end) (items.cnf c.args.bytes.now c.args.tokens.now c.args.from) _ _ c.from_residual-in_err-at.ensures.1 (λ why k h. goes_on c.in_ok-heading.ensures (goes_on c.in_ok-equation.ensures.reads.reads (stops_first h))) c.in_err-at.ensures

pub returns-in_err-end-clause-stops : goal.returns-in_err-end-clause-stops
returns-in_err-end-clause-stops c = exits_err (the c.args.bytes.now c.args.tokens.now Dot NoToken c.in_ok-at.at) (items.cnf c.args.bytes.now c.args.tokens.now c.args.from) _ _ c.from_residual-in_err-end.ensures.1 (λ why k h. goes_on c.in_ok-heading.ensures (goes_on c.in_ok-equation.ensures.reads.reads (goes_on {v = tt} c.in_ok-at.ensures (stops_first h)))) c.in_err-end.ensures

pub returns-clause-reads : goal.returns-clause-reads
returns-clause-reads c = record {
  literal = c.in_ok-equation.ensures.reads.literal;
  reads = goes_on c.in_ok-heading.ensures (goes_on c.in_ok-equation.ensures.reads.reads (goes_on {v = tt} c.in_ok-at.ensures (goes_on {v = tt} c.in_ok-end.ensures refl)));
  positive = c.in_ok-equation.ensures.reads.positive;
  seen = c.clause_at.new.variables;
  are_sides = rw c.new-variables.ensures at c.in_ok-equation.ensures.reads.are_sides;
}

pub returns-clause-interns : goal.returns-clause-interns
returns-clause-interns c =
    let r = c.in_ok-equation.ensures.interns in
    record {
      parse = record { heading = c.in_ok-heading.heading; literal = r.parse };
      reads = goes_on c.in_ok-heading.ensures (goes_on r.reads (goes_on {v = tt} c.in_ok-at.ensures (goes_on {v = tt} c.in_ok-end.ensures refl)));
      new_is = r.new_is;
    }
