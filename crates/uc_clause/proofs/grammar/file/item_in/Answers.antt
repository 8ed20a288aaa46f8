use Rattle.std.proofs.Common.{refl}
use Rattle.uc_clause.specs.declared.grammar.item.Opening.TheVariants.{OpensClause, OpensInclude, OpensNothing}
use Rattle.uc_clause.specs.Rules.{read, stop}
use Rattle.uc_clause.specs.Parse.{formula, inclusion}
use Rattle.uc_clause.specs.Items as items
use Rattle.uc_clause.proofs.Sequences.{exits_err}
use Rattle.uc_clause.proofs.Gathered.{opening_is}
use Rattle.uc_clause.proofs.grammar.file.item_in.Goals as goal

pub returns-in_err-clause-in-OpensClause-clause-stops : goal.returns-in_err-clause-in-OpensClause-clause-stops
returns-in_err-clause-in-OpensClause-clause-stops c = exits_err (items.cnf c.args.bytes.now c.args.tokens.now c.args.from) (items.Item c.args.bytes.now c.args.tokens.now c.args.from) _ _ c.from_residual.ensures.1 (λ why k h. items.is_clause {outcome = stop why k} (opening_is c.args.bytes.now c.args.tokens.now c.args.from c.terminal_at.result c.spelling_at.result.now c.opening_of.result OpensClause c.terminal_at.ensures c.spelling_at.ensures c.opening_of.ensures c.in-OpensClause.is) h) c.in_err-clause-in-OpensClause.ensures.stops

pub returns-in_err-inclusion-in-OpensInclude-clause-stops : goal.returns-in_err-inclusion-in-OpensInclude-clause-stops
returns-in_err-inclusion-in-OpensInclude-clause-stops c = exits_err (items.include c.args.bytes.now c.args.tokens.now c.args.from) (items.Item c.args.bytes.now c.args.tokens.now c.args.from) _ _ c.from_residual-in_err-inclusion-in-OpensInclude.ensures.1 (λ why k h. items.is_include {outcome = stop why k} (opening_is c.args.bytes.now c.args.tokens.now c.args.from c.terminal_at.result c.spelling_at.result.now c.opening_of.result OpensInclude c.terminal_at.ensures c.spelling_at.ensures c.opening_of.ensures c.in-OpensInclude.is) h) c.in_err-inclusion-in-OpensInclude.ensures

pub returns-in_ok-clause-in-OpensClause-clause-reads : goal.returns-in_ok-clause-in-OpensClause-clause-reads
returns-in_ok-clause-in-OpensClause-clause-reads c =
    let r = c.in_ok-clause-in-OpensClause.ensures.reads in
    record {
      entry = formula r.parse;
      reads = items.is_clause {outcome = read r.parse c.in_ok-clause-in-OpensClause.end} (opening_is c.args.bytes.now c.args.tokens.now c.args.from c.terminal_at.result c.spelling_at.result.now c.opening_of.result OpensClause c.terminal_at.ensures c.spelling_at.ensures c.opening_of.ensures c.in-OpensClause.is) r.reads;
      means = r.means;
    }

pub returns-in_ok-include-in-OpensInclude-clause-reads : goal.returns-in_ok-include-in-OpensInclude-clause-reads
returns-in_ok-include-in-OpensInclude-clause-reads c = record {
  entry = inclusion c.in_ok-inclusion-in-OpensInclude.inclusion;
  reads = items.is_include {outcome = read c.in_ok-inclusion-in-OpensInclude.inclusion c.in_ok-inclusion-in-OpensInclude.end} (opening_is c.args.bytes.now c.args.tokens.now c.args.from c.terminal_at.result c.spelling_at.result.now c.opening_of.result OpensInclude c.terminal_at.ensures c.spelling_at.ensures c.opening_of.ensures c.in-OpensInclude.is) c.in_ok-inclusion-in-OpensInclude.ensures;
  means = c.in_ok-include-in-OpensInclude.ensures;
}

pub returns-in-OpensNothing-clause-stops : goal.returns-in-OpensNothing-clause-stops
returns-in-OpensNothing-clause-stops c = items.is_no_item (opening_is c.args.bytes.now c.args.tokens.now c.args.from c.terminal_at.result c.spelling_at.result.now c.opening_of.result OpensNothing c.terminal_at.ensures c.spelling_at.ensures c.opening_of.ensures c.in-OpensNothing.is)

pub returns-in_ok-clause-in-OpensClause-clause-interns : goal.returns-in_ok-clause-in-OpensClause-clause-interns
returns-in_ok-clause-in-OpensClause-clause-interns c =
    let r = c.in_ok-clause-in-OpensClause.ensures.interns in
    record {
      parse = formula r.parse;
      reads = items.is_clause {outcome = read r.parse c.in_ok-clause-in-OpensClause.end} (opening_is c.args.bytes.now c.args.tokens.now c.args.from c.terminal_at.result c.spelling_at.result.now c.opening_of.result OpensClause c.terminal_at.ensures c.spelling_at.ensures c.opening_of.ensures c.in-OpensClause.is) r.reads;
      new_is = r.new_is;
    }

pub returns-in_ok-include-in-OpensInclude-clause-interns : goal.returns-in_ok-include-in-OpensInclude-clause-interns
returns-in_ok-include-in-OpensInclude-clause-interns c = record {
  parse = inclusion c.in_ok-inclusion-in-OpensInclude.inclusion;
  reads = items.is_include {outcome = read c.in_ok-inclusion-in-OpensInclude.inclusion c.in_ok-inclusion-in-OpensInclude.end} (opening_is c.args.bytes.now c.args.tokens.now c.args.from c.terminal_at.result c.spelling_at.result.now c.opening_of.result OpensInclude c.terminal_at.ensures c.spelling_at.ensures c.opening_of.ensures c.in-OpensInclude.is) c.in_ok-inclusion-in-OpensInclude.ensures;
  new_is = refl;
}
