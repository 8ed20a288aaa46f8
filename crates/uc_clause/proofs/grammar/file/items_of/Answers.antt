use Rattle.std.proofs.lemmas.Result.{err_from_is_err_and}
use Rattle.uc_clause.specs.Items.{Items}
use Rattle.uc_clause.proofs.Whole.{refused_tokens, refused_stop}
use Rattle.uc_clause.proofs.grammar.file.items_of.Goals as goal

pub returns-in_err-list-clause-answer : goal.returns-in_err-list-clause-answer
returns-in_err-list-clause-answer c =
    let p = err_from_is_err_and c.from_residual.result c.from_residual.ensures.1 in
    rw (p.1, p.2) (refused_tokens Items c.args.bytes.now c.in_err-list.field-0.0 c.in_err-list.ensures.refused)

pub returns-in-Ok-clause-answer : goal.returns-in-Ok-clause-answer
returns-in-Ok-clause-answer c = record {
  tokens = c.as_slice.result.now;
  are_tokens = rw c.as_slice.ensures c.in_ok-list.ensures.tokens;
  parse = c.in-Ok.ensures.reads.entries;
  end = c.in-Ok.ensures.reads.end;
  reads = c.in-Ok.ensures.reads.reads;
  means = c.in-Ok.ensures.reads.means;
}

pub returns-clause-answer : goal.returns-clause-answer
returns-clause-answer c =
    refused_stop Items c.args.bytes.now c.in_ok-list.list c.in-Err.stop c.refusal.result c.in_ok-list.ensures.tokens (rw c.as_slice.ensures at c.in-Err.ensures.stops) (rw c.as_slice-in-Err.ensures at c.refusal.ensures)

pub returns-in-Ok-clause-interns : goal.returns-in-Ok-clause-interns
returns-in-Ok-clause-interns c = record {
  tokens = c.as_slice.result.now;
  are_tokens = rw c.as_slice.ensures c.in_ok-list.ensures.tokens;
  parse = c.in-Ok.ensures.interns.1.parse;
  end = c.in-Ok.ensures.interns.0;
  reads = c.in-Ok.ensures.interns.1.reads;
  new_is = c.in-Ok.ensures.interns.1.new_is;
}
