use Rattle.std.proofs.Common.{arith, inl, inr}
use Rattle.uc_clause.proofs.PieceLemmas.{plain_at, escape_at, lone_escape, bad_escape}
use Rattle.uc_clause.proofs.quotes.piece_at.Goals as goal

pub returns-then-text-eq1 : goal.returns-then-text-eq1
returns-then-text-eq1 c = lone_escape c.args.quote c.args.text.now c.requires.quote c.if-text-eq1.true c.if-b-eq92.true

pub returns-then-c-eq92 : goal.returns-then-c-eq92
returns-then-c-eq92 c = escape_at c.args.quote c.args.text.now c.requires.quote (omega arith) c.if-b-eq92.true (inl c.if-c-eq92.true)

pub returns-then-c-quote : goal.returns-then-c-quote
returns-then-c-quote c = escape_at c.args.quote c.args.text.now c.requires.quote (omega arith) c.if-b-eq92.true (inr c.if-c-quote.true)

pub returns-then-b-eq92 : goal.returns-then-b-eq92
returns-then-b-eq92 c = bad_escape c.args.quote c.args.text.now c.requires.quote (omega arith) c.if-b-eq92.true c.if-c-eq92.false c.if-c-quote.false

pub returns : goal.returns
returns c = plain_at c.args.quote c.args.text.now c.requires.some c.if-b-quote.false c.if-b-eq92.false (omega arith) (omega arith)
