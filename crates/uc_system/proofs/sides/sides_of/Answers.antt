use Rattle.std.proofs.Common.{arith}
use Rattle.uc_clause.specs.declared.terminal.Terminal.TheVariants as terminal
use Rattle.uc_clause.proofs.Ends.{some_other}
use Rattle.uc_system.specs.Passing.{state_of}
use Rattle.uc_system.proofs.SidesRead.{has_symbols, no_left, no_sign, no_right, joined_of, equal_or_end}
use Rattle.uc_system.proofs.sides.sides_of.Goals as goal

pub returns-in_default : goal.returns-in_default
returns-in_default c = no_left c.args.symbols.now c.args.known.now.keys c.requires.known c.args.text.now c.args.tokens.now c.requires.tokens (rw c.in_default.is at c.in_ok-left.ensures.ends)

pub returns-then-not-stands_at : goal.returns-then-not-stands_at
returns-then-not-stands_at c =
    let ends = rw c.in-Some.is at c.in_ok-left.ensures.ends in
    no_sign c.args.symbols.now c.args.known.now.keys c.requires.known c.args.text.now c.args.tokens.now c.requires.tokens (state_of c.in-Some.left) ends.0 ends.1 c.if-not-stands_at.ensures

pub over-requires-2-clause-known : goal.over-requires-2-clause-known
over-requires-2-clause-known c = has_symbols c.args.symbols.now c.args.known.now.keys c.requires.known

pub over-requires-2-clause-within : goal.over-requires-2-clause-within
over-requires-2-clause-within c = omega (arith, some_other c.args.text.now c.args.tokens.now c.in-Some.left.at terminal.Equal c.if-not-stands_at.ensures equal_or_end)

pub returns-in_default-2 : goal.returns-in_default-2
returns-in_default-2 c =
    let ends = rw c.in-Some.is at c.in_ok-left.ensures.ends in
    no_right c.args.symbols.now c.args.known.now.keys c.requires.known c.args.text.now c.args.tokens.now c.requires.tokens (state_of c.in-Some.left) ends.0 ends.1 (rw c.in_default-2.is at c.in_ok-right.ensures.ends)

pub returns : goal.returns
returns c =
    let ends = rw c.in-Some.is at c.in_ok-left.ensures.ends in
    let later = rw c.in-Some-2.is at c.in_ok-right.ensures.ends in
    let near = rw c.in-Some-2.is at c.in_ok-right.ensures.near in
    joined_of c.args.symbols.now c.args.known.now.keys c.requires.known c.args.text.now c.args.tokens.now c.requires.tokens c.in-Some.left c.in-Some-2.right ends later (omega (arith, near.0, near.1, c.requires.few)) c.joined.result c.joined.ensures
