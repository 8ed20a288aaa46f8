use Rattle.std.proofs.Common.{arith}
use Rattle.uc_fof.proofs.FullArgs.{goes_first, goes_last, goes_next, full_within, only_memory}
use Rattle.uc_fof.proofs.terms.last_comma.Goals as goal

pub overflow_add-at : goal.overflow_add-at
overflow_add-at c = omega (arith, full_within c.args.bytes.now c.args.tokens.now c.requires.full.2)

pub arguments-init : goal.arguments-init
arguments-init c = goes_first c.args.bytes.now c.args.tokens.now c.args.functor c.requires.full

pub memory_of-requires : goal.memory_of-requires
memory_of-requires c = only_memory c.args.bytes.now c.args.tokens.now c.in-Err.stop c.arguments.invariant.rest c.in-Err.ensures.stops

pub returns-then-number-ge-MAX_ARITY-clause-found : goal.returns-then-number-ge-MAX_ARITY-clause-found
returns-then-number-ge-MAX_ARITY-clause-found c = goes_last c.args.bytes.now c.args.tokens.now c.args.functor c.arguments.number c.arguments.at c.in-Ok.end c.in-Ok.ensures.reads.parse c.in-Ok.ensures.reads.reads c.if-number-ge-MAX_ARITY.true c.arguments.invariant

pub arguments-preserved : goal.arguments-preserved
arguments-preserved c = goes_next c.args.bytes.now c.args.tokens.now c.args.functor c.arguments.number c.arguments.at c.in-Ok.end c.in-Ok.ensures.reads.parse c.in-Ok.ensures.reads.reads c.if-number-ge-MAX_ARITY.false c.arguments.invariant

pub overflow_add-at-in-arguments : goal.overflow_add-at-in-arguments
overflow_add-at-in-arguments c =
    let g = goes_next c.args.bytes.now c.args.tokens.now c.args.functor c.arguments.number c.arguments.at c.in-Ok.end c.in-Ok.ensures.reads.parse c.in-Ok.ensures.reads.reads c.if-number-ge-MAX_ARITY.false c.arguments.invariant in
    omega (arith, full_within c.args.bytes.now c.args.tokens.now g.rest)
