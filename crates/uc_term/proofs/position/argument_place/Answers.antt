use Rattle.std.proofs.Common.{inl, inr, arith}
use Rattle.uc_term.proofs.Written.{many_args, no_argument_app, argument_is}
use Rattle.uc_term.proofs.position.argument_place.Goals as goal

pub behind-requires-clause-many : goal.behind-requires-clause-many
behind-requires-clause-many c =
    let m = many_args c.args.list.now c.args.at c.in-App.arity c.in-App.field-0 _ c.requires.whole c.requires.within c.in-App.is in
    let few = c.if-number-arity.false.1 in
    omega arith

pub returns-then-number-arity : goal.returns-then-number-arity
returns-then-number-arity c =
    no_argument_app c.args.list.now c.args.at c.args.number c.in-App.arity c.in-App.field-0 _ c.requires.within c.in-App.is (elim c.if-number-arity.either [ inl z ↦ inl z | inr l ↦ inr l.1 ])

pub returns-else-number-arity : goal.returns-else-number-arity
returns-else-number-arity c =
    let test = c.if-number-arity.false in
    argument_is c.args.list.now c.args.at c.args.number c.in-App.arity c.behind.result c.in-App.field-0 _ c.requires.whole c.requires.within c.in-App.is (omega (arith, test.0)) test.1 c.behind.ensures.place c.behind.ensures.rest c.behind.ensures.in_list
