use Rattle.std.proofs.Common.{◌≡◌, None}
use Rattle.uc_system.specs.Reading.{precedence_of}
use Rattle.uc_certify.specs.Certifying.{AreSameSymbols, other_symbols}
use Rattle.uc_certify.proofs.Lists.{of, not_of}
use Rattle.uc_certify.proofs.Outcome.{same_lists, other_lists, line_fails, fact_fails, joins_decide, then_decides}
use Rattle.uc_certify.proofs.checking.check_certificate.Goals as goal

pub returns-then-not-branch-clause-certified : goal.returns-then-not-branch-clause-certified
returns-then-not-branch-clause-certified g c = other_symbols (other_lists c.precedence-symbols.result.now c.as_slice-others.result.now (precedence_of c.args.certificate.now.text.spec) c.args.encoded.now.signature.symbols c.precedence-symbols.ensures c.as_slice-others.ensures (not_of c.in_ok-are_same_symbols.field-0 c.if-not-branch.true c.in_ok-are_same_symbols.ensures))

pub returns-in-Some-clause-certified : goal.returns-in-Some-clause-certified
returns-in-Some-clause-certified g c =
    let named : AreSameSymbols (precedence_of c.args.certificate.now.text.spec) c.args.encoded.now.signature.symbols = same_lists c.precedence-symbols.result.now c.as_slice-others.result.now (precedence_of c.args.certificate.now.text.spec) c.args.encoded.now.signature.symbols c.precedence-symbols.ensures c.as_slice-others.ensures (of c.in_ok-are_same_symbols.field-0 c.if-not-branch.false c.in_ok-are_same_symbols.ensures) in
    line_fails (g.O.Order.meaning c.args.order.now) c.args.clauses.now c.args.encoded.now c.args.certificate.now _ c.as_ref.ensures.value named c.in_ok-line.field-0 c.in-Some.line c.in-Some.cause c.in-Some.is c.in_ok-line.ensures

pub returns-in-Some-first_underived-clause-certified :
    goal.returns-in-Some-first_underived-clause-certified
returns-in-Some-first_underived-clause-certified g c =
    let named : AreSameSymbols (precedence_of c.args.certificate.now.text.spec) c.args.encoded.now.signature.symbols = same_lists c.precedence-symbols.result.now c.as_slice-others.result.now (precedence_of c.args.certificate.now.text.spec) c.args.encoded.now.signature.symbols c.precedence-symbols.ensures c.as_slice-others.ensures (of c.in_ok-are_same_symbols.field-0 c.if-not-branch.false c.in_ok-are_same_symbols.ensures) in
    let none : c.in_ok-line.field-0 ≡ None = c.in_default.is in
    fact_fails (g.O.Order.meaning c.args.order.now) c.args.clauses.now c.args.encoded.now c.args.certificate.now _ c.as_ref.ensures.value named c.in_ok-line.field-0 none c.in_ok-line.ensures c.as_slice-numbers.result.now c.as_slice.result.now c.as_slice-facts.result.now c.as_slice-numbers.ensures c.as_slice.ensures c.as_slice-facts.ensures c.in-Some-first_underived.fact c.in-Some-first_underived.ensures

pub returns-clause-certified : goal.returns-clause-certified
returns-clause-certified g c =
    let named : AreSameSymbols (precedence_of c.args.certificate.now.text.spec) c.args.encoded.now.signature.symbols = same_lists c.precedence-symbols.result.now c.as_slice-others.result.now (precedence_of c.args.certificate.now.text.spec) c.args.encoded.now.signature.symbols c.precedence-symbols.ensures c.as_slice-others.ensures (of c.in_ok-are_same_symbols.field-0 c.if-not-branch.false c.in_ok-are_same_symbols.ensures) in
    let none : c.in_ok-line.field-0 ≡ None = c.in_default.is in
    joins_decide (g.O.Order.meaning c.args.order.now) c.args.clauses.now c.args.encoded.now c.args.certificate.now _ c.as_ref.ensures.value named c.in_ok-line.field-0 none c.in_ok-line.ensures c.as_slice-numbers.result.now c.as_slice.result.now c.as_slice-facts.result.now c.as_slice-numbers.ensures c.as_slice.ensures c.as_slice-facts.ensures c.test_joins.result c.as_slice-axioms.result.now c.as_slice-2.result.now c.as_slice-axioms.ensures c.as_slice-2.ensures c.in_default-first_underived.ensures c.test_joins.ensures

pub returns-clause-decides : goal.returns-clause-decides
returns-clause-decides g c =
    let named : AreSameSymbols (precedence_of c.args.certificate.now.text.spec) c.args.encoded.now.signature.symbols = same_lists c.precedence-symbols.result.now c.as_slice-others.result.now (precedence_of c.args.certificate.now.text.spec) c.args.encoded.now.signature.symbols c.precedence-symbols.ensures c.as_slice-others.ensures (of c.in_ok-are_same_symbols.field-0 c.if-not-branch.false c.in_ok-are_same_symbols.ensures) in
    let none : c.in_ok-line.field-0 ≡ None = c.in_default.is in
    then_decides (g.O.Order.meaning c.args.order.now) c.args.clauses.now c.args.encoded.now c.args.certificate.now (g.met.O.Order.laws c.args.order.now) c.test_joins.result c.requires.order (joins_decide (g.O.Order.meaning c.args.order.now) c.args.clauses.now c.args.encoded.now c.args.certificate.now _ c.as_ref.ensures.value named c.in_ok-line.field-0 none c.in_ok-line.ensures c.as_slice-numbers.result.now c.as_slice.result.now c.as_slice-facts.result.now c.as_slice-numbers.ensures c.as_slice.ensures c.as_slice-facts.ensures c.test_joins.result c.as_slice-axioms.result.now c.as_slice-2.result.now c.as_slice-axioms.ensures c.as_slice-2.ensures c.in_default-first_underived.ensures c.test_joins.ensures)
