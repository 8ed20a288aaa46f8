use Rattle.std.proofs.Common.{◌+◌, drop, ap, if◌then◌else◌}
use Rattle.std.proofs.lemmas.List.{drop_more}
use Rattle.uc_proof.specs.Parts.{is_clause, is_encoding, axioms_where}
use Rattle.uc_proof.specs.Making.{IsAmong}
use Rattle.uc_proof.proofs.Among.{nothing_behind}
use Rattle.uc_proof.proofs.Adding.{begins, goes_on, ends, axioms_at}
use Rattle.uc_proof.proofs.plan.push_axioms.Goals as goal

pub loop-number-init : goal.loop-number-init
loop-number-init c = begins (λ p. IsAmong p c.args.needed.now) (axioms_where (if c.args.clauses then is_clause else is_encoding) 0 c.args.sources.now) c.args.plan.now.items

pub loop-number-preserved : goal.loop-number-preserved
loop-number-preserved c =
    let is = if c.args.clauses then is_clause else is_encoding in
    let ss = c.args.sources.now in
    let i = c.loop-number.number in
    goes_on (λ p. IsAmong p c.args.needed.now) (axioms_where is 0 ss) c.args.plan.now.items (axioms_where is i (drop i ss)) _ (axioms_where is (i + 1) (drop (i + 1) ss)) c.loop-number.plan.items c.push_axiom.new.plan.items c.loop-number.invariant
    (axioms_at is ss i _ (drop_more ss i _ c.loop-number-test.true)) c.in_ok-push_axiom.ensures

pub returns : goal.returns
returns c =
    let is = if c.args.clauses then is_clause else is_encoding in
    let ss = c.args.sources.now in
    let i = c.loop-number.number in
    ends (λ p. IsAmong p c.args.needed.now) (axioms_where is 0 ss) c.args.plan.now.items (axioms_where is i (drop i ss)) c.loop-number.plan.items c.loop-number.invariant (ap (axioms_where is i) (nothing_behind ss i c.loop-number-test.false))
