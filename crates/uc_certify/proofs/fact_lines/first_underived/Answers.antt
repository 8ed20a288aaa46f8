use Rattle.std.proofs.Common.{◌≡◌, Some, length, slice_get, refl, arith}
use Rattle.std.proofs.lemmas.Option.{slice_get_read}
use Rattle.uc_certify.proofs.FactsDerived.{derived_none, derived_next}
use Rattle.uc_certify.proofs.Lists.{of, not_of}
use Rattle.uc_certify.proofs.fact_lines.first_underived.Goals as goal

pub loop-k-init : goal.loop-k-init
loop-k-init c = derived_none c.args.numbers.now c.args.lines.now c.args.facts.now

pub loop-k-preserved : goal.loop-k-preserved
loop-k-preserved c =
    let at : slice_get c.args.facts.now c.loop-k.k ≡ Some c.index-facts-k.result = slice_get_read c.args.facts.now (length c.args.facts.now) c.loop-k.k c.index-facts-k.result refl c.loop-k-test.true c.index-facts-k.is in
    derived_next c.args.numbers.now c.args.lines.now c.args.facts.now c.loop-k.k c.index-facts-k.result at (of c.is_derived_fact.result c.if-not-is_derived_fact.false c.is_derived_fact.ensures) c.loop-k.invariant

pub returns-then-not-is_derived_fact : goal.returns-then-not-is_derived_fact
returns-then-not-is_derived_fact c =
    let at : slice_get c.args.facts.now c.loop-k.k ≡ Some c.index-facts-k.result = slice_get_read c.args.facts.now (length c.args.facts.now) c.loop-k.k c.index-facts-k.result refl c.loop-k-test.true c.index-facts-k.is in
    record { fact = c.index-facts-k.result; fact_is = at; not_derived = not_of c.is_derived_fact.result c.if-not-is_derived_fact.true c.is_derived_fact.ensures; before = c.loop-k.invariant }

pub returns : goal.returns
returns c = λ j e h at. c.loop-k.invariant j e (omega (arith, c.loop-k-test.false)) at
