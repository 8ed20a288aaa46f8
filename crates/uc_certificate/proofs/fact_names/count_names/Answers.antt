use Rattle.std.proofs.Common.{◌+◌, length, length-append, sym, ap, ◌∙◌, arith}
use Rattle.uc_certificate.proofs.FactsRead.{behind_words, not_empty, counted_none, counted_more, counted_all, counted_stuck, no_name}
use Rattle.uc_certificate.proofs.fact_names.count_names.Goals as goal

pub names-init : goal.names-init
names-init c = record { counted = counted_none c.args.line.now c.in_ok-rest.rest.now (behind_words c.args.line.now c.in_ok-rest.rest.now c.in_ok-rest.ensures.cases); few = omega (arith, c.in_ok-rest.ensures.cases.2) }

pub returns-then-not-is_name : goal.returns-then-not-is_name
returns-then-not-is_name c = no_name c.args.line.now c.names.rest.now c.names.count c.names.invariant.counted c.in-Some.name.now c.in-Some.behind.now c.in-Some.ensures (sym c.if-not-is_name.ensures)

pub overflow_add-count : goal.overflow_add-count
overflow_add-count c = omega (arith, c.names.invariant.few, ap length c.in-Some.ensures.is, length-append c.in-Some.name.now c.in-Some.behind.now)

pub names-preserved : goal.names-preserved
names-preserved c = record {
  counted = counted_more c.args.line.now c.names.rest.now c.names.count c.names.invariant.counted c.in-Some.name.now c.in-Some.behind.now c.in-Some.ensures (sym c.if-not-is_name.ensures);
  few = omega (arith, c.names.invariant.few, ap length c.in-Some.ensures.is, length-append c.in-Some.name.now c.in-Some.behind.now);
}

pub names-smaller : goal.names-smaller
names-smaller c = omega (arith, ap length c.in-Some.ensures.is, length-append c.in-Some.name.now c.in-Some.behind.now)

pub returns-else-is_empty : goal.returns-else-is_empty
returns-else-is_empty c = counted_stuck c.args.line.now c.names.rest.now c.names.count c.names.invariant.counted c.in_default.ensures (not_empty (length c.names.rest.now) (sym c.if-is_empty.false ∙ c.is_empty.ensures))
