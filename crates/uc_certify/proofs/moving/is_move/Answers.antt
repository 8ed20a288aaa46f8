use Rattle.std.proofs.Common.{◌≡◌, Some, true, false, length, slice_get, refl, subst, List, ℕ}
use Rattle.std.proofs.lemmas.Option.{slice_get_read}
use Rattle.uc_order.specs.Laws.{HasSym}
use Rattle.uc_term.specs.Positions.{IsPlaceOf}
use Rattle.uc_certify.proofs.Descending.{over_only}
use Rattle.uc_certify.proofs.Lists.{of, not_of, never, same_test}
use Rattle.uc_certify.proofs.MovesTested.{not_known, move_of, falls_of}
use Rattle.uc_certify.proofs.moving.is_move.Goals as goal

pub returns-then-not-is_known : goal.returns-then-not-is_known
returns-then-not-is_known g c = never (not_known (g.C.Comparison.meaning c.args.comparison.now) c.args.rules.now.facts.now (g.C.Comparison.greater c.args.comparison.now) (g.C.Comparison.knows c.args.comparison.now) c.args.before.now c.args.step.now (not_of c.is_known.result c.if-not-is_known.true c.is_known.ensures))

pub falls_at-requires-clause-after_known : goal.falls_at-requires-clause-after_known
falls_at-requires-clause-after_known g c =
    let m = g.C.Comparison.meaning c.args.comparison.now in
    over_only (HasSym m) m.arity (g.C.Comparison.knows c.args.comparison.now) c.args.step.now.to (of c.is_known.result c.if-not-is_known.false c.is_known.ensures)

pub falls_at-requires-else-step-clause-after_known :
    goal.falls_at-requires-else-step-clause-after_known
falls_at-requires-else-step-clause-after_known g c =
    let m = g.C.Comparison.meaning c.args.comparison.now in
    over_only (HasSym m) m.arity (g.C.Comparison.knows c.args.comparison.now) c.args.step.now.to (of c.is_known.result c.if-not-is_known.false c.is_known.ensures)

pub returns-then-step : goal.returns-then-step
returns-then-step g c =
    let m = g.C.Comparison.meaning c.args.comparison.now in
    let Above = g.C.Comparison.greater c.args.comparison.now in
    let knows = g.C.Comparison.knows c.args.comparison.now in
    let at : slice_get c.args.rules.now.facts.now c.args.step.now.fact ≡ Some c.in-Some.fact.now = (slice_get_read c.args.rules.now.facts.now (length c.args.rules.now.facts.now) c.args.step.now.fact c.in-Some.fact.now refl c.in-Some.ensures.lookup.3.0 c.in-Some.ensures.lookup.1) in
    let placed : IsPlaceOf c.args.before.now c.args.step.now.path c.in-Some-pos_of.pos.0 = subst (λ (p : List ℕ). IsPlaceOf c.args.before.now p c.in-Some-pos_of.pos.0) c.as_slice.ensures c.in-Some-pos_of.ensures in
    let over = of c.is_known.result c.if-not-is_known.false c.is_known.ensures in
    same_test c.falls_at.result (move_of m c.args.rules.now.facts.now Above knows c.args.before.now c.args.step.now c.in-Some.fact.now at c.in-Some-pos_of.pos.0 placed true c.if-step.true over) (falls_of m c.args.rules.now.facts.now Above knows c.args.before.now c.args.step.now c.in-Some.fact.now at c.in-Some-pos_of.pos.0 placed true c.if-step.true) c.falls_at.ensures

pub returns-else-step : goal.returns-else-step
returns-else-step g c =
    let m = g.C.Comparison.meaning c.args.comparison.now in
    let Above = g.C.Comparison.greater c.args.comparison.now in
    let knows = g.C.Comparison.knows c.args.comparison.now in
    let at : slice_get c.args.rules.now.facts.now c.args.step.now.fact ≡ Some c.in-Some.fact.now = (slice_get_read c.args.rules.now.facts.now (length c.args.rules.now.facts.now) c.args.step.now.fact c.in-Some.fact.now refl c.in-Some.ensures.lookup.3.0 c.in-Some.ensures.lookup.1) in
    let placed : IsPlaceOf c.args.before.now c.args.step.now.path c.in-Some-pos_of.pos.0 = subst (λ (p : List ℕ). IsPlaceOf c.args.before.now p c.in-Some-pos_of.pos.0) c.as_slice.ensures c.in-Some-pos_of.ensures in
    let over = of c.is_known.result c.if-not-is_known.false c.is_known.ensures in
    same_test c.falls_at-else-step.result (move_of m c.args.rules.now.facts.now Above knows c.args.before.now c.args.step.now c.in-Some.fact.now at c.in-Some-pos_of.pos.0 placed false c.if-step.false over) (falls_of m c.args.rules.now.facts.now Above knows c.args.before.now c.args.step.now c.in-Some.fact.now at c.in-Some-pos_of.pos.0 placed false c.if-step.false) c.falls_at-else-step.ensures
