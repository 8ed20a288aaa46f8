use Rattle.std.proofs.Common.{◌-◌, ◌+◌, ap, ◌∙◌, arith, subst}
use Rattle.uc_fact.specs.declared.fact.Stop.TheVariants.{Full, Size}
use Rattle.uc_fact.specs.Chains.{last_term}
use Rattle.uc_rewrite.specs.declared.normal.Next.TheVariants.{Made as IsMade, Irreducible, TooLarge}
use Rattle.uc_rewrite.specs.Normalising.{IsNormalOf}
use Rattle.uc_rewrite.specs.Ends.{IsLast, normal_by}
use Rattle.uc_rewrite.proofs.Chaining.{made_more, walks_on, ends_full, ends_large, ends_last, next_of, given, variables_on}
use Rattle.uc_rewrite.proofs.normal.normalise_by.Goals as goal

pub returns-in-Irreducible : goal.returns-in-Irreducible
returns-in-Irreducible g c = given c.ended.result (normal_by c.args.term.now c.loop.steps.items Full) (IsNormalOf (g.C.Comparison.greater c.args.comparison.now) (g.C.Comparison.constant c.args.comparison.now) (g.I.Index.live c.args.index.now) c.args.limit c.args.term.now) c.ended.ensures (ends_full (g.C.Comparison.greater c.args.comparison.now) (g.C.Comparison.constant c.args.comparison.now) (g.I.Index.live c.args.index.now) c.args.limit c.args.term.now c.loop.steps.items (c.args.limit - c.loop.counter) c.loop.invariant.made (next_of (g.C.Comparison.greater c.args.comparison.now) (g.C.Comparison.constant c.args.comparison.now) (g.I.Index.live c.args.index.now) c.last_term.result.now (last_term c.args.term.now c.loop.steps.items) c.next_step.new.walk.opened.items c.next_step.new.walk.place c.in_ok-step.field-0 Irreducible (c.last_term.ensures ∙ ap (last_term c.args.term.now) c.as_slice.ensures.value) c.in-Irreducible.is c.in_ok-step.ensures.next))

pub returns-in-TooLarge : goal.returns-in-TooLarge
returns-in-TooLarge g c = given c.ended-in-TooLarge.result (normal_by c.args.term.now c.loop.steps.items Size) (IsNormalOf (g.C.Comparison.greater c.args.comparison.now) (g.C.Comparison.constant c.args.comparison.now) (g.I.Index.live c.args.index.now) c.args.limit c.args.term.now) c.ended-in-TooLarge.ensures (ends_large (g.C.Comparison.greater c.args.comparison.now) (g.C.Comparison.constant c.args.comparison.now) (g.I.Index.live c.args.index.now) c.args.limit c.args.term.now c.loop.steps.items (c.args.limit - c.loop.counter) (let h = c.loop-test.true in omega arith) c.loop.invariant.made (next_of (g.C.Comparison.greater c.args.comparison.now) (g.C.Comparison.constant c.args.comparison.now) (g.I.Index.live c.args.index.now) c.last_term.result.now (last_term c.args.term.now c.loop.steps.items) c.next_step.new.walk.opened.items c.next_step.new.walk.place c.in_ok-step.field-0 TooLarge (c.last_term.ensures ∙ ap (last_term c.args.term.now) c.as_slice.ensures.value) c.in-TooLarge.is c.in_ok-step.ensures.next))

pub loop-preserved : goal.loop-preserved
loop-preserved g c =
    let s = (next_of (g.C.Comparison.greater c.args.comparison.now) (g.C.Comparison.constant c.args.comparison.now) (g.I.Index.live c.args.index.now) c.last_term.result.now (last_term c.args.term.now c.loop.steps.items) c.next_step.new.walk.opened.items c.next_step.new.walk.place c.in_ok-step.field-0 (IsMade c.in-Made.step) (c.last_term.ensures ∙ ap (last_term c.args.term.now) c.as_slice.ensures.value) c.in-Made.is c.in_ok-step.ensures.next) in
    rw c.in_ok-push-in-Made.ensures.items (record {
      known = variables_on (g.C.Comparison.greater c.args.comparison.now) (g.C.Comparison.constant c.args.comparison.now) (g.I.Index.live c.args.index.now) c.args.limit c.args.term.now (g.C.Comparison.knows c.args.comparison.now) c.loop.steps.items c.in-Made.step c.next_step.new.walk.opened.items c.next_step.new.walk.place s c.loop.invariant.known;
      made = made_more (g.C.Comparison.greater c.args.comparison.now) (g.C.Comparison.constant c.args.comparison.now) (g.I.Index.live c.args.index.now) c.args.limit c.args.term.now c.loop.steps.items (c.args.limit - c.loop.counter) (c.args.limit - (c.loop.counter + 1)) c.in-Made.step c.next_step.new.walk.opened.items c.next_step.new.walk.place (let h = c.loop-test.true in omega arith) c.loop.invariant.made s;
      walks = walks_on (g.C.Comparison.greater c.args.comparison.now) (g.C.Comparison.constant c.args.comparison.now) (g.I.Index.live c.args.index.now) c.args.limit c.args.term.now c.loop.steps.items c.in-Made.step c.next_step.new.walk.opened.items c.next_step.new.walk.place s;
      kept = c.in_ok-step.ensures.kept;
    })

pub returns : goal.returns
returns g c = given c.ended-2.result (normal_by c.args.term.now c.loop.steps.items c.in_ok-stop.stop) (IsNormalOf (g.C.Comparison.greater c.args.comparison.now) (g.C.Comparison.constant c.args.comparison.now) (g.I.Index.live c.args.index.now) c.args.limit c.args.term.now) c.ended-2.ensures (ends_last (g.C.Comparison.greater c.args.comparison.now) (g.C.Comparison.constant c.args.comparison.now) (g.I.Index.live c.args.index.now) c.args.limit c.args.term.now c.loop.steps.items (c.args.limit - c.loop.counter) c.in_ok-stop.stop (let h = c.loop-test.false in omega arith) c.loop.invariant.made (subst (λ z. IsLast (g.C.Comparison.greater c.args.comparison.now) (g.C.Comparison.constant c.args.comparison.now) (g.I.Index.live c.args.index.now) z c.in_ok-stop.stop) (c.last_term-last.ensures ∙ ap (last_term c.args.term.now) c.as_slice-2.ensures.value) c.in_ok-stop.ensures))
