use Rattle.std.proofs.Common.{rules, arith, ◌≡◌, ◌<◌, length, get_or, sym, ap, ◌∙◌}
use Rattle.std.proofs.lemmas.List.{length-set, get_or_read}
use Rattle.uc_rows.specs.declared.goals.GoalRow.{GoalRow}
use Rattle.uc_machine.specs.State.{is_continued}
use Rattle.uc_machine.specs.Effects.{wakes_stage}
use Rattle.uc_rows.proofs.GoalRows.{awake, awake-set, woken-set, woken-stage, none-set, continued-woken}
use Rattle.uc_rows.proofs.goals.Goals.wake.Goals as goal

pub loop-k-preserved : goal.loop-k-preserved
loop-k-preserved c =
    let items = c.loop-k.self-inside.rows.items in
    let k = c.loop-k.k in
    let x = c.index_mut.result.now in
    let y : GoalRow = record x { stage = c.woken.result } in
    let many : length items ≡ length c.self.inside.rows.items = c.loop-k.invariant.as_many in
    let l : k < length items = omega arith in
    let at : x ≡ get_or items k x = search (rules, c.index_mut.ensures.value) in
    let read : c.index.result.now ≡ get_or items k c.index.result.now = search (rules, c.index.ensures) in
    let one : c.index.result.now ≡ x = get_or_read items k c.index.result.now l read x ∙ sym at in
    let q : c.woken.result ≡ wakes_stage x.stage = c.woken.ensures ∙ ap (λ (r : GoalRow). wakes_stage r.stage) one in
    record {
      same = woken-set items k c.woken.result x l (λ d. get_or_read items k x l at d) q ∙ c.loop-k.invariant.same;
      awake = awake-set items k y l (woken-stage c.woken.result x.stage q) c.loop-k.invariant.awake;
      continued = none-set is_continued items k c.loop-k.self-inside.continued_from c.loop-k.self-inside.continued_from y l (omega arith) (continued-woken items k c.loop-k.self-inside.continued_from x c.woken.result l (λ d. get_or_read items k x l at d) c.loop-k.invariant.continued q) c.loop-k.invariant.continued;
      as_many = length-set items k y ∙ many;
    }

pub returns : goal.returns
returns c =
    let items = c.loop-k.self-inside.rows.items in
    let many : length items ≡ length c.self.inside.rows.items = c.loop-k.invariant.as_many in
    rw (← c.self.view_is) (sym (awake items (λ j d l. c.loop-k.invariant.awake j d (omega arith) l)) ∙ c.loop-k.invariant.same)
