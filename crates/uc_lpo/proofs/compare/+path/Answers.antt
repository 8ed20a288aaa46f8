use Rattle.uc_lpo.proofs.Passes.{pass_exceeds, pass_reaches}
use Rattle.std.proofs.Common.{◌↔◌}
use Rattle.std.proofs.Common.{◌==◌, refl, arith, take, ◌≡◌, ℕ, ◌<◌, ◌≤◌, IsTrue, length, drop, ◌-◌, false}
use Rattle.uc_term.specs.Flat.{tree_of, trees_of}
use Rattle.uc_lpo.specs.Ranks.{rank_of}
use Rattle.uc_term.proofs.Parts.{split, head_app, head_var}
use Rattle.uc_term.proofs.Terms.{whole_one}
use Rattle.uc_lpo.specs.Higher.{higher_transitive, higher_irreflexive}
use Rattle.uc_lpo.proofs.Decide.{never_reached}
use Rattle.uc_lpo.proofs.Steps.{exceeds_put_off, exceeds_no_later, reaches_later, reaches_put_off, tail_length, tail_whole_at, answer_variables, never_below, answer_var, answer_other, answer_greater, exceeds_turn, exceeds_stop, exceeds_end, reaches_is, reaches_above, reaches_turn, reaches_end}
use Rattle.uc_order.specs.VarOrders.{representative, IsHigher}
use Rattle.uc_lpo.specs.Shown.{shown, shown_all}
use Rattle.uc_lpo.proofs.Shown.{shown_same, same_shown, shown_all_same}
use Rattle.uc_lpo.proofs.Fronts.{common_none, heads, answer_first, s_over, t_over, go_on, answer_end}
use Rattle.uc_lpo.proofs.Rests.{says_map, within_more, goes_on}
use Rattle.uc_lpo.proofs.Climbed.{climbed_init, climbed_var, climbed_app, s_enough, t_enough, s_within, t_within, s_root, t_root, later_single, level_sizes, s_exceeds, t_exceeds, climbed_up, climbed_end, alike_not_greater}
use Rattle.uc_term.specs.declared.node.Node.TheVariants.{Var}
use Rattle.uc_lpo.proofs.compare.+path.Goals as goal
use Rattle.uc_lpo.proofs.compare.+path.Goals.{reaches-then-are_alike-via-then-are_alike, reaches-then-are_alike-via-else-are_alike+then-greater, differs-then-loop-from-test+else-from-t, differs-else-loop-from-test}
use Rattle.std.proofs.lemmas.Bool.{eq-eqb, eqb-true}
use Rattle.std.proofs.Common.{ap, ◌∙◌, ◌⊎◌, inl, inr}
use Rattle.uc_term.specs.declared.node.Sym.{Sym}

never : IsTrue false → ⊥
never h = cc

not_both : (a b : ℕ) → a ≤ b → b < a → ⊥
not_both a b h k = omega arith

chain : {A B C : Type 0} → A ↔ B → B ↔ C → A ↔ C
chain p q = (λ a. q.0 (p.0 a), λ c. p.1 (q.1 c))

pub differs-around-requires : goal.differs-around-requires
differs-around-requires t c =
    let w = split c.args.s.now c.loop-from.from c.end_of-s_end.result (whole_one c.args.s.now c.requires.s_whole) c.loop-from-test.true c.end_of-s_end.ensures.end in
    let v = split c.args.t.now c.loop-from.from c.end_of-t_end.result (whole_one c.args.t.now c.requires.t_whole) c.if-from-t.true c.end_of-t_end.ensures.end in
    let l = tail_length c.args.s.now c.end_of-s_end.result in
    let m = tail_length c.args.t.now c.end_of-t_end.result in
    (omega arith, (c.requires.s_whole, (c.requires.t_whole, (c.requires.s_small, (c.requires.t_small, (tail_whole_at c.args.s.now _ (whole_one c.args.s.now c.requires.s_whole), (tail_whole_at c.args.t.now _ (whole_one c.args.t.now c.requires.t_whole), (omega arith, (omega arith, (within_more _ _ _ (omega arith) c.parts-first.ensures.smaller, (λ h. absurd (never h), (λ h. absurd (never h), (s_over c.args.ranks.now c.args.classes.now c.args.s.now c.args.t.now (heads c.args.s.now c.args.t.now c.requires.s_whole c.requires.t_whole c.requires.same_head) c.loop-from.from c.loop-from.invariant.common (Unit {0}) _ _ w v, t_over c.args.ranks.now c.args.classes.now c.args.s.now c.args.t.now (heads c.args.s.now c.args.t.now c.requires.s_whole c.requires.t_whole c.requires.same_head) c.loop-from.from c.loop-from.invariant.common (Unit {0}) _ _ w v)))))))))))))

pub differs-end_of-s_end-requires-clause-whole : goal.differs-end_of-s_end-requires-clause-whole
differs-end_of-s_end-requires-clause-whole t c =
    whole_one c.args.s.now c.requires.s_whole

pub differs-end_of-t_end-requires-clause-whole : goal.differs-end_of-t_end-requires-clause-whole
differs-end_of-t_end-requires-clause-whole t c =
    whole_one c.args.t.now c.requires.t_whole

pub differs-left_to_reach-requires : goal.differs-left_to_reach-requires
differs-left_to_reach-requires t c =
    let m = tail_length c.args.s.now c.loop-from.from in
    (omega arith, (tail_whole_at c.args.s.now _ (whole_one c.args.s.now c.requires.s_whole), (c.requires.t_whole, (omega arith, (c.requires.t_small, (c.requires.t_some, λ h. absurd (never h)))))))

pub differs-loop-from-init : goal.differs-loop-from-init
differs-loop-from-init t c =
    record { begun = omega arith; in_s = omega arith; in_t = omega arith; common = common_none _ _ }

pub differs-loop-from-preserved : goal.differs-loop-from-preserved
differs-loop-from-preserved t c =
    let w = split c.args.s.now c.loop-from.from c.end_of-s_end.result (whole_one c.args.s.now c.requires.s_whole) c.loop-from-test.true c.end_of-s_end.ensures.end in
    let v = split c.args.t.now c.loop-from.from c.end_of-t_end.result (whole_one c.args.t.now c.requires.t_whole) c.if-from-t.true c.end_of-t_end.ensures.end in
    let g = go_on c.args.ranks.now c.args.classes.now c.args.s.now c.args.t.now (heads c.args.s.now c.args.t.now c.requires.s_whole c.requires.t_whole c.requires.same_head) c.loop-from.from c.loop-from.invariant.common (Unit {0}) c.end_of-s_end.result c.end_of-t_end.result w v (c.if-not-are_alike.ensures.0 refl) in
    record { begun = omega arith; in_s = c.end_of-s_end.ensures.in_list; in_t = g.0; common = g.1 }

pub differs-loop-from-smaller : goal.differs-loop-from-smaller
differs-loop-from-smaller t c =
    let w = split c.args.s.now c.loop-from.from c.end_of-s_end.result (whole_one c.args.s.now c.requires.s_whole) c.loop-from-test.true c.end_of-s_end.ensures.end in
    let v = split c.args.t.now c.loop-from.from c.end_of-t_end.result (whole_one c.args.t.now c.requires.t_whole) c.if-from-t.true c.end_of-t_end.ensures.end in
    omega arith

pub differs-parts-first-requires : goal.differs-parts-first-requires
differs-parts-first-requires t c =
    let w = split c.args.s.now c.loop-from.from c.end_of-s_end.result (whole_one c.args.s.now c.requires.s_whole) c.loop-from-test.true c.end_of-s_end.ensures.end in
    let v = split c.args.t.now c.loop-from.from c.end_of-t_end.result (whole_one c.args.t.now c.requires.t_whole) c.if-from-t.true c.end_of-t_end.ensures.end in
    (omega arith, (w.whole, (v.whole, (omega arith, (omega arith, (w.some.0, v.some.0))))))

pub differs-returns-clause-says : goal.differs-returns-clause-says
differs-returns-clause-says t c =
    let over = elim c.loop-from-test.branch as (λ _. (length c.args.s.now ≤ c.loop-from.from) ⊎ (length c.args.t.now ≤ c.loop-from.from)) [
      | differs-then-loop-from-test+else-from-t w ↦ inr w.if-from-t.false
      | differs-else-loop-from-test w ↦ inl w.loop-from-test.false
    ] in
    let d = answer_end c.args.ranks.now c.args.classes.now c.args.s.now c.args.t.now (heads c.args.s.now c.args.t.now c.requires.s_whole c.requires.t_whole c.requires.same_head) c.loop-from.from c.loop-from.invariant.common _ over (λ k. k, λ k. k) in
    says_map c.args.ranks.now c.args.classes.now _ _ _ d c.left_to_reach.ensures.says

pub differs-returns-then-not-are_alike-clause-says : goal.differs-returns-then-not-are_alike-clause-says
differs-returns-then-not-are_alike-clause-says t c =
    let w = split c.args.s.now c.loop-from.from c.end_of-s_end.result (whole_one c.args.s.now c.requires.s_whole) c.loop-from-test.true c.end_of-s_end.ensures.end in
    let v = split c.args.t.now c.loop-from.from c.end_of-t_end.result (whole_one c.args.t.now c.requires.t_whole) c.if-from-t.true c.end_of-t_end.ensures.end in
    let ne = λ (e : shown (representative c.args.classes.now) (tree_of (take (c.end_of-s_end.result - c.loop-from.from) (drop c.loop-from.from c.args.s.now))) ≡ shown (representative c.args.classes.now) (tree_of (take (c.end_of-t_end.result - c.loop-from.from) (drop c.loop-from.from c.args.t.now)))). never (c.if-not-are_alike.ensures.1 (same_shown (representative c.args.classes.now) _ _ w.whole v.whole e)) in
    answer_first c.args.ranks.now c.args.classes.now c.args.s.now c.args.t.now (heads c.args.s.now c.args.t.now c.requires.s_whole c.requires.t_whole c.requires.same_head) c.loop-from.from c.loop-from.invariant.common (Unit {0}) _ _ w v _ _ ne c.parts-first.ensures.says c.around.ensures.goes

pub exceeds-greater-requires : goal.exceeds-greater-requires
exceeds-greater-requires t c =
    let w = split c.args.ts.now c.loop-from.from c.end_of-end.result c.requires.ts_whole c.loop-from-test.true c.end_of-end.ensures.end in
    (omega arith, (c.requires.s_whole, (w.whole, (c.requires.s_small, (omega arith, (c.requires.s_some, w.some.0))))))

pub exceeds-loop-from-preserved : goal.exceeds-loop-from-preserved
exceeds-loop-from-preserved t c =
    let w = split c.args.ts.now c.loop-from.from c.end_of-end.result c.requires.ts_whole c.loop-from-test.true c.end_of-end.ensures.end in
    record { within = c.end_of-end.ensures.in_list; left = exceeds_turn c.args.ranks.now c.args.classes.now _ c.args.ts.now c.loop-from.from c.end_of-end.result c.loop-from.invariant.left w (c.if-not-greater.ensures.0 refl) }

pub exceeds-loop-from-preserved-then-is_lower : goal.exceeds-loop-from-preserved-then-is_lower
exceeds-loop-from-preserved-then-is_lower t c =
    let i = c.loop-from.invariant in
    record { within = omega arith; left = chain i.left (pass_exceeds c.args.ranks.now c.args.classes.now c.args.s.now c.args.ts.now c.loop-from.from _ _ c.requires.s_whole c.requires.s_some c.loop-from-test.true (c.if-is_lower.ensures.0 refl)) }

pub exceeds-loop-from-smaller : goal.exceeds-loop-from-smaller
exceeds-loop-from-smaller t c =
    let w = split c.args.ts.now c.loop-from.from c.end_of-end.result c.requires.ts_whole c.loop-from-test.true c.end_of-end.ensures.end in
    omega arith

pub exceeds-returns : goal.exceeds-returns
exceeds-returns t c =
    (λ _. exceeds_end c.args.ranks.now c.args.classes.now _ c.args.ts.now c.loop-from.from 0 c.loop-from.invariant.left c.loop-from-test.false, λ _. refl)

pub exceeds-returns-then-not-greater : goal.exceeds-returns-then-not-greater
exceeds-returns-then-not-greater t c =
    let w = split c.args.ts.now c.loop-from.from c.end_of-end.result c.requires.ts_whole c.loop-from-test.true c.end_of-end.ensures.end in
    (λ h. absurd (never h), λ h. c.if-not-greater.ensures.1 (exceeds_stop c.args.ranks.now c.args.classes.now _ c.args.ts.now c.loop-from.from c.end_of-end.result c.loop-from.invariant.left w h))

pub left_to_exceed-exceeds-requires : goal.left_to_exceed-exceeds-requires
left_to_exceed-exceeds-requires t c =
    let w = split c.args.ts.now c.loop-from.from c.end_among-end.result c.requires.ts_whole c.loop-from-test.true c.end_among-end.ensures.end in
    let m = tail_length c.args.ts.now c.end_among-end.result in
    (omega arith, (c.requires.s_whole, (tail_whole_at c.args.ts.now _ c.requires.ts_whole, (c.requires.s_small, (omega arith, c.requires.s_some)))))

pub left_to_exceed-greater-requires : goal.left_to_exceed-greater-requires
left_to_exceed-greater-requires t c =
    let w = split c.args.ts.now c.loop-from.from c.end_among-end.result c.requires.ts_whole c.loop-from-test.true c.end_among-end.ensures.end in
    (omega arith, (c.requires.s_whole, (w.whole, (c.requires.s_small, (omega arith, (c.requires.s_some, w.some.0))))))

pub left_to_exceed-loop-from-preserved : goal.left_to_exceed-loop-from-preserved
left_to_exceed-loop-from-preserved t c =
    let w = split c.args.ts.now c.loop-from.from c.end_among-end.result c.requires.ts_whole c.loop-from-test.true c.end_among-end.ensures.end in
    record { within = c.end_among-end.ensures.in_list; left = exceeds_turn c.args.ranks.now c.args.classes.now _ c.args.ts.now c.loop-from.from c.end_among-end.result c.loop-from.invariant.left w (c.if-not-greater.ensures.0 refl) }

pub left_to_exceed-loop-from-preserved-then-is_lower : goal.left_to_exceed-loop-from-preserved-then-is_lower
left_to_exceed-loop-from-preserved-then-is_lower t c =
    let i = c.loop-from.invariant in
    record { within = omega arith; left = chain i.left (pass_exceeds c.args.ranks.now c.args.classes.now c.args.s.now c.args.ts.now c.loop-from.from _ _ c.requires.s_whole c.requires.s_some c.loop-from-test.true (c.if-is_lower.ensures.0 refl)) }

pub left_to_exceed-loop-from-smaller : goal.left_to_exceed-loop-from-smaller
left_to_exceed-loop-from-smaller t c =
    let w = split c.args.ts.now c.loop-from.from c.end_among-end.result c.requires.ts_whole c.loop-from-test.true c.end_among-end.ensures.end in
    omega arith

pub left_to_exceed-returns-clause-says : goal.left_to_exceed-returns-clause-says
left_to_exceed-returns-clause-says t c =
    (λ _. exceeds_end c.args.ranks.now c.args.classes.now _ c.args.ts.now c.loop-from.from 0 c.loop-from.invariant.left c.loop-from-test.false, λ _. refl)

pub left_to_exceed-returns-else-exceeds-clause-says : goal.left_to_exceed-returns-else-exceeds-clause-says
left_to_exceed-returns-else-exceeds-clause-says t c =
    let w = split c.args.ts.now c.loop-from.from c.end_among-end.result c.requires.ts_whole c.loop-from-test.true c.end_among-end.ensures.end in
    (λ h. absurd (never h), λ h. absurd (exceeds_no_later c.args.ranks.now c.args.classes.now _ c.args.ts.now c.loop-from.from c.end_among-end.result c.loop-from.invariant.left w (λ k. never (c.if-exceeds.ensures.1 k)) h))

pub left_to_exceed-returns-then-exceeds-clause-says : goal.left_to_exceed-returns-then-exceeds-clause-says
left_to_exceed-returns-then-exceeds-clause-says t c =
    let w = split c.args.ts.now c.loop-from.from c.end_among-end.result c.requires.ts_whole c.loop-from-test.true c.end_among-end.ensures.end in
    exceeds_put_off c.args.ranks.now c.args.classes.now _ c.args.ts.now c.loop-from.from c.end_among-end.result c.loop-from.invariant.left w (c.if-exceeds.ensures.0 refl)

pub left_to_exceed-returns-then-exceeds-clause-smaller : goal.left_to_exceed-returns-then-exceeds-clause-smaller
left_to_exceed-returns-then-exceeds-clause-smaller t c =
    let w = split c.args.ts.now c.loop-from.from c.end_among-end.result c.requires.ts_whole c.loop-from-test.true c.end_among-end.ensures.end in
    (c.requires.s_whole, w.whole, c.requires.s_some, w.some.0, c.requires.s_small, omega arith, omega arith)

pub left_to_exceed-returns-then-not-greater-clause-says : goal.left_to_exceed-returns-then-not-greater-clause-says
left_to_exceed-returns-then-not-greater-clause-says t c =
    let w = split c.args.ts.now c.loop-from.from c.end_among-end.result c.requires.ts_whole c.loop-from-test.true c.end_among-end.ensures.end in
    (λ h. absurd (never h), λ h. c.if-not-greater.ensures.1 (exceeds_stop c.args.ranks.now c.args.classes.now _ c.args.ts.now c.loop-from.from c.end_among-end.result c.loop-from.invariant.left w h))

pub left_to_reach-greater-requires : goal.left_to_reach-greater-requires
left_to_reach-greater-requires t c =
    let w = split c.args.ss.now c.loop-from.from c.end_among-end.result c.requires.ss_whole c.loop-from-test.true c.end_among-end.ensures.end in
    (omega arith, (w.whole, (c.requires.t_whole, (omega arith, (c.requires.t_small, (w.some.0, c.requires.t_some))))))

pub left_to_reach-loop-from-preserved : goal.left_to_reach-loop-from-preserved
left_to_reach-loop-from-preserved t c =
    let w = split c.args.ss.now c.loop-from.from c.end_among-end.result c.requires.ss_whole c.loop-from-test.true c.end_among-end.ensures.end in
    let ne = λ (e : shown (representative c.args.classes.now) (tree_of (take (c.end_among-end.result - c.loop-from.from) (drop c.loop-from.from c.args.ss.now))) ≡ shown (representative c.args.classes.now) (tree_of c.args.t.now)). never (c.if-are_alike.ensures.1 (same_shown (representative c.args.classes.now) _ _ w.whole c.requires.t_whole e)) in
    record { within = c.end_among-end.ensures.in_list; left = reaches_turn c.args.ranks.now c.args.classes.now _ c.args.ss.now c.loop-from.from c.end_among-end.result c.loop-from.invariant.left w ne (λ l. never (c.if-greater.ensures.1 l)) }

pub left_to_reach-loop-from-preserved-then-is_passed : goal.left_to_reach-loop-from-preserved-then-is_passed
left_to_reach-loop-from-preserved-then-is_passed t c =
    let i = c.loop-from.invariant in
    record { within = omega arith; left = chain i.left (pass_reaches c.args.ranks.now c.args.classes.now c.args.t.now c.args.ss.now c.loop-from.from _ _ c.requires.t_whole c.requires.t_some c.loop-from-test.true (c.if-is_passed.ensures.0 refl)) }

pub left_to_reach-loop-from-smaller : goal.left_to_reach-loop-from-smaller
left_to_reach-loop-from-smaller t c =
    let w = split c.args.ss.now c.loop-from.from c.end_among-end.result c.requires.ss_whole c.loop-from-test.true c.end_among-end.ensures.end in
    omega arith

pub left_to_reach-reaches-requires : goal.left_to_reach-reaches-requires
left_to_reach-reaches-requires t c =
    let w = split c.args.ss.now c.loop-from.from c.end_among-end.result c.requires.ss_whole c.loop-from-test.true c.end_among-end.ensures.end in
    let m = tail_length c.args.ss.now c.end_among-end.result in
    (omega arith, (tail_whole_at c.args.ss.now _ c.requires.ss_whole, (c.requires.t_whole, (omega arith, (c.requires.t_small, c.requires.t_some)))))

pub left_to_reach-returns-clause-says : goal.left_to_reach-returns-clause-says
left_to_reach-returns-clause-says t c =
    (λ h. absurd (never h), λ h. absurd (reaches_end c.args.ranks.now c.args.classes.now _ c.args.ss.now c.loop-from.from 0 c.loop-from.invariant.left c.loop-from-test.false h))

pub left_to_reach-returns-else-reaches-clause-says : goal.left_to_reach-returns-else-reaches-clause-says
left_to_reach-returns-else-reaches-clause-says t c =
    let w = split c.args.ss.now c.loop-from.from c.end_among-end.result c.requires.ss_whole c.loop-from-test.true c.end_among-end.ensures.end in
    let ne = λ (e : shown (representative c.args.classes.now) (tree_of (take (c.end_among-end.result - c.loop-from.from) (drop c.loop-from.from c.args.ss.now))) ≡ shown (representative c.args.classes.now) (tree_of c.args.t.now)). never (c.if-are_alike.ensures.1 (same_shown (representative c.args.classes.now) _ _ w.whole c.requires.t_whole e)) in
    reaches_put_off c.args.ranks.now c.args.classes.now _ c.args.ss.now c.loop-from.from c.end_among-end.result c.loop-from.invariant.left w ne (λ k. never (c.if-reaches.ensures.1 k))

pub left_to_reach-returns-else-reaches-clause-smaller : goal.left_to_reach-returns-else-reaches-clause-smaller
left_to_reach-returns-else-reaches-clause-smaller t c =
    let w = split c.args.ss.now c.loop-from.from c.end_among-end.result c.requires.ss_whole c.loop-from-test.true c.end_among-end.ensures.end in
    (w.whole, c.requires.t_whole, w.some.0, c.requires.t_some, omega arith, c.requires.t_small, omega arith)

pub left_to_reach-returns-then-are_alike-clause-says : goal.left_to_reach-returns-then-are_alike-clause-says
left_to_reach-returns-then-are_alike-clause-says t c =
    let w = split c.args.ss.now c.loop-from.from c.end_among-end.result c.requires.ss_whole c.loop-from-test.true c.end_among-end.ensures.end in
    (λ _. reaches_is c.args.ranks.now c.args.classes.now _ c.args.ss.now c.loop-from.from c.end_among-end.result c.loop-from.invariant.left w (shown_same (representative c.args.classes.now) _ _ w.whole c.requires.t_whole (c.if-are_alike.ensures.0 refl)), λ _. refl)

pub left_to_reach-returns-then-greater-clause-says : goal.left_to_reach-returns-then-greater-clause-says
left_to_reach-returns-then-greater-clause-says t c =
    let w = split c.args.ss.now c.loop-from.from c.end_among-end.result c.requires.ss_whole c.loop-from-test.true c.end_among-end.ensures.end in
    (λ _. reaches_above c.args.ranks.now c.args.classes.now _ c.args.ss.now c.loop-from.from c.end_among-end.result c.loop-from.invariant.left w (c.if-greater.ensures.0 refl), λ _. refl)

pub left_to_reach-returns-then-reaches-clause-says : goal.left_to_reach-returns-then-reaches-clause-says
left_to_reach-returns-then-reaches-clause-says t c =
    let w = split c.args.ss.now c.loop-from.from c.end_among-end.result c.requires.ss_whole c.loop-from-test.true c.end_among-end.ensures.end in
    (λ _. reaches_later c.args.ranks.now c.args.classes.now _ c.args.ss.now c.loop-from.from c.end_among-end.result c.loop-from.invariant.left w (c.if-reaches.ensures.0 refl), λ _. refl)

pub reaches-greater-requires : goal.reaches-greater-requires
reaches-greater-requires t c =
    let w = split c.args.ss.now c.loop-from.from c.end_of-end.result c.requires.ss_whole c.loop-from-test.true c.end_of-end.ensures.end in
    (omega arith, (w.whole, (c.requires.t_whole, (omega arith, (c.requires.t_small, (w.some.0, c.requires.t_some))))))

pub reaches-loop-from-preserved : goal.reaches-loop-from-preserved
reaches-loop-from-preserved t c =
    let w = split c.args.ss.now c.loop-from.from c.end_of-end.result c.requires.ss_whole c.loop-from-test.true c.end_of-end.ensures.end in
    let ne = λ (e : shown (representative c.args.classes.now) (tree_of (take (c.end_of-end.result - c.loop-from.from) (drop c.loop-from.from c.args.ss.now))) ≡ shown (representative c.args.classes.now) (tree_of c.args.t.now)). never (c.if-are_alike.ensures.1 (same_shown (representative c.args.classes.now) _ _ w.whole c.requires.t_whole e)) in
    record { within = c.end_of-end.ensures.in_list; left = reaches_turn c.args.ranks.now c.args.classes.now _ c.args.ss.now c.loop-from.from c.end_of-end.result c.loop-from.invariant.left w ne (λ l. never (c.if-greater.ensures.1 l)) }

pub reaches-loop-from-preserved-then-is_passed : goal.reaches-loop-from-preserved-then-is_passed
reaches-loop-from-preserved-then-is_passed t c =
    let i = c.loop-from.invariant in
    record { within = omega arith; left = chain i.left (pass_reaches c.args.ranks.now c.args.classes.now c.args.t.now c.args.ss.now c.loop-from.from _ _ c.requires.t_whole c.requires.t_some c.loop-from-test.true (c.if-is_passed.ensures.0 refl)) }

pub reaches-loop-from-smaller : goal.reaches-loop-from-smaller
reaches-loop-from-smaller t c =
    let w = split c.args.ss.now c.loop-from.from c.end_of-end.result c.requires.ss_whole c.loop-from-test.true c.end_of-end.ensures.end in
    omega arith

pub reaches-returns : goal.reaches-returns
reaches-returns t c =
    (λ h. absurd (never h), λ h. absurd (reaches_end c.args.ranks.now c.args.classes.now _ c.args.ss.now c.loop-from.from 0 c.loop-from.invariant.left c.loop-from-test.false h))

pub reaches-returns-then-are_alike : goal.reaches-returns-then-are_alike
reaches-returns-then-are_alike t c =
    let w = split c.args.ss.now c.loop-from.from c.end_of-end.result c.requires.ss_whole c.loop-from-test.true c.end_of-end.ensures.end in (
      λ _. elim c.then-are_alike.branch [
        | reaches-then-are_alike-via-then-are_alike v ↦ reaches_is c.args.ranks.now c.args.classes.now _ c.args.ss.now c.loop-from.from c.end_of-end.result c.loop-from.invariant.left w (shown_same (representative c.args.classes.now) _ _ w.whole c.requires.t_whole (c.are_alike.ensures.0 v.if-are_alike.true))
        | reaches-then-are_alike-via-else-are_alike+then-greater v ↦ reaches_above c.args.ranks.now c.args.classes.now _ c.args.ss.now c.loop-from.from c.end_of-end.result c.loop-from.invariant.left w (v.greater.ensures.0 v.if-greater.true)
      ],
      λ _. refl,
    )

pub step-left_to_exceed-requires : goal.step-left_to_exceed-requires
step-left_to_exceed-requires t c =
    let n = tail_length c.args.s.now 1 in let m = tail_length c.args.t.now 1 in
    (omega arith, (c.requires.s_whole, (tail_whole_at c.args.t.now 1 (whole_one c.args.t.now c.requires.t_whole), (c.requires.s_small, (omega arith, (c.requires.s_some, λ h. absurd (never h)))))))

pub step-left_to_reach-requires : goal.step-left_to_reach-requires
step-left_to_reach-requires t c =
    let n = tail_length c.args.s.now 1 in let m = tail_length c.args.t.now 1 in
    (omega arith, (tail_whole_at c.args.s.now 1 (whole_one c.args.s.now c.requires.s_whole), (c.requires.t_whole, (omega arith, (c.requires.t_small, (c.requires.t_some, λ h. absurd (never h)))))))

pub step-left_to_reach-requires-else-rank : goal.step-left_to_reach-requires-else-rank
step-left_to_reach-requires-else-rank t c =
    let n = tail_length c.args.s.now 1 in let m = tail_length c.args.t.now 1 in
    (omega arith, (tail_whole_at c.args.s.now 1 (whole_one c.args.s.now c.requires.s_whole), (c.requires.t_whole, (omega arith, (c.requires.t_small, (c.requires.t_some, λ h. absurd (never h)))))))

pub step-returns-else-rank-clause-says : goal.step-returns-else-rank-clause-says
step-returns-else-rank-clause-says t c =
    let head = head_app c.args.s.now _ _ _ c.in-App.is c.requires.s_some c.requires.s_whole in
    let ne = λ (e : c.in-App.f ≡ c.in-App-t-2.g). never (c.if-eq.ensures ∙ eq-eqb c.in-App.f.0 c.in-App-t-2.g.0 (ap (λ (x : Sym). x.0) e)) in
    let n = λ (r : rank_of c.args.ranks.now c.in-App-t-2.g < rank_of c.args.ranks.now c.in-App.f). not_both _ _ c.if-rank.false (rw (c.rank.ensures, c.rank-else-eq.ensures) r) in
    let d = answer_other c.args.ranks.now c.args.classes.now _ c.args.s.now c.args.t.now head _ _ (head_app c.args.t.now _ _ _ c.in-App-t-2.is c.requires.t_some c.requires.t_whole) ne n (λ k. k, λ k. k) in
    says_map c.args.ranks.now c.args.classes.now _ _ _ d c.left_to_reach-else-rank.ensures.says

pub step-returns-in-App-t-clause-says : goal.step-returns-in-App-t-clause-says
step-returns-in-App-t-clause-says t c = (λ h. absurd (never h), λ l. absurd (never_below c.args.ranks.now c.args.classes.now c.args.s.now c.args.t.now c.in-Var.x _ _ (head_var c.args.s.now _ _ c.in-Var.is c.requires.s_some) (head_app c.args.t.now _ _ _ c.in-App-t.is c.requires.t_some c.requires.t_whole) l))

pub step-returns-in-Var-t-2-clause-says : goal.step-returns-in-Var-t-2-clause-says
step-returns-in-Var-t-2-clause-says t c =
    let head = head_app c.args.s.now _ _ _ c.in-App.is c.requires.s_some c.requires.s_whole in
    let d = answer_var c.args.ranks.now c.args.classes.now _ c.args.s.now c.args.t.now head _ _ (head_var c.args.t.now _ _ c.in-Var-t-2.is c.requires.t_some) (λ k. k, λ k. k) in
    says_map c.args.ranks.now c.args.classes.now _ _ _ d c.left_to_reach.ensures.says

pub step-returns-in-Var-t-clause-says : goal.step-returns-in-Var-t-clause-says
step-returns-in-Var-t-clause-says t c = answer_variables c.args.ranks.now c.args.classes.now c.args.s.now c.args.t.now c.in-Var.x c.in-Var-t.y _ (head_var c.args.s.now _ _ c.in-Var.is c.requires.s_some) (head_var c.args.t.now _ _ c.in-Var-t.is c.requires.t_some) c.is_above.ensures

pub step-returns-then-rank-clause-says : goal.step-returns-then-rank-clause-says
step-returns-then-rank-clause-says t c =
    let head = head_app c.args.s.now _ _ _ c.in-App.is c.requires.s_some c.requires.s_whole in
    let d = answer_greater c.args.ranks.now c.args.classes.now _ c.args.s.now c.args.t.now head _ _ (head_app c.args.t.now _ _ _ c.in-App-t-2.is c.requires.t_some c.requires.t_whole) (rw (← c.rank.ensures, ← c.rank-else-eq.ensures) c.if-rank.true) (λ k. k, λ k. k) in
    says_map c.args.ranks.now c.args.classes.now _ _ _ d c.left_to_exceed.ensures.says

pub climb-end_of-s_to-requires-clause-whole : goal.climb-end_of-s_to-requires-clause-whole
climb-end_of-s_to-requires-clause-whole t c = whole_one c.args.s.now c.requires.s_whole

pub climb-end_of-t_to-requires-clause-whole : goal.climb-end_of-t_to-requires-clause-whole
climb-end_of-t_to-requires-clause-whole t c = whole_one c.args.t.now c.requires.t_whole

pub climb-parts-rest-requires : goal.climb-parts-rest-requires
climb-parts-rest-requires t c =
    let w = split c.args.s.now c.args.at c.end_of-s_to.result (whole_one c.args.s.now c.requires.s_whole) c.requires.in_s c.end_of-s_to.ensures.end in
    let v = split c.args.t.now c.args.at c.end_of-t_to.result (whole_one c.args.t.now c.requires.t_whole) c.requires.in_t c.end_of-t_to.ensures.end in
    let some = c.requires.below_root in
    (omega arith, (w.whole, (v.whole, (omega arith, (omega arith, (w.some.0, v.some.0))))))

pub climb-loop-from-init : goal.climb-loop-from-init
climb-loop-from-init t c = climbed_init c.args.ranks.now c.args.classes.now c.args.s.now c.args.t.now c.args.at c.end_of-s_to.result c.end_of-t_to.result c.parts-rest.result c.requires.s_whole c.requires.t_whole c.requires.below_root c.requires.in_s c.requires.in_t (c.requires.differ (Var 0)) c.end_of-s_to.ensures.end c.end_of-t_to.ensures.end c.parts-rest.ensures.says c.parts-rest.ensures.smaller

pub climb-loop-from-preserved-in-Var : goal.climb-loop-from-preserved-in-Var
climb-loop-from-preserved-in-Var t c = climbed_var c.args.ranks.now c.args.classes.now c.args.s.now c.args.t.now c.args.at c.loop-from.part c.loop-from.from c.loop-from.done c.loop-from.s_to c.loop-from.t_to c.loop-from.rest c.loop-from.invariant c.requires.s_whole c.requires.t_whole c.requires.common c.requires.in_s c.requires.in_t (c.loop-from.from - 1) (omega arith) c.in-Var.field-0 _ c.in-Var.is

pub climb-loop-from-preserved-then-arity-done : goal.climb-loop-from-preserved-then-arity-done
climb-loop-from-preserved-then-arity-done t c = climbed_app c.args.ranks.now c.args.classes.now c.args.s.now c.args.t.now c.args.at c.loop-from.part c.loop-from.from c.loop-from.done c.loop-from.s_to c.loop-from.t_to c.loop-from.rest c.loop-from.invariant c.requires.s_whole c.requires.t_whole c.requires.common c.requires.in_s c.requires.in_t (c.loop-from.from - 1) (omega arith) c.in-App.field-0 c.in-App.n _ c.in-App.is c.if-arity-done.true

pub climb-end_of_level-s_end-requires-clause-whole : goal.climb-end_of_level-s_end-requires-clause-whole
climb-end_of_level-s_end-requires-clause-whole t c = whole_one c.args.s.now c.requires.s_whole

pub climb-end_of_level-s_end-requires-clause-enough : goal.climb-end_of_level-s_end-requires-clause-enough
climb-end_of_level-s_end-requires-clause-enough t c = s_enough c.args.ranks.now c.args.classes.now c.args.s.now c.args.t.now c.args.at c.loop-from.part c.loop-from.from c.loop-from.done c.loop-from.s_to c.loop-from.t_to c.loop-from.rest c.loop-from.invariant c.requires.s_whole c.requires.t_whole c.requires.common c.requires.in_s c.requires.in_t (c.loop-from.from - 1) (omega arith) c.in-App.field-0 c.in-App.n _ c.in-App.is c.if-arity-done.false

pub climb-end_of_level-s_end-requires-clause-within : goal.climb-end_of_level-s_end-requires-clause-within
climb-end_of_level-s_end-requires-clause-within t c = s_within c.args.ranks.now c.args.classes.now c.args.s.now c.args.t.now c.args.at c.loop-from.part c.loop-from.from c.loop-from.done c.loop-from.s_to c.loop-from.t_to c.loop-from.rest c.loop-from.invariant c.requires.s_whole c.requires.t_whole c.requires.common c.requires.in_s c.requires.in_t (c.loop-from.from - 1) (omega arith)

pub climb-end_of_level-s_end-requires-clause-root : goal.climb-end_of_level-s_end-requires-clause-root
climb-end_of_level-s_end-requires-clause-root t c = s_root c.args.ranks.now c.args.classes.now c.args.s.now c.args.t.now c.args.at c.loop-from.part c.loop-from.from c.loop-from.done c.loop-from.s_to c.loop-from.t_to c.loop-from.rest c.loop-from.invariant c.requires.s_whole c.requires.t_whole c.requires.common c.requires.in_s c.requires.in_t (c.loop-from.from - 1) (omega arith) c.in-App.field-0 c.in-App.n _ c.in-App.is c.if-arity-done.false

pub climb-end_of_level-t_end-requires-clause-whole : goal.climb-end_of_level-t_end-requires-clause-whole
climb-end_of_level-t_end-requires-clause-whole t c = whole_one c.args.t.now c.requires.t_whole

pub climb-end_of_level-t_end-requires-clause-enough : goal.climb-end_of_level-t_end-requires-clause-enough
climb-end_of_level-t_end-requires-clause-enough t c = t_enough c.args.ranks.now c.args.classes.now c.args.s.now c.args.t.now c.args.at c.loop-from.part c.loop-from.from c.loop-from.done c.loop-from.s_to c.loop-from.t_to c.loop-from.rest c.loop-from.invariant c.requires.s_whole c.requires.t_whole c.requires.common c.requires.in_s c.requires.in_t (c.loop-from.from - 1) (omega arith) c.in-App.field-0 c.in-App.n _ c.in-App.is c.if-arity-done.false

pub climb-end_of_level-t_end-requires-clause-within : goal.climb-end_of_level-t_end-requires-clause-within
climb-end_of_level-t_end-requires-clause-within t c = t_within c.args.ranks.now c.args.classes.now c.args.s.now c.args.t.now c.args.at c.loop-from.part c.loop-from.from c.loop-from.done c.loop-from.s_to c.loop-from.t_to c.loop-from.rest c.loop-from.invariant c.requires.s_whole c.requires.t_whole c.requires.common c.requires.in_s c.requires.in_t (c.loop-from.from - 1) (omega arith)

pub climb-end_of_level-t_end-requires-clause-root : goal.climb-end_of_level-t_end-requires-clause-root
climb-end_of_level-t_end-requires-clause-root t c = t_root c.args.ranks.now c.args.classes.now c.args.s.now c.args.t.now c.args.at c.loop-from.part c.loop-from.from c.loop-from.done c.loop-from.s_to c.loop-from.t_to c.loop-from.rest c.loop-from.invariant c.requires.s_whole c.requires.t_whole c.requires.common c.requires.in_s c.requires.in_t (c.loop-from.from - 1) (omega arith) c.in-App.field-0 c.in-App.n _ c.in-App.is c.if-arity-done.false

pub around-returns-then-are_alike-clause-goes : goal.around-returns-then-are_alike-clause-goes
around-returns-then-are_alike-clause-goes t c =
    let same = shown_all_same (representative c.args.classes.now) c.args.s_later.now c.args.t_later.now (c.if-are_alike.ensures.0 refl) in
    let never_it = never_reached (rank_of c.args.ranks.now) (IsHigher c.args.classes.now) (higher_transitive c.args.classes.now) (higher_irreflexive c.args.classes.now) (shown (representative c.args.classes.now) (tree_of c.args.t.now)) (shown_all (representative c.args.classes.now) (trees_of c.args.t_later.now)) c.requires.t_over in
    goes_on c.args.ranks.now c.args.classes.now c.args.first _ _ (λ r. never_it (rw same at r)) (rw same at c.requires.s_over)

pub climb-around-rest-requires : goal.climb-around-rest-requires
climb-around-rest-requires t c =
    let z = level_sizes c.args.ranks.now c.args.classes.now c.args.s.now c.args.t.now c.args.at c.loop-from.part c.loop-from.from c.loop-from.done c.loop-from.s_to c.loop-from.t_to c.loop-from.rest c.loop-from.invariant c.requires.s_whole c.requires.t_whole c.requires.common c.requires.in_s c.requires.in_t (c.loop-from.from - 1) (omega arith) c.in-App.field-0 c.in-App.n _ c.in-App.is c.if-arity-done.false c.end_of_level-s_end.result c.end_of_level-t_end.result c.end_of_level-s_end.ensures.end c.end_of_level-t_end.ensures.end in
    let sl = z.s_long in
    let tl = z.t_long in
    let sk = z.s_later_long in
    let tk = z.t_later_long in
    let one : IsTrue (c.in-App.n - c.loop-from.done - 1 == 1) → c.in-App.n - c.loop-from.done - 1 ≡ 1 = λ h. eqb-true (c.in-App.n - c.loop-from.done - 1) 1 h in
    (omega (arith, sl, tl, z.s_inside, z.t_inside), (z.s_whole, (z.t_whole, (omega (arith, sl, z.s_inside, c.requires.s_small), (omega (arith, tl, z.t_inside, c.requires.t_small), (z.s_later, (z.t_later, (omega (arith, sl, sk, z.s_part, z.s_order), (omega (arith, tl, tk, z.t_part, z.t_order), (z.ready, (λ h. later_single c.args.s.now c.loop-from.s_to _ c.end_of_level-s_end.result (whole_one c.args.s.now c.requires.s_whole) c.end_of_level-s_end.ensures.end (s_enough c.args.ranks.now c.args.classes.now c.args.s.now c.args.t.now c.args.at c.loop-from.part c.loop-from.from c.loop-from.done c.loop-from.s_to c.loop-from.t_to c.loop-from.rest c.loop-from.invariant c.requires.s_whole c.requires.t_whole c.requires.common c.requires.in_s c.requires.in_t (c.loop-from.from - 1) (omega arith) c.in-App.field-0 c.in-App.n _ c.in-App.is c.if-arity-done.false) (one h), (λ h. later_single c.args.t.now c.loop-from.t_to _ c.end_of_level-t_end.result (whole_one c.args.t.now c.requires.t_whole) c.end_of_level-t_end.ensures.end (t_enough c.args.ranks.now c.args.classes.now c.args.s.now c.args.t.now c.args.at c.loop-from.part c.loop-from.from c.loop-from.done c.loop-from.s_to c.loop-from.t_to c.loop-from.rest c.loop-from.invariant c.requires.s_whole c.requires.t_whole c.requires.common c.requires.in_s c.requires.in_t (c.loop-from.from - 1) (omega arith) c.in-App.field-0 c.in-App.n _ c.in-App.is c.if-arity-done.false) (one h), (s_exceeds c.args.ranks.now c.args.classes.now c.args.s.now c.args.t.now c.args.at c.loop-from.part c.loop-from.from c.loop-from.done c.loop-from.s_to c.loop-from.t_to c.loop-from.rest c.loop-from.invariant c.requires.s_whole c.requires.t_whole c.requires.common c.requires.in_s c.requires.in_t (c.loop-from.from - 1) (omega arith) c.in-App.field-0 c.in-App.n _ c.in-App.is c.if-arity-done.false c.end_of_level-s_end.result c.end_of_level-t_end.result c.end_of_level-s_end.ensures.end c.end_of_level-t_end.ensures.end, t_exceeds c.args.ranks.now c.args.classes.now c.args.s.now c.args.t.now c.args.at c.loop-from.part c.loop-from.from c.loop-from.done c.loop-from.s_to c.loop-from.t_to c.loop-from.rest c.loop-from.invariant c.requires.s_whole c.requires.t_whole c.requires.common c.requires.in_s c.requires.in_t (c.loop-from.from - 1) (omega arith) c.in-App.field-0 c.in-App.n _ c.in-App.is c.if-arity-done.false c.end_of_level-s_end.result c.end_of_level-t_end.result c.end_of_level-s_end.ensures.end c.end_of_level-t_end.ensures.end)))))))))))))

pub climb-loop-from-preserved : goal.climb-loop-from-preserved
climb-loop-from-preserved t c = climbed_up c.args.ranks.now c.args.classes.now c.args.s.now c.args.t.now c.args.at c.loop-from.part c.loop-from.from c.loop-from.done c.loop-from.s_to c.loop-from.t_to c.loop-from.rest c.loop-from.invariant c.requires.s_whole c.requires.t_whole c.requires.common c.requires.in_s c.requires.in_t (c.loop-from.from - 1) (omega arith) c.in-App.field-0 c.in-App.n _ c.in-App.is c.if-arity-done.false c.end_of_level-s_end.result c.end_of_level-t_end.result c.end_of_level-s_end.ensures.end c.end_of_level-t_end.ensures.end c.around-rest.result c.around-rest.ensures.goes c.around-rest.ensures.smaller

pub climb-returns-clause-says : goal.climb-returns-clause-says
climb-returns-clause-says t c = climbed_end c.args.ranks.now c.args.classes.now c.args.s.now c.args.t.now c.args.at c.loop-from.part c.loop-from.from c.loop-from.done c.loop-from.s_to c.loop-from.t_to c.loop-from.rest c.loop-from.invariant (omega arith) c.requires.s_whole c.requires.t_whole c.requires.in_s

pub from_difference-returns-then-at-t-clause-says : goal.from_difference-returns-then-at-t-clause-says
from_difference-returns-then-at-t-clause-says t c =
    let over = elim c.if-at-t.either as (λ _. (length c.args.s.now ≤ c.first_difference-at.result) ⊎ (length c.args.t.now ≤ c.first_difference-at.result)) [ inl k ↦ inl k | inr k ↦ inr k.1 ] in
    let d = c.first_difference-at.ensures in
    (λ h. absurd (never h), λ l. absurd (alike_not_greater c.args.ranks.now c.args.classes.now c.args.s.now c.args.t.now c.first_difference-at.result c.requires.s_whole c.requires.t_whole d.common d.in_s d.in_t over l))
