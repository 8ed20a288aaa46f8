use Rattle.std.proofs.Common.{◌≡◌, List, [], ◌∷◌, ◌++◌, length, not, refl, sym, ap, ap₂, ◌∙◌, subst}
use Rattle.uc_term.specs.Tree.{Tree}
use Rattle.uc_fact.specs.declared.chain.Step.{Step}
use Rattle.uc_task.proofs.Reversing.{Back, back_starts, back_goes_on, back_whole, back_end}
use Rattle.uc_task.proofs.chains.reversed.Goals as goal

empty : (xs : List Step) → length xs ≡ 0 → xs ≡ []
empty [] e = refl
empty (x ∷ xs) e = absurd cc

pub loop-step-init : goal.loop-step-init
loop-step-init c =
    let e : c.into_iter-step-iterator.result.rest.items ≡ c.args.chain.steps = c.into_iter-step-iterator.ensures.into_iter_gives.0 ∙ c.into_vec-step-items.ensures in
    (tt, tt, subst (λ l. Back c.args.chain.start c.args.chain.steps c.args.chain.start l c.new-steps.result.items) (sym e) (back_starts c.args.chain.start c.args.chain.steps c.new-steps.result.items c.new-steps.ensures.items))

pub loop-step-preserved : goal.loop-step-preserved
loop-step-preserved c =
    let step = c.in-Some.step in
    let back : Tree → Step = λ t. record { by = step.by; left_to_right = not step.left_to_right; position = step.position; to = t } in
    let new = c.in_ok-push.ensures.items ∙ ap (λ t. c.loop-step.steps.items ++ back t ∷ []) c.replace.ensures.value in (
      tt,
      tt,
      subst (λ t. Back c.args.chain.start c.args.chain.steps t c.next.new.self.rest.items c.push.new.self.items) (sym c.replace.ensures.after)
          (back_goes_on c.args.chain.start c.args.chain.steps c.loop-step.last c.loop-step.step-iterator.rest.items c.next.new.self.rest.items step c.loop-step.steps.items c.push.new.self.items c.in-Some.ensures.steps.0 new c.loop-step.invariant.2),
    )

pub returns : goal.returns
returns c =
    let none = empty c.loop-step.step-iterator.rest.items (sym c.loop-step.step-iterator.rest.ok.0 ∙ c.in-None.ensures.steps.0) in
    ap₂ (λ x xs. record { start = x; steps = xs })
    (back_end c.args.chain.start c.args.chain.steps c.loop-step.last c.loop-step.step-iterator.rest.items c.loop-step.steps.items none c.loop-step.invariant.2)
    (c.from_vec.ensures ∙ c.reverse.ensures.items ∙ back_whole c.args.chain.start c.args.chain.steps c.loop-step.last c.loop-step.step-iterator.rest.items c.loop-step.steps.items none c.loop-step.invariant.2)
