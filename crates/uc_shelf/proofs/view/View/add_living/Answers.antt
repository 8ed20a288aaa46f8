use Rattle.std.proofs.Common.{◌≡◌, ◌∙◌, ◌∷◌, [], ◌++◌, List, true, false, length, refl, sym, ap, append-nil}
use Rattle.uc_fact.specs.declared.index.Found.{Found}
use Rattle.uc_shelf.specs.Entries.{is_dead}
use Rattle.uc_shelf.specs.Viewing.{found_living}
use Rattle.uc_shelf.proofs.Alive.{living_kept, living_past}
use Rattle.uc_shelf.proofs.view.View.add_living.Goals as goal

empty : (xs : List Found) → length xs ≡ 0 → xs ≡ []
empty [] e = refl
empty (x ∷ xs) e = absurd cc

pub loop-one-init : goal.loop-one-init
loop-one-init c =
    let e : c.into_iter-one-iterator.result.rest.items ≡ c.args.found = c.into_iter-one-iterator.ensures.into_iter_gives.0 ∙ c.into_vec-one-items.ensures in
    (tt, tt, ap (λ z. c.args.list.now.items ++ found_living c.args.self.now z) e)

pub loop-one-preserved-in-Continue-1 : goal.loop-one-preserved-in-Continue-1
loop-one-preserved-in-Continue-1 c =
    let x = c.in-Some.one in
    let rest = c.next.new.self.rest.items in
    let alive : is_dead c.args.self.now x.fact ≡ false = ap (λ z. is_dead z x.fact) (sym c.self.view_is) ∙ sym c.is_dead.ensures ∙ c.if-not-is_dead.true in
    (tt, tt, living_kept c.args.self.now x c.loop-one.list.items rest c.push.new.self.items alive c.in_ok-push.ensures.items ∙ ap (λ z. c.loop-one.list.items ++ found_living c.args.self.now z) (sym c.in-Some.ensures.steps.0) ∙ c.loop-one.invariant.2)

pub loop-one-preserved : goal.loop-one-preserved
loop-one-preserved c =
    let x = c.in-Some.one in
    let rest = c.next.new.self.rest.items in
    let dead : is_dead c.args.self.now x.fact ≡ true = ap (λ z. is_dead z x.fact) (sym c.self.view_is) ∙ sym c.is_dead.ensures ∙ c.if-not-is_dead.false in
    (tt, tt, living_past c.args.self.now x c.loop-one.list.items rest dead ∙ ap (λ z. c.loop-one.list.items ++ found_living c.args.self.now z) (sym c.in-Some.ensures.steps.0) ∙ c.loop-one.invariant.2)

pub returns : goal.returns
returns c =
    let none : c.loop-one.one-iterator.rest.items ≡ [] = empty c.loop-one.one-iterator.rest.items (sym c.loop-one.one-iterator.rest.ok.0 ∙ c.in-None.ensures.steps.0) in
    sym (append-nil c.loop-one.list.items) ∙ ap (λ z. c.loop-one.list.items ++ found_living c.args.self.now z) (sym none) ∙ c.loop-one.invariant.2
