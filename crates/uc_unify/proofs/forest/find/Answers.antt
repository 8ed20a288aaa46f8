use Rattle.std.proofs.Common.{◌≡◌, ◌≢◌, ◌∙◌, ◌<◌, length, ℕ, set, List, get_or, arith, ap, refl}
use Rattle.std.proofs.lemmas.List.{get_or_default, length-set}
use Rattle.uc_unify.specs.Forest.{AreSameTrees, IsLabelling, parent}
use Rattle.uc_unify.proofs.Linking.{halved, above_less, above_label, parent_less}
use Rattle.uc_unify.proofs.forest.find.Goals as goal

record Next (old now new : List ℕ) (root above start : ℕ) : Type 0 where
  within : above < length new
  same : AreSameTrees old new
  label : (label : ℕ → ℕ) → IsLabelling old label → label above ≡ label start

next : (old now new : List ℕ) (root start seen up above : ℕ) → root < length now → (s : AreSameTrees old now) → ((label : ℕ → ℕ) → IsLabelling old label → label root ≡ label start) → seen ≡ get_or now root seen → seen ≢ root → up ≡ get_or now root up → above ≡ get_or now up above → new ≡ set now root above → Next old now new root above start
next old now new root start seen up above h s k seen_is n up_is is e =
    let inside : root < length old = let l = s.long in omega arith in
    let up_at : up ≡ parent now root = up_is ∙ get_or_default now root up 0 h in
    let below : parent now root ≢ root = λ q. n (seen_is ∙ get_or_default now root seen 0 h ∙ q) in
    let smaller = parent_less old now s root inside below in
    let above_at : above ≡ parent now (parent now root) = is ∙ get_or_default now up above 0 (omega arith) ∙ ap (parent now) up_at in
    let less = above_less old now s root inside below in
    record {
      within = omega (arith, ap length e, length-set now root above);
      same = halved old now s root inside below new (e ∙ ap (set now root) above_at);
      label = λ label l. ap label above_at ∙ above_label old now s root inside below label l ∙ k label l;
    }

pub loop-root-preserved : goal.loop-root-preserved
loop-root-preserved c =
    let r = next c.args.parents.now.items c.loop-root.parents.items (set c.loop-root.parents.items c.loop-root.root c.index-above.result.now) c.loop-root.root c.args.place c.index.result.now c.index-in-loop-root.result.now c.index-above.result.now c.loop-root.invariant.within c.loop-root.invariant.same c.loop-root.invariant.label c.index.ensures c.loop-root-test.true c.index-in-loop-root.ensures c.index-above.ensures refl in
    record { within = r.within; same = r.same; label = r.label }
