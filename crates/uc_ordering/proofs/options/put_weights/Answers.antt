use Rattle.std.proofs.Common.{◌≡◌, ◌∙◌, ◌+◌, ◌-◌, ◌<◌, ◌≤◌, ℕ, List, [], length, get_or, drop, map, is_some, bytes_eq, arith, ap, sym}
use Rattle.std.proofs.lemmas.Grind.{common_steps}
use Rattle.std.specs.List.{list_any}
use Rattle.std.proofs.lemmas.List.{length-map}
use Rattle.uc_ordering.specs.Numbers.{number_in}
use Rattle.uc_ordering.proofs.Steps.{map-drop, map-get_or}
use Rattle.uc_ordering.proofs.Again.{one_earlier, weight_put, given_names, get_any}
use Rattle.uc_ordering.proofs.options.put_weights.Goals as goal

pub loop-place-preserved : goal.loop-place-preserved
loop-place-preserved c =
    let weights : List (List ℕ × ℕ) = c.args.weights.now in
    let names : List (List ℕ) = map (λ (p : List ℕ × ℕ). p.0) weights in
    let place = c.loop-place.place in
    let i = c.loop-place.invariant in
    let d : List ℕ × ℕ = ([], 0) in
    let next : place - 1 + 1 ≡ place = omega (arith, c.loop-place-test.true) in
    let within : place - 1 < length weights = omega (arith, i.0, c.loop-place-test.true) in
    let long : length names ≡ length weights = length-map weights (λ (p : List ℕ × ℕ). p.0) in
    let inside : place ≤ length names = omega (arith, i.0, long) in
    let item : c.as_bytes.result.now ≡ (get_or weights (place - 1) d).0 = c.as_bytes.ensures ∙ ap (λ (p : List ℕ × ℕ). p.0) (get_any weights (place - 1) c.index-weights-place.result d within) in
    let number : ℕ = (get_or weights (place - 1) c.index-weights-place-in-loop-place.result).1 in
    let weight : number ≡ (get_or weights (place - 1) d).1 = ap (λ (p : List ℕ × ℕ). p.1) (get_any weights (place - 1) c.index-weights-place-in-loop-place.result d within) in
    let name : c.as_bytes.result.now ≡ get_or names (place - 1) [] = item ∙ sym (map-get_or (λ (p : List ℕ × ℕ). p.0) weights (place - 1) d [] within) in (
      omega (arith, within),
      weight_put weights place (place - 1) number c.as_bytes.result.now d (number_in c.loop-place.given.map.entries) (number_in c.put.new.self.map.entries) next i.0 item weight i.1 c.in_ok-was.ensures.put,
      one_earlier names place (place - 1) c.in_ok-was.was' c.loop-place.again c.earlier-again.result next inside (c.in_ok-was.ensures.was ∙ ap is_some (i.1 c.as_bytes.result.now) ∙ given_names (drop place weights) c.as_bytes.result.now ∙ ap (list_any (bytes_eq c.as_bytes.result.now)) (map-drop (λ (p : List ℕ × ℕ). p.0) weights place) ∙ ap (λ n. list_any (bytes_eq n) (drop place names)) name) c.earlier-again.ensures i.2,
    )

pub returns-in_ok-copy-in-Some-clause-err : goal.returns-in_ok-copy-in-Some-clause-err
returns-in_ok-copy-in-Some-clause-err c = grind (arith, common_steps)

pub returns-in-None-clause-ok : goal.returns-in-None-clause-ok
returns-in-None-clause-ok c = grind (arith, common_steps)

pub returns-in-None-clause-once : goal.returns-in-None-clause-once
returns-in-None-clause-once c = grind (arith, common_steps)
