use Rattle.std.proofs.Common.{◌≡◌, ◌∙◌, ◌+◌, ◌-◌, ◌<◌, [], length, get_or, drop, bytes_eq, arith, ap}
use Rattle.std.proofs.lemmas.Grind.{common_steps}
use Rattle.std.specs.List.{list_any}
use Rattle.uc_ordering.specs.Numbers.{number_in}
use Rattle.uc_ordering.proofs.Again.{one_earlier, one_put, get_any}
use Rattle.uc_ordering.proofs.options.put_names.Goals as goal

pub loop-place-preserved : goal.loop-place-preserved
loop-place-preserved c =
    let names = c.args.names.now in
    let place = c.loop-place.place in
    let i = c.loop-place.invariant in
    let next : place - 1 + 1 ≡ place = omega (arith, c.loop-place-test.true) in
    let within : place - 1 < length names = omega (arith, i.0, c.loop-place-test.true) in
    let item : c.as_bytes.result.now ≡ get_or names (place - 1) [] = c.as_bytes.ensures ∙ c.index-names-place.is ∙ get_any names (place - 1) _ [] within in (
      omega (arith, within),
      one_put names place (place - 1) 0 c.as_bytes.result.now (number_in c.loop-place.set.map.entries) (number_in c.put.new.self.map.entries) next i.0 item i.1 c.in_ok-was.ensures.put,
      one_earlier names place (place - 1) c.in_ok-was.was' c.loop-place.again c.earlier-again.result next i.0 (c.in_ok-was.ensures.was ∙ i.1 c.as_bytes.result.now ∙ ap (λ n. list_any (bytes_eq n) (drop place names)) item) c.earlier-again.ensures i.2,
    )

pub returns-in_ok-copy-in-Some-clause-err : goal.returns-in_ok-copy-in-Some-clause-err
returns-in_ok-copy-in-Some-clause-err c = grind (arith, common_steps)

pub returns-in-None-clause-ok : goal.returns-in-None-clause-ok
returns-in-None-clause-ok c = grind (arith, common_steps)

pub returns-in-None-clause-once : goal.returns-in-None-clause-once
returns-in-None-clause-once c = grind (arith, common_steps)
