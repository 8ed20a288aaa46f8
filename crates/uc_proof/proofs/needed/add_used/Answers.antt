use Rattle.std.proofs.Common.{◌≡◌, ℕ, ◌-◌, ◌<◌, Some, map, length, sym, ap, ◌∙◌, subst, arith}
use Rattle.std.proofs.lemmas.Option.{slice_get-get_or}
use Rattle.uc_term.proofs.Gets.{map-get}
use Rattle.uc_proof.proofs.Using.{Uses, uses_on, uses_all}
use Rattle.uc_proof.proofs.needed.add_used.Goals as goal

pub loop-number-preserved : goal.loop-number-preserved
loop-number-preserved c =
    let k = c.loop-number.number - 1 in
    let few = c.loop-number.invariant.0 in
    let some = c.loop-number-test.true in
    let fits : k < length c.args.facts.now = omega arith in (
      omega arith,
      uses_on (map (λ f. f.now) c.args.facts.now) c.requires.earlier c.args.needed.now c.loop-number.number k c.loop-number.needed c.add_if_used.new.needed c.loop-number.invariant.1 (omega arith) c.index-facts-number.result.now
          (map-get (λ f. f.now) c.args.facts.now k c.index-facts-number.result (slice_get-get_or c.args.facts.now k _ fits ∙ ap Some (sym c.index-facts-number.is)))
          c.in_ok-add_if_used.ensures,
    )

pub returns : goal.returns
returns c aimed named p =
    let none = c.loop-number-test.false in
    let e : c.loop-number.number ≡ 0 = omega arith in
    uses_all (map (λ f. f.now) c.args.facts.now) c.args.needed.now c.loop-number.needed (subst (λ (n : ℕ). Uses (map (λ f. f.now) c.args.facts.now) c.args.needed.now n c.loop-number.needed) e c.loop-number.invariant.1) aimed named p
