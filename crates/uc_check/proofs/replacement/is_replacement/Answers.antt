use Rattle.std.proofs.Common.{◌≡◌, true, false, List, ℕ, length, refl, subst, Some, slice_get}
use Rattle.std.proofs.lemmas.Option.{slice_get_read}
use Rattle.uc_term.specs.Positions.{IsPlaceOf}
use Rattle.uc_unify.proofs.Decided.{of, same_test}
use Rattle.uc_check.proofs.Steps.{replacement_of, replaces_of}
use Rattle.uc_check.proofs.replacement.is_replacement.Goals as goal

pub returns-then-step : goal.returns-then-step
returns-then-step c =
    let at : IsPlaceOf c.args.before.now c.args.step.now.path c.in-Some.pos.0 = subst (λ (p : List ℕ). IsPlaceOf c.args.before.now p c.in-Some.pos.0) c.as_slice.ensures c.in-Some.ensures in
    let line : slice_get c.args.lines.now c.args.step.now.by ≡ Some c.index-lines-step.result = slice_get_read c.args.lines.now (length c.args.lines.now) c.args.step.now.by c.index-lines-step.result refl c.requires c.index-lines-step.is in
    let says = of c.is_equation.result c.if-not-is_equation.false c.is_equation.ensures in
    same_test c.replaces_at.result (replacement_of c.args.lines.now c.args.before.now c.args.step.now c.index-lines-step.result line says.0 says.1 c.in-Some.pos.0 at true c.if-step.true) (replaces_of c.args.lines.now c.args.before.now c.args.step.now c.index-lines-step.result line says.0 says.1 c.in-Some.pos.0 at true c.if-step.true) c.replaces_at.ensures

pub returns-else-step : goal.returns-else-step
returns-else-step c =
    let at : IsPlaceOf c.args.before.now c.args.step.now.path c.in-Some.pos.0 = subst (λ (p : List ℕ). IsPlaceOf c.args.before.now p c.in-Some.pos.0) c.as_slice.ensures c.in-Some.ensures in
    let line : slice_get c.args.lines.now c.args.step.now.by ≡ Some c.index-lines-step.result = slice_get_read c.args.lines.now (length c.args.lines.now) c.args.step.now.by c.index-lines-step.result refl c.requires c.index-lines-step.is in
    let says = of c.is_equation.result c.if-not-is_equation.false c.is_equation.ensures in
    same_test c.replaces_at-else-step.result (replacement_of c.args.lines.now c.args.before.now c.args.step.now c.index-lines-step.result line says.0 says.1 c.in-Some.pos.0 at false c.if-step.false) (replaces_of c.args.lines.now c.args.before.now c.args.step.now c.index-lines-step.result line says.0 says.1 c.in-Some.pos.0 at false c.if-step.false) c.replaces_at-else-step.ensures
