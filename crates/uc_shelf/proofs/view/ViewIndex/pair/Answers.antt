use Rattle.std.proofs.Common.{◌≡◌, Option, Some, None, MatchOption, sym, ap, ◌∙◌, subst}
use Rattle.uc_term.specs.declared.equation.Equation.{Equation}
use Rattle.uc_fact.specs.Live.{fact_at, numbered_from}
use Rattle.uc_disc.specs.Numbered.{risen}
use Rattle.uc_shelf.specs.Entries.{equations, live}
use Rattle.uc_shelf.proofs.Runs.{none_past, fact_in_run}
use Rattle.uc_shelf.proofs.Viewed.{none_if_dead}
use Rattle.uc_shelf.proofs.view.ViewIndex.pair.Goals as goal

pub returns-then-is_dead : goal.returns-then-is_dead
returns-then-is_dead c =
    let es = c.self.inside.front.now.entries in
    rw (← c.self.view_is) (none_if_dead es c.args.fact (numbered_from 0 (equations es)) (sym c.is_dead.ensures ∙ c.if-is_dead.true))

pub returns-in_err-home : goal.returns-in_err-home
returns-in_err-home c =
    let es = c.self.inside.front.now.entries in
    rw (c.from_residual.ensures, ← c.self.view_is) (none_past es c.args.fact (sym c.is_dead.ensures ∙ c.if-is_dead.false) c.in_err-home.ensures)

pub returns : goal.returns
returns c =
    let es = c.self.inside.front.now.entries in
    let s = c.in_ok-home.field-0.now in
    let i = c.in_ok-home.ensures in
    let same : fact_at (live c.args.self.now) c.args.fact ≡ fact_at (risen 0 c.tree.result.now) c.args.fact =
    ap (λ z. fact_at (live z) c.args.fact) (sym c.self.view_is) ∙ fact_in_run es s c.args.fact i.run (sym c.is_dead.ensures ∙ c.if-is_dead.false) i.from_base i.below ∙ ap (λ z. fact_at z c.args.fact) (sym c.tree.ensures) in
    subst (λ (z : Option Equation). MatchOption c.pair.result (z ≡ None) (λ sides. z ≡ Some (record { left = sides.0.now; right = sides.1.now }))) (sym same) c.pair.ensures
