use Rattle.std.proofs.Common.{◌≡◌, ◌∙◌, ap, sym, subst, List, ◌+◌, ◌++◌, ◌∷◌, [], take, add-one}
use Rattle.std.proofs.Math.Seq.{take-suc}
use Rattle.uc_clause.specs.declared.clause.Sourced.{Sourced}
use Rattle.uc_table.specs.SearchForms.{AreFormsOf}
use Rattle.uc_table.proofs.SearchLayouts.{more_forms}
use Rattle.uc_table.proofs.search_layout.Layout.forms_of.Goals as goal

pub loop-sourced-preserved : goal.loop-sourced-preserved
loop-sourced-preserved c =
    let i = c.loop-sourced.sourced-index in
    let clauses = c.args.clauses.now in
    let s : Sourced = c.sourced-item.result in
    let m = more_forms c.args.symbols.now c.args.self.now.size c.args.signature.now (take i clauses) s c.loop-sourced.forms.items c.push.new.self.items c.in_ok-form_of.field-0 c.in_ok-push.ensures.items c.loop-sourced.invariant c.in_ok-form_of.ensures in
    let t : take (i + 1) clauses ≡ take i clauses ++ s ∷ [] = ap (λ k. take k clauses) (add-one i) ∙ take-suc clauses i s c.loop-sourced-test.true ∙ ap (λ z. take i clauses ++ z ∷ []) (sym c.sourced-item.is) in
    subst (λ (z : List Sourced). AreFormsOf c.args.symbols.now c.args.self.now.size c.args.signature.now z c.push.new.self.items) (sym t) m
