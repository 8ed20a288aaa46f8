use Rattle.std.proofs.Common.{◌+◌, sym, ◌∙◌, arith, drop, inl, inr, IsTrue, false, eq-eqb}
use Rattle.uc_term.specs.declared.node.Node.TheVariants.{Var, App}
use Rattle.uc_kbo.specs.Runs.{table_weighing, test_by, above_by, read_by}
use Rattle.uc_kbo.proofs.Stack.{read_at, stack_var, stack_app}
use Rattle.uc_kbo.proofs.climb.is_stack.Goals as goal
use Rattle.uc_kbo.proofs.climb.is_stack.Goals.{then-n-ne1-via-then-n-ne1, then-n-ne1-via-else-n-ne1+then-weight_of-ne0}

never : IsTrue false → ⊥
never h = cc

pub returns-then-y-x : goal.returns-then-y-x
returns-then-y-x c =
    let s = stack_var (table_weighing c.args.w.now.w0 c.args.w.now.table.items) (test_by c.args.under c.args.classes.now) (above_by c.args.under c.args.classes.now) (read_by c.args.under c.args.classes.now c.args.list.now) c.args.from c.loop-at.at c.args.x c.in-Var.y (drop (c.loop-at.at + 1) (read_by c.args.under c.args.classes.now c.args.list.now)) c.loop-at.invariant.left (read_at c.args.under c.args.classes.now c.args.list.now c.loop-at.at _ c.read.result (Var c.in-Var.y) c.loop-at-test.true c.read.ensures c.in-Var.is) in
    (λ _. s.1 (inl c.if-y-x.true), λ _. eq-eqb c.in-Var.y c.args.x c.if-y-x.true)

pub returns-else-y-x : goal.returns-else-y-x
returns-else-y-x c =
    let s = stack_var (table_weighing c.args.w.now.w0 c.args.w.now.table.items) (test_by c.args.under c.args.classes.now) (above_by c.args.under c.args.classes.now) (read_by c.args.under c.args.classes.now c.args.list.now) c.args.from c.loop-at.at c.args.x c.in-Var.y (drop (c.loop-at.at + 1) (read_by c.args.under c.args.classes.now c.args.list.now)) c.loop-at.invariant.left (read_at c.args.under c.args.classes.now c.args.list.now c.loop-at.at _ c.read.result (Var c.in-Var.y) c.loop-at-test.true c.read.ensures c.in-Var.is) in
    (λ h. s.1 (inr (c.is_above.ensures.0 h)), λ k. elim (s.0 k) [ inl e ↦ absurd (c.if-y-x.false e) | inr a ↦ c.is_above.ensures.1 a ])

pub returns-then-n-ne1 : goal.returns-then-n-ne1
returns-then-n-ne1 c =
    let s = stack_app (table_weighing c.args.w.now.w0 c.args.w.now.table.items) (test_by c.args.under c.args.classes.now) (above_by c.args.under c.args.classes.now) (read_by c.args.under c.args.classes.now c.args.list.now) c.args.from c.loop-at.at c.args.x c.in-App.n c.in-App.f (drop (c.loop-at.at + 1) (read_by c.args.under c.args.classes.now c.args.list.now)) c.loop-at.invariant.left (read_at c.args.under c.args.classes.now c.args.list.now c.loop-at.at _ c.read.result (App c.in-App.f c.in-App.n) c.loop-at-test.true c.read.ensures c.in-App.is) in (
      λ h. absurd (never h),
      λ k. let d = s.0 k in absurd (elim c.then-n-ne1.branch as (λ _. ⊥) [
        | then-n-ne1-via-then-n-ne1 w ↦ w.if-n-ne1.true d.0
        | then-n-ne1-via-else-n-ne1+then-weight_of-ne0 w ↦ w.if-weight_of-ne0.true (w.weight_of.ensures ∙ d.1)
      ]),
    )

pub loop-at-preserved : goal.loop-at-preserved
loop-at-preserved c =
    let s = stack_app (table_weighing c.args.w.now.w0 c.args.w.now.table.items) (test_by c.args.under c.args.classes.now) (above_by c.args.under c.args.classes.now) (read_by c.args.under c.args.classes.now c.args.list.now) c.args.from c.loop-at.at c.args.x c.in-App.n c.in-App.f (drop (c.loop-at.at + 1) (read_by c.args.under c.args.classes.now c.args.list.now)) c.loop-at.invariant.left (read_at c.args.under c.args.classes.now c.args.list.now c.loop-at.at _ c.read.result (App c.in-App.f c.in-App.n) c.loop-at-test.true c.read.ensures c.in-App.is) in
    record {
      within = omega arith;
      left = (λ h. (s.0 h).2, λ k. s.1 (c.if-n-ne1.false, sym c.weight_of.ensures ∙ c.if-weight_of-ne0.false, k));
    }
