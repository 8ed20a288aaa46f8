use Rattle.std.proofs.Common.{refl, ◌≡◌, ◌+◌, ◌↔◌, arith, IsTrue, false, drop}
use Rattle.uc_term.specs.declared.node.Node.TheVariants.{Var, App}
use Rattle.uc_order.specs.declared.order.Cmp.{Cmp}
use Rattle.uc_order.specs.declared.order.Cmp.TheVariants.{Greater, Less, Unknown}
use Rattle.uc_kbo.specs.Runs.{table_weighing, test_by, above_by, read_by}
use Rattle.uc_kbo.proofs.Stack.{read_at, over_at, stack_at}
use Rattle.uc_kbo.proofs.climb.heads.Goals as goal

never : IsTrue false → ⊥
never h = cc

both_false : {A B : Type 0} → (A → ⊥) → (B → ⊥) → A ↔ B
both_false a b = (λ x. absurd (a x), λ y. absurd (b y))

both_true : {A B : Type 0} → A → B → A ↔ B
both_true a b = (λ _. b, λ _. a)

is_not : {A B : Type 0} → (A → ⊥) → IsTrue false ↔ B → A ↔ B
is_not a h = (λ x. absurd (a x), λ y. absurd (never (h.1 y)))

unknown_greater : Unknown ≡ Greater → ⊥
unknown_greater e = cc

unknown_less : Unknown ≡ Less → ⊥
unknown_less e = cc

less_greater : Less ≡ Greater → ⊥
less_greater e = cc

greater_less : Greater ≡ Less → ⊥
greater_less e = cc

nothing : ⊥ → ⊥
nothing h = h

pub returns-in-Var-read-clause-greater : goal.returns-in-Var-read-clause-greater
returns-in-Var-read-clause-greater c = over_at (table_weighing c.args.w.now.w0 c.args.w.now.table.items) (test_by c.args.under c.args.classes.now) (above_by c.args.under c.args.classes.now) (c.variables.result ≡ Greater) (read_by c.args.under c.args.classes.now c.args.s.now) (read_by c.args.under c.args.classes.now c.args.t.now) (drop (c.args.at + 1) (read_by c.args.under c.args.classes.now c.args.s.now)) (drop (c.args.at + 1) (read_by c.args.under c.args.classes.now c.args.t.now)) c.args.at (Var c.in-Var.x) (Var c.in-Var-read.y) (read_at c.args.under c.args.classes.now c.args.s.now c.args.at _ c.read.result (Var c.in-Var.x) c.requires.in_s c.read.ensures c.in-Var.is) (read_at c.args.under c.args.classes.now c.args.t.now c.args.at _ c.read-in-Var.result (Var c.in-Var-read.y) c.requires.in_t c.read-in-Var.ensures c.in-Var-read.is) c.variables.ensures.greater

pub returns-in-Var-read-clause-less : goal.returns-in-Var-read-clause-less
returns-in-Var-read-clause-less c = over_at (table_weighing c.args.w.now.w0 c.args.w.now.table.items) (test_by c.args.under c.args.classes.now) (above_by c.args.under c.args.classes.now) (c.variables.result ≡ Less) (read_by c.args.under c.args.classes.now c.args.t.now) (read_by c.args.under c.args.classes.now c.args.s.now) (drop (c.args.at + 1) (read_by c.args.under c.args.classes.now c.args.t.now)) (drop (c.args.at + 1) (read_by c.args.under c.args.classes.now c.args.s.now)) c.args.at (Var c.in-Var-read.y) (Var c.in-Var.x) (read_at c.args.under c.args.classes.now c.args.t.now c.args.at _ c.read-in-Var.result (Var c.in-Var-read.y) c.requires.in_t c.read-in-Var.ensures c.in-Var-read.is) (read_at c.args.under c.args.classes.now c.args.s.now c.args.at _ c.read.result (Var c.in-Var.x) c.requires.in_s c.read.ensures c.in-Var.is) c.variables.ensures.less

pub returns-then-is_stack-clause-greater : goal.returns-then-is_stack-clause-greater
returns-then-is_stack-clause-greater c = over_at (table_weighing c.args.w.now.w0 c.args.w.now.table.items) (test_by c.args.under c.args.classes.now) (above_by c.args.under c.args.classes.now) (Less ≡ Greater) (read_by c.args.under c.args.classes.now c.args.s.now) (read_by c.args.under c.args.classes.now c.args.t.now) (drop (c.args.at + 1) (read_by c.args.under c.args.classes.now c.args.s.now)) (drop (c.args.at + 1) (read_by c.args.under c.args.classes.now c.args.t.now)) c.args.at (Var c.in-Var.x) (App c.in-App-read.field-0 c.in-App-read.field-1) (read_at c.args.under c.args.classes.now c.args.s.now c.args.at _ c.read.result (Var c.in-Var.x) c.requires.in_s c.read.ensures c.in-Var.is) (read_at c.args.under c.args.classes.now c.args.t.now c.args.at _ c.read-in-Var.result (App c.in-App-read.field-0 c.in-App-read.field-1) c.requires.in_t c.read-in-Var.ensures c.in-App-read.is) (both_false less_greater nothing)

pub returns-then-is_stack-clause-less : goal.returns-then-is_stack-clause-less
returns-then-is_stack-clause-less c = over_at (table_weighing c.args.w.now.w0 c.args.w.now.table.items) (test_by c.args.under c.args.classes.now) (above_by c.args.under c.args.classes.now) (◌≡◌ {A = Cmp} Less Less) (read_by c.args.under c.args.classes.now c.args.t.now) (read_by c.args.under c.args.classes.now c.args.s.now) (drop (c.args.at + 1) (read_by c.args.under c.args.classes.now c.args.t.now)) (drop (c.args.at + 1) (read_by c.args.under c.args.classes.now c.args.s.now)) c.args.at (App c.in-App-read.field-0 c.in-App-read.field-1) (Var c.in-Var.x) (read_at c.args.under c.args.classes.now c.args.t.now c.args.at _ c.read-in-Var.result (App c.in-App-read.field-0 c.in-App-read.field-1) c.requires.in_t c.read-in-Var.ensures c.in-App-read.is) (read_at c.args.under c.args.classes.now c.args.s.now c.args.at _ c.read.result (Var c.in-Var.x) c.requires.in_s c.read.ensures c.in-Var.is) (both_true refl ((stack_at (table_weighing c.args.w.now.w0 c.args.w.now.table.items) (test_by c.args.under c.args.classes.now) (above_by c.args.under c.args.classes.now) _ (read_by c.args.under c.args.classes.now c.args.t.now) (drop (c.args.at + 1) (read_by c.args.under c.args.classes.now c.args.t.now)) c.args.at c.in-Var.x (App c.in-App-read.field-0 c.in-App-read.field-1) (read_at c.args.under c.args.classes.now c.args.t.now c.args.at _ c.read-in-Var.result (App c.in-App-read.field-0 c.in-App-read.field-1) c.requires.in_t c.read-in-Var.ensures c.in-App-read.is) c.if-is_stack.ensures).0 refl))

pub returns-else-is_stack-clause-greater : goal.returns-else-is_stack-clause-greater
returns-else-is_stack-clause-greater c = over_at (table_weighing c.args.w.now.w0 c.args.w.now.table.items) (test_by c.args.under c.args.classes.now) (above_by c.args.under c.args.classes.now) (Unknown ≡ Greater) (read_by c.args.under c.args.classes.now c.args.s.now) (read_by c.args.under c.args.classes.now c.args.t.now) (drop (c.args.at + 1) (read_by c.args.under c.args.classes.now c.args.s.now)) (drop (c.args.at + 1) (read_by c.args.under c.args.classes.now c.args.t.now)) c.args.at (Var c.in-Var.x) (App c.in-App-read.field-0 c.in-App-read.field-1) (read_at c.args.under c.args.classes.now c.args.s.now c.args.at _ c.read.result (Var c.in-Var.x) c.requires.in_s c.read.ensures c.in-Var.is) (read_at c.args.under c.args.classes.now c.args.t.now c.args.at _ c.read-in-Var.result (App c.in-App-read.field-0 c.in-App-read.field-1) c.requires.in_t c.read-in-Var.ensures c.in-App-read.is) (both_false unknown_greater nothing)

pub returns-else-is_stack-clause-less : goal.returns-else-is_stack-clause-less
returns-else-is_stack-clause-less c = over_at (table_weighing c.args.w.now.w0 c.args.w.now.table.items) (test_by c.args.under c.args.classes.now) (above_by c.args.under c.args.classes.now) (Unknown ≡ Less) (read_by c.args.under c.args.classes.now c.args.t.now) (read_by c.args.under c.args.classes.now c.args.s.now) (drop (c.args.at + 1) (read_by c.args.under c.args.classes.now c.args.t.now)) (drop (c.args.at + 1) (read_by c.args.under c.args.classes.now c.args.s.now)) c.args.at (App c.in-App-read.field-0 c.in-App-read.field-1) (Var c.in-Var.x) (read_at c.args.under c.args.classes.now c.args.t.now c.args.at _ c.read-in-Var.result (App c.in-App-read.field-0 c.in-App-read.field-1) c.requires.in_t c.read-in-Var.ensures c.in-App-read.is) (read_at c.args.under c.args.classes.now c.args.s.now c.args.at _ c.read.result (Var c.in-Var.x) c.requires.in_s c.read.ensures c.in-Var.is) (is_not unknown_less (stack_at (table_weighing c.args.w.now.w0 c.args.w.now.table.items) (test_by c.args.under c.args.classes.now) (above_by c.args.under c.args.classes.now) _ (read_by c.args.under c.args.classes.now c.args.t.now) (drop (c.args.at + 1) (read_by c.args.under c.args.classes.now c.args.t.now)) c.args.at c.in-Var.x (App c.in-App-read.field-0 c.in-App-read.field-1) (read_at c.args.under c.args.classes.now c.args.t.now c.args.at _ c.read-in-Var.result (App c.in-App-read.field-0 c.in-App-read.field-1) c.requires.in_t c.read-in-Var.ensures c.in-App-read.is) c.if-is_stack.ensures))

pub returns-then-is_stack-2-clause-greater : goal.returns-then-is_stack-2-clause-greater
returns-then-is_stack-2-clause-greater c = over_at (table_weighing c.args.w.now.w0 c.args.w.now.table.items) (test_by c.args.under c.args.classes.now) (above_by c.args.under c.args.classes.now) (◌≡◌ {A = Cmp} Greater Greater) (read_by c.args.under c.args.classes.now c.args.s.now) (read_by c.args.under c.args.classes.now c.args.t.now) (drop (c.args.at + 1) (read_by c.args.under c.args.classes.now c.args.s.now)) (drop (c.args.at + 1) (read_by c.args.under c.args.classes.now c.args.t.now)) c.args.at (App c.in-App.f c.in-App.n) (Var c.in-Var-read-2.y) (read_at c.args.under c.args.classes.now c.args.s.now c.args.at _ c.read.result (App c.in-App.f c.in-App.n) c.requires.in_s c.read.ensures c.in-App.is) (read_at c.args.under c.args.classes.now c.args.t.now c.args.at _ c.read-in-App.result (Var c.in-Var-read-2.y) c.requires.in_t c.read-in-App.ensures c.in-Var-read-2.is) (both_true refl ((stack_at (table_weighing c.args.w.now.w0 c.args.w.now.table.items) (test_by c.args.under c.args.classes.now) (above_by c.args.under c.args.classes.now) _ (read_by c.args.under c.args.classes.now c.args.s.now) (drop (c.args.at + 1) (read_by c.args.under c.args.classes.now c.args.s.now)) c.args.at c.in-Var-read-2.y (App c.in-App.f c.in-App.n) (read_at c.args.under c.args.classes.now c.args.s.now c.args.at _ c.read.result (App c.in-App.f c.in-App.n) c.requires.in_s c.read.ensures c.in-App.is) c.if-is_stack-2.ensures).0 refl))

pub returns-then-is_stack-2-clause-less : goal.returns-then-is_stack-2-clause-less
returns-then-is_stack-2-clause-less c = over_at (table_weighing c.args.w.now.w0 c.args.w.now.table.items) (test_by c.args.under c.args.classes.now) (above_by c.args.under c.args.classes.now) (Greater ≡ Less) (read_by c.args.under c.args.classes.now c.args.t.now) (read_by c.args.under c.args.classes.now c.args.s.now) (drop (c.args.at + 1) (read_by c.args.under c.args.classes.now c.args.t.now)) (drop (c.args.at + 1) (read_by c.args.under c.args.classes.now c.args.s.now)) c.args.at (Var c.in-Var-read-2.y) (App c.in-App.f c.in-App.n) (read_at c.args.under c.args.classes.now c.args.t.now c.args.at _ c.read-in-App.result (Var c.in-Var-read-2.y) c.requires.in_t c.read-in-App.ensures c.in-Var-read-2.is) (read_at c.args.under c.args.classes.now c.args.s.now c.args.at _ c.read.result (App c.in-App.f c.in-App.n) c.requires.in_s c.read.ensures c.in-App.is) (both_false greater_less nothing)

pub returns-else-is_stack-2-clause-greater : goal.returns-else-is_stack-2-clause-greater
returns-else-is_stack-2-clause-greater c = over_at (table_weighing c.args.w.now.w0 c.args.w.now.table.items) (test_by c.args.under c.args.classes.now) (above_by c.args.under c.args.classes.now) (Unknown ≡ Greater) (read_by c.args.under c.args.classes.now c.args.s.now) (read_by c.args.under c.args.classes.now c.args.t.now) (drop (c.args.at + 1) (read_by c.args.under c.args.classes.now c.args.s.now)) (drop (c.args.at + 1) (read_by c.args.under c.args.classes.now c.args.t.now)) c.args.at (App c.in-App.f c.in-App.n) (Var c.in-Var-read-2.y) (read_at c.args.under c.args.classes.now c.args.s.now c.args.at _ c.read.result (App c.in-App.f c.in-App.n) c.requires.in_s c.read.ensures c.in-App.is) (read_at c.args.under c.args.classes.now c.args.t.now c.args.at _ c.read-in-App.result (Var c.in-Var-read-2.y) c.requires.in_t c.read-in-App.ensures c.in-Var-read-2.is) (is_not unknown_greater (stack_at (table_weighing c.args.w.now.w0 c.args.w.now.table.items) (test_by c.args.under c.args.classes.now) (above_by c.args.under c.args.classes.now) _ (read_by c.args.under c.args.classes.now c.args.s.now) (drop (c.args.at + 1) (read_by c.args.under c.args.classes.now c.args.s.now)) c.args.at c.in-Var-read-2.y (App c.in-App.f c.in-App.n) (read_at c.args.under c.args.classes.now c.args.s.now c.args.at _ c.read.result (App c.in-App.f c.in-App.n) c.requires.in_s c.read.ensures c.in-App.is) c.if-is_stack-2.ensures))

pub returns-else-is_stack-2-clause-less : goal.returns-else-is_stack-2-clause-less
returns-else-is_stack-2-clause-less c = over_at (table_weighing c.args.w.now.w0 c.args.w.now.table.items) (test_by c.args.under c.args.classes.now) (above_by c.args.under c.args.classes.now) (Unknown ≡ Less) (read_by c.args.under c.args.classes.now c.args.t.now) (read_by c.args.under c.args.classes.now c.args.s.now) (drop (c.args.at + 1) (read_by c.args.under c.args.classes.now c.args.t.now)) (drop (c.args.at + 1) (read_by c.args.under c.args.classes.now c.args.s.now)) c.args.at (Var c.in-Var-read-2.y) (App c.in-App.f c.in-App.n) (read_at c.args.under c.args.classes.now c.args.t.now c.args.at _ c.read-in-App.result (Var c.in-Var-read-2.y) c.requires.in_t c.read-in-App.ensures c.in-Var-read-2.is) (read_at c.args.under c.args.classes.now c.args.s.now c.args.at _ c.read.result (App c.in-App.f c.in-App.n) c.requires.in_s c.read.ensures c.in-App.is) (both_false unknown_less nothing)

pub returns-in-App-read-2-clause-greater : goal.returns-in-App-read-2-clause-greater
returns-in-App-read-2-clause-greater c = over_at (table_weighing c.args.w.now.w0 c.args.w.now.table.items) (test_by c.args.under c.args.classes.now) (above_by c.args.under c.args.classes.now) (c.ranks.result ≡ Greater) (read_by c.args.under c.args.classes.now c.args.s.now) (read_by c.args.under c.args.classes.now c.args.t.now) (drop (c.args.at + 1) (read_by c.args.under c.args.classes.now c.args.s.now)) (drop (c.args.at + 1) (read_by c.args.under c.args.classes.now c.args.t.now)) c.args.at (App c.in-App.f c.in-App.n) (App c.in-App-read-2.g c.in-App-read-2.m) (read_at c.args.under c.args.classes.now c.args.s.now c.args.at _ c.read.result (App c.in-App.f c.in-App.n) c.requires.in_s c.read.ensures c.in-App.is) (read_at c.args.under c.args.classes.now c.args.t.now c.args.at _ c.read-in-App.result (App c.in-App-read-2.g c.in-App-read-2.m) c.requires.in_t c.read-in-App.ensures c.in-App-read-2.is) (λ v. (let l = c.ranks.ensures.greater.0 v in omega (arith, c.rank_of.ensures, c.rank_of-in-App-read-2.ensures)), λ l. c.ranks.ensures.greater.1 (omega (arith, l, c.rank_of.ensures, c.rank_of-in-App-read-2.ensures)))

pub returns-in-App-read-2-clause-less : goal.returns-in-App-read-2-clause-less
returns-in-App-read-2-clause-less c = over_at (table_weighing c.args.w.now.w0 c.args.w.now.table.items) (test_by c.args.under c.args.classes.now) (above_by c.args.under c.args.classes.now) (c.ranks.result ≡ Less) (read_by c.args.under c.args.classes.now c.args.t.now) (read_by c.args.under c.args.classes.now c.args.s.now) (drop (c.args.at + 1) (read_by c.args.under c.args.classes.now c.args.t.now)) (drop (c.args.at + 1) (read_by c.args.under c.args.classes.now c.args.s.now)) c.args.at (App c.in-App-read-2.g c.in-App-read-2.m) (App c.in-App.f c.in-App.n) (read_at c.args.under c.args.classes.now c.args.t.now c.args.at _ c.read-in-App.result (App c.in-App-read-2.g c.in-App-read-2.m) c.requires.in_t c.read-in-App.ensures c.in-App-read-2.is) (read_at c.args.under c.args.classes.now c.args.s.now c.args.at _ c.read.result (App c.in-App.f c.in-App.n) c.requires.in_s c.read.ensures c.in-App.is) (λ v. (let l = c.ranks.ensures.less.0 v in omega (arith, c.rank_of.ensures, c.rank_of-in-App-read-2.ensures)), λ l. c.ranks.ensures.less.1 (omega (arith, l, c.rank_of.ensures, c.rank_of-in-App-read-2.ensures)))
