use Rattle.std.proofs.Common.{◌≡◌, ℕ, ◌+◌, ◌<◌, ◌≤◌, arith, refl, subst, drop, ap, Bool, true, Option, IsTrue}
use Rattle.std.specs.Prelude.{Some, None}
use Rattle.std.proofs.lemmas.Bool.Decides.{nat_tests}
use Rattle.uc_term.specs.Flat.{tree_of}
use Rattle.uc_kbo.specs.Kbo.{None as NoneAbove}
use Rattle.uc_kbo.specs.Runs.{table_weighing, IsVerdict}
use Rattle.uc_kbo.specs.Balances.{is_asked, AsksFor, is_below}
use Rattle.uc_kbo.proofs.Asking.{free_at, below_at, first_asks, told_more, told_all, rest}
use Rattle.uc_kbo.proofs.wide.compare_wide.Goals as goal

rest_less : (base : ℕ) (n : Option ℕ) → base ≤ 4294967295 → IsTrue (is_below n base) → rest n < rest (Some base)
rest_less base None h e = omega arith
rest_less base (Some b) h e = let l : base < b = grind (arith, nat_tests) in omega arith

all_below : (n : Option ℕ) → ((x : ℕ) → n ≡ Some x → ⊥) → (k : ℕ) → true ≡ is_below n k
all_below None h k = refl
all_below (Some x) h k = absurd (h x refl)

pub loop-next-init : goal.loop-next-init
loop-next-init c asked f =
    let n = c.next_variable-next.ensures in
    let r = c.next_variable-next.result in
    c.climb_from-verdict.ensures asked (first_asks (drop c.args.at c.args.s.now) (drop c.args.at c.args.t.now) 0 r (free_at c.args.s.now c.args.t.now c.args.at 8192 8192 r refl n.none) n.from asked refl f)

pub loop-next-smaller : goal.loop-next-smaller
loop-next-smaller c =
    let n = c.next_variable-next-in-Some in
    let p = c.past.ensures in
    let less = rest_less c.in-Some.base n.result (omega (arith, p.value, p.small)) (n.ensures.from c.in-Some.base (omega (arith, p.value))) in
    omega (arith, less, ap rest c.in-Some.is)

pub loop-next-preserved : goal.loop-next-preserved
loop-next-preserved c =
    let n = c.next_variable-next-in-Some in
    let p = c.past.ensures in
    let a = c.agreed-verdict.ensures in
    let s = drop c.args.at c.args.s.now in
    let t = drop c.args.at c.args.t.now in
    let P : Option ℕ → Type 0 = λ o. (asked : ℕ → Bool) → AsksFor (is_below o) asked s t → IsVerdict (table_weighing c.args.w.now.w0 c.args.w.now.table.items) (is_asked asked) NoneAbove c.loop-next.verdict (tree_of c.args.s.now) (tree_of c.args.t.now) in
    told_more s t c.in-Some.base n.result (free_at c.args.s.now c.args.t.now c.args.at c.past.result (c.in-Some.base + 8192) n.result p.value n.ensures.none) (below_at c.past.result (c.in-Some.base + 8192) n.result p.value n.ensures.from) (table_weighing c.args.w.now.w0 c.args.w.now.table.items) c.loop-next.verdict c.climb_from-more.result c.agreed-verdict.result (tree_of c.args.s.now) (tree_of c.args.t.now) (subst P c.in-Some.is c.loop-next.invariant) c.climb_from-more.ensures a.greater a.less a.equal

pub returns : goal.returns
returns c = told_all (table_weighing c.args.w.now.w0 c.args.w.now.table.items) c.loop-next.verdict (tree_of c.args.s.now) (tree_of c.args.t.now) (c.loop-next.invariant (λ k. true) (λ k h. all_below c.loop-next.next c.in_default.not-Some k))
