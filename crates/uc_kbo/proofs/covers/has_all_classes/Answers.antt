use Rattle.std.proofs.Common.{refl, ap, length, ◌≡◌, ◌<◌, ◌≤◌, ◌+◌, subst, arith, true, ℕ, count_by, ◌⊎◌, inl, inr}
use Rattle.uc_kbo.specs.Kbo.{is_from}
use Rattle.uc_kbo.specs.Runs.{is_counted, read_by}
use Rattle.uc_kbo.proofs.Covering.{all_classes}
use Rattle.uc_kbo.proofs.covers.has_all_classes.Goals as goal

below_or_at : (j k : ℕ) → j < k + 1 → (j < k) ⊎ (k ≡ j)
below_or_at j k h = grind arith

pub loop-k-preserved : goal.loop-k-preserved
loop-k-preserved c j h =
    let P : ℕ → Type 0 = λ i. count_by (is_counted (is_from c.args.classes.now i)) (read_by true c.args.classes.now c.args.t.now) ≤ count_by (is_counted (is_from c.args.classes.now i)) (read_by true c.args.classes.now c.args.s.now) in
    elim (below_or_at j c.loop-k.k h) [ inl l ↦ c.loop-k.invariant j l | inr e ↦ subst P e (omega (arith, c.count_from.ensures.value, c.count_from-in-loop-k.ensures.value, c.if-count_from.false)) ]

pub returns : goal.returns
returns c = (λ _. all_classes c.args.classes.now (read_by true c.args.classes.now c.args.s.now) (read_by true c.args.classes.now c.args.t.now) c.loop-k.k (omega (arith, c.loop-k-test.false, ap length c.as_slice.ensures)) c.loop-k.invariant, λ _. refl)
