use Rattle.std.proofs.Common.{refl, ◌≡◌, ◌+◌, ◌↔◌, IsTrue, length, eq-eqb, arith, nat_eq, ℕ}
use Rattle.std.proofs.lemmas.Bool.Decides.{nat_tests}
use Rattle.uc_kbo.proofs.Tables.{found_bad, rest_more}
use Rattle.uc_kbo.proofs.table.first_bad.Goals as goal

tells : (n m : ℕ) → IsTrue (nat_eq n m) ↔ (n ≡ m)
tells n m = (λ h. grind (arith, nat_tests), λ e. eq-eqb n m e)

pub returns-then-is_bad : goal.returns-then-is_bad
returns-then-is_bad c = found_bad c.args.w0 c.args.entries.now c.loop-i.i _ _ _ c.loop-i-test.true refl (tells (c.loop-i.i + 1) (length c.args.entries.now)) c.loop-i.invariant (c.is_bad.ensures.bad c.if-is_bad.true)

pub loop-i-preserved : goal.loop-i-preserved
loop-i-preserved c = rest_more c.args.w0 c.args.entries.now c.loop-i.i _ _ _ c.loop-i-test.true refl (tells (c.loop-i.i + 1) (length c.args.entries.now)) c.loop-i.invariant (c.is_bad.ensures.good c.if-is_bad.false)
