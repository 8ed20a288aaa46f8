use Rattle.std.proofs.Common.{◌≡◌, ℕ, suc, ◌-◌, get_or, sym, ap, ◌∙◌, arith}
use Rattle.uc_problem.proofs.Folders.{folder_is}
use Rattle.uc_problem.proofs.candidates.folder_of.Goals as goal
use Rattle.uc_problem.proofs.candidates.folder_of.Goals.{else-loop-end-test, then-loop-end-test+then-name-end-eq47}

stands : (c : goal.Left-loop-end) (k : ℕ) → suc k ≡ c.loop-end.end → get_or c.args.name.now k 0 ≡ 47
stands c k e = elim c.loop-end-test.branch [
  | else-loop-end-test w ↦ absurd (omega arith)
  | then-loop-end-test+then-name-end-eq47 w ↦ let q : k ≡ c.loop-end.end - 1 = omega arith in ap (λ i. get_or c.args.name.now i 0) q ∙ w.if-name-end-eq47.true
]

pub returns : goal.returns
returns c = sym (folder_is c.args.name.now c.loop-end.end c.loop-end.invariant.none (stands c) c.loop-end.invariant.within)
