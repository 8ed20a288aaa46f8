use Rattle.uc_unify.proofs.Both.{match_of_both}
use Rattle.uc_unify.proofs.matching.matches_both.Goals as goal

pub returns : goal.returns
returns c = match_of_both c.args.left_pattern.now c.args.left_term.now c.args.right_pattern.now c.args.right_term.now c.new-subst.result c.extend.new.subst c.extend-2.new.subst c.new-subst.ensures (rw c.if-not-branch.false at c.in_ok-extend.ensures) (rw c.if-not-branch-2.false at c.in_ok-extend-2.ensures)
