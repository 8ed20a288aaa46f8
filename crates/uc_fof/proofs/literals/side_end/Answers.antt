use Rattle.uc_fof.proofs.literals.side_end.Goals as goal

pub returns-then-positive : goal.returns-then-positive
returns-then-positive c = rw c.if-positive.true c.right_side_end.ensures
