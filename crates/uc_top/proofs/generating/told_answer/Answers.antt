use Rattle.uc_top.proofs.generating.told_answer.Goals as goal

pub closed_answer-requires-clause-over : goal.closed_answer-requires-clause-over
closed_answer-requires-clause-over g c = rw c.in_ok-searched.ensures.opening c.requires.over
