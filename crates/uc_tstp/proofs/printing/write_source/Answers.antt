use Rattle.uc_tstp.proofs.printing.write_source.Goals as goal

pub returns-in-EncodeGoal : goal.returns-in-EncodeGoal
returns-in-EncodeGoal c = rw c.in-EncodeGoal.is (rw c.as_slice-in-EncodeGoal.ensures at c.write_inference-in-EncodeGoal.ensures)
