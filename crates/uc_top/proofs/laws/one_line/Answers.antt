use Rattle.uc_top.proofs.SameLines.{same_line, same_file_line}
use Rattle.uc_top.proofs.laws.one_line.Goals as goal

pub returns : goal.returns
returns c = record { problem = same_line; file = same_file_line }
