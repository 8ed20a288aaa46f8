use Rattle.uc_machine.proofs.OneDraw.{one_draw}
use Rattle.uc_machine.proofs.laws.one_draw.Goals as goal

pub returns : goal.returns
returns c = one_draw
