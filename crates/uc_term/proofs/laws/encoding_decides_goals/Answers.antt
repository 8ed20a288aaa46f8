use Rattle.uc_term.proofs.Encoding.{goal_follows, yes_no_from_goal}
use Rattle.uc_term.proofs.laws.encoding_decides_goals.Goals as goal

pub returns : goal.returns
returns c m es gs are el gl h = (goal_follows m es gs are el gl h, yes_no_from_goal m es gs are el gl)
