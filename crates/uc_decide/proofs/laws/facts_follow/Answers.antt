use Rattle.uc_decide.proofs.Derived.{facts_follow}
use Rattle.uc_decide.proofs.laws.facts_follow.Goals as goal

pub returns : goal.returns
returns c axioms facts replays = facts_follow axioms facts replays
