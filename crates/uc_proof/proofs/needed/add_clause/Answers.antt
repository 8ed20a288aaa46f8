use Rattle.std.proofs.Common.{ℕ, Option, ◌↔◌, ◌⊎◌, sym, subst}
use Rattle.uc_proof.specs.Making.{IsAmong, IsClauseOf}
use Rattle.uc_proof.proofs.Among.{turn}
use Rattle.uc_proof.proofs.needed.add_clause.Goals as goal

pub returns-in_ok-add-in-Some : goal.returns-in_ok-add-in-Some
returns-in_ok-add-in-Some c = λ p. subst (λ (o : Option ℕ). IsAmong p c.add.new.self ↔ (IsAmong p c.args.needed.now ⊎ IsClauseOf o p)) (sym c.in-Some.is) (turn (c.in_ok-add-in-Some.ensures p))
