use Rattle.std.proofs.Common.{if◌then◌else◌, refl}
use Rattle.uc_proof.specs.Parts.{is_clause, is_encoding}
use Rattle.uc_proof.specs.Making.{IsAmong}
use Rattle.uc_proof.proofs.Adding.{axiom_added, axiom_passed, kind_is, kind_is_not}
use Rattle.uc_proof.proofs.plan.push_axiom.Goals as goal

pub returns-in_ok-push_needed : goal.returns-in_ok-push_needed
returns-in_ok-push_needed c =
    axiom_added (λ p. IsAmong p c.args.needed.now) (if c.args.clauses then is_clause else is_encoding) c.args.number c.args.source c.args.plan.now.items c.push_needed.new.plan.items
    (kind_is c.args.clauses c.args.source c.is_clause.result c.is_clause.ensures c.if-is_clause-clauses.true) c.in_ok-push_needed.ensures

pub returns-else-is_clause-clauses : goal.returns-else-is_clause-clauses
returns-else-is_clause-clauses c =
    axiom_passed (λ p. IsAmong p c.args.needed.now) (if c.args.clauses then is_clause else is_encoding) c.args.number c.args.source c.args.plan.now.items c.args.plan.now.items
    (kind_is_not c.args.clauses c.args.source c.is_clause.result c.is_clause.ensures c.if-is_clause-clauses.false) refl
