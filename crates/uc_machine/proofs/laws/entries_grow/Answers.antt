use Rattle.uc_machine.proofs.Grows.{draws_grew, commits_grew, reclaims_grew, recalls_grew, audits_grew, closes_grew}
use Rattle.uc_machine.proofs.laws.entries_grow.Goals as goal

pub returns-clause-draw : goal.returns-clause-draw
returns-clause-draw c = draws_grew

pub returns-clause-commit : goal.returns-clause-commit
returns-clause-commit c = commits_grew

pub returns-clause-reclaim : goal.returns-clause-reclaim
returns-clause-reclaim c = reclaims_grew

pub returns-clause-recall : goal.returns-clause-recall
returns-clause-recall c = recalls_grew

pub returns-clause-audit : goal.returns-clause-audit
returns-clause-audit c = audits_grew

pub returns-clause-close : goal.returns-clause-close
returns-clause-close c = closes_grew
