-- Leaves that are passed over.
use Rattle.std.proofs.Common.{ℕ, List, [], arith}
use Rattle.uc_term.specs.Tree.{Tree}
use Rattle.uc_fact.specs.declared.index.Found.{Found}
use Rattle.uc_fact.specs.Live.{Rule}
use Rattle.uc_fact.specs.Retrieval.{IsFound}
use Rattle.uc_fact.specs.Embedding.{Embedded}
use Rattle.uc_disc.specs.declared.place.Place.{Place}
use Rattle.uc_disc.specs.Idle.{AreIdle}
use Rattle.uc_disc.specs.Trail.{AreSupported}
use Rattle.uc_disc.specs.Retrieving.{IsPassed}
use Rattle.uc_disc.proofs.Passing.{root_first}
use Rattle.uc_disc.proofs.Retrieved.{found_at}

module _ (Accepted : Found → Type 0) (t : Tree) (rules : List Rule) (ps : List Place) (from : ℕ) where
  -- none are
  pub passed_none : AreSupported [] ps → IsPassed Accepted t rules ps from 0
  passed_none supported = record { root = root_first ps supported; within = omega arith; none = λ bound j p r h e is u v. absurd (omega arith) }

  -- those of idle rules, where the test refuses these
  pub passed_idle : (Can : Found → Tree → Tree → Type 0) → ((found : Found) (a b : Tree) → IsFound t rules found a b → Can found a b) → ((found : Found) (a b : Tree) → Can found a b → Embedded a b → Accepted found → ⊥) → (end : ℕ) → AreIdle rules ps end → IsPassed Accepted t rules ps from end
  passed_idle Can can refuses end idle = record { root = idle.root; within = idle.within; none = λ bound j p r h e is u v rule pairs g m a. refuses _ rule.from rule.to (can _ rule.from rule.to (found_at t rules r rule pairs g m)) (idle.idle j p r h e is rule g) a }
