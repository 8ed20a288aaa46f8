-- What every command comes to.
use Rattle.std.specs.Prelude.{ℕ, List, Option}
use Rattle.uc_edge.specs.Files.{Files}
use Rattle.uc_top.specs.Runs.{Completes, CompletesCheck}
use Rattle.uc_top.specs.declared.listing.Listing.TheVariants.{Directions, CriticalPairs}
use Rattle.uc_top.specs.ListRuns.{CompletesList}
use Rattle.uc_top.specs.RewriteRuns.{CompletesRewrite}
use Rattle.uc_top.specs.ProveRuns.{CompletesProve}
use Rattle.uc_top.specs.DecideRuns.{CompletesDecide}
use Rattle.uc_top.specs.TableRuns.{CompletesTable}
use Rattle.uc_top.specs.ModelRuns.{CompletesModel}
use Rattle.uc_top.specs.CertifyRuns.{CompletesCertify}
use Rattle.uc_top.specs.SystemRuns.{CompletesSystem}
use Rattle.uc_top.specs.GenRuns.{CompletesGen}

-- Where no fetch and no write fails, no command gives up: for words and files that a command accepts, its answer is told with its
-- status, or memory is wanted.
pub record IsComplete (files : Files) (words : List (List ℕ)) (old new : Option (List ℕ)) (result : ℕ) : Type 0 where
  pub show : Completes files words old new result
  pub check : CompletesCheck files words old new result
  pub order : CompletesList Directions files words old new result
  pub rewrite : CompletesRewrite files words old new result
  pub pairs : CompletesList CriticalPairs files words old new result
  pub prove : CompletesProve files words old new result
  pub decide : CompletesDecide files words old new result
  pub system : CompletesSystem files words old new result
  pub table : CompletesTable files words old new result
  pub model : CompletesModel files words old new result
  pub certify : CompletesCertify files words old new result
  pub gen : CompletesGen words old new result
