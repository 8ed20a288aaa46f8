-- A run is complete by every command.
use Rattle.std.proofs.Common.{ℕ, ◌≡◌, List, Option, Some}
use Rattle.uc_edge.specs.Files.{Files}
use Rattle.uc_edge.specs.Faults.{Rose}
use Rattle.uc_top.specs.Runs.{IsRun}
use Rattle.uc_top.specs.declared.listing.Listing.TheVariants.{Directions, CriticalPairs}
use Rattle.uc_top.specs.Completeness.{IsComplete}
use Rattle.uc_top.proofs.Completing.{completes}
use Rattle.uc_top.proofs.CheckEnding.{completes_check}
use Rattle.uc_top.proofs.ListCompleting.{list_completes}
use Rattle.uc_top.proofs.RewriteCompleting.{rewrite_completes}
use Rattle.uc_top.proofs.ProveCompleting.{prove_completes}
use Rattle.uc_top.proofs.DecideCompleting.{decide_completes}
use Rattle.uc_top.proofs.SystemCompleting.{system_completes}
use Rattle.uc_top.proofs.TableCompleting.{table_completes}
use Rattle.uc_top.proofs.ModelCompleting.{model_completes}
use Rattle.uc_top.proofs.CertifyCompleting.{certify_completes}
use Rattle.uc_top.proofs.GenCompleting.{gen_completes}

pub all_complete : (holds : Option Files) (before now : ℕ) (words : List (List ℕ)) (old new : Option (List ℕ)) (write_before write_now result : ℕ) → IsRun holds before now words old new write_before write_now result → (files : Files) → holds ≡ Some files → (Rose before now → ⊥) → (Rose write_before write_now → ⊥) → IsComplete files words old new result
all_complete holds before now words old new write_before write_now result run files told fetched written = record {
  show = completes holds before now words old new write_before write_now result run files told fetched written;
  check = completes_check holds before now words old new write_before write_now result run files told fetched written;
  order = list_completes Directions holds before now words old new write_before write_now result run files told fetched written;
  rewrite = rewrite_completes holds before now words old new write_before write_now result run files told fetched written;
  pairs = list_completes CriticalPairs holds before now words old new write_before write_now result run files told fetched written;
  prove = prove_completes holds before now words old new write_before write_now result run files told fetched written;
  decide = decide_completes holds before now words old new write_before write_now result run files told fetched written;
  system = system_completes holds before now words old new write_before write_now result run files told fetched written;
  table = table_completes holds before now words old new write_before write_now result run files told fetched written;
  model = model_completes holds before now words old new write_before write_now result run files told fetched written;
  certify = certify_completes holds before now words old new write_before write_now result run files told fetched written;
  gen = gen_completes holds before now words old new write_before write_now result run written;
}
