-- Failed fetches where a certificate file is tested.
use Rattle.std.proofs.Common.{ℕ, ◌≡◌, List, codes, Some, None, Result, Ok, Err}
use Rattle.uc_edge.specs.Faults.{IsCounted}
use Rattle.uc_answer.specs.declared.answer.Answer.{Answer}
use Rattle.uc_answer.specs.Lines.{joined, about_file}
use Rattle.uc_top.specs.declared.certificates.Tested.{Tested}
use Rattle.uc_top.specs.declared.certificates.Tested.TheVariants.{Refused, Passed}
use Rattle.uc_top.specs.CertificateTested.{TestsFault, IsTestFaulted}
use Rattle.uc_top.specs.Faulting.{no_fetch_failed, one_fetch_failed}

module _ (before now : ℕ) (old new : List (List ℕ)) where
  -- no fetch failed
  pub none_tested : {E : Type 0} (r : Result Tested E) → IsCounted None before now old new → IsTestFaulted before now old new r
  none_tested (Ok (Refused answer)) k = no_fetch_failed k
  none_tested (Ok (Passed certificate)) k = k
  none_tested (Err e) k = (None, k)

  -- that of the certificate file did
  pub fetch_tested : (file : List ℕ) (answer : Answer) → (answer.status ≡ 5) × (joined answer.lines ≡ about_file file (codes "ReadFault")) → IsCounted (Some file) before now old new → TestsFault before now old new (Refused answer)
  fetch_tested file answer h k = rw (h.0, h.1) (one_fetch_failed file k)
