-- Failed fetches, from what the calls beneath promise to a run.
use Rattle.std.proofs.Common.{ℕ, ◌≡◌, List, [], ◌∷◌, ◌++◌, append-nil, codes, Option, Some, None, Result, Ok, Err, refl, sym, ◌∙◌, ap, subst, arith}
use Rattle.std.specs.Result.{IfOk}
use Rattle.std.specs.Io.KnownBytes.{Appends}
use Rattle.std.proofs.lemmas.List.{append_cancel_left}
use Rattle.uc_edge.specs.Faults.{IsCounted}
use Rattle.uc_problem.specs.declared.fault.LoadFault.{LoadFault}
use Rattle.uc_problem.specs.declared.fault.LoadFault.TheVariants as load
use Rattle.uc_problem.specs.Fetching.{IsFaultedBy}
use Rattle.uc_problem.proofs.Faulting.{kept_on}
use Rattle.uc_answer.specs.declared.answer.Answer.{Answer}
use Rattle.uc_answer.specs.Lines.{joined, about_file, load_line}
use Rattle.uc_answer.specs.Refusals.{load_status}
use Rattle.uc_answer.specs.StatusLines.{status_line, unloaded_word}
use Rattle.uc_top.specs.Faulting.{input_error, TellsFault, no_fetch_failed, one_fetch_failed, AnswersFault, HasFaultStatus, keeps_status, has_fault_status, IsStatusFaulted, IsFaultedRun, no_fetch_fails, one_fetch_fails}
use Rattle.uc_top.specs.Told.{IsTold, told, cut_short, CountsWrites, no_write_fails, one_write_fails}

module _ (before now : ℕ) (old new : List (List ℕ)) where
  -- an answer where no fetch failed
  pub none_failed : (opening : List ℕ) {E : Type 0} (r : Result Answer E) → IsCounted None before now old new → AnswersFault before now old new opening r
  none_failed opening (Ok answer) k = no_fetch_failed k
  none_failed opening (Err e) k = (None, k)

  -- a refusal of loading
  pub some_counted : (why : LoadFault) → IsFaultedBy why before now old new → (file : Option (List ℕ)) × IsCounted file before now old new
  some_counted (load.ReadFault file) k = (Some file, k)
  some_counted load.NoMemory k = k
  some_counted (load.Absent file from) k = (None, k)
  some_counted (load.TooDeep file place) k = (None, k)
  some_counted (load.NoSuchName file place n) k = (None, k)
  some_counted (load.ArityClash file place n one two) k = (None, k)
  some_counted (load.Limit file place what) k = (None, k)
  some_counted (load.Clause file fault) k = (None, k)

  module _ (opening : List ℕ) (line : LoadFault → List ℕ) (of_file : (file : List ℕ) → line (load.ReadFault file) ≡ opening ++ about_file file (codes "ReadFault")) where
    refused : (why : LoadFault) (answer : Answer) → (answer.status ≡ load_status why) × (joined answer.lines ≡ line why) → (answer.status ≡ 7 → ⊥) → IsFaultedBy why before now old new → TellsFault before now old new opening answer.status (joined answer.lines)
    refused (load.ReadFault file) answer h n k = rw (h.0, h.1, of_file file) (one_fetch_failed file k)
    refused load.NoMemory answer h n k = absurd (n h.0)
    refused (load.Absent file from) answer h n k = no_fetch_failed k
    refused (load.TooDeep file place) answer h n k = no_fetch_failed k
    refused (load.NoSuchName file place name) answer h n k = no_fetch_failed k
    refused (load.ArityClash file place name one two) answer h n k = no_fetch_failed k
    refused (load.Limit file place what) answer h n k = no_fetch_failed k
    refused (load.Clause file fault) answer h n k = no_fetch_failed k

    refused_result : {E : Type 0} (why : LoadFault) (r : Result Answer E) → IfOk r (λ answer. (answer.status ≡ load_status why) × (joined answer.lines ≡ line why)) → IfOk r (λ answer. answer.status ≡ 7 → ⊥) → IsFaultedBy why before now old new → AnswersFault before now old new opening r
    refused_result why (Ok answer) h n k = refused why answer h n k
    refused_result why (Err e) h n k = some_counted why k

  pub load_failed : {E : Type 0} (why : LoadFault) (r : Result Answer E) → IfOk r (λ answer. (answer.status ≡ load_status why) × (joined answer.lines ≡ load_line why)) → IfOk r (λ answer. answer.status ≡ 7 → ⊥) → IsFaultedBy why before now old new → AnswersFault before now old new [] r
  load_failed why r h n k = refused_result [] load_line (λ file. refl) why r h n k

  pub prove_failed : (name : List ℕ) {E : Type 0} (why : LoadFault) (r : Result Answer E) → IfOk r (λ answer. (answer.status ≡ load_status why) × (joined answer.lines ≡ status_line (unloaded_word why) name ++ load_line why)) → IfOk r (λ answer. answer.status ≡ 7 → ⊥) → IsFaultedBy why before now old new → AnswersFault before now old new (input_error name) r
  prove_failed name why r h n k = refused_result (input_error name) (λ w. status_line (unloaded_word w) name ++ load_line w) (λ file. refl) why r h n k

  -- the proof file's fetch
  pub proof_failed : (file : List ℕ) {E : Type 0} (r : Result Answer E) → IfOk r (λ answer. (answer.status ≡ 5) × (joined answer.lines ≡ about_file file (codes "ReadFault"))) → IsCounted (Some file) before now old new → AnswersFault before now old new [] r
  proof_failed file (Ok answer) h k = rw (h.0, h.1) (one_fetch_failed file k)
  proof_failed file (Err e) h k = (Some file, k)

  -- the status alone
  status_told : {opening : List ℕ} {status : ℕ} {text : List ℕ} → TellsFault before now old new opening status text → HasFaultStatus before now old new status
  status_told (no_fetch_failed k) = keeps_status k
  status_told (one_fetch_failed file k) = has_fault_status file k

  pub status_of : (opening : List ℕ) {E : Type 0} (r : Result Answer E) → AnswersFault before now old new opening r → IsStatusFaulted before now old new r
  status_of opening (Ok answer) t = status_told t
  status_of opening (Err e) t = t

  pub no_status : {E : Type 0} (r : Result Answer E) → IsCounted None before now old new → IsStatusFaulted before now old new r
  no_status (Ok answer) k = keeps_status k
  no_status (Err e) k = (None, k)

  pub some_file : {status : ℕ} → HasFaultStatus before now old new status → (file : Option (List ℕ)) × IsCounted file before now old new
  some_file (keeps_status k) = (None, k)
  some_file (has_fault_status file k) = (Some file, k)

  -- a run that wants memory
  pub wants : {first last result : ℕ} (file : Option (List ℕ)) → IsCounted file before now old new → CountsWrites first last 7 result → IsFaultedRun before now old new result
  wants None k w = no_fetch_fails k
  wants (Some file) k (no_write_fails e) = one_fetch_fails file k (omega arith) (omega arith)
  wants (Some file) k (one_write_fails e) = one_fetch_fails file k (omega arith) (omega arith)

  -- a run that tells its answer
  pub tells : {first last status result : ℕ} → HasFaultStatus before now old new status → CountsWrites first last status result → IsFaultedRun before now old new result
  tells (keeps_status k) w = no_fetch_fails k
  tells (has_fault_status file k) (no_write_fails e) = one_fetch_fails file k (omega arith) (omega arith)
  tells (has_fault_status file k) (one_write_fails e) = one_fetch_fails file k (omega arith) (omega arith)

  -- one fetch failed, and it is that of one file
  one_of_none : (file : List ℕ) → IsCounted None before now old new → IsCounted (Some file) before now old new → ⊥
  one_of_none file k f = none_is_one file (append_cancel_left old [] (file ∷ []) (append-nil old ∙ sym k.1 ∙ f.1))
    where
      none_is_one : (file : List ℕ) → Path (List (List ℕ)) [] (file ∷ []) → ⊥
      none_is_one file e = absurd cc

  one_file : (file other : List ℕ) → IsCounted (Some file) before now old new → IsCounted (Some other) before now old new → file ≡ other
  one_file file other k f = first_is (append_cancel_left old (file ∷ []) (other ∷ []) (sym k.1 ∙ f.1))
    where
      first_is : Path (List (List ℕ)) (file ∷ []) (other ∷ []) → file ≡ other
      first_is e = cc

  named_in : {opening : List ℕ} {status : ℕ} {text : List ℕ} (file : List ℕ) → TellsFault before now old new opening status text → IsCounted (Some file) before now old new → text ≡ opening ++ about_file file (codes "ReadFault")
  named_in file (no_fetch_failed k) f = absurd (one_of_none file k f)
  named_in {opening} file (one_fetch_failed other k) f = ap (λ (name : List ℕ). opening ++ about_file name (codes "ReadFault")) (one_file other file k f)

  -- the text of a run that ends with status 5
  pub named : {opening : List ℕ} {status result first last : ℕ} {text : List ℕ} {a b : Option (List ℕ)} (file : List ℕ) → IsTold a b first last text status result → result ≡ 5 → TellsFault before now old new opening status text → IsCounted (Some file) before now old new → Appends a b (opening ++ about_file file (codes "ReadFault"))
  named {a = a} {b = b} file (told whole) e t f = subst (λ (x : List ℕ). Appends a b x) (named_in file t f) whole
  named file (cut_short short part rose) e t f = absurd (omega (arith, e))

-- want of memory isn't status 5
pub never_five : {before now result : ℕ} → CountsWrites before now 7 result → result ≡ 5 → ⊥
never_five (no_write_fails c) e = absurd (omega (arith, e))
never_five (one_write_fails c) e = absurd (omega (arith, e))

-- after calls in which no fetch failed
later_told : {before between : ℕ} (now : ℕ) {old then : List (List ℕ)} (new : List (List ℕ)) {opening : List ℕ} {status : ℕ} {text : List ℕ} → IsCounted None before between old then → TellsFault between now then new opening status text → TellsFault before now old new opening status text
later_told now new k (no_fetch_failed l) = no_fetch_failed (kept_on None now new k l)
later_told now new k (one_fetch_failed file l) = one_fetch_failed file (kept_on (Some file) now new k l)

pub later_failed : {before between : ℕ} (now : ℕ) {old then : List (List ℕ)} (new : List (List ℕ)) (opening : List ℕ) {E : Type 0} (r : Result Answer E) → IsCounted None before between old then → AnswersFault between now then new opening r → AnswersFault before now old new opening r
later_failed now new opening (Ok answer) k t = later_told now new k t
later_failed now new opening (Err e) k t = (t.0, kept_on t.0 now new k t.1)
