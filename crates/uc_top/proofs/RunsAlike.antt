-- Two runs of one command line give one answer, but where a fetch or a write failed or memory was wanted.
use Rattle.std.proofs.Common.{ℕ, ◌≡◌, ◌≤◌, List, Option, Some, refl, sym, ◌∙◌, subst}
use Rattle.std.specs.Io.KnownBytes.{Appends}
use Rattle.uc_edge.specs.Files.{Files}
use Rattle.uc_top.specs.Answers.{SearchesAlone}
use Rattle.uc_top.specs.Told.{IsTold, told, cut_short}
use Rattle.uc_top.specs.Runs.{MayAnswer, is_answer, wants_memory, IsRun, IsSettledStatus}
use Rattle.uc_top.proofs.AnswersOnce.{answer_once}
use Rattle.uc_top.proofs.SearchLaws.{OneSearch}

answers_alike : OneSearch → (files : Files) (before now again later : ℕ) (words : List (List ℕ)) (s t : ℕ) (a b : List ℕ) → (s ≤ 2 → SearchesAlone words) → (s ≡ 5 → ⊥) → (s ≡ 7 → ⊥) → (t ≡ 5 → ⊥) → (t ≡ 7 → ⊥) → MayAnswer (Some files) before now words s a → MayAnswer (Some files) again later words t b → (s ≡ t) × (a ≡ b)
answers_alike one_search files before now again later words _ t _ b alone v n w m wants_memory y = absurd (n refl)
answers_alike one_search files before now again later words s _ a _ alone v n w m (is_answer x) wants_memory = absurd (m refl)
answers_alike one_search files before now again later words s t a b alone v n w m (is_answer x) (is_answer y) = answer_once files before now again later one_search words alone (λ five rose. v five) (λ five rose. w five) x y

-- a run that doesn't end with status 6 told its sink everything
pub told_all : {old new : Option (List ℕ)} {before now : ℕ} {text : List ℕ} {status result : ℕ} → (result ≡ 6 → ⊥) → IsTold old new before now text status result → Appends old new text × (result ≡ status)
told_all n (told whole) = (whole, refl)
told_all n (cut_short short part rose) = absurd (n refl)

pub runs_alike : OneSearch → (files : Files) (words : List (List ℕ)) (before now again later : ℕ) (old new first last : Option (List ℕ)) (write_before write_now write_again write_later : ℕ) (r q : ℕ) → (r ≤ 2 → SearchesAlone words) → IsSettledStatus r → IsSettledStatus q → (x : IsRun (Some files) before now words old new write_before write_now r) (y : IsRun (Some files) again later words first last write_again write_later q) → (r ≡ q) × (x.text ≡ y.text) × Appends old new x.text × Appends first last y.text
runs_alike one_search files words before now again later old new first last write_before write_now write_again write_later r q alone a b x y =
    let left = told_all a.1 x.told in
    let right = told_all b.1 y.told in
    let one = answers_alike one_search files before now again later words x.status y.status x.text y.text (λ few. alone (subst (λ n. n ≤ 2) (sym left.1) few)) (λ e. a.0 (left.1 ∙ e)) (λ e. a.2 (left.1 ∙ e)) (λ e. b.0 (right.1 ∙ e)) (λ e. b.2 (right.1 ∙ e)) x.answer y.answer in
    (left.1 ∙ one.0 ∙ sym right.1, one.1, left.0, right.0)
