-- From what a fetch of a file beside the problem's promises to the answer.
use Rattle.std.proofs.Common.{ℕ, ◌≡◌, ◌≤◌, List, take, Option, Some, None, Result, Ok, Err, refl, subst, arith}
use Rattle.std.specs.Str.{IsUtf8}
use Rattle.std.proofs.lemmas.Str.{is_utf8-from_IsUtf8}
use Rattle.std.specs.Result.{IfOk}
use Rattle.std.specs.declared.alloc.AllocError.{AllocError}
use Rattle.uc_edge.specs.Files.{Files, IsFetched}
use Rattle.uc_edge.specs.Faults.{Rose}
use Rattle.uc_edge.specs.declared.library.Fetched.{Fetched}
use Rattle.uc_edge.specs.declared.library.Fetched.TheVariants.{Found, Absent, Failed}
use Rattle.uc_problem.proofs.Fetches.{no_text}
use Rattle.uc_problem.proofs.Outcomes.{some_once, some_or_none}
use Rattle.uc_answer.specs.declared.answer.Answer.{Answer}
use Rattle.uc_answer.specs.Lines.{joined}
use Rattle.uc_top.specs.FileAnswers.{IsTextFetched, FileAnswers, is_absent, isnt_fetched, is_found}

-- A count that rose in a part of a call rose in the call.
pub rose_before : (first before now : ℕ) → first ≤ before → Rose before now → Rose first now
rose_before first before now h r = omega arith

-- what a fetch of the file answers, of which at most so many bytes are asked for
module _ (most : ℕ) (before now : ℕ) (name : List ℕ) where
  pub not_utf8 : (holds : Option Files) → (IsUtf8 name → ⊥) → IsTextFetched most holds before now name Absent
  not_utf8 None isnt = tt
  not_utf8 (Some files) isnt = no_text (Some files) before now name isnt

  fetched : (holds : Option Files) (answer : Fetched) → IsUtf8 name → IsFetched holds name most answer → (answer ≡ Failed → Rose before now) → IsTextFetched most holds before now name answer
  fetched None (Found bytes) utf h rose = tt
  fetched (Some files) (Found bytes) utf h rose = (h.0, (rw (is_utf8-from_IsUtf8 name utf) h.1), h.2)
  fetched None Absent utf h rose = tt
  fetched (Some files) Absent utf h rose = rw (is_utf8-from_IsUtf8 name utf) h
  fetched holds Failed utf h rose = rose refl

  pub is_fetched : (holds : Option Files) (asked : List ℕ) (r : Result Fetched AllocError) → asked ≡ name → IsUtf8 name → IfOk r (IsFetched holds asked most) → IfOk r (λ answer. answer ≡ Failed → Rose before now) → IfOk r (IsTextFetched most holds before now name)
  is_fetched holds asked (Ok answer) e utf h rose = fetched holds answer utf (rw e at h) rose
  is_fetched holds asked (Err fault) e utf h rose = tt

-- The answer for the file, where that for a text that is cut is that for the whole.
module _ (most : ℕ) (holds : Option Files) (before now : ℕ) (AnswersFor : List ℕ → ℕ → List ℕ → Type 0) (name : List ℕ) where
  abbrev pub IsWhole : Type 0
  IsWhole = (text : List ℕ) (status : ℕ) (answer : List ℕ) → AnswersFor (take most text) status answer → AnswersFor text status answer

  found_answers : (o : Option Files) (bytes : List ℕ) (status : ℕ) (answer : List ℕ) → IsWhole → IsTextFetched most o before now name (Found bytes) → AnswersFor bytes status answer → FileAnswers o before now AnswersFor name status answer
  found_answers None bytes status answer whole h a = is_found tt a
  found_answers (Some files) bytes status answer whole h a = is_found h.1 (whole h.0 status answer (subst (λ t. AnswersFor t status answer) h.2 a))

  pub is_found_text : (bytes : List ℕ) (r : Result Answer AllocError) → IsWhole → IsTextFetched most holds before now name (Found bytes) → IfOk r (λ answer. AnswersFor bytes answer.status (joined answer.lines)) → IfOk r (λ answer. FileAnswers holds before now AnswersFor name answer.status (joined answer.lines))
  is_found_text bytes (Ok answer) whole h a = found_answers holds bytes answer.status (joined answer.lines) whole h a
  is_found_text bytes (Err fault) whole h a = tt

-- an answer that rests on a part of a call rests on the call
module _ (holds : Option Files) (before now : ℕ) (AnswersFor : List ℕ → ℕ → List ℕ → Type 0) (name : List ℕ) where
  pub earlier_file : (first : ℕ) {status : ℕ} {answer : List ℕ} → first ≤ before → FileAnswers holds before now AnswersFor name status answer → FileAnswers holds first now AnswersFor name status answer
  earlier_file first le (is_absent h) = is_absent h
  earlier_file first le (isnt_fetched r) = isnt_fetched (rose_before first before now le r)
  earlier_file first le (is_found h a) = is_found h a

-- Where a text has one answer, so has the file.
module _ (files : Files) (before now again later : ℕ) (AnswersFor : List ℕ → ℕ → List ℕ → Type 0) (name : List ℕ) where
  abbrev pub HasOneAnswer : Type 0
  HasOneAnswer = (text : List ℕ) (s t : ℕ) (a b : List ℕ) → AnswersFor text s a → AnswersFor text t b → (s ≡ t) × (a ≡ b)

  pub file_once : HasOneAnswer → {s t : ℕ} {a b : List ℕ} → (s ≡ 5 → Rose before now → ⊥) → (t ≡ 5 → Rose again later → ⊥) → FileAnswers (Some files) before now AnswersFor name s a → FileAnswers (Some files) again later AnswersFor name t b → (s ≡ t) × (a ≡ b)
  file_once once v w (isnt_fetched r) y = absurd (v refl r)
  file_once once v w (is_absent e) (isnt_fetched r) = absurd (w refl r)
  file_once once v w (is_absent e) (is_absent f) = (refl, refl)
  file_once once v w (is_absent e) (is_found f y) = absurd (some_or_none f e)
  file_once once v w (is_found e x) (isnt_fetched r) = absurd (w refl r)
  file_once once v w (is_found e x) (is_absent f) = absurd (some_or_none e f)
  file_once once {s} {t} {a} {b} v w (is_found {text = text} e x) (is_found {text = other} f y) = once text s t a b x (subst (λ (bytes : List ℕ). AnswersFor bytes t b) (some_once f e) y)
