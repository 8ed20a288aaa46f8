-- How `gen` ends, and what it shows.
use Rattle.std.proofs.Common.{ℕ, ◌≡◌, ◌≤◌, List, Option, refl, ◌∙◌, subst, arith}
use Rattle.std.specs.Io.KnownBytes.{Appends}
use Rattle.uc_edge.specs.Files.{Files}
use Rattle.uc_edge.specs.Faults.{Rose}
use Rattle.uc_words.specs.declared.command.Command.{Command}
use Rattle.uc_words.specs.declared.command.Verb.TheVariants as verb
use Rattle.uc_top.specs.GenAnswers.{IsCompleted, AreNumbers, GenAnswers}
use Rattle.uc_top.specs.GenRuns.{KeepsGenWord, tells_completed, lacks_memory, CompletesGen}
use Rattle.uc_top.specs.Runs.{MayAnswer, is_answer, wants_memory, IsRun}
use Rattle.uc_top.specs.Told.{IsTold, told, cut_short}
use Rattle.uc_top.proofs.ByVerb.{of_verb}
use Rattle.uc_top.proofs.Completing.{told_whole}
use Rattle.uc_top.proofs.GenKeeping.{counts, names_limit}
use Rattle.uc_top.proofs.GenOnce.{one_n, one_start}

-- the answer is that for the numbers that the words have
of_numbers : (command : Command) (n start : ℕ) {status : ℕ} {text : List ℕ} → AreNumbers command n start → GenAnswers command status text → IsCompleted command n start status text
of_numbers command n start {status} {text} numbers a =
    let by_n = subst (λ (m : ℕ). IsCompleted command m a.start status text) (one_n command numbers a.numbers) a.completed in
    subst (λ (from : ℕ). IsCompleted command n from status text) (one_start command numbers a.numbers) by_n

-- an answer that ends with such a status is told whole
whole_told : {old new : Option (List ℕ)} {before now : ℕ} {text : List ℕ} {status result : ℕ} → IsTold old new before now text status result → result ≤ 2 → Appends old new text × (status ≡ result)
whole_told (told whole) few = (whole, refl)
whole_told (cut_short short part rose) few = absurd (omega (arith, few))

module _ (holds : Option Files) (before now : ℕ) (words : List (List ℕ)) (old new : Option (List ℕ)) where
  ends : {status result : ℕ} {text : List ℕ} → MayAnswer holds before now words status text → Appends old new text → result ≡ status → CompletesGen words old new result
  ends wants_memory written e command n start reads is_gen numbers = rw e (lacks_memory written)
  ends (is_answer a) written e command n start reads is_gen numbers = rw e (tells_completed (of_numbers command n start numbers (of_verb holds before now words verb.Gen is_gen reads a)) written)

  pub gen_completes : (write_before write_now result : ℕ) → IsRun holds before now words old new write_before write_now result → (Rose write_before write_now → ⊥) → CompletesGen words old new result
  gen_completes write_before write_now result run well = let t = told_whole well run.told in ends run.answer t.0 t.1

  keeps : (write_before write_now : ℕ) {status result : ℕ} {text : List ℕ} → MayAnswer holds before now words status text → IsTold old new write_before write_now text status result → KeepsGenWord words old new result
  keeps write_before write_now wants_memory t command n start reads is_gen numbers = record {
    counted = λ e. (let p = whole_told t (omega (arith, e)) in absurd (omega (arith, e, p.1)));
    out = λ e. (let p = whole_told t (omega (arith, e)) in absurd (omega (arith, e, p.1)));
  }
  keeps write_before write_now {text = text} (is_answer a) t command n start reads is_gen numbers =
      let own = of_numbers command n start numbers (of_verb holds before now words verb.Gen is_gen reads a) in
      record {
        counted = λ e. (let p = whole_told t (omega (arith, e)) in (text, counts command n start (p.1 ∙ e) own, p.0));
        out = λ e. (let p = whole_told t (omega (arith, e)) in (text, names_limit command n start (p.1 ∙ e) own, p.0));
      }

  pub keeps_gen_word : (write_before write_now result : ℕ) → IsRun holds before now words old new write_before write_now result → KeepsGenWord words old new result
  keeps_gen_word write_before write_now result run = keeps write_before write_now run.answer run.told
