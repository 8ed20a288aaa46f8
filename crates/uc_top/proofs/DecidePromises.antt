-- What a run of `decide` by a search keeps.
use Rattle.std.proofs.Common.{ℕ, ◌≡◌, ◌≤◌, List, ◌∷◌, Option, Some, Result, Ok, Err, sym, ap, ◌∙◌, subst, arith}
use Rattle.std.specs.Result.{IfOk}
use Rattle.std.specs.declared.alloc.AllocError.{AllocError}
use Rattle.uc_edge.specs.Files.{Files}
use Rattle.uc_words.specs.declared.command.Command.{Command}
use Rattle.uc_words.specs.declared.command.Verb.TheVariants as verb
use Rattle.uc_words.specs.Reads.{Reads}
use Rattle.uc_words.proofs.Only.{only}
use Rattle.uc_problem.proofs.Outcomes.{some_or_none}
use Rattle.uc_answer.specs.declared.answer.Answer.{Answer}
use Rattle.uc_answer.specs.Lines.{joined}
use Rattle.uc_top.specs.Told.{IsTold, told, cut_short}
use Rattle.uc_top.specs.DecideRuns.{KeepsDecision, KeepsDecideCommand, KeepsDecideWord}
use Rattle.uc_top.proofs.Positionals.{head_name, tail_names}

-- a run that tells an answer that keeps its promise keeps its word
pub keeps_decide_word : (files : Files) (all : List (List ℕ)) (old new : Option (List ℕ)) (before now : ℕ) (text : List ℕ) (status result : ℕ) → IsTold old new before now text status result → (status ≤ 2 → (command : Command) → Reads all command → command.verb ≡ verb.Decide → KeepsDecideCommand files command status text) → KeepsDecideWord files all old new result
keeps_decide_word files all old new before now text status _ (told written) keeps command name words reads is_decide none names few = (text, keeps few command reads is_decide name words none names, written)
keeps_decide_word files all old new before now text status _ (cut_short short part rose) keeps command name words reads is_decide none names few = absurd (omega (arith, few))

-- words have one command, so what is kept for it is kept for the words
decided_by : (files : Files) (words : List (List ℕ)) (command : Command) (status : ℕ) (text : List ℕ) → Reads words command → (command.verb ≡ verb.Decide → KeepsDecideCommand files command status text) → (other : Command) → Reads words other → other.verb ≡ verb.Decide → KeepsDecideCommand files other status text
decided_by files words command status text reads h other read v =
    let one : command ≡ other = only words command other reads read in
    subst (λ (k : Command). KeepsDecideCommand files k status text) one (h (ap (λ (k : Command). k.verb) one ∙ v))

pub decided_answers : (words : List (List ℕ)) (command : Command) (holds : Option Files) (r : Result Answer AllocError) → Reads words command → (command.verb ≡ verb.Decide → IfOk r (λ answer. answer.status ≤ 2 → (files : Files) → holds ≡ Some files → KeepsDecideCommand files command answer.status (joined answer.lines))) → IfOk r (λ answer. answer.status ≤ 2 → (files : Files) → holds ≡ Some files → (other : Command) → Reads words other → other.verb ≡ verb.Decide → KeepsDecideCommand files other answer.status (joined answer.lines))
decided_answers words command holds (Ok answer) reads h = λ few files told. decided_by files words command answer.status (joined answer.lines) reads (λ v. h v few files told)
decided_answers words command holds (Err fault) reads h = tt

-- what is kept for the command's own positionals is kept for the command
pub kept_answers : (command : Command) (name : List ℕ) (words : List (List ℕ)) (holds : Option Files) (r : Result Answer AllocError) → command.positionals ≡ name ∷ words → IfOk r (λ answer. answer.status ≤ 2 → (files : Files) → holds ≡ Some files → KeepsDecision files command name words answer.status (joined answer.lines)) → IfOk r (λ answer. answer.status ≤ 2 → (files : Files) → holds ≡ Some files → KeepsDecideCommand files command answer.status (joined answer.lines))
kept_answers command name words holds (Ok answer) names k = λ few files told other asked none is.
    let names_are : name ∷ words ≡ other ∷ asked = sym names ∙ is in
    subst (λ n. KeepsDecision files command n asked answer.status (joined answer.lines)) (head_name names_are) (subst (λ ws. KeepsDecision files command name ws answer.status (joined answer.lines)) (tail_names names_are) (k few files told))
kept_answers command name words holds (Err fault) names k = tt

-- nothing of this kind is kept where the command is given a certificate
pub given_answers : (command : Command) (file : List ℕ) (holds : Option Files) (r : Result Answer AllocError) → command.system ≡ Some file → IfOk r (λ answer. answer.status ≤ 2 → (files : Files) → holds ≡ Some files → KeepsDecideCommand files command answer.status (joined answer.lines))
given_answers command file holds (Ok answer) given = λ few files told name words none is. absurd (some_or_none given none)
given_answers command file holds (Err fault) given = tt
