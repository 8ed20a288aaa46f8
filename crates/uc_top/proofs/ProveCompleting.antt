-- How `prove` ends.
use Rattle.std.proofs.Common.{ℕ, ◌≡◌, ◌≤◌, List, [], Option, Some, Result, Ok, Err, refl, sym, ap, ◌∙◌, subst, arith}
use Rattle.std.specs.Result.{IfOk}
use Rattle.std.specs.declared.alloc.AllocError.{AllocError}
use Rattle.std.specs.Io.KnownBytes.{Appends}
use Rattle.uc_term.specs.Table.{Table, IsDistinct}
use Rattle.uc_edge.specs.Files.{Files}
use Rattle.uc_edge.specs.Faults.{Rose}
use Rattle.uc_problem.specs.declared.problem.Problem.{Problem}
use Rattle.uc_problem.specs.declared.problem.Encoded.{Encoded}
use Rattle.uc_problem.specs.Holds.{Holds}
use Rattle.uc_problem.specs.Encodes.{Encodes}
use Rattle.uc_problem.specs.Filling.{AddsMarks}
use Rattle.uc_problem.proofs.FreshMarks.{signature_has}
use Rattle.uc_problem.proofs.AddedOnce.{distinct_earlier, marks_add_once}
use Rattle.uc_problem.proofs.MarksOnce.{marked_or_large}
use Rattle.uc_problem.proofs.RefusedOnce.{filled_or_refused}
use Rattle.uc_order.specs.declared.spec.OrderSpec.{OrderSpec}
use Rattle.uc_words.specs.declared.command.Command.{Command}
use Rattle.uc_words.specs.declared.command.Verb.TheVariants as verb
use Rattle.uc_words.specs.Reads.{Reads}
use Rattle.uc_words.proofs.Only.{only}
use Rattle.uc_ordering.specs.Choice.{IsChosen, IsChoiceFault}
use Rattle.uc_ordering.proofs.Once.{chosen_or_refused}
use Rattle.uc_answer.specs.declared.answer.Answer.{Answer}
use Rattle.uc_answer.specs.Lines.{joined}
use Rattle.uc_top.specs.Loaded.{IsLoaded}
use Rattle.uc_top.specs.Told.{IsTold, told, cut_short}
use Rattle.uc_top.specs.ProveAnswers.{IsProveAnswer, is_unordered, is_searched, has_large_goal, ProveAnswers, fetch_fails, is_refused, is_loaded}
use Rattle.uc_top.specs.Runs.{MayAnswer, is_answer, wants_memory, IsRun}
use Rattle.uc_top.specs.ProveRuns.{KeepsCommand, KeepsWord, IsHeldAnswer, ProveEnds, tells_verdict, lacks_memory, CompletesProve}
use Rattle.uc_top.proofs.Positionals.{only_name}
use Rattle.uc_top.proofs.ByVerb.{OfProve, of_verb}
use Rattle.uc_top.proofs.Completing.{told_whole}
use Rattle.uc_top.proofs.LoadedOnce.{loaded_once}
use Rattle.uc_top.proofs.EncodedTables.{marks_grow}

-- The encoding makes this table of the one that loading leaves, and the words name an order.
module _ (files : Files) (loaded table : Table) (distinct : IsDistinct table) (command : Command) (name : List ℕ) (problem : Problem) (encoded : Encoded) (spec : OrderSpec) (held : IsLoaded files command.root name loaded problem) (adds : AddsMarks loaded table encoded.fresh) (encodes : Encodes table problem (Ok encoded)) (is_chosen : IsChosen table problem.signature command.order encoded.fresh spec) where
  -- what is answered for the problem
  answer_ends : {own : Table} {status : ℕ} {text : List ℕ} → IsDistinct own → Holds own files command.root name problem → IsProveAnswer own command name loaded problem status text → IsHeldAnswer files command name status text
  answer_ends d h (has_large_goal {number = number} m g) = absurd (marked_or_large table problem encoded.fresh number encodes.0 m)
  answer_ends {own = own} d h (is_unordered {encoded = other} {why = why} i e x n) =
      let same : own ≡ table = marks_add_once problem loaded own table d distinct (signature_has loaded problem held.holds.agrees) other.fresh encoded.fresh i adds e.0 encodes.0 in
      absurd (chosen_or_refused table problem.signature command.order encoded.fresh spec why n is_chosen (subst (λ (t : Table). IsChoiceFault t problem.signature command.order why) same x))
  answer_ends {own = own} d h (is_searched {encoded = other} {spec = own_spec} {v = v} {s = s} {text = told_text} i e c x a) = record {
    table = own;
    distinct = d;
    loaded = loaded;
    problem = problem;
    filled = held.filled;
    holds = h;
    encoded = other;
    adds = i;
    encodes = e;
    spec = own_spec;
    chosen = c;
    verdict = v;
    state = s;
    searched = x;
    text = told_text;
    answers = a;
    status_is = refl;
    answer_is = refl;
  }

  prove_ends : (before now : ℕ) → (Rose before now → ⊥) → {status : ℕ} {text : List ℕ} → ProveAnswers command name (Some files) before now status text → IsHeldAnswer files command name status text
  prove_ends before now well (fetch_fails file rose stops) = absurd (well rose)
  prove_ends before now well (is_refused why r e) = absurd (filled_or_refused files command.root name [] loaded problem held.filled r)
  prove_ends before now well {status} {text} (is_loaded {loaded = flat} {table = own} {problem = other} c l d h a) =
      let first = distinct_earlier loaded table (marks_grow loaded table encoded.fresh adds) distinct in
      let one = loaded_once files command.root name loaded first problem held c l in
      answer_ends d (subst (λ (p : Problem). Holds own files command.root name p) one.1 h)
      (subst (λ (p : Problem). IsProveAnswer own command name loaded p status text) one.1 (subst (λ (t : Table). IsProveAnswer own command name t other status text) one.0 a))

module _ (files : Files) (before now : ℕ) (well : Rose before now → ⊥) (words : List (List ℕ)) (old new : Option (List ℕ)) where
  whole : {status result : ℕ} {text : List ℕ} → MayAnswer (Some files) before now words status text → Appends old new text → result ≡ status → CompletesProve files words old new result
  whole wants_memory written e command name loaded table problem encoded spec reads is_prove names distinct held adds encodes is_chosen = rw e (lacks_memory written)
  whole {status} {result} {text} (is_answer a) written e command name loaded table problem encoded spec reads is_prove names distinct held adds encodes is_chosen = go (of_verb (Some files) before now words verb.Prove is_prove reads a)
    where
      go : OfProve (Some files) before now command status text → ProveEnds files command name old new result
      go p =
          let answer : ProveAnswers command name (Some files) before now status text = subst (λ n. ProveAnswers command n (Some files) before now status text) (only_name (sym p.1 ∙ names)) p.2 in
          rw e (tells_verdict (prove_ends files loaded table distinct command name problem encoded spec held adds encodes is_chosen before now well answer) written)

pub prove_completes : (holds : Option Files) (before now : ℕ) (words : List (List ℕ)) (old new : Option (List ℕ)) (write_before write_now result : ℕ) → IsRun holds before now words old new write_before write_now result → (files : Files) → holds ≡ Some files → (Rose before now → ⊥) → (Rose write_before write_now → ⊥) → CompletesProve files words old new result
prove_completes holds before now words old new write_before write_now result run files tells well told_well =
    let at = subst (λ (o : Option Files). IsRun o before now words old new write_before write_now result) tells run in
    let t = told_whole told_well at.told in
    whole files before now well words old new at.answer t.0 t.1

-- THE PROMISE

-- a run that tells an answer that keeps its promise keeps its word
pub keeps_word : (files : Files) (words : List (List ℕ)) (old new : Option (List ℕ)) (before now : ℕ) (text : List ℕ) (status result : ℕ) → IsTold old new before now text status result → (status ≤ 2 → (command : Command) → Reads words command → command.verb ≡ verb.Prove → KeepsCommand files command status text) → KeepsWord files words old new result
keeps_word files words old new before now text status _ (told written) keeps command name reads is_prove names few = (text, keeps few command reads is_prove name names, written)
keeps_word files words old new before now text status _ (cut_short short part rose) keeps command name reads is_prove names few = absurd (omega (arith, few))

-- words have one command, so what is kept for it is kept for the words
pub promised_by : (files : Files) (words : List (List ℕ)) (command : Command) (status : ℕ) (text : List ℕ) → Reads words command → (command.verb ≡ verb.Prove → KeepsCommand files command status text) → (other : Command) → Reads words other → other.verb ≡ verb.Prove → KeepsCommand files other status text
promised_by files words command status text reads h other read v =
    let one : command ≡ other = only words command other reads read in
    subst (λ (k : Command). KeepsCommand files k status text) one (h (ap (λ (k : Command). k.verb) one ∙ v))

pub promised_answers : (words : List (List ℕ)) (command : Command) (holds : Option Files) (r : Result Answer AllocError) → Reads words command → (command.verb ≡ verb.Prove → IfOk r (λ answer. answer.status ≤ 2 → (files : Files) → holds ≡ Some files → KeepsCommand files command answer.status (joined answer.lines))) → IfOk r (λ answer. answer.status ≤ 2 → (files : Files) → holds ≡ Some files → (other : Command) → Reads words other → other.verb ≡ verb.Prove → KeepsCommand files other answer.status (joined answer.lines))
promised_answers words command holds (Ok answer) reads h = λ few files told. promised_by files words command answer.status (joined answer.lines) reads (λ v. h v few files told)
promised_answers words command holds (Err fault) reads h = tt
