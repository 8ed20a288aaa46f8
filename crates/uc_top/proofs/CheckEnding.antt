-- How `check` ends.
use Rattle.std.proofs.Common.{ℕ, ◌+◌, ◌≡◌, ◌||◌, Bool, true, false, cond, List, [], ◌∷◌, codes, slice_get, position, Option, Some, None, Ok, Err, refl, sym, ap, ◌∙◌, subst}
use Rattle.std.specs.List.{list_any, position_from}
use Rattle.std.specs.Io.KnownBytes.{Appends}
use Rattle.std.proofs.lemmas.Iterator.Adapters.{position_from-zero}
use Rattle.uc_term.specs.declared.fresh.Fresh.{Fresh}
use Rattle.uc_term.specs.Table.{Table, IsDistinct}
use Rattle.uc_edge.specs.Files.{Files}
use Rattle.uc_edge.specs.Faults.{Rose}
use Rattle.uc_clause.specs.declared.clause.Sourced.{Sourced}
use Rattle.uc_problem.specs.declared.problem.Problem.{Problem}
use Rattle.uc_problem.specs.declared.fault.EncodeFault.TheVariants.{GoalTooLarge}
use Rattle.uc_problem.specs.Filling.{AddsMarks}
use Rattle.uc_problem.specs.Loading.{held}
use Rattle.uc_problem.specs.Marks.{Marks, is_too_large}
use Rattle.uc_problem.proofs.AddedOnce.{marks_add_once}
use Rattle.uc_problem.proofs.Outcomes.{some_once, some_or_none}
use Rattle.uc_problem.proofs.MarksOnce.{marks_once, marked_or_large, large_once}
use Rattle.uc_problem.proofs.FreshMarks.{signature_has}
use Rattle.uc_tstp.specs.declared.fault.ProofFault.{ProofFault}
use Rattle.uc_tstp.specs.declared.fault.ProofFault.TheVariants.{NoMemory}
use Rattle.uc_tstp.specs.Interning.{InternsProof}
use Rattle.uc_tstp.specs.Reading.{IsReading}
use Rattle.uc_check.specs.declared.proof.Proof.{Proof}
use Rattle.uc_check.specs.declared.proof.Line.{Line}
use Rattle.uc_check.specs.declared.checker.Checked.{Checked}
use Rattle.uc_check.specs.Checks.{IsChecked}
use Rattle.uc_check.proofs.Once.{checked_once}
use Rattle.uc_words.specs.declared.command.Command.{Command}
use Rattle.uc_words.specs.declared.command.Verb.TheVariants as verb
use Rattle.uc_words.specs.Reads.{Reads}
use Rattle.uc_answer.specs.Lines.{about_file, memory_line, checked_line, proof_line}
use Rattle.uc_answer.specs.Refusals.{large_line}
use Rattle.uc_top.specs.Answers.{checked_status, TextAnswers, is_not_read, is_checked, ProofAnswers, ProblemAnswers, has_large_goal, is_marked, CheckAnswers, Answers}
use Rattle.uc_top.specs.FileAnswers.{is_absent, isnt_fetched, is_found}
use Rattle.uc_top.specs.Loaded.{IsLoaded}
use Rattle.uc_top.specs.Runs.{MayAnswer, is_answer, wants_memory, IsRun, EndsWith, tells_all, tells_want, CheckEnds, tells_checked, checks_in_want, CheckCompletes, CompletesCheck}
use Rattle.uc_top.proofs.Positionals.{first_name, second_name}
use Rattle.uc_top.proofs.ReadTexts.{one_proof, one_fault, fault_or_proof}
use Rattle.uc_top.proofs.LoadedOnce.{answers_for}
use Rattle.uc_top.proofs.FileAnswering.{file_once}
use Rattle.uc_top.proofs.ByVerb.{of_verb}
use Rattle.uc_top.proofs.Completing.{told_whole}

none_passes : {X : Type 0} (p : X → Bool) (xs : List X) (n : ℕ) → list_any p xs ≡ false → position_from p n xs ≡ None
none_passes p [] n e = refl
none_passes p (x ∷ xs) n e = go (p x) e (none_passes p xs (n + 1))
  where
    go : (b : Bool) → (b || list_any p xs) ≡ false → (list_any p xs ≡ false → position_from p (n + 1) xs ≡ None) → cond b (Some n) (position_from p (n + 1) xs) ≡ None
    go true e later = absurd cc
    go false e later = later e

pub none_first : (ss : List Sourced) (n : ℕ) → list_any is_too_large ss ≡ false → position is_too_large ss ≡ Some n → ⊥
none_first ss n e at = some_or_none at (position_from-zero is_too_large ss ∙ none_passes is_too_large ss 0 e)

ends_so : {old new : Option (List ℕ)} {status result : ℕ} {text told : List ℕ} → text ≡ told → Appends old new text → result ≡ status → EndsWith status told old new result
ends_so {old} {new} {status} {result} {text} {told} e written r = subst (EndsWith status told old new) (sym r) (tells_all (subst (Appends old new) e written))

checked_so : {clauses : List Sourced} {marks : Option Fresh} {lines : List Line} {old new : Option (List ℕ)} {answer : Checked} {result : ℕ} {text : List ℕ} → text ≡ checked_line lines answer → IsChecked clauses marks lines answer → Appends old new text → result ≡ checked_status answer → CheckEnds clauses marks lines old new result
checked_so {clauses} {marks} {lines} {old} {new} e checked written r = subst (CheckEnds clauses marks lines old new) (sym r) (tells_checked checked (subst (Appends old new) e written))

-- the answers for a text, in one table
module _ (table : Table) (distinct : IsDistinct table) (clauses : List Sourced) (marks : Option Fresh) (name : List ℕ) where
  module _ (text : List ℕ) where
    unread_text : (read : Table) (why : ProofFault) {status : ℕ} {answer : List ℕ} → IsReading read text (Err why) → (why ≡ NoMemory → ⊥) → TextAnswers table clauses marks name text status answer → (status ≡ 3) × (answer ≡ proof_line name why)
    unread_text read why h n (is_not_read other {why = own} r m) = (refl, ap (proof_line name) (one_fault text table distinct other read own why m n r h))
    unread_text read why h n (is_checked {read = other} {proof = proof} i r c) = absurd (fault_or_proof text table other distinct i read why proof n h r)

    checked_text : (read : Table) (proof : Proof) {status : ℕ} {answer : List ℕ} → InternsProof text table read → IsReading read text (Ok proof) → TextAnswers table clauses marks name text status answer → (checked : Checked) × IsChecked clauses marks proof.lines checked × (status ≡ checked_status checked) × (answer ≡ checked_line proof.lines checked)
    checked_text read proof i h (is_not_read other {why = why} r n) = absurd (fault_or_proof text table read distinct i other why proof n r h)
    checked_text read proof i h (is_checked {read = other} {proof = own} {answer = checked} j r c) =
        let same : own ≡ proof = one_proof text table distinct other read own proof j i r h in
        (checked, subst (λ (p : Proof). IsChecked clauses marks p.lines checked) same c, refl, ap (λ (p : Proof). checked_line p.lines checked) same)

    text_once : {s t : ℕ} {a b : List ℕ} → TextAnswers table clauses marks name text s a → TextAnswers table clauses marks name text t b → (s ≡ t) × (a ≡ b)
    text_once (is_not_read read {why = why} h n) y = let q = unread_text read why h n y in (sym q.0, sym q.1)
    text_once (is_checked {read = read} {proof = proof} {answer = checked} i h c) y =
        let q = checked_text read proof i h y in
        let same : checked ≡ q.0 = checked_once clauses marks proof.lines c q.1 in
        (ap checked_status same ∙ sym q.2, ap (checked_line proof.lines) same ∙ sym q.3)

  proof_once : (files : Files) (before now again later : ℕ) {s t : ℕ} {a b : List ℕ} → (s ≡ 5 → Rose before now → ⊥) → (t ≡ 5 → Rose again later → ⊥) → ProofAnswers table (Some files) before now clauses marks name s a → ProofAnswers table (Some files) again later clauses marks name t b → (s ≡ t) × (a ≡ b)
  proof_once files before now again later v w x y = file_once files before now again later (TextAnswers table clauses marks name) name (λ text s t a b p q. text_once text p q) v w x y

-- the answers for a problem that is loaded
module _ (files : Files) (root : Option (List ℕ)) (name : List ℕ) (loaded : Table) (problem : Problem) (is_held : IsLoaded files root name loaded problem) where
  -- the encoding's symbols and their table are one
  module _ (table other : Table) (distinct : IsDistinct table) (others : IsDistinct other) (marks own : Option Fresh) (adds : AddsMarks loaded table marks) (own_adds : AddsMarks loaded other own) (marked : Marks table problem (Ok marks)) (own_marked : Marks other problem (Ok own)) where
    pub one_table : other ≡ table
    one_table = marks_add_once problem loaded other table others distinct (signature_has loaded problem is_held.holds.agrees) own marks own_adds adds own_marked marked

    one_mark : own ≡ marks
    one_mark = marks_once table problem distinct own marks (subst (λ (t : Table). Marks t problem (Ok own)) one_table own_marked) marked

    answers_there : (holds : Option Files) (before now : ℕ) (proof_name : List ℕ) {status : ℕ} {text : List ℕ} → ProofAnswers other holds before now problem.clauses own proof_name status text → ProofAnswers table holds before now problem.clauses marks proof_name status text
    answers_there holds before now proof_name {status} {text} a = subst (λ (m : Option Fresh). ProofAnswers table holds before now problem.clauses m proof_name status text) one_mark (subst (λ (t : Table). ProofAnswers t holds before now problem.clauses own proof_name status text) one_table a)

  -- so is the first goal that is too large
  pub one_goal : (number other : ℕ) (goal shown : Sourced) → Marks loaded problem (Err (GoalTooLarge number)) → slice_get problem.clauses number ≡ Some goal → Marks loaded problem (Err (GoalTooLarge other)) → slice_get problem.clauses other ≡ Some shown → large_line shown ≡ large_line goal
  one_goal number other goal shown m g k h =
      let numbers : number ≡ other = large_once loaded problem number other m k in
      ap large_line (some_once h (subst (λ (n : ℕ). slice_get problem.clauses n ≡ Some goal) numbers g))

  pub check_answers_once : (before now again later : ℕ) (proof_name : List ℕ) {s t : ℕ} {a b : List ℕ} → (s ≡ 5 → Rose before now → ⊥) → (t ≡ 5 → Rose again later → ⊥) → ProblemAnswers (Some files) before now proof_name loaded problem s a → ProblemAnswers (Some files) again later proof_name loaded problem t b → (s ≡ t) × (a ≡ b)
  check_answers_once before now again later proof_name v w (has_large_goal {number = number} {goal = goal} m g) (has_large_goal {number = other} {goal = shown} k h) = (refl, sym (one_goal number other goal shown m g k h))
  check_answers_once before now again later proof_name v w (has_large_goal {number = number} m g) (is_marked {table = table} {marks = marks} d i k y) = absurd (marked_or_large table problem marks number k m)
  check_answers_once before now again later proof_name v w (is_marked {table = table} {marks = marks} d i k x) (has_large_goal {number = number} m g) = absurd (marked_or_large table problem marks number k m)
  check_answers_once before now again later proof_name v w (is_marked {table = table} {marks = marks} d i m x) (is_marked {table = other} {marks = own} e j k y) = proof_once table d problem.clauses marks proof_name files before now again later v w x (answers_there table other d e marks own i j m k (Some files) again later proof_name y)

  -- the program's answer is told, and nothing failed
  module _ (before now : ℕ) (well : Rose before now → ⊥) (proof_name : List ℕ) (old new : Option (List ℕ)) (result : ℕ) where
    abbrev Answered : ℕ → List ℕ → Type 0
    Answered status text = ProblemAnswers (Some files) before now proof_name loaded problem status text

    large_ends : (number : ℕ) (goal : Sourced) → Marks loaded problem (Err (GoalTooLarge number)) → slice_get problem.clauses number ≡ Some goal → {status : ℕ} {text : List ℕ} → Answered status text → Appends old new text → result ≡ status → EndsWith 3 (large_line goal) old new result
    large_ends number goal m g (has_large_goal {number = other} {goal = shown} k h) written e = ends_so (one_goal number other goal shown m g k h) written e
    large_ends number goal m g (is_marked {table = table} {marks = marks} d i k a) written e = absurd (marked_or_large table problem marks number k m)

    absent_ends : list_any is_too_large problem.clauses ≡ false → held files proof_name ≡ None → {status : ℕ} {text : List ℕ} → Answered status text → Appends old new text → result ≡ status → EndsWith 3 (about_file proof_name (codes "Absent")) old new result
    absent_ends n h (has_large_goal {number = other} m g) written e = absurd (none_first problem.clauses other n m)
    absent_ends n h (is_marked d i m (is_absent a)) written e = ends_so refl written e
    absent_ends n h (is_marked d i m (isnt_fetched r)) written e = absurd (well r)
    absent_ends n h (is_marked d i m (is_found a x)) written e = absurd (some_or_none a h)

    text_unread : (table : Table) (distinct : IsDistinct table) (marks : Option Fresh) (text : List ℕ) (read : Table) (why : ProofFault) → IsReading read text (Err why) → (why ≡ NoMemory → ⊥) → {status : ℕ} {told : List ℕ} → TextAnswers table problem.clauses marks proof_name text status told → Appends old new told → result ≡ status → EndsWith 3 (proof_line proof_name why) old new result
    text_unread table distinct marks text read why h n x written e =
        let q = unread_text table distinct problem.clauses marks proof_name text read why h n x in
        ends_so q.1 written (e ∙ q.0)

    unread_ends : list_any is_too_large problem.clauses ≡ false → (read : Table) (text : List ℕ) (why : ProofFault) → held files proof_name ≡ Some text → IsReading read text (Err why) → (why ≡ NoMemory → ⊥) → {status : ℕ} {told : List ℕ} → Answered status told → Appends old new told → result ≡ status → EndsWith 3 (proof_line proof_name why) old new result
    unread_ends n read text why h r m (has_large_goal {number = other} k g) written e = absurd (none_first problem.clauses other n k)
    unread_ends n read text why h r m (is_marked d i k (is_absent a)) written e = absurd (some_or_none h a)
    unread_ends n read text why h r m (is_marked d i k (isnt_fetched f)) written e = absurd (well f)
    unread_ends n read text why h r m {status} {told} (is_marked {table = table} {marks = marks} d i k (is_found {text = found} a x)) written e = text_unread table d marks text read why r m (subst (λ (t : List ℕ). TextAnswers table problem.clauses marks proof_name t status told) (some_once a h) x) written e

    module _ (table read : Table) (marks : Option Fresh) (distinct : IsDistinct table) (adds : AddsMarks loaded table marks) (marked : Marks table problem (Ok marks)) (text : List ℕ) (proof : Proof) (h : held files proof_name ≡ Some text) (interns : InternsProof text table read) (r : IsReading read text (Ok proof)) where
      text_read : {status : ℕ} {told : List ℕ} → TextAnswers table problem.clauses marks proof_name text status told → Appends old new told → result ≡ status → CheckEnds problem.clauses marks proof.lines old new result
      text_read x written e =
          let q = checked_text table distinct problem.clauses marks proof_name text read proof interns r x in
          checked_so q.3 q.1 written (e ∙ q.2)

      proof_read : {status : ℕ} {told : List ℕ} → ProofAnswers table (Some files) before now problem.clauses marks proof_name status told → Appends old new told → result ≡ status → CheckEnds problem.clauses marks proof.lines old new result
      proof_read (is_absent a) written e = absurd (some_or_none h a)
      proof_read (isnt_fetched f) written e = absurd (well f)
      proof_read {status} {told} (is_found {text = found} a x) written e = text_read (subst (λ (t : List ℕ). TextAnswers table problem.clauses marks proof_name t status told) (some_once a h) x) written e

      read_ends : {status : ℕ} {told : List ℕ} → Answered status told → Appends old new told → result ≡ status → CheckEnds problem.clauses marks proof.lines old new result
      read_ends (has_large_goal {number = other} k g) written e = absurd (marked_or_large table problem marks other marked k)
      read_ends (is_marked {table = other} {marks = own} d i k a) written e = proof_read (answers_there table other distinct d marks own adds i marked k (Some files) before now proof_name a) written e

    completes_so : {status : ℕ} {told : List ℕ} → Answered status told → Appends old new told → result ≡ status → CheckCompletes loaded files problem proof_name old new result
    completes_so a written e = record {
      large = λ number goal m g. large_ends number goal m g a written e;
      absent = λ n h. absent_ends n h a written e;
      unread = λ n read text why h r m. unread_ends n read text why h r m a written e;
      read = λ table read marks d i m text proof h j r. read_ends table read marks d i m text proof h j r a written e;
    }

-- want of memory
want_ends : (loaded : Table) (files : Files) (problem : Problem) (proof_name : List ℕ) (old new : Option (List ℕ)) → Appends old new memory_line → CheckCompletes loaded files problem proof_name old new 7
want_ends loaded files problem proof_name old new written = record {
  large = λ number goal m g. tells_want written;
  absent = λ n h. tells_want written;
  unread = λ n read text why h r m. tells_want written;
  read = λ table read marks d i m text proof h j r. checks_in_want written;
}

module _ (files : Files) (before now : ℕ) (well : Rose before now → ⊥) (words : List (List ℕ)) (command : Command) (name proof_name : List ℕ) (reads : Reads words command) (is_check : command.verb ≡ verb.Check) (names : command.positionals ≡ name ∷ proof_name ∷ []) where
  -- the words' answer is that of `check`
  answered : {status : ℕ} {text : List ℕ} → Answers (Some files) before now words status text → CheckAnswers (Some files) before now command.root name proof_name status text
  answered {status} {text} a =
      let p = of_verb (Some files) before now words verb.Check is_check reads a in
      let names_are : p.0 ∷ p.1 ∷ [] ≡ name ∷ proof_name ∷ [] = sym p.2 ∙ names in
      subst (λ n. CheckAnswers (Some files) before now command.root n proof_name status text) (first_name names_are) (subst (λ n. CheckAnswers (Some files) before now command.root p.0 n status text) (second_name names_are) p.3)

  ends : (loaded : Table) (problem : Problem) (distinct : IsDistinct loaded) (is_held : IsLoaded files command.root name loaded problem) (old new : Option (List ℕ)) {status result : ℕ} {text : List ℕ} → MayAnswer (Some files) before now words status text → Appends old new text → result ≡ status → CheckCompletes loaded files problem proof_name old new result
  ends loaded problem distinct is_held old new wants_memory written e = rw e (want_ends loaded files problem proof_name old new written)
  ends loaded problem distinct is_held old new {result = result} (is_answer a) written e =
      let own = answers_for files command.root name loaded distinct problem is_held (ProblemAnswers (Some files) before now proof_name) before now (λ five rose. well rose) (answered a) in
      completes_so files command.root name loaded problem is_held before now well proof_name old new result own written e

-- the same where the library is said to tell these files
pub completes_check : (holds : Option Files) (before now : ℕ) (words : List (List ℕ)) (old new : Option (List ℕ)) (write_before write_now result : ℕ) → IsRun holds before now words old new write_before write_now result → (files : Files) → holds ≡ Some files → (Rose before now → ⊥) → (Rose write_before write_now → ⊥) → CompletesCheck files words old new result
completes_check holds before now words old new write_before write_now result run files tells well told_well command name proof_name loaded problem reads is_check names distinct is_held =
    let at = subst (λ (o : Option Files). IsRun o before now words old new write_before write_now result) tells run in
    let t = told_whole told_well at.told in
    ends files before now well words command name proof_name reads is_check names loaded problem distinct is_held old new at.answer t.0 t.1
