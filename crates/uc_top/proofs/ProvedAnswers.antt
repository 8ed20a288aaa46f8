-- From what the calls beneath `prove` promise to its answers.
use Rattle.std.proofs.Common.{ℕ, ◌≡◌, ◌<◌, ◌≤◌, ◌&&◌, true, List, [], ◌∷◌, ◌++◌, codes, length, get_or, Option, Some, None, Result, Ok, Err, refl, ap, ◌∙◌, subst, arith, nat_le}
use Rattle.std.specs.List.{list_all}
use Rattle.std.specs.Result.{IfOk}
use Rattle.std.specs.declared.alloc.AllocError.{AllocError}
use Rattle.std.specs.Prelude.{not}
use Rattle.std.proofs.lemmas.Bool.{and_parts, leb-true, ne_eqb}
use Rattle.std.proofs.lemmas.Option.{slice_get_read}
use Rattle.uc_term.specs.Table.{Table, Grows, IsDistinct}
use Rattle.uc_edge.specs.Files.{Files}
use Rattle.uc_clause.specs.Bytes.{in_line}
use Rattle.uc_clause.specs.declared.clause.Sourced.{Sourced}
use Rattle.uc_clause.specs.declared.fault.ClauseFault.{ClauseFault}
use Rattle.uc_clause.specs.declared.fault.ClauseFault.TheVariants as clause
use Rattle.uc_problem.specs.declared.fault.LoadFault.{LoadFault}
use Rattle.uc_problem.specs.declared.fault.LoadFault.TheVariants as load
use Rattle.uc_problem.specs.declared.fault.EncodeFault.TheVariants.{GoalTooLarge}
use Rattle.uc_problem.specs.declared.problem.Problem.{Problem}
use Rattle.uc_problem.specs.declared.problem.Encoded.{Encoded}
use Rattle.uc_problem.specs.Holds.{Agrees, Holds, IsProblem}
use Rattle.uc_problem.specs.Encodes.{Encodes, IsEncoded}
use Rattle.uc_problem.specs.Filling.{WhereTold, IsFilled, AddsMarks}
use Rattle.uc_problem.specs.Marks.{Marks}
use Rattle.uc_problem.proofs.MarksOnce.{marks_once}
use Rattle.uc_term.specs.declared.fresh.Fresh.{Fresh}
use Rattle.uc_problem.proofs.Later.{Grows-refl}
use Rattle.uc_order.specs.declared.spec.OrderSpec.{OrderSpec}
use Rattle.uc_order.specs.Laws.{Meaning}
use Rattle.uc_machine.specs.declared.event.Verdict.{Verdict}
use Rattle.uc_machine.specs.State.{Opening, State}
use Rattle.uc_worker.specs.Ends.{IsSearchedBy}
use Rattle.uc_words.specs.declared.command.Command.{Command}
use Rattle.uc_ordering.specs.declared.fault.ChoiceFault.{ChoiceFault}
use Rattle.uc_ordering.specs.declared.fault.ChoiceFault.TheVariants.{NoMemory}
use Rattle.uc_ordering.specs.Choice.{IsChosen, IsChoiceFault}
use Rattle.uc_ordering.specs.Fits.{Fits}
use Rattle.uc_ordering.specs.Meaning.{meaning_of}
use Rattle.uc_answer.specs.declared.answer.Answer.{Answer}
use Rattle.uc_answer.specs.Lines.{joined, load_line}
use Rattle.uc_answer.specs.ChoiceLines.{choice_line}
use Rattle.uc_answer.specs.Refusals.{load_status, large_line}
use Rattle.uc_answer.specs.PrintableProblems.{are_seen, IsRootSeen, CanBePrinted}
use Rattle.uc_answer.specs.StatusLines.{status_line, unloaded_word}
use Rattle.uc_answer.specs.VerdictLines.{verdict_status, trace_if, opening_for, HasEnded, VerdictAnswers}
use Rattle.uc_answer.specs.Promises.{Keeps}
use Rattle.uc_answer.proofs.PrintableFiles.{held_printable}
use Rattle.uc_top.specs.ProveAnswers.{IsProveAnswer, has_large_goal, is_unordered, is_searched, ProveAnswers, fetch_fails, is_refused, is_loaded}
use Rattle.uc_top.specs.ProveRuns.{KeepsPromise}
use Rattle.uc_top.specs.HandedOn.{IsHeld, IsUnheld}
use Rattle.uc_top.proofs.HandingOn.{held}
use Rattle.uc_top.proofs.Answering.{one_line, not_loaded, large_within}

-- A STATUS ABOVE 2

-- an answer with such a status promises nothing
pub no_promise : (Q : Answer → Type 0) (n : ℕ) (line : List ℕ) (r : Result Answer AllocError) → 2 < n → IfOk r (λ answer. (answer.status ≡ n) × (joined answer.lines ≡ line)) → IfOk r (λ answer. answer.status ≤ 2 → Q answer)
no_promise Q n line (Ok answer) high h = λ few. absurd (omega (arith, high, few, h.0))
no_promise Q n line (Err fault) high h = tt

high_clause : (file : List ℕ) (why : ClauseFault) → 2 < load_status (load.Clause file why)
high_clause file (clause.Syntax p) = omega arith
high_clause file (clause.NotUnit p) = omega arith
high_clause file (clause.NotEquality p) = omega arith
high_clause file (clause.BadRole p w) = omega arith
high_clause file (clause.Unsupported p w) = omega arith
high_clause file (clause.Limit p w) = omega arith
high_clause file clause.NoMemory = omega arith

pub high_status : (why : LoadFault) → 2 < load_status why
high_status (load.Absent f from) = omega arith
high_status (load.ReadFault f) = omega arith
high_status (load.TooDeep f p) = omega arith
high_status (load.NoSuchName f p n) = omega arith
high_status (load.ArityClash f p n a b) = omega arith
high_status (load.Limit f p w) = omega arith
high_status (load.Clause f w) = high_clause f w
high_status load.NoMemory = omega arith

-- A PROBLEM THAT ISN'T LOADED

module _ (command : Command) (name : List ℕ) (holds : Option Files) (before now : ℕ) where
  pub unloaded : (why : LoadFault) (r : Result Answer AllocError) → IsUnheld holds before now command.root name why → IfOk r (λ answer. (answer.status ≡ load_status why) × (joined answer.lines ≡ status_line (unloaded_word why) name ++ load_line why)) → IfOk r (λ answer. answer.status ≡ 7 → ⊥) → IfOk r (λ answer. ProveAnswers command name holds before now answer.status (joined answer.lines))
  unloaded why (Ok answer) u line n =
      one_line (Ok answer) (ProveAnswers command name holds before now) (load_status why) (status_line (unloaded_word why) name ++ load_line why) line
      (not_loaded command.root name u.table before now holds (λ status reason. ProveAnswers command name holds before now status (status_line (unloaded_word reason) name ++ load_line reason)) (λ file r x. fetch_fails file r x) (λ reason x e. is_refused reason x e) why (λ e. n (line.0 ∙ e)) u.refused u.stopped)
  unloaded why (Err fault) u line n = tt

-- A PROBLEM THAT IS LOADED

-- the problem, in a later table
held_problem : (table later : Table) (holds : Option Files) (root : Option (List ℕ)) (name : List ℕ) (problem : Problem) → Grows table later → IsProblem table holds root name problem → WhereTold holds (λ files. Holds later files root name problem)
held_problem table later None root name problem g h = tt
held_problem table later (Some files) root name problem g h = h later g

pub loaded : (table later : Table) (command : Command) (name : List ℕ) (holds : Option Files) (before now : ℕ) (problem : Problem) (r : Result Answer AllocError) → IsHeld holds command.root name table problem → Grows table later → IsDistinct later → IfOk r (λ answer. IsProveAnswer later command name table problem answer.status (joined answer.lines)) → IfOk r (λ answer. ProveAnswers command name holds before now answer.status (joined answer.lines))
loaded table later command name holds before now problem (Ok answer) h g distinct a = is_loaded h.distinct (held holds command.root name table problem h) distinct (held_problem table later holds command.root name problem g h.is_problem) a
loaded table later command name holds before now problem (Err fault) h g distinct a = tt

-- visible bytes and spaces end no line
byte_in_line : (b : ℕ) → 32 ≤ b → in_line b ≡ true
byte_in_line b h = ap not (ne_eqb b 10 (λ e. omega (arith, h, e)))

seen_in_line : (bytes : List ℕ) → are_seen bytes ≡ true → list_all in_line bytes ≡ true
seen_in_line [] e = refl
seen_in_line (b ∷ bs) e =
    let p = and_parts (nat_le 32 b && nat_le b 126) (are_seen bs) e in
    let low = leb-true 32 b (and_parts (nat_le 32 b) (nat_le b 126) p.0).0 in
    rw (byte_in_line b low) (seen_in_line bs p.1)

pub loaded_kept : (table later : Table) (command : Command) (name : List ℕ) (holds : Option Files) (problem : Problem) (r : Result Answer AllocError) → IsHeld holds command.root name table problem → Grows table later → IsDistinct later → are_seen name ≡ true → 0 < length name → IsRootSeen command.root → IfOk r (λ answer. answer.status ≤ 2 → CanBePrinted later name problem → Keeps later command name problem answer.status (joined answer.lines)) → IfOk r (λ answer. answer.status ≤ 2 → IsDistinct later → (fresh : Option Fresh) → Marks later problem (Ok fresh) → AddsMarks table later fresh) → IfOk r (λ answer. answer.status ≤ 2 → (files : Files) → holds ≡ Some files → KeepsPromise files command name answer.status (joined answer.lines))
loaded_kept table later command name holds problem (Ok answer) h g distinct seen some root k marks = λ few files told.
    let there : Holds later files command.root name problem = subst (λ (o : Option Files). IsProblem table o command.root name problem) told h.is_problem later g in
    let can : CanBePrinted later name problem = record { name = (some, seen_in_line name seen); clauses = held_printable later files command.root name problem (some, seen) root there } in
    let filled = subst (λ (o : Option Files). WhereTold o (λ files. IsFilled files command.root name [] table problem)) told h.filled in
    let keeps = k few can in
    record { table = later; distinct = distinct; is_kept = record { problem = problem; holds = there; keeps = keeps; loaded = table; filled = filled }; adds = marks few distinct keeps.fresh keeps.marked }
loaded_kept table later command name holds problem (Err fault) h g distinct seen some root k marks = tt

-- what holds of every answer
pub for_any : {P : Answer → Type 0} (r : Result Answer AllocError) → ((answer : Answer) → P answer) → IfOk r P
for_any (Ok answer) h = h answer
for_any (Err fault) h = tt

-- A PROBLEM THAT IS ENCODED

module _ (table : Table) (command : Command) (name : List ℕ) (problem : Problem) where
  -- encoding makes the table of this one
  abbrev pub Answers : Table → Result Answer AllocError → Type 0
  Answers before r = IfOk r (λ answer. IsProveAnswer table command name before problem answer.status (joined answer.lines))

  abbrev pub Promises : Result Answer AllocError → Type 0
  Promises r = IfOk r (λ answer. answer.status ≤ 2 → CanBePrinted table name problem → Keeps table command name problem answer.status (joined answer.lines))

  -- by a later table
  pub large : (before : Table) (number : ℕ) (goal : Sourced) (told : Answer) (r : Result Answer AllocError) → IsEncoded table problem (Err (GoalTooLarge number)) → goal ≡ get_or problem.clauses number goal → (told.status ≡ 3) × (joined told.lines ≡ large_line goal) → IfOk r (λ made. (made.status ≡ told.status) × (joined made.lines ≡ status_line (codes "InputError") name ++ joined told.lines)) → Answers before r
  large before number goal told (Ok made) h at line m = rw (m.0 ∙ line.0, m.1, line.1) (has_large_goal {number = number} (h table (Grows-refl table)) (slice_get_read problem.clauses (length problem.clauses) number goal refl (large_within table problem number h) at))
  large before number goal told (Err fault) h at line m = tt

  pub large_promises : (told : Answer) (line : List ℕ) (r : Result Answer AllocError) → told.status ≡ 3 → IfOk r (λ made. (made.status ≡ told.status) × (joined made.lines ≡ line)) → Promises r
  large_promises told line (Ok made) three m = λ few. absurd (omega (arith, few, three, m.0))
  large_promises told line (Err fault) three m = tt

  -- by the marks that were added, whichever the problem's marks are
  pub marks_added : (before : Table) (encoded : Encoded) → AddsMarks before table encoded.fresh → Encodes table problem (Ok encoded) → IsDistinct table → (fresh : Option Fresh) → Marks table problem (Ok fresh) → AddsMarks before table fresh
  marks_added before encoded i e distinct fresh m = subst (AddsMarks before table) (marks_once table problem distinct encoded.fresh fresh e.0 m) i

  pub large_adds : (before : Table) (told : Answer) (line : List ℕ) (r : Result Answer AllocError) → told.status ≡ 3 → IfOk r (λ made. (made.status ≡ told.status) × (joined made.lines ≡ line)) → IfOk r (λ answer. answer.status ≤ 2 → IsDistinct table → (fresh : Option Fresh) → Marks table problem (Ok fresh) → AddsMarks before table fresh)
  large_adds before told line (Ok made) three m = λ few. absurd (omega (arith, few, three, m.0))
  large_adds before told line (Err fault) three m = tt

  -- AN ORDER

  pub unordered : (before : Table) (encoded : Encoded) (why : ChoiceFault) (r : Result Answer AllocError) → AddsMarks before table encoded.fresh → Encodes table problem (Ok encoded) → IsChoiceFault table problem.signature command.order why → IfOk r (λ answer. (answer.status ≡ 4) × (joined answer.lines ≡ choice_line why)) → IfOk r (λ _. why ≡ NoMemory → ⊥) → Answers before r
  unordered before encoded why (Ok answer) i e h line n = one_line (Ok answer) (IsProveAnswer table command name before problem) 4 (choice_line why) line (is_unordered i e h n)
  unordered before encoded why (Err fault) i e h line n = tt

  pub unordered_promises : (line : List ℕ) (r : Result Answer AllocError) → IfOk r (λ answer. (answer.status ≡ 4) × (joined answer.lines ≡ line)) → Promises r
  unordered_promises line r h = no_promise (λ (answer : Answer). CanBePrinted table name problem → Keeps table command name problem answer.status (joined answer.lines)) 4 line r (omega arith) h

  -- A SEARCH

  module _ (encoded : Encoded) (spec : OrderSpec) (v : Verdict) (s : State) where
    pub searched : (before : Table) (r : Result Answer AllocError) → AddsMarks before table encoded.fresh → HasEnded table command problem encoded spec v s → IfOk r (λ answer. answer.status ≡ verdict_status v) → IfOk r (λ answer. (text : List ℕ) × VerdictAnswers table command name problem encoded spec s v text × (joined answer.lines ≡ text ++ trace_if command s)) → Answers before r
    searched before (Ok answer) i h e a = rw (e, a.2) (is_searched i h.encodes h.chosen h.searched a.1)
    searched before (Err fault) i h e a = tt

    pub searched_promises : (r : Result Answer AllocError) → IfOk r (λ answer. answer.status ≡ verdict_status v) → IfOk r (λ answer. CanBePrinted table name problem → Keeps table command name problem (verdict_status v) (joined answer.lines)) → Promises r
    searched_promises (Ok answer) e k = λ few can. rw e (k can)
    searched_promises (Err fault) e k = tt

    pub ended : (m : Meaning) (o : Opening) → Agrees table problem → Encodes table problem (Ok encoded) → IsChosen table problem.signature command.order encoded.fresh spec → Fits table encoded.signature.symbols spec → m ≡ meaning_of table spec → o ≡ opening_for command encoded → IsSearchedBy m o command.workers v s → HasEnded table command problem encoded spec v s
    ended m o agrees encodes is_chosen fits is_m is_o searched_so = record {
      agrees = agrees;
      encodes = encodes;
      chosen = is_chosen;
      fits = fits;
      searched = rw (is_m, is_o) at searched_so;
    }
