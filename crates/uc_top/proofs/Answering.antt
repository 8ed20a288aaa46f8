-- From what the calls beneath promise to the answers.
use Rattle.std.proofs.Common.{◌⊎◌, inl, inr, ℕ, ◌≡◌, ◌+◌, ◌-◌, ◌<◌, ◌≤◌, Bool, true, false, List, [], ◌∷◌, length, take, drop, get_or, Option, Some, None, Result, Ok, Err, refl, sym, ap, ap₂, ◌∙◌, subst, arith}
use Rattle.std.proofs.lemmas.List.{take_all, length-take-le}
use Rattle.std.specs.Prelude.{nat_le, position}
use Rattle.std.specs.Result.{IfOk}
use Rattle.std.specs.declared.alloc.AllocError.{AllocError}
use Rattle.std.proofs.lemmas.Bool.Decides.{leb_tells}
use Rattle.std.proofs.lemmas.List.Quantifiers.{position-Some}
use Rattle.uc_term.specs.Conversion.{SomeFollows}
use Rattle.uc_clause.specs.declared.fault.ClauseFault.{ClauseFault}
use Rattle.uc_check.specs.declared.proof.Line.{Line}
use Rattle.uc_check.specs.declared.checker.Checked.{Checked}
use Rattle.uc_check.specs.declared.checker.Checked.TheVariants.{Accepted, Rejected}
use Rattle.uc_check.specs.Clauses.{axioms_of, goals_of}
use Rattle.uc_check.specs.Checks.{AreRightBefore, EndsInRefutation, IsChecked, accepted, rejected, no_line, no_refutation}
use Rattle.uc_words.specs.declared.command.Verb.TheVariants as verb
use Rattle.uc_words.specs.declared.command.Command.{Command}
use Rattle.uc_words.specs.Reads.{Reads}
use Rattle.uc_words.proofs.Only.{only}
use Rattle.uc_term.specs.declared.fresh.Fresh.{Fresh}
use Rattle.uc_term.specs.Table.{Table, Grows, IsDistinct}
use Rattle.uc_edge.specs.Files.{Files}
use Rattle.uc_edge.specs.Faults.{Rose}
use Rattle.uc_clause.specs.declared.clause.Sourced.{Sourced}
use Rattle.uc_clause.specs.declared.fault.ClauseFault.TheVariants as clause
use Rattle.uc_clause.specs.declared.fault.What.TheVariants as what
use Rattle.uc_problem.specs.declared.fault.LoadFault.{LoadFault}
use Rattle.uc_problem.specs.declared.fault.LoadFault.TheVariants as load
use Rattle.uc_problem.specs.declared.problem.Problem.{Problem}
use Rattle.uc_problem.specs.Holds.{IsLoadFault}
use Rattle.uc_problem.specs.Refusing.{Stops, IsRefused, IsStopped}
use Rattle.uc_problem.specs.Refusing as stopped
use Rattle.uc_problem.specs.Marks.{IsMarked, is_too_large}
use Rattle.uc_problem.specs.declared.fault.EncodeFault.TheVariants.{GoalTooLarge}
use Rattle.uc_problem.specs.Loading.{held}
use Rattle.uc_problem.specs.Filling.{WhereTold, AddsMarks}
use Rattle.uc_problem.proofs.AddedOnce.{distinct_earlier}
use Rattle.uc_problem.proofs.Later.{Grows-refl}
use Rattle.uc_problem.proofs.Shapes.{problem_shapes}
use Rattle.uc_tstp.specs.declared.fault.ProofFault.{ProofFault}
use Rattle.uc_tstp.specs.Framing.{max_proof}
use Rattle.uc_tstp.specs.declared.fault.ProofFault.TheVariants.{Syntax, UnknownRule, UnknownName, Truncated, RepeatedName, Limit, NoMemory}
use Rattle.uc_tstp.specs.Reading.{IsReading}
use Rattle.uc_tstp.specs.Interning.{InternsProof}
use Rattle.uc_check.specs.declared.proof.Proof.{Proof}
use Rattle.std.proofs.lemmas.Option.{slice_get_read}
use Rattle.uc_answer.specs.declared.answer.Answer.{Answer}
use Rattle.uc_answer.specs.Lines.{joined, load_line, proof_line}
use Rattle.uc_answer.specs.Refusals.{large_line, load_status}
use Rattle.uc_top.specs.Runs.{HasProof, IsCertified}
use Rattle.uc_top.specs.FileAnswers.{is_absent, isnt_fetched, is_found}
use Rattle.uc_top.specs.Answers.{TextAnswers, is_not_read, is_checked, ProofAnswers, ProblemAnswers, has_large_goal, is_marked, LoadAnswers, CheckAnswers, fetch_fails, is_refused, is_loaded}
use Rattle.uc_top.specs.Loaded.{IsLoaded}
use Rattle.uc_top.specs.HandedOn.{AnswersNone, IsHeld, IsUnheld}
use Rattle.uc_top.proofs.HandingOn.{held as held_loaded}
use Rattle.uc_top.proofs.FileAnswering.{earlier_file}

within : {X : Type 0} (p : X → Bool) (xs : List X) (n : ℕ) → position p xs ≡ Some n → n < length xs
within p [] n e = absurd (cc e)
within p (x ∷ xs) n e = (position-Some p (x ∷ xs) n x e).0

-- A text that is cut behind the first byte that is too many is read as the whole one.
module _ (text : List ℕ) (h : max_proof + 1 ≤ length text) where
  cut_length : length (take (max_proof + 1) text) ≡ max_proof + 1
  cut_length = length-take-le (max_proof + 1) text h

  isnt_short : {A : Type 0} → length (take (max_proof + 1) text) ≤ max_proof → A
  isnt_short le = absurd (omega (arith, cut_length))

  read_cut : (table : Table) (r : Result Proof ProofFault) → IsReading table (take (max_proof + 1) text) r → IsReading table text r
  read_cut table (Ok proof) r = isnt_short r.0
  read_cut table (Err (Syntax p)) r = isnt_short r.0
  read_cut table (Err (UnknownRule p)) r = isnt_short r.0
  read_cut table (Err (UnknownName p)) r = isnt_short r.0
  read_cut table (Err Truncated) r = isnt_short r.0
  read_cut table (Err (RepeatedName p)) r = isnt_short r.0
  read_cut table (Err (Limit what.Bytes p)) r = (omega arith, r.1)
  read_cut table (Err (Limit what.Nodes p)) r = isnt_short r.0
  read_cut table (Err (Limit what.Parentheses p)) r = isnt_short r.0
  read_cut table (Err (Limit what.Arity p)) r = isnt_short r.0
  read_cut table (Err (Limit what.Clauses p)) r = isnt_short r.0
  read_cut table (Err (Limit what.Files p)) r = isnt_short r.0
  read_cut table (Err (Limit what.Symbols p)) r = isnt_short r.0
  read_cut table (Err NoMemory) r = tt

answers_cut : (table : Table) (clauses : List Sourced) (marks : Option Fresh) (name text : List ℕ) → max_proof + 1 ≤ length text → {status : ℕ} {answer : List ℕ} → TextAnswers table clauses marks name (take (max_proof + 1) text) status answer → TextAnswers table clauses marks name text status answer
answers_cut table clauses marks name text h (is_not_read read {why = why} r n) = is_not_read read (read_cut text h read (Err why) r) n
answers_cut table clauses marks name text h (is_checked i r c) = isnt_short text h r.0

-- so are the answers for it
pub answers_whole : (table : Table) (clauses : List Sourced) (marks : Option Fresh) (name text : List ℕ) (status : ℕ) (answer : List ℕ) → TextAnswers table clauses marks name (take (max_proof + 1) text) status answer → TextAnswers table clauses marks name text status answer
answers_whole table clauses marks name text status answer a = go (leb_tells (max_proof + 1) (length text))
  where
    go : ((nat_le (max_proof + 1) (length text) ≡ true) × (max_proof + 1 ≤ length text)) ⊎ ((nat_le (max_proof + 1) (length text) ≡ false) × (length text < max_proof + 1)) → TextAnswers table clauses marks name text status answer
    go (inl p) = answers_cut table clauses marks name text p.1 a
    go (inr p) = subst (λ (t : List ℕ). TextAnswers table clauses marks name t status answer) (take_all (max_proof + 1) text (omega (arith, p.1))) a

-- an answer of one line
pub one_line : (r : Result Answer AllocError) (P : ℕ → List ℕ → Type 0) (status : ℕ) (line : List ℕ) → IfOk r (λ answer. (answer.status ≡ status) × (joined answer.lines ≡ line)) → P status line → IfOk r (λ answer. P answer.status (joined answer.lines))
one_line (Ok answer) P status line h p = rw (h.0, h.1) p
one_line (Err fault) P status line h p = tt

-- the answer where the proof isn't read
pub unread : (table read : Table) (clauses : List Sourced) (marks : Option Fresh) (name text : List ℕ) (why : ProofFault) (r : Result Answer AllocError) → IsReading read text (Err why) → IfOk r (λ answer. (answer.status ≡ 3) × (joined answer.lines ≡ proof_line name why)) → IfOk r (λ _. why ≡ NoMemory → ⊥) → IfOk r (λ answer. TextAnswers table clauses marks name text answer.status (joined answer.lines))
unread table read clauses marks name text why (Ok answer) h line n = one_line (Ok answer) (TextAnswers table clauses marks name text) 3 (proof_line name why) line (is_not_read read h n)
unread table read clauses marks name text why (Err fault) h line n = tt

pub earlier_problem : (table : Table) (holds : Option Files) (first before now : ℕ) (problem : Problem) (proof : List ℕ) (status : ℕ) (answer : List ℕ) → first ≤ before → ProblemAnswers holds before now proof table problem status answer → ProblemAnswers holds first now proof table problem status answer
earlier_problem table holds first before now problem proof status answer le (has_large_goal m g) = has_large_goal m g
earlier_problem table holds first before now problem proof status answer le (is_marked {table = marked} d i m a) = is_marked d i m (earlier_file holds before now _ _ first le a)

-- the goal that is too large
pub large_within : (table : Table) (problem : Problem) (number : ℕ) → IsMarked table problem (Err (GoalTooLarge number)) → number < length problem.clauses
large_within table problem number h = within is_too_large problem.clauses number (h table (Grows-refl table))

pub large_goal : (old table : Table) (holds : Option Files) (before now : ℕ) (problem : Problem) (proof : List ℕ) (number : ℕ) (goal : Sourced) (r : Result Answer AllocError) → IsMarked table problem (Err (GoalTooLarge number)) → goal ≡ get_or problem.clauses number goal → IfOk r (λ answer. (answer.status ≡ 3) × (joined answer.lines ≡ large_line goal)) → IfOk r (λ answer. ProblemAnswers holds before now proof old problem answer.status (joined answer.lines))
large_goal old table holds before now problem proof number goal r h at line = one_line r (ProblemAnswers holds before now proof old problem) 3 (large_line goal) line (has_large_goal (h table (Grows-refl table)) (slice_get_read problem.clauses (length problem.clauses) number goal refl (large_within table problem number h) at))

pub marked_answers : (old table later : Table) (holds : Option Files) (before now : ℕ) (problem : Problem) (marks : Option Fresh) (proof : List ℕ) (r : Result Answer AllocError) → AddsMarks old table marks → IsMarked table problem (Ok marks) → Grows table later → IfOk r (λ answer. ProofAnswers table holds before now problem.clauses marks proof answer.status (joined answer.lines)) → IsDistinct later → IfOk r (λ answer. ProblemAnswers holds before now proof old problem answer.status (joined answer.lines))
marked_answers old table later holds before now problem marks proof (Ok answer) i h g a = λ d. is_marked (distinct_earlier table later g d) i (h table (Grows-refl table)) a
marked_answers old table later holds before now problem marks proof (Err fault) i h g a = λ d. tt

-- why no problem is loaded
module _ (root : Option (List ℕ)) (name : List ℕ) where
  refusal : {files : Files} {why : LoadFault} → load_status why ≡ 3 → IsStopped files root name [] why → IsRefused files root name [] why
  refusal e (stopped.fetch_fails x) = absurd (omega (arith, e))
  refusal e (stopped.is_refused r) = r
  refusal e stopped.wants_memory = absurd (omega (arith, e))

  abbrev RefusedIn : Option Files → LoadFault → Type 0
  RefusedIn holds why = WhereTold holds (λ files. IsRefused files root name [] why)

  abbrev StopsAt : Option Files → List ℕ → Type 0
  StopsAt holds file = WhereTold holds (λ files. Stops files (Some file) root name (load.ReadFault file))

  refusal_told : (holds : Option Files) (why : LoadFault) → load_status why ≡ 3 → WhereTold holds (λ files. IsStopped files root name [] why) → RefusedIn holds why
  refusal_told None why e s = tt
  refusal_told (Some files) why e s = refusal e s

  module _ (table : Table) (before now : ℕ) where
    failure_told : (holds : Option Files) (file : List ℕ) → IsLoadFault table holds before now root name (load.ReadFault file) → StopsAt holds file
    failure_told None file h = tt
    failure_told (Some files) file h = problem_shapes table files (Some file) root name (h.1 table (Grows-refl table))

    -- by the reason
    module _ (holds : Option Files) (P : ℕ → LoadFault → Type 0) (fails : (file : List ℕ) → Rose before now → StopsAt holds file → P 5 (load.ReadFault file)) (refused : (why : LoadFault) → RefusedIn holds why → load_status why ≡ 3 → P 3 why) where
      abbrev IsStopTold : LoadFault → Type 0
      IsStopTold why = WhereTold holds (λ files. IsStopped files root name [] why)

      refused_for : (why : LoadFault) → load_status why ≡ 3 → IsStopTold why → P 3 why
      refused_for why e s = refused why (refusal_told holds why e s) e

      refused_clause : (file : List ℕ) (why : ClauseFault) → (load_status (load.Clause file why) ≡ 7 → ⊥) → IsStopTold (load.Clause file why) → P (load_status (load.Clause file why)) (load.Clause file why)
      refused_clause file (clause.Syntax p) n s = refused_for (load.Clause file (clause.Syntax p)) refl s
      refused_clause file (clause.NotUnit p) n s = refused_for (load.Clause file (clause.NotUnit p)) refl s
      refused_clause file (clause.NotEquality p) n s = refused_for (load.Clause file (clause.NotEquality p)) refl s
      refused_clause file (clause.BadRole p w) n s = refused_for (load.Clause file (clause.BadRole p w)) refl s
      refused_clause file (clause.Unsupported p w) n s = refused_for (load.Clause file (clause.Unsupported p w)) refl s
      refused_clause file (clause.Limit p w) n s = refused_for (load.Clause file (clause.Limit p w)) refl s
      refused_clause file clause.NoMemory n s = absurd (n refl)

      pub not_loaded : (why : LoadFault) → (load_status why ≡ 7 → ⊥) → IsLoadFault table holds before now root name why → IsStopTold why → P (load_status why) why
      not_loaded (load.Absent f from) n h s = refused_for (load.Absent f from) refl s
      not_loaded (load.ReadFault f) n h s = fails f h.0 (failure_told holds f h)
      not_loaded (load.TooDeep f p) n h s = refused_for (load.TooDeep f p) refl s
      not_loaded (load.NoSuchName f p m) n h s = refused_for (load.NoSuchName f p m) refl s
      not_loaded (load.ArityClash f p m a b) n h s = refused_for (load.ArityClash f p m a b) refl s
      not_loaded (load.Limit f p w) n h s = refused_for (load.Limit f p w) refl s
      not_loaded (load.Clause f w) n h s = refused_clause f w n s
      not_loaded load.NoMemory n h s = absurd (n refl)

-- the answer where no problem is loaded
module _ (holds : Option Files) (before now : ℕ) (root : Option (List ℕ)) (name : List ℕ) where
  pub refused_answers : (why : LoadFault) (r : Result Answer AllocError) → IsUnheld holds before now root name why → IfOk r (λ answer. (answer.status ≡ load_status why) × (joined answer.lines ≡ load_line why)) → IfOk r (λ answer. answer.status ≡ 7 → ⊥) → IfOk r (λ answer. LoadAnswers holds before now AnswersNone root name answer.status (joined answer.lines))
  refused_answers why (Ok answer) u line n =
      one_line (Ok answer) (LoadAnswers holds before now AnswersNone root name) (load_status why) (load_line why) line
      (not_loaded root name u.table before now holds (λ status reason. LoadAnswers holds before now AnswersNone root name status (load_line reason)) (λ file r x. fetch_fails file r x) (λ reason x e. is_refused reason x e) why (λ e. n (line.0 ∙ e)) u.refused u.stopped)
  refused_answers why (Err fault) u line n = tt

-- what stands behind an answer with status 0
text_proof : (table : Table) (clauses : List Sourced) (marks : Option Fresh) (name text : List ℕ) (status : ℕ) (answer : List ℕ) → status ≡ 0 → TextAnswers table clauses marks name text status answer → (read : Table) × InternsProof text table read × (proof : Proof) × IsReading read text (Ok proof) × IsChecked clauses marks proof.lines Accepted
text_proof table clauses marks name text status answer e (is_not_read read r n) = absurd (omega (arith, e))
text_proof table clauses marks name text status answer e (is_checked {read = read} {proof = proof} {answer = Accepted} i r c) = (read, i, proof, r, c)
text_proof table clauses marks name text status answer e (is_checked {answer = Rejected line cause} i r c) = absurd (omega (arith, e))

accepted_parts : (clauses : List Sourced) (marks : Option Fresh) (lines : List Line) (checked : Checked) → checked ≡ Accepted → IsChecked clauses marks lines checked → AreRightBefore clauses marks lines (length lines) × EndsInRefutation lines
accepted_parts clauses marks lines checked e (accepted r f) = (r, f)
accepted_parts clauses marks lines checked e (rejected f) = absurd (cc e)
accepted_parts clauses marks lines checked e (no_line f) = absurd (cc e)
accepted_parts clauses marks lines checked e (no_refutation r l f) = absurd (cc e)

proof_of : (table : Table) (files : Files) (before now : ℕ) (clauses : List Sourced) (marks : Option Fresh) (name : List ℕ) (status : ℕ) (answer : List ℕ) → status ≡ 0 → ProofAnswers table (Some files) before now clauses marks name status answer → (text : List ℕ) × (held files name ≡ Some text) × (read : Table) × InternsProof text table read × (proof : Proof) × IsReading read text (Ok proof) × IsChecked clauses marks proof.lines Accepted
proof_of table files before now clauses marks name status answer e (is_absent h) = absurd (omega (arith, e))
proof_of table files before now clauses marks name status answer e (isnt_fetched r) = absurd (omega (arith, e))
proof_of table files before now clauses marks name status answer e (is_found {text = text} h a) = let p = text_proof table clauses marks name text status answer e a in (text, h, p.0, p.1, p.2, p.3, p.4)

pub has_proof : (loaded : Table) (files : Files) (before now : ℕ) (root : Option (List ℕ)) (name proof : List ℕ) (problem : Problem) (status : ℕ) (answer : List ℕ) → status ≡ 0 → IsDistinct loaded → IsLoaded files root name loaded problem → SomeFollows (axioms_of problem.clauses) (goals_of problem.clauses) → ProblemAnswers (Some files) before now proof loaded problem status answer → HasProof files root name proof
has_proof loaded files before now root name proof problem status answer e d h f (has_large_goal m g) = absurd (omega (arith, e))
has_proof loaded files before now root name proof problem status answer e d h f (is_marked {table = table} {marks = marks} k i m a) =
    let p = proof_of table files before now problem.clauses marks proof status answer e a in
    let parts = accepted_parts problem.clauses marks p.4.lines Accepted refl p.6 in
    record {
      loaded = loaded;
      loaded_distinct = d;
      problem = problem;
      is_loaded = h;
      table = table;
      distinct = k;
      marks = marks;
      adds = i;
      marked = m;
      text = p.0;
      has_text = p.1;
      read = p.2;
      interns = p.3;
      proof = p.4;
      reads = p.5.1;
      are_right = parts.0;
      refutes = parts.1;
      follows = f;
    }

-- the answer where a problem is loaded
module _ (table later : Table) (holds mid : Option Files) (first before now : ℕ) (root : Option (List ℕ)) (name proof : List ℕ) (problem : Problem) (h : IsHeld holds root name table problem) where
  pub loaded_answers : (r : Result Answer AllocError) → mid ≡ holds → first ≤ before → (IsDistinct later → IfOk r (λ answer. ProblemAnswers mid before now proof table problem answer.status (joined answer.lines))) → IsDistinct later → IfOk r (λ answer. CheckAnswers holds first now root name proof answer.status (joined answer.lines))
  loaded_answers (Ok answer) e le a distinct = is_loaded h.distinct (held_loaded holds root name table problem h) (earlier_problem table holds first before now problem proof answer.status (joined answer.lines) le (subst (λ (o : Option Files). ProblemAnswers o before now proof table problem answer.status (joined answer.lines)) e (a distinct)))
  loaded_answers (Err fault) e le a distinct = tt

  pub loaded_certified : (r : Result Answer AllocError) → mid ≡ holds → (IsDistinct later → IfOk r (λ answer. ProblemAnswers mid before now proof table problem answer.status (joined answer.lines))) → IfOk r (λ answer. answer.status ≡ 0 → SomeFollows (axioms_of problem.clauses) (goals_of problem.clauses)) → IsDistinct later → IfOk r (λ answer. answer.status ≡ 0 → (files : Files) → holds ≡ Some files → HasProof files root name proof)
  loaded_certified (Ok answer) e a follows distinct = λ done files told. has_proof table files before now root name proof problem answer.status (joined answer.lines) done h.distinct (subst (λ (o : Option Files). WhereTold o (λ fs. IsLoaded fs root name table problem)) told (held_loaded holds root name table problem h)) (follows done) (subst (λ (o : Option Files). ProblemAnswers o before now proof table problem answer.status (joined answer.lines)) (e ∙ told) (a distinct))
  loaded_certified (Err fault) e a follows distinct = tt

-- two names
pub two_names : (names : List (List ℕ)) (a b : List ℕ) → 2 ≤ length names → length names < 3 → a ≡ get_or names 0 a → b ≡ get_or names 1 b → names ≡ a ∷ b ∷ []
two_names [] a b low high p q = absurd (omega arith)
two_names (x ∷ []) a b low high p q = absurd (omega arith)
two_names (x ∷ y ∷ []) a b low high p q = rw (p, q) refl
two_names (x ∷ y ∷ z ∷ zs) a b low high p q = absurd (omega arith)

pub one_name : (names : List (List ℕ)) (a : List ℕ) → 1 ≤ length names → length names < 2 → a ≡ get_or names 0 a → names ≡ a ∷ []
one_name [] a low high p = absurd (omega arith)
one_name (x ∷ []) a low high p = rw p refl
one_name (x ∷ y ∷ ys) a low high p = absurd (omega arith)

-- a name and those behind it
pub name_and_more : (names : List (List ℕ)) (a : List ℕ) → 1 ≤ length names → a ≡ get_or names 0 a → names ≡ a ∷ take (length names - 1) (drop 1 names)
name_and_more [] a low p = absurd (omega arith)
name_and_more (x ∷ xs) a low p = ap₂ (λ y ys. y ∷ ys) (sym p) (sym (take_all (length (x ∷ xs) - 1) xs (omega arith)))

-- words have one command, so what is certified of it is certified of the words
pub certified_by : (words : List (List ℕ)) (command : Command) (holds : Option Files) (r : Result Answer AllocError) → Reads words command → (command.verb ≡ verb.Check → IfOk r (λ answer. answer.status ≡ 0 → (files : Files) → holds ≡ Some files → IsCertified files command)) → IfOk r (λ answer. answer.status ≡ 0 → (files : Files) → holds ≡ Some files → (other : Command) → Reads words other → other.verb ≡ verb.Check → IsCertified files other)
certified_by words command holds (Ok answer) reads h = λ done files told other read v.
    let same : command ≡ other = only words command other reads read in
    subst (IsCertified files) same (h (ap (λ (k : Command). k.verb) same ∙ v) done files told)
certified_by words command holds (Err fault) reads h = tt
