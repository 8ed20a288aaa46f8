-- From what the calls beneath `decide` promise to its answers.
use Rattle.std.proofs.Common.{ℕ, ◌≡◌, ◌≤◌, ◌⊎◌, inl, inr, List, [], ◌++◌, codes, Option, Some, None, Result, Ok, Err, refl, sym, subst, arith}
use Rattle.std.specs.Result.{IfOk}
use Rattle.std.specs.declared.alloc.AllocError.{AllocError}
use Rattle.uc_term.specs.declared.equation.Equation.{Equation}
use Rattle.uc_term.specs.Tree.{Tree}
use Rattle.uc_term.specs.Table.{Table, Has}
use Rattle.uc_edge.specs.Files.{Files}
use Rattle.uc_check.specs.Clauses.{axioms_of}
use Rattle.uc_problem.specs.declared.problem.Problem.{Problem}
use Rattle.uc_problem.specs.declared.problem.Encoded.{Encoded}
use Rattle.uc_problem.specs.Holds.{Agrees}
use Rattle.uc_order.specs.declared.spec.OrderSpec.{OrderSpec}
use Rattle.uc_order.specs.Laws.{Meaning, HasSym}
use Rattle.uc_fact.specs.Ground.{AreOfSignature}
use Rattle.uc_fact.specs.Live.{equations_of, numbered}
use Rattle.uc_shelf.specs.Entries.{live}
use Rattle.uc_problem.specs.Filling.{WhereTold}
use Rattle.uc_machine.specs.declared.event.Verdict.{Verdict}
use Rattle.uc_machine.specs.declared.event.Verdict.TheVariants.{Saturated}
use Rattle.uc_machine.specs.State.{Opening, State}
use Rattle.uc_worker.specs.Ends.{IsSearchedBy}
use Rattle.uc_runs.specs.Causes.{Causes, CausesIfLimit}
use Rattle.uc_decide.specs.declared.reply.Reply.{Reply}
use Rattle.uc_decide.specs.declared.reply.Reply.TheVariants.{Equal, Different, Spent, Grown}
use Rattle.uc_decide.specs.Asking.{IsRight}
use Rattle.uc_decide.specs.Deciding.{Decides}
use Rattle.uc_words.specs.declared.command.Command.{Command}
use Rattle.uc_ordering.specs.declared.fault.ChoiceFault.{ChoiceFault}
use Rattle.uc_ordering.specs.declared.fault.ChoiceFault.TheVariants as choice
use Rattle.uc_ordering.specs.Choice.{IsChosen, IsChoiceFault}
use Rattle.uc_ordering.specs.Fits.{Fits}
use Rattle.uc_ordering.specs.Meaning.{meaning_of}
use Rattle.uc_answer.specs.declared.answer.Answer.{Answer}
use Rattle.uc_answer.specs.declared.term_word.WordFault.{WordFault}
use Rattle.uc_answer.specs.declared.term_word.WordFault.TheVariants.{NoMemory}
use Rattle.uc_answer.specs.Lines.{joined}
use Rattle.uc_answer.specs.ChoiceLines.{choice_line}
use Rattle.uc_answer.specs.WordLines.{word_line}
use Rattle.uc_answer.specs.QuestionWords.{AreQuestions, IsFirstFault}
use Rattle.uc_answer.specs.StatusLines.{status_line}
use Rattle.uc_answer.specs.VerdictLines.{opening_for, verdict_status}
use Rattle.uc_answer.specs.LimitLines.{IsLimitLine, budget_is_spent, limit_is_passed, pair_is_large, step_is_large}
use Rattle.uc_answer.specs.ReplyLines.{AreReplies, IsReplyOf, AreRepliesOf, replies_status, reply_lines}
use Rattle.uc_answer.specs.RightReplies.{AreGroundQuestions, AreRight, none_is_wrong, one_is_right}
use Rattle.uc_answer.proofs.OverSignature.{own_axioms_over}
use Rattle.uc_answer.proofs.ProveKeeping.{out_status}
use Rattle.uc_answer.proofs.Saturation.{none_proved}
use Rattle.uc_answer.proofs.SearchEnds.{equations_over}
use Rattle.uc_answer.proofs.SpecSymbols.{table_ground}
use Rattle.uc_top.specs.DecideAnswers.{opening_of_axioms, IsDecided, is_unordered, is_no_question, is_answered, is_out}
use Rattle.uc_top.specs.Loaded.{IsLoaded}
use Rattle.uc_top.specs.DecideRuns.{IsAnswered, IsOut, Decided, KeepsDecision}
use Rattle.uc_top.specs.DecideTold.{without_goals, AreGroundOfTable, TellsEnd, tells_replies, tells_limit, IsToldBySearch}
use Rattle.uc_top.specs.HandedOn.{IsHeld}
use Rattle.uc_top.proofs.HandingOn.{held}
use Rattle.uc_top.proofs.Answering.{one_line}
use Rattle.uc_top.proofs.ProvedAnswers.{no_promise}

-- THE REPLIES

-- the terms of right replies are of the table
reply_of_table : (table : Table) (m : Meaning) (axioms : List Equation) (s t : Tree) (reply : Reply) → AreGroundOfTable table m → IsRight m axioms s t reply → IsReplyOf table reply
reply_of_table table m axioms s t (Equal n) of_table r = of_table n r.1.ground
reply_of_table table m axioms s t (Different left right) of_table r = (of_table left r.1.ground, of_table right r.2.ground)
reply_of_table table m axioms s t (Spent n) of_table r = tt
reply_of_table table m axioms s t Grown of_table r = tt

pub replies_of_table : (table : Table) (m : Meaning) (axioms : List Equation) → AreGroundOfTable table m → {questions : List (Tree × Tree)} {replies : List Reply} → AreRight m axioms questions replies → AreRepliesOf table replies
replies_of_table table m axioms of_table none_is_wrong = tt
replies_of_table table m axioms of_table (one_is_right {sides = sides} {reply = reply} r rest) = (reply_of_table table m axioms sides.0 sides.1 reply of_table r, replies_of_table table m axioms of_table rest)

module _ (table : Table) (m : Meaning) (command : Command) (name : List ℕ) (axioms : List Equation) (questions : List (Tree × Tree)) where
  abbrev pub IsReplied : List Equation → Answer → Type 0
  IsReplied facts answer = (replies : List Reply) × AreReplies m (numbered facts) command.steps questions replies × AreRight m axioms questions replies × (answer.status ≡ replies_status replies) × (joined answer.lines ≡ reply_lines table replies)

  module _ (s : State) where
    -- what is told of a system is told of the facts that live
    pub replies_told : (facts : List Equation) (r : Result Answer AllocError) → facts ≡ equations_of (live s.entries) → Decides m (equations_of (live s.entries)) axioms → (Decides m facts axioms → IfOk r (IsReplied facts)) → IfOk r (λ answer. TellsEnd table m command name axioms questions s Saturated answer.status (joined answer.lines))
    replies_told facts (Ok answer) e d h =
        let p = h (subst (λ (es : List Equation). Decides m es axioms) (sym e) d) in
        rw (p.3, p.4) (tells_replies d (subst (λ (es : List Equation). AreReplies m (numbered es) command.steps questions p.0) e p.1) p.2)
    replies_told facts (Err fault) e d h = tt

    pub limit_told : (v : Verdict) (lines : List (List ℕ)) → (line : List ℕ) × IsLimitLine command s v line × (joined lines ≡ status_line (codes "ResourceOut") name ++ line) → TellsEnd table m command name axioms questions s v 2 (joined lines)
    limit_told v lines h = rw h.2 (tells_limit h.1)

  -- THE SEARCH

  pub told_by : (o : Opening) (v : Verdict) (s : State) (r : Result Answer AllocError) → IsSearchedBy m o command.workers v s → IfOk r (λ answer. TellsEnd table m command name axioms questions s v answer.status (joined answer.lines)) → IfOk r (λ answer. IsToldBySearch table m command name axioms questions o answer.status (joined answer.lines))
  told_by o v s (Ok answer) searched told = record { verdict = v; state = s; searched = searched; told = told }
  told_by o v s (Err fault) searched told = tt

-- a verdict without a goal is a limit, where it isn't Saturated
pub limit_status : (m : Meaning) (o : Opening) {workers : ℕ} (v : Verdict) (s : State) → IsSearchedBy m o workers v s → o.goals ≡ [] → (v ≡ Saturated → ⊥) → verdict_status v ≡ 2
limit_status m o v s searched none n = out_status v (none_proved m o v s searched none) n

-- AN ORDER

module _ (table : Table) (problem : Problem) (spec : OrderSpec) (fits : Fits table problem.signature.symbols spec) (m : Meaning) (is_m : m ≡ meaning_of table spec) where
  pub axioms_over : Agrees table problem → (es : List Equation) → es ≡ axioms_of problem.clauses → AreOfSignature (HasSym m) m.arity es
  axioms_over agrees es e = rw (e, is_m) (equations_over table problem.signature.symbols spec fits (axioms_of problem.clauses) (own_axioms_over table problem agrees))

  pub ground_by : (questions : List (Tree × Tree)) → AreGroundQuestions (meaning_of table spec) questions → AreGroundQuestions m questions
  ground_by questions h = subst (λ (n : Meaning). AreGroundQuestions n questions) (sym is_m) h

  pub ground_of_table : AreGroundOfTable table m
  ground_of_table = subst (AreGroundOfTable table) (sym is_m) (table_ground table problem.signature.symbols spec fits (Has table) fits.of_table)

  module _ (command : Command) (name : List ℕ) (questions : List (Tree × Tree)) where
    pub told_for : (encoded : Encoded) (r : Result Answer AllocError) → encoded ≡ without_goals problem → IfOk r (λ answer. IsToldBySearch table m command name encoded.axioms questions (opening_for command encoded) answer.status (joined answer.lines)) → IfOk r (λ answer. IsToldBySearch table (meaning_of table spec) command name (axioms_of problem.clauses) questions (opening_of_axioms command problem) answer.status (joined answer.lines))
    told_for encoded r e h = rw (e, is_m) at h

-- THE ANSWERS

module _ (table : Table) (command : Command) (name : List ℕ) (words : List (List ℕ)) (problem : Problem) where
  abbrev Answers : Result Answer AllocError → Type 0
  Answers r = IfOk r (λ answer. IsDecided table command name words problem answer.status (joined answer.lines))

  abbrev Promises : Result Answer AllocError → Type 0
  Promises r = IfOk r (λ answer. answer.status ≤ 2 → Decided table command name words problem answer.status (joined answer.lines))

  pub unordered : (why : ChoiceFault) (r : Result Answer AllocError) → IsChoiceFault table problem.signature command.order why → IfOk r (λ answer. (answer.status ≡ 4) × (joined answer.lines ≡ choice_line why)) → IfOk r (λ _. why ≡ choice.NoMemory → ⊥) → Answers r
  unordered why (Ok answer) h line n = one_line (Ok answer) (IsDecided table command name words problem) 4 (choice_line why) line (is_unordered h n)
  unordered why (Err fault) h line n = tt

  pub misread : (spec : OrderSpec) (number : ℕ) (why : WordFault) (r : Result Answer AllocError) → IsChosen table problem.signature command.order None spec → IsFirstFault table problem.signature.symbols words number why → IfOk r (λ answer. (answer.status ≡ 3) × (joined answer.lines ≡ word_line number why)) → IfOk r (λ _. why ≡ NoMemory → ⊥) → Answers r
  misread spec number why (Ok answer) chosen fault line n = one_line (Ok answer) (IsDecided table command name words problem) 3 (word_line number why) line (is_no_question chosen fault n)
  misread spec number why (Err e) chosen fault line n = tt

  pub refused_promises : (status : ℕ) (line : List ℕ) (r : Result Answer AllocError) → 3 ≤ status → IfOk r (λ answer. (answer.status ≡ status) × (joined answer.lines ≡ line)) → Promises r
  refused_promises status line r high h = no_promise (λ (answer : Answer). Decided table command name words problem answer.status (joined answer.lines)) status line r (omega (arith, high)) h

  -- the table in which the questions are read is still the one before
  module _ (read : Table) (kept : read ≡ table) (spec : OrderSpec) (questions : List (Tree × Tree)) (chosen : IsChosen table problem.signature command.order None spec) (read_so : AreQuestions read problem.signature.symbols words questions) where
    are : AreQuestions table problem.signature.symbols words questions
    are = subst (λ (t : Table). AreQuestions t problem.signature.symbols words questions) kept read_so

    abbrev m : Meaning
    m = meaning_of table spec

    abbrev o : Opening
    o = opening_of_axioms command problem

    abbrev Told : State → Verdict → ℕ → List ℕ → Type 0
    Told = TellsEnd table m command name (axioms_of problem.clauses) questions

    answer_of : (s : State) (v : Verdict) (status : ℕ) (answer : List ℕ) → IsSearchedBy m o command.workers v s → Told s v status answer → IsDecided table command name words problem status answer
    answer_of s _ _ _ searched (tells_replies d replies right) = is_answered chosen are searched replies
    answer_of s v _ _ searched (tells_limit is) = is_out chosen are searched is

    cause_of : (s t : State) (v : Verdict) (line : List ℕ) → IsLimitLine command s v line → CausesIfLimit m o t v → Causes m o t v
    cause_of s t _ _ budget_is_spent h = h
    cause_of s t _ _ limit_is_passed h = h
    cause_of s t _ _ (pair_is_large outer path at place) h = h
    cause_of s t _ _ step_is_large h = h

    promise_of : (s : State) (v : Verdict) (status : ℕ) (answer : List ℕ) → IsSearchedBy m o command.workers v s → Told s v status answer → IsAnswered table command problem spec questions status answer ⊎ IsOut table command name problem spec status answer
    promise_of s _ _ _ searched (tells_replies {replies = replies} d a right) = inl (record {
      state = s;
      searched = searched;
      decides = d;
      replies = replies;
      are_replies = a;
      are_right = right;
      status_is = refl;
      answer_is = refl;
    })
    promise_of s v _ _ searched (tells_limit {line = line} is) = inr (record {
      verdict = v;
      state = s;
      searched = searched;
      cause = cause_of s searched.ended.came.then_ v line is (subst (CausesIfLimit m o searched.ended.came.then_) searched.verdict searched.ended.came.cause);
      line = line;
      line_is = is;
      status_is = refl;
      answer_is = refl;
    })

    abbrev IsSearchTold : Table → Answer → Type 0
    IsSearchTold t answer = IsToldBySearch t (meaning_of t spec) command name (axioms_of problem.clauses) questions o answer.status (joined answer.lines)

    told_here : (answer : Answer) → IsSearchTold read answer → IsSearchTold table answer
    told_here answer t = subst (λ (u : Table). IsSearchTold u answer) kept t

    pub told_answers : (r : Result Answer AllocError) → IfOk r (IsSearchTold read) → Answers r
    told_answers (Ok answer) t = let h = told_here answer t in answer_of h.state h.verdict answer.status (joined answer.lines) h.searched h.told
    told_answers (Err fault) t = tt

    pub told_promises : (r : Result Answer AllocError) → IfOk r (IsSearchTold read) → Promises r
    told_promises (Ok answer) t = λ few. let h = told_here answer t in record { spec = spec; chosen = chosen; questions = questions; are_questions = are; told = promise_of h.state h.verdict answer.status (joined answer.lines) h.searched h.told }
    told_promises (Err fault) t = tt

-- A PROBLEM THAT IS LOADED

pub loaded_decided : (table : Table) (command : Command) (name : List ℕ) (words : List (List ℕ)) (holds : Option Files) (problem : Problem) (r : Result Answer AllocError) → IsHeld holds command.root name table problem → IfOk r (λ answer. answer.status ≤ 2 → Decided table command name words problem answer.status (joined answer.lines)) → IfOk r (λ answer. answer.status ≤ 2 → (files : Files) → holds ≡ Some files → KeepsDecision files command name words answer.status (joined answer.lines))
loaded_decided table command name words holds problem (Ok answer) h k = λ few files told.
    let l = subst (λ (o : Option Files). WhereTold o (λ files. IsLoaded files command.root name table problem)) told (held holds command.root name table problem h) in
    record { table = table; distinct = h.distinct; is_decided = record { problem = problem; filled = l.filled; holds = l.holds; decided = k few } }
loaded_decided table command name words holds problem (Err fault) h k = tt
