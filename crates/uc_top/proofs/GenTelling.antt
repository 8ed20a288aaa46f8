-- From what a search promises to the answer of `gen`.
use Rattle.std.proofs.Common.{ℕ, ◌≡◌, List, ◌++◌, codes, length, Result, Ok, Err, sym, subst}
use Rattle.std.specs.Result.{IfOk}
use Rattle.std.specs.declared.alloc.AllocError.{AllocError}
use Rattle.uc_term.specs.declared.node.Sym.{Sym}
use Rattle.uc_term.specs.declared.equation.Equation.{Equation}
use Rattle.uc_term.specs.Table.{Table}
use Rattle.uc_problem.specs.declared.problem.Problem.{Problem}
use Rattle.uc_problem.specs.declared.problem.Encoded.{Encoded}
use Rattle.uc_order.specs.declared.spec.OrderSpec.{OrderSpec}
use Rattle.uc_order.specs.Laws.{Meaning, HasSym}
use Rattle.uc_fact.specs.Ground.{AreOfSignature}
use Rattle.uc_fact.specs.Live.{equations_of}
use Rattle.uc_shelf.specs.Entries.{live}
use Rattle.uc_machine.specs.declared.event.Verdict.{Verdict}
use Rattle.uc_machine.specs.declared.event.Verdict.TheVariants.{Saturated}
use Rattle.uc_machine.specs.State.{State}
use Rattle.uc_worker.specs.Ends.{IsSearchedBy}
use Rattle.uc_words.specs.declared.command.Command.{Command}
use Rattle.uc_ordering.specs.Meaning.{meaning_of}
use Rattle.uc_gen.specs.Counting.{constant_terms, HasForms, AreLowest}
use Rattle.uc_answer.specs.declared.answer.Answer.{Answer}
use Rattle.uc_answer.specs.Lines.{joined}
use Rattle.uc_answer.specs.StatusLines.{status_line}
use Rattle.uc_answer.specs.LimitLines.{IsLimitLine}
use Rattle.uc_answer.specs.VerdictLines.{opening_for}
use Rattle.uc_top.specs.DecideAnswers.{opening_of_axioms}
use Rattle.uc_top.specs.DecideTold.{without_goals}
use Rattle.uc_top.specs.GenLines.{gen_lines}
use Rattle.uc_top.specs.GenAnswers.{gen_name, IsPosed, IsCompleted, is_counted, is_out, AreNumbers, GenAnswers}
use Rattle.uc_top.specs.GenTold.{TellsCount, tells_count, tells_limit, IsToldByCount}
use Rattle.uc_top.proofs.GenPosed.{posed_over}
use Rattle.uc_top.proofs.GenLowest.{posed_lowest}

module _ (m : Meaning) (command : Command) (constants : List Sym) where
  module _ (s : State) where
    -- what is told of a system is told of the facts that live
    pub count_told : (facts : List Equation) (count : ℕ) (r : Result Answer AllocError) → facts ≡ equations_of (live s.entries) → HasForms m facts (constant_terms constants) count → IfOk r (λ answer. (answer.status ≡ 0) × (joined answer.lines ≡ gen_lines (length constants) (length constants) count)) → IfOk r (λ answer. TellsCount m command constants s Saturated answer.status (joined answer.lines))
    count_told facts count (Ok answer) e h line = rw (line.0, line.1) (tells_count (subst (λ (es : List Equation). HasForms m es (constant_terms constants) count) e h))
    count_told facts count (Err fault) e h line = tt

    pub limit_told : (v : Verdict) (lines : List (List ℕ)) → (line : List ℕ) × IsLimitLine command s v line × (joined lines ≡ status_line (codes "ResourceOut") gen_name ++ line) → TellsCount m command constants s v 2 (joined lines)
    limit_told v lines h = rw h.2 (tells_limit h.1)

module _ (command : Command) (n start : ℕ) (table : Table) (problem : Problem) (spec : OrderSpec) (posed : IsPosed n start table problem spec) where
  abbrev m : Meaning
  m = meaning_of table spec

  abbrev constants : List Sym
  constants = posed.generated.constants

  -- what the search needs
  pub over_by : (named : Meaning) (encoded : Encoded) → named ≡ m → encoded ≡ without_goals problem → AreOfSignature (HasSym named) named.arity encoded.axioms
  over_by named encoded is_m e = rw (e, is_m) (posed_over n start table problem spec posed)

  pub lowest_by : (named : Meaning) (own : List Sym) → named ≡ m → own ≡ constants → AreLowest named own
  lowest_by named own is_m are = subst (λ (cs : List Sym). AreLowest named cs) (sym are) (subst (λ (k : Meaning). AreLowest k constants) (sym is_m) (posed_lowest n start table problem spec posed))

  told_completed : (s : State) (v : Verdict) (status : ℕ) (answer : List ℕ) → IsSearchedBy m (opening_of_axioms command problem) command.workers v s → TellsCount m command constants s v status answer → IsCompleted command n start status answer
  told_completed s _ _ _ searched (tells_count {forms = forms} h) = rw posed.generated.are_constants.count (is_counted posed searched h)
  told_completed s v _ _ searched (tells_limit l) = is_out posed searched l

  pub completed_by : (named : Meaning) (own : List Sym) (encoded : Encoded) (r : Result Answer AllocError) → named ≡ m → own ≡ constants → encoded ≡ without_goals problem → IfOk r (λ answer. IsToldByCount named command own (opening_for command encoded) answer.status (joined answer.lines)) → IfOk r (λ answer. IsCompleted command n start answer.status (joined answer.lines))
  completed_by named own encoded (Ok answer) is_m are e h =
      let by_encoded = subst (λ (x : Encoded). IsToldByCount named command own (opening_for command x) answer.status (joined answer.lines)) e h in
      let by_constants = subst (λ (cs : List Sym). IsToldByCount named command cs (opening_of_axioms command problem) answer.status (joined answer.lines)) are by_encoded in
      let t = subst (λ (k : Meaning). IsToldByCount k command constants (opening_of_axioms command problem) answer.status (joined answer.lines)) is_m by_constants in
      told_completed t.state t.verdict answer.status (joined answer.lines) t.searched t.told
  completed_by named own encoded (Err fault) is_m are e h = tt

-- the numbers of two words
pub answered_for : (command : Command) (n start : ℕ) (r : Result Answer AllocError) → AreNumbers command n start → IfOk r (λ answer. IsCompleted command n start answer.status (joined answer.lines)) → IfOk r (λ answer. GenAnswers command answer.status (joined answer.lines))
answered_for command n start (Ok answer) numbers h = record { n = n; start = start; numbers = numbers; completed = h }
answered_for command n start (Err fault) numbers h = tt
