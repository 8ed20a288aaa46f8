-- What the answers of `gen` promise.
use Rattle.std.proofs.Common.{ℕ, ◌≡◌, List, refl, sym, ap, ◌∙◌, subst, arith}
use Rattle.uc_term.specs.declared.node.Sym.{Sym}
use Rattle.uc_term.specs.declared.equation.Equation.{Equation}
use Rattle.uc_term.specs.Table.{Table}
use Rattle.uc_term.specs.Conversion.{Conv}
use Rattle.uc_check.specs.Clauses.{axioms_of}
use Rattle.uc_problem.specs.declared.problem.Problem.{Problem}
use Rattle.uc_order.specs.declared.spec.OrderSpec.{OrderSpec}
use Rattle.uc_order.specs.Laws.{Meaning}
use Rattle.uc_fact.specs.Live.{equations_of}
use Rattle.uc_shelf.specs.Entries.{live}
use Rattle.uc_machine.specs.declared.event.Verdict.{Verdict}
use Rattle.uc_machine.specs.declared.event.Verdict.TheVariants.{Saturated}
use Rattle.uc_machine.specs.State.{Opening, State}
use Rattle.uc_runs.specs.Causes.{Causes, CausesIfLimit}
use Rattle.uc_worker.specs.Ends.{IsSearchedBy}
use Rattle.uc_decide.specs.Deciding.{Decides}
use Rattle.uc_words.specs.declared.command.Command.{Command}
use Rattle.uc_ordering.specs.Meaning.{meaning_of}
use Rattle.uc_gen.specs.Generated.{IsGenerated}
use Rattle.uc_gen.specs.Counting.{constant_terms, HasClasses, HasForms}
use Rattle.uc_gen.proofs.Classes.{are_classes, one_count}
use Rattle.uc_gen.proofs.NormalConstants.{terms_ground}
use Rattle.uc_gen.proofs.Once.{generated_once, same_constants}
use Rattle.uc_answer.specs.LimitLines.{IsLimitLine, budget_is_spent, limit_is_passed, pair_is_large, step_is_large}
use Rattle.uc_top.specs.GenLines.{gen_lines}
use Rattle.uc_answer.proofs.Saturation.{opens_without, decided}
use Rattle.uc_top.specs.DecideAnswers.{opening_of_axioms}
use Rattle.uc_top.specs.GenAnswers.{IsPosed, IsCompleted, is_counted, is_out}
use Rattle.uc_top.specs.GenRuns.{CountsClasses, NamesLimit}
use Rattle.uc_top.proofs.GenPosed.{posed_laws, posed_over}
use Rattle.uc_top.proofs.GenLowest.{posed_lowest}

-- A SATURATED SYSTEM

module _ (command : Command) (n start : ℕ) (table : Table) (problem : Problem) (spec : OrderSpec) (posed : IsPosed n start table problem spec) where
  abbrev m : Meaning
  m = meaning_of table spec

  abbrev axioms : List Equation
  axioms = axioms_of problem.clauses

  abbrev o : Opening
  o = opening_of_axioms command problem

  -- it decides what follows from the axioms, so its normal forms are as many as the classes
  classes : (s : State) (forms : ℕ) → IsSearchedBy m o command.workers Saturated s → HasForms m (equations_of (live s.entries)) (constant_terms posed.generated.constants) forms → HasClasses (Conv axioms) (constant_terms posed.generated.constants) forms
  classes s forms searched h =
      let laws = posed_laws n start table problem spec posed in
      let es = equations_of (live s.entries) in
      let d : Decides m es axioms = decided m laws o (opens_without m o (posed_over n start table problem spec posed) refl) s searched in
      are_classes m es (constant_terms posed.generated.constants) axioms d (terms_ground m laws es posed.generated.constants (posed_lowest n start table problem spec posed)) forms h

-- STATUSES 0 AND 2

limit_cause : (m : Meaning) (o : Opening) (command : Command) (s t : State) (v : Verdict) (line : List ℕ) → IsLimitLine command s v line → CausesIfLimit m o t v → Causes m o t v
limit_cause m o command s t _ _ budget_is_spent h = h
limit_cause m o command s t _ _ limit_is_passed h = h
limit_cause m o command s t _ _ (pair_is_large outer path at place) h = h
limit_cause m o command s t _ _ step_is_large h = h

module _ (command : Command) (n start : ℕ) where
  pub counts : {status : ℕ} {answer : List ℕ} → status ≡ 0 → IsCompleted command n start status answer → CountsClasses n start answer
  counts e (is_counted {table = table} {problem = problem} {spec = spec} {s = s} {forms = forms} posed searched h) = record {
    table = table;
    distinct = posed.distinct;
    table_is = posed.table_is;
    problem = problem;
    generated = posed.generated;
    classes = forms;
    are_classes = classes command n start table problem spec posed s forms searched h;
    answer_is = refl;
  }
  counts e (is_out posed searched l) = absurd (omega (arith, e))

  pub names_limit : {status : ℕ} {answer : List ℕ} → status ≡ 2 → IsCompleted command n start status answer → NamesLimit command n start answer
  names_limit e (is_counted posed searched h) = absurd (omega (arith, e))
  names_limit e (is_out {table = table} {problem = problem} {spec = spec} {v = v} {s = s} {line = line} posed searched l) = record {
    table = table;
    problem = problem;
    spec = spec;
    posed = posed;
    verdict = v;
    state = s;
    searched = searched;
    cause = limit_cause (meaning_of table spec) (opening_of_axioms command problem) command s searched.ended.came.then_ v line l (subst (CausesIfLimit (meaning_of table spec) (opening_of_axioms command problem) searched.ended.came.then_) searched.verdict searched.ended.came.cause);
    line = line;
    line_is = l;
    answer_is = refl;
  }

-- ONE NUMBER

-- whatever the searches were, one number of classes is told
pub one_number : (n start : ℕ) (a b : List ℕ) → CountsClasses n start a → CountsClasses n start b → a ≡ b
one_number n start a b x y =
    let tables : y.table ≡ x.table = y.table_is ∙ sym x.table_is in
    let problems : y.problem ≡ x.problem = generated_once x.table n start y.problem x.problem x.distinct (subst (λ (t : Table). IsGenerated t n start y.problem) tables y.generated) x.generated in
    let constants : y.generated.constants ≡ x.generated.constants = same_constants y.table x.table n start y.problem x.problem y.generated x.generated problems in
    let by_constants = subst (λ (cs : List Sym). HasClasses (Conv (axioms_of y.problem.clauses)) (constant_terms cs) y.classes) constants y.are_classes in
    let there = subst (λ (p : Problem). HasClasses (Conv (axioms_of p.clauses)) (constant_terms x.generated.constants) y.classes) problems by_constants in
    let same : x.classes ≡ y.classes = one_count (axioms_of x.problem.clauses) (constant_terms x.generated.constants) x.classes y.classes x.are_classes there in
    x.answer_is ∙ ap (gen_lines n n) same ∙ sym y.answer_is
