-- The words of `gen` have one answer.
use Rattle.std.proofs.Common.{ℕ, ◌≡◌, ◌≤◌, List, ◌++◌, codes, Some, refl, sym, ap, ◌∙◌, subst, arith}
use Rattle.uc_term.specs.declared.node.Sym.{Sym}
use Rattle.uc_term.specs.Table.{Table}
use Rattle.uc_problem.specs.declared.problem.Problem.{Problem}
use Rattle.uc_order.specs.declared.spec.OrderSpec.{OrderSpec}
use Rattle.uc_order.specs.Laws.{Meaning}
use Rattle.uc_fact.specs.Live.{equations_of}
use Rattle.uc_shelf.specs.Entries.{live}
use Rattle.uc_machine.specs.declared.event.Verdict.{Verdict}
use Rattle.uc_machine.specs.declared.event.Verdict.TheVariants.{Saturated}
use Rattle.uc_machine.specs.State.{State}
use Rattle.uc_search.specs.Searching.{IsSearched}
use Rattle.uc_worker.specs.Ends.{IsSearchedBy}
use Rattle.uc_words.specs.declared.command.Command.{Command}
use Rattle.uc_words.specs.Number.{number_of}
use Rattle.uc_ordering.specs.Meaning.{meaning_of}
use Rattle.uc_gen.specs.Counting.{constant_terms, HasForms}
use Rattle.uc_gen.proofs.Classes.{one_form_count}
use Rattle.uc_answer.specs.StatusLines.{status_line}
use Rattle.uc_answer.specs.LimitLines.{IsLimitLine}
use Rattle.uc_top.specs.GenLines.{gen_lines}
use Rattle.uc_answer.proofs.OneVerdict.{isnt_saturated, limit_once}
use Rattle.uc_top.specs.DecideAnswers.{opening_of_axioms}
use Rattle.uc_top.specs.GenAnswers.{gen_name, IsPosed, IsCompleted, is_counted, is_out, AreNumbers, GenAnswers}
use Rattle.uc_top.proofs.GenPosed.{posed_laws, one_problem, one_meaning, one_constants}
use Rattle.uc_top.proofs.Positionals.{first_name, second_name}
use Rattle.uc_top.proofs.SearchLaws.{OneSearch}

-- a command has one number of constants and one start
pub one_n : (command : Command) {n start m from : ℕ} → AreNumbers command n start → AreNumbers command m from → m ≡ n
one_n command {n} {start} {m} {from} x y =
    let words : y.count ≡ x.count = first_name (sym y.words ∙ x.words) in
    let e : Some m ≡ Some n = sym y.count_is ∙ ap number_of words ∙ x.count_is in
    cc

pub one_start : (command : Command) {n start m from : ℕ} → AreNumbers command n start → AreNumbers command m from → from ≡ start
one_start command {n} {start} {m} {from} x y =
    let words : y.from ≡ x.from = second_name (sym y.words ∙ x.words) in
    let e : Some from ≡ Some start = sym y.from_is ∙ ap number_of words ∙ x.from_is in
    cc

module _ (one_search : OneSearch) (command : Command) where
  module _ (n start : ℕ) where
    searches : {table other : Table} {problem another : Problem} {spec named : OrderSpec} → IsPosed n start table problem spec → IsPosed n start other another named → command.workers ≡ 1 → (v w : Verdict) (s t : State) → IsSearchedBy (meaning_of table spec) (opening_of_axioms command problem) command.workers v s → IsSearchedBy (meaning_of other named) (opening_of_axioms command another) command.workers w t → (v ≡ w) × (s ≡ t)
    searches {table} {other} {problem} {another} {spec} {named} x y alone v w s t p q =
        let by_problem = subst (λ (r : Problem). IsSearched (meaning_of other named) (opening_of_axioms command r) 0 w t) (one_problem n start table other problem another spec named x y) (q.alone alone) in
        let by_order = subst (λ (m : Meaning). IsSearched m (opening_of_axioms command problem) 0 w t) (one_meaning n start table other problem another spec named x y) by_problem in
        one_search (meaning_of table spec) (posed_laws n start table problem spec x) (opening_of_axioms command problem) 0 v w s t (p.alone alone) by_order

    completed_once : {s t : ℕ} {a b : List ℕ} → (s ≤ 2 → command.workers ≡ 1) → IsCompleted command n start s a → IsCompleted command n start t b → (s ≡ t) × (a ≡ b)
    completed_once alone (is_counted {table = table} {problem = problem} {spec = spec} {s = s} {forms = forms} x p h) (is_counted {table = other} {problem = another} {spec = named} {s = t} {forms = others} y q k) =
        let by_constants = subst (λ (cs : List Sym). HasForms (meaning_of other named) (equations_of (live t.entries)) (constant_terms cs) others) (one_constants n start table other problem another spec named x y) k in
        let by_order = subst (λ (m : Meaning). HasForms m (equations_of (live t.entries)) (constant_terms x.generated.constants) others) (one_meaning n start table other problem another spec named x y) by_constants in
        let by_state = subst (λ (u : State). HasForms (meaning_of table spec) (equations_of (live u.entries)) (constant_terms x.generated.constants) others) (sym (searches x y (alone (omega arith)) Saturated Saturated s t p q).1) by_order in
        let same : forms ≡ others = one_form_count (meaning_of table spec) (equations_of (live s.entries)) (constant_terms x.generated.constants) forms others h by_state in
        (refl, ap (gen_lines n n) same)
    completed_once alone (is_counted {s = s} x p h) (is_out {v = w} {s = t} {line = line} y q l) = absurd (isnt_saturated command t (subst (λ (u : Verdict). IsLimitLine command t u line) (sym (searches x y (alone (omega arith)) Saturated w s t p q).0) l))
    completed_once alone (is_out {v = v} {s = s} {line = line} x p l) (is_counted {s = t} y q k) = absurd (isnt_saturated command s (subst (λ (u : Verdict). IsLimitLine command s u line) (searches x y (alone (omega arith)) v Saturated s t p q).0 l))
    completed_once alone (is_out {v = v} {s = s} {line = line} x p l) (is_out {v = w} {s = t} {line = told} y q d) =
        let once = searches x y (alone (omega arith)) v w s t p q in
        let by_verdict = subst (λ (u : Verdict). IsLimitLine command t u told) (sym once.0) d in
        let by_state = subst (λ (u : State). IsLimitLine command u v told) (sym once.1) by_verdict in
        (refl, ap (λ z. status_line (codes "ResourceOut") gen_name ++ z) (limit_once command s l by_state))

  pub gen_once : {s t : ℕ} {a b : List ℕ} → (s ≤ 2 → command.workers ≡ 1) → GenAnswers command s a → GenAnswers command t b → (s ≡ t) × (a ≡ b)
  gen_once {s} {t} {a} {b} alone x y =
      let by_n = subst (λ (m : ℕ). IsCompleted command m y.start t b) (one_n command x.numbers y.numbers) y.completed in
      let by_start = subst (λ (from : ℕ). IsCompleted command x.n from t b) (one_start command x.numbers y.numbers) by_n in
      completed_once x.n x.start alone x.completed by_start
