-- A problem, questions and the words of `decide` have one answer.
use Rattle.std.proofs.Common.{ℕ, ◌≡◌, ◌≤◌, Bool, true, false, cond, List, ◌++◌, codes, None, refl, sym, ap, ap₂, subst, arith}
use Rattle.std.specs.List.{list_any}
use Rattle.uc_term.specs.Tree.{Tree}
use Rattle.uc_term.specs.Table.{Table, IsDistinct}
use Rattle.uc_term.specs.Gathering.{HasAll}
use Rattle.uc_problem.specs.declared.problem.Problem.{Problem}
use Rattle.uc_problem.specs.Holds.{Agrees}
use Rattle.uc_problem.proofs.FreshMarks.{signature_has}
use Rattle.uc_order.specs.declared.spec.OrderSpec.{OrderSpec}
use Rattle.uc_order.specs.Laws.{Laws}
use Rattle.uc_machine.specs.declared.event.Verdict.{Verdict}
use Rattle.uc_machine.specs.declared.event.Verdict.TheVariants.{Saturated}
use Rattle.uc_machine.specs.State.{State}
use Rattle.uc_search.specs.Searching.{IsSearched}
use Rattle.uc_worker.specs.Ends.{IsSearchedBy}
use Rattle.uc_decide.specs.declared.reply.Reply.{Reply}
use Rattle.uc_words.specs.declared.command.Command.{Command}
use Rattle.uc_ordering.specs.Choice.{IsChosen}
use Rattle.uc_ordering.specs.Meaning.{meaning_of}
use Rattle.uc_ordering.proofs.Fitting.{fits}
use Rattle.uc_ordering.proofs.Once.{order_once, refusal_once, chosen_or_refused}
use Rattle.uc_answer.specs.ChoiceLines.{choice_line}
use Rattle.uc_answer.specs.WordLines.{word_line}
use Rattle.uc_answer.specs.StatusLines.{status_line}
use Rattle.uc_answer.specs.LimitLines.{IsLimitLine}
use Rattle.uc_answer.specs.ReplyLines.{is_open, replies_status, reply_lines, AreReplies}
use Rattle.uc_answer.proofs.OrderLaws.{spec_laws}
use Rattle.uc_answer.proofs.OneQuestion.{questions_once, questions_or_fault, first_fault_once}
use Rattle.uc_answer.proofs.OneReply.{replies_once}
use Rattle.uc_answer.proofs.OneVerdict.{isnt_saturated, limit_once}
use Rattle.uc_top.specs.DecideAnswers.{opening_of_axioms, facts_of, IsDecided, is_unordered, is_no_question, is_answered, is_out}
use Rattle.uc_top.proofs.OwnSignatures.{is_signature}
use Rattle.uc_top.proofs.SearchLaws.{OneSearch}

-- answers to questions have status 0 or 2
status_few : (some : Bool) → cond some 2 0 ≤ 2
status_few true = omega arith
status_few false = omega arith

few_replies : (replies : List Reply) → replies_status replies ≤ 2
few_replies replies = status_few (list_any is_open replies)

module _ (one_search : OneSearch) (table : Table) (distinct : IsDistinct table) (command : Command) (some : 1 ≤ command.order.w0) (most : command.order.w0 ≤ 1000000) (name : List ℕ) (words : List (List ℕ)) where
  module _ (problem : Problem) (agrees : Agrees table problem) where
    has : HasAll table problem.signature.symbols
    has = signature_has table problem agrees

    laws : (spec : OrderSpec) → IsChosen table problem.signature command.order None spec → Laws (meaning_of table spec)
    laws spec c = spec_laws table problem.signature.symbols spec (fits table problem.signature command.order some most (is_signature table problem agrees) None spec c tt)

    module _ (spec other : OrderSpec) (c : IsChosen table problem.signature command.order None spec) (k : IsChosen table problem.signature command.order None other) where
      orders : other ≡ spec
      orders = order_once table problem.signature command.order None other spec k c

      -- the searches by the one order and by the other are one
      searches : command.workers ≡ 1 → (v w : Verdict) (s t : State) → IsSearchedBy (meaning_of table spec) (opening_of_axioms command problem) command.workers v s → IsSearchedBy (meaning_of table other) (opening_of_axioms command problem) command.workers w t → (v ≡ w) × (s ≡ t)
      searches alone v w s t x y = one_search (meaning_of table spec) (laws spec c) (opening_of_axioms command problem) 0 v w s t (x.alone alone) (subst (λ (o : OrderSpec). IsSearched (meaning_of table o) (opening_of_axioms command problem) 0 w t) orders (y.alone alone))

      answered_or_out : command.workers ≡ 1 → (v : Verdict) (s t : State) (line : List ℕ) → IsSearchedBy (meaning_of table spec) (opening_of_axioms command problem) command.workers Saturated s → IsSearchedBy (meaning_of table other) (opening_of_axioms command problem) command.workers v t → IsLimitLine command t v line → ⊥
      answered_or_out alone v s t line x y l = isnt_saturated command t (subst (λ (u : Verdict). IsLimitLine command t u line) (sym (searches alone Saturated v s t x y).0) l)

    pub decided_once : {s t : ℕ} {a b : List ℕ} → (s ≤ 2 → command.workers ≡ 1) → IsDecided table command name words problem s a → IsDecided table command name words problem t b → (s ≡ t) × (a ≡ b)
    decided_once alone (is_unordered {why = why} x n) (is_unordered {why = other} y m) = (refl, ap choice_line (refusal_once table problem.signature command.order why other n m x y))
    decided_once alone (is_unordered {why = why} x n) (is_no_question {spec = spec} c f m) = absurd (chosen_or_refused table problem.signature command.order None spec why n c x)
    decided_once alone (is_unordered {why = why} x n) (is_answered {spec = spec} c q y r) = absurd (chosen_or_refused table problem.signature command.order None spec why n c x)
    decided_once alone (is_unordered {why = why} x n) (is_out {spec = spec} c q y l) = absurd (chosen_or_refused table problem.signature command.order None spec why n c x)
    decided_once alone (is_no_question {spec = spec} c f m) (is_unordered {why = why} y n) = absurd (chosen_or_refused table problem.signature command.order None spec why n c y)
    decided_once alone (is_answered {spec = spec} c q x r) (is_unordered {why = why} y n) = absurd (chosen_or_refused table problem.signature command.order None spec why n c y)
    decided_once alone (is_out {spec = spec} c q x l) (is_unordered {why = why} y n) = absurd (chosen_or_refused table problem.signature command.order None spec why n c y)
    decided_once alone (is_no_question {number = number} {why = why} c f m) (is_no_question {number = place} {why = other} k g n) = let one = first_fault_once table distinct problem.signature.symbols has words number place why other m n f g in (refl, ap₂ word_line one.0 one.1)
    decided_once alone (is_no_question {number = number} {why = why} c f m) (is_answered {questions = questions} k q y r) = absurd (questions_or_fault table distinct problem.signature.symbols has words number why questions m q f)
    decided_once alone (is_no_question {number = number} {why = why} c f m) (is_out {questions = questions} k q y l) = absurd (questions_or_fault table distinct problem.signature.symbols has words number why questions m q f)
    decided_once alone (is_answered {questions = questions} c q x r) (is_no_question {number = number} {why = why} k f m) = absurd (questions_or_fault table distinct problem.signature.symbols has words number why questions m q f)
    decided_once alone (is_out {questions = questions} c q x l) (is_no_question {number = number} {why = why} k f m) = absurd (questions_or_fault table distinct problem.signature.symbols has words number why questions m q f)
    decided_once alone (is_answered {spec = spec} {questions = questions} {s = s} {replies = replies} c q x r) (is_answered {spec = other} {questions = asked} {s = t} {replies = told} k p y d) =
        let by_order = subst (λ (o : OrderSpec). AreReplies (meaning_of table o) (facts_of t) command.steps asked told) (orders spec other c k) d in
        let by_state = subst (λ (u : State). AreReplies (meaning_of table spec) (facts_of u) command.steps asked told) (sym (searches spec other c k (alone (few_replies replies)) Saturated Saturated s t x y).1) by_order in
        let by_questions = subst (λ (qs : List (Tree × Tree)). AreReplies (meaning_of table spec) (facts_of s) command.steps qs told) (questions_once table distinct problem.signature.symbols has q p) by_state in
        let same : replies ≡ told = replies_once (meaning_of table spec) (facts_of s) command.steps r by_questions in
        (ap replies_status same, ap (reply_lines table) same)
    decided_once alone (is_answered {spec = spec} {s = s} {replies = replies} c q x r) (is_out {spec = other} {v = v} {s = t} {line = line} k p y l) = absurd (answered_or_out spec other c k (alone (few_replies replies)) v s t line x y l)
    decided_once alone (is_out {spec = spec} {v = v} {s = s} {line = line} c q x l) (is_answered {spec = other} {s = t} k p y r) = absurd (answered_or_out other spec k c (alone (omega arith)) v t s line y x l)
    decided_once alone (is_out {spec = spec} {v = v} {s = s} {line = line} c q x l) (is_out {spec = other} {v = w} {s = t} {line = told} k p y d) =
        let once = searches spec other c k (alone (omega arith)) v w s t x y in
        let by_verdict = subst (λ (u : Verdict). IsLimitLine command t u told) (sym once.0) d in
        let by_state = subst (λ (u : State). IsLimitLine command u v told) (sym once.1) by_verdict in
        (refl, ap (λ z. status_line (codes "ResourceOut") name ++ z) (limit_once command s l by_state))
