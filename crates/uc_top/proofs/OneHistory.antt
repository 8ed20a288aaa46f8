-- The search by one worker that answers words is one: it has one verdict and one state, with its history.
use Rattle.std.proofs.Common.{ℕ, ◌≡◌, ◌≤◌, List, [], None, Ok, sym, ap₂, subst}
use Rattle.uc_term.specs.Table.{Table, IsDistinct}
use Rattle.uc_edge.specs.Files.{Files}
use Rattle.uc_check.specs.Clauses.{axioms_of}
use Rattle.uc_problem.specs.declared.problem.Problem.{Problem}
use Rattle.uc_problem.specs.declared.problem.Encoded.{Encoded}
use Rattle.uc_problem.specs.Filling.{IsFilled, AddsMarks}
use Rattle.uc_problem.specs.Holds.{Agrees}
use Rattle.uc_problem.specs.Marks.{Marks}
use Rattle.uc_problem.specs.Encodes.{Encodes}
use Rattle.uc_problem.proofs.FreshMarks.{signature_has}
use Rattle.uc_problem.proofs.AddedOnce.{distinct_earlier, marks_add_once}
use Rattle.uc_problem.proofs.FilledOnce.{filled_once, filled_problem_once}
use Rattle.uc_problem.proofs.EncodedOnce.{encoding_once}
use Rattle.uc_order.specs.declared.spec.OrderSpec.{OrderSpec}
use Rattle.uc_machine.specs.declared.event.Verdict.{Verdict}
use Rattle.uc_machine.specs.State.{Opening, State}
use Rattle.uc_search.specs.Searching.{IsSearched}
use Rattle.uc_words.specs.declared.command.Command.{Command}
use Rattle.uc_words.specs.declared.command.OrderWords.{OrderWords}
use Rattle.uc_ordering.specs.Choice.{IsChosen, all_symbols}
use Rattle.uc_ordering.specs.Meaning.{meaning_of}
use Rattle.uc_ordering.proofs.Fitting.{fits}
use Rattle.uc_ordering.proofs.Once.{order_once}
use Rattle.uc_answer.specs.VerdictLines.{opening_for}
use Rattle.uc_answer.proofs.OrderLaws.{spec_laws}
use Rattle.uc_top.specs.ProveRuns.{IsHeldAnswer}
use Rattle.uc_top.specs.DecideAnswers.{opening_of_axioms}
use Rattle.uc_top.specs.DecideRuns.{IsHeldDecision}
use Rattle.uc_top.proofs.OwnSignatures.{is_signature}
use Rattle.uc_top.proofs.ProveOnce.{chosen_fits}
use Rattle.uc_top.proofs.SearchLaws.{OneSearch}
use Rattle.uc_top.proofs.EncodedTables.{marks_grow}

module _ (one_search : OneSearch) (files : Files) (command : Command) (some : 1 ≤ command.order.w0) (most : command.order.w0 ≤ 1000000) (alone : command.workers ≡ 1) (name : List ℕ) where
  -- by one table, problem and encoding
  encoded_search : (table : Table) → IsDistinct table → (problem : Problem) → Agrees table problem → (e f : Encoded) (spec named : OrderSpec) (v w : Verdict) (s t : State) → Encodes table problem (Ok e) → Encodes table problem (Ok f) → IsChosen table problem.signature command.order e.fresh spec → IsChosen table problem.signature command.order f.fresh named → IsSearched (meaning_of table spec) (opening_for command e) 0 v s → IsSearched (meaning_of table named) (opening_for command f) 0 w t → (v ≡ w) × (s ≡ t)
  encoded_search table distinct problem agrees e f spec named v w s t d g c k x y =
      let same : f ≡ e = encoding_once table problem distinct f e g d in
      let orders : named ≡ spec = order_once table problem.signature command.order e.fresh named spec (subst (λ (h : Encoded). IsChosen table problem.signature command.order h.fresh named) same k) c in
      let there = subst (λ (o : OrderSpec). IsSearched (meaning_of table o) (opening_for command e) 0 w t) orders (subst (λ (h : Encoded). IsSearched (meaning_of table named) (opening_for command h) 0 w t) same y) in
      one_search (meaning_of table spec) (spec_laws table (all_symbols problem.signature e.fresh) spec (chosen_fits table command problem e spec some most agrees d c)) (opening_for command e) 0 v w s t x there

  pub proved_history : {s t : ℕ} {a b : List ℕ} (x : IsHeldAnswer files command name s a) (y : IsHeldAnswer files command name t b) → (x.verdict ≡ y.verdict) × (x.state ≡ y.state)
  proved_history x y =
      let left = distinct_earlier x.loaded x.table (marks_grow x.loaded x.table x.encoded.fresh x.adds) x.distinct in
      let right = distinct_earlier y.loaded y.table (marks_grow y.loaded y.table y.encoded.fresh y.adds) y.distinct in
      let flats : x.loaded ≡ y.loaded = filled_once files command.root name [] x.loaded y.loaded left right x.problem y.problem x.filled y.filled in
      let problems : y.problem ≡ x.problem = sym (filled_problem_once files command.root name [] x.loaded y.loaded left right x.problem y.problem x.filled y.filled) in
      let tables : y.table ≡ x.table = sym (marks_add_once x.problem x.loaded x.table y.table x.distinct y.distinct (signature_has x.loaded x.problem x.filled.agrees) x.encoded.fresh y.encoded.fresh x.adds (subst (λ t. AddsMarks t y.table y.encoded.fresh) (sym flats) y.adds) x.encodes.0 (subst (λ (p : Problem). Marks y.table p (Ok y.encoded.fresh)) problems y.encodes.0)) in
      encoded_search x.table x.distinct x.problem x.holds.agrees x.encoded y.encoded x.spec y.spec x.verdict y.verdict x.state y.state x.encodes
      (subst (λ (p : Problem). Encodes x.table p (Ok y.encoded)) problems (subst (λ t. Encodes t y.problem (Ok y.encoded)) tables y.encodes))
      x.chosen
      (subst (λ (p : Problem). IsChosen x.table p.signature command.order y.encoded.fresh y.spec) problems (subst (λ t. IsChosen t y.problem.signature command.order y.encoded.fresh y.spec) tables y.chosen))
      (x.searched.alone alone)
      (subst (λ t. IsSearched (meaning_of t y.spec) (opening_for command y.encoded) 0 y.verdict y.state) tables (y.searched.alone alone))

  -- by one table and problem
  plain_search : (table : Table) (problem : Problem) → Agrees table problem → (spec named : OrderSpec) (v w : Verdict) (s t : State) → IsChosen table problem.signature command.order None spec → IsChosen table problem.signature command.order None named → IsSearched (meaning_of table spec) (opening_of_axioms command problem) 0 v s → IsSearched (meaning_of table named) (opening_of_axioms command problem) 0 w t → (v ≡ w) × (s ≡ t)
  plain_search table problem agrees spec named v w s t c k x y =
      let orders : named ≡ spec = order_once table problem.signature command.order None named spec k c in
      one_search (meaning_of table spec) (spec_laws table problem.signature.symbols spec (fits table problem.signature command.order some most (is_signature table problem agrees) None spec c tt)) (opening_of_axioms command problem) 0 v w s t x (subst (λ (o : OrderSpec). IsSearched (meaning_of table o) (opening_of_axioms command problem) 0 w t) orders y)

-- whatever is asked, and whatever the words are that don't count
module _ (one_search : OneSearch) (files : Files) (k l : Command) (some : 1 ≤ k.order.w0) (most : k.order.w0 ≤ 1000000) (alone : k.workers ≡ 1) (alone_too : l.workers ≡ 1) (name : List ℕ) (roots : k.root ≡ l.root) (orders : k.order ≡ l.order) (budgets : k.budget ≡ l.budget) (limits : k.pairs ≡ l.pairs) where
  same_opening : (problem : Problem) → opening_of_axioms l problem ≡ opening_of_axioms k problem
  same_opening problem = ap₂ (λ (b p : ℕ). record { axioms = axioms_of problem.clauses; goals = []; budget = b; limit = p }) (sym budgets) (sym limits)

  pub decided_history : {words others : List (List ℕ)} {s t : ℕ} {a b : List ℕ} (x : IsHeldDecision files k name words s a) (y : IsHeldDecision files l name others t b) → (x.verdict ≡ y.verdict) × (x.state ≡ y.state)
  decided_history x y =
      let filled = subst (λ r. IsFilled files r name [] y.table y.problem) (sym roots) y.filled in
      let chosen = subst (λ (o : OrderWords). IsChosen y.table y.problem.signature o None y.spec) (sym orders) y.chosen in
      let searched = subst (λ (o : Opening). IsSearched (meaning_of y.table y.spec) o 0 y.verdict y.state) (same_opening y.problem) (y.searched.alone alone_too) in
      let tables : y.table ≡ x.table = sym (filled_once files k.root name [] x.table y.table x.distinct y.distinct x.problem y.problem x.filled filled) in
      let problems : y.problem ≡ x.problem = sym (filled_problem_once files k.root name [] x.table y.table x.distinct y.distinct x.problem y.problem x.filled filled) in
      plain_search one_search files k some most alone name x.table x.problem x.holds.agrees x.spec y.spec x.verdict y.verdict x.state y.state x.chosen
      (subst (λ (p : Problem). IsChosen x.table p.signature k.order None y.spec) problems (subst (λ t. IsChosen t y.problem.signature k.order None y.spec) tables chosen))
      (x.searched.alone alone)
      (subst (λ (p : Problem). IsSearched (meaning_of x.table y.spec) (opening_of_axioms k p) 0 y.verdict y.state) problems (subst (λ t. IsSearched (meaning_of t y.spec) (opening_of_axioms k y.problem) 0 y.verdict y.state) tables searched))
