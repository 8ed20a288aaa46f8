-- A problem and the words of `prove` have one answer.
use Rattle.std.proofs.Common.{ℕ, ◌≡◌, ◌≤◌, List, [], ◌++◌, codes, slice_get, Option, Some, None, Ok, refl, sym, ap, ap₂, ◌∙◌, subst, arith}
use Rattle.uc_term.specs.declared.fresh.Fresh.{Fresh}
use Rattle.uc_term.specs.Table.{Table, IsDistinct}
use Rattle.uc_term.specs.Gathering.{HasAll}
use Rattle.uc_edge.specs.Files.{Files}
use Rattle.uc_edge.specs.Faults.{Rose}
use Rattle.uc_problem.specs.declared.problem.Problem.{Problem}
use Rattle.uc_problem.specs.declared.problem.Encoded.{Encoded}
use Rattle.uc_problem.specs.Holds.{Agrees}
use Rattle.uc_problem.specs.Marks.{Marks}
use Rattle.uc_problem.specs.Encodes.{Encodes}
use Rattle.uc_problem.proofs.Outcomes.{some_once}
use Rattle.uc_problem.specs.Filling.{AddsMarks}
use Rattle.uc_problem.proofs.FreshMarks.{signature_has}
use Rattle.uc_problem.proofs.AddedOnce.{marks_add_once}
use Rattle.uc_problem.proofs.RefusedOnce.{refused_for_once, filled_or_refused}
use Rattle.uc_problem.proofs.MarksOnce.{large_once, marked_or_large}
use Rattle.uc_problem.proofs.EncodedOnce.{encoding_once}
use Rattle.uc_order.specs.declared.spec.OrderSpec.{OrderSpec}
use Rattle.uc_order.specs.Laws.{Laws}
use Rattle.uc_machine.specs.declared.event.Verdict.{Verdict}
use Rattle.uc_machine.specs.declared.event.Verdict.TheVariants.{Proved, Saturated, BudgetOut, PairsOut, LargeOverlap, LargeGoal}
use Rattle.uc_machine.specs.State.{State}
use Rattle.uc_search.specs.Searching.{IsSearched}
use Rattle.uc_words.specs.declared.command.Command.{Command}
use Rattle.uc_ordering.specs.Choice.{IsChosen, all_symbols}
use Rattle.uc_ordering.specs.Meaning.{meaning_of}
use Rattle.uc_ordering.specs.Premises.{AreMarks}
use Rattle.uc_ordering.specs.Fits.{Fits}
use Rattle.uc_ordering.proofs.Fitting.{fits}
use Rattle.uc_ordering.proofs.Once.{order_once, refusal_once, chosen_or_refused}
use Rattle.uc_answer.specs.Lines.{load_line}
use Rattle.uc_answer.specs.Refusals.{large_line}
use Rattle.uc_answer.specs.ChoiceLines.{choice_line}
use Rattle.uc_answer.specs.StatusLines.{status_line, unloaded_word}
use Rattle.uc_answer.specs.VerdictLines.{trace_if, opening_for, verdict_status, VerdictAnswers}
use Rattle.uc_answer.proofs.OrderLaws.{spec_laws}
use Rattle.uc_answer.proofs.OneVerdict.{verdict_once}
use Rattle.uc_top.specs.ProveAnswers.{IsProveAnswer, has_large_goal, is_unordered, is_searched, ProveAnswers, fetch_fails, is_refused, is_loaded}
use Rattle.uc_top.proofs.LoadedOnce.{loaded_once}
use Rattle.uc_top.proofs.OwnSignatures.{is_signature}
use Rattle.uc_top.proofs.SearchLaws.{OneSearch}

-- a search ends with status 0, 1 or 2
status_few : (v : Verdict) → verdict_status v ≤ 2
status_few (Proved goal) = omega arith
status_few Saturated = omega arith
status_few (BudgetOut counted) = omega arith
status_few (PairsOut waiting newly) = omega arith
status_few (LargeOverlap overlap) = omega arith
status_few (LargeGoal goal) = omega arith

-- the encoding's symbols, as the order's choice takes them
pub marks_for : (table : Table) (problem : Problem) (fresh : Option Fresh) → Marks table problem (Ok fresh) → AreMarks table problem.signature fresh
marks_for table problem None m = tt
marks_for table problem (Some marks) m = (m.2.eq, m.2.yes, m.2.no)

pub chosen_fits : (table : Table) (command : Command) (problem : Problem) (encoded : Encoded) (spec : OrderSpec) → 1 ≤ command.order.w0 → command.order.w0 ≤ 1000000 → Agrees table problem → Encodes table problem (Ok encoded) → IsChosen table problem.signature command.order encoded.fresh spec → Fits table (all_symbols problem.signature encoded.fresh) spec
chosen_fits table command problem encoded spec some most agrees e c = fits table problem.signature command.order some most (is_signature table problem agrees) encoded.fresh spec c (marks_for table problem encoded.fresh e.0)

module _ (one_search : OneSearch) (table : Table) (distinct : IsDistinct table) (command : Command) (some : 1 ≤ command.order.w0) (most : command.order.w0 ≤ 1000000) (name : List ℕ) where
  module _ (problem : Problem) (agrees : Agrees table problem) where
    laws : (encoded : Encoded) (spec : OrderSpec) → Encodes table problem (Ok encoded) → IsChosen table problem.signature command.order encoded.fresh spec → Laws (meaning_of table spec)
    laws encoded spec e c = spec_laws table (all_symbols problem.signature encoded.fresh) spec (chosen_fits table command problem encoded spec some most agrees e c)

    pub prove_once : {loaded other : Table} {s t : ℕ} {a b : List ℕ} → (s ≤ 2 → command.workers ≡ 1) → IsProveAnswer table command name loaded problem s a → IsProveAnswer table command name other problem t b → (s ≡ t) × (a ≡ b)
    prove_once alone (has_large_goal {number = number} m g) (has_large_goal {number = other} n h) =
        let numbers : other ≡ number = large_once table problem other number n m in
        (refl, ap (λ goal. status_line (codes "InputError") name ++ large_line goal) (some_once g (ap (slice_get problem.clauses) (sym numbers) ∙ h)))
    prove_once alone (has_large_goal {number = number} m g) (is_unordered {encoded = encoded} i e x n) = absurd (marked_or_large table problem encoded.fresh number e.0 m)
    prove_once alone (has_large_goal {number = number} m g) (is_searched {encoded = encoded} i e c x v) = absurd (marked_or_large table problem encoded.fresh number e.0 m)
    prove_once alone (is_unordered {encoded = encoded} i e x n) (has_large_goal {number = number} m g) = absurd (marked_or_large table problem encoded.fresh number e.0 m)
    prove_once alone (is_unordered {why = why} i e x n) (is_unordered {why = other} j d y m) = (refl, ap choice_line (refusal_once table problem.signature command.order why other n m x y))
    prove_once alone (is_unordered {why = why} i e x n) (is_searched {encoded = encoded} {spec = spec} j d c y v) = absurd (chosen_or_refused table problem.signature command.order encoded.fresh spec why n c x)
    prove_once alone (is_searched {encoded = encoded} i e c x v) (has_large_goal {number = number} m g) = absurd (marked_or_large table problem encoded.fresh number e.0 m)
    prove_once alone (is_searched {encoded = encoded} {spec = spec} i e c x v) (is_unordered {why = why} j d y n) = absurd (chosen_or_refused table problem.signature command.order encoded.fresh spec why n c y)
    prove_once alone (is_searched {encoded = encoded} {spec = spec} {v = v} {s = s} {text = text} i e c x a) (is_searched {encoded = other} {spec = named} {v = w} {s = t} {text = told} j d k y b) =
        let one_worker : command.workers ≡ 1 = alone (status_few v) in
        let same : other ≡ encoded = encoding_once table problem distinct other encoded d e in
        let orders : named ≡ spec = order_once table problem.signature command.order encoded.fresh named spec (subst (λ (f : Encoded). IsChosen table problem.signature command.order f.fresh named) same k) c in
        let there = subst (λ (o : OrderSpec). IsSearched (meaning_of table o) (opening_for command encoded) 0 w t) orders (subst (λ (f : Encoded). IsSearched (meaning_of table named) (opening_for command f) 0 w t) same (y.alone one_worker)) in
        let once = one_search (meaning_of table spec) (laws encoded spec e c) (opening_for command encoded) 0 v w s t (x.alone one_worker) there in
        let by_encoding = subst (λ (f : Encoded). VerdictAnswers table command name problem f named t w told) same b in
        let by_order = subst (λ (o : OrderSpec). VerdictAnswers table command name problem encoded o t w told) orders by_encoding in
        let by_verdict = subst (λ (u : Verdict). VerdictAnswers table command name problem encoded spec t u told) (sym once.0) by_order in
        let by_state = subst (λ (u : State). VerdictAnswers table command name problem encoded spec u v told) (sym once.1) by_verdict in
        (ap verdict_status once.0, ap₂ (λ l u. l ++ trace_if command u) (verdict_once table command name problem agrees encoded e spec s a by_state) once.1)

-- Two encodings make one table of the one that loading leaves.
module _ (one_search : OneSearch) (command : Command) (some : 1 ≤ command.order.w0) (most : command.order.w0 ≤ 1000000) (name : List ℕ) where
  module _ (loaded table other : Table) (distinct : IsDistinct table) (apart : IsDistinct other) (problem : Problem) (has : HasAll loaded problem.signature.symbols) (agrees : Agrees table problem) where
    in_one : (fresh again : Option Fresh) {s t : ℕ} {a b : List ℕ} → (s ≤ 2 → command.workers ≡ 1) → AddsMarks loaded table fresh → Marks table problem (Ok fresh) → AddsMarks loaded other again → Marks other problem (Ok again) → IsProveAnswer table command name loaded problem s a → IsProveAnswer other command name loaded problem t b → (s ≡ t) × (a ≡ b)
    in_one fresh again {t = t} {b = b} alone i m j n x y =
        let same : other ≡ table = marks_add_once problem loaded other table apart distinct has again fresh j i n m in
        prove_once one_search table distinct command some most name problem agrees alone x (subst (λ (u : Table). IsProveAnswer u command name loaded problem t b) same y)

    prove_alike : {s t : ℕ} {a b : List ℕ} → (s ≤ 2 → command.workers ≡ 1) → IsProveAnswer table command name loaded problem s a → IsProveAnswer other command name loaded problem t b → (s ≡ t) × (a ≡ b)
    prove_alike alone (has_large_goal {number = number} m g) (has_large_goal {number = place} n h) =
        let numbers : place ≡ number = large_once table problem place number n m in
        (refl, ap (λ goal. status_line (codes "InputError") name ++ large_line goal) (some_once g (ap (slice_get problem.clauses) (sym numbers) ∙ h)))
    prove_alike alone (has_large_goal {number = number} m g) (is_unordered {encoded = encoded} i e x n) = absurd (marked_or_large other problem encoded.fresh number e.0 m)
    prove_alike alone (has_large_goal {number = number} m g) (is_searched {encoded = encoded} i e c x v) = absurd (marked_or_large other problem encoded.fresh number e.0 m)
    prove_alike alone (is_unordered {encoded = encoded} i e x n) (has_large_goal {number = number} m g) = absurd (marked_or_large table problem encoded.fresh number e.0 m)
    prove_alike alone (is_searched {encoded = encoded} i e c x v) (has_large_goal {number = number} m g) = absurd (marked_or_large table problem encoded.fresh number e.0 m)
    prove_alike alone (is_unordered {encoded = encoded} i e x n) (is_unordered {encoded = again} j d y m) = in_one encoded.fresh again.fresh alone i e.0 j d.0 (is_unordered i e x n) (is_unordered j d y m)
    prove_alike alone (is_unordered {encoded = encoded} i e x n) (is_searched {encoded = again} j d k y b) = in_one encoded.fresh again.fresh alone i e.0 j d.0 (is_unordered i e x n) (is_searched j d k y b)
    prove_alike alone (is_searched {encoded = encoded} i e c x a) (is_unordered {encoded = again} j d y m) = in_one encoded.fresh again.fresh alone i e.0 j d.0 (is_searched i e c x a) (is_unordered j d y m)
    prove_alike alone (is_searched {encoded = encoded} i e c x a) (is_searched {encoded = again} j d k y b) = in_one encoded.fresh again.fresh alone i e.0 j d.0 (is_searched i e c x a) (is_searched j d k y b)

  -- the same from the files on
  pub prove_answers_once : (files : Files) (before now again later : ℕ) {s t : ℕ} {a b : List ℕ} → (s ≤ 2 → command.workers ≡ 1) → (s ≡ 5 → Rose before now → ⊥) → (t ≡ 5 → Rose again later → ⊥) → ProveAnswers command name (Some files) before now s a → ProveAnswers command name (Some files) again later t b → (s ≡ t) × (a ≡ b)
  prove_answers_once files before now again later alone v w (fetch_fails file rose stops) y = absurd (v refl rose)
  prove_answers_once files before now again later alone v w (is_refused why x e) (fetch_fails file rose stops) = absurd (w refl rose)
  prove_answers_once files before now again later alone v w (is_refused why x e) (is_refused other y f) = (refl, ap (λ u. status_line (unloaded_word u) name ++ load_line u) (refused_for_once files command.root name [] x y))
  prove_answers_once files before now again later alone v w (is_refused why x e) (is_loaded {loaded = loaded} {problem = problem} d l c h p) = absurd (filled_or_refused files command.root name [] loaded problem l.filled x)
  prove_answers_once files before now again later alone v w (is_loaded d l c h p) (fetch_fails file rose stops) = absurd (w refl rose)
  prove_answers_once files before now again later alone v w (is_loaded {loaded = loaded} {problem = problem} d l c h p) (is_refused why y e) = absurd (filled_or_refused files command.root name [] loaded problem l.filled y)
  prove_answers_once files before now again later {t = t} {b = b} alone v w (is_loaded {loaded = loaded} {table = table} {problem = problem} d l c h p) (is_loaded {loaded = flat} {table = other} {problem = held} e k f g q) =
      let one = loaded_once files command.root name loaded d problem l e k in
      let there = subst (λ (r : Problem). IsProveAnswer other command name loaded r t b) one.1 (subst (λ (u : Table). IsProveAnswer other command name u held t b) one.0 q) in
      prove_alike loaded table other c f problem (signature_has loaded problem l.holds.agrees) h.agrees alone p there
