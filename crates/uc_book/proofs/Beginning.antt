-- The parts of a book in which nothing happened yet.
use Rattle.std.proofs.Common.{◌≡◌, ℕ, ◌+◌, ◌<◌, ◌≤◌, ◌^◌, ◌++◌, ◌∷◌, [], List, length, get_or, map, take, ap, sym, ◌∙◌, arith, subst, None}
use Rattle.std.specs.Prelude.{replicate, vec_len, vec_capacity, All}
use Rattle.std.proofs.lemmas.List.{take_more, length-take-le}
use Rattle.std.proofs.lemmas.List.Elements.{All-nil}
use Rattle.boxcar.specs.Table.{Shelves, id_at}
use Rattle.uc_term.specs.Tree.{nodes}
use Rattle.uc_term.specs.declared.equation.Equation.{Equation}
use Rattle.uc_fact.specs.declared.fact.Origin.TheVariants.{Axiom}
use Rattle.uc_ledger.specs.declared.ledger.State.TheVariants.{Waiting}
use Rattle.uc_machine.specs.declared.event.Event.{Event}
use Rattle.uc_machine.specs.declared.event.Verdict.TheVariants.{PairsOut}
use Rattle.uc_machine.specs.declared.state.Numbers.{Numbers}
use Rattle.uc_machine.specs.Lists.{Each}
use Rattle.uc_machine.specs.State.{Opening, State, Pair, Target, draws_in}
use Rattle.uc_machine.specs.Effects.{closes}
use Rattle.uc_machine.specs.Runs.{Starts, axioms_wait, too_many_axioms, axiom_pairs, goal_of, opened}
use Rattle.uc_book.specs.declared.parts.Parts.{Parts}
use Rattle.uc_rows.specs.declared.tasks.TaskRow.{TaskRow}
use Rattle.uc_rows.specs.RowViews.{FactsView, PairsView}
use Rattle.uc_rows.specs.TaskRows.{HasFront, out_of}
use Rattle.uc_book.specs.Parts.{closings, Fit, HasRoom}
use Rattle.uc_book.proofs.Fitting.{joins}

abbrev pub no_numbers : List Numbers
no_numbers = replicate 65 (record { drawn = 0; commits = 0; reclaims = 0 })

pub opened_state : (o : Opening) (fs : FactsView) (ps : PairsView) (gs : List Target) (ts : List TaskRow) (ns : List Numbers) (es : List Event) → fs.front.entries ≡ [] → fs.meetings ≡ [] → ps.draws ≡ 0 → gs ≡ map goal_of o.goals → ts ≡ [] → ns ≡ no_numbers → es ≡ []
    → (let s : State = record { entries = fs.front.entries; meetings = fs.meetings; pairs = ps.pairs; draws = ps.draws; goals = gs; out = map out_of ts; counted = 0; reserved = 0; verdict = None; numbers = ns; history = es } in s) ≡ opened o ps.pairs
opened_state o fs ps gs ts ns es a b c d e f g = (let out : map out_of ts ≡ [] = ap (map out_of) e in cc)

pub opened_fit : (shelf : Shelves) (p : Parts) → p.facts.front.homes ≡ [] → p.next ≡ 0 → p.tasks.items ≡ [] → p.numbers.items ≡ no_numbers → p.history.items ≡ [] → Fit shelf p
opened_fit shelf p homes next tasks numbers history = record {
  front = subst (All (λ (h : ℕ × ℕ). h.1 ≡ id_at shelf.buckets h.0)) (sym homes) (All-nil (λ (h : ℕ × ℕ). h.1 ≡ id_at shelf.buckets h.0));
  next = next ∙ sym (ap (λ es. length (draws_in es)) history);
  fronts = subst (Each (HasFront shelf p.facts.front.entries)) (sym tasks) tt;
  few = subst (λ (ts : List TaskRow). length ts < 2 ^ 32) (sym tasks) (omega arith);
  workers = ap length numbers;
}

pub opened_room : (p : Parts) → p.tasks.items ≡ [] → p.verdict ≡ None → vec_len p.history + 1 ≤ vec_capacity p.history → HasRoom p
opened_room p tasks verdict room =
    let l : length p.tasks.items ≡ 0 = ap length tasks in
    let j : joins p.tasks.items ≡ 0 = ap joins tasks in
    let v : closings p.verdict ≡ 1 = ap closings verdict in
    record { events = omega arith; waiting = omega arith }

-- more axioms than the limit
pub started_out : (o : Opening) (s u : State) (pairs : List Pair) → o.limit < length o.axioms → pairs ≡ [] → s ≡ opened o pairs → u ≡ closes 0 (PairsOut 0 (length o.axioms)) s → Starts o u
started_out o s u pairs l e a b = subst (Starts o) (sym (b ∙ ap (closes 0 (PairsOut 0 (length o.axioms))) (a ∙ ap (opened o) e))) (too_many_axioms l)

pub started : (o : Opening) (s : State) (pairs : List Pair) → length o.axioms ≤ o.limit → pairs ≡ axiom_pairs 0 o.axioms → s ≡ opened o pairs → Starts o s
started o s pairs l e a = subst (Starts o) (sym (a ∙ ap (opened o) e)) (axioms_wait l)

-- one axiom more
axioms_push : (k : ℕ) (es : List Equation) (e : Equation) → axiom_pairs k (es ++ e ∷ []) ≡ axiom_pairs k es ++ record { origin = Axiom (k + length es); weight = nodes e.left + nodes e.right; condition = Waiting } ∷ []
axioms_push k [] e = (let z : k ≡ k + 0 = omega arith in ap (λ n. (let p : Pair = record { origin = Axiom n; weight = nodes e.left + nodes e.right; condition = Waiting } in p) ∷ []) z)
axioms_push k (x ∷ es) e = (let z : (k + 1) + length es ≡ k + length (x ∷ es) = omega arith in ap (λ ps. (let p : Pair = record { origin = Axiom k; weight = nodes x.left + nodes x.right; condition = Waiting } in p) ∷ ps)
    (axioms_push (k + 1) es e ∙ ap (λ n. axiom_pairs (k + 1) es ++ record { origin = Axiom n; weight = nodes e.left + nodes e.right; condition = Waiting } ∷ []) z))

pub axioms_more : (es : List Equation) (e : Equation) (n k : ℕ) → k ≡ length es → n ≡ nodes e.left + nodes e.right → axiom_pairs 0 (es ++ e ∷ []) ≡ axiom_pairs 0 es ++ record { origin = Axiom k; weight = n; condition = Waiting } ∷ []
axioms_more es e n k a b =
    let z : 0 + length es ≡ k = omega arith in
    axioms_push 0 es e ∙ ap (λ m. axiom_pairs 0 es ++ record { origin = Axiom m; weight = nodes e.left + nodes e.right; condition = Waiting } ∷ []) z ∙ ap (λ m. axiom_pairs 0 es ++ record { origin = Axiom k; weight = m; condition = Waiting } ∷ []) (sym b)

-- the pairs of the axioms up to one, and one more
pub axioms_at : (es : List Equation) (k : ℕ) (e : Equation) (n : ℕ) (ps qs : List Pair) → k < length es → e ≡ get_or es k e → n ≡ nodes e.left + nodes e.right → ps ≡ axiom_pairs 0 (take k es) → qs ≡ ps ++ record { origin = Axiom k; weight = n; condition = Waiting } ∷ [] → qs ≡ axiom_pairs 0 (take (k + 1) es)
axioms_at es k e n ps qs l at w a b =
    let z : k ≡ length (take k es) = (let t : length (take k es) ≡ k = length-take-le k es (omega arith) in sym t) in
    b ∙ ap (λ xs. xs ++ record { origin = Axiom k; weight = n; condition = Waiting } ∷ []) a ∙ sym (axioms_more (take k es) e n k z w) ∙ ap (λ x. axiom_pairs 0 (take k es ++ x ∷ [])) at ∙ ap (axiom_pairs 0) (sym (take_more es k e l))
