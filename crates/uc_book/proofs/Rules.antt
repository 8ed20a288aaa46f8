-- The rules of a draw, as the parts of a book find that they hold.
use Rattle.std.proofs.Common.{◌≡◌, ℕ, length, slice_get, Some, None, ap, sym, ◌∙◌, subst}
use Rattle.uc_fact.specs.declared.fact.Origin.{Origin}
use Rattle.uc_machine.specs.declared.state.Meeting.{Meeting}
use Rattle.uc_machine.specs.declared.task.Job.{Job}
use Rattle.uc_machine.specs.declared.task.Job.TheVariants.{Goal, More, Meet, Join}
use Rattle.uc_book.specs.declared.parts.Parts.{Parts}
use Rattle.uc_machine.specs.Lists.{At, map_option}
use Rattle.uc_machine.specs.State.{Opening, State, first_due, first_continued, first_unmet}
use Rattle.uc_machine.specs.Effects.{hands_out, next_ticket}
use Rattle.uc_machine.specs.Draws.{Drew, Draws, NoneDue, IsLate, HasBudget, with_ends, goal_is_due, fact_is_unmet, goal_is_continued, pair_is_drawn}
use Rattle.uc_rows.specs.PairRows.{IsHead}
use Rattle.uc_book.specs.Parts.{state_of}
use Rattle.uc_rows.specs.Jobs.{AreJobs}
use Rattle.uc_machine.proofs.Steps.{has_item}

-- a task that is drawn with this ticket and for this job
abbrev pub Gives : Opening → ℕ → State → ℕ → Job → State → Type 0
Gives o w s n j u = Draws o w s (Drew (record { ticket = n; worker = w; job = j; front = length s.entries })) u

gives : (o : Opening) (w : ℕ) (s : State) (n : ℕ) (j k : Job) (u : State) → n ≡ next_ticket s → j ≡ k → u ≡ hands_out w j s → Gives o w s (next_ticket s) k (hands_out w k s) → Gives o w s n j u
gives o w s n j k u a b e d = subst (λ (t : State). Gives o w s n j t) (sym e) (subst (λ m. Gives o w s m j (hands_out w j s)) (sym a) (subst (λ i. Gives o w s (next_ticket s) i (hands_out w i s)) (sym b) d))

pub due_drawn : (o : Opening) (w : ℕ) (s : State) (n : ℕ) (jobs : Job × Job) (u : State) → s.verdict ≡ None → AreJobs Goal (first_due s) jobs → n ≡ next_ticket s → u ≡ hands_out w jobs.0 s → Gives o w s n jobs.0 u
due_drawn o w s n jobs u open_ a b e = gives o w s n jobs.0 (with_ends Goal a.goal) u b a.one e (goal_is_due a.goal open_ a.is)

pub unmet_drawn : (o : Opening) (w : ℕ) (s : State) (n i : ℕ) (u : State) → NoneDue s → Some i ≡ map_option (λ (f : At Meeting). f.number) (first_unmet s) → n ≡ next_ticket s → u ≡ hands_out w (Meet i) s → Gives o w s n (Meet i) u
unmet_drawn o w s n i u due found b e =
    let h = has_item (λ (f : At Meeting). f.number) (first_unmet s) i (sym found) in
    gives o w s n (Meet i) (Meet h.item_.number) u b (ap Meet (sym h.part)) e (fact_is_unmet h.item_ due h.is)

pub more_drawn : (o : Opening) (w : ℕ) (s : State) (n : ℕ) (jobs : Job × Job) (u : State) → IsLate s → HasBudget o s → AreJobs More (first_continued s) jobs → n ≡ next_ticket s → u ≡ hands_out w jobs.0 s → Gives o w s n jobs.0 u
more_drawn o w s n jobs u late budget a b e = gives o w s n jobs.0 (with_ends More a.goal) u b a.one e (goal_is_continued a.goal late a.is budget)

pub pair_drawn : (o : Opening) (w : ℕ) (p : Parts) (n q : ℕ) (origin : Origin) (u : State) → IsLate (state_of p) → first_continued (state_of p) ≡ None → HasBudget o (state_of p) → IsHead p.pairs q origin → n ≡ next_ticket (state_of p) → u ≡ hands_out w (Join q origin) (state_of p) → Gives o w (state_of p) n (Join q origin) u
pair_drawn o w p n q origin u late none budget h b e =
    let at : slice_get p.pairs.pairs h.place.number ≡ Some h.pair = ap (λ k. slice_get p.pairs.pairs k) h.number_is ∙ h.at in
    gives o w (state_of p) n (Join q origin) (Join h.place.number h.pair.origin) u b (ap (λ k. Join k origin) (sym h.number_is) ∙ ap (Join h.place.number) (sym h.origin_is)) e (pair_is_drawn h.place h.pair late none h.is at budget)
