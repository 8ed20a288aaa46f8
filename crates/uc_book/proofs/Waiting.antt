-- What waits, and the draws that give no task.
use Rattle.std.proofs.Common.{◌≡◌, ℕ, ◌<◌, ◌==◌, List, [], ◌∷◌, length, map, Bool, true, false, Option, Some, None, refl, ap, sym, ◌∙◌, arith, subst}
use Rattle.std.specs.Prelude.{MatchOption, is_some, not, ◌↔◌, ◌≢◌}
use Rattle.std.proofs.lemmas.Bool.{false≢true, ne_eqb, eqb-true, eqb-false}
use Rattle.std.proofs.lemmas.List.{length-map}
use Rattle.uc_fact.specs.declared.fact.Origin.{Origin}
use Rattle.uc_machine.specs.declared.event.Verdict.TheVariants.{BudgetOut}
use Rattle.uc_machine.specs.Lists.{At, map_option}
use Rattle.uc_machine.specs.State.{Opening, State, Target, first_continued, peek, orphan_at}
use Rattle.uc_machine.specs.Effects.{closes}
use Rattle.uc_machine.specs.Draws.{Idle, Drained, Closed, Draws, NoneUnmet, IsLate, Waits, goal_waits, pair_waits, NothingWaits, IsSpent, budget_is_out, budget_is_spent, all_is_out, all_is_done}
use Rattle.uc_book.specs.declared.parts.Parts.{Parts}
use Rattle.uc_rows.specs.declared.tasks.TaskRow.{TaskRow}
use Rattle.uc_rows.specs.TaskRows.{out_of}
use Rattle.uc_rows.specs.PairRows.{head_in, IsHead}
use Rattle.uc_book.specs.Parts.{state_of}

some_number : (s : State) (o : Option (At Target)) (b : Bool) → first_continued s ≡ o → b ≡ is_some (map_option (λ (f : At Target). f.number) o) → b ≡ true → Waits s
some_number s None b e q t = absurd (false≢true (sym q ∙ t))
some_number s (Some g) b e q t = goal_waits g e

-- a continued goal was found
pub goal_found_waits : (s : State) (r : Option ℕ) (b : Bool) → r ≡ map_option (λ (f : At Target). f.number) (first_continued s) → b ≡ is_some r → b ≡ true → Waits s
goal_found_waits s r b e q t = some_number s (first_continued s) b refl (q ∙ ap is_some e) t

no_number : (o : Option (At Target)) (b : Bool) → b ≡ is_some (map_option (λ (f : At Target). f.number) o) → b ≡ false → o ≡ None
no_number None b q f = refl
no_number (Some g) b q f = absurd (false≢true (sym f ∙ q))

pub none_continued : (s : State) (r : Option ℕ) (b : Bool) → r ≡ map_option (λ (f : At Target). f.number) (first_continued s) → b ≡ is_some r → b ≡ false → first_continued s ≡ None
none_continued s r b e q f = no_number (first_continued s) b (q ∙ ap is_some e) f

-- a pair was found at the queue's head
pub head_found_waits : (p : Parts) (r : Option (ℕ × Origin)) (b : Bool) → MatchOption r (head_in p.pairs ≡ None) (λ h. IsHead p.pairs h.0 h.1) → b ≡ is_some r → b ≡ true → Waits (state_of p)
head_found_waits p None b h q t = absurd (false≢true (sym q ∙ t))
head_found_waits p (Some x) b h q t = pair_waits h.place h.is

pub none_at_head : (p : Parts) (r : Option (ℕ × Origin)) (b : Bool) → MatchOption r (head_in p.pairs ≡ None) (λ h. IsHead p.pairs h.0 h.1) → b ≡ is_some r → b ≡ false → peek (state_of p) ≡ None
none_at_head p None b h q f = h
none_at_head p (Some x) b h q f = absurd (false≢true (sym f ∙ q))

-- none was found there, and so no orphan
pub no_head : (p : Parts) (r : Option (ℕ × Origin)) (b : Bool) → MatchOption r (head_in p.pairs ≡ None) (λ h. IsHead p.pairs h.0 h.1) → is_some r ≡ not b → b ≡ true → peek (state_of p) ≡ None
no_head p None b h q t = h
no_head p (Some x) b h q t = absurd (false≢true (sym (q ∙ ap not t)))

pub late_by : (s : State) → NoneUnmet s → peek s ≡ None → IsLate s
late_by s met none = record { none_unmet = met; no_orphan = ap (orphan_at s) none }

-- as many tasks are out as the list has
some_out : (ts : List TaskRow) → (length ts ≡ 0 → ⊥) → map out_of ts ≢ []
some_out [] h = λ e. h refl
some_out (t ∷ ts) h = λ e. absurd (cc)

pub none_out : (ts : List TaskRow) → length ts ≡ 0 → map out_of ts ≡ []
none_out [] e = refl
none_out (t ∷ ts) e = absurd (omega (arith, e))

-- whether none is out, as the test of the vector says it
pub none_by : (b : Bool) (n m : ℕ) → b ≡ (n == 0) → n ≡ m → b ≡ true → m ≡ 0
none_by b n m e s t = sym s ∙ eqb-true n 0 (sym e ∙ t)

pub some_by : (b : Bool) (n m : ℕ) → b ≡ (n == 0) → n ≡ m → b ≡ false → m ≡ 0 → ⊥
some_by b n m e s f z = eqb-false n 0 (sym e ∙ f) (s ∙ z)

module _ (o : Opening) (w : ℕ) (p : Parts) (late : IsLate (state_of p)) where
  pub spent_idle : (n : ℕ) → Waits (state_of p) → IsSpent o (state_of p) → n ≡ length p.tasks.items → (length p.tasks.items ≡ 0 → ⊥) → Draws o w (state_of p) (Idle n) (state_of p)
  spent_idle n waits spent e some = subst (λ k. Draws o w (state_of p) (Idle k) (state_of p)) (length-map p.tasks.items out_of ∙ sym e) (budget_is_out late waits spent (some_out p.tasks.items some))

  pub spent_closed : (u : State) → Waits (state_of p) → IsSpent o (state_of p) → length p.tasks.items ≡ 0 → u ≡ closes w (BudgetOut p.counted) (state_of p) → Draws o w (state_of p) (Closed (BudgetOut p.counted)) u
  spent_closed u waits spent none e = subst (Draws o w (state_of p) (Closed (BudgetOut p.counted))) (sym e) (budget_is_spent late waits spent (none_out p.tasks.items none))

  pub nothing_idle : (n : ℕ) → NothingWaits (state_of p) → n ≡ length p.tasks.items → (length p.tasks.items ≡ 0 → ⊥) → Draws o w (state_of p) (Idle n) (state_of p)
  nothing_idle n waits e some = subst (λ k. Draws o w (state_of p) (Idle k) (state_of p)) (length-map p.tasks.items out_of ∙ sym e) (all_is_out late waits (some_out p.tasks.items some))

  pub nothing_drained : NothingWaits (state_of p) → length p.tasks.items ≡ 0 → Draws o w (state_of p) Drained (state_of p)
  nothing_drained waits none = all_is_done late waits (none_out p.tasks.items none)

-- some task is out, as the test of the list says it
pub has_some : (ts : List TaskRow) (b : Bool) → b ≡ (length ts == 0) → (not b ≡ true) ↔ (0 < length (map out_of ts))
has_some [] b e = (λ h. absurd (false≢true (ap not (sym e) ∙ h)), λ l. absurd (omega (arith, l)))
has_some (t ∷ ts) b e = (λ h. omega arith, λ l. ap not (e ∙ ne_eqb (length (t ∷ ts)) 0 (λ z. absurd (omega (arith, z)))))
