-- What a call leaves of the number of commits of each worker and of the units that are counted, in a book.
use Rattle.std.proofs.Common.{◌≡◌, ℕ, ◌+◌, ◌≤◌, ◌<◌, List, [], ◌∷◌, Result, Ok, Err, IfOk, OnErr, Option, None, Some, refl, ap, ◌∙◌, arith}
use Rattle.uc_machine.specs.State.{Opening, State}
use Rattle.uc_machine.specs.Draws.{Draws}
use Rattle.uc_machine.specs.Events.{commits_by}
use Rattle.uc_machine.specs.Runs.{Audits}
use Rattle.uc_machine.specs.declared.task.Missing.{Missing}
use Rattle.uc_book.specs.declared.answer.Audited.{Audited}
use Rattle.uc_book.specs.declared.answer.Drawn.{Drawn}
use Rattle.uc_book.specs.Openings.{BookView}
use Rattle.uc_book.specs.Answers.{reply_of, audit_reply_of, IsReclaimed}
use Rattle.uc_order.specs.Laws.{Meaning}
use Rattle.uc_machine.specs.Lists.{each}
use Rattle.uc_machine.specs.Effects.{reclaims, recalls}
use Rattle.uc_machine.specs.State.{Out}
use Rattle.uc_machine.specs.declared.event.Verdict.{Verdict}
use Rattle.uc_search.specs.Searching.{EndsRound, CutsRound}
use Rattle.uc_search.proofs.Counting.{draw_commits, audit_commits, reclaim_commits}
use Rattle.uc_search.proofs.Units.{drawn_counted, audit_counted, reclaim_counted, round_end_counted, cut_counted}
use Rattle.uc_search.proofs.Endless.{ended_counted}

pub drawn_commits : {O E : Type 0} (o : Opening) (w : ℕ) (a b : BookView O) (r : Result Drawn E) → IfOk r (λ d. Draws o w a.state (reply_of w d) b.state) → OnErr r (b ≡ a) → (v : ℕ) → commits_by v b.state.history ≡ commits_by v a.state.history
drawn_commits o w a b (Ok d) h e v = draw_commits o w a.state (reply_of w d) b.state h v
drawn_commits o w a b (Err x) h e v = ap (λ (x : BookView _). commits_by v x.state.history) e

pub audited_commits : {O E : Type 0} (o : Opening) (x : Missing) (a b : BookView O) (r : Result Audited E) → IfOk r (λ d. Audits o x.fact a.state (audit_reply_of d) b.state) → OnErr r (b ≡ a) → (v : ℕ) → commits_by v b.state.history ≡ commits_by v a.state.history
audited_commits o x a b (Ok d) h e v = audit_commits o x a.state (audit_reply_of d) b.state h v
audited_commits o x a b (Err y) h e v = ap (λ (z : BookView _). commits_by v z.state.history) e

pub reclaimed_commits : {O E : Type 0} (w ticket : ℕ) (a b : BookView O) (r : Result (Unit {0}) E) → IfOk r (λ _. IsReclaimed a.state w ticket b.state) → OnErr r (b ≡ a) → (v : ℕ) → commits_by v b.state.history ≡ commits_by v a.state.history
reclaimed_commits w ticket a b (Ok d) h e v = ap (λ (s : State). commits_by v s.history) h.is ∙ reclaim_commits h.task a.state v
reclaimed_commits w ticket a b (Err y) h e v = ap (λ (z : BookView _). commits_by v z.state.history) e

-- UNITS

-- so many rounds are still no more than the units that are counted
pub units_stay : (rounds : ℕ) (s u : State) → rounds ≤ s.counted → s.counted ≤ u.counted → rounds ≤ u.counted
units_stay rounds s u a b = omega (arith, a, b)

same_counted : {O : Type 0} (a b : BookView O) → b ≡ a → a.state.counted ≤ b.state.counted
same_counted a b e = (let f : b.state.counted ≡ a.state.counted = ap (λ (x : BookView _). x.state.counted) e in omega arith)

pub draw_keeps_units : {O E : Type 0} (o : Opening) (w : ℕ) (a b : BookView O) (r : Result Drawn E) → IfOk r (λ d. Draws o w a.state (reply_of w d) b.state) → OnErr r (b ≡ a) → a.state.counted ≤ b.state.counted
draw_keeps_units o w a b (Ok d) h e = (let f : b.state.counted ≡ a.state.counted = drawn_counted o w a.state (reply_of w d) b.state h in omega arith)
draw_keeps_units o w a b (Err x) h e = same_counted a b e

pub audit_keeps_units : {O E : Type 0} (o : Opening) (x : Missing) (a b : BookView O) (r : Result Audited E) → IfOk r (λ d. Audits o x.fact a.state (audit_reply_of d) b.state) → OnErr r (b ≡ a) → a.state.counted ≤ b.state.counted
audit_keeps_units o x a b (Ok d) h e = audit_counted o x.fact a.state (audit_reply_of d) b.state h
audit_keeps_units o x a b (Err y) h e = same_counted a b e

pub reclaim_keeps_units : {O E : Type 0} (w ticket : ℕ) (a b : BookView O) (r : Result (Unit {0}) E) → IfOk r (λ _. IsReclaimed a.state w ticket b.state) → OnErr r (b ≡ a) → a.state.counted ≤ b.state.counted
reclaim_keeps_units w ticket a b (Ok d) h e = (let f : b.state.counted ≡ a.state.counted = ap (λ (s : State). s.counted) h.is ∙ reclaim_counted h.task a.state in omega arith)
reclaim_keeps_units w ticket a b (Err y) h e = same_counted a b e

each_keeps_units : (ts : List Out) (s : State) → (each reclaims ts s).counted ≡ s.counted
each_keeps_units [] s = refl
each_keeps_units (t ∷ ts) s = each_keeps_units ts (reclaims t s) ∙ reclaim_counted t s

pub recall_keeps_units : (s : State) → (recalls s).counted ≡ s.counted
recall_keeps_units s = each_keeps_units s.out s

module _ (m : Meaning) (o : Opening) where
  pub round_end_keeps_units : {E : Type 0} (s u : State) (r : Result (Option Verdict) E) → IfOk r (λ v. EndsRound m o s v u) → OnErr r (CutsRound m o s u) → s.counted ≤ u.counted
  round_end_keeps_units s u (Ok v) h e = round_end_counted m o s v u h
  round_end_keeps_units s u (Err x) h e = cut_counted m o s u e

  -- after a round without a verdict there are more
  pub round_counts : {E : Type 0} (s u : State) (r : Result (Option Verdict) E) → IfOk r (λ v. EndsRound m o s v u) → IfOk r (λ v. v ≡ None → s.counted < u.counted)
  round_counts s u (Ok None) h = λ e. (let more : s.counted + 1 ≤ u.counted = ended_counted m o s u h in omega arith)
  round_counts s u (Ok (Some v)) h = λ e. absurd (cc)
  round_counts s u (Err x) h = tt
