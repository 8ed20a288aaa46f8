-- The draws of a history that has one event more.
use Rattle.std.proofs.Common.{◌≡◌, ℕ, suc, ◌+◌, ◌≤◌, List, [], ◌∷◌, ◌++◌, length, false, refl, ap, ◌∙◌, arith, inl, inr}
use Rattle.std.proofs.lemmas.Bool.{cases_Bool}
use Rattle.std.proofs.lemmas.List.{append-nil, length_push}
use Rattle.uc_machine.specs.declared.event.Event.{Event}
use Rattle.uc_machine.specs.declared.task.Job.{Job}
use Rattle.uc_machine.specs.declared.task.Job.TheVariants.{Goal, More, Meet, Join}
use Rattle.uc_machine.specs.State.{is_draw, is_draw_what, draws_in}
use Rattle.uc_machine.specs.Effects.{draw_event, reclaim_event}
use Rattle.uc_machine.proofs.Accounts.{draws_in-push, is_draw_event}

-- no event but a draw counts
pub draws-none : (h : List Event) (e : Event) → is_draw_what e.what ≡ false → draws_in (h ++ e ∷ []) ≡ draws_in h
draws-none h e d = draws_in-push h e ∙ rw d (append-nil (draws_in h))

pub draws-one : (h : List Event) (w : ℕ) (j : Job) (n : ℕ) → length (draws_in (h ++ record { worker = w; what = draw_event j n } ∷ [])) ≡ length (draws_in h) + 1
draws-one h w j n = ap length (draws_in-push h (record { worker = w; what = draw_event j n }) ∙ rw (is_draw_event w j n) refl) ∙ length_push (draws_in h) (record { worker = w; what = draw_event j n })

pub no_draw : (j : Job) → is_draw_what (reclaim_event j) ≡ false
no_draw (Goal g l r) = refl
no_draw (More g l r) = refl
no_draw (Meet i) = refl
no_draw (Join p a) = refl

pub few_draws : (h : List Event) → length (draws_in h) ≤ length h
few_draws [] = omega arith
few_draws (e ∷ h) = let i : length (draws_in h) ≤ length h = few_draws h in elim (cases_Bool (is_draw e)) as (λ _. length (draws_in (e ∷ h)) ≤ suc (length h)) [ inl b ↦ rw b (omega arith) | inr b ↦ rw b (omega arith) ]
