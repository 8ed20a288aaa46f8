-- The changes of a state that the methods of the parts put together.
use Rattle.std.proofs.Common.{◌≡◌, ℕ, ◌+◌, ◌-◌, List, [], ◌∷◌, ◌++◌, length, ap, ◌∙◌}
use Rattle.std.specs.Prelude.{map}
use Rattle.std.proofs.lemmas.List.{map_push}
use Rattle.uc_shelf.specs.Sights.{Sight}
use Rattle.uc_rows.specs.declared.tasks.TaskRow.{TaskRow}
use Rattle.uc_rows.specs.TaskRows.{out_of}
use Rattle.uc_machine.specs.declared.event.Event.{Event}
use Rattle.uc_machine.specs.declared.event.Happening.{Happening}
use Rattle.uc_machine.specs.declared.state.Numbers.{Numbers}
use Rattle.uc_machine.specs.declared.task.Job.{Job}
use Rattle.uc_machine.specs.declared.task.Job.TheVariants.{Goal, More, Meet, Join}
use Rattle.uc_machine.specs.Lists.{change}
use Rattle.uc_machine.specs.State.{State, Out, without}
use Rattle.uc_machine.specs.Effects.{takes, hands_out, draw_event, unit_of, one_drawn, one_commit, one_reclaim, next_ticket, restores, reclaims, reclaim_event, accepts}

-- what a task takes doesn't look at the tasks out nor at what is reserved
pub handed : (s m : State) (w n : ℕ) (j : Job) (out : List Out) (r : ℕ) (ns : List Numbers) (h : List Event) → m ≡ takes w j s → n ≡ next_ticket s → out ≡ s.out ++ record { ticket = n; worker = w; job = j; front = length s.entries } ∷ [] → r ≡ s.reserved + unit_of j
    → ns ≡ change one_drawn s.numbers w → h ≡ s.history ++ record { worker = w; what = draw_event j (length s.entries) } ∷ [] → (let v : State = record m { out = out; reserved = r; numbers = ns; history = h } in v) ≡ hands_out w j s
handed s m w n (Goal g l k) out r ns h a t b c d e = cc
handed s m w n (More g l k) out r ns h a t b c d e = cc
handed s m w n (Meet i) out r ns h a t b c d e = cc
handed s m w n (Join p o) out r ns h a t b c d e = cc

-- a task that is put back
pub returned : (s m : State) (t : Out) (out : List Out) (r : ℕ) (ns : List Numbers) (h : List Event) → (let v : State = record s { out = out; reserved = r } in m ≡ restores t.job v) → out ≡ without t.ticket s.out → r ≡ s.reserved - unit_of t.job → ns ≡ change one_reclaim s.numbers t.worker
    → h ≡ s.history ++ record { worker = t.worker; what = reclaim_event t.job } ∷ [] → (let v : State = record m { numbers = ns; history = h } in v) ≡ reclaims t s
returned s m t out r ns h a b c d e = by_job t.job s m t.ticket t.worker t.front out r ns h a b c d e
  where
    by_job : (j : Job) (s m : State) (n w f : ℕ) (out : List Out) (r : ℕ) (ns : List Numbers) (h : List Event) → (let v : State = record s { out = out; reserved = r } in m ≡ restores j v) → out ≡ without n s.out → r ≡ s.reserved - unit_of j → ns ≡ change one_reclaim s.numbers w
        → h ≡ s.history ++ record { worker = w; what = reclaim_event j } ∷ [] → (let v : State = record m { numbers = ns; history = h } in v) ≡ (let t : Out = record { ticket = n; worker = w; job = j; front = f } in reclaims t s)
    by_job (Goal g l k) s m n w f out r ns h a b c d e = cc
    by_job (More g l k) s m n w f out r ns h a b c d e = cc
    by_job (Meet i) s m n w f out r ns h a b c d e = cc
    by_job (Join p o) s m n w f out r ns h a b c d e = cc

pub accepted : (s : State) (t : Out) (what : Happening) (out : List Out) (c r : ℕ) (ns : List Numbers) (h : List Event) → out ≡ without t.ticket s.out → r ≡ s.reserved - unit_of t.job → c ≡ s.counted + unit_of t.job → ns ≡ change one_commit s.numbers t.worker
    → h ≡ s.history ++ record { worker = t.worker; what = what } ∷ [] → (let v : State = record s { out = out; counted = c; reserved = r; numbers = ns; history = h } in v) ≡ accepts t what s
accepted s t what out c r ns h a b d e f = cc

-- the tasks out with one more behind them
pub out_more : (ts us : List TaskRow) (row : TaskRow) (n : ℕ) (front : Sight) → us ≡ ts ++ row ∷ [] → row.ticket ≡ n → row.front ≡ front → map out_of us ≡ map out_of ts ++ record { ticket = n; worker = row.worker; job = row.job; front = length front.entries } ∷ []
out_more ts us row n front e a b = ap (map out_of) e ∙ map_push out_of ts row ∙ ap (λ k. map out_of ts ++ record { ticket = k; worker = row.worker; job = row.job; front = length row.front.entries } ∷ []) a ∙ ap (λ (f : Sight). map out_of ts ++ record { ticket = n; worker = row.worker; job = row.job; front = length f.entries } ∷ []) b
