-- The numbers of a state of a run are small.
use Rattle.std.proofs.Common.{◌≡◌, ℕ, ◌<◌, ◌≤◌, ◌^◌, List, length, map, slice_get, Some, sym, arith, subst}
use Rattle.std.specs.Prelude.{◌&&◌, ◌==◌}
use Rattle.std.specs.List.{sum_by}
use Rattle.std.proofs.lemmas.List.Sums.{count_by-le-length}
use Rattle.boxcar.specs.Table.{Shelves}
use Rattle.uc_order.specs.Laws.{Meaning}
use Rattle.uc_machine.specs.declared.event.Event.{Event}
use Rattle.uc_machine.specs.declared.state.Numbers.{Numbers}
use Rattle.uc_book.specs.declared.parts.Parts.{Parts}
use Rattle.uc_machine.specs.declared.task.Job.{Job}
use Rattle.uc_machine.specs.declared.task.Job.TheVariants.{Goal, More, Meet, Join}
use Rattle.uc_machine.specs.declared.state.Stage.TheVariants.{Busy}
use Rattle.uc_machine.specs.declared.state.Meeting.TheVariants.{Visiting}
use Rattle.uc_shelf.specs.Entries.{born}
use Rattle.uc_machine.specs.Lists.{map_option}
use Rattle.uc_machine.specs.State.{Opening, Target, Out, is_draw, draws_in}
use Rattle.uc_machine.specs.Effects.{unit_of}
use Rattle.uc_machine.specs.Events.{numbers_of, is_commit_what, is_reclaim_what}
use Rattle.uc_book.specs.Openings.{Opened, opening_of}
use Rattle.uc_rows.specs.TaskRows.{out_of}
use Rattle.uc_book.specs.Parts.{state_of, Fit, HasRoom, IsBook, IsSubjectOut}
use Rattle.uc_rows.specs.Bounds.{IsSmall}
use Rattle.uc_book.specs.Drawing.{IsSound}
use Rattle.uc_book.specs.Ending.{CanEnd}
use Rattle.uc_machine.proofs.Kept.{Kept, IsBusy}
use Rattle.uc_machine.proofs.Lists.{sum-without, below}
use Rattle.uc_machine.proofs.Steps.{at_task, has_item}
use Rattle.uc_machine.proofs.Runs.{kept_reaches}
use Rattle.uc_rows.proofs.Items.{or-get}
use Rattle.uc_book.proofs.Histories.{few_draws}

small_numbers : (h : List Event) (w : ℕ) → length h < 2 ^ 63 → IsSmall (numbers_of h w)
small_numbers h w l = record {
  drawn = omega (arith, count_by-le-length (λ (e : Event). is_draw e && (e.worker == w)) h);
  commits = omega (arith, count_by-le-length (λ (e : Event). is_commit_what e.what && (e.worker == w)) h);
  reclaims = omega (arith, count_by-le-length (λ (e : Event). is_reclaim_what e.what && (e.worker == w)) h);
}

pub sound_from : (o : Opening) (p : Parts) → Kept o (state_of p) → o.budget ≤ 10000000 → length p.numbers.items ≡ 65 → p.next ≡ length (draws_in p.history.items) → length p.history.items < 2 ^ 63 → IsSound o p
sound_from o p k few many next l = record {
  small = λ j d below. (subst (λ (n : Numbers). IsSmall n) (sym (or-get p.numbers.items j (numbers_of p.history.items j) d (k.accounts.numbers_are j (omega arith)))) (small_numbers p.history.items j l));
  within = k.accounts.within;
  budget = few;
  next = omega (arith, few_draws p.history.items);
}

there : (gs : List Target) (g : ℕ) → map_option (λ (x : Target). x.stage) (slice_get gs g) ≡ Some Busy → g < length gs
there gs g e = let h = has_item (λ (x : Target). x.stage) (slice_get gs g) Busy e in below gs g h.item_ h.is

busy_is_out : (p : Parts) (w : ℕ) (j : Job) → length p.facts.meetings ≡ length (born p.facts.front.entries) → IsBusy p.pairs.pairs p.goals p.facts.meetings w j → IsSubjectOut p w j
busy_is_out p w (Goal g l r) e b = there p.goals g b
busy_is_out p w (More g l r) e b = there p.goals g b
busy_is_out p w (Meet i) e b = subst (λ n. i < n) e (below p.facts.meetings i Visiting b)
busy_is_out p w (Join n a) e b = b

pub can_end : (shelf : Shelves) (o : Opening) (p : Parts) → Kept o (state_of p) → IsSound o p → Fit shelf p → HasRoom p → CanEnd shelf o p
can_end shelf o p k s f r = record {
  sound = s;
  fit = f;
  room = r;
  subjects = λ t at. busy_is_out p t.worker t.job k.facts.each_meets (at_task o (state_of p) t k at);
  units = λ t at. (let all : p.reserved ≡ sum_by (λ (u : Out). unit_of u.job) (map out_of p.tasks.items) = k.accounts.reserved_is in let one = sum-without (λ (u : Out). unit_of u.job) t.ticket (map out_of p.tasks.items) t at in omega arith);
}

pub book_sound : (m : Meaning) (o : Opened) (p : Parts) → IsBook m o p → length p.history.items < 2 ^ 63 → IsSound (opening_of o) p
book_sound m o p b l = sound_from (opening_of o) p (kept_reaches m (opening_of o) (state_of p) b.reaches) b.budget b.fit.workers b.fit.next l

pub book_can_end : (m : Meaning) (o : Opened) (p : Parts) → IsBook m o p → length p.history.items < 2 ^ 63 → CanEnd o.shelf (opening_of o) p
book_can_end m o p b l = can_end o.shelf (opening_of o) p (kept_reaches m (opening_of o) (state_of p) b.reaches) (book_sound m o p b l) b.fit b.room
