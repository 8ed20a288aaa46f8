-- The end of a task that is out alone.
use Rattle.std.proofs.Common.{◌≡◌, ℕ, ◌+◌, ◌-◌, ◌^◌, ◌<◌, List, [], ◌∷◌, length, take, min, Some, refl, sym, ap, ◌∙◌, subst}
use Rattle.std.proofs.Math.Seq.{take-length}
use Rattle.uc_order.specs.Laws.{Meaning}
use Rattle.uc_term.specs.declared.equation.Equation.{Equation}
use Rattle.uc_shelf.specs.declared.entry.Entry.{Entry}
use Rattle.uc_shelf.specs.Sights.{Sight}
use Rattle.uc_machine.specs.declared.task.Job.{Job}
use Rattle.uc_machine.specs.State.{Opening, State, Out, out_at}
use Rattle.uc_machine.specs.Effects.{reclaims}
use Rattle.uc_machine.specs.Events.{commits_by}
use Rattle.uc_machine.specs.Commits.{Commits}
use Rattle.uc_machine.specs.Results.{IsResult}
use Rattle.uc_book.specs.declared.token.Task.{Task}
use Rattle.uc_book.specs.declared.token.Done.{Done}
use Rattle.uc_book.specs.declared.answer.Receipt.{Receipt}
use Rattle.uc_book.specs.declared.answer.CommitFault.{CommitFault}
use Rattle.uc_book.specs.declared.answer.CommitFault.TheVariants.{NotOut, NoMemory}
use Rattle.uc_book.specs.Openings.{PassView}
use Rattle.uc_book.specs.Answers.{IsRight, IsCommitted, IsRefused, IsReclaimed, IsNotOutTo}
use Rattle.uc_search.specs.declared.working.Turn.TheVariants.{Ends}
use Rattle.uc_search.specs.declared.working.Ended.TheVariants.{NoMemory as LacksMemory}
use Rattle.uc_search.specs.Working.{IsDoneFor, task_out, Counts, CommitsResult, EndsTask, is_put_back}
use Rattle.uc_search.proofs.Turns.{at_one, only_one, one_reclaims}
use Rattle.uc_search.proofs.Counting.{commit_commits, reclaim_commits}

-- the task that the result was committed for is the one that is out
pub committed_is : (o : Opening) (w : ℕ) (t : Task) (d : Done) (s u : State) (receipt : Receipt) → s.out ≡ task_out w t ∷ [] → (c : IsCommitted o s w d receipt u) → c.task ≡ task_out w t
committed_is o w t d s u receipt e c = only_one (task_out w t) c.task s.out d.ticket e c.out.at

-- its result is committed
pub finished : (m : Meaning) (o : Opening) (w : ℕ) (t : Task) (d : Done) (s u : State) (receipt : Receipt) → s.out ≡ task_out w t ∷ [] → IsDoneFor t d → d.opening.problem.axioms ≡ o.axioms → IsRight m d → IsCommitted o s w d receipt u → CommitsResult m o (task_out w t) s u
finished m o w t d s u receipt e is axioms right c =
    let same = committed_is o w t d s u receipt e c in
    let front : take (length t.front.entries) s.entries ≡ d.front.entries = subst (λ (x : Out). take x.front s.entries ≡ d.front.entries) same c.out.front_is in
    record {
      finding = d.found;
      is_result =
          subst (λ (es : List Equation). IsResult m es (take (length t.front.entries) s.entries) t.job d.found) axioms
          (subst (λ (j : Job). IsResult m d.opening.problem.axioms (take (length t.front.entries) s.entries) j d.found) is.job
          (subst (λ (es : List Entry). IsResult m d.opening.problem.axioms es d.job d.found) (sym front) right));
      commits = subst (λ (x : Out). Commits o x d.found s u) same c.commits;
    }

-- the pass counts it
pub counted : (o : Opening) (w : ℕ) (t : Task) (d : Done) (s u : State) (receipt : Receipt) (old new : PassView) → s.out ≡ task_out w t ∷ [] → w ≡ old.worker → new ≡ record old { commits = min (old.commits + 1) (2 ^ 64 - 1) } → IsCommitted o s w d receipt u
    → ((v : ℕ) → commits_by v u.history < 2 ^ 64) → Counts old new s u
counted o w t d s u receipt old new e same is c few =
    let worker : c.task.worker ≡ old.worker = ap (λ (x : Out). x.worker) (committed_is o w t d s u receipt e c) ∙ same in
    let made : commits_by old.worker u.history ≡ commits_by old.worker s.history + 1 = subst (λ v. commits_by v u.history ≡ commits_by v s.history + 1) worker (commit_commits o c.task d.found s u c.commits) in
    record { more = 1; made = made; counted = ap (λ (p : PassView). p.commits) is; few = few old.worker }

-- the result of the task that is out, over all entries, isn't one of a task that isn't out
pub is_out_for : {A : Type 0} (w : ℕ) (t : Task) (d : Done) (s : State) (fault : CommitFault) (n : ℕ) → s.out ≡ task_out w t ∷ [] → IsDoneFor t d → t.front.entries ≡ s.entries → IsRefused s w d fault → fault ≡ NotOut n → A
is_out_for w t d s NoMemory n e is whole h f = absurd cc
is_out_for w t d s (NotOut k) n e is whole h f = absurd (h.1 (task_out w t) (record {
  at = subst (λ i. out_at i s.out ≡ Some (task_out w t)) (sym is.ticket) (at_one (task_out w t) s.out e);
  worker = refl;
  job_is = sym is.job;
  front_is = subst (λ es. take (length t.front.entries) es ≡ d.front.entries) whole (take-length t.front.entries ∙ ap (λ (f : Sight). f.entries) (sym is.front));
}))

-- the only task that is out is put back
pub put_back_is : (s u : State) (w ticket : ℕ) (t : Out) → s.out ≡ t ∷ [] → IsReclaimed s w ticket u → u ≡ reclaims t s
put_back_is s u w ticket t e r = r.is ∙ ap (λ (x : Out). reclaims x s) (only_one t r.task s.out ticket e r.at)

-- it is out
pub is_out_alone : {A : Type 0} (s : State) (w ticket : ℕ) (t : Out) (fault : CommitFault) → s.out ≡ t ∷ [] → t.ticket ≡ ticket → t.worker ≡ w → IsNotOutTo s w ticket fault → A
is_out_alone s w ticket t (NotOut n) e is worker h = absurd (h.1 t (subst (λ k. out_at k s.out ≡ Some t) is (at_one t s.out e)) worker)
is_out_alone s w ticket t NoMemory e is worker h = absurd h

-- A task that was put back, where its result couldn't be committed.
pub record IsBack (m : Meaning) (o : Opening) (t : Out) (s u : State) : Type 0 where
  pub ends : EndsTask m o t s (Ends LacksMemory) u
  pub none_out : u.out ≡ []
  pub commits : (w : ℕ) → commits_by w u.history ≡ commits_by w s.history

is_back : (m : Meaning) (o : Opening) (t : Out) (s u : State) → s.out ≡ t ∷ [] → u ≡ reclaims t s → IsBack m o t s u
is_back m o t s u e is = subst (IsBack m o t s) (sym is) (record { ends = is_put_back; none_out = one_reclaims t s e; commits = λ w. reclaim_commits t s w })

pub ends_back : (m : Meaning) (o : Opening) (t : Out) (s v u : State) → v ≡ s → s.out ≡ t ∷ [] → ((x : Out) → v.out ≡ x ∷ [] → u ≡ reclaims x v) → IsBack m o t s u
ends_back m o t s v u e out back = is_back m o t s u out (back t (ap (λ (x : State). x.out) e ∙ out) ∙ ap (reclaims t) e)
