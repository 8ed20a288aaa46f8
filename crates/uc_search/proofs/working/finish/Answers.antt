use Rattle.std.proofs.Common.{refl, sym, ap, ◌∙◌, subst}
use Rattle.uc_shelf.specs.Sights.{Sight}
use Rattle.uc_book.specs.Openings.{Opened, PassView, opening_of}
use Rattle.uc_book.specs.Answers.{IsRight}
use Rattle.uc_search.specs.Working.{task_out, IsSamePass}
use Rattle.uc_search.proofs.Turns.{one_commits}
use Rattle.uc_search.proofs.Finishing.{finished, counted, is_out_for}
use Rattle.uc_search.proofs.working.finish.Goals.{in-Ok, in-Err-default-NoMemory}
use Rattle.uc_search.proofs.working.finish.Goals as goal

pub returns-clause-commits : goal.returns-clause-commits
returns-clause-commits g c = elim c.match-commit.branch [
  | in-Ok w ↦
      let d = c.in_ok-done.done in
      let b = c.args.book.now in
      rw w.result-is (finished (g.O.Order.meaning b.order) (opening_of b.opening) c.args.pass.now.worker c.args.task.now d b.state c.commit.new.self.state w.in-Ok.field-0 c.requires.out c.in_ok-done.ensures.done
      (ap (λ (x : Opened). x.problem.axioms) (c.in_ok-done.ensures.done.opening ∙ c.requires.task.opening)) (subst (λ x. IsRight (g.O.Order.meaning x) d) (sym c.requires.order) c.in_ok-done.ensures.right) w.in-Ok.ensures.committed)
  | in-Err-default-NoMemory w ↦ rw w.result-is tt
]

pub returns-clause-none_out : goal.returns-clause-none_out
returns-clause-none_out g c = elim c.match-commit.branch [
  | in-Ok w ↦
      let d = c.in_ok-done.done in
      let b = c.args.book.now in
      let f = finished (g.O.Order.meaning b.order) (opening_of b.opening) c.args.pass.now.worker c.args.task.now d b.state c.commit.new.self.state w.in-Ok.field-0 c.requires.out c.in_ok-done.ensures.done
      (ap (λ (x : Opened). x.problem.axioms) (c.in_ok-done.ensures.done.opening ∙ c.requires.task.opening)) (subst (λ x. IsRight (g.O.Order.meaning x) d) (sym c.requires.order) c.in_ok-done.ensures.right) w.in-Ok.ensures.committed in
      rw w.result-is (one_commits (opening_of b.opening) (task_out c.args.pass.now.worker c.args.task.now) f.finding b.state c.commit.new.self.state c.requires.out f.commits)
  | in-Err-default-NoMemory w ↦ rw w.result-is tt
]

pub returns-clause-count : goal.returns-clause-count
returns-clause-count g c = elim c.match-commit.branch [
  | in-Ok w ↦
      rw w.result-is (counted (opening_of c.args.book.now.opening) c.args.pass.now.worker c.args.task.now c.in_ok-done.done c.args.book.now.state c.commit.new.self.state w.in-Ok.field-0 c.args.pass.now c.commit.new.pass c.requires.out refl w.in-Ok.ensures.pass w.in-Ok.ensures.committed w.has_few_commits.ensures.history)
  | in-Err-default-NoMemory w ↦ rw w.result-is tt
]

pub returns-clause-pass : goal.returns-clause-pass
returns-clause-pass g c = elim c.match-commit.branch [
  | in-Ok w ↦ subst (λ (p : PassView). IsSamePass c.args.pass.now p) (sym w.in-Ok.ensures.pass) (record { worker = refl; opening = refl })
  | in-Err-default-NoMemory w ↦ subst (λ (p : PassView). IsSamePass c.args.pass.now p) (sym w.in-Err-default-NoMemory.ensures.err.1) (record { worker = refl; opening = refl })
]

pub unreachable-requires : goal.unreachable-requires
unreachable-requires g c =
    let refused = c.in-Err-default-NotOut in
    is_out_for c.args.pass.now.worker c.args.task.now c.in_ok-done.done c.args.book.now.state refused.field-0-1 refused.field-0-1-0 c.requires.out c.in_ok-done.ensures.done (ap (λ (f : Sight). f.entries) c.requires.front ∙ c.has_front_of_state.ensures) refused.ensures.refused.1 refused.field-0-1-is
