use Rattle.std.proofs.Common.{sym, ap, ◌∙◌, subst}
use Rattle.uc_book.specs.Openings.{BookView}
use Rattle.uc_worker.specs.Commits.{commits_of, AreOfFirst}
use Rattle.uc_worker.proofs.searching.search_as.Goals as goal

pub returns-clause-sum : goal.returns-clause-sum
returns-clause-sum g c =
    c.in_ok-shares.ensures.sum (subst (λ n. AreOfFirst n c.history.result.now) (sym c.requires.workers.0) c.history.ensures.first)
    ∙ ap commits_of c.history.ensures.events
    ∙ sym (ap (λ (b : BookView _). commits_of b.state.history) c.into_book.ensures.book)
