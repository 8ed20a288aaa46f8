-- A search by one worker, and one by several, are searches by so many workers.
use Rattle.std.proofs.Common.{◌≡◌, ◌≢◌, ℕ, List, ◌∷◌, Option, Some, sum, refl, sym, ap, ◌∙◌, inl, inr, arith}
use Rattle.uc_order.specs.Laws.{Meaning}
use Rattle.uc_machine.specs.declared.event.Verdict.{Verdict}
use Rattle.uc_machine.specs.declared.task.Missing.{Missing}
use Rattle.uc_machine.specs.Draws.{Drained, Closed}
use Rattle.uc_machine.specs.Events.{commits_by}
use Rattle.uc_machine.specs.Runs.{Starts, axioms_wait, too_many_axioms, AreAudited, none_yet, one_more}
use Rattle.uc_machine.specs.State.{Opening, State}
use Rattle.uc_runs.specs.Later.{no_call}
use Rattle.uc_book.specs.Openings.{PassView}
use Rattle.uc_search.specs.Working.{Counts, CountsCommits}
use Rattle.uc_search.specs.Searching.{EndsRound, is_closed_by, audits_missing, Rounds, gets_verdict, gets_drained, Searches, last_round, next_round, IsSearched}
use Rattle.uc_search.proofs.Caused.{searched_told}
use Rattle.uc_search.proofs.Counting.{close_commits, audit_commits}
use Rattle.uc_search.proofs.Passes.{counts_all}
use Rattle.uc_search.proofs.Rests.{searched_rests, searched_none, search_verdict}
use Rattle.uc_runs.proofs.Saturating.{saturated}
use Rattle.uc_worker.specs.Commits.{commits_of, shares_of, AreOfFirst}
use Rattle.uc_worker.specs.Ends.{HasEnded, IsSearchedBy}
use Rattle.uc_worker.specs.Hands.{hands_of}
use Rattle.uc_worker.proofs.AfterVerdict.{nothing_comes}
use Rattle.uc_worker.proofs.Others.{until_others}
use Rattle.uc_worker.proofs.Totals.{shares_sum}

-- THE COMMITS OF OTHERS

audited_commits : (o : Opening) (v : ℕ) (all : List Missing) (d : State) (left : List Missing) (u : State) → AreAudited o all d left u → commits_by v u.history ≡ commits_by v d.history
audited_commits o v all d _ _ none_yet = refl
audited_commits o v all d left u (one_more {missing = x} {s = s} {answer = r} a b) = audit_commits o x s r u b v ∙ audited_commits o v all d (x ∷ left) s a

end_commits : (m : Meaning) (o : Opening) (v : ℕ) (d : State) (r : Option Verdict) (u : State) → EndsRound m o d r u → commits_by v u.history ≡ commits_by v d.history
end_commits m o v d _ u (is_closed_by {outcome = x} {v = w} f c) = close_commits d x w u c v
end_commits m o v d r u (audits_missing {missing = all} f a) = audited_commits o v all d a.left u a.audited

module _ (m : Meaning) (o : Opening) (w v : ℕ) (apart : v ≢ w) where
  round_others : (s : State) (r : Option Verdict) (u : State) → Rounds m o w s r u → commits_by v u.history ≡ commits_by v s.history
  round_others s _ u (gets_verdict {v = x} a) = until_others m o w v apart s (Closed x) u a
  round_others s r u (gets_drained {drained = d} a e) = end_commits m o v d r u e ∙ until_others m o w v apart s Drained d a

  search_others : (s : State) (x : Verdict) (u : State) → Searches m o w s x u → commits_by v u.history ≡ commits_by v s.history
  search_others s x u (last_round a) = round_others s (Some x) u a
  search_others s x u (next_round {u = t} a b) = search_others t x u b ∙ round_others s _ t a

starts_none : (o : Opening) (s : State) (v : ℕ) → Starts o s → commits_by v s.history ≡ 0
starts_none o _ v (axioms_wait l) = refl
starts_none o _ v (too_many_axioms l) = refl

-- worker 0 alone has commits
first_alone : (m : Meaning) (o : Opening) (v : Verdict) (s : State) → IsSearched m o 0 v s → AreOfFirst 1 s.history
first_alone m o v s a w l = search_others m o 0 w (λ e. absurd (omega arith)) a.start v s a.searches ∙ starts_none o a.start w a.starts

pub by_one : (m : Meaning) (o : Opening) (v : Verdict) (s : State) → IsSearched m o 0 v s → IsSearchedBy m o 1 v s
by_one m o v s a =
    let stands : s.verdict ≡ Some v = search_verdict m o 0 a.start v s a.searches in
    let reaches = (searched_rests m o 0 (omega arith) v s a).reaches in
    record {
      ended = record {
        run = record { reaches = reaches; history_is = refl };
        verdict = v;
        stands = stands;
        none_out = searched_none m o 0 v s a;
        came = record { then_ = s; reaches = reaches; verdict = stands; cause = searched_told m o 0 (omega arith) v s a; later = no_call };
        saturated = λ q. saturated m o s reaches (stands ∙ ap Some q);
      };
      verdict = refl;
      shares = shares_sum 1 s.history (first_alone m o v s a);
      alone = λ e. a;
      last = λ e. refl;
    }

-- by an equal order and opening, the worker of number 0
pub by_worker : (m n : Meaning) (o p : Opening) (w : ℕ) (start s : State) (v : Verdict) → m ≡ n → o ≡ p → w ≡ 0 → Starts o start → Searches m o w start v s → IsSearchedBy n p 1 v s
by_worker m n o p w start s v is_m is_o is_w starts searches = by_one n p v s (record { start = start; starts = rw is_o at starts; searches = rw (is_m, is_o, is_w) at searches })

-- a pass of worker 0 that had counted no commit has counted all
pub one_share : (p q : PassView) (start s u : State) (o : Opening) → p.worker ≡ 0 → p.commits ≡ 0 → q.worker ≡ p.worker → s ≡ start → Starts o start → Counts p q s u → q.commits ≡ commits_by 0 u.history
one_share p q start s u o zero none same is starts c =
    let before : CountsCommits p s = none ∙ sym (ap (λ (x : State). commits_by p.worker x.history) is ∙ starts_none o start p.worker starts) in
    counts_all p q s u same c before ∙ ap (λ w. commits_by w u.history) (same ∙ zero)

-- SEVERAL WORKERS

pub by_many : (m : Meaning) (o : Opening) (workers : ℕ) (v : Verdict) (s : State) (shares : List ℕ) → (workers ≡ 1 → ⊥) → (h : HasEnded m o s) → s.verdict ≡ Some v → shares ≡ shares_of (hands_of workers) s.history → sum shares ≡ commits_of s.history → IsSearchedBy m o workers v s
by_many m o workers v s shares many h e is total = record {
  ended = h;
  verdict = let same : Some h.verdict ≡ Some v = sym h.stands ∙ e in cc;
  shares = sym (ap sum is) ∙ total;
  alone = λ one. absurd (many one);
  last = λ x. elim x [
    | inl one ↦ absurd (many one)
    | inr none ↦ sym (nothing_comes h.verdict m o h.came.then_ s h.came.verdict none h.came.later)
  ];
}
