-- A search by one worker is a run of the machine. Between its turns no task is out.
use Rattle.std.proofs.Common.{◌≡◌, ℕ, ◌<◌, List, [], ◌∷◌, ◌++◌, Option, Some, None, refl, ap, ◌∙◌}
use Rattle.uc_order.specs.Laws.{Meaning}
use Rattle.uc_machine.specs.declared.event.Verdict.{Verdict}
use Rattle.uc_machine.specs.declared.task.Missing.{Missing}
use Rattle.uc_machine.specs.declared.task.Outcome.{Outcome}
use Rattle.uc_machine.specs.declared.task.Outcome.TheVariants.{Missing as Lacks}
use Rattle.uc_machine.specs.State.{Opening, State, Out}
use Rattle.uc_machine.specs.Draws.{Drew, Drained, Closed}
use Rattle.uc_machine.specs.Finals.{IsFinal}
use Rattle.uc_machine.specs.Runs.{Reaches, starts, draws_on, commits_on, audits_on, closes_on, Starts, axioms_wait, too_many_axioms, AuditReply, KeptAs, ClosedBy, Audits, is_closed, is_spent, is_kept, Closes, converges, has_large, has_stuck, IsDrained, AreAudited, none_yet, one_more, MayAudit, is_next}
use Rattle.uc_search.specs.Working.{TakesTurn, Works, no_turn, one_more_turn, WorksUntil}
use Rattle.uc_search.proofs.InOrder.{AuditsAll, all_are_kept, one_is_kept, book_is_closed, audits_all}
use Rattle.uc_search.specs.Searching.{EndsRound, is_closed_by, audits_missing, Rounds, gets_verdict, gets_drained, Searches, last_round, next_round, IsSearched}
use Rattle.uc_search.proofs.Turns.{leaves, at_one, one_commits}

pub audit_out : (o : Opening) (x : Missing) (s u : State) (r : AuditReply) → Audits o x.fact s r u → u.out ≡ s.out
audit_out o x s _ _ (is_closed v e) = refl
audit_out o x s _ _ (is_spent e c) = refl
audit_out o x s _ _ (is_kept e c) = refl

pub close_out : (s u : State) (outcome : Outcome) (v : Verdict) → Closes s outcome v u → u.out ≡ s.out
close_out s _ _ _ converges = refl
close_out s _ _ _ has_large = refl
close_out s _ _ _ has_stuck = refl

pub close_verdict : (s u : State) (outcome : Outcome) (v : Verdict) → Closes s outcome v u → u.verdict ≡ Some v
close_verdict s _ _ _ converges = refl
close_verdict s _ _ _ has_large = refl
close_verdict s _ _ _ has_stuck = refl

-- what an audit leaves of the verdict
abbrev pub AuditLeaves : AuditReply → State → Type 0
AuditLeaves (KeptAs n) u = u.verdict ≡ None
AuditLeaves (ClosedBy v) u = u.verdict ≡ Some v

pub audit_leaves : (o : Opening) (x : Missing) (s u : State) (r : AuditReply) → Audits o x.fact s r u → AuditLeaves r u
audit_leaves o x s _ _ (is_closed v e) = e
audit_leaves o x s _ _ (is_spent e c) = refl
audit_leaves o x s _ _ (is_kept e c) = e

-- audits leave what is out
pub audits_none : (o : Opening) (xs : List Missing) (s : State) (v : Option Verdict) (u : State) → AuditsAll o xs s v u → u.out ≡ s.out
audits_none o _ s _ _ all_are_kept = refl
audits_none o _ s v t (one_is_kept {x = x} {xs = xs} {u = u} {n = n} a rest) = audits_none o xs u v t rest ∙ audit_out o x s u (KeptAs n) a
audits_none o _ s _ _ (book_is_closed {x = x} {u = u} {v = v} a) = audit_out o x s u (ClosedBy v) a

start_out : (o : Opening) (s : State) → Starts o s → s.out ≡ []
start_out o _ (axioms_wait l) = refl
start_out o _ (too_many_axioms l) = refl

module _ (m : Meaning) (o : Opening) where
  -- a run leads to the state, and no task is out
  pub record Rests (s : State) : Type 0 where
    pub reaches : Reaches m o s
    pub none_out : s.out ≡ []

  pub start_rests : (s : State) → Starts o s → Rests s
  start_rests s a = record { reaches = starts a; none_out = start_out o s a }

  -- of the equations that were missing when the book was drained, these are left to audit
  pub record WereMissing (drained : State) (all xs : List Missing) (s : State) : Type 0 where
    pub reaches : Reaches m o drained
    pub is_drained : IsDrained drained
    pub is_final : IsFinal m o.axioms drained (Lacks all)
    pub audited : AreAudited o all drained xs s

  pub may_audit : (drained : State) (all xs : List Missing) (x : Missing) (s : State) → WereMissing drained all (x ∷ xs) s → MayAudit m o s x
  may_audit drained all xs x s a = is_next a.reaches a.is_drained a.is_final a.audited

  pub missing_on : (drained : State) (all xs : List Missing) (x : Missing) (s u : State) (r : AuditReply) → WereMissing drained all (x ∷ xs) s → Audits o x.fact s r u → WereMissing drained all xs u
  missing_on drained all xs x s u r a b = record { reaches = a.reaches; is_drained = a.is_drained; is_final = a.is_final; audited = one_more a.audited b }

  pub missing_first : (drained : State) (all : List Missing) → Reaches m o drained → IsDrained drained → IsFinal m o.axioms drained (Lacks all) → WereMissing drained all all drained
  missing_first drained all r d f = record { reaches = r; is_drained = d; is_final = f; audited = none_yet }

  pub audits_rest : (drained : State) (all xs : List Missing) (s : State) (v : Option Verdict) (u : State) → WereMissing drained all xs s → Rests s → AuditsAll o xs s v u → Rests u
  audits_rest drained all _ s _ _ a r all_are_kept = r
  audits_rest drained all _ s v t a r (one_is_kept {x = x} {xs = xs} {u = u} {n = n} b rest) =
      audits_rest drained all xs u v t (missing_on drained all xs x s u (KeptAs n) a b) (record { reaches = audits_on x (may_audit drained all xs x s a) r.reaches b; none_out = audit_out o x s u (KeptAs n) b ∙ r.none_out }) rest
  audits_rest drained all _ s _ _ a r (book_is_closed {x = x} {xs = xs} {u = u} {v = v} b) =
      record { reaches = audits_on x (may_audit drained all xs x s a) r.reaches b; none_out = audit_out o x s u (ClosedBy v) b ∙ r.none_out }

  pub end_rests : (drained : State) (v : Option Verdict) (u : State) → IsDrained drained → Rests drained → EndsRound m o drained v u → Rests u
  end_rests d _ u i r (is_closed_by {outcome = outcome} {v = v} f c) = record { reaches = closes_on i f r.reaches c; none_out = close_out d u outcome v c ∙ r.none_out }
  end_rests d v u i r (audits_missing {missing = xs} f a) = audits_rest d xs xs d v u (missing_first d xs r.reaches i f) r (audits_all o xs d v u a)

  pub end_verdict : (drained : State) (v : Option Verdict) (u : State) → IsDrained drained → EndsRound m o drained v u → u.verdict ≡ v
  end_verdict d _ u i (is_closed_by {outcome = outcome} {v = v} f c) = close_verdict d u outcome v c
  end_verdict d v u i (audits_missing {missing = xs} f a) = a.verdict

  end_none : (drained : State) (v : Option Verdict) (u : State) → drained.out ≡ [] → EndsRound m o drained v u → u.out ≡ []
  end_none d _ u e (is_closed_by {outcome = outcome} {v = v} f c) = close_out d u outcome v c ∙ e
  end_none d v u e (audits_missing {missing = xs} f a) = audits_none o xs d v u (audits_all o xs d v u a) ∙ e

  module _ (w : ℕ) where
    -- the draw of a turn, where no task is out before it
    pub record DrawsOne (s : State) (t : Out) (drawn : State) : Type 0 where
      pub out : drawn.out ≡ t ∷ []
      pub open_ : drawn.verdict ≡ None

    pub draws_one : (s u : State) → s.out ≡ [] → (t : TakesTurn m o w s u) → DrawsOne s t.task t.drawn
    draws_one s u e t = let l = leaves o w s (Drew t.task) t.drawn t.draws in record { out = l.out ∙ ap (λ ts. ts ++ t.task ∷ []) e; open_ = l.open_ }

    module _ (few : w < 65) where
      pub turn_rests : (s u : State) → Rests s → TakesTurn m o w s u → Rests u
      turn_rests s u r t =
          let d = draws_one s u r.none_out t in
          record {
            reaches = commits_on t.task (at_one t.task t.drawn.out d.out) t.commits.is_result (draws_on w few r.reaches t.draws) t.commits.commits;
            none_out = one_commits o t.task t.commits.finding t.drawn u d.out t.commits.commits;
          }

      pub works_rest : (s u : State) → Rests s → Works m o w s u → Rests u
      works_rest s _ r no_turn = r
      works_rest s v r (one_more_turn {u = u} a t) = turn_rests u v (works_rest s u r a) t

      pub drained_rests : (s u : State) → Rests s → WorksUntil m o w s Drained u → Rests u
      drained_rests s u r a =
          let l = works_rest s a.last r a.works in
          record { reaches = draws_on w few l.reaches a.draws; none_out = (leaves o w a.last Drained u a.draws).none_out }

      pub closed_rests : (s u : State) (v : Verdict) → Rests s → WorksUntil m o w s (Closed v) u → Rests u
      closed_rests s u v r a =
          let l = works_rest s a.last r a.works in
          record { reaches = draws_on w few l.reaches a.draws; none_out = (leaves o w a.last (Closed v) u a.draws).out ∙ l.none_out }

      pub round_rests : (s : State) (v : Option Verdict) (u : State) → Rests s → Rounds m o w s v u → Rests u
      round_rests s _ u r (gets_verdict {v = v} a) = closed_rests s u v r a
      round_rests s v u r (gets_drained {drained = d} a b) = end_rests d v u (leaves o w a.last Drained d a.draws) (drained_rests s d r a) b

      pub search_rests : (s : State) (v : Verdict) (u : State) → Rests s → Searches m o w s v u → Rests u
      search_rests s v u r (last_round a) = round_rests s (Some v) u r a
      search_rests s v t r (next_round {u = u} a rest) = search_rests u v t (round_rests s None u r a) rest

      pub searched_rests : (v : Verdict) (s : State) → IsSearched m o w v s → Rests s
      searched_rests v s a = search_rests a.start v s (start_rests a.start a.starts) a.searches

    -- no task is out, whoever the worker is
    works_none : (s u : State) → s.out ≡ [] → Works m o w s u → u.out ≡ []
    works_none s _ e no_turn = e
    works_none s v e (one_more_turn {u = u} a t) = one_commits o t.task t.commits.finding t.drawn v (draws_one u v (works_none s u e a) t).out t.commits.commits

    round_none : (s : State) (v : Option Verdict) (u : State) → s.out ≡ [] → Rounds m o w s v u → u.out ≡ []
    round_none s _ u e (gets_verdict {v = v} a) = (leaves o w a.last (Closed v) u a.draws).out ∙ works_none s a.last e a.works
    round_none s v u e (gets_drained {drained = d} a b) = end_none d v u (leaves o w a.last Drained d a.draws).none_out b

    search_none : (s : State) (v : Verdict) (u : State) → s.out ≡ [] → Searches m o w s v u → u.out ≡ []
    search_none s v u e (last_round a) = round_none s (Some v) u e a
    search_none s v t e (next_round {u = u} a rest) = search_none u v t (round_none s None u e a) rest

    pub searched_none : (v : Verdict) (s : State) → IsSearched m o w v s → s.out ≡ []
    searched_none v s a = search_none a.start v s (start_out o a.start a.starts) a.searches

    pub round_verdict : (s : State) (v : Option Verdict) (u : State) → Rounds m o w s v u → u.verdict ≡ v
    round_verdict s _ u (gets_verdict {v = v} a) = (leaves o w a.last (Closed v) u a.draws).verdict
    round_verdict s v u (gets_drained {drained = d} a b) = end_verdict d v u (leaves o w a.last Drained d a.draws) b

    pub search_verdict : (s : State) (v : Verdict) (u : State) → Searches m o w s v u → u.verdict ≡ Some v
    search_verdict s v u (last_round a) = round_verdict s (Some v) u a
    search_verdict s v t (next_round {u = u} a rest) = search_verdict u v t rest
