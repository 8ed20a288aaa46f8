-- The audits of what a drained book lacks, one by one.
use Rattle.std.proofs.Common.{◌≡◌, ℕ, List, [], ◌∷◌, Option, Some, None, refl, ◌∙◌}
use Rattle.uc_order.specs.Laws.{Meaning}
use Rattle.uc_machine.specs.declared.event.Verdict.{Verdict}
use Rattle.uc_machine.specs.declared.task.Missing.{Missing}
use Rattle.uc_machine.specs.declared.task.Outcome.TheVariants.{Missing as Lacks}
use Rattle.uc_machine.specs.State.{Opening, State}
use Rattle.uc_machine.specs.Events.{commits_by}
use Rattle.uc_machine.specs.Finals.{IsFinal}
use Rattle.uc_machine.specs.Runs.{KeptAs, ClosedBy, Audits, IsDrained, one_more, MayAudit, Reaches}
use Rattle.uc_search.specs.Searching.{AuditsMissing}
use Rattle.uc_search.proofs.Counting.{audit_commits}
use Rattle.uc_search.proofs.Rests.{WereMissing, may_audit, missing_on, missing_first, audit_out, audit_leaves}

module _ (m : Meaning) (o : Opening) (drained : State) (all : List Missing) where
  -- since the book was drained, all but these were audited and kept, and no verdict stands
  pub record Auditing (rest : List Missing) (s : State) : Type 0 where
    pub missing : WereMissing m o drained all rest s
    pub open_ : s.verdict ≡ None
    pub out : s.out ≡ drained.out
    pub commits : (w : ℕ) → commits_by w s.history ≡ commits_by w drained.history

  -- all were audited, or a verdict stands
  pub record HasAudited (v : Option Verdict) (u : State) : Type 0 where
    pub audits : AuditsMissing o all drained v u
    pub verdict : u.verdict ≡ v
    pub out : u.out ≡ drained.out
    pub commits : (w : ℕ) → commits_by w u.history ≡ commits_by w drained.history

  pub auditing_starts : Reaches m o drained → IsDrained drained → IsFinal m o.axioms drained (Lacks all) → Auditing all drained
  auditing_starts r d f = record { missing = missing_first m o drained all r d f; open_ = d.none_unmet.none_due.open_; out = refl; commits = λ w. refl }

  pub next_may : (x : Missing) (rest : List Missing) (s : State) → Auditing (x ∷ rest) s → MayAudit m o s x
  next_may x rest s a = may_audit m o drained all rest x s a.missing

  pub auditing_on : (x : Missing) (rest : List Missing) (s u : State) (n : ℕ) → Auditing (x ∷ rest) s → Audits o x.fact s (KeptAs n) u → Auditing rest u
  auditing_on x rest s u n a b = record {
    missing = missing_on m o drained all rest x s u (KeptAs n) a.missing b;
    open_ = audit_leaves o x s u (KeptAs n) b;
    out = audit_out o x s u (KeptAs n) b ∙ a.out;
    commits = λ w. audit_commits o x s (KeptAs n) u b w ∙ a.commits w;
  }

  pub auditing_closes : (x : Missing) (rest : List Missing) (s u : State) (v : Verdict) → Auditing (x ∷ rest) s → Audits o x.fact s (ClosedBy v) u → HasAudited (Some v) u
  auditing_closes x rest s u v a b = record {
    audits = record {
      open_ = a.missing.is_drained.none_unmet.none_due.open_;
      left = rest;
      audited = one_more a.missing.audited b;
      verdict = audit_leaves o x s u (ClosedBy v) b;
      whole = λ e. absurd (cc);
    };
    verdict = audit_leaves o x s u (ClosedBy v) b;
    out = audit_out o x s u (ClosedBy v) b ∙ a.out;
    commits = λ w. audit_commits o x s (ClosedBy v) u b w ∙ a.commits w;
  }

  pub auditing_ends : (rest : List Missing) (s : State) → rest ≡ [] → Auditing rest s → HasAudited None s
  auditing_ends rest s e a = record {
    audits = record {
      open_ = a.missing.is_drained.none_unmet.none_due.open_;
      left = rest;
      audited = a.missing.audited;
      verdict = a.open_;
      whole = λ _. e;
    };
    verdict = a.open_;
    out = a.out;
    commits = a.commits;
  }
