-- The audits of what a drained book lacks, from the first one on.
use Rattle.std.proofs.Common.{◌≡◌, List, [], ◌∷◌, Option, Some, None, refl, sym, ◌∙◌, subst, ℕ}
use Rattle.uc_machine.specs.declared.event.Verdict.{Verdict}
use Rattle.uc_machine.specs.declared.event.Verdict.TheVariants.{BudgetOut}
use Rattle.uc_machine.specs.declared.task.Missing.{Missing}
use Rattle.uc_machine.specs.State.{Opening, State}
use Rattle.uc_machine.specs.Runs.{AuditReply, KeptAs, ClosedBy, Audits, is_closed, is_spent, is_kept, AreAudited, none_yet, one_more}
use Rattle.uc_search.specs.Searching.{AuditsMissing}

-- Each missing equation is audited, in order, until the book has a verdict, if it gets one.
pub data AuditsAll (o : Opening) : List Missing → State → Option Verdict → State → Type 0 where
  all_are_kept : {s : State} → AuditsAll o [] s None s
  one_is_kept : {x : Missing} {xs : List Missing} {s u t : State} {n : ℕ} {v : Option Verdict} → Audits o x.fact s (KeptAs n) u → AuditsAll o xs u v t → AuditsAll o (x ∷ xs) s v t
  book_is_closed : {x : Missing} {xs : List Missing} {s u : State} {v : Verdict} → Audits o x.fact s (ClosedBy v) u → AuditsAll o (x ∷ xs) s (Some v) u

-- What audits in order come to: no verdict stands, and what the others come to is what all come to; or one stands.
data HasCome (o : Opening) (all : List Missing) (drained : State) (left : List Missing) (s : State) : Type 0 where
  goes_on : s.verdict ≡ None → ((v : Option Verdict) (u : State) → AuditsAll o left s v u → AuditsAll o all drained v u) → HasCome o all drained left s
  has_ended : (v : Verdict) → s.verdict ≡ Some v → AuditsAll o all drained (Some v) s → HasCome o all drained left s

two_verdicts : {A : Type 0} (s : State) (v : Verdict) → s.verdict ≡ None → s.verdict ≡ Some v → A
two_verdicts s v e f = absurd (cc)

audited_on : (o : Opening) (all left : List Missing) (drained : State) (x : Missing) (s u : State) (r : AuditReply) → HasCome o all drained (x ∷ left) s → Audits o x.fact s r u → HasCome o all drained left u
audited_on o all left drained x s _ _ (goes_on e k) (is_closed v f) = two_verdicts s v e f
audited_on o all left drained x s _ _ (goes_on e k) (is_spent f c) = has_ended (BudgetOut s.counted) refl (k (Some (BudgetOut s.counted)) _ (book_is_closed (is_spent f c)))
audited_on o all left drained x s _ _ (goes_on e k) (is_kept f c) = goes_on e (λ v t a. k v t (one_is_kept (is_kept f c) a))
audited_on o all left drained x s _ _ (has_ended v e a) (is_closed w f) = has_ended v e a
audited_on o all left drained x s _ _ (has_ended v e a) (is_spent f c) = two_verdicts s v f e
audited_on o all left drained x s _ _ (has_ended v e a) (is_kept f c) = two_verdicts s v f e

has_come : (o : Opening) (all : List Missing) (drained : State) (left : List Missing) (s : State) → drained.verdict ≡ None → AreAudited o all drained left s → HasCome o all drained left s
has_come o all drained _ _ e none_yet = goes_on e (λ v u a. a)
has_come o all drained left u e (one_more {missing = x} {s = s} {answer = r} a b) = audited_on o all left drained x s u r (has_come o all drained (x ∷ left) s e a) b

pub audits_all : (o : Opening) (all : List Missing) (drained : State) (v : Option Verdict) (u : State) → AuditsMissing o all drained v u → AuditsAll o all drained v u
audits_all o all drained v u a = by_come (has_come o all drained a.left u a.open_ a.audited)
  where
    by_come : HasCome o all drained a.left u → AuditsAll o all drained v u
    by_come (goes_on e k) =
        let none : v ≡ None = sym a.verdict ∙ e in
        subst (λ w. AuditsAll o all drained w u) (sym none) (k None u (subst (λ xs. AuditsAll o xs u None u) (sym (a.whole none)) all_are_kept))
    by_come (has_ended w e b) = subst (λ x. AuditsAll o all drained x u) (sym e ∙ a.verdict) b
