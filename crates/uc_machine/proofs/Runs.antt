-- Every run keeps what the machine keeps.
use Rattle.std.proofs.Common.{◌≡◌, ℕ, List, subst, length, take}
use Rattle.uc_term.specs.declared.equation.Equation.{Equation}
use Rattle.uc_order.specs.Laws.{Meaning}
use Rattle.uc_pair.specs.declared.formed.Formed.{Formed}
use Rattle.uc_shelf.specs.declared.entry.Entry.{Entry}
use Rattle.uc_fact.specs.Live.{equation_of}
use Rattle.uc_shelf.specs.Entries.{born}
use Rattle.uc_machine.specs.declared.task.Job.{Job}
use Rattle.uc_machine.specs.declared.task.Job.TheVariants.{Meet}
use Rattle.uc_machine.specs.declared.task.Finding.{Finding}
use Rattle.uc_machine.specs.declared.task.Finding.TheVariants.{Met as Visited}
use Rattle.uc_machine.specs.State.{Opening, State}
use Rattle.uc_machine.specs.Results.{IsResult, fact_meets}
use Rattle.uc_machine.specs.Runs.{Reaches, starts, draws_on, commits_on, reclaims_on, recalls_on, audits_on, closes_on}
use Rattle.uc_machine.proofs.Kept.{Kept}
use Rattle.uc_machine.proofs.Steps.{kept_reclaim}
use Rattle.uc_machine.proofs.Calls.{MeetsRightly, kept_draws, kept_commits, kept_recalls, kept_audited, kept_closes, kept_starts}
use Rattle.uc_machine.proofs.Meetings.{meets_rightly}

meets_so : (m : Meaning) (axioms : List Equation) (es : List Entry) (i : ℕ) (ks : List ℕ) (fs : List Formed) → IsResult m axioms es (Meet i) (Visited ks fs) → MeetsRightly i (length (born es)) ks fs
meets_so m axioms es i ks fs (fact_meets {f = f} at fresh kills meets) = meets_rightly m es i (equation_of f) ks fs kills meets

pub result_meets : (m : Meaning) (axioms : List Equation) (es : List Entry) (j : Job) (f : Finding) → IsResult m axioms es j f → (i : ℕ) (ks : List ℕ) (fs : List Formed) → j ≡ Meet i → f ≡ Visited ks fs → MeetsRightly i (length (born es)) ks fs
result_meets m axioms es j f r i ks fs e q = meets_so m axioms es i ks fs (subst (λ x. IsResult m axioms es (Meet i) x) q (subst (λ x. IsResult m axioms es x f) e r))

pub kept_reaches : (m : Meaning) (o : Opening) (s : State) → Reaches m o s → Kept o s
kept_reaches m o s (starts a) = kept_starts o s a
kept_reaches m o u (draws_on {s = s} {r = r} w l a d) = kept_draws o w s r u d (kept_reaches m o s a)
kept_reaches m o u (commits_on {s = s} {f = f} t at right a c) = kept_commits o s t f u (kept_reaches m o s a) at (result_meets m o.axioms (take t.front s.entries) t.job f right) c
kept_reaches m o _ (reclaims_on {s = s} t at a) = kept_reclaim o s t (kept_reaches m o s a) at
kept_reaches m o _ (recalls_on {s = s} a) = kept_recalls o s (kept_reaches m o s a)
kept_reaches m o u (audits_on {s = s} {answer = r} x may a b) = kept_audited m o s u x r may (kept_reaches m o s a) b
kept_reaches m o u (closes_on {s = s} {outcome = outcome} {v = v} d f a c) = kept_closes o s u outcome v (kept_reaches m o s a) c
