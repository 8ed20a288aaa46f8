-- What leaves the verdict of a book as it is, and what doesn't happen where one stands.
use Rattle.std.proofs.Common.{◌≡◌, ℕ, List, [], ◌∷◌, Some, None, refl, ap, sym, ◌∙◌, inl, inr}
use Rattle.std.proofs.lemmas.Bool.{cases_Bool}
use Rattle.uc_fact.specs.declared.fact.Fact.{Fact}
use Rattle.uc_shelf.specs.Entries.{is_dead}
use Rattle.uc_machine.specs.declared.event.Verdict.{Verdict}
use Rattle.uc_machine.specs.declared.event.Verdict.TheVariants.{BudgetOut}
use Rattle.uc_machine.specs.declared.task.Job.{Job}
use Rattle.uc_machine.specs.declared.task.Job.TheVariants.{Goal, More, Meet, Join}
use Rattle.uc_machine.specs.Draws.{Reply, Draws, verdict_stands, goal_is_due, fact_is_unmet, orphan_is_dropped, goal_is_continued, pair_is_drawn, budget_is_out, budget_is_spent, all_is_out, all_is_done}
use Rattle.uc_machine.specs.Effects.{kills, drops, reclaims}
use Rattle.uc_machine.specs.Lists.{each}
use Rattle.uc_machine.specs.Runs.{AuditReply, Audits, is_closed, is_spent, is_kept}
use Rattle.uc_machine.specs.State.{Opening, State, Out}

pub kills_verdict : (i k : ℕ) (s : State) → (kills i k s).verdict ≡ s.verdict
kills_verdict i k s = elim (cases_Bool (is_dead s.entries k)) as (λ _. (kills i k s).verdict ≡ s.verdict) [
  | inl e ↦ rw e refl
  | inr e ↦ rw e refl
]

pub each_verdict : (i : ℕ) (ks : List ℕ) (s : State) → (each (kills i) ks s).verdict ≡ s.verdict
each_verdict i [] s = refl
each_verdict i (k ∷ ks) s = each_verdict i ks (kills i k s) ∙ kills_verdict i k s

pub restored_verdict : (n w fr : ℕ) (j : Job) (s : State) → (let t : Out = record { ticket = n; worker = w; job = j; front = fr } in (reclaims t s).verdict ≡ s.verdict)
restored_verdict n w fr (Goal g l r) s = refl
restored_verdict n w fr (More g l r) s = refl
restored_verdict n w fr (Meet i) s = refl
restored_verdict n w fr (Join p a) s = refl

pub recalled_verdict : (ts : List Out) (s : State) → (each reclaims ts s).verdict ≡ s.verdict
recalled_verdict [] s = refl
recalled_verdict (t ∷ ts) s = recalled_verdict ts (reclaims t s) ∙ restored_verdict t.ticket t.worker t.front t.job s

-- a verdict other than that of a budget that is spent
module _ (v : Verdict) (no_limit : (n : ℕ) → BudgetOut n ≡ v → ⊥) where
  abbrev Stands : State → Type 0
  Stands s = s.verdict ≡ Some v

  pub still_open : {A : Type 0} (s : State) → s.verdict ≡ None → Stands s → A
  still_open s e h = let q : None ≡ Some v = sym e ∙ h in absurd (cc)

  not_spent : {A : Type 0} (n : ℕ) → Some (BudgetOut n) ≡ Some v → A
  not_spent n h = let q : BudgetOut n ≡ v = cc in absurd (no_limit n q)

  -- a draw or an audit behind which it stands changed nothing

  pub draws_nothing : (o : Opening) (w : ℕ) (s : State) (r : Reply) (u : State) → Draws o w s r u → Stands u → u ≡ s
  draws_nothing o w s _ _ (verdict_stands x e) h = refl
  draws_nothing o w s _ _ (goal_is_due g e f) h = still_open s e h
  draws_nothing o w s _ _ (fact_is_unmet i n f) h = still_open s n.open_ h
  draws_nothing o w s r u (orphan_is_dropped p n e f d) h = let q = draws_nothing o w (drops w p.number s) r u d h in still_open s n.none_due.open_ (sym (ap (λ (z : State). z.verdict) q) ∙ h)
  draws_nothing o w s _ _ (goal_is_continued g l f room) h = still_open s l.none_unmet.none_due.open_ h
  draws_nothing o w s _ _ (pair_is_drawn p x l f e at room) h = still_open s l.none_unmet.none_due.open_ h
  draws_nothing o w s _ _ (budget_is_out l b c d) h = refl
  draws_nothing o w s _ _ (budget_is_spent l b c d) h = not_spent s.counted h
  draws_nothing o w s _ _ (all_is_out l b c) h = refl
  draws_nothing o w s _ _ (all_is_done l b c) h = refl

  pub audits_nothing : (o : Opening) (f : Fact) (s u : State) (r : AuditReply) → Audits o f s r u → Stands u → u ≡ s
  audits_nothing o f s _ _ (is_closed x e) h = refl
  audits_nothing o f s _ _ (is_spent e c) h = not_spent s.counted h
  audits_nothing o f s _ _ (is_kept e c) h = still_open s e h
