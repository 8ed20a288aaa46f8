-- The first of a list.
use Rattle.std.proofs.Common.{◌≡◌, ℕ, zero, suc, ◌+◌, ◌<◌, ◌≤◌, List, [], ◌∷◌, length, get_or, drop, true, false, Option, Some, None, refl, sym, ap, ◌∙◌, arith, inl, inr}
use Rattle.std.proofs.lemmas.Bool.{cases_Bool}
use Rattle.std.proofs.lemmas.List.{drop_more}
use Rattle.std.proofs.Math.ListN.{drop_of_length-le}
use Rattle.uc_fact.specs.declared.fact.Overlap.{Overlap}
use Rattle.uc_pair.specs.declared.formed.Formed.{Formed}
use Rattle.uc_pair.specs.declared.formed.Size.{Size}
use Rattle.uc_pair.specs.declared.formed.Size.TheVariants.{Weight, Same, Large}
use Rattle.uc_machine.specs.declared.state.Stage.{Stage}
use Rattle.uc_machine.specs.Lists.{At, first, later, map_option}
use Rattle.uc_machine.specs.State.{Target}
use Rattle.uc_machine.specs.Finals.{large_or, first_large, first_stuck, is_stuck}
use Rattle.uc_final.specs.Stages.{stages_of, first_stuck_stage}

-- THE FIRST OVERLAP THAT IS TOO LARGE

here_large : (s : Size) (o x : Overlap) (rest : Option Overlap) → large_or s o None ≡ Some x → large_or s o rest ≡ Some x
here_large (Weight n) o x rest e = absurd cc
here_large Same o x rest e = absurd cc
here_large Large o x rest e = e

here_small : (s : Size) (o : Overlap) (rest : Option Overlap) → large_or s o None ≡ None → large_or s o rest ≡ rest
here_small (Weight n) o rest e = refl
here_small Same o rest e = refl
here_small Large o rest e = absurd cc

next_formed : (fs : List Formed) (k : ℕ) (f : Formed) → k < length fs → f ≡ get_or fs k f → drop k fs ≡ f ∷ drop (k + 1) fs
next_formed fs k f h e = drop_more fs k f h ∙ ap (λ y. y ∷ drop (k + 1) fs) (sym e)

pub large_here : (fs : List Formed) (k : ℕ) (f : Formed) (x : Overlap) → k < length fs → f ≡ get_or fs k f → large_or f.size f.overlap None ≡ Some x → first_large fs ≡ first_large (drop k fs) → first_large fs ≡ Some x
large_here fs k f x h e l so = so ∙ ap first_large (next_formed fs k f h e) ∙ here_large f.size f.overlap x (first_large (drop (k + 1) fs)) l

pub large_later : (fs : List Formed) (k : ℕ) (f : Formed) → k < length fs → f ≡ get_or fs k f → large_or f.size f.overlap None ≡ None → first_large fs ≡ first_large (drop k fs) → first_large fs ≡ first_large (drop (k + 1) fs)
large_later fs k f h e l so = so ∙ ap first_large (next_formed fs k f h e) ∙ here_small f.size f.overlap (first_large (drop (k + 1) fs)) l

pub large_nowhere : (fs : List Formed) (k : ℕ) → length fs ≤ k → first_large fs ≡ first_large (drop k fs) → first_large fs ≡ None
large_nowhere fs k h so = so ∙ ap first_large (drop_of_length-le fs h)

-- THE FIRST STATE THAT IS STUCK

later-number : (o : Option (At Stage)) (i : ℕ) → map_option (λ (x : At Stage). x.number) o ≡ Some i → map_option (λ (x : At Stage). x.number) (later o) ≡ Some (suc i)
later-number None i e = absurd cc
later-number (Some x) i e = (let h : x.number ≡ i = cc in ap (λ n. Some (suc n)) h)

later-none : (o : Option (At Stage)) → map_option (λ (x : At Stage). x.number) o ≡ None → map_option (λ (x : At Stage). x.number) (later o) ≡ None
later-none None e = refl
later-none (Some x) e = absurd cc

pub stuck_at : (stages : List Stage) (i : ℕ) → i < length stages → ((d : Stage) → is_stuck (get_or stages i d) ≡ true) → ((k : ℕ) (d : Stage) → k < i → is_stuck (get_or stages k d) ≡ false) → first_stuck_stage stages ≡ Some i
stuck_at [] i l y n = absurd (omega arith)
stuck_at (x ∷ xs) zero l y n = rw (y x) refl
stuck_at (x ∷ xs) (suc i) l y n = rw (n 0 x (omega arith)) (later-number (first is_stuck xs) i (stuck_at xs i (omega arith) y (λ k d b. n (suc k) d (omega arith))))

pub stuck_nowhere : (stages : List Stage) → ((k : ℕ) (d : Stage) → k < length stages → is_stuck (get_or stages k d) ≡ false) → first_stuck_stage stages ≡ None
stuck_nowhere [] n = refl
stuck_nowhere (x ∷ xs) n = rw (n 0 x (omega arith)) (later-none (first is_stuck xs) (stuck_nowhere xs (λ k d b. n (suc k) d (omega arith))))

-- THE FIRST GOAL THAT IS STUCK

later_same : (a : Option (At Stage)) (b : Option (At Target)) → map_option (λ (x : At Stage). x.number) a ≡ map_option (λ (x : At Target). x.number) b → map_option (λ (x : At Stage). x.number) (later a) ≡ map_option (λ (x : At Target). x.number) (later b)
later_same None None e = refl
later_same None (Some y) e = absurd cc
later_same (Some x) None e = absurd cc
later_same (Some x) (Some y) e = (let h : x.number ≡ y.number = cc in ap (λ n. Some (suc n)) h)

one_number : (goals : List Target) → first_stuck_stage (stages_of goals) ≡ map_option (λ (x : At Target). x.number) (first_stuck goals)
one_number [] = refl
one_number (g ∷ goals) = elim (cases_Bool (is_stuck g.stage)) as (λ _. first_stuck_stage (stages_of (g ∷ goals)) ≡ map_option (λ (x : At Target). x.number) (first_stuck (g ∷ goals))) [
  | inl b ↦ rw b refl
  | inr b ↦ rw b (later_same (first is_stuck (stages_of goals)) (first_stuck goals) (one_number goals))
]

-- the first goal that is stuck has this number
pub record StuckAt (goals : List Target) (n : ℕ) : Type 0 where
  pub goal : At Target
  pub is : first_stuck goals ≡ Some goal
  pub number_is : goal.number ≡ n

numbered : (goals : List Target) (o : Option (At Target)) (n : ℕ) → first_stuck goals ≡ o → map_option (λ (x : At Target). x.number) o ≡ Some n → StuckAt goals n
numbered goals None n e h = absurd cc
numbered goals (Some x) n e h = record { goal = x; is = e; number_is = cc }

unnumbered : (o : Option (At Target)) → map_option (λ (x : At Target). x.number) o ≡ None → o ≡ None
unnumbered None h = refl
unnumbered (Some x) h = absurd cc

pub stuck_goal : (goals : List Target) (stages : List Stage) (n : ℕ) → stages_of goals ≡ stages → first_stuck_stage stages ≡ Some n → StuckAt goals n
stuck_goal goals stages n e h = numbered goals (first_stuck goals) n refl (sym (one_number goals) ∙ ap first_stuck_stage e ∙ h)

pub no_stuck_goal : (goals : List Target) (stages : List Stage) → stages_of goals ≡ stages → first_stuck_stage stages ≡ None → first_stuck goals ≡ None
no_stuck_goal goals stages e h = unnumbered (first_stuck goals) (sym (one_number goals) ∙ ap first_stuck_stage e ∙ h)
