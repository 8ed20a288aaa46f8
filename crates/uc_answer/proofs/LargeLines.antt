-- The overlap that a search names as too large is one of its book's facts.
use Rattle.std.proofs.Common.{ℕ, zero, suc, ◌≡◌, ◌<◌, List, [], ◌∷◌, length, map, get_or, slice_get, Some, Result, Ok, Err, refl, sym, subst, ap, ◌∙◌, arith}
use Rattle.std.specs.Result.{IfOk}
use Rattle.std.specs.declared.alloc.AllocError.{AllocError}
use Rattle.std.proofs.lemmas.Option.{slice_get_within}
use Rattle.uc_term.specs.declared.equation.Side.{Side}
use Rattle.uc_term.specs.declared.equation.Side.TheVariants.{Left, Right}
use Rattle.uc_term.specs.declared.equation.Equation.{Equation}
use Rattle.uc_term.specs.Equations.{side_of}
use Rattle.uc_term.specs.Positions.{IsPlaceOf}
use Rattle.uc_term.specs.Tree.{nodes}
use Rattle.uc_order.specs.Laws.{Meaning}
use Rattle.uc_fact.specs.declared.fact.Fact.{Fact}
use Rattle.uc_fact.specs.declared.fact.Overlap.{Overlap}
use Rattle.uc_fact.specs.Live.{equation_of}
use Rattle.uc_pair.specs.Overlapping.{read_from}
use Rattle.uc_machine.specs.declared.event.Verdict.{Verdict}
use Rattle.uc_machine.specs.declared.event.Verdict.TheVariants.{BudgetOut, PairsOut, LargeOverlap, LargeGoal}
use Rattle.uc_machine.specs.State.{Opening, State}
use Rattle.uc_shelf.specs.Entries.{born}
use Rattle.uc_runs.specs.Causes.{Causes, CausesIfLimit, overlap_is_large}
use Rattle.uc_runs.specs.Large.{IsLargeOverlap}
use Rattle.uc_runs.proofs.LargeOverlaps.{large_of_live}
use Rattle.uc_runs.specs.Later.{Later}
use Rattle.uc_worker.specs.Ends.{IsSearchedBy}
use Rattle.uc_worker.proofs.AfterVerdict.{nothing_comes}
use Rattle.uc_words.specs.declared.command.Command.{Command}
use Rattle.uc_answer.specs.LimitLines.{budget_line, pairs_line, overlap_line, goal_line, IsLimitLine, budget_is_spent, limit_is_passed, pair_is_large, step_is_large}

-- what is read of a list stands in the list that is mapped
pub read_at : {A B : Type 0} (f : A → B) (xs : List A) (n : ℕ) (x : A) → n < length (map f xs) → x ≡ get_or xs n x → slice_get (map f xs) n ≡ Some (f x)
read_at f [] n x h e = absurd (omega (arith, h))
read_at f (y ∷ ys) zero x h e = ap (λ z. Some (f z)) (sym e)
read_at f (y ∷ ys) (suc n) x h e = read_at f ys n x (omega (arith, h)) e

from_side : (n : ℕ) (s : Side) (e : Equation) → (read_from n s e).from ≡ side_of s e
from_side n Left e = refl
from_side n Right e = refl

-- A search by so many workers, by whatever order and from whatever opening.
module _ (m : Meaning) (o : Opening) (s : State) where
  -- where the verdict came, no task was out, so nothing came after it
  large_later : (x : Overlap) (v : Verdict) (t : State) → Causes m o t (LargeOverlap x) → t.verdict ≡ Some v → Later m o t s → IsLargeOverlap s.entries x
  large_later x v t (overlap_is_large {drained = d} reaches drained final is) e later =
      let same : s ≡ t = nothing_comes v m o t s e (ap (λ (z : State). z.out) is ∙ drained.none_out) later in
      rw (same ∙ is) (large_of_live m o.axioms d x final)

  -- the overlap that it names as too large is one of its facts, and is too large
  pub searched_large : {n : ℕ} (v : Verdict) → IsSearchedBy m o n v s → (x : Overlap) → v ≡ LargeOverlap x → IsLargeOverlap s.entries x
  searched_large v h x is =
      let c = h.ended.came in
      large_later x h.ended.verdict c.then_ (subst (CausesIfLimit m o c.then_) (h.verdict ∙ is) c.cause) c.verdict c.later

module _ (s : State) (x : Overlap) (large : IsLargeOverlap s.entries x) (facts : List Fact) (are : facts ≡ born s.entries) where
  fact_is : slice_get facts x.outer ≡ Some large.outer
  fact_is = ap (λ (fs : List Fact). slice_get fs x.outer) are ∙ large.outer_is

  pub outer_within : x.outer < length facts
  outer_within = slice_get_within facts x.outer large.outer fact_is

  module _ (fact : Fact) (outer : Equation) (at : slice_get facts x.outer ≡ Some fact) (left : outer.left ≡ fact.left) (right : outer.right ≡ fact.right) where
    same : large.outer ≡ fact
    same = let p : Some large.outer ≡ Some fact = sym fact_is ∙ at in cc

    outer_is : equation_of large.outer ≡ outer
    outer_is = rw (same, left, right) refl

    pub inside : x.position.0 < nodes (side_of x.outer_side outer)
    inside = rw (sym outer_is, sym (from_side x.outer x.outer_side (equation_of large.outer))) large.formed.overlaps.inside

    large_line_is : (command : Command) (path text : List ℕ) → IsPlaceOf (side_of x.outer_side outer) path x.position.0 → text ≡ overlap_line x path → IsLimitLine command s (LargeOverlap x) text
    large_line_is command path text place is = rw is (pair_is_large {o = x} large.outer path large.outer_is (rw outer_is place))

    pub large_told : (command : Command) (r : Result (List ℕ) AllocError) → IfOk r (λ text. (path : List ℕ) × IsPlaceOf (side_of x.outer_side outer) path x.position.0 × (text ≡ overlap_line x path)) → IfOk r (IsLimitLine command s (LargeOverlap x))
    large_told command (Ok text) p = large_line_is command p.0 text p.1 p.2
    large_told command (Err fault) p = tt

-- the lines of the limits
module _ (command : Command) (s : State) (v : Verdict) (r : Result (List ℕ) AllocError) where
  pub overlap_told : (x : Overlap) → v ≡ LargeOverlap x → ((k : Command) → IfOk r (IsLimitLine k s (LargeOverlap x))) → IfOk r (IsLimitLine command s v)
  overlap_told x is h = rw is (h command)

  pub budget_told : (counted : ℕ) → v ≡ BudgetOut counted → IfOk r (λ text. text ≡ budget_line counted command.budget) → IfOk r (IsLimitLine command s v)
  budget_told counted is e = by r e
    where
      by : (q : Result (List ℕ) AllocError) → IfOk q (λ text. text ≡ budget_line counted command.budget) → IfOk q (IsLimitLine command s v)
      by (Ok text) h = rw (h, is) (budget_is_spent {counted = counted})
      by (Err fault) h = tt

  pub pairs_told : (waiting more : ℕ) → v ≡ PairsOut waiting more → IfOk r (λ text. text ≡ pairs_line waiting more command.pairs) → IfOk r (IsLimitLine command s v)
  pairs_told waiting more is e = by r e
    where
      by : (q : Result (List ℕ) AllocError) → IfOk q (λ text. text ≡ pairs_line waiting more command.pairs) → IfOk q (IsLimitLine command s v)
      by (Ok text) h = rw (h, is) (limit_is_passed {waiting = waiting} {more = more})
      by (Err fault) h = tt

  pub goal_told : (goal : ℕ) → v ≡ LargeGoal goal → IfOk r (λ text. text ≡ goal_line goal) → IfOk r (IsLimitLine command s v)
  goal_told goal is e = by r e
    where
      by : (q : Result (List ℕ) AllocError) → IfOk q (λ text. text ≡ goal_line goal) → IfOk q (IsLimitLine command s v)
      by (Ok text) h = rw (h, is) (step_is_large {goal = goal})
      by (Err fault) h = tt
