-- The last line.
use Rattle.std.proofs.Common.{◌≡◌, ℕ, ◌+◌, ◌-◌, ◌<◌, ◌⊎◌, inl, inr, List, [], ◌∷◌, length, slice_get, Option, Some, None, refl, subst, arith}
use Rattle.std.proofs.lemmas.Option.{slice_get_within}
use Rattle.uc_term.specs.declared.fresh.Fresh.{Fresh}
use Rattle.uc_clause.specs.declared.clause.Sourced.{Sourced}
use Rattle.uc_check.specs.declared.proof.Line.{Line}
use Rattle.uc_check.specs.Replacements.{IsRefutation}
use Rattle.uc_check.specs.Lines.{Tested}
use Rattle.uc_check.specs.Checks.{AreRightBefore, IsRightLine, EndsInRefutation}

pub no_lines : (lines : List Line) → length lines ≡ 0 → lines ≡ []
no_lines [] e = refl
no_lines (l ∷ ls) e = absurd (omega arith)

pub ends : (lines : List Line) (line : Line) → slice_get lines (length lines - 1) ≡ Some line → IsRefutation line.source → EndsInRefutation lines
ends lines line at r =
    let inside = slice_get_within lines (length lines - 1) line at in
    record { last = length lines - 1; last_is = omega arith; line = line; line_is = at; refutes = r }

pub not_ends : (lines : List Line) (line : Line) → slice_get lines (length lines - 1) ≡ Some line → (IsRefutation line.source → ⊥) → EndsInRefutation lines → ⊥
not_ends lines line at n e =
    let place : e.last ≡ length lines - 1 = let l = e.last_is in omega arith in
    let at' : slice_get lines (length lines - 1) ≡ Some e.line = subst (λ (i : ℕ). slice_get lines i ≡ Some e.line) place e.line_is in
    let same : e.line ≡ line = cc in
    n (subst (λ (l : Line). IsRefutation l.source) same e.refutes)

-- one more right line
module _ (clauses : List Sourced) (fresh : Option Fresh) (lines : List Line) (k : ℕ) (line : Line) (at : slice_get lines k ≡ Some line) (test : Tested clauses fresh lines k line line.source None) where
  right_here : IsRightLine clauses fresh lines k
  right_here other at' = let same : line ≡ other = cc in subst (λ (l : Line). Tested clauses fresh lines k l l.source None) same test

  pub right_more : AreRightBefore clauses fresh lines k → AreRightBefore clauses fresh lines (k + 1)
  right_more before j h = go order
    where
      order : (j < k) ⊎ (k ≡ j)
      order = grind arith

      go : (j < k) ⊎ (k ≡ j) → IsRightLine clauses fresh lines j
      go (inl l) = before j l
      go (inr e) = subst (IsRightLine clauses fresh lines) e right_here
