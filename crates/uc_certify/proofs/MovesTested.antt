-- Moves, one after another, and each by its place.
use Rattle.std.proofs.Common.{◌≡◌, ℕ, Bool, List, [], ◌∷◌, slice_get, Some, None, refl, sym, ap, ◌∙◌, subst}
use Rattle.uc_term.specs.declared.equation.Equation.{Equation}
use Rattle.uc_term.specs.Equations.{side_of, other_side_of}
use Rattle.uc_term.specs.Tree.{Tree, apply, put, subterm}
use Rattle.uc_term.specs.Path.{at_position}
use Rattle.uc_term.specs.Positions.{IsPlaceOf}
use Rattle.uc_term.specs.Over.{IsOver}
use Rattle.uc_order.specs.Laws.{Meaning, HasSym}
use Rattle.uc_rewrite.specs.Replay.{replaced_side}
use Rattle.uc_certificate.specs.declared.certificate.Move.{Move}
use Rattle.uc_certify.specs.Moving.{moved, IsMove, AreMoves}
use Rattle.uc_certify.specs.Replacing.{FallsAt}

module _ (m : Meaning) (facts : List Equation) (Greater : Tree → Tree → Type 0) (Known : ℕ → Type 0) where
  -- the moves from a term on are right exactly where the rest from another one on are, and they lead to the same term
  pub record Reached (start : Tree) (moves : List Move) (before : Tree) (rest : List Move) : Type 0 where
    pub forth : AreMoves m facts Greater Known start moves → AreMoves m facts Greater Known before rest
    pub back : AreMoves m facts Greater Known before rest → AreMoves m facts Greater Known start moves
    pub same : moved start moves ≡ moved before rest

  pub reached_none : (start : Tree) (moves : List Move) → Reached start moves start moves
  reached_none start moves = record { forth = λ h. h; back = λ h. h; same = refl }

  module _ (start : Tree) (moves : List Move) (before : Tree) (rest behind : List Move) (move : Move) (reached : Reached start moves before rest) (at : rest ≡ move ∷ behind) where
    pub reached_more : IsMove m facts Greater Known before move → Reached start moves move.to behind
    reached_more r = record {
      forth = λ h. (subst (AreMoves m facts Greater Known before) at (reached.forth h)).1;
      back = λ h. reached.back (subst (AreMoves m facts Greater Known before) (sym at) (r, h));
      same = reached.same ∙ ap (moved before) at;
    }

    pub stops_here : (IsMove m facts Greater Known before move → ⊥) → AreMoves m facts Greater Known start moves → ⊥
    stops_here n h = n (subst (AreMoves m facts Greater Known before) at (reached.forth h)).0

  pub reached_all : (start : Tree) (moves : List Move) (before : Tree) (rest : List Move) → Reached start moves before rest → rest ≡ [] → AreMoves m facts Greater Known start moves × (before ≡ moved start moves)
  reached_all start moves before rest reached none_left = (reached.back (subst (AreMoves m facts Greater Known before) (sym none_left) tt), sym (reached.same ∙ ap (moved before) none_left))

  -- A MOVE

  module _ (before : Tree) (move : Move) where
    pub no_fact : slice_get facts move.fact ≡ None → IsMove m facts Greater Known before move → ⊥
    no_fact n h = absurd (let p = h.equation_is in cc)

    pub no_place : at_position before move.path ≡ None → IsMove m facts Greater Known before move → ⊥
    no_place n h = absurd (let p = h.part_is in cc)

    pub not_known : (IsOver (HasSym m) m.arity Known move.to → ⊥) → IsMove m facts Greater Known before move → ⊥
    not_known n h = n h.over

    module _ (fact : Equation) (fact_is : slice_get facts move.fact ≡ Some fact) (place : ℕ) (at : IsPlaceOf before move.path place) (way : Bool) (way_is : move.left_to_right ≡ way) where
      pub move_of : IsOver (HasSym m) m.arity Known move.to → FallsAt Greater (side_of (replaced_side way) fact) (other_side_of (replaced_side way) fact) before place move.to → IsMove m facts Greater Known before move
      move_of o r = record {
        equation = fact;
        equation_is = fact_is;
        part = subterm before place;
        part_is = at.there;
        σ = r.σ;
        from_is = ap (λ b. apply r.σ (side_of (replaced_side b) fact)) way_is ∙ r.from_is;
        to_is = sym (at.puts (apply r.σ (other_side_of (replaced_side move.left_to_right) fact))) ∙ ap (λ b. put before place (apply r.σ (other_side_of (replaced_side b) fact))) way_is ∙ r.to_is;
        greater = subst (λ b. Greater (subterm before place) (apply r.σ (other_side_of (replaced_side b) fact))) (sym way_is) r.greater;
        over = o;
      }

      pub falls_of : IsMove m facts Greater Known before move → FallsAt Greater (side_of (replaced_side way) fact) (other_side_of (replaced_side way) fact) before place move.to
      falls_of r =
          let same : r.equation ≡ fact = let p = fact_is in let q = r.equation_is in cc in
          let part : r.part ≡ subterm before place = let p = r.part_is in let q = at.there in cc in
          let to : apply r.σ (other_side_of (replaced_side move.left_to_right) r.equation) ≡ apply r.σ (other_side_of (replaced_side way) fact) = ap (λ b. apply r.σ (other_side_of (replaced_side b) r.equation)) way_is ∙ ap (λ e. apply r.σ (other_side_of (replaced_side way) e)) same in
          record {
            σ = r.σ;
            from_is = sym (ap (λ b. apply r.σ (side_of (replaced_side b) r.equation)) way_is ∙ ap (λ e. apply r.σ (side_of (replaced_side way) e)) same) ∙ r.from_is ∙ part;
            to_is = ap (put before place) (sym to) ∙ at.puts (apply r.σ (other_side_of (replaced_side move.left_to_right) r.equation)) ∙ r.to_is;
            greater = subst (λ t. Greater (subterm before place) t) to (subst (λ t. Greater t (apply r.σ (other_side_of (replaced_side move.left_to_right) r.equation))) part r.greater);
          }
