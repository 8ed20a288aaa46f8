-- Replies that say what follows, and what doesn't.
use Rattle.std.specs.Prelude.{List, [], ◌∷◌}
use Rattle.uc_term.specs.declared.equation.Equation.{Equation}
use Rattle.uc_term.specs.Tree.{Tree}
use Rattle.uc_order.specs.Laws.{Meaning, IsGroundOf}
use Rattle.uc_decide.specs.declared.reply.Reply.{Reply}
use Rattle.uc_decide.specs.Asking.{IsRight}

-- the questions are of ground terms over the order's signature
abbrev pub AreGroundQuestions : Meaning → List (Tree × Tree) → Type 0
AreGroundQuestions m [] = Unit {0}
AreGroundQuestions m (sides ∷ others) = (IsGroundOf m sides.0 × IsGroundOf m sides.1) × AreGroundQuestions m others

-- Each reply is right: where it is Equal, the question's equation follows from the axioms, and where it is Different, it doesn't;
-- and its terms are the least to which the axioms make the question's sides equal.
pub data AreRight (m : Meaning) (axioms : List Equation) : List (Tree × Tree) → List Reply → Type 0 where
  none_is_wrong : AreRight m axioms [] []
  one_is_right : {sides : Tree × Tree} {others : List (Tree × Tree)} {reply : Reply} {replies : List Reply} → IsRight m axioms sides.0 sides.1 reply → AreRight m axioms others replies → AreRight m axioms (sides ∷ others) (reply ∷ replies)
