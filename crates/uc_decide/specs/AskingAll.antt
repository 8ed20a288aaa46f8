-- The replies to several questions, and how the questions are shared out among workers.
use Rattle.std.specs.Prelude.{ℕ, zero, suc, List, [], ◌∷◌}
use Rattle.uc_term.specs.declared.equation.Equation.{Equation}
use Rattle.uc_term.specs.Tree.{Tree}
use Rattle.uc_order.specs.Laws.{Meaning, IsGroundOf}
use Rattle.uc_fact.specs.Live.{Live}
use Rattle.uc_decide.specs.declared.reply.Reply.{Reply}
use Rattle.uc_decide.specs.Asking.{IsReply, IsRight}

-- each question has its reply, by the facts that live and with at most so many steps
module _ (m : Meaning) (facts : List Live) (steps : ℕ) where
  pub data AreReplies : List (Tree × Tree) → List Reply → Type 0 where
    no_reply : AreReplies [] []
    one_reply : {sides : Tree × Tree} {others : List (Tree × Tree)} {reply : Reply} {replies : List Reply} → IsReply m facts steps sides.0 sides.1 reply → AreReplies others replies → AreReplies (sides ∷ others) (reply ∷ replies)

-- the questions are of ground terms over the order's signature
abbrev pub AreGroundQuestions : Meaning → List (Tree × Tree) → Type 0
AreGroundQuestions m [] = Unit {0}
AreGroundQuestions m (sides ∷ others) = (IsGroundOf m sides.0 × IsGroundOf m sides.1) × AreGroundQuestions m others

-- Each reply is right: where it is Equal, the question's equation follows from the axioms, and where it is Different, it doesn't;
-- and its terms are the least to which the axioms make the question's sides equal.
pub data AreRight (m : Meaning) (axioms : List Equation) : List (Tree × Tree) → List Reply → Type 0 where
  none_is_wrong : AreRight m axioms [] []
  one_is_right : {sides : Tree × Tree} {others : List (Tree × Tree)} {reply : Reply} {replies : List Reply} → IsRight m axioms sides.0 sides.1 reply → AreRight m axioms others replies → AreRight m axioms (sides ∷ others) (reply ∷ replies)

-- The worker's share of a list, where it and n others take turns: so many items are of those before it, then one is its own, and
-- then again each one after n of the others.
abbrev pub share_of : {X : Type 0} → ℕ → ℕ → List X → List X
share_of n before [] = []
share_of n zero (x ∷ xs) = x ∷ share_of n n xs
share_of n (suc before) (x ∷ xs) = share_of n before xs
