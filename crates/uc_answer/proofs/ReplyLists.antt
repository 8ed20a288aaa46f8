-- The replies to questions, one after another.
use Rattle.std.proofs.Common.{ℕ, zero, suc, ◌≡◌, ◌<◌, List, [], ◌∷◌, length, get_or, sym, subst, arith}
use Rattle.uc_term.specs.declared.equation.Equation.{Equation}
use Rattle.uc_term.specs.Tree.{Tree}
use Rattle.uc_term.specs.Table.{Table}
use Rattle.uc_order.specs.Laws.{Meaning}
use Rattle.uc_fact.specs.Live.{Live}
use Rattle.uc_decide.specs.declared.reply.Reply.{Reply}
use Rattle.uc_decide.specs.AskingAll as asked
use Rattle.uc_answer.specs.ReplyLines.{IsReplyOf, AreRepliesOf, AreReplies, no_reply, one_reply}
use Rattle.uc_answer.specs.RightReplies.{AreGroundQuestions, AreRight, none_is_wrong, one_is_right}

pub reply_of : (table : Table) (replies : List Reply) (i : ℕ) (reply : Reply) → i < length replies → reply ≡ get_or replies i reply → AreRepliesOf table replies → IsReplyOf table reply
reply_of table [] i reply h at of = absurd (omega (arith, h))
reply_of table (r ∷ rs) zero reply h at of = subst (IsReplyOf table) (sym at) of.0
reply_of table (r ∷ rs) (suc i) reply h at of = reply_of table rs i reply (omega (arith, h)) at of.1

module _ (m : Meaning) where
  pub all_replied : (facts : List Live) (steps : ℕ) (questions : List (Tree × Tree)) (replies : List Reply) → asked.AreReplies m facts steps questions replies → AreReplies m facts steps questions replies
  all_replied facts steps _ _ asked.no_reply = no_reply
  all_replied facts steps _ _ (asked.one_reply {others = others} {replies = replies} r rs) = one_reply r (all_replied facts steps others replies rs)

  pub are_ground : (questions : List (Tree × Tree)) → AreGroundQuestions m questions → asked.AreGroundQuestions m questions
  are_ground [] g = tt
  are_ground (q ∷ qs) g = (g.0, are_ground qs g.1)

  pub all_right : (axioms : List Equation) (questions : List (Tree × Tree)) (replies : List Reply) → asked.AreRight m axioms questions replies → AreRight m axioms questions replies
  all_right axioms _ _ asked.none_is_wrong = none_is_wrong
  all_right axioms _ _ (asked.one_is_right {others = others} {replies = replies} r rs) = one_is_right r (all_right axioms others replies rs)
