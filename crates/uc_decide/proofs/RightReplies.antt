-- Replies that are right, since each is.
use Rattle.std.proofs.Common.{ℕ, List, refl}
use Rattle.uc_term.specs.declared.equation.Equation.{Equation}
use Rattle.uc_term.specs.Tree.{Tree}
use Rattle.uc_order.specs.Laws.{Meaning, Laws, HasSym}
use Rattle.uc_fact.specs.Live.{numbered}
use Rattle.uc_fact.specs.Ground.{AreOfSignature}
use Rattle.uc_decide.specs.declared.reply.Reply.{Reply}
use Rattle.uc_decide.specs.Deciding.{Decides}
use Rattle.uc_decide.specs.AskingAll.{AreReplies, no_reply, one_reply, AreGroundQuestions, AreRight, none_is_wrong, one_is_right}
use Rattle.uc_decide.proofs.Replies.{normal_forms_by}
use Rattle.uc_decide.proofs.Verdicts.{right}

module _ (m : Meaning) (laws : Laws m) (es axioms : List Equation) (steps : ℕ) (d : Decides m es axioms) (over : AreOfSignature (HasSym m) m.arity es) where
  pub all_right : (questions : List (Tree × Tree)) (replies : List Reply) → AreGroundQuestions m questions → AreReplies m (numbered es) steps questions replies → AreRight m axioms questions replies
  all_right _ _ ground no_reply = none_is_wrong
  all_right _ _ ground (one_reply {sides = sides} {others = others} {reply = reply} {replies = replies} r rs) = one_is_right (right m es axioms d sides.0 sides.1 reply ground.0.0 ground.0.1 (normal_forms_by m laws es es refl steps sides.0 sides.1 reply r ground.0.0 ground.0.1 over)) (all_right others replies ground.1 rs)
