-- Questions have one list of replies.
use Rattle.std.proofs.Common.{ℕ, ◌≡◌, List, ◌∷◌, refl, ap₂}
use Rattle.uc_term.specs.Tree.{Tree}
use Rattle.uc_order.specs.Laws.{Meaning}
use Rattle.uc_fact.specs.Live.{Live}
use Rattle.uc_decide.specs.declared.reply.Reply.{Reply}
use Rattle.uc_decide.proofs.Replies.{one_reply as reply_once}
use Rattle.uc_answer.specs.ReplyLines.{AreReplies, no_reply, one_reply}

pub replies_once : (m : Meaning) (facts : List Live) (steps : ℕ) {questions : List (Tree × Tree)} {xs ys : List Reply} → AreReplies m facts steps questions xs → AreReplies m facts steps questions ys → xs ≡ ys
replies_once m facts steps no_reply no_reply = refl
replies_once m facts steps (one_reply {sides = s} {reply = x} r rs) (one_reply {reply = y} q qs) = ap₂ (λ z zs. z ∷ zs) (reply_once m facts steps s.0 s.1 x y r q) (replies_once m facts steps rs qs)
