-- The replies to questions, and their lines.
use Rattle.std.specs.Prelude.{ℕ, Bool, true, false, List, [], ◌∷◌, ◌++◌, codes, decimal, cond}
use Rattle.std.specs.List.{list_any, flat_map}
use Rattle.uc_term.specs.Tree.{Tree}
use Rattle.uc_term.specs.Table.{Table, IsOf}
use Rattle.uc_clause.specs.Printing.{term_text}
use Rattle.uc_order.specs.Laws.{Meaning}
use Rattle.uc_fact.specs.Live.{Live}
use Rattle.uc_decide.specs.declared.reply.Reply.{Reply}
use Rattle.uc_decide.specs.declared.reply.Reply.TheVariants.{Equal, Different, Spent, Grown}
use Rattle.uc_decide.specs.Asking.{IsReply}
use Rattle.uc_answer.specs.Lines.{spaced}
use Rattle.uc_answer.specs.ChainLines.{term_line}

-- the line of a reply
abbrev pub reply_line : Table → Reply → List ℕ
reply_line table (Equal n) = codes "equal" ++ spaced (term_line table n)
reply_line table (Different left right) = codes "different" ++ spaced (term_text table left) ++ spaced (term_line table right)
reply_line table (Spent n) = codes "spent" ++ spaced (decimal n) ++ codes "\n"
reply_line table Grown = codes "grown\n"

-- the reply says nothing of its question
abbrev pub is_open : Reply → Bool
is_open (Equal n) = false
is_open (Different left right) = false
is_open (Spent n) = true
is_open Grown = true

-- 2 where a question stays open, else 0
abbrev pub replies_status : List Reply → ℕ
replies_status replies = cond (list_any is_open replies) 2 0

abbrev pub reply_lines : Table → List Reply → List ℕ
reply_lines table replies = flat_map (reply_line table) replies

-- the terms of the reply are of the table
abbrev pub IsReplyOf : Table → Reply → Type 0
IsReplyOf table (Equal n) = IsOf table n
IsReplyOf table (Different left right) = IsOf table left × IsOf table right
IsReplyOf table (Spent n) = Unit {0}
IsReplyOf table Grown = Unit {0}

abbrev pub AreRepliesOf : Table → List Reply → Type 0
AreRepliesOf table [] = Unit {0}
AreRepliesOf table (reply ∷ replies) = IsReplyOf table reply × AreRepliesOf table replies

-- each question has its reply, by the facts that live and with at most so many steps
module _ (m : Meaning) (facts : List Live) (steps : ℕ) where
  pub data AreReplies : List (Tree × Tree) → List Reply → Type 0 where
    no_reply : AreReplies [] []
    one_reply : {sides : Tree × Tree} {others : List (Tree × Tree)} {reply : Reply} {replies : List Reply} → IsReply m facts steps sides.0 sides.1 reply → AreReplies others replies → AreReplies (sides ∷ others) (reply ∷ replies)
