-- The pieces in which a sink is given an answer: its lines.
use Rattle.std.specs.Prelude.{ℕ, ◌≡◌, ◌+◌, ◌<◌, true, List, [], ◌∷◌, ◌++◌, length, drop, Option, Result, Ok, Err}
use Rattle.std.specs.List.{list_all}
use Rattle.uc_edge.specs.declared.sink.WriteFault.{WriteFault}
use Rattle.uc_edge.specs.Pieces.{IsPut, Gives}
use Rattle.uc_edge.specs.Files.{Files}
use Rattle.uc_clause.specs.Bytes.{in_line}
use Rattle.uc_top.specs.Runs.{MayAnswer}

-- The first line of a text: up to and with its first line feed, or all of it where it has none.
pub data IsFirstLine (text : List ℕ) : List ℕ → Type 0 where
  feed_ends : (body rest : List ℕ) → list_all in_line body ≡ true → text ≡ body ++ 10 ∷ rest → IsFirstLine text (body ++ 10 ∷ [])
  text_ends : list_all in_line text ≡ true → 0 < length text → IsFirstLine text text

-- the lines of a text up to this byte, at which a line ends
pub data LinesTo (text : List ℕ) : ℕ → List (List ℕ) → Type 0 where
  none_before : LinesTo text 0 []
  one_further : {from : ℕ} {lines : List (List ℕ)} {line : List ℕ} → LinesTo text from lines → IsFirstLine (drop from text) line → LinesTo text (from + length line) (lines ++ line ∷ [])

-- From these pieces on a sink was given lines, each in one piece, its rest again where the sink took less, and took them all.
pub data TookLines (old : List (List ℕ)) : List (List ℕ) → List (List ℕ) → Type 0 where
  took_none : TookLines old [] old
  took_line : {lines mid new : List (List ℕ)} {line : List ℕ} {u : Unit {0}} → TookLines old lines mid → Gives line mid new (Ok u) → TookLines old (lines ++ line ∷ []) new

-- It was given a text so, line by line: all of it; or the lines up to one that it didn't take whole, since a write failed.
pub data GivesLines (text : List ℕ) (old new : List (List ℕ)) : Result (Unit {0}) WriteFault → Type 0 where
  gives_all : {lines : List (List ℕ)} {u : Unit {0}} → LinesTo text (length text) lines → TookLines old lines new → GivesLines text old new (Ok u)
  fails_in_line : {from : ℕ} {lines mid : List (List ℕ)} {line : List ℕ} {e : WriteFault} → LinesTo text from lines → TookLines old lines mid → IsFirstLine (drop from text) line → Gives line mid new (Err e) → GivesLines text old new (Err e)

-- the status where a text of this status is written, or a write fails
abbrev pub status_by : ℕ → Result (Unit {0}) WriteFault → ℕ
status_by status (Ok u) = status
status_by status (Err e) = 6

-- A sink that had and has this, where it tells that, was given a text line by line, and the status is the text's own; or it is 6,
-- since a write failed. Its pieces were and are these, and so its count of faults.
pub record GivesText (old new : Option (List ℕ)) (before now : ℕ) (given_old given_new : List (List ℕ)) (text : List ℕ) (status result : ℕ) : Type 0 where
  pub end : Result (Unit {0}) WriteFault
  pub given : GivesLines text given_old given_new end
  pub put : IsPut old new before now text end
  pub result_is : result ≡ status_by status end

-- The lines that a run gives are those of an answer to the words.
pub record GivesAnswer (holds : Option Files) (fetch_before fetch_now : ℕ) (words : List (List ℕ)) (old new : Option (List ℕ)) (write_before write_now : ℕ) (given_old given_new : List (List ℕ)) (result : ℕ) : Type 0 where
  pub status : ℕ
  pub text : List ℕ
  pub answer : MayAnswer holds fetch_before fetch_now words status text
  pub gives : GivesText old new write_before write_now given_old given_new text status result
