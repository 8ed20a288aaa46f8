-- The table of symbols that reading a proof leaves: a functor gets its symbol when its arguments are closed, line by line, the body of a
-- line before its chain. So it is one function of the text and of the table before.
use Rattle.std.specs.Prelude.{◌≡◌, ℕ, List, [], ◌∷◌, Ok}
use Rattle.uc_term.specs.Table.{Table}
use Rattle.uc_clause.specs.declared.token.Token.{Token}
use Rattle.uc_clause.specs.Tokens.{AreTokens}
use Rattle.uc_clause.specs.Rules.{read}
use Rattle.uc_clause.specs.Interning.{with_term, with_literal}
use Rattle.uc_tstp.specs.declared.framing.Frame.{Frame}
use Rattle.uc_tstp.specs.declared.scope.Scope.{Scope}
use Rattle.uc_tstp.specs.declared.scope.Scope.TheVariants as scope
use Rattle.uc_tstp.specs.Framing.{Framed}
use Rattle.uc_tstp.specs.Parse.{Body, says, falsum, Step, Source, by_chain, Line}
use Rattle.uc_tstp.specs.Lines.{LinesAt}
use Rattle.uc_tstp.specs.Reading.{inside}

module _ (bytes : List ℕ) (tokens : List Token) where
  abbrev pub with_body : Table → Body → Table
  with_body table (says l) = with_literal bytes tokens table l
  with_body table falsum = table

  abbrev pub with_steps : Table → List Step → Table
  with_steps table [] = table
  with_steps table (s ∷ ss) = with_steps (with_term bytes tokens table s.to) ss

  abbrev pub with_source : Table → Source → Table
  with_source table (by_chain start steps parents) = with_steps (with_term bytes tokens table start) steps
  with_source table other = table

  abbrev pub with_line : Table → Line → Table
  with_line table l = with_source (with_body table l.body) l.source

  abbrev pub with_lines : Table → List Line → Table
  with_lines table [] = table
  with_lines table (l ∷ ls) = with_lines (with_line table l) ls

-- the part of a text in a frame is lines, which make the new table of the old
pub record InternsInside (which : Scope) (text : List ℕ) (frame : Frame) (old new : Table) : Type 0 where
  pub tokens : List Token
  pub are_tokens : AreTokens (inside text frame) tokens
  pub lines : List Line
  pub end : ℕ
  pub reads : LinesAt (inside text frame) tokens which [] 0 (read lines end)
  pub new_is : new ≡ with_lines (inside text frame) tokens old lines

-- so are the lines of a proof
pub record InternsProof (text : List ℕ) (old new : Table) : Type 0 where
  pub frame : Frame
  pub framed : Framed text (Ok frame)
  pub interns : InternsInside scope.Proof text frame old new
