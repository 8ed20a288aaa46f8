-- The table of symbols that reading a certificate leaves: the symbols of the system's lines come first, then those of the lines of the
-- derivation, then those of the terms in the joins, in the order in which they stand. So it is one function of the text and of
-- the table before.
use Rattle.std.specs.Prelude.{ℕ, List, [], ◌∷◌, drop}
use Rattle.uc_term.specs.Table.{Table}
use Rattle.uc_clause.specs.declared.token.Token.{Token}
use Rattle.uc_clause.specs.Interning.{with_term, Interns}
use Rattle.uc_tstp.specs.declared.scope.Scope.TheVariants.{Derivation}
use Rattle.uc_tstp.specs.Interning.{InternsInside}
use Rattle.uc_tstp.specs.Reading.{inside}
use Rattle.uc_system.specs.Interning.{InternsSystem}
use Rattle.uc_certificate.specs.declared.border.Border.TheVariants.{Facts, End}
use Rattle.uc_certificate.specs.Headings.{is_border, is_derivation, line_from, behind_line, FirstLine, heading}
use Rattle.uc_certificate.specs.JoinLines.{joins}
use Rattle.uc_certificate.specs.Parts.{gets}
use Rattle.uc_certificate.specs.Reading.{frame_of}
use Rattle.uc_certificate.specs.JoinParse.{Move, Case, Ending, by_same, by_instance, by_orders, by_ac, Join}

-- with the members of a list, one by one
abbrev pub with_each : {P : Type 0} → (Table → P → Table) → Table → List P → Table
with_each with_one table [] = table
with_each with_one table (p ∷ ps) = with_each with_one (with_one table p) ps

module _ (bytes : List ℕ) (tokens : List Token) where
  abbrev pub with_move : Table → Move → Table
  with_move table move = with_term bytes tokens table move.to

  abbrev pub with_moves : Table → List Move → Table
  with_moves table moves = with_each with_move table moves

  abbrev pub with_case : Table → Case → Table
  with_case table case = with_moves (with_moves table case.left) case.right

  abbrev pub with_cases : Table → List Case → Table
  with_cases table cases = with_each with_case table cases

  abbrev pub with_ending : Table → Ending → Table
  with_ending table by_same = table
  with_ending table (by_instance number) = table
  with_ending table (by_orders cases) = with_cases table cases
  with_ending table (by_ac triples) = table

  abbrev pub with_join : Table → Join → Table
  with_join table join = with_ending (with_moves (with_moves table join.left) join.right) join.ending

  abbrev pub with_joins : Table → List Join → Table
  with_joins table joins = with_each with_join table joins

-- where the next line begins
abbrev pub line_behind : List ℕ → ℕ → ℕ
line_behind text at = behind_line text at (line_from text at)

-- What stands behind the text of a system makes the new table of the old: from the line in front of the derivation on, the lines of
-- the derivation, up to the line of the facts, and the join lines, which begin two lines further on, up to the last line.
pub record InternsRest (text : List ℕ) (at : ℕ) (old new : Table) : Type 0 where
  pub facts : ℕ
  pub is_facts : FirstLine text (is_border Facts) (line_behind text at) facts
  pub end : ℕ
  pub is_end : FirstLine text (is_border End) (line_behind text (line_behind text facts)) end
  pub with_lines : Table
  pub interns_lines : InternsInside Derivation text (frame_of (line_behind text at) facts) old with_lines
  pub interns_joins : Interns joins with_joins (inside text (frame_of (line_behind text (line_behind text facts)) end)) with_lines new

-- A certificate in the text makes the new table of the old. The text of the system begins behind the first line, and the derivation
-- behind the first line from there on that is `% derivation`.
pub record InternsCertificate (text : List ℕ) (old new : Table) : Type 0 where
  pub start : ℕ
  pub headed : heading text 0 (gets tt start)
  pub border : ℕ
  pub is_first : FirstLine text is_derivation start border
  pub with_system : Table
  pub interns_system : InternsSystem (drop start text) old with_system
  pub interns_rest : InternsRest text border with_system new
