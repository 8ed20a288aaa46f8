-- The lines of an answer.
use Rattle.std.specs.Prelude.{ℕ, List, [], ◌++◌, codes, decimal, slice_get, Option, Some, None}
use Rattle.std.specs.List.{flat_map}
use Rattle.uc_term.specs.Table.{Table}
use Rattle.uc_clause.specs.declared.token.Place.{Place}
use Rattle.uc_clause.specs.declared.clause.Clause as read
use Rattle.uc_clause.specs.declared.clause.Sourced.{Sourced}
use Rattle.uc_clause.specs.Printing.{clause_text}
use Rattle.uc_clause.specs.declared.fault.What.{What}
use Rattle.uc_clause.specs.declared.fault.What.TheVariants as what
use Rattle.uc_clause.specs.declared.fault.ClauseFault.{ClauseFault}
use Rattle.uc_clause.specs.declared.fault.ClauseFault.TheVariants as clause
use Rattle.uc_clause.specs.Names.{spelling, name_spelling}
use Rattle.uc_problem.specs.declared.fault.LoadFault.{LoadFault}
use Rattle.uc_problem.specs.declared.fault.LoadFault.TheVariants as load
use Rattle.uc_tstp.specs.declared.fault.ProofFault.{ProofFault}
use Rattle.uc_tstp.specs.declared.fault.ProofFault.TheVariants as proof
use Rattle.uc_check.specs.declared.proof.Line.{Line}
use Rattle.uc_check.specs.declared.checker.Cause.{Cause}
use Rattle.uc_check.specs.declared.checker.Cause.TheVariants as cause
use Rattle.uc_check.specs.declared.checker.Checked.{Checked}
use Rattle.uc_check.specs.declared.checker.Checked.TheVariants.{Accepted, Rejected}

-- lines one behind the other
abbrev pub joined : List (List ℕ) → List ℕ
joined lines = flat_map (λ l. l) lines

-- a part with a space before it
abbrev pub spaced : List ℕ → List ℕ
spaced part = codes " " ++ part

-- a line about a place of a file: what is so there, and more
abbrev pub located : List ℕ → Place → List ℕ → List ℕ → List ℕ
located file place kind more = codes "% " ++ file ++ codes ":" ++ decimal place.line ++ codes ":" ++ decimal place.column ++ codes " " ++ kind ++ more ++ codes "\n"

-- a line about a file
abbrev pub about_file : List ℕ → List ℕ → List ℕ
about_file file kind = codes "% " ++ file ++ codes " " ++ kind ++ codes "\n"

-- a name with its two arities
abbrev pub clash : List ℕ → ℕ → ℕ → List ℕ
clash name first second = codes " " ++ name ++ codes " " ++ decimal first ++ codes " " ++ decimal second

abbrev pub what_word : What → List ℕ
what_word what.Bytes = codes "bytes"
what_word what.Nodes = codes "nodes"
what_word what.Parentheses = codes "parentheses"
what_word what.Arity = codes "arity"
what_word what.Clauses = codes "clauses"
what_word what.Files = codes "files"
what_word what.Symbols = codes "symbols"

-- the line of a refusal of the reader; none for want of memory, which has a line of its own
abbrev pub clause_line : List ℕ → ClauseFault → List ℕ
clause_line file (clause.Syntax place) = located file place (codes "Syntax") []
clause_line file (clause.NotUnit place) = located file place (codes "NotUnit") []
clause_line file (clause.NotEquality place) = located file place (codes "NotEquality") []
clause_line file (clause.BadRole place word) = located file place (codes "BadRole") (spaced word)
clause_line file (clause.Unsupported place word) = located file place (codes "Unsupported") (spaced word)
clause_line file (clause.Limit place limit) = located file place (codes "Limit") (spaced (what_word limit))
clause_line file clause.NoMemory = []

-- the line of a refusal of loading
abbrev pub load_line : LoadFault → List ℕ
load_line (load.Absent file None) = about_file file (codes "Absent")
load_line (load.Absent file (Some from)) = located from.0 from.1 (codes "Absent") (spaced file)
load_line (load.ReadFault file) = about_file file (codes "ReadFault")
load_line (load.TooDeep file place) = located file place (codes "TooDeep") []
load_line (load.NoSuchName file place name) = located file place (codes "NoSuchName") (spaced (name_spelling name))
load_line (load.ArityClash file place name first second) = located file place (codes "ArityClash") (clash (spelling name) first second)
load_line (load.Limit file place limit) = located file place (codes "Limit") (spaced (what_word limit))
load_line (load.Clause file fault) = clause_line file fault
load_line load.NoMemory = []

-- the line of a refusal of a proof
abbrev pub proof_line : List ℕ → ProofFault → List ℕ
proof_line file (proof.Syntax place) = located file place (codes "Syntax") []
proof_line file (proof.UnknownRule place) = located file place (codes "UnknownRule") []
proof_line file (proof.UnknownName place) = located file place (codes "UnknownName") []
proof_line file proof.Truncated = about_file file (codes "Truncated")
proof_line file (proof.RepeatedName place) = located file place (codes "RepeatedName") []
proof_line file (proof.Limit limit place) = located file place (codes "Limit") (spaced (what_word limit))
proof_line file proof.NoMemory = []

abbrev pub cause_word : Cause → List ℕ
cause_word cause.NotAProblemClause = codes "NotAProblemClause"
cause_word cause.NotAReplacement = codes "NotAReplacement"
cause_word cause.NotEarlier = codes "NotEarlier"
cause_word cause.EndsDiffer = codes "EndsDiffer"
cause_word cause.WrongParents = codes "WrongParents"
cause_word cause.NoGoal = codes "NoGoal"

-- the name of a line, or `-` for none
abbrev pub name_or_dash : Option Line → List ℕ
name_or_dash None = codes "-"
name_or_dash (Some l) = l.name

abbrev pub line_of_number : List Line → Option ℕ → Option Line
line_of_number lines None = None
line_of_number lines (Some k) = slice_get lines k

-- the line of the checker's answer
abbrev pub checked_line : List Line → Checked → List ℕ
checked_line lines Accepted = codes "accepted\n"
checked_line lines (Rejected number why) = codes "rejected " ++ name_or_dash (line_of_number lines number) ++ codes " " ++ cause_word why ++ codes "\n"

-- the line of a clause
abbrev pub shown_line : Table → read.Clause → List ℕ
shown_line table c = clause_text table c ++ codes "\n"

-- the lines of clauses
abbrev pub shown_lines : Table → List Sourced → List ℕ
shown_lines table = flat_map (λ s. shown_line table s.clause)

abbrev pub usage_line : List ℕ
usage_line = codes "usage: uc COMMAND [--option VALUE].. [WORD]..\n"

abbrev pub memory_line : List ℕ
memory_line = codes "% SZS status MemoryOut\n"
