-- How a run of `order` or of `pairs` ends.
use Rattle.std.specs.Prelude.{ℕ, ◌≡◌, List, [], ◌∷◌, Option, None}
use Rattle.std.specs.Io.KnownBytes.{Appends}
use Rattle.uc_term.specs.Table.{Table, IsDistinct}
use Rattle.uc_edge.specs.Files.{Files}
use Rattle.uc_check.specs.Clauses.{axioms_of}
use Rattle.uc_problem.specs.declared.problem.Problem.{Problem}
use Rattle.uc_order.specs.declared.spec.OrderSpec.{OrderSpec}
use Rattle.uc_words.specs.declared.command.Command.{Command}
use Rattle.uc_words.specs.declared.command.Verb.{Verb}
use Rattle.uc_words.specs.declared.command.Verb.TheVariants.{Order, Pairs}
use Rattle.uc_words.specs.Reads.{Reads}
use Rattle.uc_ordering.specs.Choice.{IsChosen}
use Rattle.uc_ordering.specs.Meaning.{meaning_of}
use Rattle.uc_answer.specs.Lines.{memory_line}
use Rattle.uc_top.specs.declared.listing.Listing.{Listing}
use Rattle.uc_top.specs.declared.listing.Listing.TheVariants.{Directions, CriticalPairs}
use Rattle.uc_top.specs.Loaded.{IsLoaded}
use Rattle.uc_top.specs.ListAnswers.{AreListed}

-- the command that lists so
abbrev pub verb_of : Listing → Verb
verb_of Directions = Order
verb_of CriticalPairs = Pairs

-- How such a command ends for a problem and an order: with the lines of its axioms, and status 0; or for want of memory, which is
-- free.
pub data ListEnds (listing : Listing) (table : Table) (spec : OrderSpec) (problem : Problem) (old new : Option (List ℕ)) : ℕ → Type 0 where
  lists_all : (lines : List ℕ) → AreListed listing table (meaning_of table spec) (axioms_of problem.clauses) lines → Appends old new lines → ListEnds listing table spec problem old new 0
  lacks_memory : Appends old new memory_line → ListEnds listing table spec problem old new 7

-- Where its words name an order for a problem that the files hold, it ends so, with the problem's symbols in the table that loading
-- it leaves.
abbrev pub CompletesList : Listing → Files → List (List ℕ) → Option (List ℕ) → Option (List ℕ) → ℕ → Type 0
CompletesList listing files words old new result = (command : Command) (name : List ℕ) (table : Table) (problem : Problem) (spec : OrderSpec) → Reads words command → command.verb ≡ verb_of listing → command.positionals ≡ name ∷ [] → IsDistinct table → IsLoaded files command.root name table problem → IsChosen table problem.signature command.order None spec → ListEnds listing table spec problem old new result
