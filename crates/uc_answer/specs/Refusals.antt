-- What is said of refusals: their statuses and places.
use Rattle.std.specs.Prelude.{ℕ, List, codes, slice_get, unwrap_or}
use Rattle.uc_clause.specs.declared.token.Place.{Place}
use Rattle.uc_clause.specs.declared.clause.Clause as read
use Rattle.uc_clause.specs.declared.clause.Sourced.{Sourced}
use Rattle.uc_clause.specs.declared.fault.ClauseFault.TheVariants as clause
use Rattle.uc_clause.specs.declared.fault.What.TheVariants.{Nodes}
use Rattle.uc_problem.specs.declared.fault.LoadFault.{LoadFault}
use Rattle.uc_problem.specs.declared.fault.LoadFault.TheVariants as load
use Rattle.uc_answer.specs.Lines.{located, spaced, what_word}

-- the status of a refusal of loading: a fault of the library, want of memory, or what the files say
abbrev pub load_status : LoadFault → ℕ
load_status (load.ReadFault file) = 5
load_status load.NoMemory = 7
load_status (load.Clause file clause.NoMemory) = 7
load_status other = 3

-- where the first node of a clause's left side stands; a clause without places stands where its item does
abbrev pub first_node : read.Clause → Place
first_node c = unwrap_or (slice_get c.places 0) c.place

-- the line of a goal that is too large to be encoded
abbrev pub large_line : Sourced → List ℕ
large_line s = located s.file (first_node s.clause) (codes "Limit") (spaced (what_word Nodes))
