-- What the clauses that are read have, whatever the files are: terms over the table of symbols, and a place for each node.
use Rattle.std.specs.Prelude.{◌≡◌, ◌≤◌, ◌+◌, List, [], ◌∷◌, length}
use Rattle.uc_term.specs.Tree.{nodes}
use Rattle.uc_term.specs.Table.{Table, IsOf}
use Rattle.uc_clause.specs.declared.clause.Clause.{Clause}
use Rattle.uc_clause.specs.declared.clause.Item.TheVariants as item
use Rattle.uc_clause.specs.declared.clause.Sourced.{Sourced}
use Rattle.uc_fof.specs.declared.item.FofItem.{FofItem}
use Rattle.uc_fof.specs.declared.item.FofItem.TheVariants.{Item, Formula}
use Rattle.uc_problem.specs.declared.counts.Counts.{Counts}
use Rattle.uc_problem.specs.declared.flat.FlatClause.{FlatClause}

pub record IsSound (table : Table) (c : Clause) : Type 0 where
  pub left : IsOf table c.left
  pub right : IsOf table c.right
  pub places : length c.places ≡ nodes c.left + nodes c.right

abbrev pub AreSound : Table → List Sourced → Type 0
AreSound table [] = Unit {0}
AreSound table (s ∷ ss) = IsSound table s.clause × AreSound table ss

abbrev pub AreSoundFlats : Table → List FlatClause → Type 0
AreSoundFlats table [] = Unit {0}
AreSoundFlats table (s ∷ ss) = IsSound table s.clause × AreSoundFlats table ss

abbrev pub IsSoundItem : Table → FofItem → Type 0
IsSoundItem table (Item (item.Clause c)) = IsSound table c
IsSoundItem table (Item (item.Include i)) = Unit {0}
IsSoundItem table (Formula c conjecture place) = IsSound table c

abbrev pub AreSoundItems : Table → List FofItem → Type 0
AreSoundItems table [] = Unit {0}
AreSoundItems table (i ∷ is) = IsSoundItem table i × AreSoundItems table is

-- the clauses of a part are sound, and the counts, which keep to the limit, rose by as many clauses at least
pub record IsSoundPart (table : Table) (old new : Counts) (clauses : List FlatClause) : Type 0 where
  pub sound : AreSoundFlats table clauses
  pub few : old.clauses + length clauses ≤ new.clauses
  pub within : old.clauses ≤ 10000 → new.clauses ≤ 10000
