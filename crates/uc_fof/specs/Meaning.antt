-- What a parse says in a table of symbols: formulas and items. A conjecture is the clause that denies its literal, with the role
-- of a denied conjecture; any other formula is the clause that its literal is.
use Rattle.std.specs.Prelude.{◌≡◌, ℕ, Bool, not, List, [], ◌∷◌}
use Rattle.uc_term.specs.Table.{Table}
use Rattle.uc_clause.specs.declared.token.Token.{Token}
use Rattle.uc_clause.specs.declared.token.Place.{Place}
use Rattle.uc_clause.specs.declared.clause.Role.{Role}
use Rattle.uc_clause.specs.declared.clause.Role.TheVariants.{NegatedConjecture}
use Rattle.uc_clause.specs.declared.clause.Clause.{Clause}
use Rattle.uc_clause.specs.Terminals.{place_at}
use Rattle.uc_clause.specs.Meaning as clauses
use Rattle.uc_fof.specs.declared.heading.FormulaRole.{FormulaRole}
use Rattle.uc_fof.specs.declared.heading.FormulaRole.TheVariants.{Conjecture, OfClause}
use Rattle.uc_fof.specs.declared.item.FofItem.{FofItem}
use Rattle.uc_fof.specs.declared.item.FofItem.TheVariants.{Item, Formula}
use Rattle.uc_fof.specs.Parse.{Stated, Entry, item, stated}
use Rattle.uc_fof.specs.Formulas.{is_conjecture}

-- the role of the clause
abbrev pub clause_role : FormulaRole → Role
clause_role Conjecture = NegatedConjecture
clause_role (OfClause role) = role

-- whether the clause is an equation, of whether the literal is one
abbrev pub clause_sign : FormulaRole → Bool → Bool
clause_sign Conjecture positive = not positive
clause_sign (OfClause role) positive = positive

module _ (bytes : List ℕ) (tokens : List Token) where
  pub record MeansStated (table : Table) (s : Stated) (clause : Clause) (conjecture : Bool) (role_place : Place) : Type 0 where
    pub name : clauses.IsName bytes tokens s.heading.name clause.name
    pub role : clause.role ≡ clause_role s.heading.role
    pub positive : clause.positive ≡ clause_sign s.heading.role s.literal.positive
    pub sides : clauses.MeansSides bytes tokens table s.literal.sides clause.left clause.right
    pub places : clause.places ≡ clauses.places_of bytes tokens s.literal.sides
    pub place : clause.place ≡ place_at bytes tokens s.heading.first
    pub is_conjecture : conjecture ≡ is_conjecture s.heading.role
    pub is_role_place : role_place ≡ place_at bytes tokens s.heading.role_at

  abbrev pub MeansItem : Table → Entry → FofItem → Type 0
  MeansItem table (item entry) (Item i) = clauses.MeansItem bytes tokens table entry i
  MeansItem table (stated s) (Formula clause conjecture role_place) = MeansStated table s clause conjecture role_place
  MeansItem table (item entry) (Formula clause conjecture role_place) = ⊥
  MeansItem table (stated s) (Item i) = ⊥

  pub data MeanItems (table : Table) : List Entry → List FofItem → Type 0 where
    no_items : MeanItems table [] []
    one_item : {entry : Entry} {entries : List Entry} {i : FofItem} {items : List FofItem} → MeansItem table entry i → MeanItems table entries items → MeanItems table (entry ∷ entries) (i ∷ items)
