-- What a parse says in a table of symbols: terms, clauses, includes and items. A functor with a name and a number of
-- arguments is the symbol that the table has there. A variable's number is its place in the list of names seen so far,
-- to which a new name is added at the end. So what a parse says stays the same when the table or the list grows.
use Rattle.std.specs.Prelude.{◌≡◌, ◌↔◌, ℕ, true, List, [], ◌∷◌, ◌++◌, map, Option, Some, None, slice_get, bytes_eq, if◌then◌else◌}
use Rattle.std.specs.List.{list_any}
use Rattle.uc_term.specs.declared.node.Sym.{Sym}
use Rattle.uc_term.specs.Tree.{Tree, var, app, Trees, none, more, count}
use Rattle.uc_term.specs.Table.{Table, IsSymbol}
use Rattle.uc_clause.specs.declared.token.Token.{Token}
use Rattle.uc_clause.specs.declared.token.Place.{Place}
use Rattle.uc_clause.specs.declared.clause.Name.{Name}
use Rattle.uc_clause.specs.declared.clause.Clause.{Clause}
use Rattle.uc_clause.specs.declared.clause.Include.{Include}
use Rattle.uc_clause.specs.declared.clause.Item.{Item}
use Rattle.uc_clause.specs.declared.clause.Item.TheVariants as item
use Rattle.uc_clause.specs.declared.terminal.Terminal.TheVariants.{Integer}
use Rattle.uc_clause.specs.Terminals.{terminal_at, bytes_at, word_at, place_at}
use Rattle.uc_clause.specs.declared.grammar.item.Inclusion.{Inclusion}
use Rattle.uc_clause.specs.Parse.{Parse, variable, applied, Parses, no_more, also, leaves, variables, Sides, Formula, Entry, formula, inclusion}

-- the names of variables, each once, by first occurrence
abbrev pub Variables : Type 0
Variables = List (List ℕ)

abbrev pub with_name : Variables → List ℕ → Variables
with_name seen x = if list_any (bytes_eq x) seen then seen else seen ++ x ∷ []

-- with these names behind those seen so far
abbrev pub with_names : Variables → List (List ℕ) → Variables
with_names seen [] = seen
with_names seen (x ∷ xs) = with_names (with_name seen x) xs

module _ (bytes : List ℕ) (tokens : List Token) where
  -- the names of a term's variables, from left to right
  abbrev pub variables_in : Parse → List (List ℕ)
  variables_in p = map (bytes_at bytes tokens) (variables p)

  -- the variables of two sides, left side first
  abbrev pub variables_of : Sides → Variables
  variables_of sides = with_names (with_names [] (variables_in sides.left)) (variables_in sides.right)

  -- where the nodes of two sides stand, left side first
  abbrev pub places_of : Sides → List Place
  places_of sides = map (place_at bytes tokens) (leaves sides.left ++ leaves sides.right)

  mutual
    -- the parse says this term
    pub data Means (table : Table) (seen : Variables) : Parse → Tree → Type 0 where
      variable_means : {k n : ℕ} → slice_get seen n ≡ Some (bytes_at bytes tokens k) → Means table seen (variable k) (var n)
      functor_means : {k : ℕ} {ps : Parses} {f : Sym} {ts : Trees} → IsSymbol table f (word_at bytes tokens k) (count ts) → MeanAll table seen ps ts → Means table seen (applied k ps) (app f ts)

    pub data MeanAll (table : Table) (seen : Variables) : Parses → Trees → Type 0 where
      none_mean : MeanAll table seen no_more none
      more_mean : {p : Parse} {ps : Parses} {t : Tree} {ts : Trees} → Means table seen p t → MeanAll table seen ps ts → MeanAll table seen (also p ps) (more t ts)

  -- the token is this name: an Integer as it is written, any other by the word that it stands for
  pub record IsName (k : ℕ) (name : Name) : Type 0 where
    pub text : name.text ≡ word_at bytes tokens k
    pub integer : (name.integer ≡ true) ↔ (terminal_at bytes tokens k ≡ Integer)

  -- the parse says these two terms, with the variables of both numbered together
  pub record MeansSides (table : Table) (sides : Sides) (left right : Tree) : Type 0 where
    pub means_left : Means table (variables_of sides) sides.left left
    pub means_right : Means table (variables_of sides) sides.right right

  pub record MeansClause (table : Table) (f : Formula) (clause : Clause) : Type 0 where
    pub name : IsName f.heading.name clause.name
    pub role : clause.role ≡ f.heading.role
    pub positive : clause.positive ≡ f.literal.positive
    pub sides : MeansSides table f.literal.sides clause.left clause.right
    pub places : clause.places ≡ places_of f.literal.sides
    pub place : clause.place ≡ place_at bytes tokens f.heading.first

  -- the tokens are these names, each with its place
  pub data AreNames : List ℕ → List (Name × Place) → Type 0 where
    no_names : AreNames [] []
    one_name : {k : ℕ} {ks : List ℕ} {name : Name} {names : List (Name × Place)} → IsName k name → AreNames ks names → AreNames (k ∷ ks) ((name, place_at bytes tokens k) ∷ names)

  abbrev pub AreSelected : Option (List ℕ) → Option (List (Name × Place)) → Type 0
  AreSelected None None = Unit {0}
  AreSelected (Some ks) (Some names) = AreNames ks names
  AreSelected None (Some names) = ⊥
  AreSelected (Some ks) None = ⊥

  pub record MeansInclude (i : Inclusion) (include : Include) : Type 0 where
    pub file : include.file ≡ word_at bytes tokens i.file
    pub names : AreSelected i.names include.names
    pub place : include.place ≡ place_at bytes tokens i.first

  abbrev pub MeansItem : Table → Entry → Item → Type 0
  MeansItem table (formula f) (item.Clause clause) = MeansClause table f clause
  MeansItem table (inclusion i) (item.Include include) = MeansInclude i include
  MeansItem table (formula f) (item.Include include) = ⊥
  MeansItem table (inclusion i) (item.Clause clause) = ⊥

  pub data MeanItems (table : Table) : List Entry → List Item → Type 0 where
    no_items : MeanItems table [] []
    one_item : {entry : Entry} {entries : List Entry} {i : Item} {items : List Item} → MeansItem table entry i → MeanItems table entries items → MeanItems table (entry ∷ entries) (i ∷ items)
