-- What the readers of formulas answer.
use Rattle.std.specs.Prelude.{◌≡◌, ◌≢◌, ℕ, suc, ◌+◌, ◌<◌, ◌≤◌, Bool, true, false, List, length, [], ◌∷◌, map, Result, Ok, Err}
use Rattle.uc_term.specs.Tree.{Tree}
use Rattle.uc_term.specs.Table.{Table}
use Rattle.uc_clause.specs.declared.token.Token.{Token}
use Rattle.uc_clause.specs.declared.token.Place.{Place}
use Rattle.uc_clause.specs.declared.terminal.Terminal.TheVariants.{Upper, Open, Close}
use Rattle.uc_clause.specs.declared.fault.ClauseFault.{ClauseFault}
use Rattle.uc_clause.specs.declared.grammar.stop.Why.{Why}
use Rattle.uc_clause.specs.declared.grammar.stop.Why.TheVariants.{Arity, NoEnd}
use Rattle.uc_clause.specs.Terminals.{terminal_at, bytes_at}
use Rattle.uc_clause.specs.Rules as clause
use Rattle.uc_clause.specs.Terms as clauses
use Rattle.uc_clause.specs.Items as items
use Rattle.uc_clause.specs.Parse.{Parse, size, Literal}
use Rattle.uc_clause.specs.Interning.{with_literal}
use Rattle.uc_clause.specs.Meaning.{Variables, with_names, MeansSides, places_of}
use Rattle.uc_fof.specs.declared.stop.Reason.{Reason}
use Rattle.uc_fof.specs.declared.stop.Reason.TheVariants.{Inside}
use Rattle.uc_fof.specs.declared.stop.Halt.{Halt}
use Rattle.uc_fof.specs.declared.stop.Halt.TheVariants.{At, NoMemory}
use Rattle.uc_fof.specs.declared.item.FofItem.{FofItem}
use Rattle.uc_fof.specs.declared.formulas.Opened.{Opened}
use Rattle.uc_fof.specs.declared.heading.FormulaHeading.{FormulaHeading}
use Rattle.uc_fof.specs.Rules.{Outcome, read, stop, Rule, Stops}
use Rattle.uc_fof.specs.Terms.{is_bound}
use Rattle.uc_fof.specs.Parse.{Stated, Entry, stated}
use Rattle.uc_fof.specs.Formulas as formulas
use Rattle.uc_fof.specs.Meaning.{MeansItem, MeanItems}
use Rattle.uc_fof.specs.Interning.{with_stated, with_item, with_items}
use Rattle.uc_fof.specs.Refusals.{fault_of}

-- something is read up to this token
pub record IsRead {V : Type 0} (outcome : Outcome V → Type 0) (end : ℕ) : Type 0 where
  pub value : V
  pub reads : outcome (read value end)

-- a reader that goes over what the rule reads gives the number of the token behind it, or stops as the rule does
abbrev pub Passes : {V : Type 0} → (Outcome V → Type 0) → Result ℕ Halt → Type 0
Passes outcome (Ok end) = IsRead outcome end
Passes outcome (Err e) = Stops outcome e

module _ (bytes : List ℕ) (tokens : List Token) where
  -- the token is a variable that isn't bound
  abbrev pub IsFree : Variables → ℕ → Type 0
  IsFree bound at = (terminal_at bytes tokens at ≡ Upper) × (is_bound bytes tokens bound at ≡ false)

  -- each variable from a token on and before another is bound
  abbrev pub AreBound : Variables → ℕ → ℕ → Type 0
  AreBound bound from to = (k : ℕ) → from ≤ k → k < to → IsFree bound k → ⊥

  -- the first variable there that isn't bound
  pub record IsFirstFree (bound : Variables) (from to at : ℕ) : Type 0 where
    pub ahead : from ≤ at
    pub within : at < to
    pub free : IsFree bound at
    pub others : AreBound bound from at

  -- the arguments of a functor from this number on, up to the token behind the 255th
  pub data Full : ℕ → ℕ → ℕ → ℕ → Type 0 where
    is_full : {number used at end : ℕ} {p : Parse} → clauses.Term bytes tokens used at (clause.read p end) → 255 ≤ number → Full number used at end
    isnt_full : {number used at middle end : ℕ} {p : Parse} → clauses.Term bytes tokens used at (clause.read p middle) → number < 255 → Full (number + 1) (used + size p) (middle + 1) end → Full number used at end

  -- the token with which a term stops, for this reason and with this token named: for the limit on arguments the comma that
  -- announces the 256th one of the functor that is named
  abbrev pub Reaches : Why → ℕ → ℕ → Type 0
  Reaches Arity k r = (used : ℕ) × Full 1 used (k + 2) r
  Reaches why k r = r ≡ k

  module _ (conjecture : Bool) where
    -- variables are read up to the closing bracket, and bound
    pub record BindsNames (from : ℕ) (old new : Variables) (end : ℕ) : Type 0 where
      pub names : List ℕ
      pub reads : formulas.Uppers bytes tokens conjecture from (read names end)
      pub new_is : new ≡ formulas.bound_by bytes tokens conjecture old names

    -- a quantifier is read, and its variables are bound
    pub record Binds (from : ℕ) (old new : Variables) (end : ℕ) : Type 0 where
      pub names : List ℕ
      pub reads : formulas.quantifier bytes tokens conjecture from (read names end)
      pub new_is : new ≡ formulas.bound_by bytes tokens conjecture old names

    -- what a literal comes to once so many brackets round it are closed
    pub data Closes : ℕ → Outcome Literal → Outcome Literal → Type 0 where
      needs_none : {outcome : Outcome Literal} → Closes 0 outcome outcome
      is_closed : {n end : ℕ} {l : Literal} {outcome : Outcome Literal} → terminal_at bytes tokens end ≡ Close → Closes n (read l (end + 1)) outcome → Closes (suc n) (read l end) outcome
      isnt_closed : {n end : ℕ} {l : Literal} → terminal_at bytes tokens end ≢ Close → Closes (suc n) (read l end) (stop (Inside conjecture NoEnd) end)
      has_stopped : {n k : ℕ} {reason : Reason} → Closes n (stop reason k) (stop reason k)

    -- what a formula inside these brackets and quantifiers comes to from a token on, the whole comes to from another on once
    -- the brackets are closed
    abbrev pub Leads : ℕ → ℕ → Variables → ℕ → Type 0
    Leads from brackets bound at = (inner outer : Outcome Literal) → formulas.Formula bytes tokens conjecture brackets bound at inner → Closes brackets inner outer → formulas.Formula bytes tokens conjecture 0 [] from outer

    -- what the step over a bracket or a quantifier does, and what it finds where there is none
    abbrev pub Opens : Opened → Opened → Bool → Type 0
    Opens old new true = (new.brackets ≤ 16) × (old.at < new.at) × (old.at < length tokens) × ((from : ℕ) → Leads from old.brackets old.bound old.at → Leads from new.brackets new.bound new.at)
    Opens old new false = (new ≡ old) × (terminal_at bytes tokens old.at ≢ Open) × (formulas.is_mark bytes tokens formulas.bang old.at → ⊥) × (formulas.is_mark bytes tokens formulas.question old.at → ⊥)

    -- a literal stands inside these brackets and quantifiers
    pub record IsOpened (from brackets : ℕ) (bound : Variables) (at : ℕ) : Type 0 where
      pub leads : Leads from brackets bound at
      pub no_bracket : terminal_at bytes tokens at ≢ Open
      pub no_quantifier : formulas.is_mark bytes tokens formulas.bang at → ⊥
      pub no_question : formulas.is_mark bytes tokens formulas.question at → ⊥

    -- what the literal up to a token comes to once the brackets are closed
    abbrev pub ClosesAll : ℕ → ℕ → Result ℕ Halt → Type 0
    ClosesAll brackets from (Ok end) = (l : Literal) → Closes brackets (read l from) (read l end)
    ClosesAll brackets from (Err (At reason k)) = (l : Literal) → Closes brackets (read l from) (stop reason k)
    ClosesAll brackets from (Err NoMemory) = Unit {0}

    -- a formula is read, whose literal begins at a token
    pub record HasLiteral (from literal_from end : ℕ) : Type 0 where
      pub literal : Literal
      pub bound : Variables
      pub middle : ℕ
      pub is_literal : formulas.literal bytes tokens conjecture bound literal_from (read literal middle)
      pub reads : formulas.formula bytes tokens conjecture from (read literal end)

  -- the item of a formula is read, whose literal begins at a token
  pub record IsStated (from : ℕ) (heading : FormulaHeading) (literal_from end : ℕ) : Type 0 where
    pub literal : Literal
    pub bound : Variables
    pub middle : ℕ
    pub is_literal : formulas.literal bytes tokens (formulas.is_conjecture heading.role) bound literal_from (read literal middle)
    pub reads : formulas.fof bytes tokens from (read (record { heading = heading; literal = literal }) end)

  -- a literal begins at a token
  pub record BeginsLiteral (conjecture : Bool) (from : ℕ) : Type 0 where
    pub literal : Literal
    pub bound : Variables
    pub end : ℕ
    pub reads : formulas.literal bytes tokens conjecture bound from (read literal end)

  -- a literal of clauses is read from a token on, which is this, and makes the new table of the old
  pub record IsLiteral (from : ℕ) (old new : Table) (positive : Bool) (left right : Tree) (places : List Place) : Type 0 where
    pub literal : Literal
    pub end : ℕ
    pub reads : items.literal bytes tokens from (clause.read literal end)
    pub is_positive : positive ≡ literal.positive
    pub means : MeansSides bytes tokens new literal.sides left right
    pub are_places : places ≡ places_of bytes tokens literal.sides
    pub new_is : new ≡ with_literal bytes tokens old literal

  -- the item of a formula is read from a token on, up to another, and makes the new table of the old
  pub record ReadsStatedAt (from : ℕ) (old new : Table) (i : FofItem) (end : ℕ) : Type 0 where
    pub parse : Stated
    pub reads : formulas.fof bytes tokens from (read parse end)
    pub means : MeansItem bytes tokens new (stated parse) i
    pub new_is : new ≡ with_stated bytes tokens old parse

  -- from a token on an item is read, up to another token, and makes the new table of the old
  pub record ReadsItemAt (from : ℕ) (old new : Table) (i : FofItem) (end : ℕ) : Type 0 where
    pub entry : Entry
    pub reads : formulas.Item bytes tokens from (read entry end)
    pub means : MeansItem bytes tokens new entry i
    pub new_is : new ≡ with_item bytes tokens old entry

  -- the tokens are these items up to the end of the text, which make the new table of the old
  pub record ReadsItems (old new : Table) (items : List FofItem) : Type 0 where
    pub entries : List Entry
    pub end : ℕ
    pub reads : formulas.Items bytes tokens 0 (read entries end)
    pub means : MeanItems bytes tokens new entries items
    pub new_is : new ≡ with_items bytes tokens old entries

  -- from a token on the rule stops, with this fault
  pub data StopsWith {V : Type 0} (rule : Rule V) (from : ℕ) : ClauseFault → Type 0 where
    stops_with : {reason : Reason} {k : ℕ} → rule from (stop reason k) → StopsWith rule from (fault_of bytes tokens reason k)
