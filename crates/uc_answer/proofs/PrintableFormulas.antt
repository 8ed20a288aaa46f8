-- What is read as items of a file can be printed.
use Rattle.std.proofs.Common.{ℕ, ◌≡◌, Bool, List, [], ◌∷◌, refl, sym, subst}
use Rattle.uc_term.specs.Table.{Table}
use Rattle.uc_clause.specs.declared.token.Token.{Token}
use Rattle.uc_clause.specs.Terminals.{terminal_at}
use Rattle.uc_clause.specs.Tokens.{AreTokens}
use Rattle.uc_clause.specs.Rules as clauses
use Rattle.uc_clause.specs.Parse as parse
use Rattle.uc_clause.specs.Items as items
use Rattle.uc_clause.specs.Meaning.{Variables}
use Rattle.uc_fof.specs.declared.item.FofItem.{FofItem}
use Rattle.uc_fof.specs.declared.item.FofItem.TheVariants.{Item, Formula}
use Rattle.uc_fof.specs.declared.heading.FormulaHeading.{FormulaHeading}
use Rattle.uc_fof.specs.Rules.{Outcome, read, stop, mapped, outside, AsIn, as_in, goes_on}
use Rattle.uc_fof.specs.Parse.{Stated, Entry, item, stated}
use Rattle.uc_fof.specs.Formulas as formulas
use Rattle.uc_fof.specs.Meaning.{MeansItem, MeanItems, no_items, one_item}
use Rattle.uc_fof.specs.Reading.{ReadsFile}
use Rattle.uc_fof.proofs.Forget.{literal_there}
use Rattle.uc_answer.proofs.SpelledWords.{IsNameTerminal}
use Rattle.uc_answer.proofs.PrintableItems as clause_items

-- a clause can be printed, also that of a formula, and an include's file be spelled
module _ (table : Table) where
  abbrev pub PrintableItem : FofItem → Type 0
  PrintableItem (Item i) = clause_items.PrintableItem table i
  PrintableItem (Formula c conjecture role_place) = clause_items.PrintableClause table c

  abbrev pub PrintableItems : List FofItem → Type 0
  PrintableItems [] = Unit {0}
  PrintableItems (i ∷ is) = PrintableItem i × PrintableItems is

-- what a rule of clauses reads here, it reads there
as_clause : {V : Type 0} {rule : clauses.Rule V} {at : ℕ} {o : Outcome V} → AsIn rule at o → (v : V) (end : ℕ) → o ≡ read v end → rule at (clauses.read v end)
as_clause {rule = rule} {at = at} (as_in {outcome = clauses.read w e} x) v end is = let same : clauses.read w e ≡ clauses.read v end = cc in subst (rule at) same x
as_clause (as_in {outcome = clauses.stop why k} x) v end is = absurd cc

module _ (bytes : List ℕ) (tokens : List Token) where
  -- FORMULAS

  abbrev FineLiteral : Outcome parse.Literal → Type 0
  FineLiteral (read l end) = clause_items.FineLiteral bytes tokens l
  FineLiteral (stop reason k) = Unit {0}

  bare_fine : (conjecture : Bool) (bound : Variables) (at : ℕ) (o : Outcome parse.Literal) → formulas.literal bytes tokens conjecture bound at o → FineLiteral o
  bare_fine conjecture bound at (read l end) x = clause_items.literal_fine bytes tokens at end l (literal_there bytes tokens conjecture bound at end l x)
  bare_fine conjecture bound at (stop reason k) x = tt

  formula_fine : (conjecture : Bool) {brackets at : ℕ} {bound : Variables} {o : Outcome parse.Literal} → formulas.Formula bytes tokens conjecture brackets bound at o → FineLiteral o
  formula_fine conjecture (formulas.is_bare {at = at} {bound = bound} {outcome = o} n b q x) = bare_fine conjecture bound at o x
  formula_fine conjecture (formulas.is_bracketed e b x c) = formula_fine conjecture x
  formula_fine conjecture (formulas.is_not_closed e b x c) = tt
  formula_fine conjecture (formulas.stops_in_brackets e b x) = tt
  formula_fine conjecture (formulas.is_too_deep e b) = tt
  formula_fine conjecture (formulas.is_quantified n b q x) = formula_fine conjecture x
  formula_fine conjecture (formulas.stops_in_quantifier n b q) = tt
  formula_fine conjecture (formulas.is_unread n q) = tt

  literal_fine : (conjecture : Bool) (at end : ℕ) (l : parse.Literal) → formulas.formula bytes tokens conjecture at (read l end) → clause_items.FineLiteral bytes tokens l
  literal_fine conjecture at end l x = formula_fine conjecture x

  -- the formula's name is one
  abbrev FineHeading : FormulaHeading → Type 0
  FineHeading h = IsNameTerminal (terminal_at bytes tokens h.name)

  heading_fine : (at end : ℕ) (h : FormulaHeading) → formulas.heading bytes tokens at (read h end) → FineHeading h
  heading_fine at end h (goes_on {v = first} begins (goes_on lower (goes_on {middle = from} opened (goes_on {v = k} {middle = m} n (goes_on comma (goes_on {v = role_at} there (goes_on {v = role} said (goes_on comma_too g)))))))) =
      let same : h ≡ record { first = first; name = k; role = role; role_at = role_at } = cc in
      subst FineHeading (sym same) (clause_items.name_token bytes tokens from k m (as_clause n k m refl))

  abbrev FineStated : Stated → Type 0
  FineStated s = FineHeading s.heading × clause_items.FineLiteral bytes tokens s.literal

  stated_fine : (at end : ℕ) (s : Stated) → formulas.fof bytes tokens at (read s end) → FineStated s
  stated_fine at end s (goes_on {v = h} {middle = i} a (goes_on {v = l} {middle = j} c (goes_on n (goes_on d g)))) =
      let same : s ≡ record { heading = h; literal = l } = cc in
      subst FineStated (sym same) (heading_fine at i h a, literal_fine (formulas.is_conjecture h.role) i j l c)

  -- ITEMS

  abbrev FineEntry : Entry → Type 0
  FineEntry (item e) = clause_items.FineEntry bytes tokens e
  FineEntry (stated s) = FineStated s

  abbrev FineItem : Outcome Entry → Type 0
  FineItem (read e end) = FineEntry e
  FineItem (stop reason k) = Unit {0}

  stated_outcome : (at : ℕ) (o : Outcome Stated) → formulas.fof bytes tokens at o → FineItem (mapped stated o)
  stated_outcome at (read s end) x = stated_fine at end s x
  stated_outcome at (stop reason k) x = tt

  clause_outcome : (o : clauses.Outcome parse.Entry) → clause_items.FineItem bytes tokens o → FineItem (mapped item (outside o))
  clause_outcome (clauses.read e end) h = h
  clause_outcome (clauses.stop why k) h = tt

  as_item : {at : ℕ} {o : Outcome parse.Entry} → AsIn (items.Item bytes tokens) at o → FineItem (mapped item o)
  as_item (as_in {outcome = o} x) = clause_outcome o (clause_items.item_fine bytes tokens x)

  item_fine : {at : ℕ} {o : Outcome Entry} → formulas.Item bytes tokens at o → FineItem o
  item_fine (formulas.is_stated {at = at} {outcome = o} b x) = stated_outcome at o x
  item_fine (formulas.is_item b x) = as_item x

  abbrev FineEntries : List Entry → Type 0
  FineEntries [] = Unit {0}
  FineEntries (e ∷ es) = FineEntry e × FineEntries es

  abbrev FineItems : Outcome (List Entry) → Type 0
  FineItems (read es end) = FineEntries es
  FineItems (stop reason k) = Unit {0}

  more_fine : (e : Entry) (o : Outcome (List Entry)) → FineEntry e → FineItems o → FineItems (mapped (λ es. e ∷ es) o)
  more_fine e (read es end) h k = (h, k)
  more_fine e (stop reason k) h j = tt

  items_fine : {at : ℕ} {o : Outcome (List Entry)} → formulas.Items bytes tokens at o → FineItems o
  items_fine (formulas.is_end e) = tt
  items_fine (formulas.has_item {entry = entry} {outcome = o} n x xs) = more_fine entry o (item_fine x) (items_fine xs)
  items_fine (formulas.stops_in_item n x) = tt

  -- WHAT THEY SAY

  module _ (are : AreTokens bytes tokens) (table : Table) where
    item_means : (e : Entry) (i : FofItem) → MeansItem bytes tokens table e i → FineEntry e → PrintableItem table i
    item_means (item e) (Item i) m h = clause_items.item_means bytes tokens are table e i m h
    item_means (stated s) (Formula c conjecture role_place) m h = clause_items.clause_means bytes tokens are table s.heading.name s.literal c m.name m.sides h.0 h.1
    item_means (item e) (Formula c conjecture role_place) m h = absurd m
    item_means (stated s) (Item i) m h = absurd m

    items_mean : {es : List Entry} {is : List FofItem} → MeanItems bytes tokens table es is → FineEntries es → PrintableItems table is
    items_mean no_items h = tt
    items_mean (one_item {entry = entry} {i = i} m ms) h = (item_means entry i m h.0, items_mean ms h.1)

pub file_printable : (bytes : List ℕ) (table : Table) (is : List FofItem) → ReadsFile bytes table is → PrintableItems table is
file_printable bytes table is r = items_mean bytes r.reads.tokens r.reads.are_tokens table r.reads.means (items_fine bytes r.reads.tokens r.reads.reads)
