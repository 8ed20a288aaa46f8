-- What a file reads as stays so in every later table of symbols.
use Rattle.std.proofs.Common.{ℕ, Bool, List, [], ◌++◌, append_assoc, append-nil, ap, sym, ◌∙◌, subst}
use Rattle.uc_term.specs.declared.node.Sym.{Sym}
use Rattle.uc_term.specs.Tree.{Tree, Trees}
use Rattle.uc_term.specs.Table.{Table, IsSymbol, Grows}
use Rattle.uc_term.proofs.Gets.{get-append_left}
use Rattle.uc_clause.specs.declared.token.Token.{Token}
use Rattle.uc_clause.specs.declared.token.Place.{Place}
use Rattle.uc_clause.specs.declared.clause.Clause.{Clause}
use Rattle.uc_clause.specs.declared.clause.Item.{Item as ClauseItem}
use Rattle.uc_clause.specs.declared.clause.Item.TheVariants as item
use Rattle.uc_clause.specs.Parse.{Parse, Parses, Sides, Formula, Entry as Part, formula, inclusion}
use Rattle.uc_clause.specs.Meaning.{Variables, Means, variable_means, functor_means, MeanAll, none_mean, more_mean, MeansSides, MeansClause, MeansItem}
use Rattle.uc_fof.specs.declared.item.FofItem.{FofItem}
use Rattle.uc_fof.specs.declared.item.FofItem.TheVariants as given
use Rattle.uc_fof.specs.Parse.{Stated, Entry, item as of_clauses, stated}
use Rattle.uc_fof.specs.Meaning as fof
use Rattle.uc_fof.specs.Reading.{ReadsFile}

pub Grows-refl : (t : Table) → Grows t t
Grows-refl t = ([], sym (append-nil t))

pub Grows-trans : (a b c : Table) → Grows a b → Grows b c → Grows a c
Grows-trans a b c g h = (g.0 ++ h.0, h.1 ∙ ap (λ l. l ++ h.0) g.1 ∙ append_assoc a g.0 h.0)

symbol_later : (t u : Table) → Grows t u → (f : Sym) (name : List ℕ) (n : ℕ) → IsSymbol t f name n → IsSymbol u f name n
symbol_later t u g f name n s = subst (λ (l : Table). IsSymbol l f name n) (sym g.1) (get-append_left t g.0 f.0 (record { name = name; arity = n }) s)

module _ (bytes : List ℕ) (tokens : List Token) (t u : Table) (g : Grows t u) where
  mutual
    means_later : {seen : Variables} {p : Parse} {tree : Tree} → Means bytes tokens t seen p tree → Means bytes tokens u seen p tree
    means_later (variable_means e) = variable_means e
    means_later (functor_means {f = f} s ms) = functor_means (symbol_later t u g f _ _ s) (mean_all_later ms)

    mean_all_later : {seen : Variables} {ps : Parses} {trees : Trees} → MeanAll bytes tokens t seen ps trees → MeanAll bytes tokens u seen ps trees
    mean_all_later none_mean = none_mean
    mean_all_later (more_mean m ms) = more_mean (means_later m) (mean_all_later ms)

  sides_later : (s : Sides) (l r : Tree) → MeansSides bytes tokens t s l r → MeansSides bytes tokens u s l r
  sides_later s l r m = record { means_left = means_later m.means_left; means_right = means_later m.means_right }

  clause_later : (f : Formula) (c : Clause) → MeansClause bytes tokens t f c → MeansClause bytes tokens u f c
  clause_later f c m = record { name = m.name; role = m.role; positive = m.positive; sides = sides_later f.literal.sides c.left c.right m.sides; places = m.places; place = m.place }

  item_later : (e : Part) (i : ClauseItem) → MeansItem bytes tokens t e i → MeansItem bytes tokens u e i
  item_later (formula f) (item.Clause c) m = clause_later f c m
  item_later (inclusion i) (item.Include j) m = m
  item_later (formula f) (item.Include j) m = absurd m
  item_later (inclusion i) (item.Clause c) m = absurd m

  stated_later : (s : Stated) (c : Clause) (conjecture : Bool) (place : Place) → fof.MeansStated bytes tokens t s c conjecture place → fof.MeansStated bytes tokens u s c conjecture place
  stated_later s c conjecture place m = record { name = m.name; role = m.role; positive = m.positive; sides = sides_later s.literal.sides c.left c.right m.sides; places = m.places; place = m.place; is_conjecture = m.is_conjecture; is_role_place = m.is_role_place }

  entry_later : (e : Entry) (i : FofItem) → fof.MeansItem bytes tokens t e i → fof.MeansItem bytes tokens u e i
  entry_later (of_clauses e) (given.Item i) m = item_later e i m
  entry_later (stated s) (given.Formula c conjecture place) m = stated_later s c conjecture place m
  entry_later (of_clauses e) (given.Formula c conjecture place) m = absurd m
  entry_later (stated s) (given.Item i) m = absurd m

  items_later : {es : List Entry} {is : List FofItem} → fof.MeanItems bytes tokens t es is → fof.MeanItems bytes tokens u es is
  items_later fof.no_items = fof.no_items
  items_later (fof.one_item {entry = e} {i = i} m ms) = fof.one_item (entry_later e i m) (items_later ms)

pub file_later : (bytes : List ℕ) (t u : Table) (is : List FofItem) → Grows t u → ReadsFile bytes t is → ReadsFile bytes u is
file_later bytes t u is g r = record { small = r.small; reads = record { tokens = r.reads.tokens; are_tokens = r.reads.are_tokens; entries = r.reads.entries; end = r.reads.end; reads = r.reads.reads; means = items_later bytes r.reads.tokens t u g r.reads.means } }
