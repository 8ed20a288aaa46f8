-- Loading takes the same way whatever the terms of clauses are.
use Rattle.std.proofs.Common.{ℕ, ◌≡◌, ◌||◌, Bool, true, false, cond, List, [], ◌∷◌, map, filter, Option, Some, None, Result, Ok, Err, if◌then◌else◌, refl, sym, ap, ap₂, ◌∙◌, subst}
use Rattle.std.proofs.lemmas.List.{map-append}
use Rattle.uc_term.specs.Table.{Table}
use Rattle.uc_edge.specs.Files.{Files}
use Rattle.uc_clause.specs.declared.token.Token.{Token}
use Rattle.uc_clause.specs.declared.token.Place.{Place}
use Rattle.uc_clause.specs.declared.clause.Name.{Name}
use Rattle.uc_clause.specs.declared.clause.Clause.{Clause}
use Rattle.uc_clause.specs.declared.clause.Item.{Item}
use Rattle.uc_clause.specs.declared.clause.Item.TheVariants as item
use Rattle.uc_clause.specs.declared.fault.ClauseFault.{ClauseFault}
use Rattle.uc_clause.specs.Parse.{Formula, Entry as Part, formula, inclusion}
use Rattle.uc_clause.specs.Meaning as clauses
use Rattle.uc_clause.proofs.Once.{tokens_once}
use Rattle.uc_clause.proofs.ItemsOnce.{name_is_once, item_is_once}
use Rattle.uc_fof.specs.declared.item.FofItem.{FofItem}
use Rattle.uc_fof.specs.declared.item.FofItem.TheVariants as fof
use Rattle.uc_fof.specs.Rules.{Outcome, read}
use Rattle.uc_fof.specs.Parse.{Stated, Entry, item as an_item, stated}
use Rattle.uc_fof.specs.Formulas.{Items}
use Rattle.uc_fof.specs.Meaning.{MeansStated, MeansItem, MeanItems, no_items, one_item}
use Rattle.uc_fof.specs.Reading.{ReadsFile}
use Rattle.uc_fof.proofs.FormulasOnce.{items_once}
use Rattle.uc_problem.specs.declared.counts.Counts.{Counts}
use Rattle.uc_problem.specs.declared.flat.FlatClause.{FlatClause}
use Rattle.uc_problem.specs.declared.fault.LoadFault.{LoadFault}
use Rattle.uc_problem.specs.Candidates.{folder_of}
use Rattle.uc_problem.specs.Loading.{gives_name, lists_name, same_name, first_missing, listed_or, selected, place_if, Loaded, before, all_before, LoadsFile, reads, refused, LoadsItems, LoadsProblem, no_fetch, no_problem, loads}
use Rattle.uc_problem.specs.Loading as loading
use Rattle.uc_problem.specs.Holds.{ReadsAs, Flattens}
use Rattle.uc_problem.specs.Refusing.{shape_of, shape, ReadsShapes}
use Rattle.uc_problem.proofs.ReadsOnce.{nothing_twice, refused_once, read_or_refused}

abbrev pub clause_shape : FlatClause → FlatClause
clause_shape s = record { file = s.file; clause = shape_of s.clause; conjecture = s.conjecture }

abbrev pub read_shape : Result (List FofItem) ClauseFault → Result (List FofItem) ClauseFault
read_shape (Ok is) = Ok (map shape is)
read_shape (Err e) = Err e

abbrev kept_shape : Result (List FlatClause) LoadFault → Result (List FlatClause) LoadFault
kept_shape (Ok cs) = Ok (map clause_shape cs)
kept_shape (Err e) = Err e

abbrev pub loaded_shape : Loaded → Loaded
loaded_shape (Ok r) = Ok (map clause_shape r.0, r.1)
loaded_shape (Err e) = Err e

before_shape : (s : FlatClause) (l : Loaded) → before (clause_shape s) (loaded_shape l) ≡ loaded_shape (before s l)
before_shape s (Ok r) = refl
before_shape s (Err e) = refl

all_before_shape : (cs : List FlatClause) (l : Loaded) → all_before (map clause_shape cs) (loaded_shape l) ≡ loaded_shape (all_before cs l)
all_before_shape cs (Ok r) = ap (λ ds. Ok (ds, r.1)) (sym (map-append clause_shape cs r.0))
all_before_shape cs (Err e) = refl

-- names of clauses stay
gives_shape : (cs : List FlatClause) (n : Name) → gives_name (map clause_shape cs) n ≡ gives_name cs n
gives_shape [] n = refl
gives_shape (c ∷ cs) n = ap (λ b. same_name c.clause.name n || b) (gives_shape cs n)

missing_shape : (cs : List FlatClause) (ns : List (Name × Place)) → first_missing (map clause_shape cs) ns ≡ first_missing cs ns
missing_shape cs [] = refl
missing_shape cs (n ∷ ns) = ap₂ (λ b r. if b then r else Some n) (gives_shape cs n.0) (missing_shape cs ns)

filter_shape : (keep : Name → Bool) (cs : List FlatClause) → filter (λ s. keep s.clause.name) (map clause_shape cs) ≡ map clause_shape (filter (λ s. keep s.clause.name) cs)
filter_shape keep [] = refl
filter_shape keep (c ∷ cs) = go (keep c.clause.name) (filter_shape keep cs)
  where
    go : (b : Bool) → filter (λ s. keep s.clause.name) (map clause_shape cs) ≡ map clause_shape (filter (λ s. keep s.clause.name) cs) → cond b (clause_shape c ∷ filter (λ s. keep s.clause.name) (map clause_shape cs)) (filter (λ s. keep s.clause.name) (map clause_shape cs)) ≡ map clause_shape (cond b (c ∷ filter (λ s. keep s.clause.name) cs) (filter (λ s. keep s.clause.name) cs))
    go true e = ap (λ ds. clause_shape c ∷ ds) e
    go false e = e

listed_shape : (file : List ℕ) (names : List (Name × Place)) (cs : List FlatClause) (m : Option (Name × Place)) → listed_or file names (map clause_shape cs) m ≡ kept_shape (listed_or file names cs m)
listed_shape file names cs None = ap Ok (filter_shape (lists_name names) cs)
listed_shape file names cs (Some m) = refl

selected_shape : (file : List ℕ) (names : Option (List (Name × Place))) (cs : List FlatClause) → selected file names (map clause_shape cs) ≡ kept_shape (selected file names cs)
selected_shape file None cs = refl
selected_shape file (Some names) cs = ap (listed_or file names (map clause_shape cs)) (missing_shape cs names) ∙ listed_shape file names cs (first_missing cs names)

-- in a table
module _ (t : Table) where
  as_shapes : (bytes : List ℕ) (r : Result (List FofItem) ClauseFault) → ReadsAs t bytes r → ReadsShapes bytes (read_shape r)
  as_shapes bytes (Ok items) r = (t, items, r, refl)
  as_shapes bytes (Err why) r = r

  module _ (files : Files) (failing : Option (List ℕ)) (folder : List ℕ) (root : Option (List ℕ)) where
    mutual
      pub file_shapes : {depth : ℕ} {name bytes : List ℕ} {counts : Counts} {l : Loaded} → LoadsFile (ReadsAs t) files failing folder root depth name bytes counts l → LoadsFile ReadsShapes files failing folder root depth name bytes counts (loaded_shape l)
      file_shapes (reads {bytes = bytes} {items = is} r h) = reads (as_shapes bytes (Ok is) r) (items_shapes h)
      file_shapes (refused r) = refused r

      items_shapes : {depth : ℕ} {name : List ℕ} {counts : Counts} {items : List FofItem} {l : Loaded} → LoadsItems (ReadsAs t) files failing folder root depth name counts items l → LoadsItems ReadsShapes files failing folder root depth name counts (map shape items) (loaded_shape l)
      items_shapes loading.no_item = loading.no_item
      items_shapes {depth} {name} {counts} {items} (loading.clause {c = c} {loaded = l} less h) = subst (LoadsItems ReadsShapes files failing folder root depth name counts (map shape items)) (before_shape (record { file = name; clause = c; conjecture = None }) l) (loading.clause less (items_shapes h))
      items_shapes {depth} {name} {counts} {items} (loading.formula {c = c} {conjecture = conjecture} {place = place} {loaded = l} less h) = subst (LoadsItems ReadsShapes files failing folder root depth name counts (map shape items)) (before_shape (record { file = name; clause = c; conjecture = place_if conjecture place }) l) (loading.formula less (items_shapes h))
      items_shapes (loading.too_many_clauses m) = loading.too_many_clauses m
      items_shapes (loading.too_many_formulas m) = loading.too_many_formulas m
      items_shapes (loading.too_deep m) = loading.too_deep m
      items_shapes (loading.too_many_files d m) = loading.too_many_files d m
      items_shapes (loading.fetch_fails d f tried e) = loading.fetch_fails d f tried e
      items_shapes (loading.absent d f e) = loading.absent d f e
      items_shapes (loading.stops_inside d f e h) = loading.stops_inside d f e (file_shapes h)
      items_shapes {name = name} (loading.misses_name {i = i} {given = given} d f e h s) = loading.misses_name d f e (file_shapes h) (selected_shape name i.names given ∙ ap kept_shape s)
      items_shapes {depth} {name} {counts} {items} (loading.includes {i = i} {given = given} {kept = kept} {loaded = l} d f e h s rest) = subst (LoadsItems ReadsShapes files failing folder root depth name counts (map shape items)) (all_before_shape kept l) (loading.includes d f e (file_shapes h) (selected_shape name i.names given ∙ ap kept_shape s) (items_shapes rest))

  pub problem_shapes : (files : Files) (failing : Option (List ℕ)) (root : Option (List ℕ)) (name : List ℕ) {l : Loaded} → LoadsProblem (ReadsAs t) files failing (folder_of name) root name l → LoadsProblem ReadsShapes files failing (folder_of name) root name (loaded_shape l)
  problem_shapes files failing root name (no_fetch e) = no_fetch e
  problem_shapes files failing root name (no_problem e) = no_problem e
  problem_shapes files failing root name (loads e h) = loads e (file_shapes files failing (folder_of name) root h)

  pub flat_shape : (files : Files) (root : Option (List ℕ)) (name : List ℕ) {l : Loaded} → Flattens t files root name l → LoadsProblem ReadsShapes files None (folder_of name) root name (loaded_shape l)
  flat_shape files root name x = problem_shapes files None root name x

-- a text comes to one list of shapes, or is refused for one reason
module _ (bytes : List ℕ) (tokens : List Token) (t u : Table) where
  clause_shape_once : (f : Formula) (c d : Clause) → clauses.MeansClause bytes tokens t f c → clauses.MeansClause bytes tokens u f d → shape_of c ≡ shape_of d
  clause_shape_once f c d a b =
      let names : c.name ≡ d.name = name_is_once bytes tokens f.heading.name c.name d.name a.name b.name in
      let roles : c.role ≡ d.role = a.role ∙ sym b.role in
      let signs : c.positive ≡ d.positive = a.positive ∙ sym b.positive in
      let places : c.places ≡ d.places = a.places ∙ sym b.places in
      let place : c.place ≡ d.place = a.place ∙ sym b.place in
      rw (names, roles, signs, places, place) refl

  part_shape_once : (part : Part) (i j : Item) → clauses.MeansItem bytes tokens t part i → clauses.MeansItem bytes tokens u part j → shape (fof.Item i) ≡ shape (fof.Item j)
  part_shape_once (formula f) (item.Clause c) (item.Clause d) m n = ap (λ x. fof.Item (item.Clause x)) (clause_shape_once f c d m n)
  part_shape_once (formula f) (item.Clause c) (item.Include j) m n = absurd n
  part_shape_once (formula f) (item.Include i) j m n = absurd m
  part_shape_once (inclusion k) (item.Include i) (item.Include j) m n = ap fof.Item (item_is_once bytes tokens [] nothing_twice (inclusion k) (item.Include i) (item.Include j) m n)
  part_shape_once (inclusion k) (item.Include i) (item.Clause d) m n = absurd n
  part_shape_once (inclusion k) (item.Clause c) j m n = absurd m

  stated_shape_once : (s : Stated) (c d : Clause) (p q : Bool) (h k : Place) → MeansStated bytes tokens t s c p h → MeansStated bytes tokens u s d q k → shape (fof.Formula c p h) ≡ shape (fof.Formula d q k)
  stated_shape_once s c d p q h k a b =
      let names : c.name ≡ d.name = name_is_once bytes tokens s.heading.name c.name d.name a.name b.name in
      let roles : c.role ≡ d.role = a.role ∙ sym b.role in
      let signs : c.positive ≡ d.positive = a.positive ∙ sym b.positive in
      let places : c.places ≡ d.places = a.places ∙ sym b.places in
      let place : c.place ≡ d.place = a.place ∙ sym b.place in
      let conjectures : p ≡ q = a.is_conjecture ∙ sym b.is_conjecture in
      let spots : h ≡ k = a.is_role_place ∙ sym b.is_role_place in
      rw (names, roles, signs, places, place, conjectures, spots) refl

  item_shape_once : (entry : Entry) (i j : FofItem) → MeansItem bytes tokens t entry i → MeansItem bytes tokens u entry j → shape i ≡ shape j
  item_shape_once (an_item part) (fof.Item i) (fof.Item j) m n = part_shape_once part i j m n
  item_shape_once (an_item part) (fof.Item i) (fof.Formula d q k) m n = absurd n
  item_shape_once (an_item part) (fof.Formula c p h) j m n = absurd m
  item_shape_once (stated s) (fof.Item i) j m n = absurd m
  item_shape_once (stated s) (fof.Formula c p h) (fof.Item j) m n = absurd n
  item_shape_once (stated s) (fof.Formula c p h) (fof.Formula d q k) m n = stated_shape_once s c d p q h k m n

  items_shape_once : {entries : List Entry} {is js : List FofItem} → MeanItems bytes tokens t entries is → MeanItems bytes tokens u entries js → map shape is ≡ map shape js
  items_shape_once no_items no_items = refl
  items_shape_once (one_item {entry = entry} {i = i} m ms) (one_item {i = j} n ns) = ap₂ (λ x xs. x ∷ xs) (item_shape_once entry i j m n) (items_shape_once ms ns)

same_entries : {ps qs : List Entry} {k l : ℕ} → Path (Outcome (List Entry)) (read ps k) (read qs l) → qs ≡ ps
same_entries e = cc

readings_shape_once : {bytes : List ℕ} {t u : Table} {is js : List FofItem} → ReadsFile bytes t is → ReadsFile bytes u js → map shape is ≡ map shape js
readings_shape_once {bytes} {t} {u} {is} {js} x y =
    let r = x.reads in
    let s = y.reads in
    let tokens : s.tokens ≡ r.tokens = tokens_once s.are_tokens r.are_tokens in
    let reads = subst (λ ts. Items bytes ts 0 (read s.entries s.end)) tokens s.reads in
    let entries : s.entries ≡ r.entries = same_entries (items_once bytes r.tokens 0 (read r.entries r.end) (read s.entries s.end) r.reads reads) in
    let means = subst (λ es. MeanItems bytes r.tokens u es js) entries (subst (λ ts. MeanItems bytes ts u s.entries js) tokens s.means) in
    items_shape_once bytes r.tokens t u r.means means

shapes_or_fault : {bytes : List ℕ} {shapes : List FofItem} {why : ClauseFault} → ReadsShapes bytes (Ok shapes) → ReadsShapes bytes (Err why) → ⊥
shapes_or_fault x y = read_or_refused x.2 y

pub shapes_once : (bytes : List ℕ) (a b : Result (List FofItem) ClauseFault) → ReadsShapes bytes a → ReadsShapes bytes b → a ≡ b
shapes_once bytes (Ok a) (Ok b) x y = ap Ok (x.3 ∙ readings_shape_once x.2 y.2 ∙ sym y.3)
shapes_once bytes (Ok a) (Err why) x y = absurd (shapes_or_fault {bytes = bytes} {shapes = a} {why = why} x y)
shapes_once bytes (Err why) (Ok b) x y = absurd (shapes_or_fault {bytes = bytes} {shapes = b} {why = why} y x)
shapes_once bytes (Err why) (Err other) x y = ap Err (refused_once x y)
