-- What is read of a conjecture: its clause is no equation, and has no more than 8,192 variables.
use Rattle.std.proofs.Common.{◌≡◌, ℕ, ◌+◌, ◌≤◌, Bool, true, false, not, cond, List, [], ◌∷◌, ◌++◌, filter, length, length-append, bytes_eq, Option, Some, None, Ok, Err, if◌then◌else◌, refl, sym, ap, ◌∙◌, subst, arith}
use Rattle.std.specs.List.{list_any}
use Rattle.std.proofs.Math.Nat.{max-le}
use Rattle.std.proofs.lemmas.List.{length-map}
use Rattle.std.proofs.lemmas.Option.{slice_get_within}
use Rattle.uc_term.specs.declared.node.Node.{Node}
use Rattle.uc_term.specs.declared.node.Node.TheVariants.{Var, App}
use Rattle.uc_term.specs.Tree.{Tree, Trees}
use Rattle.uc_term.specs.Flat.{flat, flat_all}
use Rattle.uc_term.specs.Table.{Table}
use Rattle.uc_edge.specs.Files.{Files}
use Rattle.uc_clause.specs.declared.token.Token.{Token}
use Rattle.uc_clause.specs.declared.token.Place.{Place}
use Rattle.uc_clause.specs.declared.clause.Name.{Name}
use Rattle.uc_clause.specs.declared.clause.Clause.{Clause}
use Rattle.uc_clause.specs.declared.terminal.Terminal.{Terminal}
use Rattle.uc_clause.specs.declared.terminal.Terminal.TheVariants.{Equal}
use Rattle.uc_clause.specs.declared.grammar.stop.Why.TheVariants.{NoSign}
use Rattle.uc_clause.specs.Terminals.{terminal_at, bytes_at}
use Rattle.uc_clause.specs.Parse.{Parse, Parses, applied, also, size, size_all, variables, variables_all, Sides, Literal}
use Rattle.uc_clause.specs.Parse as clauses
use Rattle.uc_clause.specs.Meaning.{Variables, with_name, with_names, variables_in, variables_of, Means, variable_means, functor_means, MeanAll, none_mean, more_mean}
use Rattle.uc_fof.specs.declared.stop.Reason.{Reason}
use Rattle.uc_fof.specs.declared.stop.Reason.TheVariants.{Inside}
use Rattle.uc_fof.specs.declared.heading.FormulaRole.{FormulaRole}
use Rattle.uc_fof.specs.declared.heading.FormulaRole.TheVariants.{Conjecture, OfClause}
use Rattle.uc_fof.specs.declared.item.FofItem.{FofItem}
use Rattle.uc_fof.specs.declared.item.FofItem.TheVariants as fof
use Rattle.uc_fof.specs.Rules.{Outcome, read, stop, mapped, read_or_stop, goes_on, stops_first, is_first, is_second}
use Rattle.uc_fof.specs.Parse.{Stated, Entry, item as an_item, stated}
use Rattle.uc_fof.specs.Terms.{Term, Args, is_variable, is_free, is_constant, is_applied, is_node_too_many, is_no_term, stops_in_it, is_last, is_followed, is_one_too_many, is_followed_by_neither}
use Rattle.uc_fof.specs.Formulas as formulas
use Rattle.uc_fof.specs.Formulas.{sign_by, is_conjecture}
use Rattle.uc_fof.specs.Meaning.{clause_sign, MeansStated, MeansItem, MeanItems, no_items, one_item}
use Rattle.uc_fof.specs.Reading.{ReadsFile}
use Rattle.uc_problem.specs.declared.counts.Counts.{Counts}
use Rattle.uc_problem.specs.declared.flat.FlatClause.{FlatClause}
use Rattle.uc_problem.specs.Candidates.{folder_of}
use Rattle.uc_problem.specs.Conjecture.{variables_below, variable_count}
use Rattle.uc_problem.specs.Holds.{ReadsAs, Flattens}
use Rattle.uc_problem.specs.Loading.{lists_name, first_missing, listed_or, selected, place_if, Loaded, before, all_before, LoadsFile, LoadsItems, LoadsProblem}
use Rattle.uc_problem.specs.Loading as loading
use Rattle.uc_problem.proofs.Outcomes.{is_ok_once}

-- terms that are read have no more than 4,096 nodes
abbrev FitsTerm : ℕ → Outcome Parse → Type 0
FitsTerm used (read p end) = used + size p ≤ 4096
FitsTerm used (stop reason k) = Unit {0}

abbrev FitsArgs : ℕ → Outcome Parses → Type 0
FitsArgs used (read ps end) = used + size_all ps ≤ 4096
FitsArgs used (stop reason k) = Unit {0}

fits_applied : (used at : ℕ) (o : Outcome Parses) → FitsArgs (used + 1) o → FitsTerm used (mapped (applied at) o)
fits_applied used at (read ps end) h = omega arith
fits_applied used at (stop reason k) h = tt

fits_also : (used : ℕ) (p : Parse) (o : Outcome Parses) → FitsArgs (used + size p) o → FitsArgs used (mapped (also p) o)
fits_also used p (read ps end) h = omega arith
fits_also used p (stop reason k) h = tt

module _ (bytes : List ℕ) (tokens : List Token) where
  module _ {conjecture : Bool} {bound : Variables} where
    mutual
      fits_term : {used at : ℕ} {o : Outcome Parse} → Term bytes tokens conjecture bound used at o → FitsTerm used o
      fits_term (is_variable h room among) = omega arith
      fits_term (is_free h room free) = tt
      fits_term (is_constant h room alone) = omega arith
      fits_term (is_applied {used = used} {at = at} {outcome = o} h room bracket args) = fits_applied used at o (fits_args args)
      fits_term (is_node_too_many h full) = tt
      fits_term (is_no_term h) = tt

      fits_args : {functor number used at : ℕ} {o : Outcome Parses} → Args bytes tokens conjecture bound functor number used at o → FitsArgs used o
      fits_args (stops_in_it t) = tt
      fits_args (is_last t close) = let h = fits_term t in omega arith
      fits_args (is_followed {used = used} {p = p} {outcome = o} t comma few args) = fits_also used p o (fits_args args)
      fits_args (is_one_too_many t comma many) = tt
      fits_args (is_followed_by_neither t close comma) = tt

  -- a literal of a conjecture is an equation
  record IsEquation (l : Literal) : Type 0 where
    positive : l.positive ≡ true
    left : size l.sides.left ≤ 4096
    right : size l.sides.right ≤ 4096

  abbrev ReadsEquation : Outcome Literal → Type 0
  ReadsEquation (read l end) = IsEquation l
  ReadsEquation (stop reason k) = Unit {0}

  only_equal : (t : Terminal) (b : Bool) → sign_by true t ≡ Some b → b ≡ true
  only_equal Equal b e = cc
  only_equal t b e = absurd cc

  picked : (reason : Reason) (value : Option Bool) (at : ℕ) (b : Bool) (end : ℕ) → read b end ≡ read_or_stop reason value at → value ≡ Some b
  picked reason (Some c) at b end e = cc
  picked reason None at b end e = absurd cc

  side_fits : (bound : Variables) (positive : Bool) (at end : ℕ) (p : Parse) → formulas.side_behind bytes tokens true bound positive at (read p end) → size p ≤ 4096
  side_fits bound true at end p (is_first g x) = absurd cc
  side_fits bound true at end p (is_second g x) = let h = fits_term x in omega arith
  side_fits bound false at end p x = let h = fits_term x in omega arith

  equation_read : {bound : Variables} {at : ℕ} {o : Outcome Literal} → formulas.equation bytes tokens true bound at o → ReadsEquation o
  equation_read {bound} {o = o} (goes_on {v = first} h (goes_on {v = left} {middle = one} x (goes_on {v = positive} {middle = two} s (goes_on {v = right} {middle = three} y g)))) =
      let value = picked (Inside true (NoSign first)) (sign_by true (terminal_at bytes tokens one)) one positive two s in
      let left_fits = fits_term x in
      let all : IsEquation (record { positive = positive; sides = record { left = left; right = right } }) = record { positive = only_equal (terminal_at bytes tokens one) positive value; left = omega (arith, left_fits); right = side_fits bound positive two three right y } in
      subst ReadsEquation (sym g) all
  equation_read (goes_on h (goes_on x (goes_on s (stops_first y)))) = tt
  equation_read (goes_on h (goes_on x (stops_first s))) = tt
  equation_read (goes_on h (stops_first x)) = tt
  equation_read (stops_first h) = tt

  literal_read : {bound : Variables} {at : ℕ} {o : Outcome Literal} → formulas.literal bytes tokens true bound at o → ReadsEquation o
  literal_read (is_first d x) = absurd cc
  literal_read (is_second n x) = equation_read x

  formula_read : {conjecture : Bool} {brackets at : ℕ} {bound : Variables} {o : Outcome Literal} → formulas.Formula bytes tokens conjecture brackets bound at o → conjecture ≡ true → ReadsEquation o
  formula_read {o = o} (formulas.is_bare {at = at} {bound = bound} n b q l) e = literal_read (subst (λ c. formulas.literal bytes tokens c bound at o) e l)
  formula_read (formulas.is_bracketed o few f c) e = formula_read f e
  formula_read (formulas.is_not_closed o few f c) e = tt
  formula_read (formulas.stops_in_brackets o few f) e = tt
  formula_read (formulas.is_too_deep o deep) e = tt
  formula_read (formulas.is_quantified n m q f) e = formula_read f e
  formula_read (formulas.stops_in_quantifier n m q) e = tt
  formula_read (formulas.is_unread n q) e = tt

  -- so is that of each entry that is one
  abbrev IsStated : Stated → Type 0
  IsStated s = is_conjecture s.heading.role ≡ true → IsEquation s.literal

  abbrev IsEntry : Entry → Type 0
  IsEntry (an_item e) = Unit {0}
  IsEntry (stated s) = IsStated s

  abbrev AreEntries : List Entry → Type 0
  AreEntries [] = Unit {0}
  AreEntries (e ∷ es) = IsEntry e × AreEntries es

  abbrev ReadsStated : Outcome Stated → Type 0
  ReadsStated (read s end) = IsStated s
  ReadsStated (stop reason k) = Unit {0}

  abbrev ReadsEntry : Outcome Entry → Type 0
  ReadsEntry (read e end) = IsEntry e
  ReadsEntry (stop reason k) = Unit {0}

  abbrev ReadsEntries : Outcome (List Entry) → Type 0
  ReadsEntries (read es end) = AreEntries es
  ReadsEntries (stop reason k) = Unit {0}

  stated_read : {at : ℕ} {o : Outcome Stated} → formulas.fof bytes tokens at o → ReadsStated o
  stated_read (goes_on {v = heading} h (goes_on {v = literal} l (goes_on n (goes_on d g)))) =
      let all : IsStated (record { heading = heading; literal = literal }) = λ e. formula_read l e in
      subst ReadsStated (sym g) all
  stated_read (goes_on h (goes_on l (goes_on n (stops_first d)))) = tt
  stated_read (goes_on h (goes_on l (stops_first n))) = tt
  stated_read (goes_on h (stops_first l)) = tt
  stated_read (stops_first h) = tt

  as_stated : (o : Outcome Stated) → ReadsStated o → ReadsEntry (mapped stated o)
  as_stated (read s end) h = h
  as_stated (stop reason k) h = tt

  as_item : (o : Outcome clauses.Entry) → ReadsEntry (mapped an_item o)
  as_item (read e end) = tt
  as_item (stop reason k) = tt

  entry_read : {at : ℕ} {o : Outcome Entry} → formulas.Item bytes tokens at o → ReadsEntry o
  entry_read (formulas.is_stated {outcome = o} b x) = as_stated o (stated_read x)
  entry_read (formulas.is_item {outcome = o} b x) = as_item o

  more_entries : (e : Entry) (o : Outcome (List Entry)) → IsEntry e → ReadsEntries o → ReadsEntries (mapped (λ es. e ∷ es) o)
  more_entries e (read es end) h k = (h, k)
  more_entries e (stop reason k) h l = tt

  entries_read : {at : ℕ} {o : Outcome (List Entry)} → formulas.Items bytes tokens at o → ReadsEntries o
  entries_read (formulas.is_end e) = tt
  entries_read (formulas.has_item {entry = e} {outcome = o} n x rest) = more_entries e o (entry_read x) (entries_read rest)
  entries_read (formulas.stops_in_item n x) = tt

  -- variables are numbered below the number of their names
  module _ (table : Table) (seen : Variables) where
    below-append : (ns ms : List Node) (k : ℕ) → variables_below ns ≤ k → variables_below ms ≤ k → variables_below (ns ++ ms) ≤ k
    below-append [] ms k h l = l
    below-append (Var x ∷ ns) ms k h l = omega (arith, below-append ns ms k (omega arith) l)
    below-append (App f n ∷ ns) ms k h l = below-append ns ms k h l

    mutual
      means_below : {p : Parse} {t : Tree} → Means bytes tokens table seen p t → variables_below (flat t) ≤ length seen
      means_below (variable_means {n = n} e) = let h = slice_get_within seen n _ e in omega (arith, h)
      means_below (functor_means s ms) = mean_all_below ms

      mean_all_below : {ps : Parses} {ts : Trees} → MeanAll bytes tokens table seen ps ts → variables_below (flat_all ts) ≤ length seen
      mean_all_below none_mean = omega arith
      mean_all_below (more_mean {t = t} {ts = ts} m ms) = below-append (flat t) (flat_all ts) (length seen) (means_below m) (mean_all_below ms)

  with_name_few : (seen : Variables) (x : List ℕ) → length (with_name seen x) ≤ length seen + 1
  with_name_few seen x = go (list_any (bytes_eq x) seen)
    where
      go : (b : Bool) → length (if b then seen else seen ++ x ∷ []) ≤ length seen + 1
      go true = omega arith
      go false = omega (arith, length-append seen (x ∷ []))

  with_names_few : (seen : Variables) (xs : List (List ℕ)) → length (with_names seen xs) ≤ length seen + length xs
  with_names_few seen [] = omega arith
  with_names_few seen (x ∷ xs) = omega (arith, with_names_few (with_name seen x) xs, with_name_few seen x)

  mutual
    variables_few : (p : Parse) → length (variables p) ≤ size p
    variables_few (clauses.variable k) = omega arith
    variables_few (applied k ps) = omega (arith, all_variables_few ps)

    all_variables_few : (ps : Parses) → length (variables_all ps) ≤ size_all ps
    all_variables_few clauses.no_more = omega arith
    all_variables_few (also p ps) = omega (arith, length-append (variables p) (variables_all ps), variables_few p, all_variables_few ps)

  names_few : (s : Sides) → length (variables_of bytes tokens s) ≤ size s.left + size s.right
  names_few s =
      let left = length-map (variables s.left) (bytes_at bytes tokens) in
      let right = length-map (variables s.right) (bytes_at bytes tokens) in
      let first : Variables = with_names [] (variables_in bytes tokens s.left) in
      omega (arith, left, right, with_names_few [] (variables_in bytes tokens s.left), with_names_few first (variables_in bytes tokens s.right), variables_few s.left, variables_few s.right)

-- a clause that denies an equation of no more variables than two terms may have
pub record IsDenial (c : Clause) : Type 0 where
  pub negative : c.positive ≡ false
  pub few : variable_count c ≤ 8192

-- such a clause stands where a conjecture does
abbrev pub IsDenied : FofItem → Type 0
IsDenied (fof.Item i) = Unit {0}
IsDenied (fof.Formula c conjecture place) = conjecture ≡ true → IsDenial c

abbrev pub AreAllDenied : List FofItem → Type 0
AreAllDenied [] = Unit {0}
AreAllDenied (i ∷ is) = IsDenied i × AreAllDenied is

module _ (bytes : List ℕ) (tokens : List Token) (table : Table) where
  denied_sign : (role : FormulaRole) (positive : Bool) → is_conjecture role ≡ true → positive ≡ true → clause_sign role positive ≡ false
  denied_sign Conjecture positive e p = ap not p
  denied_sign (OfClause role) positive e p = absurd cc

  stated_denied : (s : Stated) (c : Clause) (conjecture : Bool) (place : Place) → MeansStated bytes tokens table s c conjecture place → IsStated bytes tokens s → conjecture ≡ true → IsDenial c
  stated_denied s c conjecture place m is e =
      let role : is_conjecture s.heading.role ≡ true = sym m.is_conjecture ∙ e in
      let equation = is role in
      let seen : Variables = variables_of bytes tokens s.literal.sides in
      let names : length seen ≤ 8192 = omega (arith, names_few bytes tokens s.literal.sides, equation.left, equation.right) in
      let left : variables_below (flat c.left) ≤ 8192 = omega (arith, means_below bytes tokens table seen m.sides.means_left, names) in
      let right : variables_below (flat c.right) ≤ 8192 = omega (arith, means_below bytes tokens table seen m.sides.means_right, names) in
      record { negative = m.positive ∙ denied_sign s.heading.role s.literal.positive role equation.positive; few = max-le left right }

  item_denied : (entry : Entry) (i : FofItem) → MeansItem bytes tokens table entry i → IsEntry bytes tokens entry → IsDenied i
  item_denied (an_item e) (fof.Item i) m is = tt
  item_denied (an_item e) (fof.Formula c conjecture place) m is = absurd m
  item_denied (stated s) (fof.Item i) m is = absurd m
  item_denied (stated s) (fof.Formula c conjecture place) m is = stated_denied s c conjecture place m is

  items_denied : {entries : List Entry} {items : List FofItem} → MeanItems bytes tokens table entries items → AreEntries bytes tokens entries → AreAllDenied items
  items_denied no_items are = tt
  items_denied (one_item {entry = entry} {i = i} m ms) are = (item_denied entry i m are.0, items_denied ms are.1)

file_denied : (bytes : List ℕ) (table : Table) (items : List FofItem) → ReadsFile bytes table items → AreAllDenied items
file_denied bytes table items r = items_denied bytes r.reads.tokens table r.reads.means (entries_read bytes r.reads.tokens r.reads.reads)

-- so it is with clauses in flat order
abbrev pub DeniedIf : Option Place → Clause → Type 0
DeniedIf None c = Unit {0}
DeniedIf (Some place) c = IsDenial c

abbrev pub AreDenied : List FlatClause → Type 0
AreDenied [] = Unit {0}
AreDenied (s ∷ ss) = DeniedIf s.conjecture s.clause × AreDenied ss

abbrev AreLoaded : Loaded → Type 0
AreLoaded (Ok r) = AreDenied r.0
AreLoaded (Err why) = Unit {0}

denied_if : (conjecture : Bool) (place : Place) (c : Clause) → (conjecture ≡ true → IsDenial c) → DeniedIf (place_if conjecture place) c
denied_if true place c h = h refl
denied_if false place c h = tt

before_denied : (s : FlatClause) (l : Loaded) → DeniedIf s.conjecture s.clause → AreLoaded l → AreLoaded (before s l)
before_denied s (Ok r) h k = (h, k)
before_denied s (Err why) h k = tt

denied-append : (ss ts : List FlatClause) → AreDenied ss → AreDenied ts → AreDenied (ss ++ ts)
denied-append [] ts h k = k
denied-append (s ∷ ss) ts h k = (h.0, denied-append ss ts h.1 k)

all_before_denied : (ss : List FlatClause) (l : Loaded) → AreDenied ss → AreLoaded l → AreLoaded (all_before ss l)
all_before_denied ss (Ok r) h k = denied-append ss r.0 h k
all_before_denied ss (Err why) h k = tt

denied-filter : (keep : FlatClause → Bool) (ss : List FlatClause) → AreDenied ss → AreDenied (filter keep ss)
denied-filter keep [] h = tt
denied-filter keep (s ∷ ss) h = go (keep s) (denied-filter keep ss h.1)
  where
    go : (b : Bool) → AreDenied (filter keep ss) → AreDenied (cond b (s ∷ filter keep ss) (filter keep ss))
    go true k = (h.0, k)
    go false k = k

listed_denied : (file : List ℕ) (names : List (Name × Place)) (given kept : List FlatClause) (missing : Option (Name × Place)) → listed_or file names given missing ≡ Ok kept → AreDenied given → AreDenied kept
listed_denied file names given kept None e h = subst AreDenied (is_ok_once refl e) (denied-filter (λ s. lists_name names s.clause.name) given h)
listed_denied file names given kept (Some missing) e h = absurd cc

selected_denied : (file : List ℕ) (names : Option (List (Name × Place))) (given kept : List FlatClause) → selected file names given ≡ Ok kept → AreDenied given → AreDenied kept
selected_denied file None given kept e h = subst AreDenied (is_ok_once refl e) h
selected_denied file (Some names) given kept e h = listed_denied file names given kept (first_missing given names) e h

module _ (table : Table) (files : Files) (failing : Option (List ℕ)) (folder : List ℕ) (root : Option (List ℕ)) where
  mutual
    file_loads : {depth : ℕ} {name bytes : List ℕ} {counts : Counts} {l : Loaded} → LoadsFile (ReadsAs table) files failing folder root depth name bytes counts l → AreLoaded l
    file_loads (loading.reads {bytes = bytes} {items = items} r h) = items_load (file_denied bytes table items r) h
    file_loads (loading.refused r) = tt

    items_load : {depth : ℕ} {name : List ℕ} {counts : Counts} {items : List FofItem} {l : Loaded} → AreAllDenied items → LoadsItems (ReadsAs table) files failing folder root depth name counts items l → AreLoaded l
    items_load d loading.no_item = tt
    items_load {name = name} d (loading.clause {c = c} {loaded = l} less h) = before_denied (record { file = name; clause = c; conjecture = None }) l tt (items_load d.1 h)
    items_load {name = name} d (loading.formula {c = c} {conjecture = conjecture} {place = place} {loaded = l} less h) = before_denied (record { file = name; clause = c; conjecture = place_if conjecture place }) l (denied_if conjecture place c d.0) (items_load d.1 h)
    items_load d (loading.too_many_clauses m) = tt
    items_load d (loading.too_many_formulas m) = tt
    items_load d (loading.too_deep m) = tt
    items_load d (loading.too_many_files e m) = tt
    items_load d (loading.fetch_fails e f tried g) = tt
    items_load d (loading.absent e f g) = tt
    items_load d (loading.stops_inside e f g h) = tt
    items_load d (loading.misses_name e f g h s) = tt
    items_load {name = name} d (loading.includes {i = i} {given = given} {kept = kept} {loaded = l} e f g h s rest) = all_before_denied kept l (selected_denied name i.names given kept s (file_loads h)) (items_load d.1 rest)

pub flats_denied : (table : Table) (files : Files) (root : Option (List ℕ)) (name : List ℕ) (flats : List FlatClause) (counts : Counts) → Flattens table files root name (Ok (flats, counts)) → AreDenied flats
flats_denied table files root name flats counts (loading.loads e h) = file_loads table files None (folder_of name) root h
