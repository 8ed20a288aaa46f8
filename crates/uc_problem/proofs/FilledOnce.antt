-- The table that loading a problem leaves is one, where no entry stands in it twice, and so is the problem.
use Rattle.std.proofs.Common.{◌≡◌, ℕ, zero, suc, List, [], ◌∷◌, ◌==◌, Bool, true, false, if◌then◌else◌, Option, Some, None, Result, Ok, refl, sym, ap, ◌∙◌, subst}
use Rattle.uc_term.specs.declared.node.Sym.{Sym}
use Rattle.uc_term.specs.declared.signature.Signature.{Signature}
use Rattle.uc_term.specs.declared.fault.TermFault.{TermFault}
use Rattle.uc_term.specs.Tree.{Tree}
use Rattle.uc_term.specs.Table.{Table, Has, IsDistinct, Grows, name_of, arity_of}
use Rattle.uc_term.specs.Gathering.{HasAll, AreOf}
use Rattle.uc_term.specs.Signatures.{Occurrence, occurrences_of, Gathers, all_seen, seen_before, is_new, first_named, first_constant, Completes, has_constant, gets_constant, IsSignatureOf, least_word}
use Rattle.uc_term.proofs.Grown.{AllHave, have_from, gathers-grows, first_named-grows, first_constant-grows, name-grows}
use Rattle.uc_edge.specs.Files.{Files}
use Rattle.uc_clause.specs.declared.token.Token.{Token}
use Rattle.uc_clause.specs.declared.token.Place.{Place}
use Rattle.uc_clause.specs.declared.clause.Clause.{Clause}
use Rattle.uc_clause.specs.declared.clause.Include.{Include}
use Rattle.uc_clause.specs.declared.clause.Item.{Item}
use Rattle.uc_clause.specs.declared.clause.Item.TheVariants as item
use Rattle.uc_clause.specs.declared.clause.Sourced.{Sourced}
use Rattle.uc_clause.specs.Parse.{Entry as Part, formula, inclusion}
use Rattle.uc_clause.specs.Meaning as clauses
use Rattle.uc_clause.proofs.Once.{tokens_once}
use Rattle.uc_fof.specs.declared.item.FofItem.{FofItem}
use Rattle.uc_fof.specs.declared.item.FofItem.TheVariants as fof
use Rattle.uc_fof.specs.Rules.{Outcome, read}
use Rattle.uc_fof.specs.Parse.{Entry, item as an_item, stated}
use Rattle.uc_fof.specs.Formulas.{Items}
use Rattle.uc_fof.specs.Meaning.{MeansItem, MeanItems, no_items, one_item}
use Rattle.uc_fof.specs.Reading.{ReadsFile}
use Rattle.uc_fof.proofs.FormulasOnce.{items_once}
use Rattle.uc_fof.proofs.Whole.{table_once}
use Rattle.uc_problem.specs.declared.flat.FlatClause.{FlatClause}
use Rattle.uc_problem.specs.declared.problem.Problem.{Problem}
use Rattle.uc_problem.specs.Candidates.{candidates, folder_of}
use Rattle.uc_problem.specs.Loading.{first_held}
use Rattle.uc_problem.specs.Conjecture.{flat_terms, AreClosed}
use Rattle.uc_problem.specs.Holds.{Flattens, Agrees, terms_of}
use Rattle.uc_problem.specs.Filling.{FillsFile, fills_file, FillsItems, no_item_fills, clause_fills, formula_fills, include_fills, FillsProblem, AddsOne, AddsAll, FillsClosed, IsFilled}
use Rattle.uc_problem.proofs.Later.{Grows-refl}
use Rattle.uc_problem.proofs.Growth.{terms_later, pushed}
use Rattle.uc_problem.proofs.Outcomes.{some_once, some_or_none, ok_once, second_once}
use Rattle.uc_problem.proofs.SignatureOnce.{gathers_once}
use Rattle.uc_problem.proofs.HoldsOnce.{flats_once, agrees_once}
use Rattle.uc_problem.proofs.AddedOnce.{distinct_earlier, adds_grows, known_adds_nothing, adds_once}
use Rattle.uc_problem.proofs.ClosedOnce.{closed_once, constants_alike, taken_alike, adds_all_grows, adds_all_once, closed_of}

-- items that are alike in what they include: a clause stands where a clause does, a formula where a formula does, and an include where
-- one of the same file does
pub data ItemsAlike : List FofItem → List FofItem → Type 0 where
  none_alike : ItemsAlike [] []
  clauses_alike : {c d : Clause} {is js : List FofItem} → ItemsAlike is js → ItemsAlike (fof.Item (item.Clause c) ∷ is) (fof.Item (item.Clause d) ∷ js)
  formulas_alike : {c d : Clause} {p q : Bool} {h k : Place} {is js : List FofItem} → ItemsAlike is js → ItemsAlike (fof.Formula c p h ∷ is) (fof.Formula d q k ∷ js)
  includes_alike : {i j : Include} {is js : List FofItem} → i.file ≡ j.file → ItemsAlike is js → ItemsAlike (fof.Item (item.Include i) ∷ is) (fof.Item (item.Include j) ∷ js)

-- what one text says is alike in any two tables
module _ (bytes : List ℕ) (tokens : List Token) (t u : Table) where
  part_alike : (part : Part) (i j : Item) {is js : List FofItem} → clauses.MeansItem bytes tokens t part i → clauses.MeansItem bytes tokens u part j → ItemsAlike is js → ItemsAlike (fof.Item i ∷ is) (fof.Item j ∷ js)
  part_alike (formula f) (item.Clause c) (item.Clause d) m n a = clauses_alike a
  part_alike (formula f) (item.Clause c) (item.Include j) m n a = absurd n
  part_alike (formula f) (item.Include i) j m n a = absurd m
  part_alike (inclusion k) (item.Include i) (item.Include j) m n a = includes_alike (m.file ∙ sym n.file) a
  part_alike (inclusion k) (item.Include i) (item.Clause d) m n a = absurd n
  part_alike (inclusion k) (item.Clause c) j m n a = absurd m

  item_alike : (entry : Entry) (i j : FofItem) {is js : List FofItem} → MeansItem bytes tokens t entry i → MeansItem bytes tokens u entry j → ItemsAlike is js → ItemsAlike (i ∷ is) (j ∷ js)
  item_alike (an_item part) (fof.Item i) (fof.Item j) m n a = part_alike part i j m n a
  item_alike (an_item part) (fof.Item i) (fof.Formula d q k) m n a = absurd n
  item_alike (an_item part) (fof.Formula c p h) j m n a = absurd m
  item_alike (stated s) (fof.Item i) j m n a = absurd m
  item_alike (stated s) (fof.Formula c p h) (fof.Item j) m n a = absurd n
  item_alike (stated s) (fof.Formula c p h) (fof.Formula d q k) m n a = formulas_alike a

  items_alike : {entries : List Entry} {is js : List FofItem} → MeanItems bytes tokens t entries is → MeanItems bytes tokens u entries js → ItemsAlike is js
  items_alike no_items no_items = none_alike
  items_alike (one_item {entry = entry} {i = i} m ms) (one_item {i = j} n ns) = item_alike entry i j m n (items_alike ms ns)

same_entries : {ps qs : List Entry} {k l : ℕ} → Path (Outcome (List Entry)) (read ps k) (read qs l) → qs ≡ ps
same_entries e = cc

pub readings_alike : {bytes : List ℕ} {t u : Table} {is js : List FofItem} → ReadsFile bytes t is → ReadsFile bytes u js → ItemsAlike is js
readings_alike {bytes} {t} {u} {is} {js} x y =
    let r = x.reads in
    let s = y.reads in
    let tokens : s.tokens ≡ r.tokens = tokens_once s.are_tokens r.are_tokens in
    let reads = subst (λ ts. Items bytes ts 0 (read s.entries s.end)) tokens s.reads in
    let entries : s.entries ≡ r.entries = same_entries (items_once bytes r.tokens 0 (read r.entries r.end) (read s.entries s.end) r.reads reads) in
    let means = subst (λ es. MeanItems bytes r.tokens u es js) entries (subst (λ ts. MeanItems bytes ts u s.entries js) tokens s.means) in
    items_alike bytes r.tokens t u r.means means

-- the files fill the table in one way
content_once : {o : Option (List ℕ × List ℕ)} {a b c d : List ℕ} → o ≡ Some (a, b) → o ≡ Some (c, d) → b ≡ d
content_once e f = second_once (some_once e f)

module _ (files : Files) (folder : List ℕ) (root : Option (List ℕ)) where
  abbrev File : List ℕ → Table → Table → Type 0
  File = FillsFile files folder root

  abbrev All : List FofItem → Table → Table → Type 0
  All = FillsItems files folder root

  -- under one name one content is found
  included_once : (name another : List ℕ) {found other content others : List ℕ} → name ≡ another → first_held files (candidates folder root name) ≡ Some (found, content) → first_held files (candidates folder root another) ≡ Some (other, others) → others ≡ content
  included_once name another same e f = content_once f (ap (λ n. first_held files (candidates folder root n)) (sym same) ∙ e)

  mutual
    pub file_fills_once : {bytes : List ℕ} {old a b : Table} → File bytes old a → File bytes old b → a ≡ b
    file_fills_once {bytes} {old} {b = b} (fills_file {read = t} {items = is} i r x) (fills_file {read = u} {items = js} k s y) = items_fill_once (readings_alike r s) x (subst (λ table. All js table b) (table_once bytes old u t k i) y)

    pub items_fill_once : {is js : List FofItem} {old a b : Table} → ItemsAlike is js → All is old a → All js old b → a ≡ b
    items_fill_once none_alike no_item_fills no_item_fills = refl
    items_fill_once (clauses_alike alike) (clause_fills x) (clause_fills y) = items_fill_once alike x y
    items_fill_once (formulas_alike alike) (formula_fills x) (formula_fills y) = items_fill_once alike x y
    items_fill_once {old = old} {b = b} (includes_alike {i = i} {j = j} {js = js} same alike) (include_fills e x xs) (include_fills {middle = middle} f y ys) =
        let middles = file_fills_once x (subst (λ bytes. File bytes old middle) (included_once i.file j.file same e f) y) in
        items_fill_once alike xs (subst (λ table. All js table b) (sym middles) ys)

module _ (files : Files) (root : Option (List ℕ)) (name : List ℕ) where
  pub problem_fills_once : {old a b : Table} → FillsProblem files root name old a → FillsProblem files root name old b → a ≡ b
  problem_fills_once {old} {b = b} x y = file_fills_once files (folder_of name) root x.fills (subst (λ bytes. FillsFile files (folder_of name) root bytes old b) (some_once y.is_held x.is_held) y.fills)

-- occurrences over the old table came to the same in it
module _ (old new : Table) (grows : Grows old new) where
  gathers_earlier : {seen : List Sym} {os : List Occurrence} {fs : List Sym} {r : Result (List Sym) TermFault} → Gathers new seen os r → r ≡ Ok fs → HasAll old seen → AllHave old new grows os → Gathers old seen os (Ok fs)
  gathers_earlier {seen = seen} {fs = fs} all_seen e h a = let same : seen ≡ fs = cc in rw (← same) all_seen
  gathers_earlier (seen_before k g) e h a = seen_before k (gathers_earlier g e h a.1)
  gathers_earlier {seen = seen} (is_new {o = o} n m g) e h a =
      is_new (sym (first_named-grows old new grows seen (name_of old o.symbol) h) ∙ sym (ap (λ n. first_named new n seen) (name-grows old new grows o.symbol a.0)) ∙ n) m (gathers_earlier g e (pushed old new grows seen o.symbol h a.0) a.1)
  gathers_earlier v e h a = absurd cc

  pub all_gather_earlier : (ts : List Tree) (fs : List Sym) → AreOf old ts → Gathers new [] (occurrences_of ts) (Ok fs) → Gathers old [] (occurrences_of ts) (Ok fs)
  all_gather_earlier ts fs of g = gathers_earlier g refl (λ i f e. absurd cc) (have_from old new grows ts 0 of)

all_gathered_has : (table : Table) (ts : List Tree) (fs : List Sym) → AreOf table ts → Gathers table [] (occurrences_of ts) (Ok fs) → HasAll table fs
all_gathered_has table ts fs of g = let r = gathers-grows table table (Grows-refl table) g refl (λ i f e. absurd cc) (have_from table table (Grows-refl table) ts 0 of) in r.1

constant_has : (table : Table) (fs : List Sym) (c : Sym) → HasAll table fs → first_constant table fs ≡ Some c → Has table c
constant_has table [] c has e = absurd cc
constant_has table (f ∷ fs) c has e = go (arity_of table f == 0) e (constant_has table fs c (λ i x q. has (suc i) x q))
  where
    go : (b : Bool) → (if b then Some f else first_constant table fs) ≡ Some c → (first_constant table fs ≡ Some c → Has table c) → Has table c
    go true e later = let same : f ≡ c = cc in subst (Has table) same (has zero f refl)
    go false e later = later e

-- the least constant makes one table of the flat one
module _ (flat : Table) (fs : List Sym) (has : HasAll flat fs) where
  module _ (new : Table) (distinct : IsDistinct new) (grows : Grows flat new) where
    constant_earlier : {c : Sym} → first_constant new fs ≡ Some c → first_constant flat fs ≡ Some c
    constant_earlier e = sym (first_constant-grows flat new grows fs has) ∙ e

    none_earlier : first_constant new fs ≡ None → first_constant flat fs ≡ None
    none_earlier e = sym (first_constant-grows flat new grows fs has) ∙ e

    constant_adds_nothing : (c : Sym) → first_constant new fs ≡ Some c → AddsOne flat new c → new ≡ flat
    constant_adds_nothing c e x = known_adds_nothing flat new c distinct (constant_has flat fs c has (constant_earlier e)) x

  least_adds_once : (new other : Table) (a b : Signature) → IsDistinct new → IsDistinct other → AddsOne flat new a.least → AddsOne flat other b.least → Completes new fs a → Completes other fs b → new ≡ other
  least_adds_once new other _ _ distinct others x y (has_constant {c = c} e) (has_constant {c = d} f) =
      constant_adds_nothing new distinct (adds_grows flat new c x) c e x ∙ sym (constant_adds_nothing other others (adds_grows flat other d y) d f y)
  least_adds_once new other _ _ distinct others x y (has_constant {c = c} e) (gets_constant {c = d} f q) =
      absurd (some_or_none (constant_earlier new distinct (adds_grows flat new c x) e) (none_earlier other others (adds_grows flat other d y) f))
  least_adds_once new other _ _ distinct others x y (gets_constant {c = c} e p) (has_constant {c = d} f) =
      absurd (some_or_none (constant_earlier other others (adds_grows flat other d y) f) (none_earlier new distinct (adds_grows flat new c x) e))
  least_adds_once new other _ _ distinct others x y (gets_constant {c = c} e p) (gets_constant {c = d} f q) =
      adds_once flat new other new other least_word 0 fs c d has (Grows-refl new) (Grows-refl other) distinct others x y p q

-- the signatures of terms over the flat table
signature_adds_once : (flat new other : Table) (ts : List Tree) (a b : Signature) → AreOf flat ts → IsDistinct new → IsDistinct other → AddsOne flat new a.least → AddsOne flat other b.least → IsSignatureOf new ts a → IsSignatureOf other ts b → new ≡ other
signature_adds_once flat new other ts a b of distinct others x y s t =
    let here = all_gather_earlier flat new (adds_grows flat new a.least x) ts s.symbols of s.gathers in
    let there = all_gather_earlier flat other (adds_grows flat other b.least y) ts t.symbols of t.gathers in
    let symbols : t.symbols ≡ s.symbols = ok_once (gathers_once flat there here) in
    least_adds_once flat s.symbols (all_gathered_has flat ts s.symbols of here) new other a b distinct others x y s.completes (subst (λ fs. Completes other fs b) symbols t.completes)

-- the files and the constants of a conjecture fill the table in one way
module _ (files : Files) (root : Option (List ℕ)) (name : List ℕ) (old new other : Table) {a b : List Sourced} {m n : Option ℕ} (x : FillsClosed files root name old new a m) (y : FillsClosed files root name old other b n) where
  -- what is behind the second, in the table of the first and with its clauses in flat order
  abbrev Behind : Table → List FlatClause → Type 0
  Behind flat flats = (closed : AreClosed other flats b n) × AddsAll flat other closed.constants

  pub behind : IsDistinct x.flat → Behind x.flat x.flats
  behind distinct =
      let flat : y.flat ≡ x.flat = problem_fills_once files root name y.fills x.fills in
      let flats : y.flats ≡ x.flats = flats_once x.flat distinct files root name (subst (λ t. Flattens t files root name (Ok (y.flats, y.counts))) flat y.reads) x.reads in
      subst (λ ss. Behind x.flat ss) flats (subst (λ t. Behind t y.flats) flat (y.closed, y.adds))

  module _ (distinct : IsDistinct new) (others : IsDistinct other) where
    there : Behind x.flat x.flats
    there = behind (distinct_earlier x.flat new (adds_all_grows x.adds) distinct)

    pub tables_closed_once : new ≡ other
    tables_closed_once =
        let alike = constants_alike x.flats new other (taken_alike x.flat new other (adds_all_grows x.adds) (adds_all_grows there.1) (flat_terms x.flats) x.over) x.closed there.0 in
        adds_all_once distinct others alike x.adds there.1

    pub clauses_closed_once : (a ≡ b) × (m ≡ n)
    clauses_closed_once = closed_once x.flats new distinct x.closed (subst (λ t. AreClosed t x.flats b n) (sym tables_closed_once) there.0)

-- the clauses are over the table that the constants make
pub closed_over : (files : Files) (root : Option (List ℕ)) (name : List ℕ) (old new : Table) {clauses : List Sourced} {conjecture : Option ℕ} → FillsClosed files root name old new clauses conjecture → AreOf new (terms_of clauses)
closed_over files root name old new x =
    let over = terms_later x.flat new (adds_all_grows x.adds) (flat_terms x.flats) x.over in
    subst (λ ss. AreOf new (terms_of ss)) (sym x.closed.clauses_are) (closed_of new x.closed.are.named x.flats over)

module _ (files : Files) (root : Option (List ℕ)) (name : List ℕ) (old new other : Table) (distinct : IsDistinct new) (others : IsDistinct other) (p q : Problem) (x : IsFilled files root name old new p) (y : IsFilled files root name old other q) where
  here : IsDistinct x.closed
  here = distinct_earlier x.closed new (adds_grows x.closed new p.signature.least x.least) distinct

  there_too : IsDistinct y.closed
  there_too = distinct_earlier y.closed other (adds_grows y.closed other q.signature.least y.least) others

  closed_tables : y.closed ≡ x.closed
  closed_tables = sym (tables_closed_once files root name old x.closed y.closed x.fills y.fills here there_too)

  closed_clauses : (p.clauses ≡ q.clauses) × (p.conjecture ≡ q.conjecture)
  closed_clauses = clauses_closed_once files root name old x.closed y.closed x.fills y.fills here there_too

  pub filled_once : new ≡ other
  filled_once = signature_adds_once x.closed new other (terms_of p.clauses) p.signature q.signature (closed_over files root name old x.closed x.fills) distinct others x.least
      (subst (λ t. AddsOne t other q.signature.least) closed_tables y.least) x.agrees.signature
      (subst (λ ss. IsSignatureOf other (terms_of ss) q.signature) (sym closed_clauses.0) y.agrees.signature)

  pub filled_problem_once : p ≡ q
  filled_problem_once = agrees_once new distinct p q closed_clauses.0 x.agrees (subst (λ t. Agrees t q) (sym filled_once) y.agrees) closed_clauses.1
