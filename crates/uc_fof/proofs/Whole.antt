-- A file with formulas reads as one list of items, or is refused for one reason.
use Rattle.std.proofs.Common.{◌≡◌, ℕ, ◌≤◌, List, [], ◌∷◌, length, refl, sym, ap, ◌∙◌, subst, arith, inl, inr, Bool}
use Rattle.std.specs.Prelude.{Result, Ok, Err, IfErr, IfOk}
use Rattle.uc_term.specs.Tree.{Tree}
use Rattle.uc_term.specs.Table.{Table, IsDistinct}
use Rattle.uc_clause.specs.declared.token.Token.{Token}
use Rattle.uc_clause.specs.declared.token.Place.{Place}
use Rattle.uc_clause.specs.declared.clause.Clause.{Clause}
use Rattle.uc_clause.specs.declared.clause.Item.{Item}
use Rattle.uc_clause.specs.declared.fault.TokenFault.{TokenFault}
use Rattle.uc_clause.specs.declared.fault.TokenFault.TheVariants as token
use Rattle.uc_clause.specs.declared.fault.ClauseFault.{ClauseFault}
use Rattle.uc_clause.specs.declared.fault.ClauseFault.TheVariants as fault
use Rattle.uc_clause.specs.Tokens.{AreTokens, IsRefused, StopsAt}
use Rattle.uc_clause.specs.Faults.{clause_fault}
use Rattle.uc_clause.specs.Reading.{IsFault, IsUnlessMemory}
use Rattle.uc_clause.proofs.Once.{tokens_once, tokens_or_stops, stops_once as token_stops_once}
use Rattle.uc_clause.proofs.Alone.{says_sides_once}
use Rattle.uc_clause.proofs.ItemsOnce.{name_is_once, item_is_once as clause_item_is_once}
use Rattle.uc_fof.specs.declared.stop.Reason.{Reason}
use Rattle.uc_fof.specs.declared.item.FofItem.{FofItem}
use Rattle.uc_fof.specs.declared.item.FofItem.TheVariants as fof
use Rattle.uc_fof.specs.Rules.{read, stop}
use Rattle.uc_fof.specs.Parse.{Stated, Entry, item, stated}
use Rattle.uc_fof.specs.Formulas.{Items}
use Rattle.uc_fof.specs.Meaning.{MeansStated, MeansItem, MeanItems, no_items, one_item}
use Rattle.uc_fof.specs.Refusals.{fault_of}
use Rattle.uc_fof.specs.Given.{StopsWith, stops_with, ReadsItems}
use Rattle.uc_fof.specs.Interning.{InternsFile, with_items}
use Rattle.uc_fof.specs.Reading.{AreItems, ArentItems, arent_tokens, arent_read, ReadsFile, RefusesFile, is_too_long, isnt_items, ReadsOrRefusesFile}
use Rattle.uc_fof.proofs.FormulasOnce.{items_once}

module _ (bytes : List ℕ) (tokens : List Token) (table : Table) (distinct : IsDistinct table) where
  clause_is_once : (s : Stated) (c d : Clause) (a b : Bool) (p q : Place) → MeansStated bytes tokens table s c a p → MeansStated bytes tokens table s d b q → c ≡ d
  clause_is_once s c d _ _ _ _ m n =
      let names : c.name ≡ d.name = name_is_once bytes tokens s.heading.name c.name d.name m.name n.name in
      let roles : c.role ≡ d.role = m.role ∙ sym n.role in
      let signs : c.positive ≡ d.positive = m.positive ∙ sym n.positive in
      let sides : (c.left, c.right) ≡ (d.left, d.right) = says_sides_once bytes tokens table distinct s.literal.sides (c.left, c.right) (d.left, d.right) m.sides n.sides in
      let lefts : c.left ≡ d.left = ap (λ (t : Tree × Tree). t.0) sides in
      let rights : c.right ≡ d.right = ap (λ (t : Tree × Tree). t.1) sides in
      let places : c.places ≡ d.places = m.places ∙ sym n.places in
      let place : c.place ≡ d.place = m.place ∙ sym n.place in
      let all : record { name = c.name; role = c.role; positive = c.positive; left = c.left; right = c.right; places = c.places; place = c.place } ≡ (let r : Clause = record { name = d.name; role = d.role; positive = d.positive; left = d.left; right = d.right; places = d.places; place = d.place } in r) = rw (names, roles, signs, lefts, rights, places, place) refl in
      all

  item_is_once : (entry : Entry) (i j : FofItem) → MeansItem bytes tokens table entry i → MeansItem bytes tokens table entry j → i ≡ j
  item_is_once (item e) (fof.Item i) (fof.Item j) a b = ap fof.Item (clause_item_is_once bytes tokens table distinct e i j a b)
  item_is_once (item e) (fof.Item i) (fof.Formula d q k) a b = absurd b
  item_is_once (item e) (fof.Formula c p h) j a b = absurd a
  item_is_once (stated s) (fof.Item i) j a b = absurd a
  item_is_once (stated s) (fof.Formula c p h) (fof.Item j) a b = absurd b
  item_is_once (stated s) (fof.Formula c p h) (fof.Formula d q k) a b =
      let clauses : c ≡ d = clause_is_once s c d p q h k a b in
      let signs : p ≡ q = a.is_conjecture ∙ sym b.is_conjecture in
      let places : h ≡ k = a.is_role_place ∙ sym b.is_role_place in
      rw (clauses, signs, places) refl

  items_are_once : {entries : List Entry} {is js : List FofItem} → MeanItems bytes tokens table entries is → MeanItems bytes tokens table entries js → is ≡ js
  items_are_once no_items no_items = refl
  items_are_once (one_item {entry = entry} {i = i} {items = is} m all) (one_item {i = j} {items = js} n others) =
      let first : i ≡ j = item_is_once entry i j m n in
      let rest : is ≡ js = items_are_once all others in
      rw (first, rest) refl

module _ (bytes : List ℕ) (table : Table) where
  are_or_arent : (v : List FofItem) (e : ClauseFault) → AreItems bytes table v → ArentItems bytes e → ⊥
  are_or_arent v _ r (arent_tokens s) = tokens_or_stops r.are_tokens s
  are_or_arent v _ r (arent_read {tokens = ts} {reason = why} {k = k} are stops) =
      let same : ts ≡ r.tokens = tokens_once are r.are_tokens in
      let e : read r.entries r.end ≡ stop why k = items_once bytes r.tokens 0 (read r.entries r.end) (stop why k) r.reads (subst (λ us. Items bytes us 0 (stop why k)) same stops) in
      cc

  pub arent_once : (e f : ClauseFault) → ArentItems bytes e → ArentItems bytes f → e ≡ f
  arent_once _ _ (arent_tokens {place = p} a) (arent_tokens {place = q} b) = ap fault.Syntax (token_stops_once a b)
  arent_once _ _ (arent_tokens a) (arent_read are stops) = absurd (tokens_or_stops are a)
  arent_once _ _ (arent_read are stops) (arent_tokens a) = absurd (tokens_or_stops are a)
  arent_once _ _ (arent_read {tokens = ts} {reason = why} {k = k} are stops) (arent_read {tokens = us} {reason = other} {k = l} ares others) =
      let same : us ≡ ts = tokens_once ares are in
      let e : stop why k ≡ stop other l = items_once bytes ts 0 (stop why k) (stop other l) stops (subst (λ vs. Items bytes vs 0 (stop other l)) same others) in
      let whys : why ≡ other = cc in
      let ks : k ≡ l = cc in
      rw (whys, ks, same) refl

  pub are_once : IsDistinct table → (v w : List FofItem) → AreItems bytes table v → AreItems bytes table w → v ≡ w
  are_once distinct v w r q =
      let same : q.tokens ≡ r.tokens = tokens_once q.are_tokens r.are_tokens in
      let e : read r.entries r.end ≡ read q.entries q.end = items_once bytes r.tokens 0 (read r.entries r.end) (read q.entries q.end) r.reads (subst (λ us. Items bytes us 0 (read q.entries q.end)) same q.reads) in
      let entries : q.entries ≡ r.entries = cc in
      items_are_once bytes r.tokens table distinct r.means (subst (λ us. MeanItems bytes us table r.entries w) same (subst (λ es. MeanItems bytes q.tokens table es w) entries q.means))

  -- what the reader of a file that isn't too long answers
  abbrev pub Answers : Result (List FofItem) ClauseFault → Type 0
  Answers r = IfOk r (AreItems bytes table) × IfErr r (IsFault (ArentItems bytes))

  module _ (small : length bytes ≤ 16777216) where
    pub file_reads : (r : Result (List FofItem) ClauseFault) → IfOk r (AreItems bytes table) → IfOk r (ReadsFile bytes table)
    file_reads (Ok v) a = record { small = small; reads = a }
    file_reads (Err e) a = tt

    pub file_refused : (r : Result (List FofItem) ClauseFault) → IfErr r (IsFault (ArentItems bytes)) → IfErr r (IsFault (RefusesFile bytes))
    file_refused (Ok v) a = tt
    file_refused (Err e) (inl a) = inl (isnt_items small a)
    file_refused (Err e) (inr a) = inr a

    pub file_complete : IsDistinct table → (r : Result (List FofItem) ClauseFault) → IfOk r (AreItems bytes table) → IfErr r (IsFault (ArentItems bytes)) → (v : List FofItem) → ReadsFile bytes table v → IsUnlessMemory (Ok v) r
    file_complete distinct (Ok w) a b v x = inl (ap Ok (are_once distinct w v a x.reads))
    file_complete distinct (Err e) a (inl b) v x = absurd (are_or_arent v e x.reads b)
    file_complete distinct (Err e) a (inr b) v x = inr (ap Err b)

    pub file_refuses : (r : Result (List FofItem) ClauseFault) → IfOk r (AreItems bytes table) → IfErr r (IsFault (ArentItems bytes)) → (e : ClauseFault) → RefusesFile bytes e → IsUnlessMemory (Err e) r
    file_refuses r a b _ (is_too_long long) = absurd (omega arith)
    file_refuses (Ok w) a b e (isnt_items s x) = absurd (are_or_arent w e a x)
    file_refuses (Err f) a (inl b) e (isnt_items s x) = inl (ap Err (arent_once f e b x))
    file_refuses (Err f) a (inr b) e (isnt_items s x) = inr (ap Err b)

-- a text that isn't tokens isn't items
pub refused_tokens : (bytes : List ℕ) (f : TokenFault) → IsRefused bytes f → IsFault (ArentItems bytes) (clause_fault f)
refused_tokens bytes (token.Syntax place) s = inl (arent_tokens s)
refused_tokens bytes token.NoMemory s = inr refl

-- nor is one whose tokens aren't
pub refused_items : (bytes : List ℕ) (tokens : List Token) → AreTokens bytes tokens → (e : ClauseFault) → IsFault (StopsWith bytes tokens (Items bytes tokens) 0) e → IsFault (ArentItems bytes) e
refused_items bytes tokens are e (inl s) = inl (stopped are s)
  where
    stopped : {f : ClauseFault} → AreTokens bytes tokens → StopsWith bytes tokens (Items bytes tokens) 0 f → ArentItems bytes f
    stopped a (stops_with x) = arent_read a x
refused_items bytes tokens are e (inr m) = inr m

module _ (bytes : List ℕ) (tokens : List Token) (are : AreTokens bytes tokens) where
  pub items_read : (old new : Table) (r : Result (List FofItem) ClauseFault) → IfOk r (ReadsItems bytes tokens old new) → IfOk r (AreItems bytes new)
  items_read old new (Ok v) x = record { tokens = tokens; are_tokens = are; entries = x.entries; end = x.end; reads = x.reads; means = x.means }
  items_read old new (Err e) x = tt

  pub items_interned : (old new : Table) (r : Result (List FofItem) ClauseFault) → IfOk r (ReadsItems bytes tokens old new) → IfOk r (λ v. InternsFile bytes old new)
  items_interned old new (Ok v) x = record { tokens = tokens; are_tokens = are; entries = x.entries; end = x.end; reads = x.reads; new_is = x.new_is }
  items_interned old new (Err e) x = tt

  pub items_refused : (r : Result (List FofItem) ClauseFault) → IfErr r (IsFault (StopsWith bytes tokens (Items bytes tokens) 0)) → IfErr r (IsFault (ArentItems bytes))
  items_refused (Ok v) x = tt
  items_refused (Err e) x = refused_items bytes tokens are e x

module _ (bytes : List ℕ) where
  read_once : (table : Table) → IsDistinct table → (v w : List FofItem) → ReadsFile bytes table v → ReadsFile bytes table w → v ≡ w
  read_once table distinct v w a b = are_once bytes table distinct v w a.reads b.reads

  read_or_refused : (table : Table) (v : List FofItem) (e : ClauseFault) → ReadsFile bytes table v → RefusesFile bytes e → ⊥
  read_or_refused table v _ a (is_too_long long) = let small = a.small in omega (arith, long, small)
  read_or_refused table v e a (isnt_items s x) = are_or_arent bytes table v e a.reads x

  refused_once : (table : Table) (e f : ClauseFault) → RefusesFile bytes e → RefusesFile bytes f → e ≡ f
  refused_once table _ _ (is_too_long a) (is_too_long b) = refl
  refused_once table _ f (is_too_long a) (isnt_items s x) = absurd (omega (arith, a, s))
  refused_once table e _ (isnt_items s x) (is_too_long a) = absurd (omega (arith, a, s))
  refused_once table e f (isnt_items s x) (isnt_items t y) = arent_once bytes table e f x y

  pub file_once : (table : Table) → IsDistinct table → (a b : Result (List FofItem) ClauseFault) → ReadsOrRefusesFile bytes table a → ReadsOrRefusesFile bytes table b → a ≡ b
  file_once table distinct (Ok v) (Ok w) a b = ap Ok (read_once table distinct v w a b)
  file_once table distinct (Ok v) (Err e) a b = absurd (read_or_refused table v e a b)
  file_once table distinct (Err e) (Ok v) a b = absurd (read_or_refused table v e b a)
  file_once table distinct (Err e) (Err f) a b = ap Err (refused_once table e f a b)

  pub table_once : (old new other : Table) → InternsFile bytes old new → InternsFile bytes old other → new ≡ other
  table_once old new other r q =
      let same : q.tokens ≡ r.tokens = tokens_once q.are_tokens r.are_tokens in
      let e : read r.entries r.end ≡ read q.entries q.end = items_once bytes r.tokens 0 (read r.entries r.end) (read q.entries q.end) r.reads (subst (λ us. Items bytes us 0 (read q.entries q.end)) same q.reads) in
      let entries : q.entries ≡ r.entries = cc in
      let others : other ≡ with_items bytes r.tokens old r.entries = subst (λ us. other ≡ with_items bytes us old r.entries) same (subst (λ es. other ≡ with_items bytes q.tokens old es) entries q.new_is) in
      r.new_is ∙ sym others
