-- A file reads as one list of items, or is refused for one reason; an item or a literal among tokens likewise.
use Rattle.std.proofs.Common.{◌≡◌, ℕ, ◌≤◌, List, [], length, refl, sym, ap, ◌∙◌, subst, arith, inl, inr, Bool}
use Rattle.std.specs.Prelude.{Result, Ok, Err, IfErr}
use Rattle.uc_term.specs.Tree.{Tree}
use Rattle.uc_term.specs.Table.{Table, IsDistinct}
use Rattle.uc_clause.specs.declared.token.Token.{Token}
use Rattle.uc_clause.specs.declared.token.Place.{Place}
use Rattle.uc_clause.specs.declared.clause.Item.{Item}
use Rattle.uc_clause.specs.declared.fault.ClauseFault.{ClauseFault}
use Rattle.uc_clause.specs.declared.grammar.literal.Equation.{Equation}
use Rattle.uc_clause.specs.declared.grammar.stop.Stop.{Stop}
use Rattle.uc_clause.specs.declared.grammar.stop.Stop.TheVariants.{At, NoMemory}
use Rattle.uc_clause.specs.Rules.{Rule, read, stop, Stops}
use Rattle.uc_clause.specs.Items as items
use Rattle.uc_clause.specs.Refusals.{IsFaultOf}
use Rattle.uc_clause.specs.Reading.{ReadsBy, Refuses, ReadsFile, RefusesFile, is_too_long, isnt_items, SaysItems, IsUnlessMemory, IsFault, IsAnswer}
use Rattle.uc_clause.specs.Meaning.{Variables, Means}
use Rattle.uc_clause.specs.Sides.{ReadsLiteral}
use Rattle.uc_clause.specs.Given.{ReadsItemAt, ReadsLiteralAt, StopsWith, stops_with}
use Rattle.uc_clause.proofs.ReadOnce.{Once}
use Rattle.uc_clause.proofs.Alone.{says_sides_once}
use Rattle.uc_clause.proofs.ItemsOnce.{literal_once, item_once, item_is_once, items_once, says_items_once}
use Rattle.uc_clause.proofs.Whole.{complete, refuses}

module _ (bytes : List ℕ) (table : Table) where
  module _ (small : length bytes ≤ 16777216) (r : Result (List Item) ClauseFault) (answer : IsAnswer (ReadsBy items.Items (SaysItems table) bytes) (Refuses items.Items bytes) r) where
    pub file_refused : IfErr r (IsFault (RefusesFile bytes))
    file_refused = go r answer
      where
        go : (q : Result (List Item) ClauseFault) → IsAnswer (ReadsBy items.Items (SaysItems table) bytes) (Refuses items.Items bytes) q → IfErr q (IsFault (RefusesFile bytes))
        go (Ok found) a = tt
        go (Err e) (inl a) = inl (isnt_items small a)
        go (Err e) (inr a) = inr a

    pub file_complete : IsDistinct table → (found : List Item) → ReadsFile bytes table found → IsUnlessMemory (Ok found) r
    file_complete distinct found reads = complete items.Items (SaysItems table) bytes (items_once bytes) (λ tokens p v w m n. says_items_once bytes tokens table distinct p v w m n) r answer found reads.reads

    pub file_refuses : (e : ClauseFault) → RefusesFile bytes e → IsUnlessMemory (Err e) r
    file_refuses _ (is_too_long long) = absurd (omega arith)
    file_refuses e (isnt_items s refused) = refuses items.Items (SaysItems table) bytes (items_once bytes) r answer e refused

-- where a rule stops among tokens
pub stop_is_fault : {P : Type 0} (rule : Rule P) (bytes : List ℕ) (tokens : List Token) (from : ℕ) (s : Stop) (f : ClauseFault) → Stops (rule from) s → IsFaultOf bytes tokens s f → IsFault (StopsWith rule bytes tokens from) f
stop_is_fault rule bytes tokens from (At why k) f stops (inl e) = inl (subst (StopsWith rule bytes tokens from) (sym e) (stops_with stops))
stop_is_fault rule bytes tokens from (At why k) f stops (inr e) = inr e
stop_is_fault rule bytes tokens from NoMemory f stops e = inr e

stops_once : {P : Type 0} (rule : Rule P) (bytes : List ℕ) (tokens : List Token) (from : ℕ) → Once rule → (e f : ClauseFault) → StopsWith rule bytes tokens from e → StopsWith rule bytes tokens from f → e ≡ f
stops_once rule bytes tokens from once _ _ (stops_with {why = why} {k = k} x) (stops_with {why = other} {k = l} y) =
    let h : stop why k ≡ stop other l = once from (stop why k) (stop other l) x y in
    let whys : why ≡ other = cc in
    let ks : k ≡ l = cc in
    rw (whys, ks) refl

reads_or_stops : {P : Type 0} (rule : Rule P) (bytes : List ℕ) (tokens : List Token) (from : ℕ) → Once rule → (p : P) (end : ℕ) (e : ClauseFault) → rule from (read p end) → StopsWith rule bytes tokens from e → ⊥
reads_or_stops rule bytes tokens from once p end _ x (stops_with {why = why} {k = k} y) = let h : read p end ≡ stop why k = once from (read p end) (stop why k) x y in cc

module _ {V P : Type 0} (rule : Rule P) (bytes : List ℕ) (tokens : List Token) (from : ℕ) (once : Once rule) (reads : V → Type 0) (parsed : (v : V) → reads v → (p : P) × (end : ℕ) × rule from (read p end)) where
  isnt_both : (v : V) (e : ClauseFault) → reads v → StopsWith rule bytes tokens from e → ⊥
  isnt_both v e x stops = let p = parsed v x in reads_or_stops rule bytes tokens from once p.0 p.1 e p.2 stops

  refuses_at : (r : Result V ClauseFault) → IsAnswer reads (StopsWith rule bytes tokens from) r → (e : ClauseFault) → StopsWith rule bytes tokens from e → IsUnlessMemory (Err e) r
  refuses_at (Ok v) answer e stops = absurd (isnt_both v e answer stops)
  refuses_at (Err f) (inl other) e stops = inl (ap Err (stops_once rule bytes tokens from once f e other stops))
  refuses_at (Err f) (inr memory) e stops = inr (ap Err memory)

  complete_at : ((v w : V) → reads v → reads w → v ≡ w) → (r : Result V ClauseFault) → IsAnswer reads (StopsWith rule bytes tokens from) r → (v : V) → reads v → IsUnlessMemory (Ok v) r
  complete_at reads_once (Ok w) answer v x = inl (ap Ok (reads_once w v answer x))
  complete_at reads_once (Err e) (inl stops) v x = absurd (isnt_both v e x stops)
  complete_at reads_once (Err e) (inr memory) v x = inr (ap Err memory)

module _ (bytes : List ℕ) (tokens : List Token) (from : ℕ) (table : Table) where
  -- an item and the number of the token behind it
  abbrev IsItem : Item × ℕ → Type 0
  IsItem r = ReadsItemAt bytes tokens from table r.0 r.1

  abbrev NoItem : ClauseFault → Type 0
  NoItem = StopsWith (items.Item bytes tokens) bytes tokens from

  item_at_once : IsDistinct table → (r q : Item × ℕ) → IsItem r → IsItem q → r ≡ q
  item_at_once distinct r q a b =
      let h : read a.entry r.1 ≡ read b.entry q.1 = item_once bytes tokens from (read a.entry r.1) (read b.entry q.1) a.reads b.reads in
      let entries : b.entry ≡ a.entry = cc in
      let ends : r.1 ≡ q.1 = cc in
      let items : r.0 ≡ q.0 = item_is_once bytes tokens table distinct a.entry r.0 q.0 a.means (rw entries at b.means) in
      let both : (r.0, r.1) ≡ (q.0, q.1) = rw (items, ends) refl in
      both

  pub item_complete : IsDistinct table → (r : Result (Item × ℕ) ClauseFault) → IsAnswer IsItem NoItem r → (q : Item × ℕ) → IsItem q → IsUnlessMemory (Ok q) r
  item_complete distinct = complete_at (items.Item bytes tokens) bytes tokens from (item_once bytes tokens) IsItem (λ q a. (a.entry, q.1, a.reads)) (item_at_once distinct)

  pub item_refuses : (r : Result (Item × ℕ) ClauseFault) → IsAnswer IsItem NoItem r → (e : ClauseFault) → NoItem e → IsUnlessMemory (Err e) r
  item_refuses = refuses_at (items.Item bytes tokens) bytes tokens from (item_once bytes tokens) IsItem (λ q a. (a.entry, q.1, a.reads))

  -- whether a literal is an equation, its two sides, their places, and the number of the token behind it
  abbrev Said : Type 0
  Said = Bool × Tree × Tree × List Place × ℕ

  abbrev IsLiteral : Said → Type 0
  IsLiteral r = ReadsLiteralAt bytes tokens from table r.0 r.1 r.2 r.3 r.4

  -- the reader of literals, with no variables seen so far, reads one
  pub is_literal : (seen : Variables) (equation : Equation) → ReadsLiteral (items.literal bytes tokens) bytes tokens from [] seen table equation → IsLiteral (equation.positive, equation.pair.left, equation.pair.right, equation.pair.places.items, equation.pair.end)
  is_literal seen equation l = record {
    literal = l.literal;
    reads = l.reads;
    is_positive = l.positive;
    means = record {
      means_left = subst (λ s. Means bytes tokens table s l.literal.sides.left equation.pair.left) l.are_sides.seen_is l.are_sides.means_left;
      means_right = subst (λ s. Means bytes tokens table s l.literal.sides.right equation.pair.right) l.are_sides.seen_is l.are_sides.means_right;
    };
    are_places = l.are_sides.places;
  }

  abbrev NoLiteral : ClauseFault → Type 0
  NoLiteral = StopsWith (items.literal bytes tokens) bytes tokens from

  said_once : (r q : Said) → r.0 ≡ q.0 → ◌≡◌ {A = Tree × Tree} (r.1, r.2) (q.1, q.2) → r.3 ≡ q.3 → r.4 ≡ q.4 → r ≡ q
  said_once r q signs sides places ends =
      let lefts : r.1 ≡ q.1 = ap (λ (p : Tree × Tree). p.0) sides in
      let rights : r.2 ≡ q.2 = ap (λ (p : Tree × Tree). p.1) sides in
      let all : (r.0, r.1, r.2, r.3, r.4) ≡ (q.0, q.1, q.2, q.3, q.4) = rw (signs, lefts, rights, places, ends) refl in
      all

  literal_at_once : IsDistinct table → (r q : Said) → IsLiteral r → IsLiteral q → r ≡ q
  literal_at_once distinct r q a b =
      let h : read a.literal r.4 ≡ read b.literal q.4 = literal_once bytes tokens from (read a.literal r.4) (read b.literal q.4) a.reads b.reads in
      let literals : b.literal ≡ a.literal = cc in
      let ends : r.4 ≡ q.4 = cc in
      let sides = says_sides_once bytes tokens table distinct a.literal.sides (r.1, r.2) (q.1, q.2) a.means (rw literals at b.means) in
      said_once r q (a.is_positive ∙ sym (rw literals at b.is_positive)) sides (a.are_places ∙ sym (rw literals at b.are_places)) ends

  pub literal_complete : IsDistinct table → (r : Result Said ClauseFault) → IsAnswer IsLiteral NoLiteral r → (q : Said) → IsLiteral q → IsUnlessMemory (Ok q) r
  literal_complete distinct = complete_at (items.literal bytes tokens) bytes tokens from (literal_once bytes tokens) IsLiteral (λ q a. (a.literal, q.4, a.reads)) (literal_at_once distinct)

  pub literal_refuses : (r : Result Said ClauseFault) → IsAnswer IsLiteral NoLiteral r → (e : ClauseFault) → NoLiteral e → IsUnlessMemory (Err e) r
  literal_refuses = refuses_at (items.literal bytes tokens) bytes tokens from (literal_once bytes tokens) IsLiteral (λ q a. (a.literal, q.4, a.reads))
