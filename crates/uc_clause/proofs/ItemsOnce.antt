-- Items are read in one way, and say one thing.
use Rattle.std.proofs.Common.{◌≡◌, ℕ, ◌+◌, List, [], ◌∷◌, ◌++◌, refl, sym, ap, ◌∙◌, subst, arith, Bool, true, false}
use Rattle.std.specs.Prelude.{◌↔◌, Option, Some, None}
use Rattle.uc_term.specs.Tree.{Tree}
use Rattle.uc_term.specs.Table.{Table, IsDistinct}
use Rattle.uc_clause.specs.declared.token.Token.{Token}
use Rattle.uc_clause.specs.declared.token.Place.{Place}
use Rattle.uc_clause.specs.declared.clause.Name.{Name}
use Rattle.uc_clause.specs.declared.clause.Clause.{Clause}
use Rattle.uc_clause.specs.declared.clause.Include.{Include}
use Rattle.uc_clause.specs.declared.clause.Item.{Item}
use Rattle.uc_clause.specs.declared.clause.Item.TheVariants as item
use Rattle.uc_clause.specs.declared.terminal.Terminal.{Terminal}
use Rattle.uc_clause.specs.declared.terminal.Terminal.TheVariants.{Lower, Integer, Open, Close, Comma, Dot, Tilde, OpenSquare, CloseSquare}
use Rattle.uc_clause.specs.declared.grammar.note.Bracket.{Bracket}
use Rattle.uc_clause.specs.declared.grammar.note.Piece.{Piece}
use Rattle.uc_clause.specs.declared.grammar.note.Piece.TheVariants.{Plain, Opens, Closes, Behind, Misplaced}
use Rattle.uc_clause.specs.declared.grammar.stop.Why.{Why}
use Rattle.uc_clause.specs.declared.grammar.stop.Why.TheVariants.{NoItem, NoToken, NoEnd, NoSelection}
use Rattle.uc_clause.specs.Terminals.{terminal_at}
use Rattle.uc_clause.specs.Rules.{Outcome, read, stop, mapped}
use Rattle.uc_clause.specs.Parse.{Literal, Formula, Entry, formula, inclusion}
use Rattle.uc_clause.specs.Items as items
use Rattle.uc_clause.specs.Meaning.{IsName, AreNames, no_names, one_name, AreSelected, MeansClause, MeansItem, MeanItems, no_items, one_item}
use Rattle.uc_clause.proofs.ReadOnce.{Once, both_once, here_once, gives_once, the_once, choice_once, term_once}
use Rattle.uc_clause.proofs.Alone.{equals_once, says_sides_once}

module _ (bytes : List ℕ) (tokens : List Token) where
  term_rule : Once (items.term bytes tokens)
  term_rule at o p x y = term_once bytes tokens x y

  token_once : (terminal : Terminal) (why : Why) → Once (items.token bytes tokens terminal why)
  token_once terminal why = the_once bytes tokens terminal why

  pub equation_once : Once (items.equation bytes tokens)
  equation_once = both_once _ _ here_once (λ first. both_once (items.term bytes tokens) _ term_rule (λ left. both_once (items.sign bytes tokens first) _ (λ at o p x y. x ∙ sym y) (λ positive. both_once (items.term bytes tokens) _ term_rule (λ right. gives_once _))))

  in_brackets_once : Once (items.equals_in_brackets bytes tokens)
  in_brackets_once = both_once _ _ (token_once Open NoToken) (λ u. both_once (items.equals bytes tokens) _ (equals_once bytes tokens) (λ sides. both_once _ _ (token_once Close NoToken) (λ w. gives_once sides)))

  denied_once : Once (items.denied bytes tokens)
  denied_once = choice_once bytes tokens Open _ _ in_brackets_once (equals_once bytes tokens)

  denial_once : Once (items.denial bytes tokens)
  denial_once = both_once _ _ (token_once Tilde NoToken) (λ u. both_once (items.denied bytes tokens) _ denied_once (λ sides. gives_once _))

  pub literal_once : Once (items.literal bytes tokens)
  literal_once = choice_once bytes tokens Tilde _ _ denial_once equation_once

  clause_once_at : {brackets at : ℕ} {o p : Outcome Literal} → items.Clause bytes tokens brackets at o → items.Clause bytes tokens brackets at p → o ≡ p
  clause_once_at (items.is_bare {at = at} {outcome = o} n x) (items.is_bare {outcome = p} m y) = literal_once at o p x y
  clause_once_at (items.is_bare n x) (items.is_bracketed e f y c) = absurd (n e)
  clause_once_at (items.is_bare n x) (items.is_not_closed e f y c) = absurd (n e)
  clause_once_at (items.is_bare n x) (items.stops_in_brackets e f y) = absurd (n e)
  clause_once_at (items.is_bare n x) (items.is_too_deep e f) = absurd (n e)
  clause_once_at (items.is_bracketed e f x c) (items.is_bare n y) = absurd (n e)
  clause_once_at (items.is_bracketed e f x c) (items.is_bracketed d g y b) = let h = clause_once_at x y in cc
  clause_once_at (items.is_bracketed {end = m} e f x c) (items.is_not_closed {end = n} d g y b) = let h = clause_once_at x y in let ends : n ≡ m = cc in absurd (let k = rw ends at b in k c)
  clause_once_at (items.is_bracketed e f x c) (items.stops_in_brackets d g y) = let h = clause_once_at x y in cc
  clause_once_at (items.is_bracketed e f x c) (items.is_too_deep d g) = absurd (omega arith)
  clause_once_at (items.is_not_closed e f x c) (items.is_bare n y) = absurd (n e)
  clause_once_at (items.is_not_closed {end = m} e f x c) (items.is_bracketed {end = n} d g y b) = let h = clause_once_at x y in let ends : m ≡ n = cc in absurd (let k = rw ends at c in k b)
  clause_once_at (items.is_not_closed e f x c) (items.is_not_closed d g y b) = let h = clause_once_at x y in cc
  clause_once_at (items.is_not_closed e f x c) (items.stops_in_brackets d g y) = let h = clause_once_at x y in cc
  clause_once_at (items.is_not_closed e f x c) (items.is_too_deep d g) = absurd (omega arith)
  clause_once_at (items.stops_in_brackets e f x) (items.is_bare n y) = absurd (n e)
  clause_once_at (items.stops_in_brackets e f x) (items.is_bracketed d g y b) = let h = clause_once_at x y in cc
  clause_once_at (items.stops_in_brackets e f x) (items.is_not_closed d g y b) = let h = clause_once_at x y in cc
  clause_once_at (items.stops_in_brackets e f x) (items.stops_in_brackets d g y) = let h = clause_once_at x y in cc
  clause_once_at (items.stops_in_brackets e f x) (items.is_too_deep d g) = absurd (omega arith)
  clause_once_at (items.is_too_deep e f) (items.is_bare n y) = absurd (n e)
  clause_once_at (items.is_too_deep e f) (items.is_bracketed d g y b) = absurd (omega arith)
  clause_once_at (items.is_too_deep e f) (items.is_not_closed d g y b) = absurd (omega arith)
  clause_once_at (items.is_too_deep e f) (items.stops_in_brackets d g y) = absurd (omega arith)
  clause_once_at (items.is_too_deep e f) (items.is_too_deep d g) = refl

  clause_once : Once (items.clause bytes tokens)
  clause_once at o p x y = clause_once_at x y

  abbrev next_piece : {bs : List Bracket} {at : ℕ} {o : Outcome (Unit {0})} → items.Rest bytes tokens bs at o → (p : Piece) × (items.piece_at bytes tokens bs at ≡ p)
  next_piece (items.has_token e x) = (Plain, e)
  next_piece (items.has_opening {b = b} e x) = (Opens b, e)
  next_piece (items.has_closing e x) = (Closes, e)
  next_piece (items.ends_before e) = (Behind, e)
  next_piece (items.stops_before e) = (Misplaced, e)

  rest_once : {bs : List Bracket} {at : ℕ} {o p : Outcome (Unit {0})} → items.Rest bytes tokens bs at o → items.Rest bytes tokens bs at p → o ≡ p
  rest_once (items.has_token e x) (items.has_token f y) = rest_once x y
  rest_once {bs} {at} {o} {p} (items.has_opening {b = b} e x) (items.has_opening {b = c} f y) = let same : c ≡ b = cc in rest_once x (subst (λ d. items.Rest bytes tokens (bs ++ d ∷ []) (at + 1) p) same y)
  rest_once (items.has_closing e x) (items.has_closing f y) = rest_once x y
  rest_once (items.ends_before e) (items.ends_before f) = refl
  rest_once (items.stops_before e) (items.stops_before f) = refl
  rest_once x y = let h : (next_piece x).0 ≡ (next_piece y).0 = sym (next_piece x).1 ∙ (next_piece y).1 in absurd cc

  note_once_at : {at : ℕ} {o p : Outcome (Unit {0})} → items.Note bytes tokens at o → items.Note bytes tokens at p → o ≡ p
  note_once_at (items.is_note n x) (items.is_note m y) = rest_once x y
  note_once_at (items.is_note n x) (items.is_no_note e) = absurd (n e)
  note_once_at (items.is_no_note e) (items.is_note n x) = absurd (n e)
  note_once_at (items.is_no_note e) (items.is_no_note f) = refl

  note_once : Once (items.note bytes tokens)
  note_once at o p x y = note_once_at x y

  more_once : Once (items.more_notes bytes tokens)
  more_once = choice_once bytes tokens Comma _ _ (both_once _ _ (token_once Comma NoToken) (λ u. both_once (items.note bytes tokens) _ note_once (λ w. token_once Close NoToken))) (token_once Close NoToken)

  notes_once : Once (items.notes bytes tokens)
  notes_once = choice_once bytes tokens Comma _ _ (both_once _ _ (token_once Comma NoToken) (λ u. both_once (items.note bytes tokens) _ note_once (λ w. more_once))) (token_once Close NoEnd)

  name_once : Once (items.name bytes tokens)
  name_once at o p x y = x ∙ sym y

  heading_once : Once (items.heading bytes tokens)
  heading_once = both_once _ _ here_once (λ first. both_once _ _ (token_once Lower NoItem) (λ a. both_once _ _ (token_once Open NoToken) (λ b. both_once (items.name bytes tokens) _ name_once (λ name. both_once _ _ (token_once Comma NoToken) (λ c. both_once (items.role bytes tokens) _ (λ at o p x y. x ∙ sym y) (λ role. both_once _ _ (token_once Comma NoToken) (λ d. gives_once _)))))))

  cnf_once : Once (items.cnf bytes tokens)
  cnf_once = both_once (items.heading bytes tokens) _ heading_once (λ heading. both_once (items.clause bytes tokens) _ clause_once (λ literal. both_once (items.notes bytes tokens) _ notes_once (λ u. both_once _ _ (token_once Dot NoToken) (λ w. gives_once _))))

  names_once_at : {at : ℕ} {o p : Outcome (List ℕ)} → items.Names bytes tokens at o → items.Names bytes tokens at p → o ≡ p
  names_once_at (items.stops_in_name {at = at} {k = k} {why = why} x) (items.stops_in_name {k = l} {why = other} y) = let h = name_once at (stop why k) (stop other l) x y in cc
  names_once_at (items.stops_in_name {at = at} {k = k} {why = why} x) (items.is_last_name {end = end} {n = n} y e) = let h = name_once at (stop why k) (read n end) x y in cc
  names_once_at (items.stops_in_name {at = at} {k = k} {why = why} x) (items.is_name {end = end} {n = n} y e r) = let h = name_once at (stop why k) (read n end) x y in absurd (cc)
  names_once_at (items.stops_in_name {at = at} {k = k} {why = why} x) (items.stops_behind_name {end = end} {n = n} y e f) = let h = name_once at (stop why k) (read n end) x y in absurd (cc)
  names_once_at (items.is_last_name {at = at} {end = m} {n = a} x e) (items.stops_in_name {k = k} {why = why} y) = let h = name_once at (read a m) (stop why k) x y in cc
  names_once_at (items.is_last_name {at = at} {end = m} {n = a} x e) (items.is_last_name {end = l} {n = b} y f) = let h = name_once at (read a m) (read b l) x y in cc
  names_once_at (items.is_last_name {at = at} {end = m} {n = a} x e) (items.is_name {end = l} {n = b} y f r) = let h = name_once at (read a m) (read b l) x y in let ends : l ≡ m = cc in absurd (let k = rw ends at f in cc)
  names_once_at (items.is_last_name {at = at} {end = m} {n = a} x e) (items.stops_behind_name {end = l} {n = b} y f g) = let h = name_once at (read a m) (read b l) x y in let ends : l ≡ m = cc in absurd (let k = rw ends at f in k e)
  names_once_at (items.is_name {at = at} {end = m} {n = a} x e r) (items.stops_in_name {k = k} {why = why} y) = let h = name_once at (read a m) (stop why k) x y in absurd (cc)
  names_once_at (items.is_name {at = at} {end = m} {n = a} x e r) (items.is_last_name {end = l} {n = b} y f) = let h = name_once at (read a m) (read b l) x y in let ends : l ≡ m = cc in absurd (let k = rw ends at f in cc)
  names_once_at (items.is_name {at = at} {end = m} {n = a} {outcome = o} x e r) (items.is_name {end = l} {n = b} {outcome = p} y f s) =
      let h = name_once at (read a m) (read b l) x y in
      let ends : l ≡ m = cc in
      let names : a ≡ b = cc in
      let rests : o ≡ p = names_once_at r (rw ends at s) in
      rw (names, rests) refl
  names_once_at (items.is_name {at = at} {end = m} {n = a} x e r) (items.stops_behind_name {end = l} {n = b} y f g) = let h = name_once at (read a m) (read b l) x y in let ends : l ≡ m = cc in absurd (let k = rw ends at g in k e)
  names_once_at (items.stops_behind_name {at = at} {end = m} {n = a} x e d) (items.stops_in_name {k = k} {why = why} y) = let h = name_once at (read a m) (stop why k) x y in absurd (cc)
  names_once_at (items.stops_behind_name {at = at} {end = m} {n = a} x e d) (items.is_last_name {end = l} {n = b} y f) = let h = name_once at (read a m) (read b l) x y in let ends : m ≡ l = cc in absurd (let k = rw ends at e in k f)
  names_once_at (items.stops_behind_name {at = at} {end = m} {n = a} x e d) (items.is_name {end = l} {n = b} y f s) = let h = name_once at (read a m) (read b l) x y in let ends : m ≡ l = cc in absurd (let k = rw ends at d in k f)
  names_once_at (items.stops_behind_name {at = at} {end = m} {n = a} x e d) (items.stops_behind_name {end = l} {n = b} y f g) = let h = name_once at (read a m) (read b l) x y in cc

  list_once : Once (items.list bytes tokens)
  list_once = both_once _ _ (token_once OpenSquare NoSelection) (λ u. choice_once bytes tokens CloseSquare _ _ (both_once _ _ (token_once CloseSquare NoToken) (λ w. gives_once _)) (λ at o p x y. names_once_at x y))

  selected_once : Once (items.selected bytes tokens)
  selected_once = choice_once bytes tokens Comma _ _ (both_once _ _ (token_once Comma NoToken) (λ u. both_once (items.list bytes tokens) _ list_once (λ ns. both_once _ _ (token_once Close NoToken) (λ w. gives_once _)))) (both_once _ _ (token_once Close NoToken) (λ u. gives_once _))

  include_once : Once (items.include bytes tokens)
  include_once = both_once _ _ here_once (λ first. both_once _ _ (token_once Lower NoItem) (λ a. both_once _ _ (token_once Open NoToken) (λ b. both_once (items.quoted bytes tokens) _ (λ at o p x y. x ∙ sym y) (λ file. both_once (items.selected bytes tokens) _ selected_once (λ names. both_once _ _ (token_once Dot NoToken) (λ c. gives_once _))))))

  item_once_at : {at : ℕ} {o p : Outcome Entry} → items.Item bytes tokens at o → items.Item bytes tokens at p → o ≡ p
  item_once_at (items.is_clause {at = at} {outcome = o} e x) (items.is_clause {outcome = p} f y) = ap (mapped formula) (cnf_once at o p x y)
  item_once_at (items.is_clause e x) (items.is_include f y) = absurd (cc)
  item_once_at (items.is_clause e x) (items.is_no_item f) = absurd (cc)
  item_once_at (items.is_include e x) (items.is_clause f y) = absurd (cc)
  item_once_at (items.is_include {at = at} {outcome = o} e x) (items.is_include {outcome = p} f y) = ap (mapped inclusion) (include_once at o p x y)
  item_once_at (items.is_include e x) (items.is_no_item f) = absurd (cc)
  item_once_at (items.is_no_item e) (items.is_clause f y) = absurd (cc)
  item_once_at (items.is_no_item e) (items.is_include f y) = absurd (cc)
  item_once_at (items.is_no_item e) (items.is_no_item f) = refl

  pub item_once : Once (items.Item bytes tokens)
  item_once at o p x y = item_once_at x y

  items_once_at : {at : ℕ} {o p : Outcome (List Entry)} → items.Items bytes tokens at o → items.Items bytes tokens at p → o ≡ p
  items_once_at (items.is_end e) (items.is_end f) = refl
  items_once_at (items.is_end e) (items.has_item n x r) = absurd (n e)
  items_once_at (items.is_end e) (items.stops_in_item n x) = absurd (n e)
  items_once_at (items.has_item n x r) (items.is_end f) = absurd (n f)
  items_once_at (items.has_item {at = at} {middle = m} {entry = a} {outcome = o} n x r) (items.has_item {middle = l} {entry = b} {outcome = p} d y s) =
      let h = item_once at (read a m) (read b l) x y in
      let middles : l ≡ m = cc in
      let entries : a ≡ b = cc in
      let rests : o ≡ p = items_once_at r (rw middles at s) in
      rw (entries, rests) refl
  items_once_at (items.has_item {at = at} {middle = m} {entry = a} n x r) (items.stops_in_item {k = k} {why = why} d y) = let h = item_once at (read a m) (stop why k) x y in absurd (cc)
  items_once_at (items.stops_in_item n x) (items.is_end f) = absurd (n f)
  items_once_at (items.stops_in_item {at = at} {k = k} {why = why} n x) (items.has_item {middle = m} {entry = a} d y s) = let h = item_once at (stop why k) (read a m) x y in absurd (cc)
  items_once_at (items.stops_in_item {at = at} {k = k} {why = why} n x) (items.stops_in_item {k = l} {why = other} d y) = let h = item_once at (stop why k) (stop other l) x y in cc

  pub items_once : Once (items.Items bytes tokens)
  items_once at o p x y = items_once_at x y

  -- names
  pub integers_once : (a b : Bool) (P : Type 0) → (a ≡ true) ↔ P → (b ≡ true) ↔ P → a ≡ b
  integers_once true true P p q = refl
  integers_once true false P p q = absurd (let e = q.1 (p.0 refl) in cc)
  integers_once false true P p q = absurd (let e = p.1 (q.0 refl) in cc)
  integers_once false false P p q = refl

  pub name_is_once : (k : ℕ) (m n : Name) → IsName bytes tokens k m → IsName bytes tokens k n → m ≡ n
  name_is_once k m n a b =
      let texts : m.text ≡ n.text = a.text ∙ sym b.text in
      let integers : m.integer ≡ n.integer = integers_once m.integer n.integer (terminal_at bytes tokens k ≡ Integer) a.integer b.integer in
      let both : record { text = m.text; integer = m.integer } ≡ (let r : Name = record { text = n.text; integer = n.integer } in r) = rw (texts, integers) refl in
      both

  names_are_once : {ks : List ℕ} {ms ns : List (Name × Place)} → AreNames bytes tokens ks ms → AreNames bytes tokens ks ns → ms ≡ ns
  names_are_once no_names no_names = refl
  names_are_once (one_name {k = k} {name = m} {names = ms} a all) (one_name {name = n} {names = ns} b others) =
      let first : m ≡ n = name_is_once k m n a b in
      let rest : ms ≡ ns = names_are_once all others in
      rw (first, rest) refl

  selected_are_once : (ks : Option (List ℕ)) (ms ns : Option (List (Name × Place))) → AreSelected bytes tokens ks ms → AreSelected bytes tokens ks ns → ms ≡ ns
  selected_are_once None None None a b = refl
  selected_are_once None None (Some ns) a b = absurd b
  selected_are_once None (Some ms) ns a b = absurd a
  selected_are_once (Some ks) None ns a b = absurd a
  selected_are_once (Some ks) (Some ms) None a b = absurd b
  selected_are_once (Some ks) (Some ms) (Some ns) a b = ap Some (names_are_once a b)

  module _ (table : Table) (distinct : IsDistinct table) where
    clause_is_once : (f : Formula) (c d : Clause) → MeansClause bytes tokens table f c → MeansClause bytes tokens table f d → c ≡ d
    clause_is_once f c d a b =
        let names : c.name ≡ d.name = name_is_once f.heading.name c.name d.name a.name b.name in
        let roles : c.role ≡ d.role = a.role ∙ sym b.role in
        let signs : c.positive ≡ d.positive = a.positive ∙ sym b.positive in
        let sides : (c.left, c.right) ≡ (d.left, d.right) = says_sides_once bytes tokens table distinct f.literal.sides (c.left, c.right) (d.left, d.right) a.sides b.sides in
        let lefts : c.left ≡ d.left = ap (λ (p : Tree × Tree). p.0) sides in
        let rights : c.right ≡ d.right = ap (λ (p : Tree × Tree). p.1) sides in
        let places : c.places ≡ d.places = a.places ∙ sym b.places in
        let place : c.place ≡ d.place = a.place ∙ sym b.place in
        let all : record { name = c.name; role = c.role; positive = c.positive; left = c.left; right = c.right; places = c.places; place = c.place } ≡ (let r : Clause = record { name = d.name; role = d.role; positive = d.positive; left = d.left; right = d.right; places = d.places; place = d.place } in r) = rw (names, roles, signs, lefts, rights, places, place) refl in
        all

    pub item_is_once : (entry : Entry) (i j : Item) → MeansItem bytes tokens table entry i → MeansItem bytes tokens table entry j → i ≡ j
    item_is_once (formula f) (item.Clause c) (item.Clause d) a b = ap item.Clause (clause_is_once f c d a b)
    item_is_once (formula f) (item.Clause c) (item.Include d) a b = absurd b
    item_is_once (formula f) (item.Include c) j a b = absurd a
    item_is_once (inclusion i) (item.Clause c) j a b = absurd a
    item_is_once (inclusion i) (item.Include c) (item.Clause d) a b = absurd b
    item_is_once (inclusion i) (item.Include c) (item.Include d) a b =
        let files : c.file ≡ d.file = a.file ∙ sym b.file in
        let names : c.names ≡ d.names = selected_are_once i.names c.names d.names a.names b.names in
        let place : c.place ≡ d.place = a.place ∙ sym b.place in
        let all : record { file = c.file; names = c.names; place = c.place } ≡ (let r : Include = record { file = d.file; names = d.names; place = d.place } in r) = rw (files, names, place) refl in
        ap item.Include all

    items_are_once : {entries : List Entry} {is js : List Item} → MeanItems bytes tokens table entries is → MeanItems bytes tokens table entries js → is ≡ js
    items_are_once no_items no_items = refl
    items_are_once (one_item {entry = entry} {i = i} {items = is} m all) (one_item {i = j} {items = js} n others) =
        let first : i ≡ j = item_is_once entry i j m n in
        let rest : is ≡ js = items_are_once all others in
        rw (first, rest) refl

    pub says_items_once : (entries : List Entry) (is js : List Item) → MeanItems bytes tokens table entries is → MeanItems bytes tokens table entries js → is ≡ js
    says_items_once entries is js a b = items_are_once a b
