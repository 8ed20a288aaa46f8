-- What a text reads as in a table it reads as in each table that begins with it.
use Rattle.std.proofs.Common.{◌≡◌, ℕ, ◌==◌, Bool, true, ◌||◌, List, [], ◌∷◌, ◌++◌, length, refl, sym, ap, ap₂, ◌∙◌, subst, length-append, arith}
use Rattle.std.specs.Prelude.{Result, Some, None, ◌&&◌, not, if◌then◌else◌}
use Rattle.uc_term.specs.declared.node.Sym.{Sym}
use Rattle.uc_term.specs.declared.equation.Equation.{Equation}
use Rattle.uc_term.specs.Tree.{Tree, var, app, Trees, none, more}
use Rattle.uc_term.specs.Over.{IsTerm, AreOver}
use Rattle.uc_term.specs.Table.{Table, Grows, Has, name_of, arity_of}
use Rattle.uc_term.proofs.Grown.{name-grows, arity-grows}
use Rattle.uc_clause.specs.Names.{spelling, IsSpellable}
use Rattle.uc_clause.specs.Printing.{term_text, args_text, rest_text, sign_text}
use Rattle.uc_clause.specs.Printable.{IsPrintableSymbol}
use Rattle.uc_clause.proofs.Tables.{symbol_grows}
use Rattle.uc_order.specs.Members.{In, Each}
use Rattle.uc_system.specs.declared.fault.SystemFault.{SystemFault}
use Rattle.uc_system.specs.declared.header.Header.{Header}
use Rattle.uc_system.specs.declared.symbols.Ranked.{Ranked}
use Rattle.uc_system.specs.declared.system.SystemText.{SystemText}
use Rattle.uc_system.specs.Lines.{departs, Outcome, passed_or, goes_on, fails_first}
use Rattle.uc_system.specs.Symbols.{symbols_in, SymbolAt, is_no_whole_line, is_no_symbol, has_too_many, is_symbol, SymbolsAt, no_more_symbols, one_more_symbol, fails_in_symbol, has_light, has_constant, are_complete}
use Rattle.uc_system.specs.Facts.{fact_front, fact_end, IsSide, IsFact, IsFactOfAnySize, HasLargeTerm, left_is_large, right_is_large, IsFactLine, IsLargeLine, is_large, FactsAt, no_more_facts, one_more_fact, has_large_term, is_no_fact}
use Rattle.uc_system.specs.Facts as facts
use Rattle.uc_system.specs.Unread.{IsFactText}
use Rattle.uc_system.specs.Reading.{system_body, system_lines, ReadsSystem, reads, goes_further, fails_within}
use Rattle.uc_system.proofs.Precedence.{each_in, symbols_printable}

has_later : (old new : Table) → Grows old new → (f : Sym) → Has old f → Has new f
has_later old new g f h = omega (arith, h, ap length g.1, length-append old g.0)

-- the two tables have the same names and arities at these symbols
pub record Agree (t u : Table) (precedence : List Sym) : Type 0 where
  pub names : (f : Sym) → In precedence f → name_of t f ≡ name_of u f
  pub arities : (f : Sym) → In precedence f → arity_of t f ≡ arity_of u f

pub agree_back : (t u : Table) (precedence : List Sym) → Agree t u precedence → Agree u t precedence
agree_back t u precedence a = record { names = λ f i. sym (a.names f i); arities = λ f i. sym (a.arities f i) }

module _ (t u : Table) (precedence : List Sym) (a : Agree t u precedence) where
  abbrev AreSides : Table → Trees → Type 0
  AreSides table ts = AreOver (In precedence) (arity_of table) (λ _. Unit {0}) ts

  mutual
    side_moves : (x : Tree) → IsTerm (In precedence) (arity_of t) x → IsTerm (In precedence) (arity_of u) x
    side_moves (var n) h = tt
    side_moves (app f xs) h = (h.0, h.1 ∙ a.arities f h.0, sides_move xs h.2)

    sides_move : (xs : Trees) → AreSides t xs → AreSides u xs
    sides_move none h = tt
    sides_move (more x xs) h = (side_moves x h.0, sides_move xs h.1)

  mutual
    text_moves : (x : Tree) → IsTerm (In precedence) (arity_of t) x → term_text t x ≡ term_text u x
    text_moves (var n) h = refl
    text_moves (app f xs) h = ap₂ (λ n s. spelling n ++ s) (a.names f h.0) (args_move xs h.2)

    args_move : (xs : Trees) → AreSides t xs → args_text t xs ≡ args_text u xs
    args_move none h = refl
    args_move (more x xs) h = ap₂ (λ p q. 40 ∷ p ++ q) (text_moves x h.0) (rest_moves xs h.1)

    rest_moves : (xs : Trees) → AreSides t xs → rest_text t xs ≡ rest_text u xs
    rest_moves none h = refl
    rest_moves (more x xs) h = ap₂ (λ p q. 44 ∷ p ++ q) (text_moves x h.0) (rest_moves xs h.1)

  pub fact_moves : (e : Equation) → IsFact t precedence e → IsFact u precedence e
  fact_moves e f = record { left = record { over = side_moves e.left f.left.over; small = f.left.small }; right = record { over = side_moves e.right f.right.over; small = f.right.small }; in_order = f.in_order }

  pub fact_line_moves : (k : ℕ) (line : List ℕ) (e : Equation) → IsFactLine t precedence k line e → IsFactLine u precedence k line e
  fact_line_moves k line e l = record {
    is = l.is ∙ ap₂ (λ p q. fact_front k ++ (p ++ sign_text true ++ q) ++ fact_end) (text_moves e.left l.fact.left.over) (text_moves e.right l.fact.right.over);
    fact = fact_moves e l.fact;
  }

  sized_moves : (e : Equation) → IsFactOfAnySize t precedence e → IsFactOfAnySize u precedence e
  sized_moves e f = record { left = side_moves e.left f.left; right = side_moves e.right f.right; in_order = f.in_order; numbered = f.numbered }

  large_moves : (e : Equation) → IsFactOfAnySize t precedence e → (from : ℕ) → HasLargeTerm t e from → HasLargeTerm u e from
  large_moves e f _ (left_is_large h) = left_is_large h
  large_moves e f _ (right_is_large h k) = subst (HasLargeTerm u e) (ap (λ x. length (x ++ sign_text true)) (sym (text_moves e.left f.left))) (right_is_large h k)

  pub large_line_moves : (k : ℕ) (line : List ℕ) (from : ℕ) → IsLargeLine t precedence k line from → IsLargeLine u precedence k line from
  large_line_moves k line _ (is_large {e = e} {from = from} is f large) =
      is_large (is ∙ ap₂ (λ p q. fact_front k ++ (p ++ sign_text true ++ q) ++ fact_end) (text_moves e.left f.left) (text_moves e.right f.right)) (sized_moves e f) (large_moves e f from large)

facts_move : (t u : Table) (precedence : List Sym) → Agree t u precedence → {earlier : List Equation} {n : ℕ} {text : List ℕ} {o : Outcome (List Equation)} → FactsAt t precedence earlier n text o → FactsAt u precedence earlier n text o
facts_move t u precedence a (no_more_facts e l) = no_more_facts e l
facts_move t u precedence a (one_more_fact e l x) = one_more_fact e (fact_line_moves t u precedence a _ _ _ l) (facts_move t u precedence a x)
facts_move t u precedence a (has_large_term e l) = has_large_term e (large_line_moves t u precedence a _ _ _ l)
facts_move t u precedence a (is_no_fact e l x y) = is_no_fact e l (λ g m. x g (fact_line_moves u t precedence (agree_back t u precedence a) _ _ g m)) (λ from l. y from (large_line_moves u t precedence (agree_back t u precedence a) _ _ from l))
facts_move t u precedence a (facts.is_no_whole_line e) = facts.is_no_whole_line e

module _ (old new : Table) (grows : Grows old new) where
  agrees : (precedence : List Sym) → Each (IsPrintableSymbol old) precedence → Agree old new precedence
  agrees precedence all = record {
    names = λ f i. sym (name-grows old new grows f (each_in (IsPrintableSymbol old) precedence f all i).0);
    arities = λ f i. sym (arity-grows old new grows f (each_in (IsPrintableSymbol old) precedence f all i).0);
  }

  pub facts_stay : (precedence : List Sym) → Each (IsPrintableSymbol old) precedence → {earlier : List Equation} {n : ℕ} {text : List ℕ} {o : Outcome (List Equation)} → FactsAt old precedence earlier n text o → FactsAt new precedence earlier n text o
  facts_stay precedence all x = facts_move old new precedence (agrees precedence all) x

  pub fact_text_stays : (precedence : List Sym) → Each (IsPrintableSymbol old) precedence → (text : List ℕ) (e : Equation) → IsFactText old precedence text e → IsFactText new precedence text e
  fact_text_stays precedence all text e l = record {
    is = l.is ∙ ap₂ (λ p q. p ++ sign_text true ++ q) (text_moves old new precedence (agrees precedence all) e.left l.fact.left.over) (text_moves old new precedence (agrees precedence all) e.right l.fact.right.over);
    fact = fact_moves old new precedence (agrees precedence all) e l.fact;
  }

  pub printable_stays : (f : Sym) → IsPrintableSymbol old f → IsPrintableSymbol new f
  printable_stays f p =
      let names = name-grows old new grows f p.0 in
      let arities = arity-grows old new grows f p.0 in
      (has_later old new grows f p.0, subst IsSpellable (sym names) p.1, omega (arith, p.2))

  module _ (header : Header) where
    pub symbol_stays : {earlier : List Sym} {n : ℕ} {text : List ℕ} {o : Outcome Ranked} → SymbolAt old header earlier n text o → SymbolAt new header earlier n text o
    symbol_stays (is_no_whole_line e) = is_no_whole_line e
    symbol_stays (is_no_symbol e h) = is_no_symbol e h
    symbol_stays (has_too_many e h l) = has_too_many e h l
    symbol_stays (is_symbol f b e h l s w o) = is_symbol f b e h l (symbol_grows old new f _ _ grows s) w o

    pub symbols_stay : {earlier : List Ranked} {n : ℕ} {text : List ℕ} {o : Outcome (List Ranked)} → SymbolsAt old header earlier n text o → SymbolsAt new header earlier n text o
    symbols_stay (no_more_symbols e) = no_more_symbols e
    symbols_stay (one_more_symbol e x y) = one_more_symbol e (symbol_stays x) (symbols_stay y)
    symbols_stay (fails_in_symbol e x) = fails_in_symbol e (symbol_stays x)

    constant_stays : (ss : List Ranked) → Each (IsPrintableSymbol old) (symbols_in ss) → has_constant old ss ≡ has_constant new ss
    constant_stays [] all = refl
    constant_stays (s ∷ ss) all = ap₂ (λ n b. (n == 0) || b) (sym (arity-grows old new grows s.symbol all.0.0)) (constant_stays ss all.1)

    pub complete_stays : (ss : List Ranked) → Each (IsPrintableSymbol old) (symbols_in ss) → (n : ℕ) (text : List ℕ) (o : Outcome (Unit {0})) → are_complete old header ss n text o → are_complete new header ss n text o
    complete_stays ss all n text o e = subst (λ (b : Bool). o ≡ passed_or (if header.light && not (has_light header ss) then Some (departs header.first) else (if b then None else Some (departs n))) n text) (constant_stays ss all) e

    body_stays : {n : ℕ} {text : List ℕ} {o : Outcome SystemText} → system_body old header n text o → system_body new header n text o
    body_stays (fails_first x) = fails_first (symbols_stay x)
    body_stays (goes_on {v = ss} {m = m} {rest = r} x (fails_first y)) = goes_on (symbols_stay x) (fails_first (complete_stays ss (symbols_printable old header ss m r x) m r _ y))
    body_stays (goes_on {v = ss} {m = m} {rest = r} x (goes_on y (fails_first z))) = goes_on (symbols_stay x) (goes_on (complete_stays ss (symbols_printable old header ss m r x) m r _ y) (fails_first (facts_stay (symbols_in ss) (symbols_printable old header ss m r x) z)))
    body_stays (goes_on {v = ss} {m = m} {rest = r} x (goes_on y (goes_on z w))) = goes_on (symbols_stay x) (goes_on (complete_stays ss (symbols_printable old header ss m r x) m r _ y) (goes_on (facts_stay (symbols_in ss) (symbols_printable old header ss m r x) z) w))

  pub lines_stay : {n : ℕ} {text : List ℕ} {o : Outcome SystemText} → system_lines old n text o → system_lines new n text o
  lines_stay (fails_first x) = fails_first x
  lines_stay (goes_on {v = header} x y) = goes_on x (body_stays header y)

  pub system_stays : (text : List ℕ) (answer : Result SystemText SystemFault) → ReadsSystem old text answer → ReadsSystem new text answer
  system_stays text _ (reads x) = reads (lines_stay x)
  system_stays text _ (goes_further x h) = goes_further (lines_stay x) h
  system_stays text _ (fails_within x) = fails_within (lines_stay x)
