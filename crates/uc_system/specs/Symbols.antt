-- The lines of the symbols, the least first:
--
--   % symbol NAME ARITY WEIGHT         without the weight for the path order
--
-- A name stands as it is printed. An arity is at most 255. A weight is at most 1,000,000, a constant's not below that of a
-- variable, and 0 for a unary symbol in the last of these lines alone, where the first line has to say so. No symbol stands
-- twice, and one is a constant.
use Rattle.std.specs.Prelude.{◌≡◌, ℕ, ◌+◌, ◌<◌, ◌≤◌, ◌==◌, ◌&&◌, ◌||◌, not, nat_lt, nat_eq, Bool, true, false, List, [], ◌∷◌, ◌++◌, length, map, codes, Option, Some, None, if◌then◌else◌}
use Rattle.std.specs.List.{list_any, starts_with}
use Rattle.uc_term.specs.declared.node.Sym.{Sym}
use Rattle.uc_term.specs.Table.{Table, IsSymbol, arity_of}
use Rattle.uc_term.specs.Signatures.{same_symbol}
use Rattle.uc_clause.specs.Names.{IsSpellable, spelling}
use Rattle.uc_ordering.specs.Weights.{MAX_WEIGHT}
use Rattle.uc_system.specs.declared.fault.SystemFault.{SystemFault}
use Rattle.uc_system.specs.declared.fault.SystemFault.TheVariants.{Limit}
use Rattle.uc_system.specs.declared.symbols.Ranked.{Ranked}
use Rattle.uc_system.specs.declared.header.Kind.{Kind}
use Rattle.uc_system.specs.declared.header.Kind.TheVariants.{Weighing, Paths}
use Rattle.uc_system.specs.declared.header.Header.{Header}
use Rattle.uc_system.specs.Numerals.{is_numeral, value_of}
use Rattle.uc_system.specs.Lines.{Cut, first_line, place_in, departs, Outcome, gets, fails, Rule, unless}

abbrev pub symbol_words : List ℕ
symbol_words = codes "% symbol "

-- a line of a symbol begins here, or what should be one
abbrev pub begins_symbol : List ℕ → Bool
begins_symbol text = starts_with nat_eq text symbol_words

-- what a line says of a symbol: its name, and its arity and weight as they are written
pub record Parts : Type 0 where
  pub name : List ℕ
  pub arity : List ℕ
  pub weight : List ℕ

-- what stands before the arity
abbrev pub symbol_front : List ℕ → List ℕ
symbol_front name = symbol_words ++ spelling name ++ codes " "

abbrev pub symbol_line : Kind → Parts → List ℕ
symbol_line (Weighing w0) p = symbol_front p.name ++ p.arity ++ codes " " ++ p.weight
symbol_line Paths p = symbol_front p.name ++ p.arity

abbrev pub IsWeight : Kind → List ℕ → Type 0
IsWeight (Weighing w0) weight = is_numeral weight ≡ true
IsWeight Paths weight = weight ≡ []

-- the line is exactly so
pub record IsSymbolLine (kind : Kind) (line : List ℕ) (p : Parts) : Type 0 where
  pub name : IsSpellable p.name
  pub arity : is_numeral p.arity ≡ true
  pub weight : IsWeight kind p.weight
  pub is : line ≡ symbol_line kind p

-- exactly a symbol's line stands here
pub record StandsSymbol (kind : Kind) (text : List ℕ) : Type 0 where
  pub cut : Cut
  pub is_cut : first_line text ≡ Some cut
  pub parts : Parts
  pub line : IsSymbolLine kind cut.line parts

-- whether one does
abbrev pub IsFollowed : Kind → List ℕ → Bool → Type 0
IsFollowed kind text true = StandsSymbol kind text
IsFollowed kind text false = StandsSymbol kind text → ⊥

abbrev pub symbols_in : List Ranked → List Sym
symbols_in ss = map (λ (s : Ranked). s.symbol) ss

abbrev pub weights_in : List Ranked → List ℕ
weights_in ss = map (λ (s : Ranked). s.weight) ss

-- the weight is too great, or a constant's and below a variable's, or 0 where the symbol isn't unary
abbrev pub is_bad_weight : Kind → ℕ → ℕ → Bool
is_bad_weight (Weighing w0) arity weight = nat_lt MAX_WEIGHT weight || (((arity == 0) && nat_lt weight w0) || ((weight == 0) && not (arity == 1)))
is_bad_weight Paths arity weight = false

abbrev pub weighs_nothing : Kind → ℕ → Bool
weighs_nothing (Weighing w0) weight = weight == 0
weighs_nothing Paths weight = false

abbrev pub is_one_of : Sym → List Sym → Bool
is_one_of f fs = list_any (same_symbol f) fs

module _ (header : Header) where
  -- What is wrong with a symbol of this arity and weight in the line of this number: first what its line says, then that the
  -- first line doesn't say that a symbol weighs 0, then that exactly the line of another one follows one that does.
  abbrev pub symbol_fault : Bool → Bool → ℕ → ℕ → ℕ → Option SystemFault
  symbol_fault repeated followed n arity weight =
      if is_bad_weight header.kind arity weight || repeated then Some (departs n)
      else (if weighs_nothing header.kind weight && not header.light then Some (departs header.first)
      else (if weighs_nothing header.kind weight && followed then Some (departs n) else None))

  abbrev pub has_light : List Ranked → Bool
  has_light ss = list_any (λ (s : Ranked). weighs_nothing header.kind s.weight) ss

abbrev pub has_constant : Table → List Ranked → Bool
has_constant table ss = list_any (λ (s : Ranked). arity_of table s.symbol == 0) ss

-- the symbol, or what is wrong with it
abbrev pub ranked_or : Option SystemFault → Ranked → ℕ → List ℕ → Outcome Ranked
ranked_or None s n rest = gets s (n + 1) rest
ranked_or (Some fault) s n rest = fails fault

module _ (table : Table) (header : Header) where
  -- a symbol's line, behind the lines of these
  pub data SymbolAt (earlier : List Sym) (n : ℕ) (text : List ℕ) : Outcome Ranked → Type 0 where
    is_no_whole_line : first_line text ≡ None → SymbolAt earlier n text (fails (departs n))
    is_no_symbol : {c : Cut} → first_line text ≡ Some c → ((p : Parts) → IsSymbolLine header.kind c.line p → ⊥) → SymbolAt earlier n text (fails (departs n))
    has_too_many : {c : Cut} {p : Parts} → first_line text ≡ Some c → IsSymbolLine header.kind c.line p → 255 < value_of p.arity → SymbolAt earlier n text (fails (Limit (place_in n (length (symbol_front p.name)))))
    is_symbol : {c : Cut} {p : Parts} {outcome : Outcome Ranked} (f : Sym) (followed : Bool) → first_line text ≡ Some c → IsSymbolLine header.kind c.line p → value_of p.arity ≤ 255 → IsSymbol table f p.name (value_of p.arity) → IsFollowed header.kind c.rest followed → outcome ≡ ranked_or (symbol_fault header (is_one_of f earlier) followed n (value_of p.arity) (value_of p.weight)) (record { symbol = f; weight = value_of p.weight }) n c.rest → SymbolAt earlier n text outcome

  -- all of these lines, behind those of these symbols
  pub data SymbolsAt : List Ranked → ℕ → List ℕ → Outcome (List Ranked) → Type 0 where
    no_more_symbols : {earlier : List Ranked} {n : ℕ} {text : List ℕ} → begins_symbol text ≡ false → SymbolsAt earlier n text (gets earlier n text)
    one_more_symbol : {earlier : List Ranked} {n m : ℕ} {text rest : List ℕ} {s : Ranked} {outcome : Outcome (List Ranked)} → begins_symbol text ≡ true → SymbolAt (symbols_in earlier) n text (gets s m rest) → SymbolsAt (earlier ++ s ∷ []) m rest outcome → SymbolsAt earlier n text outcome
    fails_in_symbol : {earlier : List Ranked} {n : ℕ} {text : List ℕ} {fault : SystemFault} → begins_symbol text ≡ true → SymbolAt (symbols_in earlier) n text (fails fault) → SymbolsAt earlier n text (fails fault)

  abbrev pub symbol_lines : Rule (List Ranked)
  symbol_lines n text outcome = SymbolsAt [] n text outcome

  -- what is wrong with all of them, where the line of this number stands behind the last: the first line says that one weighs 0,
  -- and none does; or there is no constant
  abbrev pub symbols_fault : List Ranked → ℕ → Option SystemFault
  symbols_fault ss n =
      if header.light && not (has_light header ss) then Some (departs header.first)
      else (if has_constant table ss then None else Some (departs n))

  abbrev pub are_complete : List Ranked → Rule (Unit {0})
  are_complete ss n text outcome = unless (symbols_fault ss n) n text outcome
