-- The tokens of a printed term, and what the grammar reads from them.
use Rattle.std.proofs.Common.{◌≡◌, ℕ, zero, suc, ◌+◌, ◌-◌, ◌<◌, List, [], ◌∷◌, ◌++◌, length, get_or, drop, refl, sym, ap, ◌∙◌, subst, arith, append_assoc, true}
use Rattle.std.specs.Prelude.{Some, None, slice_get, slice_index, slice_range, decimal}
use Rattle.std.specs.List.{list_all, prefix_len}
use Rattle.std.specs.Str.Parse.{AllDigits}
use Rattle.std.proofs.Math.Seq.{drop-append_seam, take-append_seam}
use Rattle.std.proofs.lemmas.Fmt.{decimal_is_IsNumeral}
use Rattle.std.proofs.lemmas.Str.Parse.{tells_digits}
use Rattle.std.proofs.lemmas.Bool.{and_from}
use Rattle.std.proofs.lemmas.Bool.Decides.{nat_tests}
use Rattle.std.proofs.lemmas.List.{get_or-drop}
use Rattle.uc_term.specs.Tree.{Tree, var, app, Trees, none, more, nodes, nodes_all}
use Rattle.uc_term.specs.Over.{IsOver, AreOver}
use Rattle.uc_term.specs.Table.{Table, name_of, arity_of}
use Rattle.uc_clause.specs.declared.token.Kind.{Kind}
use Rattle.uc_clause.specs.declared.token.Kind.TheVariants.{Upper, Mark}
use Rattle.uc_clause.specs.declared.token.Token.{Token}
use Rattle.uc_clause.specs.declared.terminal.Terminal.TheVariants as terminal
use Rattle.uc_clause.specs.Bytes.{is_word}
use Rattle.uc_clause.specs.Names.{spelling, kind_of_word, stands_for}
use Rattle.uc_clause.specs.Tokens.{token_at}
use Rattle.uc_clause.specs.Terminals.{terminal_at, terminal_of_kind, bytes_at, word_at}
use Rattle.uc_clause.specs.Parse.{Parse, Parses, variable, applied, no_more, also, size, size_all}
use Rattle.uc_clause.specs.Printing.{variable_text, term_text, args_text, rest_text}
use Rattle.uc_clause.specs.Printable.{IsPrintable, IsPrintableSymbol, IsNumbered, AreNumbered}
use Rattle.uc_term.specs.Variables.{variables, variables_all}
use Rattle.uc_clause.specs.declared.clause.Clause.{Clause}
use Rattle.uc_clause.specs.Names.{IsSpellableName}
use Rattle.uc_clause.proofs.Printing.{numbered_split}
use Rattle.uc_clause.proofs.Joined.{Piece, lexeme, blank, joined, AreApart, tokens_of, upper_stands, mark_stands, spelling_stands}
use Rattle.uc_clause.proofs.PieceLemmas.{drop_both}

-- what is read again: each symbol is printable, and each variable's number has 32 bits
abbrev pub IsReadable : Table → Tree → Type 0
IsReadable table = IsOver (IsPrintableSymbol table) (arity_of table) IsNumbered

abbrev pub IsReadableClause : Table → Clause → Type 0
IsReadableClause table c = IsSpellableName c.name × IsReadable table c.left × IsReadable table c.right

mutual
  pub readable : (table : Table) (t : Tree) → IsPrintable table t → AreNumbered (variables t) → IsReadable table t
  readable table (var x) printable numbered = numbered.0
  readable table (app f ts) printable numbered = (printable.0, printable.1, readable_all table ts printable.2 numbered)

  readable_all : (table : Table) (ts : Trees) → AreOver (IsPrintableSymbol table) (arity_of table) (λ _. Unit {0}) ts → AreNumbered (variables_all ts) → AreOver (IsPrintableSymbol table) (arity_of table) IsNumbered ts
  readable_all table none printable numbered = tt
  readable_all table (more t ts) printable numbered =
      let both = numbered_split (variables t) (variables_all ts) numbered in
      (readable table t printable.0 both.0, readable_all table ts printable.1 both.1)

module _ (table : Table) where
  -- the pieces of a term before others
  abbrev mutual
    pub term_pieces : Tree → List Piece → List Piece
    term_pieces (var n) ps = lexeme Upper (variable_text n) ∷ ps
    term_pieces (app f ts) ps = lexeme (kind_of_word (name_of table f)) (spelling (name_of table f)) ∷ args_pieces ts ps

    pub args_pieces : Trees → List Piece → List Piece
    args_pieces none ps = ps
    args_pieces (more t ts) ps = lexeme Mark (40 ∷ []) ∷ term_pieces t (rest_pieces ts ps)

    pub rest_pieces : Trees → List Piece → List Piece
    rest_pieces none ps = lexeme Mark (41 ∷ []) ∷ ps
    rest_pieces (more t ts) ps = lexeme Mark (44 ∷ []) ∷ term_pieces t (rest_pieces ts ps)

  mutual
    pub joined_term : (t : Tree) (ps : List Piece) → joined (term_pieces t ps) ≡ term_text table t ++ joined ps
    joined_term (var n) ps = refl
    joined_term (app f ts) ps = ap (λ l. spelling (name_of table f) ++ l) (joined_args ts ps) ∙ sym (append_assoc (spelling (name_of table f)) (args_text table ts) (joined ps))

    joined_args : (ts : Trees) (ps : List Piece) → joined (args_pieces ts ps) ≡ args_text table ts ++ joined ps
    joined_args none ps = refl
    joined_args (more t ts) ps = ap (λ l. 40 ∷ l) (joined_term t (rest_pieces ts ps) ∙ ap (λ l. term_text table t ++ l) (joined_rest ts ps) ∙ sym (append_assoc (term_text table t) (rest_text table ts) (joined ps)))

    joined_rest : (ts : Trees) (ps : List Piece) → joined (rest_pieces ts ps) ≡ rest_text table ts ++ joined ps
    joined_rest none ps = refl
    joined_rest (more t ts) ps = ap (λ l. 44 ∷ l) (joined_term t (rest_pieces ts ps) ∙ ap (λ l. term_text table t ++ l) (joined_rest ts ps) ∙ sym (append_assoc (term_text table t) (rest_text table ts) (joined ps)))

-- digits are bytes of words
digits_words : (ds : List ℕ) → AllDigits 10 ds → list_all is_word ds ≡ true
digits_words [] all = refl
digits_words (d ∷ ds) all = let parts = tells_digits.parts d ds all in and_from (is_word d) (list_all is_word ds) (grind (arith, nat_tests, parts.0)) (digits_words ds parts.1)

pub number_words : (n : ℕ) → IsNumbered n → list_all is_word (decimal (n + 1)) ≡ true
number_words n h = digits_words (decimal (n + 1)) (decimal_is_IsNumeral (n + 1) (omega arith)).0.1

-- no word goes on here
abbrev pub Parts : List Piece → Type 0
Parts ps = prefix_len is_word (joined ps) ≡ 0

module _ (table : Table) where
  front_args : (ts : Trees) (ps : List Piece) → Parts ps → Parts (args_pieces table ts ps)
  front_args none ps parts = parts
  front_args (more t ts) ps parts = refl

  front_rest : (ts : Trees) (ps : List Piece) → Parts (rest_pieces table ts ps)
  front_rest none ps = refl
  front_rest (more t ts) ps = refl

  mutual
    pub apart_term : (t : Tree) (ps : List Piece) → IsReadable table t → AreApart ps → Parts ps → AreApart (term_pieces table t ps)
    apart_term (var n) ps printable apart parts = (upper_stands 88 (decimal (n + 1)) (joined ps) refl (number_words n printable) parts, apart)
    apart_term (app f ts) ps printable apart parts = (spelling_stands (name_of table f) (joined (args_pieces table ts ps)) printable.0.1 (front_args ts ps parts), apart_args ts ps printable.2 apart)

    apart_args : (ts : Trees) (ps : List Piece) → AreOver (IsPrintableSymbol table) (arity_of table) IsNumbered ts → AreApart ps → AreApart (args_pieces table ts ps)
    apart_args none ps printable apart = apart
    apart_args (more t ts) ps printable apart = (mark_stands 40 (joined (term_pieces table t (rest_pieces table ts ps))) refl refl (λ h. omega arith) (λ h. omega arith) (λ h. omega arith), apart_term t (rest_pieces table ts ps) printable.0 (apart_rest ts ps printable.1 apart) (front_rest ts ps))

    apart_rest : (ts : Trees) (ps : List Piece) → AreOver (IsPrintableSymbol table) (arity_of table) IsNumbered ts → AreApart ps → AreApart (rest_pieces table ts ps)
    apart_rest none ps printable apart = (mark_stands 41 (joined ps) refl refl (λ h. omega arith) (λ h. omega arith) (λ h. omega arith), apart)
    apart_rest (more t ts) ps printable apart = (mark_stands 44 (joined (term_pieces table t (rest_pieces table ts ps))) refl refl (λ h. omega arith) (λ h. omega arith) (λ h. omega arith), apart_term t (rest_pieces table ts ps) printable.0 (apart_rest ts ps printable.1 apart) (front_rest ts ps))

-- how many tokens
abbrev mutual
  pub width : Tree → ℕ
  width (var n) = 1
  width (app f ts) = 1 + args_width ts

  pub args_width : Trees → ℕ
  args_width none = 0
  args_width (more t ts) = 1 + width t + rest_width ts

  pub rest_width : Trees → ℕ
  rest_width none = 1
  rest_width (more t ts) = 1 + width t + rest_width ts

-- the parse of a term that is printed from this token on
abbrev mutual
  pub parse_at : ℕ → Tree → Parse
  parse_at at (var n) = variable at
  parse_at at (app f ts) = applied at (parses_at (at + 2) ts)

  pub parses_at : ℕ → Trees → Parses
  parses_at at none = no_more
  parses_at at (more t ts) = also (parse_at at t) (parses_at (at + width t + 1) ts)

mutual
  pub size_parse : (at : ℕ) (t : Tree) → size (parse_at at t) ≡ nodes t
  size_parse at (var n) = refl
  size_parse at (app f ts) = omega (arith, size_parses (at + 2) ts)

  pub size_parses : (at : ℕ) (ts : Trees) → size_all (parses_at at ts) ≡ nodes_all ts
  size_parses at none = refl
  size_parses at (more t ts) = omega (arith, size_parse at t, size_parses (at + width t + 1) ts)

dropped_front : {A : Type 0} (xs : List A) (y : A) (ys : List A) → xs ≡ y ∷ ys → (slice_get xs 0 ≡ Some y) × (drop 1 xs ≡ ys)
dropped_front [] y ys e = cc
dropped_front (x ∷ xs) y ys e = (cc, cc)

get_dropped : {A : Type 0} (xs : List A) (i : ℕ) (y : A) (ys : List A) → drop i xs ≡ y ∷ ys → (slice_get xs i ≡ Some y) × (drop (i + 1) xs ≡ ys)
get_dropped xs zero y ys e = dropped_front xs y ys e
get_dropped [] (suc i) y ys e = cc
get_dropped (x ∷ xs) (suc i) y ys e = let further : suc i + 1 ≡ suc (i + 1) = omega arith in rw further (get_dropped xs i y ys e)

none_in : {A : Type 0} (i : ℕ) → slice_get {X = A} [] i ≡ None
none_in zero = refl
none_in (suc i) = refl

get_none : {A : Type 0} (xs : List A) (i : ℕ) → drop i xs ≡ [] → slice_get xs i ≡ None
get_none [] i e = none_in i
get_none (x ∷ xs) zero e = cc
get_none (x ∷ xs) (suc i) e = get_none xs i e

module _ (text : List ℕ) (tokens : List Token) where
  -- from this token and this byte on the text is these pieces
  pub record Here (at pos : ℕ) (ps : List Piece) : Type 0 where
    pub bytes : drop pos text ≡ joined ps
    pub lexed : drop at tokens ≡ tokens_of text pos ps

  -- what stands here
  pub record Facts (at pos : ℕ) (kind : Kind) (x : List ℕ) (ps : List Piece) : Type 0 where
    pub get : slice_get tokens at ≡ Some (token_at text kind pos (length x))
    pub bytes : bytes_at text tokens at ≡ x
    pub word : word_at text tokens at ≡ stands_for kind x
    pub terminal : terminal_at text tokens at ≡ terminal_of_kind kind (get_or x 0 0)
    pub next : Here (at + 1) (pos + length x) ps

  first_byte : (pos : ℕ) (x rest : List ℕ) → 0 < length x → drop pos text ≡ x ++ rest → slice_index text pos ≡ get_or x 0 0
  first_byte pos [] rest some e = absurd (omega arith)
  first_byte pos (b ∷ x) rest some e = let same : pos + 0 ≡ pos = omega arith in ap (λ i. get_or text i 0) (sym same) ∙ sym (get_or-drop pos text 0 0) ∙ ap (λ l. get_or l 0 0) e

  slice_is : (pos : ℕ) (x rest : List ℕ) → drop pos text ≡ x ++ rest → slice_range text pos (pos + length x) ≡ x
  slice_is pos x rest e = let len : pos + length x - pos ≡ length x = omega arith in rw (len, e) (take-append_seam x rest)

  pub facts : (at pos : ℕ) (kind : Kind) (x : List ℕ) (ps : List Piece) → 0 < length x → Here at pos (lexeme kind x ∷ ps) → Facts at pos kind x ps
  facts at pos kind x ps some here =
      let got = get_dropped tokens at (token_at text kind pos (length x)) (tokens_of text (pos + length x) ps) here.lexed in
      let spelled : slice_range text pos (pos + length x) ≡ x = slice_is pos x (joined ps) here.bytes in
      record {
        get = got.0;
        bytes = rw (got.0, spelled) refl;
        word = rw (got.0, spelled) refl;
        terminal = rw (got.0, first_byte pos x (joined ps) some here.bytes) refl;
        next = record { bytes = sym (drop_both (length x) pos text) ∙ ap (drop (length x)) here.bytes ∙ drop-append_seam x (joined ps); lexed = got.1 };
      }

  pub skipped : (at pos b : ℕ) (ps : List Piece) → Here at pos (blank b ∷ ps) → Here at (pos + 1) ps
  skipped at pos b ps here = record { bytes = sym (drop_both 1 pos text) ∙ ap (drop 1) here.bytes; lexed = here.lexed }

  pub at_end : (at pos : ℕ) → Here at pos [] → terminal_at text tokens at ≡ terminal.End
  at_end at pos here = rw (get_none tokens at here.lexed) refl

  pub moved : (i j pos : ℕ) (ps : List Piece) → i ≡ j → Here i pos ps → Here j pos ps
  moved i j pos ps e here = subst (λ k. Here k pos ps) e here
