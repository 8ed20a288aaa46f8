-- What the grammar reads from the pieces of a printed proof: tokens, and lists of them.
use Rattle.std.proofs.Common.{◌≡◌, ◌≢◌, ◌↔◌, ℕ, ◌+◌, ◌<◌, ◌≤◌, Bool, true, false, List, [], ◌∷◌, length, refl, sym, ap, ap₂, ◌∙◌, subst, arith, ⊎_elim, Some}
use Rattle.std.specs.Prelude.{codes, decimal, nat_le}
use Rattle.std.specs.List.{AllByRecursion}
use Rattle.std.specs.Str.Parse.{AllDigits}
use Rattle.std.proofs.lemmas.Bool.{cases_Bool}
use Rattle.std.proofs.lemmas.Bool.Decides.{nat_tests}
use Rattle.std.proofs.lemmas.Slice.Eq.{bytes_eq-Decides}
use Rattle.std.proofs.lemmas.Fmt.{digits_value-decimal}
use Rattle.std.proofs.lemmas.Str.Parse.{IsNumeralModel, numerals_by_fold, tells_digits}
use Rattle.uc_clause.specs.declared.clause.Name.{Name}
use Rattle.uc_clause.specs.declared.token.Token.{Token}
use Rattle.uc_clause.specs.declared.token.Kind.TheVariants.{Lower, Integer, Mark}
use Rattle.uc_clause.specs.declared.terminal.Terminal.{Terminal}
use Rattle.uc_clause.specs.declared.terminal.Terminal.TheVariants as terminal
use Rattle.uc_clause.specs.declared.grammar.stop.Why.TheVariants.{NoToken}
use Rattle.uc_clause.specs.Bytes.{is_name}
use Rattle.uc_clause.specs.Names.{IsSpellable, IsSpellableName, spelling, kind_of_word, name_spelling}
use Rattle.uc_clause.specs.Terminals.{terminal_at, terminal_of_mark, terminal_of_kind, bytes_at}
use Rattle.uc_clause.specs.Rules.{Rule, read, read_or_stop, goes_on, is_first, is_second}
use Rattle.uc_clause.specs.Meaning.{IsName}
use Rattle.uc_clause.specs.Items as items
use Rattle.uc_clause.specs.Items.{name_by}
use Rattle.uc_clause.proofs.Joined.{Piece, blank}
use Rattle.uc_clause.proofs.Printed.{Here, facts, skipped}
use Rattle.uc_clause.proofs.ReadBack.{spelling_some}
use Rattle.uc_clause.proofs.PrintedClause.{name_kind}
use Rattle.uc_clause.proofs.ClauseAgain.{name_some, name_is_read, name_integer, name_word}
use Rattle.uc_tstp.specs.Printing.{way_text}
use Rattle.uc_tstp.specs.Lines.{value_from, path_number, number_by, way_of, way_by, lower_by, functor_by, is_word}
use Rattle.uc_tstp.specs.Lines as lines
use Rattle.uc_tstp.specs.Printable.{IsPath}
use Rattle.uc_tstp.proofs.LinePieces.{path_pieces}
use Rattle.uc_tstp.proofs.PrintedPieces.{mark, comma, lower, word, name, number, decimal_digits, decimal_some, further_pieces, listed_pieces}

some_name : (w : List ℕ) → is_name w ≡ true → 0 < length w
some_name [] s = cc
some_name (b ∷ bs) s = omega arith

functor_read : (w : List ℕ) (b at : ℕ) → functor_by (terminal_of_kind (kind_of_word w) b) at ≡ Some at
functor_read w b at = ⊎_elim (λ e. rw e refl) (λ e. rw e refl) (cases_Bool (is_name w))

way_read : (left_to_right : Bool) → way_of (way_text left_to_right) ≡ Some left_to_right
way_read true = refl
way_read false = refl

pub way_some : (left_to_right : Bool) → 0 < length (way_text left_to_right)
way_some true = omega arith
way_some false = omega arith

values : IsNumeralModel (AllDigits 10) (value_from 0)
values = numerals_by_fold (AllDigits 10) tells_digits value_from (record { empty = λ n. refl; more = λ n c cs k. refl })

path_number_read : (n : ℕ) → 1 ≤ n → n ≤ 255 → path_number 0 (decimal n) ≡ Some n
path_number_read n low high =
    let value : value_from 0 (decimal n) ≡ n = digits_value-decimal values n (omega arith) in
    let above : nat_le 1 n ≡ true = grind (arith, nat_tests) in
    let below : nat_le n 255 ≡ true = grind (arith, nat_tests) in
    rw (decimal_digits n high, value, above, below) refl

module _ (text : List ℕ) (tokens : List Token) where
  -- at this token these pieces stand
  abbrev pub At : ℕ → List Piece → Type 0
  At at ps = (pos : ℕ) × Here text tokens at pos ps

  -- from this token on the rule reads this value, up to the next token, where these pieces stand
  pub record Reads {V : Type 0} (rule : Rule V) (at : ℕ) (v : V) (end : ℕ) (ps : List Piece) : Type 0 where
    pub reads : rule at (read v end)
    pub behind : At end ps

  pub skip : {at b : ℕ} {ps : List Piece} → At at (blank b ∷ ps) → At at ps
  skip {at} {b} {ps} here = (here.0 + 1, skipped text tokens at here.0 b ps here.1)

  pub record MarkHere (t : Terminal) (at : ℕ) (ps : List Piece) : Type 0 where
    pub terminal : terminal_at text tokens at ≡ t
    pub reads : lines.token text tokens t at (read tt (at + 1))
    pub behind : At (at + 1) ps

  pub mark_here : {at : ℕ} {ps : List Piece} (b : ℕ) (t : Terminal) → terminal_of_mark b ≡ t → At at (mark b ps) → MarkHere t at ps
  mark_here {at} {ps} b t e here =
      let f = facts text tokens at here.0 Mark (b ∷ []) ps (omega arith) here.1 in
      record { terminal = f.terminal ∙ e; reads = (f.terminal ∙ e, refl); behind = (here.0 + length (b ∷ []), f.next) }

  pub comma_here : {at : ℕ} {ps : List Piece} → At at (comma ps) → MarkHere terminal.Comma at ps
  comma_here {at} {ps} here =
      let m = mark_here {ps = blank 32 ∷ ps} 44 terminal.Comma refl here in
      record { terminal = m.terminal; reads = m.reads; behind = skip m.behind }

  -- words
  pub record LowerHere (w : List ℕ) (at : ℕ) (ps : List Piece) : Type 0 where
    pub terminal : terminal_at text tokens at ≡ terminal.Lower
    pub bytes : bytes_at text tokens at ≡ w
    pub behind : At (at + 1) ps

  pub lower_here : {at : ℕ} {ps : List Piece} (w : List ℕ) → 0 < length w → At at (lower w ps) → LowerHere w at ps
  lower_here {at} {ps} w some here =
      let f = facts text tokens at here.0 Lower w ps some here.1 in
      record { terminal = f.terminal; bytes = f.bytes; behind = (here.0 + length w, f.next) }

  pub name_here : {at : ℕ} {ps : List Piece} (w : List ℕ) → is_name w ≡ true → At at (lower w ps) → LowerHere w at ps
  name_here w is here = lower_here w (some_name w is) here

  pub reads_lower : {at : ℕ} {ps : List Piece} (w : List ℕ) → LowerHere w at ps → lines.lower text tokens at (read at (at + 1))
  reads_lower {at} w h = sym (ap (λ t. read_or_stop NoToken (lower_by t at) at) h.terminal)

  pub is_word_here : {at : ℕ} {ps : List Piece} (w : List ℕ) → LowerHere w at ps → lines.word_at text tokens w at ≡ true
  is_word_here w h = ap₂ (is_word w) h.terminal h.bytes ∙ (bytes_eq-Decides w w).1 refl

  pub reads_word : {at : ℕ} {ps : List Piece} (w : List ℕ) → LowerHere w at ps → lines.word text tokens w at (read tt (at + 1))
  reads_word w h = (is_word_here w h, refl)

  pub reads_way : {at : ℕ} {ps : List Piece} (left_to_right : Bool) → LowerHere (way_text left_to_right) at ps → lines.way text tokens at (read left_to_right (at + 1))
  reads_way {at} left_to_right h = sym (ap (λ o. read_or_stop NoToken o at) (ap₂ way_by h.terminal h.bytes ∙ way_read left_to_right))

  pub functor_here : {at : ℕ} {ps : List Piece} (w : List ℕ) → IsSpellable w → At at (word w ps) → Reads (lines.functor text tokens) at at (at + 1) ps
  functor_here {at} {ps} w spellable here =
      let f = facts text tokens at here.0 (kind_of_word w) (spelling w) ps (spelling_some w spellable) here.1 in
      record { reads = sym (ap (λ o. read_or_stop NoToken o at) (ap (λ t. functor_by t at) f.terminal ∙ functor_read w _ at)); behind = (here.0 + length (spelling w), f.next) }

  pub record NameHere (n : Name) (at : ℕ) (ps : List Piece) : Type 0 where
    pub reads : items.name text tokens at (read at (at + 1))
    pub means : IsName text tokens at n
    pub behind : At (at + 1) ps

  pub clause_name_here : {at : ℕ} {ps : List Piece} (n : Name) → IsSpellableName n → At at (name n ps) → NameHere n at ps
  clause_name_here {at} {ps} n spellable here =
      let f = facts text tokens at here.0 (name_kind n) (name_spelling n) ps (name_some n.text n.integer spellable) here.1 in
      record {
        reads = sym (ap (λ o. read_or_stop NoToken o at) (ap (λ t. name_by t at) f.terminal ∙ name_is_read n.text n.integer _ at));
        means = record { text = sym (f.word ∙ name_word n.text n.integer); integer = subst (λ t. (n.integer ≡ true) ↔ (t ≡ terminal.Integer)) (sym f.terminal) (name_integer n.text n.integer _) };
        behind = (here.0 + length (name_spelling n), f.next);
      }

  -- members of a list
  pub record Member {A V : Type 0} (member : Rule V) (On : A → V → Type 0) (x : A) (at : ℕ) (ps : List Piece) : Type 0 where
    pub v : V
    pub end : ℕ
    pub reads : member at (read v end)
    pub on : On x v
    pub behind : At end ps
    pub not_close : terminal_at text tokens at ≢ terminal.CloseSquare

  -- each value is on its member
  abbrev pub Pairs : {A V : Type 0} → (A → V → Type 0) → List A → List V → Type 0
  Pairs On [] [] = Unit {0}
  Pairs On (x ∷ xs) (v ∷ vs) = On x v × Pairs On xs vs
  Pairs On xs vs = ⊥

  pub record Listed {A V : Type 0} (rule : Rule (List V)) (On : A → V → Type 0) (xs : List A) (at : ℕ) (ps : List Piece) : Type 0 where
    pub vs : List V
    pub end : ℕ
    pub reads : rule at (read vs end)
    pub on : Pairs On xs vs
    pub behind : At end ps

  -- a comma, and what may stand behind it
  abbrev pub IsComma : (List Piece → List Piece) → Type 0
  IsComma gap = (at : ℕ) (ps : List Piece) → At at (gap ps) → MarkHere terminal.Comma at ps

  module _ {A V : Type 0} (member : Rule V) (On : A → V → Type 0) (between : List ℕ) (printed : A → List ℕ) (gap : List Piece → List Piece) (pieces : A → List Piece → List Piece) (is_comma : IsComma gap) where
    abbrev pub IsRead : A → Type 0
    IsRead x = (at : ℕ) (ps : List Piece) → At at (pieces x ps) → Member member On x at ps

    pub members_here : (x : A) (xs : List A) (at : ℕ) (ps : List Piece) → IsRead x → AllByRecursion IsRead xs → At at (pieces x (further_pieces between printed gap pieces xs (mark 93 ps))) → Listed (lines.members text tokens member) On (x ∷ xs) at ps
    members_here x [] at ps first all here =
        let one = first at (mark 93 ps) here in
        let close = mark_here 93 terminal.CloseSquare refl one.behind in
        record { vs = one.v ∷ []; end = one.end + 1; reads = lines.is_last_member one.reads close.terminal; on = (one.on, tt); behind = close.behind }
    members_here x (y ∷ ys) at ps first all here =
        let one = first at (gap (pieces y (further_pieces between printed gap pieces ys (mark 93 ps)))) here in
        let between_them = is_comma one.end (pieces y (further_pieces between printed gap pieces ys (mark 93 ps))) one.behind in
        let rest = members_here y ys (one.end + 1) ps all.0 all.1 between_them.behind in
        record { vs = one.v ∷ rest.vs; end = rest.end; reads = lines.is_member {outcome = read rest.vs rest.end} one.reads between_them.terminal rest.reads; on = (one.on, rest.on); behind = rest.behind }

    pub list_here : (xs : List A) (at : ℕ) (ps : List Piece) → AllByRecursion IsRead xs → At at (mark 91 (listed_pieces between printed gap pieces xs (mark 93 ps))) → Listed (lines.list text tokens member) On xs at ps
    list_here [] at ps all here =
        let opening = mark_here 91 terminal.OpenSquare refl here in
        let close = mark_here 93 terminal.CloseSquare refl opening.behind in
        record { vs = []; end = at + 1 + 1; reads = goes_on opening.reads (is_first close.terminal (goes_on close.reads refl)); on = tt; behind = close.behind }
    list_here (x ∷ xs) at ps all here =
        let rest : List Piece = further_pieces between printed gap pieces xs (mark 93 ps) in
        let opening = mark_here 91 terminal.OpenSquare refl here in
        let inside = members_here x xs (at + 1) ps all.0 all.1 opening.behind in
        let not_close = (all.0 (at + 1) rest opening.behind).not_close in
        record { vs = inside.vs; end = inside.end; reads = goes_on opening.reads (is_second not_close inside.reads); on = inside.on; behind = inside.behind }

  lower_is_no_close : (t : Terminal) → t ≡ terminal.Lower → t ≢ terminal.CloseSquare
  lower_is_no_close t e h = cc

  pub not_close_at : {at : ℕ} {ps : List Piece} (w : List ℕ) → LowerHere w at ps → terminal_at text tokens at ≢ terminal.CloseSquare
  not_close_at {at} w h = lower_is_no_close (terminal_at text tokens at) h.terminal

  -- paths
  integer_is_no_close : (t : Terminal) → t ≡ terminal.Integer → t ≢ terminal.CloseSquare
  integer_is_no_close t e h = cc

  number_here : (n : ℕ) → 1 ≤ n → n ≤ 255 → (at : ℕ) (ps : List Piece) → At at (number n ps) → Member (lines.number text tokens) (λ x v. v ≡ x) n at ps
  number_here n low high at ps here =
      let f = facts text tokens at here.0 Integer (decimal n) ps (decimal_some n high) here.1 in
      record {
        v = n;
        end = at + 1;
        reads = sym (ap (λ o. read_or_stop NoToken o at) (ap₂ number_by f.terminal f.bytes ∙ path_number_read n low high));
        on = refl;
        behind = (here.0 + length (decimal n), f.next);
        not_close = integer_is_no_close (terminal_at text tokens at) f.terminal;
      }

  pub is_comma : IsComma comma
  is_comma at ps here = comma_here here

  bare_comma_here : IsComma (mark 44)
  bare_comma_here at ps here = mark_here 44 terminal.Comma refl here

  same_numbers : (xs vs : List ℕ) → Pairs (λ x v. v ≡ x) xs vs → vs ≡ xs
  same_numbers [] [] on = refl
  same_numbers [] (v ∷ vs) on = elim on [ ]
  same_numbers (x ∷ xs) [] on = elim on [ ]
  same_numbers (x ∷ xs) (v ∷ vs) on = ap₂ (λ a b. a ∷ b) on.0 (same_numbers xs vs on.1)

  numbers_here : (path : List ℕ) → IsPath path → AllByRecursion (IsRead (lines.number text tokens) (λ x v. v ≡ x) (codes ",") decimal (mark 44) number bare_comma_here) path
  numbers_here [] is = tt
  numbers_here (n ∷ ns) is = (number_here n is.0.0 is.0.1, numbers_here ns is.1)

  pub record PathHere (path : List ℕ) (at : ℕ) (ps : List Piece) : Type 0 where
    pub end : ℕ
    pub reads : lines.path text tokens at (read path end)
    pub behind : At end ps

  pub path_here : {at : ℕ} {ps : List Piece} (path : List ℕ) → IsPath path → At at (path_pieces path ps) → PathHere path at ps
  path_here {at} {ps} path is here =
      let l = list_here (lines.number text tokens) (λ x v. v ≡ x) (codes ",") decimal (mark 44) number bare_comma_here path at ps (numbers_here path is) here in
      record { end = l.end; reads = subst (λ vs. lines.path text tokens at (read vs l.end)) (same_numbers path l.vs l.on) l.reads; behind = l.behind }
