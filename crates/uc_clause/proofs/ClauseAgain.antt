-- A printed clause is read again.
use Rattle.std.proofs.Common.{◌≡◌, ◌≢◌, ◌↔◌, ℕ, ◌+◌, ◌<◌, ◌≤◌, List, [], ◌∷◌, ◌++◌, length, map, refl, sym, ap, ap₂, ◌∙◌, subst, arith, append-nil, Bool, true, false, ⊎_elim}
use Rattle.std.specs.Prelude.{codes, Some, if◌then◌else◌, MatchBool}
use Rattle.std.proofs.lemmas.Bool.{cases_Bool}
use Rattle.uc_term.specs.Tree.{Tree, var, app, nodes}
use Rattle.uc_term.specs.Table.{Table, name_of}
use Rattle.uc_term.specs.Variables.{variables, place_of, renumbered_by}
use Rattle.uc_clause.specs.declared.token.Kind.TheVariants.{Lower, Integer, Unequal, Mark}
use Rattle.uc_clause.specs.declared.token.Token.{Token}
use Rattle.uc_clause.specs.declared.clause.Clause.{Clause}
use Rattle.uc_clause.specs.declared.clause.Role.{Role}
use Rattle.uc_clause.specs.declared.clause.Role.TheVariants.{Axiom, Hypothesis, Definition, Assumption, Lemma, Theorem, Corollary, Plain, NegatedConjecture}
use Rattle.uc_clause.specs.declared.terminal.Terminal.{Terminal}
use Rattle.uc_clause.specs.declared.terminal.Terminal.TheVariants as terminal
use Rattle.uc_clause.specs.declared.grammar.head.Head.TheVariants.{Variable, Functor, Neither}
use Rattle.uc_clause.specs.declared.grammar.stop.Why.TheVariants.{NoToken, NoRole, NoSign}
use Rattle.uc_clause.specs.Bytes.{is_name}
use Rattle.uc_clause.specs.Names.{IsSpellable, spelling, kind_of_word, stands_for, name_spelling}
use Rattle.uc_clause.specs.Tokens.{spells}
use Rattle.uc_clause.specs.Terminals.{terminal_at, terminal_of_kind, bytes_at, place_at}
use Rattle.uc_clause.specs.Rules.{read, goes_on, is_second, read_or_stop}
use Rattle.uc_clause.specs.Parse.{Literal, Sides, Formula, formula}
use Rattle.uc_clause.specs.Terms.{head_of}
use Rattle.uc_clause.specs.Items as items
use Rattle.uc_clause.specs.Items.{role_of, role_by, name_by, sign_of, opening_of}
use Rattle.uc_clause.specs.Meaning.{Means, MeansClause, no_items, one_item, with_names, variables_in, places_of}
use Rattle.uc_clause.specs.Printing.{variable_text, role_text, clause_text}
use Rattle.uc_clause.specs.Printable.{IsPrintableClause, AreNumbered, clause_variables, ReadsAgain}
use Rattle.uc_clause.proofs.Printed.{IsReadable, IsReadableClause}
use Rattle.uc_clause.proofs.Joined.{Piece, lexeme, blank, joined, tokens_of, cut_pieces, stands_for_spelling}
use Rattle.uc_clause.proofs.Printed.{readable, term_pieces, args_pieces, width, parse_at, Here, facts, skipped, at_end}
use Rattle.uc_clause.proofs.ReadBack.{Behind, passed, term_reads, term_means, term_names, mark_facts, variable_facts, word_facts, functor_head, spelling_some, known_split}
use Rattle.uc_clause.proofs.Renumbering.{term_numbered, names_of_both, known_firsts}
use Rattle.uc_clause.proofs.PrintedClause.{name_kind, sign_pieces, close_pieces, clause_pieces, joined_clause, clause_apart}

-- names
integer_some : (text : List ℕ) → spells Integer text ≡ true → 0 < length text
integer_some [] s = cc
integer_some (b ∷ bs) s = omega arith

pub name_some : (text : List ℕ) (integer : Bool) → MatchBool integer (spells Integer text ≡ true) (IsSpellable text) → 0 < length (if integer then text else spelling text)
name_some text true spellable = integer_some text spellable
name_some text false spellable = spelling_some text spellable

pub name_is_read : (text : List ℕ) (integer : Bool) (b at : ℕ) → name_by (terminal_of_kind (if integer then Integer else kind_of_word text) b) at ≡ Some at
name_is_read text true b at = refl
name_is_read text false b at = ⊎_elim (λ e. rw e refl) (λ e. rw e refl) (cases_Bool (is_name text))

word_terminal : (text : List ℕ) (b : ℕ) → terminal_of_kind (kind_of_word text) b ≢ terminal.Integer
word_terminal text b h = ⊎_elim (λ e. let k = rw e at h in cc) (λ e. let k = rw e at h in cc) (cases_Bool (is_name text))

pub name_integer : (text : List ℕ) (integer : Bool) (b : ℕ) → (integer ≡ true) ↔ (terminal_of_kind (if integer then Integer else kind_of_word text) b ≡ terminal.Integer)
name_integer text true b = ((λ h. refl), (λ h. refl))
name_integer text false b = ((λ h. cc), (λ h. absurd (word_terminal text b h)))

pub name_word : (text : List ℕ) (integer : Bool) → stands_for (if integer then Integer else kind_of_word text) (if integer then text else spelling text) ≡ text
name_word text true = refl
name_word text false = stands_for_spelling text

pub role_is_read : (role : Role) → role_of (role_text role) ≡ Some role
role_is_read Axiom = refl
role_is_read Hypothesis = refl
role_is_read Definition = refl
role_is_read Assumption = refl
role_is_read Lemma = refl
role_is_read Theorem = refl
role_is_read Corollary = refl
role_is_read Plain = refl
role_is_read NegatedConjecture = refl

pub role_some : (role : Role) → 0 < length (role_text role)
role_some Axiom = omega arith
role_some Hypothesis = omega arith
role_some Definition = omega arith
role_some Assumption = omega arith
role_some Lemma = omega arith
role_some Theorem = omega arith
role_some Corollary = omega arith
role_some Plain = omega arith
role_some NegatedConjecture = omega arith

variable_is_head : Variable ≡ Neither → ⊥
variable_is_head e = cc

functor_is_head : Functor ≡ Neither → ⊥
functor_is_head e = cc

module _ (table : Table) (text : List ℕ) (tokens : List Token) where
  -- what begins a term
  pub begins : (t : Tree) (at pos : ℕ) (ps : List Piece) → IsReadable table t → Here text tokens at pos (term_pieces table t ps) → (m : Terminal) → head_of m ≡ Neither → terminal_at text tokens at ≢ m
  begins (var n) at pos ps printable here m e h = variable_is_head (sym (ap head_of (variable_facts table text tokens n at pos ps here).terminal) ∙ ap head_of h ∙ e)
  begins (app f ts) at pos ps printable here m e h = functor_is_head (sym (functor_head (name_of table f) _) ∙ sym (ap head_of (word_facts table text tokens f at pos (args_pieces table ts ps) printable.0 here).terminal) ∙ ap head_of h ∙ e)

  pub record SignFacts (positive : Bool) (at : ℕ) (ps : List Piece) : Type 0 where
    pub is_read : sign_of (terminal_at text tokens at) ≡ Some positive
    pub not_open : terminal_at text tokens at ≢ terminal.Open
    pub behind : Behind table text tokens (at + 1) ps

  pub sign_facts : (positive : Bool) (at pos : ℕ) (ps : List Piece) → Here text tokens at pos (sign_pieces positive ps) → SignFacts positive at ps
  sign_facts true at pos ps here =
      let mark = mark_facts table text tokens 61 at (pos + 1) (blank 32 ∷ ps) (skipped text tokens at pos 32 (lexeme Mark (61 ∷ []) ∷ blank 32 ∷ ps) here) in
      let e : terminal_at text tokens at ≡ terminal.Equal = mark.terminal in
      record { is_read = ap sign_of e; not_open = λ h. equal_or_open (sym e ∙ h); behind = (pos + 1 + 1 + 1, skipped text tokens (at + 1) (pos + 1 + 1) 32 ps mark.next) }
    where
      equal_or_open : terminal.Equal ≡ terminal.Open → ⊥
      equal_or_open h = cc
  sign_facts false at pos ps here =
      let mark = facts text tokens at (pos + 1) Unequal (33 ∷ 61 ∷ []) (blank 32 ∷ ps) (omega arith) (skipped text tokens at pos 32 (lexeme Unequal (33 ∷ 61 ∷ []) ∷ blank 32 ∷ ps) here) in
      let e : terminal_at text tokens at ≡ terminal.Unequal = mark.terminal in
      record { is_read = ap sign_of e; not_open = λ h. unequal_or_open (sym e ∙ h); behind = (pos + 1 + 2 + 1, skipped text tokens (at + 1) (pos + 1 + 2) 32 ps mark.next) }
    where
      unequal_or_open : terminal.Unequal ≡ terminal.Open → ⊥
      unequal_or_open h = cc

  abbrev sides_of : ℕ → Clause → Sides
  sides_of at c = record { left = parse_at at c.left; right = parse_at (at + width c.left + 1) c.right }

  abbrev literal_of : ℕ → Clause → Literal
  literal_of at c = record { positive = c.positive; sides = sides_of at c }

  abbrev sides_pieces : Clause → List Piece → List Piece
  sides_pieces c ps = term_pieces table c.left (sign_pieces c.positive (term_pieces table c.right ps))

  -- the equation of a clause, at a token
  record EquationFacts (c : Clause) (at : ℕ) (ps : List Piece) : Type 0 where
    pub reads : items.equation text tokens at (read (literal_of at c) (at + width c.left + 1 + width c.right))
    pub names : with_names (with_names [] (variables_in text tokens (parse_at at c.left))) (variables_in text tokens (parse_at (at + width c.left + 1) c.right)) ≡ map variable_text (clause_variables c)
    pub means_left : Means text tokens table (map variable_text (clause_variables c)) (parse_at at c.left) (renumbered_by (clause_variables c) c.left)
    pub means_right : Means text tokens table (map variable_text (clause_variables c)) (parse_at (at + width c.left + 1) c.right) (renumbered_by (clause_variables c) c.right)
    pub not_open : terminal_at text tokens at ≢ terminal.Open
    pub not_tilde : terminal_at text tokens at ≢ terminal.Tilde
    pub behind : Behind table text tokens (at + width c.left + 1 + width c.right) ps

  equation_facts : (c : Clause) (at pos : ℕ) (ps : List Piece) → IsReadableClause table c → nodes c.left ≤ 4096 → nodes c.right ≤ 4096 → ((at pos : ℕ) → Here text tokens at pos ps → terminal_at text tokens at ≢ terminal.Open) → Here text tokens at pos (sides_pieces c ps) → EquationFacts c at ps
  equation_facts c at pos ps printable small_left small_right closed here =
      let right_pieces : List Piece = term_pieces table c.right ps in
      let left_behind = passed table text tokens c.left at pos (sign_pieces c.positive right_pieces) printable.1 here in
      let sign = sign_facts c.positive (at + width c.left) left_behind.0 right_pieces left_behind.1 in
      let right_here = sign.behind.1 in
      let right_behind = passed table text tokens c.right (at + width c.left + 1) sign.behind.0 ps printable.2 right_here in
      let left_reads = term_reads table text tokens c.left 0 at pos (sign_pieces c.positive right_pieces) printable.1 (omega arith) here sign.not_open in
      let right_reads = term_reads table text tokens c.right 0 (at + width c.left + 1) sign.behind.0 ps printable.2 (omega arith) right_here (closed (at + width c.left + 1 + width c.right) right_behind.0 right_behind.1) in
      let known = known_split (map variable_text (clause_variables c)) (place_of (clause_variables c)) (variables c.left) (variables c.right) (known_firsts (variables c.left ++ variables c.right)) in
      record {
        reads = goes_on refl (goes_on left_reads (goes_on (sym (ap (λ o. read_or_stop (NoSign at) o (at + width c.left)) sign.is_read)) (goes_on right_reads refl)));
        names = ap₂ (λ a b. with_names (with_names [] a) b) (term_names table text tokens c.left at pos (sign_pieces c.positive right_pieces) printable.1 here) (term_names table text tokens c.right (at + width c.left + 1) sign.behind.0 ps printable.2 right_here) ∙ names_of_both (variables c.left) (variables c.right) (term_numbered table c.left printable.1) (term_numbered table c.right printable.2);
        means_left = term_means table text tokens (map variable_text (clause_variables c)) (place_of (clause_variables c)) c.left at pos (sign_pieces c.positive right_pieces) printable.1 known.0 here;
        means_right = term_means table text tokens (map variable_text (clause_variables c)) (place_of (clause_variables c)) c.right (at + width c.left + 1) sign.behind.0 ps printable.2 known.1 right_here;
        not_open = begins c.left at pos (sign_pieces c.positive right_pieces) printable.1 here terminal.Open refl;
        not_tilde = begins c.left at pos (sign_pieces c.positive right_pieces) printable.1 here terminal.Tilde refl;
        behind = right_behind;
      }

  -- an item `cnf(..).` at a token
  abbrev formula_of : ℕ → Clause → Formula
  formula_of at c = record { heading = record { first = at; name = at + 1 + 1; role = c.role }; literal = literal_of (at + 1 + 1 + 1 + 1 + 1 + 1) c }

  abbrev item_end : ℕ → Clause → ℕ
  item_end at c = at + 1 + 1 + 1 + 1 + 1 + 1 + width c.left + 1 + width c.right + 1 + 1

  pub record ItemFacts (c : Clause) (at : ℕ) (ps : List Piece) : Type 0 where
    pub reads : items.Item text tokens at (read (formula (formula_of at c)) (item_end at c))
    pub means : MeansClause text tokens table (formula_of at c) (record c { left = renumbered_by (clause_variables c) c.left; right = renumbered_by (clause_variables c) c.right; places = places_of text tokens (sides_of (at + 1 + 1 + 1 + 1 + 1 + 1) c); place = place_at text tokens at })
    pub not_end : terminal_at text tokens at ≢ terminal.End
    pub behind : Behind table text tokens (item_end at c) ps

  lower_or_end : (T : Terminal) → T ≡ terminal.Lower → T ≢ terminal.End
  lower_or_end T e h = cc

  close_or_comma : (T : Terminal) → T ≡ terminal.Close → T ≢ terminal.Comma
  close_or_comma T e h = cc

  close_or_open : (T : Terminal) → T ≡ terminal.Close → T ≢ terminal.Open
  close_or_open T e h = cc

  pub item_facts : (c : Clause) (at pos : ℕ) (ps : List Piece) → IsReadableClause table c → nodes c.left ≤ 4096 → nodes c.right ≤ 4096 → Here text tokens at pos (clause_pieces table c ps) → ItemFacts c at ps
  item_facts c at pos ps printable small_left small_right here =
      let sides : List Piece = sides_pieces c (close_pieces ps) in
      let behind_role : List Piece = lexeme Mark (44 ∷ []) ∷ blank 32 ∷ sides in
      let behind_name : List Piece = lexeme Mark (44 ∷ []) ∷ blank 32 ∷ lexeme Lower (role_text c.role) ∷ behind_role in
      let behind_open : List Piece = lexeme (name_kind c.name) (name_spelling c.name) ∷ behind_name in
      let cnf = facts text tokens at pos Lower (codes "cnf") (lexeme Mark (40 ∷ []) ∷ behind_open) (omega arith) here in
      let open_mark = mark_facts table text tokens 40 (at + 1) (pos + 3) behind_open cnf.next in
      let name = facts text tokens (at + 1 + 1) (pos + 3 + 1) (name_kind c.name) (name_spelling c.name) behind_name (name_some c.name.text c.name.integer printable.0) open_mark.next in
      let comma = mark_facts table text tokens 44 (at + 1 + 1 + 1) (pos + 3 + 1 + length (name_spelling c.name)) (blank 32 ∷ lexeme Lower (role_text c.role) ∷ behind_role) name.next in
      let role = facts text tokens (at + 1 + 1 + 1 + 1) (pos + 3 + 1 + length (name_spelling c.name) + 1 + 1) Lower (role_text c.role) behind_role (role_some c.role) (skipped text tokens (at + 1 + 1 + 1 + 1) (pos + 3 + 1 + length (name_spelling c.name) + 1) 32 (lexeme Lower (role_text c.role) ∷ behind_role) comma.next) in
      let second_comma = mark_facts table text tokens 44 (at + 1 + 1 + 1 + 1 + 1) (pos + 3 + 1 + length (name_spelling c.name) + 1 + 1 + length (role_text c.role)) (blank 32 ∷ sides) role.next in
      let sides_here = skipped text tokens (at + 1 + 1 + 1 + 1 + 1 + 1) (pos + 3 + 1 + length (name_spelling c.name) + 1 + 1 + length (role_text c.role) + 1) 32 sides second_comma.next in
      let equation = equation_facts c (at + 1 + 1 + 1 + 1 + 1 + 1) (pos + 3 + 1 + length (name_spelling c.name) + 1 + 1 + length (role_text c.role) + 1 + 1) (close_pieces ps) printable small_left small_right (λ i p there. close_or_open (terminal_at text tokens i) (mark_facts table text tokens 41 i p (lexeme Mark (46 ∷ []) ∷ ps) there).terminal) sides_here in
      let close = mark_facts table text tokens 41 (at + 1 + 1 + 1 + 1 + 1 + 1 + width c.left + 1 + width c.right) equation.behind.0 (lexeme Mark (46 ∷ []) ∷ ps) equation.behind.1 in
      let dot = mark_facts table text tokens 46 (at + 1 + 1 + 1 + 1 + 1 + 1 + width c.left + 1 + width c.right + 1) (equation.behind.0 + 1) ps close.next in
      let name_read : read_or_stop NoToken (name_by (terminal_at text tokens (at + 1 + 1)) (at + 1 + 1)) (at + 1 + 1) ≡ read (at + 1 + 1) (at + 1 + 1 + 1) = ap (λ o. read_or_stop NoToken o (at + 1 + 1)) (ap (λ t. name_by t (at + 1 + 1)) name.terminal ∙ name_is_read c.name.text c.name.integer _ (at + 1 + 1)) in
      let role_read : read_or_stop NoRole (role_by (terminal_at text tokens (at + 1 + 1 + 1 + 1)) (bytes_at text tokens (at + 1 + 1 + 1 + 1))) (at + 1 + 1 + 1 + 1) ≡ read c.role (at + 1 + 1 + 1 + 1 + 1) = ap (λ o. read_or_stop NoRole o (at + 1 + 1 + 1 + 1)) (ap₂ role_by role.terminal role.bytes ∙ role_is_read c.role) in
      record {
        reads = items.is_clause {outcome = read (formula_of at c) (item_end at c)} (ap₂ opening_of cnf.terminal cnf.bytes)
            (goes_on (goes_on refl (goes_on (cnf.terminal, refl) (goes_on (open_mark.terminal, refl) (goes_on (sym name_read) (goes_on (comma.terminal, refl) (goes_on (sym role_read) (goes_on (second_comma.terminal, refl) refl)))))))
            (goes_on (items.is_bare equation.not_open (is_second equation.not_tilde equation.reads))
            (goes_on (is_second (close_or_comma _ close.terminal) (close.terminal, refl)) (goes_on (dot.terminal, refl) refl))));
        means = record {
          name = record { text = sym (name.word ∙ name_word c.name.text c.name.integer); integer = subst (λ t. (c.name.integer ≡ true) ↔ (t ≡ terminal.Integer)) (sym name.terminal) (name_integer c.name.text c.name.integer _) };
          role = refl;
          positive = refl;
          sides = record { means_left = rw equation.names equation.means_left; means_right = rw equation.names equation.means_right };
          places = refl;
          place = refl;
        };
        not_end = lower_or_end _ cnf.terminal;
        behind = (equation.behind.0 + 1 + 1, dot.next);
      }

joined_clause_again : (table : Table) (c : Clause) → IsReadableClause table c → nodes c.left ≤ 4096 → nodes c.right ≤ 4096 → length (joined (clause_pieces table c [])) ≤ 16777216 → ReadsAgain (joined (clause_pieces table c [])) table c
joined_clause_again table c printable small_left small_right fits =
    let text : List ℕ = joined (clause_pieces table c []) in
    let tokens : List Token = tokens_of text 0 (clause_pieces table c []) in
    let here : Here text tokens 0 0 (clause_pieces table c []) = record { bytes = refl; lexed = refl } in
    let item = item_facts table text tokens c 0 0 [] printable small_left small_right here in
    let end = at_end text tokens _ item.behind.0 item.behind.1 in (
      _,
      record {
        small = fits;
        reads = record {
          tokens = tokens;
          are_tokens = cut_pieces (clause_pieces table c []) (clause_apart table c [] printable tt);
          parse = formula _ ∷ [];
          end = _;
          reads = items.has_item item.not_end item.reads (items.is_end end);
          means = one_item item.means no_items;
        };
      },
    )

pub clause_again : (table : Table) (c : Clause) → IsReadableClause table c → nodes c.left ≤ 4096 → nodes c.right ≤ 4096 → length (clause_text table c) ≤ 16777216 → ReadsAgain (clause_text table c) table c
clause_again table c printable small_left small_right fits =
    let same : joined (clause_pieces table c []) ≡ clause_text table c = joined_clause table c [] ∙ append-nil (clause_text table c) in
    subst (λ text. ReadsAgain text table c) same (joined_clause_again table c printable small_left small_right (subst (λ text. length text ≤ 16777216) (sym same) fits))

pub printed_clause_again : (table : Table) (c : Clause) (start text : List ℕ) → start ≡ [] → text ≡ start ++ clause_text table c → IsPrintableClause table c → (nodes c.left ≤ 4096) × AreNumbered (variables c.left) → (nodes c.right ≤ 4096) × AreNumbered (variables c.right) → length text ≤ 16777216 → ReadsAgain text table c
printed_clause_again table c start text none_yet e printable left right fits =
    let same : text ≡ clause_text table c = e ∙ ap (λ l. l ++ clause_text table c) none_yet in
    subst (λ x. ReadsAgain x table c) (sym same) (clause_again table c (printable.0, readable table c.left printable.1 left.1, readable table c.right printable.2 right.1) left.0 right.0 (subst (λ x. length x ≤ 16777216) same fits))
