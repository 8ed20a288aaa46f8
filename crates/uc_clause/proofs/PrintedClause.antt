-- A printed term and a printed clause are read again.
use Rattle.std.proofs.Common.{◌≡◌, ◌≢◌, ℕ, ◌+◌, ◌≤◌, List, [], ◌∷◌, ◌++◌, length, map, refl, sym, ap, ◌∙◌, subst, arith, append_assoc, append-nil, Bool, true, false}
use Rattle.std.specs.Prelude.{codes, if◌then◌else◌, MatchBool}
use Rattle.std.specs.List.{prefix_len}
use Rattle.uc_term.specs.Tree.{Tree, nodes}
use Rattle.uc_term.specs.Table.{Table}
use Rattle.uc_term.specs.Variables.{variables, firsts, place_of, renumbered}
use Rattle.uc_clause.specs.declared.token.Kind.{Kind}
use Rattle.uc_clause.specs.declared.token.Kind.TheVariants.{Lower, Integer, Unequal, Mark}
use Rattle.uc_clause.specs.declared.token.Token.{Token}
use Rattle.uc_clause.specs.declared.clause.Name.{Name}
use Rattle.uc_clause.specs.declared.clause.Clause.{Clause}
use Rattle.uc_clause.specs.declared.clause.Role.{Role}
use Rattle.uc_clause.specs.declared.clause.Role.TheVariants.{Axiom, Hypothesis, Definition, Assumption, Lemma, Theorem, Corollary, Plain, NegatedConjecture}
use Rattle.uc_clause.specs.declared.terminal.Terminal.{Terminal}
use Rattle.uc_clause.specs.declared.terminal.Terminal.TheVariants as terminal
use Rattle.uc_clause.specs.Bytes.{is_word, is_digit, is_name}
use Rattle.uc_clause.specs.Names.{IsSpellable, spelling, kind_of_word, name_spelling}
use Rattle.uc_clause.specs.Tokens.{spells, Stands}
use Rattle.uc_clause.specs.Rules.{goes_on}
use Rattle.uc_clause.specs.Meaning.{with_names, variables_in}
use Rattle.uc_clause.specs.Reading.{ReadsTerm}
use Rattle.uc_clause.specs.Printing.{variable_text, term_text, sign_text, role_text, clause_text}
use Rattle.uc_clause.specs.Printable.{IsPrintable, AreNumbered}
use Rattle.uc_clause.proofs.Printed.{IsReadable, IsReadableClause}
use Rattle.uc_clause.proofs.Joined.{Piece, lexeme, blank, joined, AreApart, tokens_of, cut_pieces, lower_stands, integer_stands, mark_stands, unequal_stands, blank_skips, spelling_stands}
use Rattle.uc_clause.proofs.Printed.{readable, term_pieces, joined_term, Parts, apart_term, width, parse_at, Here, at_end}
use Rattle.uc_clause.proofs.ReadBack.{passed, term_reads, term_means, term_names}
use Rattle.uc_clause.proofs.Renumbering.{term_numbered, names_of, known_firsts}

-- a term alone
abbrev pub alone : Table → Tree → List Piece
alone table t = term_pieces table t []

end_not_open : (t : Terminal) → t ≡ terminal.End → t ≢ terminal.Open
end_not_open t e h = cc

joined_again : (table : Table) (t : Tree) → IsReadable table t → nodes t ≤ 4096 → ReadsTerm (joined (alone table t)) table (renumbered t)
joined_again table t printable small =
    let text : List ℕ = joined (alone table t) in
    let tokens : List Token = tokens_of text 0 (alone table t) in
    let apart : AreApart (alone table t) = apart_term table t [] printable tt refl in
    let here : Here text tokens 0 0 (alone table t) = record { bytes = refl; lexed = refl } in
    let behind = passed table text tokens t 0 0 [] printable here in
    let end = at_end text tokens (0 + width t) behind.0 behind.1 in
    let names : with_names [] (variables_in text tokens (parse_at 0 t)) ≡ map variable_text (firsts (variables t)) = ap (with_names []) (term_names table text tokens t 0 0 [] printable here) ∙ names_of (variables t) (term_numbered table t printable) in
    record {
      tokens = tokens;
      are_tokens = cut_pieces (alone table t) apart;
      parse = parse_at 0 t;
      end = 0 + width t + 1;
      reads = goes_on (term_reads table text tokens t 0 0 0 [] printable (omega arith) here (end_not_open _ end)) (goes_on (end, refl) refl);
      means = rw names (term_means table text tokens (map variable_text (firsts (variables t))) (place_of (firsts (variables t))) t 0 0 [] printable (known_firsts (variables t)) here);
    }

pub term_again : (table : Table) (t : Tree) → IsReadable table t → nodes t ≤ 4096 → ReadsTerm (term_text table t) table (renumbered t)
term_again table t printable small = subst (λ text. ReadsTerm text table (renumbered t)) (joined_term table t [] ∙ append-nil (term_text table t)) (joined_again table t printable small)

pub printed_term_again : (table : Table) (t : Tree) (start text : List ℕ) → start ≡ [] → text ≡ start ++ term_text table t → IsPrintable table t → AreNumbered (variables t) → nodes t ≤ 4096 → ReadsTerm text table (renumbered t)
printed_term_again table t start text none_yet e printable numbered small =
    let same : text ≡ term_text table t = e ∙ ap (λ l. l ++ term_text table t) none_yet in
    subst (λ x. ReadsTerm x table (renumbered t)) (sym same) (term_again table t (readable table t printable numbered) small)

-- the pieces of a clause
abbrev pub name_kind : Name → Kind
name_kind name = if name.integer then Integer else kind_of_word name.text

abbrev pub sign_pieces : Bool → List Piece → List Piece
sign_pieces true ps = blank 32 ∷ lexeme Mark (61 ∷ []) ∷ blank 32 ∷ ps
sign_pieces false ps = blank 32 ∷ lexeme Unequal (33 ∷ 61 ∷ []) ∷ blank 32 ∷ ps

abbrev pub close_pieces : List Piece → List Piece
close_pieces ps = lexeme Mark (41 ∷ []) ∷ lexeme Mark (46 ∷ []) ∷ ps

abbrev pub clause_pieces : Table → Clause → List Piece → List Piece
clause_pieces table c ps = lexeme Lower (codes "cnf") ∷ lexeme Mark (40 ∷ []) ∷ lexeme (name_kind c.name) (name_spelling c.name) ∷ lexeme Mark (44 ∷ []) ∷ blank 32 ∷ lexeme Lower (role_text c.role) ∷ lexeme Mark (44 ∷ []) ∷ blank 32 ∷ term_pieces table c.left (sign_pieces c.positive (term_pieces table c.right (close_pieces ps)))

pub joined_sign : (positive : Bool) (ps : List Piece) → joined (sign_pieces positive ps) ≡ sign_text positive ++ joined ps
joined_sign true ps = refl
joined_sign false ps = refl

joined_sides : (table : Table) (c : Clause) (ps : List Piece) → joined (term_pieces table c.left (sign_pieces c.positive (term_pieces table c.right (close_pieces ps)))) ≡ term_text table c.left ++ (sign_text c.positive ++ (term_text table c.right ++ (41 ∷ 46 ∷ joined ps)))
joined_sides table c ps =
    joined_term table c.left (sign_pieces c.positive (term_pieces table c.right (close_pieces ps)))
    ∙ ap (λ l. term_text table c.left ++ l) (joined_sign c.positive (term_pieces table c.right (close_pieces ps)) ∙ ap (λ l. sign_text c.positive ++ l) (joined_term table c.right (close_pieces ps)))

regrouped : (a n b r d l s t e rest : List ℕ) → a ++ (n ++ (b ++ (r ++ (d ++ (l ++ (s ++ (t ++ (e ++ rest)))))))) ≡ ((((((a ++ n) ++ b) ++ r) ++ d) ++ ((l ++ s) ++ t)) ++ e) ++ rest
regrouped a n b r d l s t e rest = simp append_assoc refl

pub joined_clause : (table : Table) (c : Clause) (ps : List Piece) → joined (clause_pieces table c ps) ≡ clause_text table c ++ joined ps
joined_clause table c ps =
    ap (λ l. codes "cnf(" ++ (name_spelling c.name ++ (codes ", " ++ (role_text c.role ++ (codes ", " ++ l))))) (joined_sides table c ps)
    ∙ regrouped (codes "cnf(") (name_spelling c.name) (codes ", ") (role_text c.role) (codes ", ") (term_text table c.left) (sign_text c.positive) (term_text table c.right) (codes ").") (joined ps)

-- they stand apart
pub name_stands : (text rest : List ℕ) (integer : Bool) → MatchBool integer (spells Integer text ≡ true) (IsSpellable text) → prefix_len is_word rest ≡ 0 → prefix_len is_digit rest ≡ 0 → Stands ((if integer then text else spelling text) ++ rest) (if integer then Integer else kind_of_word text) (length (if integer then text else spelling text))
name_stands text rest true spellable words digits = integer_stands text rest spellable digits
name_stands text rest false spellable words digits = spelling_stands text rest spellable words

pub role_name : (role : Role) → is_name (role_text role) ≡ true
role_name Axiom = refl
role_name Hypothesis = refl
role_name Definition = refl
role_name Assumption = refl
role_name Lemma = refl
role_name Theorem = refl
role_name Corollary = refl
role_name Plain = refl
role_name NegatedConjecture = refl

close_apart : (ps : List Piece) → AreApart ps → AreApart (close_pieces ps)
close_apart ps apart = (mark_stands 41 (46 ∷ joined ps) refl refl (λ h. omega arith) (λ h. omega arith) (λ h. omega arith), (mark_stands 46 (joined ps) refl refl (λ h. omega arith) (λ h. omega arith) (λ h. omega arith), apart))

pub sign_apart : (positive : Bool) (ps : List Piece) → AreApart ps → AreApart (sign_pieces positive ps)
sign_apart true ps apart = (blank_skips (61 ∷ 32 ∷ joined ps), (mark_stands 61 (32 ∷ joined ps) refl refl (λ h. omega arith) (λ h. omega arith) (λ h. omega arith), (blank_skips (joined ps), apart)))
sign_apart false ps apart = (blank_skips (33 ∷ 61 ∷ 32 ∷ joined ps), (unequal_stands (32 ∷ joined ps), (blank_skips (joined ps), apart)))

pub sign_parts : (positive : Bool) (ps : List Piece) → Parts (sign_pieces positive ps)
sign_parts true ps = refl
sign_parts false ps = refl

pub clause_apart : (table : Table) (c : Clause) (ps : List Piece) → IsReadableClause table c → AreApart ps → AreApart (clause_pieces table c ps)
clause_apart table c ps printable apart =
    let right_pieces : List Piece = term_pieces table c.right (close_pieces ps) in
    let right : AreApart right_pieces = apart_term table c.right (close_pieces ps) printable.2 (close_apart ps apart) refl in
    let left_pieces : List Piece = term_pieces table c.left (sign_pieces c.positive right_pieces) in
    let left : AreApart left_pieces = apart_term table c.left (sign_pieces c.positive right_pieces) printable.1 (sign_apart c.positive right_pieces right) (sign_parts c.positive right_pieces) in (
      lower_stands (codes "cnf") (40 ∷ (name_spelling c.name ++ (44 ∷ 32 ∷ (role_text c.role ++ (44 ∷ 32 ∷ joined left_pieces))))) refl refl,
      (
        mark_stands 40 (name_spelling c.name ++ (44 ∷ 32 ∷ (role_text c.role ++ (44 ∷ 32 ∷ joined left_pieces)))) refl refl (λ h. omega arith) (λ h. omega arith) (λ h. omega arith),
        (
          name_stands c.name.text (44 ∷ 32 ∷ (role_text c.role ++ (44 ∷ 32 ∷ joined left_pieces))) c.name.integer printable.0 refl refl,
          (
            mark_stands 44 (32 ∷ (role_text c.role ++ (44 ∷ 32 ∷ joined left_pieces))) refl refl (λ h. omega arith) (λ h. omega arith) (λ h. omega arith),
            (
              blank_skips (role_text c.role ++ (44 ∷ 32 ∷ joined left_pieces)),
              (
                lower_stands (role_text c.role) (44 ∷ 32 ∷ joined left_pieces) (role_name c.role) refl,
                (
                  mark_stands 44 (32 ∷ joined left_pieces) refl refl (λ h. omega arith) (λ h. omega arith) (λ h. omega arith),
                  (blank_skips (joined left_pieces), left),
                ),
              ),
            ),
          ),
        ),
      ),
    )
