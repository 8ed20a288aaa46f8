-- Printed terms of join lines: each Upper among their tokens names a variable, and they mean what was printed.
use Rattle.std.proofs.Common.{◌≡◌, ℕ, ◌+◌, ◌-◌, ◌<◌, ◌≤◌, false, List, [], ◌∷◌, ◌++◌, length, refl, sym, ap, ap₂, ◌∙◌, subst, arith, ⊎_elim, Option, Some, None}
use Rattle.std.specs.Prelude.{is_none}
use Rattle.std.proofs.lemmas.Bool.{cases_Bool}
use Rattle.std.proofs.lemmas.Option.{slice_get-get_or, unwrap_or-slice_get}
use Rattle.uc_term.specs.declared.node.Sym.{Sym}
use Rattle.uc_term.specs.Tree.{Tree, var, app, Trees, none, more, count}
use Rattle.uc_term.specs.Table.{Table, Entry, Has, name_of, arity_of, IsSymbol}
use Rattle.uc_term.specs.Variables.{variables, variables_all}
use Rattle.uc_clause.specs.declared.token.Token.{Token}
use Rattle.uc_clause.specs.declared.terminal.Terminal.{Terminal}
use Rattle.uc_clause.specs.declared.terminal.Terminal.TheVariants as terminal
use Rattle.uc_clause.specs.Bytes.{is_name}
use Rattle.uc_clause.specs.Names.{spelling, kind_of_word}
use Rattle.uc_clause.specs.Terminals.{terminal_of_mark, terminal_of_kind, word_at}
use Rattle.uc_clause.specs.Rules.{read}
use Rattle.uc_clause.specs.Printing.{variable_text}
use Rattle.uc_clause.specs.Printable.{IsPrintableSymbol}
use Rattle.uc_clause.proofs.Joined.{Piece, lexeme, stands_for_spelling}
use Rattle.uc_clause.proofs.Printed.{IsReadable, term_pieces, args_pieces, rest_pieces, width, args_width, rest_width, parse_at, parses_at, Here, moved}
use Rattle.uc_clause.proofs.ReadBack.{inner_pieces, ArePrintable, word_facts, mark_facts, variable_facts, passed}
use Rattle.uc_tstp.proofs.PrintedPieces.{mark}
use Rattle.uc_tstp.proofs.TokensAgain.{At}
use Rattle.uc_tstp.proofs.TermsAgain.{IsClosed, term_here}
use Rattle.uc_tstp.proofs.LinePieces.{readable_term}
use Rattle.uc_tstp.proofs.Bounded.{IsPrintableTerm}
use Rattle.uc_certificate.specs.JoinLines.{MOST_VARIABLES, named_by, is_foreign_by, is_foreign, first_foreign, is_term}
use Rattle.uc_certificate.specs.JoinLines as rules
use Rattle.uc_certificate.specs.JoinMeaning.{MeansTerm, MeanTerms, variable_is, functor_is, no_terms, more_terms}
use Rattle.uc_certificate.specs.Printable.{AreFew}
use Rattle.uc_certificate.proofs.Foreign.{foreign_step, foreign_none}
use Rattle.uc_certificate.proofs.PrintedNumbers.{variable_named}

few_split : (xs ys : List ℕ) → AreFew (xs ++ ys) → AreFew xs × AreFew ys
few_split [] ys few = (tt, few)
few_split (x ∷ xs) ys few = let parts = few_split xs ys few.1 in ((few.0, parts.0), parts.1)

named_none : (o : Option ℕ) (n : ℕ) → o ≡ Some n → is_none o ≡ false
named_none o n e = rw e refl

word_native : (w bytes : List ℕ) (b : ℕ) → is_foreign_by (terminal_of_kind (kind_of_word w) b) bytes ≡ false
word_native w bytes b = ⊎_elim (λ e. rw e refl) (λ e. rw e refl) (cases_Bool (is_name w))

symbol_is : (table : Table) (f : Sym) → Has table f → IsSymbol table f (name_of table f) (arity_of table f)
symbol_is table f has =
    let d : Entry = record { name = []; arity = 0 } in
    slice_get-get_or table f.0 d has ∙ ap Some (sym (unwrap_or-slice_get table f.0 d))

module _ (table : Table) (text : List ℕ) (tokens : List Token) where
  -- behind a printed term
  abbrev Behind : ℕ → List Piece → Type 0
  Behind at ps = (pos : ℕ) × Here text tokens at pos ps

  -- the first Upper that names no variable is the same behind a term
  module _ (to : ℕ) where
    abbrev first_from : ℕ → Option ℕ
    first_from at = first_foreign text tokens (to - at) at

    -- from one token to another there is no such Upper, and behind it these pieces stand
    record Passed (at end : ℕ) (ps : List Piece) : Type 0 where
      same : first_from at ≡ first_from end
      behind : Behind end ps

    ends_at : (at end other : ℕ) (ps : List Piece) → end ≡ other → Passed at end ps → Passed at other ps
    ends_at at end other ps e p = subst (λ i. Passed at i ps) e p

    mark_passed : (b : ℕ) (t : Terminal) (at pos : ℕ) (ps : List Piece) → terminal_of_mark b ≡ t → is_foreign_by t (b ∷ []) ≡ false → at < to → Here text tokens at pos (mark b ps) → Passed at (at + 1) ps
    mark_passed b t at pos ps e n h here =
        let f = mark_facts table text tokens b at pos ps here in
        record { same = foreign_step text tokens to at h (ap₂ is_foreign_by (f.terminal ∙ e) f.bytes ∙ n); behind = (pos + 1, f.next) }

    both : (at middle end : ℕ) (ps qs : List Piece) → Passed at middle ps → Passed middle end qs → Passed at end qs
    both at middle end ps qs a b = record { same = a.same ∙ b.same; behind = b.behind }

    mutual
      term_passed : (t : Tree) (at pos : ℕ) (ps : List Piece) → IsReadable table t → AreFew (variables t) → at + width t ≤ to → Here text tokens at pos (term_pieces table t ps) → Passed at (at + width t) ps
      term_passed (var n) at pos ps readable few h here =
          let f = variable_facts table text tokens n at pos ps here in
          record { same = foreign_step text tokens to at (omega arith) (ap₂ is_foreign_by f.terminal f.bytes ∙ named_none (named_by (variable_text n)) n (variable_named n few.0)); behind = (pos + length (variable_text n), f.next) }
      term_passed (app f ts) at pos ps readable few h here =
          let head = word_facts table text tokens f at pos (args_pieces table ts ps) readable.0 here in
          let first : first_from at ≡ first_from (at + 1) = foreign_step text tokens to at (omega arith) (ap₂ is_foreign_by head.terminal head.bytes ∙ word_native (name_of table f) (spelling (name_of table f)) _) in
          let rest = args_passed ts (at + 1) (pos + length (spelling (name_of table f))) ps readable.2 few (omega arith) head.next in
          ends_at at (at + 1 + args_width ts) (at + (1 + args_width ts)) ps (omega arith) (record { same = first ∙ rest.same; behind = rest.behind })

      args_passed : (ts : Trees) (at pos : ℕ) (ps : List Piece) → ArePrintable table ts → AreFew (variables_all ts) → at + args_width ts ≤ to → Here text tokens at pos (args_pieces table ts ps) → Passed at (at + args_width ts) ps
      args_passed none at pos ps readable few h here = ends_at at at (at + 0) ps (omega arith) (record { same = refl; behind = (pos, here) })
      args_passed (more t ts) at pos ps readable few h here =
          let two = few_split (variables t) (variables_all ts) few in
          let opening = mark_passed 40 terminal.Open at pos (term_pieces table t (rest_pieces table ts ps)) refl refl (omega arith) here in
          let first = term_passed t (at + 1) opening.behind.0 (rest_pieces table ts ps) readable.0 two.0 (omega arith) opening.behind.1 in
          let rest = rest_passed ts (at + 1 + width t) first.behind.0 ps readable.1 two.1 (omega arith) first.behind.1 in
          ends_at at (at + 1 + width t + rest_width ts) (at + (1 + width t + rest_width ts)) ps (omega arith) (record { same = opening.same ∙ first.same ∙ rest.same; behind = rest.behind })

      rest_passed : (ts : Trees) (at pos : ℕ) (ps : List Piece) → ArePrintable table ts → AreFew (variables_all ts) → at + rest_width ts ≤ to → Here text tokens at pos (rest_pieces table ts ps) → Passed at (at + rest_width ts) ps
      rest_passed none at pos ps readable few h here = mark_passed 41 terminal.Close at pos ps refl refl (omega arith) here
      rest_passed (more t ts) at pos ps readable few h here =
          let two = few_split (variables t) (variables_all ts) few in
          let between = mark_passed 44 terminal.Comma at pos (term_pieces table t (rest_pieces table ts ps)) refl refl (omega arith) here in
          let first = term_passed t (at + 1) between.behind.0 (rest_pieces table ts ps) readable.0 two.0 (omega arith) between.behind.1 in
          let rest = rest_passed ts (at + 1 + width t) first.behind.0 ps readable.1 two.1 (omega arith) first.behind.1 in
          ends_at at (at + 1 + width t + rest_width ts) (at + (1 + width t + rest_width ts)) ps (omega arith) (record { same = between.same ∙ first.same ∙ rest.same; behind = rest.behind })

  none_in_term : (t : Tree) (at pos : ℕ) (ps : List Piece) → IsReadable table t → AreFew (variables t) → Here text tokens at pos (term_pieces table t ps) → first_foreign text tokens (at + width t - at) at ≡ None
  none_in_term t at pos ps readable few here =
      let p = term_passed (at + width t) t at pos ps readable few (omega arith) here in
      p.same ∙ foreign_none text tokens (at + width t) (at + width t) (omega arith)

  -- what it says
  symbol_here : (f : Sym) (n at pos : ℕ) (ps : List Piece) → IsPrintableSymbol table f → n ≡ arity_of table f → Here text tokens at pos (lexeme (kind_of_word (name_of table f)) (spelling (name_of table f)) ∷ ps) → IsSymbol table f (word_at text tokens at) n
  symbol_here f n at pos ps printable e here =
      let word : word_at text tokens at ≡ name_of table f = (word_facts table text tokens f at pos ps printable here).word ∙ stands_for_spelling (name_of table f) in
      rw (word, e) (symbol_is table f printable.0)

  mutual
    term_means : (t : Tree) (at pos : ℕ) (ps : List Piece) → IsReadable table t → AreFew (variables t) → Here text tokens at pos (term_pieces table t ps) → MeansTerm text tokens table (parse_at at t) t
    term_means (var n) at pos ps readable few here = variable_is (ap named_by (variable_facts table text tokens n at pos ps here).bytes ∙ variable_named n few.0)
    term_means (app f none) at pos ps readable few here = functor_is (symbol_here f 0 at pos ps readable.0 readable.1 here) no_terms
    term_means (app f (more t ts)) at pos ps readable few here =
        let head = word_facts table text tokens f at pos (args_pieces table (more t ts) ps) readable.0 here in
        let opening = mark_facts table text tokens 40 (at + 1) (pos + length (spelling (name_of table f))) (inner_pieces table (more t ts) ps) head.next in
        let inside = moved text tokens (at + 1 + 1) (at + 2) (pos + length (spelling (name_of table f)) + 1) (inner_pieces table (more t ts) ps) (omega arith) opening.next in
        functor_is (symbol_here f (count (more t ts)) at pos (args_pieces table (more t ts) ps) readable.0 readable.1 here) (args_mean (more t ts) (at + 2) (pos + length (spelling (name_of table f)) + 1) ps readable.2 few inside)

    args_mean : (ts : Trees) (at pos : ℕ) (ps : List Piece) → ArePrintable table ts → AreFew (variables_all ts) → Here text tokens at pos (inner_pieces table ts ps) → MeanTerms text tokens table (parses_at at ts) ts
    args_mean none at pos ps readable few here = no_terms
    args_mean (more t none) at pos ps readable few here =
        more_terms (term_means t at pos (rest_pieces table none ps) readable.0 (few_split (variables t) [] few).0 here) no_terms
    args_mean (more t (more u us)) at pos ps readable few here =
        let behind = passed table text tokens t at pos (rest_pieces table (more u us) ps) readable.0 here in
        let comma = mark_facts table text tokens 44 (at + width t) behind.0 (inner_pieces table (more u us) ps) behind.1 in
        let two = few_split (variables t) (variables_all (more u us)) few in
        more_terms (term_means t at pos (rest_pieces table (more u us) ps) readable.0 two.0 here) (args_mean (more u us) (at + width t + 1) (behind.0 + 1) ps readable.1 two.1 comma.next)

  -- a term of a join line
  pub record JoinTermHere (t : Tree) (at : ℕ) (ps : List Piece) : Type 0 where
    pub reads : rules.term text tokens at (read (parse_at at t) (at + width t))
    pub means : MeansTerm text tokens table (parse_at at t) t
    pub behind : At text tokens (at + width t) ps

  pub join_term_here : {at : ℕ} {ps : List Piece} (t : Tree) → IsPrintableTerm table t → AreFew (variables t) → IsClosed table [] text tokens ps → At text tokens at (term_pieces table t ps) → JoinTermHere t at ps
  join_term_here {at} {ps} t printable few closed here =
      let h = term_here table [] text tokens t printable closed here in
      let readable = readable_term table t printable in
      record {
        reads = is_term {outcome = read (parse_at at t) (at + width t)} h.reads (none_in_term t at here.0 ps readable few here.1);
        means = term_means t at here.0 ps readable few here.1;
        behind = h.behind;
      }
