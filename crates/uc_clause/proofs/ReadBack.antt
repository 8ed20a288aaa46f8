-- A printed term is read again.
use Rattle.std.proofs.Common.{◌≡◌, ◌≢◌, ℕ, ◌+◌, ◌<◌, ◌≤◌, List, [], ◌∷◌, ◌++◌, length, length-append, map, refl, sym, ap, ap₂, ◌∙◌, subst, arith, ⊎_elim}
use Rattle.std.specs.Prelude.{Some, slice_get}
use Rattle.std.proofs.lemmas.Bool.{cases_Bool}
use Rattle.std.proofs.lemmas.List.{map-append}
use Rattle.std.proofs.lemmas.Option.{slice_get-get_or, unwrap_or-slice_get}
use Rattle.uc_term.proofs.Joins.{count-apply_all}
use Rattle.uc_term.specs.declared.node.Sym.{Sym}
use Rattle.uc_term.specs.Tree.{Tree, var, app, Trees, none, more, count, nodes, nodes_all, apply, apply_all}
use Rattle.uc_term.specs.Over.{AreOver}
use Rattle.uc_term.specs.Table.{Table, Entry, Has, name_of, arity_of, IsSymbol}
use Rattle.uc_term.specs.Variables.{variables, variables_all}
use Rattle.uc_term.proofs.Terms.{nodes_pos}
use Rattle.uc_clause.specs.declared.token.Kind.TheVariants.{Upper, Mark}
use Rattle.uc_clause.specs.declared.token.Token.{Token}
use Rattle.uc_clause.specs.declared.terminal.Terminal.TheVariants as terminal
use Rattle.uc_clause.specs.declared.grammar.head.Head.TheVariants.{Functor}
use Rattle.uc_clause.specs.Bytes.{is_name}
use Rattle.uc_clause.specs.Names.{IsSpellable, spelling, kind_of_word, escaped}
use Rattle.uc_clause.specs.Terminals.{terminal_at, terminal_of_kind, bytes_at, word_at}
use Rattle.uc_clause.specs.Rules.{read}
use Rattle.uc_clause.specs.Parse.{Parse, Parses, variable, applied, no_more, also, size, size_all}
use Rattle.uc_clause.specs.Parse as parse
use Rattle.uc_clause.specs.Terms.{Term, Args, head_of, is_variable, is_constant, is_applied, is_last, is_followed}
use Rattle.uc_clause.specs.Meaning.{Means, MeanAll, variable_means, functor_means, none_mean, more_mean}
use Rattle.uc_clause.specs.Printing.{variable_text}
use Rattle.uc_clause.specs.Printable.{IsPrintableSymbol, IsNumbered}
use Rattle.uc_clause.proofs.Printed.{IsReadable}
use Rattle.uc_clause.proofs.Joined.{Piece, lexeme, stands_for_spelling}
use Rattle.uc_clause.proofs.Printed.{term_pieces, args_pieces, rest_pieces, width, args_width, rest_width, parse_at, parses_at, size_parse, Here, Facts, facts, moved}

pub spelling_some : (w : List ℕ) → IsSpellable w → 0 < length (spelling w)
spelling_some w spellable = ⊎_elim (λ e. rw e spellable.0) (λ e. rw e (let len = length-append (escaped w) (39 ∷ []) in omega arith)) (cases_Bool (is_name w))

pub functor_head : (w : List ℕ) (b : ℕ) → head_of (terminal_of_kind (kind_of_word w) b) ≡ Functor
functor_head w b = ⊎_elim (λ e. rw e refl) (λ e. rw e refl) (cases_Bool (is_name w))

-- the pieces of arguments behind the opening bracket
abbrev pub inner_pieces : Table → Trees → List Piece → List Piece
inner_pieces table none ps = ps
inner_pieces table (more t ts) ps = term_pieces table t (rest_pieces table ts ps)

abbrev pub inner_width : Trees → ℕ
inner_width none = 0
inner_width (more t ts) = width t + rest_width ts

abbrev pub ArePrintable : Table → Trees → Type 0
ArePrintable table = AreOver (IsPrintableSymbol table) (arity_of table) IsNumbered

-- the names that variables were given
abbrev pub AreKnown : List (List ℕ) → (ℕ → ℕ) → List ℕ → Type 0
AreKnown seen σ [] = Unit {0}
AreKnown seen σ (x ∷ xs) = (slice_get seen (σ x) ≡ Some (variable_text x)) × AreKnown seen σ xs

pub known_split : (seen : List (List ℕ)) (σ : ℕ → ℕ) (xs ys : List ℕ) → AreKnown seen σ (xs ++ ys) → AreKnown seen σ xs × AreKnown seen σ ys
known_split seen σ [] ys known = (tt, known)
known_split seen σ (x ∷ xs) ys known = let parts = known_split seen σ xs ys known.1 in ((known.0, parts.0), parts.1)

symbol_is : (table : Table) (f : Sym) → Has table f → IsSymbol table f (name_of table f) (arity_of table f)
symbol_is table f has =
    let d : Entry = record { name = []; arity = 0 } in
    slice_get-get_or table f.0 d has ∙ ap Some (sym (unwrap_or-slice_get table f.0 d))

module _ (table : Table) (text : List ℕ) (tokens : List Token) where
  pub word_facts : (f : Sym) (at pos : ℕ) (ps : List Piece) → IsPrintableSymbol table f → Here text tokens at pos (lexeme (kind_of_word (name_of table f)) (spelling (name_of table f)) ∷ ps) → Facts text tokens at pos (kind_of_word (name_of table f)) (spelling (name_of table f)) ps
  word_facts f at pos ps printable here = facts text tokens at pos (kind_of_word (name_of table f)) (spelling (name_of table f)) ps (spelling_some (name_of table f) printable.1) here

  pub mark_facts : (b at pos : ℕ) (ps : List Piece) → Here text tokens at pos (lexeme Mark (b ∷ []) ∷ ps) → Facts text tokens at pos Mark (b ∷ []) ps
  mark_facts b at pos ps here = facts text tokens at pos Mark (b ∷ []) ps (omega arith) here

  pub variable_facts : (n at pos : ℕ) (ps : List Piece) → Here text tokens at pos (lexeme Upper (variable_text n) ∷ ps) → Facts text tokens at pos Upper (variable_text n) ps
  variable_facts n at pos ps here = facts text tokens at pos Upper (variable_text n) ps (omega arith) here

  -- behind a printed term
  abbrev pub Behind : ℕ → List Piece → Type 0
  Behind at ps = (pos : ℕ) × Here text tokens at pos ps

  mutual
    pub passed : (t : Tree) (at pos : ℕ) (ps : List Piece) → IsReadable table t → Here text tokens at pos (term_pieces table t ps) → Behind (at + width t) ps
    passed (var n) at pos ps printable here = (pos + length (variable_text n), (variable_facts n at pos ps here).next)
    passed (app f ts) at pos ps printable here =
        let head = word_facts f at pos (args_pieces table ts ps) printable.0 here in
        let rest = passed_args ts (at + 1) (pos + length (spelling (name_of table f))) ps printable.2 head.next in
        (rest.0, moved text tokens (at + 1 + args_width ts) (at + (1 + args_width ts)) rest.0 ps (omega arith) rest.1)

    passed_args : (ts : Trees) (at pos : ℕ) (ps : List Piece) → ArePrintable table ts → Here text tokens at pos (args_pieces table ts ps) → Behind (at + args_width ts) ps
    passed_args none at pos ps printable here = (pos, moved text tokens at (at + 0) pos ps (omega arith) here)
    passed_args (more t ts) at pos ps printable here =
        let open_mark = mark_facts 40 at pos (term_pieces table t (rest_pieces table ts ps)) here in
        let behind = passed t (at + 1) (pos + 1) (rest_pieces table ts ps) printable.0 open_mark.next in
        let rest = passed_rest ts (at + 1 + width t) behind.0 ps printable.1 behind.1 in
        (rest.0, moved text tokens (at + 1 + width t + rest_width ts) (at + (1 + width t + rest_width ts)) rest.0 ps (omega arith) rest.1)

    passed_rest : (ts : Trees) (at pos : ℕ) (ps : List Piece) → ArePrintable table ts → Here text tokens at pos (rest_pieces table ts ps) → Behind (at + rest_width ts) ps
    passed_rest none at pos ps printable here = (pos + 1, (mark_facts 41 at pos ps here).next)
    passed_rest (more t ts) at pos ps printable here =
        let comma = mark_facts 44 at pos (term_pieces table t (rest_pieces table ts ps)) here in
        let behind = passed t (at + 1) (pos + 1) (rest_pieces table ts ps) printable.0 comma.next in
        let rest = passed_rest ts (at + 1 + width t) behind.0 ps printable.1 behind.1 in
        (rest.0, moved text tokens (at + 1 + width t + rest_width ts) (at + (1 + width t + rest_width ts)) rest.0 ps (omega arith) rest.1)

  -- behind an argument no bracket opens
  not_open : (ts : Trees) (at pos : ℕ) (ps : List Piece) → Here text tokens at pos (rest_pieces table ts ps) → terminal_at text tokens at ≢ terminal.Open
  not_open none at pos ps here h = let e = (mark_facts 41 at pos ps here).terminal in cc
  not_open (more t ts) at pos ps here h = let e = (mark_facts 44 at pos (term_pieces table t (rest_pieces table ts ps)) here).terminal in cc

  mutual
    pub term_reads : (t : Tree) (used at pos : ℕ) (ps : List Piece) → IsReadable table t → used + nodes t ≤ 4096 → Here text tokens at pos (term_pieces table t ps) → terminal_at text tokens (at + width t) ≢ terminal.Open → Term text tokens used at (read (parse_at at t) (at + width t))
    term_reads (var n) used at pos ps printable small here alone =
        is_variable (ap head_of (variable_facts n at pos ps here).terminal) (omega arith)
    term_reads (app f none) used at pos ps printable small here alone =
        is_constant (ap head_of (word_facts f at pos ps printable.0 here).terminal ∙ functor_head (name_of table f) _) (omega arith) alone
    term_reads (app f (more t ts)) used at pos ps printable small here alone =
        let head = word_facts f at pos (args_pieces table (more t ts) ps) printable.0 here in
        let open_mark = mark_facts 40 (at + 1) (pos + length (spelling (name_of table f))) (inner_pieces table (more t ts) ps) head.next in
        let inside = moved text tokens (at + 1 + 1) (at + 2) (pos + length (spelling (name_of table f)) + 1) (inner_pieces table (more t ts) ps) (omega arith) open_mark.next in
        let few : 1 + count (more t ts) ≤ 256 = omega (arith, printable.0.2, printable.1) in
        let args = args_read (more t ts) at 1 (used + 1) (at + 2) (pos + length (spelling (name_of table f)) + 1) ps (omega arith) printable.2 few (omega arith) inside in
        let end : at + 2 + (width t + rest_width ts) ≡ at + (1 + (1 + width t + rest_width ts)) = omega arith in
        subst (λ e. Term text tokens used at (read (parse_at at (app f (more t ts))) e)) end
        (is_applied (ap head_of head.terminal ∙ functor_head (name_of table f) _) (omega (arith, nodes_pos t)) open_mark.terminal args)

    args_read : (ts : Trees) (functor number used at pos : ℕ) (ps : List Piece) → 0 < count ts → ArePrintable table ts → number + count ts ≤ 256 → used + nodes_all ts ≤ 4096 → Here text tokens at pos (inner_pieces table ts ps) → Args text tokens functor number used at (read (parses_at at ts) (at + inner_width ts))
    args_read none functor number used at pos ps some printable few small here = absurd (omega arith)
    args_read (more t none) functor number used at pos ps some printable few small here =
        let behind = passed t at pos (rest_pieces table none ps) printable.0 here in
        let end : at + width t + 1 ≡ at + (width t + 1) = omega arith in
        subst (λ e. Args text tokens functor number used at (read (parses_at at (more t none)) e)) end
        (is_last (term_reads t used at pos (rest_pieces table none ps) printable.0 (omega arith) here (not_open none (at + width t) behind.0 ps behind.1)) (mark_facts 41 (at + width t) behind.0 ps behind.1).terminal)
    args_read (more t (more u us)) functor number used at pos ps some printable few small here =
        let behind = passed t at pos (rest_pieces table (more u us) ps) printable.0 here in
        let comma = mark_facts 44 (at + width t) behind.0 (inner_pieces table (more u us) ps) behind.1 in
        let rest = args_read (more u us) functor (number + 1) (used + size (parse_at at t)) (at + width t + 1) (behind.0 + 1) ps (omega arith) printable.1 (omega arith) (omega (arith, size_parse at t)) comma.next in
        let end : at + width t + 1 + (width u + rest_width us) ≡ at + (width t + (1 + width u + rest_width us)) = omega arith in
        subst (λ e. Args text tokens functor number used at (read (parses_at at (more t (more u us))) e)) end
        (is_followed (term_reads t used at pos (rest_pieces table (more u us) ps) printable.0 (omega (arith, nodes_pos u)) here (not_open (more u us) (at + width t) behind.0 ps behind.1)) comma.terminal (omega arith) rest)

  symbol_here : (f : Sym) (n at pos : ℕ) (ps : List Piece) → IsPrintableSymbol table f → n ≡ arity_of table f → Here text tokens at pos (lexeme (kind_of_word (name_of table f)) (spelling (name_of table f)) ∷ ps) → IsSymbol table f (word_at text tokens at) n
  symbol_here f n at pos ps printable e here =
      let word : word_at text tokens at ≡ name_of table f = (word_facts f at pos ps printable here).word ∙ stands_for_spelling (name_of table f) in
      rw (word, e) (symbol_is table f printable.0)

  module _ (seen : List (List ℕ)) (σ : ℕ → ℕ) where
    mutual
      pub term_means : (t : Tree) (at pos : ℕ) (ps : List Piece) → IsReadable table t → AreKnown seen σ (variables t) → Here text tokens at pos (term_pieces table t ps) → Means text tokens table seen (parse_at at t) (apply (λ x. var (σ x)) t)
      term_means (var n) at pos ps printable known here = variable_means (known.0 ∙ ap Some (sym (variable_facts n at pos ps here).bytes))
      term_means (app f none) at pos ps printable known here = functor_means (symbol_here f 0 at pos ps printable.0 printable.1 here) none_mean
      term_means (app f (more t ts)) at pos ps printable known here =
          let head = word_facts f at pos (args_pieces table (more t ts) ps) printable.0 here in
          let open_mark = mark_facts 40 (at + 1) (pos + length (spelling (name_of table f))) (inner_pieces table (more t ts) ps) head.next in
          let inside = moved text tokens (at + 1 + 1) (at + 2) (pos + length (spelling (name_of table f)) + 1) (inner_pieces table (more t ts) ps) (omega arith) open_mark.next in
          functor_means (symbol_here f (count (apply_all (λ x. var (σ x)) (more t ts))) at pos (args_pieces table (more t ts) ps) printable.0 (count-apply_all (λ x. var (σ x)) (more t ts) ∙ printable.1) here)
          (args_mean (more t ts) (at + 2) (pos + length (spelling (name_of table f)) + 1) ps printable.2 known inside)

      args_mean : (ts : Trees) (at pos : ℕ) (ps : List Piece) → ArePrintable table ts → AreKnown seen σ (variables_all ts) → Here text tokens at pos (inner_pieces table ts ps) → MeanAll text tokens table seen (parses_at at ts) (apply_all (λ x. var (σ x)) ts)
      args_mean none at pos ps printable known here = none_mean
      args_mean (more t none) at pos ps printable known here =
          more_mean (term_means t at pos (rest_pieces table none ps) printable.0 (known_split seen σ (variables t) [] known).0 here) none_mean
      args_mean (more t (more u us)) at pos ps printable known here =
          let behind = passed t at pos (rest_pieces table (more u us) ps) printable.0 here in
          let comma = mark_facts 44 (at + width t) behind.0 (inner_pieces table (more u us) ps) behind.1 in
          let both = known_split seen σ (variables t) (variables_all (more u us)) known in
          more_mean (term_means t at pos (rest_pieces table (more u us) ps) printable.0 both.0 here) (args_mean (more u us) (at + width t + 1) (behind.0 + 1) ps printable.1 both.1 comma.next)

  -- the names of the variables
  mutual
    pub term_names : (t : Tree) (at pos : ℕ) (ps : List Piece) → IsReadable table t → Here text tokens at pos (term_pieces table t ps) → map (bytes_at text tokens) (parse.variables (parse_at at t)) ≡ map variable_text (variables t)
    term_names (var n) at pos ps printable here = ap (λ x. x ∷ []) (variable_facts n at pos ps here).bytes
    term_names (app f none) at pos ps printable here = refl
    term_names (app f (more t ts)) at pos ps printable here =
        let head = word_facts f at pos (args_pieces table (more t ts) ps) printable.0 here in
        let open_mark = mark_facts 40 (at + 1) (pos + length (spelling (name_of table f))) (inner_pieces table (more t ts) ps) head.next in
        let inside = moved text tokens (at + 1 + 1) (at + 2) (pos + length (spelling (name_of table f)) + 1) (inner_pieces table (more t ts) ps) (omega arith) open_mark.next in
        args_names (more t ts) (at + 2) (pos + length (spelling (name_of table f)) + 1) ps printable.2 inside

    args_names : (ts : Trees) (at pos : ℕ) (ps : List Piece) → ArePrintable table ts → Here text tokens at pos (inner_pieces table ts ps) → map (bytes_at text tokens) (parse.variables_all (parses_at at ts)) ≡ map variable_text (variables_all ts)
    args_names none at pos ps printable here = refl
    args_names (more t none) at pos ps printable here =
        map-append (bytes_at text tokens) (parse.variables (parse_at at t)) [] ∙ ap (λ l. l ++ []) (term_names t at pos (rest_pieces table none ps) printable.0 here) ∙ sym (map-append variable_text (variables t) [])
    args_names (more t (more u us)) at pos ps printable here =
        let behind = passed t at pos (rest_pieces table (more u us) ps) printable.0 here in
        let comma = mark_facts 44 (at + width t) behind.0 (inner_pieces table (more u us) ps) behind.1 in
        map-append (bytes_at text tokens) (parse.variables (parse_at at t)) (parse.variables_all (parses_at (at + width t + 1) (more u us))) ∙ ap₂ (λ a b. a ++ b) (term_names t at pos (rest_pieces table (more u us) ps) printable.0 here) (args_names (more u us) (at + width t + 1) (behind.0 + 1) ps printable.1 comma.next) ∙ sym (map-append variable_text (variables t) (variables_all (more u us)))
