-- What the grammar reads from the pieces of a printed proof: terms, steps and sources.
use Rattle.std.proofs.Common.{◌≡◌, ◌≢◌, ℕ, ◌+◌, ◌≤◌, List, [], ◌∷◌, map, refl, sym, ap, ◌∙◌, arith, Some, None}
use Rattle.std.specs.Prelude.{codes}
use Rattle.std.specs.List.{AllByRecursion}
use Rattle.std.proofs.lemmas.Option.{slice_get-get_or}
use Rattle.uc_term.specs.Tree.{Tree, nodes}
use Rattle.uc_term.specs.Table.{Table}
use Rattle.uc_term.specs.Variables.{variables, place_of, renumbered_by}
use Rattle.uc_clause.specs.declared.token.Token.{Token}
use Rattle.uc_clause.specs.declared.terminal.Terminal.{Terminal}
use Rattle.uc_clause.specs.declared.terminal.Terminal.TheVariants as terminal
use Rattle.uc_clause.specs.Terminals.{terminal_at, bytes_at}
use Rattle.uc_clause.specs.Rules.{read, goes_on, is_first, is_second}
use Rattle.uc_clause.specs.Meaning.{Means, variables_in}
use Rattle.uc_clause.specs.Items as items
use Rattle.uc_clause.specs.Printing.{variable_text}
use Rattle.uc_clause.proofs.Joined.{Piece}
use Rattle.uc_clause.proofs.Printed.{term_pieces, width, parse_at}
use Rattle.uc_clause.proofs.ReadBack.{passed, term_reads, term_means, term_names, AreKnown}
use Rattle.uc_check.specs.declared.proof.LineStep.{LineStep}
use Rattle.uc_tstp.specs.Parse as parse
use Rattle.uc_tstp.specs.Lines as lines
use Rattle.uc_tstp.specs.Meaning.{IsNamed, AreNamed, none_named, one_named}
use Rattle.uc_tstp.specs.Reading.{first_unknown}
use Rattle.uc_tstp.specs.Printing.{way_text, line_name, step_text}
use Rattle.uc_tstp.proofs.Bounded.{IsPrintableTerm}
use Rattle.uc_tstp.proofs.PrintedPieces.{mark, comma, further_pieces}
use Rattle.uc_tstp.proofs.LinePieces.{readable_term, the_name, by_pieces, IsBy, step_pieces, IsStepBy, parents_pieces}
use Rattle.uc_tstp.proofs.TokensAgain.{At, mark_here, comma_here, is_comma, lower_here, name_here, reads_lower, reads_word, reads_way, way_some, Member, Pairs, Listed, IsRead, members_here, list_here, not_close_at, path_here}
use Rattle.uc_tstp.proofs.Unknowns.{known_one, unknown_more}

module _ (table : Table) (names : List (List ℕ)) (text : List ℕ) (tokens : List Token) where
  -- what these variables were given for names
  abbrev pub Known : List ℕ → List ℕ → Type 0
  Known xs vs = AreKnown (map variable_text xs) (place_of xs) vs

  -- terms
  pub record TermHere (t : Tree) (at : ℕ) (ps : List Piece) : Type 0 where
    pub reads : items.term text tokens at (read (parse_at at t) (at + width t))
    pub names_are : variables_in text tokens (parse_at at t) ≡ map variable_text (variables t)
    pub means : (xs : List ℕ) → Known xs (variables t) → Means text tokens table (map variable_text xs) (parse_at at t) (renumbered_by xs t)
    pub behind : At text tokens (at + width t) ps

  -- no bracket opens here
  abbrev pub IsClosed : List Piece → Type 0
  IsClosed ps = (at : ℕ) → At text tokens at ps → terminal_at text tokens at ≢ terminal.Open

  pub term_here : {at : ℕ} {ps : List Piece} (t : Tree) → IsPrintableTerm table t → IsClosed ps → At text tokens at (term_pieces table t ps) → TermHere t at ps
  term_here {at} {ps} t printable closed here =
      let behind = passed table text tokens t at here.0 ps (readable_term table t printable) here.1 in
      let small : 0 + nodes t ≤ 4096 = omega (arith, printable.small) in
      record {
        reads = term_reads table text tokens t 0 at here.0 ps (readable_term table t printable) small here.1 (closed (at + width t) behind);
        names_are = term_names table text tokens t at here.0 ps (readable_term table t printable) here.1;
        means = λ xs known. term_means table text tokens (map variable_text xs) (place_of xs) t at here.0 ps (readable_term table t printable) known here.1;
        behind = behind;
      }

  closed_by : (t : Terminal) → t ≢ terminal.Open → (at : ℕ) → terminal_at text tokens at ≡ t → terminal_at text tokens at ≢ terminal.Open
  closed_by t n at e h = n (sym e ∙ h)

  close_is_closed : (ps : List Piece) → IsClosed (mark 41 ps)
  close_is_closed ps at here = closed_by terminal.Close (λ h. cc) at (mark_here text tokens 41 terminal.Close refl here).terminal

  pub close_square_is_closed : (ps : List Piece) → IsClosed (mark 93 ps)
  close_square_is_closed ps at here = closed_by terminal.CloseSquare (λ h. cc) at (mark_here text tokens 93 terminal.CloseSquare refl here).terminal

  pub comma_is_closed : (ps : List Piece) → IsClosed (comma ps)
  comma_is_closed ps at here = closed_by terminal.Comma (λ h. cc) at (comma_here text tokens here).terminal

  -- parents
  named_by : (n : ℕ) → IsBy table names n → (at : ℕ) → bytes_at text tokens at ≡ the_name table names n → IsNamed text tokens names at n
  named_by n by at e = slice_get-get_or names n [] by.0 ∙ ap Some (sym e)

  abbrev pub By : ℕ → ℕ → Type 0
  By n k = IsNamed text tokens names k n

  by_here : (n : ℕ) → IsBy table names n → (at : ℕ) (ps : List Piece) → At text tokens at (by_pieces table names n ps) → Member text tokens (lines.lower text tokens) By n at ps
  by_here n by at ps here =
      let l = name_here text tokens (the_name table names n) by.1 here in
      record { v = at; end = at + 1; reads = reads_lower text tokens (the_name table names n) l; on = named_by n by at l.bytes; behind = l.behind; not_close = not_close_at text tokens (the_name table names n) l }

  by_all : (ns : List ℕ) → AllByRecursion (IsBy table names) ns → AllByRecursion (IsRead text tokens (lines.lower text tokens) By (codes ", ") (line_name names) comma (by_pieces table names) (is_comma text tokens)) ns
  by_all [] all = tt
  by_all (n ∷ ns) all = (by_here n all.0, by_all ns all.1)

  all_named : (ns ks : List ℕ) → Pairs text tokens By ns ks → AreNamed text tokens names ks ns
  all_named [] [] on = none_named
  all_named [] (k ∷ ks) on = elim on [ ]
  all_named (n ∷ ns) [] on = elim on [ ]
  all_named (n ∷ ns) (k ∷ ks) on = one_named on.0 (all_named ns ks on.1)

  all_known : (ns ks : List ℕ) → Pairs text tokens By ns ks → first_unknown text tokens names ks ≡ None
  all_known [] [] on = refl
  all_known [] (k ∷ ks) on = elim on [ ]
  all_known (n ∷ ns) [] on = elim on [ ]
  all_known (n ∷ ns) (k ∷ ks) on = unknown_more text tokens names (k ∷ []) ks (known_one text tokens names k n on.0) ∙ all_known ns ks on.1

  pub record ParentsHere (parents : List ℕ) (at : ℕ) (ps : List Piece) : Type 0 where
    pub ks : List ℕ
    pub end : ℕ
    pub reads : lines.rest_of_inference text tokens at (read ks end)
    pub named : AreNamed text tokens names ks parents
    pub known : first_unknown text tokens names ks ≡ None
    pub behind : At text tokens end ps

  -- what stands behind the first list of an inference
  pub parents_here : {at : ℕ} {ps : List Piece} (parents : List ℕ) → AllByRecursion (IsBy table names) parents → At text tokens at (comma (parents_pieces table names parents (mark 41 ps))) → ParentsHere parents at ps
  parents_here {at} {ps} parents by here =
      let c = comma_here text tokens here in
      let l = list_here text tokens (lines.lower text tokens) By (codes ", ") (line_name names) comma (by_pieces table names) (is_comma text tokens) parents (at + 1) (mark 41 ps) (by_all parents by) c.behind in
      let close = mark_here text tokens 41 terminal.Close refl l.behind in
      record { ks = l.vs; end = l.end + 1; reads = goes_on c.reads (goes_on l.reads (goes_on close.reads refl)); named = all_named parents l.vs l.on; known = all_known parents l.vs l.on; behind = close.behind }

  -- steps
  pub record StepOn (s : LineStep) (v : parse.Step) : Type 0 where
    pub by : IsNamed text tokens names v.by s.by
    pub way : s.left_to_right ≡ v.left_to_right
    pub path : s.path ≡ v.path
    pub names_are : variables_in text tokens v.to ≡ map variable_text (variables s.to)
    pub means : (xs : List ℕ) → Known xs (variables s.to) → Means text tokens table (map variable_text xs) v.to (renumbered_by xs s.to)

  step_here : (s : LineStep) → IsStepBy table names s → (at : ℕ) (ps : List Piece) → At text tokens at (step_pieces table names s ps) → Member text tokens (lines.step text tokens) StepOn s at ps
  step_here s is at ps here =
      let w = lower_here text tokens (codes "step") (omega arith) here in
      let o = mark_here text tokens 40 terminal.Open refl w.behind in
      let n = name_here text tokens (the_name table names s.by) is.by.1 o.behind in
      let c = comma_here text tokens n.behind in
      let y = lower_here text tokens (way_text s.left_to_right) (way_some s.left_to_right) c.behind in
      let d = comma_here text tokens y.behind in
      let p = path_here text tokens s.path is.printable.path d.behind in
      let e = comma_here text tokens p.behind in
      let t = term_here s.to is.printable.to (close_is_closed ps) e.behind in
      let close = mark_here text tokens 41 terminal.Close refl t.behind in
      record {
        v = record { by = at + 1 + 1; left_to_right = s.left_to_right; path = s.path; to = parse_at (p.end + 1) s.to };
        end = p.end + 1 + width s.to + 1;
        reads = goes_on (goes_on (reads_word text tokens (codes "step") w) (goes_on o.reads (goes_on (reads_lower text tokens (the_name table names s.by) n) (goes_on c.reads (goes_on (reads_way text tokens s.left_to_right y) (goes_on d.reads (goes_on p.reads (goes_on e.reads refl))))))))
            (goes_on t.reads (goes_on close.reads refl));
        on = record { by = named_by s.by is.by (at + 1 + 1) n.bytes; way = refl; path = refl; names_are = t.names_are; means = t.means };
        behind = close.behind;
        not_close = not_close_at text tokens (codes "step") w;
      }

  steps_all : (ss : List LineStep) → AllByRecursion (IsStepBy table names) ss → AllByRecursion (IsRead text tokens (lines.step text tokens) StepOn (codes ", ") (step_text table names) comma (step_pieces table names) (is_comma text tokens)) ss
  steps_all [] all = tt
  steps_all (s ∷ ss) all = (step_here s all.0, steps_all ss all.1)

  -- the steps of a chain behind its first term
  pub steps_here : {at : ℕ} {ps : List Piece} (steps : List LineStep) → AllByRecursion (IsStepBy table names) steps → At text tokens at (further_pieces (codes ", ") (step_text table names) comma (step_pieces table names) steps (mark 93 ps)) → Listed text tokens (lines.steps text tokens) StepOn steps at ps
  steps_here {at} [] all here =
      let close = mark_here text tokens 93 terminal.CloseSquare refl here in
      record { vs = []; end = at + 1; reads = is_first close.terminal (goes_on close.reads refl); on = tt; behind = close.behind }
  steps_here {at} {ps} (s ∷ ss) all here =
      let c = comma_here text tokens here in
      let l = members_here text tokens (lines.step text tokens) StepOn (codes ", ") (step_text table names) comma (step_pieces table names) (is_comma text tokens) s ss (at + 1) ps (step_here s all.0) (steps_all ss all.1) c.behind in
      record { vs = l.vs; end = l.end; reads = is_second (comma_no_close (terminal_at text tokens at) c.terminal) (goes_on c.reads l.reads); on = l.on; behind = l.behind }
    where
      comma_no_close : (t : Terminal) → t ≡ terminal.Comma → t ≢ terminal.CloseSquare
      comma_no_close t e h = cc
