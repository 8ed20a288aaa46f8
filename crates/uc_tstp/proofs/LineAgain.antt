-- What the grammar reads from the pieces of a printed proof: a line, and all lines.
use Rattle.std.proofs.Common.{◌≡◌, ◌≢◌, ℕ, ◌+◌, Bool, true, false, List, [], ◌∷◌, ◌++◌, length, map, refl, sym, ap, ap₂, ◌∙◌, subst, arith, None}
use Rattle.std.specs.Prelude.{codes, bytes_eq}
use Rattle.std.specs.List.{flat_map, list_any, AllByRecursion}
use Rattle.std.proofs.lemmas.List.{map-append}
use Rattle.uc_term.specs.Tree.{Tree, var}
use Rattle.uc_term.specs.Table.{Table}
use Rattle.uc_term.specs.Variables.{variables, firsts, place_of, renumbered_by}
use Rattle.uc_clause.specs.declared.token.Kind.TheVariants.{Dollar}
use Rattle.uc_clause.specs.declared.token.Token.{Token}
use Rattle.uc_clause.specs.declared.terminal.Terminal.{Terminal}
use Rattle.uc_clause.specs.declared.terminal.Terminal.TheVariants as terminal
use Rattle.uc_clause.specs.declared.grammar.stop.Why.TheVariants.{NoSign}
use Rattle.uc_clause.specs.Terminals.{terminal_at, bytes_at}
use Rattle.uc_clause.specs.Rules.{read, read_or_stop, goes_on}
use Rattle.uc_clause.specs.Parse.{Literal, Sides}
use Rattle.uc_clause.specs.Meaning.{Means, with_names, Variables}
use Rattle.uc_clause.specs.Printing.{variable_text, role_text}
use Rattle.uc_clause.specs.Printable.{AreNumbered}
use Rattle.uc_clause.proofs.Printing.{numbered_both}
use Rattle.uc_clause.proofs.Joined.{Piece, lexeme}
use Rattle.uc_clause.proofs.Printed.{term_pieces, width, parse_at, facts, at_end}
use Rattle.uc_clause.proofs.PrintedClause.{sign_pieces, role_name}
use Rattle.uc_clause.proofs.ClauseAgain.{begins, sign_facts}
use Rattle.uc_clause.proofs.ReadBack.{known_split}
use Rattle.uc_clause.proofs.Renumbering.{names_of, known_firsts}
use Rattle.uc_check.specs.declared.proof.Line.{Line}
use Rattle.uc_check.specs.declared.proof.LineStep.{LineStep}
use Rattle.uc_check.specs.declared.proof.LineSource.{LineSource}
use Rattle.uc_check.specs.declared.proof.LineSource.TheVariants.{File, Chain, Reflexive, EncodeGoal, Refute}
use Rattle.uc_tstp.specs.Parse as parse
use Rattle.uc_tstp.specs.Lines as lines
use Rattle.uc_tstp.specs.Lines.{is_falsum, belongs, LinesAt, is_no_line, has_line}
use Rattle.uc_tstp.specs.declared.scope.Scope.{Scope}
use Rattle.uc_tstp.specs.declared.scope.Scope.TheVariants as scope
use Rattle.uc_tstp.specs.Meaning.{MeansBody, MeansSource, MeansLine, MeanLines, no_lines, one_line}
use Rattle.uc_tstp.specs.Meaning as meaning
use Rattle.uc_tstp.specs.Reading.{first_unknown}
use Rattle.uc_tstp.specs.Printing.{role_of, names_in}
use Rattle.uc_tstp.specs.Printable.{source_variables, line_variables, renumbered_source, renumbered_line, AreLineNames, belongs_line, AreOf}
use Rattle.uc_tstp.proofs.Bounded.{IsPrintableTerm, IsPrintableStep, IsPrintableSource, IsPrintableBody}
use Rattle.uc_tstp.proofs.PrintedPieces.{comma, equation_pieces}
use Rattle.uc_tstp.proofs.LinePieces.{readable_term, source_pieces, IsSourceBy, body_pieces, end_pieces, line_pieces, lines_pieces, IsLineAgain, AreLinesAgain}
use Rattle.uc_tstp.proofs.TokensAgain.{At, mark_here, comma_here, skip, lower_here, name_here, reads_lower, reads_word}
use Rattle.uc_tstp.proofs.TermsAgain.{Known, IsClosed, comma_is_closed, term_here}
use Rattle.uc_tstp.proofs.SourceAgain.{Fits, source_here}
use Rattle.uc_tstp.proofs.Unknowns.{unknown_more}

falsum_or_dollar : (t : Terminal) (bs : List ℕ) → t ≢ terminal.Dollar → is_falsum t bs ≡ false
falsum_or_dollar terminal.Dollar bs n = absurd (n refl)
falsum_or_dollar terminal.Lower bs n = refl
falsum_or_dollar terminal.Upper bs n = refl
falsum_or_dollar terminal.Quoted bs n = refl
falsum_or_dollar terminal.Distinct bs n = refl
falsum_or_dollar terminal.Integer bs n = refl
falsum_or_dollar terminal.Unequal bs n = refl
falsum_or_dollar terminal.Open bs n = refl
falsum_or_dollar terminal.Close bs n = refl
falsum_or_dollar terminal.OpenSquare bs n = refl
falsum_or_dollar terminal.CloseSquare bs n = refl
falsum_or_dollar terminal.Comma bs n = refl
falsum_or_dollar terminal.Dot bs n = refl
falsum_or_dollar terminal.Equal bs n = refl
falsum_or_dollar terminal.Bar bs n = refl
falsum_or_dollar terminal.Tilde bs n = refl
falsum_or_dollar terminal.Star bs n = refl
falsum_or_dollar terminal.OtherMark bs n = refl
falsum_or_dollar terminal.End bs n = refl

module _ (table : Table) (names : List (List ℕ)) (text : List ℕ) (tokens : List Token) where
  -- equations
  abbrev sides_at : ℕ → Tree → Tree → Sides
  sides_at at left right = record { left = parse_at at left; right = parse_at (at + width left + 1) right }

  abbrev literal_at : ℕ → Bool → Tree → Tree → Literal
  literal_at at positive left right = record { positive = positive; sides = sides_at at left right }

  record EquationHere (positive : Bool) (left right : Tree) (at : ℕ) (ps : List Piece) : Type 0 where
    pub reads : lines.body text tokens at (read (parse.says (literal_at at positive left right)) (at + width left + 1 + width right))
    pub names_are : meaning.body_variables text tokens (parse.says (literal_at at positive left right)) ≡ map variable_text (variables left ++ variables right)
    pub means : (xs : List ℕ) → Known table names text tokens xs (variables left ++ variables right) → Means text tokens table (map variable_text xs) (parse_at at left) (renumbered_by xs left) × Means text tokens table (map variable_text xs) (parse_at (at + width left + 1) right) (renumbered_by xs right)
    pub behind : At text tokens (at + width left + 1 + width right) ps

  sign_is_closed : (positive : Bool) (ps : List Piece) → IsClosed table names text tokens (sign_pieces positive ps)
  sign_is_closed positive ps at here = (sign_facts table text tokens positive at here.0 ps here.1).not_open

  equation_here : {at : ℕ} {ps : List Piece} (positive : Bool) (left right : Tree) → IsPrintableTerm table left → IsPrintableTerm table right → IsClosed table names text tokens ps → At text tokens at (equation_pieces table positive left right ps) → EquationHere positive left right at ps
  equation_here {at} {ps} positive left right h k closed here =
      let l = term_here table names text tokens left h (sign_is_closed positive (term_pieces table right ps)) here in
      let sign = sign_facts table text tokens positive (at + width left) l.behind.0 (term_pieces table right ps) l.behind.1 in
      let r = term_here table names text tokens right k closed sign.behind in
      let not_dollar = begins table text tokens left at here.0 (sign_pieces positive (term_pieces table right ps)) (readable_term table left h) here.1 terminal.Dollar refl in
      record {
        reads = lines.is_equation {outcome = read (literal_at at positive left right) (at + width left + 1 + width right)} (falsum_or_dollar (terminal_at text tokens at) (bytes_at text tokens at) not_dollar) (goes_on refl (goes_on l.reads (goes_on (sym (ap (λ o. read_or_stop (NoSign at) o (at + width left)) sign.is_read)) (goes_on r.reads refl))));
        names_are = ap₂ (λ a b. a ++ b) l.names_are r.names_are ∙ sym (map-append variable_text (variables left) (variables right));
        means = λ xs known. let both = known_split (map variable_text xs) (place_of xs) (variables left) (variables right) known in (l.means xs both.0, r.means xs both.1);
        behind = r.behind;
      }

  -- what stands behind the role of a line
  abbrev variables_by : Line → LineSource → List ℕ
  variables_by line source = firsts (variables line.left ++ variables line.right ++ source_variables source)

  abbrev line_by : Line → LineSource → Line
  line_by line source = record line { left = renumbered_by (variables_by line source) line.left; right = renumbered_by (variables_by line source) line.right; source = renumbered_source (variables_by line source) source }

  pub record RestHere (line : Line) (source : LineSource) (name at : ℕ) (ps : List Piece) : Type 0 where
    pub l : parse.Line
    pub end : ℕ
    pub reads : lines.rest_of_line text tokens name at (read l end)
    pub name_is : l.name ≡ name
    pub body : MeansBody text tokens table names (meaning.variables_of text tokens l) l.body (line_by line source)
    pub says : MeansSource text tokens table names (meaning.variables_of text tokens l) l.source (renumbered_source (variables_by line source) source)
    pub known : first_unknown text tokens names (parse.mentions l.source) ≡ None
    pub behind : At text tokens end ps

  step_numbers : (ss : List LineStep) → AllByRecursion (IsPrintableStep table) ss → AreNumbered (flat_map (λ (s : LineStep). variables s.to) ss)
  step_numbers [] all = tt
  step_numbers (s ∷ ss) all = numbered_both (variables s.to) _ all.0.to.numbered (step_numbers ss all.1)

  source_numbers : (file : List ℕ) (source : LineSource) → IsPrintableSource table file source → AreNumbered (source_variables source)
  source_numbers file (File n) p = tt
  source_numbers file (Chain start steps parents) p = numbered_both (variables start) _ p.0.numbered (step_numbers steps p.1)
  source_numbers file (Reflexive parents) p = tt
  source_numbers file (EncodeGoal parents) p = tt
  source_numbers file (Refute parents) p = tt

  -- a line with an equation
  equation_rest : {at : ℕ} {ps : List Piece} (file : List ℕ) (line : Line) (source : LineSource) (name : ℕ) → IsPrintableTerm table line.left → IsPrintableTerm table line.right → IsSourceBy table names source → IsPrintableSource table file source → Fits source (parse.says (literal_at at line.positive line.left line.right)) → At text tokens at (equation_pieces table line.positive line.left line.right (comma (source_pieces table names file source (end_pieces table names ps)))) → RestHere line source name at ps
  equation_rest {at} {ps} file line source name left right by printable fits here =
      let e = equation_here line.positive line.left line.right left right (comma_is_closed table names text tokens _) here in
      let c = comma_here text tokens e.behind in
      let s = source_here table names text tokens file source (parse.says (literal_at at line.positive line.left line.right)) at by printable fits c.behind in
      let close = mark_here text tokens 41 terminal.Close refl s.behind in
      let dot = mark_here text tokens 46 terminal.Dot refl close.behind in
      let all : List ℕ = variables line.left ++ variables line.right ++ source_variables source in
      let numbered : AreNumbered all = numbered_both (variables line.left ++ variables line.right) (source_variables source) (numbered_both (variables line.left) (variables line.right) left.numbered right.numbered) (source_numbers file source printable) in
      let said : with_names [] (meaning.body_variables text tokens (parse.says (literal_at at line.positive line.left line.right)) ++ meaning.source_variables text tokens s.s) ≡ map variable_text (firsts all) = ap (with_names []) (ap₂ (λ a b. a ++ b) e.names_are s.names_are ∙ sym (map-append variable_text (variables line.left ++ variables line.right) (source_variables source))) ∙ names_of all numbered in
      let known = known_split (map variable_text (firsts all)) (place_of (firsts all)) (variables line.left ++ variables line.right) (source_variables source) (known_firsts all) in
      let sides = e.means (firsts all) known.0 in
      record {
        l = record { name = name; body = parse.says (literal_at at line.positive line.left line.right); source = s.s };
        end = s.end + 1 + 1;
        reads = goes_on refl (goes_on e.reads (goes_on c.reads (goes_on s.reads (goes_on close.reads (goes_on dot.reads refl)))));
        name_is = refl;
        body = rw said (refl, sides.0, sides.1);
        says = rw said (s.means (firsts all) known.1);
        known = s.known;
        behind = skip text tokens dot.behind;
      }

  -- a refutation
  no_variable : (left right : Tree) → left ≡ var 0 → right ≡ var 0 → (renumbered_by (firsts (variables left ++ variables right ++ [])) left ≡ var 0) × (renumbered_by (firsts (variables left ++ variables right ++ [])) right ≡ var 0)
  no_variable left right l r = rw (l, r) (refl, refl)

  refute_rest : {at : ℕ} {ps : List Piece} (file : List ℕ) (line : Line) (parents : List ℕ) (name : ℕ) → (line.positive ≡ true) × (line.left ≡ var 0) × (line.right ≡ var 0) → IsSourceBy table names (Refute parents) → At text tokens at (lexeme Dollar (codes "$false") ∷ comma (source_pieces table names file (Refute parents) (end_pieces table names ps))) → RestHere line (Refute parents) name at ps
  refute_rest {at} {ps} file line parents name body by here =
      let f = facts text tokens at here.0 Dollar (codes "$false") (comma (source_pieces table names file (Refute parents) (end_pieces table names ps))) (omega arith) here.1 in
      let c = comma_here text tokens (here.0 + length (codes "$false"), f.next) in
      let s = source_here table names text tokens file (Refute parents) parse.falsum at by tt refl c.behind in
      let close = mark_here text tokens 41 terminal.Close refl s.behind in
      let dot = mark_here text tokens 46 terminal.Dot refl close.behind in
      let said : with_names [] ([] ++ meaning.source_variables text tokens s.s) ≡ [] = ap (λ b. with_names [] ([] ++ b)) s.names_are in
      let sides = no_variable line.left line.right body.1 body.2 in
      record {
        l = record { name = name; body = parse.falsum; source = s.s };
        end = s.end + 1 + 1;
        reads = goes_on refl (goes_on (lines.is_false (ap₂ is_falsum f.terminal f.bytes)) (goes_on c.reads (goes_on s.reads (goes_on close.reads (goes_on dot.reads refl)))));
        name_is = refl;
        body = (body.0, sides.0, sides.1);
        says = rw said (s.means [] tt);
        known = s.known;
        behind = skip text tokens dot.behind;
      }

  rest_here : {at : ℕ} {ps : List Piece} (file : List ℕ) (line : Line) (source : LineSource) (name : ℕ) → IsPrintableBody table source line → IsSourceBy table names source → IsPrintableSource table file source → At text tokens at (body_pieces table line source (comma (source_pieces table names file source (end_pieces table names ps)))) → RestHere line source name at ps
  rest_here file line (File n) name body by printable here = equation_rest file line (File n) name body.0 body.1 by printable refl here
  rest_here file line (Chain start steps parents) name body by printable here = equation_rest file line (Chain start steps parents) name body.1 body.2 by printable body.0 here
  rest_here file line (Reflexive parents) name body by printable here = equation_rest file line (Reflexive parents) name body.1 body.2 by printable body.0 here
  rest_here file line (EncodeGoal parents) name body by printable here = equation_rest file line (EncodeGoal parents) name body.1 body.2 by printable body.0 here
  rest_here file line (Refute parents) name body by printable here = refute_rest file line parents name body by here

  -- a line
  record LineHere (earlier : List (List ℕ)) (line : Line) (at : ℕ) (ps : List Piece) : Type 0 where
    pub l : parse.Line
    pub end : ℕ
    pub reads : lines.line text tokens earlier at (read l end)
    pub named : bytes_at text tokens l.name ≡ line.name
    pub means : MeansLine text tokens table names l (renumbered_line line)
    pub known : first_unknown text tokens names (parse.mentions l.source) ≡ None
    pub not_end : terminal_at text tokens at ≢ terminal.End
    pub behind : At text tokens end ps

  lower_is_no_end : (t : Terminal) → t ≡ terminal.Lower → t ≢ terminal.End
  lower_is_no_end t e h = cc

  line_here : {at : ℕ} {ps : List Piece} (earlier : List (List ℕ)) (file : List ℕ) (line : Line) → IsLineAgain table names file line → list_any (bytes_eq line.name) earlier ≡ false → At text tokens at (line_pieces table names file line ps) → LineHere earlier line at ps
  line_here {at} {ps} earlier file line again new here =
      let w = lower_here text tokens (codes "cnf") (omega arith) here in
      let o = mark_here text tokens 40 terminal.Open refl w.behind in
      let n = name_here text tokens line.name again.named o.behind in
      let c = comma_here text tokens n.behind in
      let role : List ℕ = role_text (role_of line.positive line.source) in
      let r = name_here text tokens role (role_name (role_of line.positive line.source)) c.behind in
      let d = comma_here text tokens r.behind in
      let rest = rest_here file line line.source (at + 1 + 1) again.printable.body again.by again.printable.source d.behind in
      let is_new : list_any (bytes_eq (bytes_at text tokens (at + 1 + 1))) earlier ≡ false = ap (λ b. list_any (bytes_eq b) earlier) n.bytes ∙ new in
      let named : bytes_at text tokens rest.l.name ≡ line.name = ap (bytes_at text tokens) rest.name_is ∙ n.bytes in
      record {
        l = rest.l;
        end = rest.end;
        reads = goes_on (reads_word text tokens (codes "cnf") w) (goes_on o.reads (goes_on (lines.is_new n.terminal is_new) (goes_on c.reads (goes_on (reads_lower text tokens role r) (goes_on d.reads rest.reads)))));
        named = named;
        means = record { name = sym named; body = rest.body; source = rest.says };
        known = rest.known;
        not_end = lower_is_no_end (terminal_at text tokens at) w.terminal;
        behind = rest.behind;
      }

  -- a line's parse belongs where the line does
  same_scope : (which : Scope) (seen : Variables) (xs : List ℕ) (s : parse.Source) (source : LineSource) → MeansSource text tokens table names seen s (renumbered_source xs source) → belongs which s ≡ belongs_line which source
  same_scope scope.Proof seen xs s source h = refl
  same_scope scope.Derivation seen xs (parse.from_file k) (File name) h = refl
  same_scope scope.Derivation seen xs (parse.by_chain p ss ks) (Chain start steps parents) h = refl
  same_scope scope.Derivation seen xs (parse.by_reflexive ks) (Reflexive parents) h = refl
  same_scope scope.Derivation seen xs (parse.by_goal ks) (EncodeGoal parents) h = refl
  same_scope scope.Derivation seen xs (parse.by_refute ks) (Refute parents) h = refl
  same_scope scope.Derivation seen xs s source h = elim h [ ]

  -- all lines
  pub record LinesHere (which : Scope) (earlier : List (List ℕ)) (proof_lines : List Line) (at : ℕ) : Type 0 where
    pub ls : List parse.Line
    pub end : ℕ
    pub reads : LinesAt text tokens which earlier at (read ls end)
    pub named : meaning.names_of text tokens ls ≡ names_in proof_lines
    pub mean : MeanLines text tokens table names ls (map renumbered_line proof_lines)
    pub known : first_unknown text tokens names (parse.all_mentions ls) ≡ None

  pub lines_here : (which : Scope) (earlier : List (List ℕ)) (files : List (List ℕ)) (proof_lines : List Line) (at : ℕ) → AreLinesAgain table names files proof_lines → AreLineNames earlier (names_in proof_lines) → AreOf which proof_lines → At text tokens at (lines_pieces table names files proof_lines) → LinesHere which earlier proof_lines at
  lines_here which earlier [] [] at again new belong here = record { ls = []; end = at; reads = is_no_line (at_end text tokens at here.0 here.1); named = refl; mean = no_lines; known = refl }
  lines_here which earlier [] (line ∷ rest) at again new belong here = elim again [ ]
  lines_here which earlier (file ∷ files) [] at again new belong here = elim again [ ]
  lines_here which earlier (file ∷ files) (line ∷ proof_lines) at again new belong here =
      let first = line_here earlier file line again.0 new.1 here in
      let rest = lines_here which (line.name ∷ earlier) files proof_lines first.end again.1 new.2 belong.1 first.behind in
      record {
        ls = first.l ∷ rest.ls;
        end = rest.end;
        reads = has_line {outcome = read rest.ls rest.end} first.not_end first.reads (same_scope which (meaning.variables_of text tokens first.l) (line_variables line) first.l.source line.source first.means.source ∙ belong.0) (subst (λ b. LinesAt text tokens which (b ∷ earlier) first.end (read rest.ls rest.end)) (sym first.named) rest.reads);
        named = ap₂ (λ a b. a ∷ b) first.named rest.named;
        mean = one_line first.means rest.mean;
        known = unknown_more text tokens names (parse.mentions first.l.source) (parse.all_mentions rest.ls) first.known ∙ rest.known;
      }
