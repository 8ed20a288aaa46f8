-- The lines of a printed proof as pieces.
use Rattle.std.proofs.Common.{◌≡◌, ℕ, ◌+◌, ◌<◌, Bool, true, false, List, [], ◌∷◌, ◌++◌, length, get_or, refl, sym, ap, ◌∙◌, arith, append_assoc}
use Rattle.std.specs.Prelude.{codes, decimal, if◌then◌else◌}
use Rattle.std.specs.List.{list_all, prefix_len, AllByRecursion}
use Rattle.uc_term.specs.Tree.{Tree}
use Rattle.uc_term.specs.Table.{Table}
use Rattle.uc_clause.specs.declared.token.Kind.TheVariants.{Dollar}
use Rattle.uc_clause.specs.Bytes.{in_line, is_name, is_word, name_len}
use Rattle.uc_clause.specs.Names.{spelling}
use Rattle.uc_clause.specs.Tokens.{Stands, Skips}
use Rattle.uc_clause.specs.Printing.{term_text, equation_text, role_text}
use Rattle.uc_clause.proofs.Longest.{white_at, tail_is}
use Rattle.uc_clause.proofs.Dollars.{dollar_at}
use Rattle.uc_clause.proofs.Joined.{Piece, lexeme, blank, joined, AreApart}
use Rattle.uc_clause.proofs.Printed.{IsReadable, readable, Parts, term_pieces}
use Rattle.uc_clause.proofs.PrintedClause.{role_name}
use Rattle.uc_check.specs.declared.proof.Line.{Line}
use Rattle.uc_check.specs.declared.proof.LineStep.{LineStep}
use Rattle.uc_check.specs.declared.proof.LineSource.{LineSource}
use Rattle.uc_check.specs.declared.proof.LineSource.TheVariants.{File, Chain, Reflexive, EncodeGoal, Refute}
use Rattle.uc_tstp.specs.Printing.{further, path_text, way_text, role_of, is_refutation, line_name, inference_text, step_text, source_text, lines_text}
use Rattle.uc_tstp.specs.Printable.{IsPath}
use Rattle.uc_tstp.proofs.Bounded.{IsPrintableTerm, IsPrintableStep, IsPrintableSource, IsPrintableBody, IsPrintableLine}
use Rattle.uc_tstp.proofs.PrintedPieces.{Spells, followed, ended, nothing_spells, mark, open_spells, close_spells, open_square_spells, close_square_spells, bare_comma_spells, dot_spells, comma, comma_spells, lower, lower_spells, bare_spells, word, word_spells, name, name_spells, number, number_spells, term_spells, equation_pieces, equation_spells, further_pieces, listed_pieces, further_spells, listed_spells}

-- a term that can be printed is readable
pub readable_term : (table : Table) (t : Tree) → IsPrintableTerm table t → IsReadable table t
readable_term table t p = readable table t p.printable p.numbered

-- paths
abbrev pub path_pieces : List ℕ → List Piece → List Piece
path_pieces path ps = mark 91 (listed_pieces (codes ",") decimal (mark 44) number path (mark 93 ps))

path_numbers : (path : List ℕ) → IsPath path → AllByRecursion (λ n. Spells true (decimal n) (number n)) path
path_numbers [] path = tt
path_numbers (n ∷ ns) path = (number_spells n path.0.1, path_numbers ns path.1)

path_spells : (path : List ℕ) → IsPath path → Spells false (path_text path) (path_pieces path)
path_spells path is =
    followed (followed open_square_spells (listed_spells (codes ",") decimal (mark 44) number bare_comma_spells (λ ps. refl) path (path_numbers path is)) (λ ps ends. tt)) close_square_spells (λ ps ends. refl)

way_name : (left_to_right : Bool) → is_name (way_text left_to_right) ≡ true
way_name true = refl
way_name false = refl

module _ (table : Table) (names : List (List ℕ)) where
  -- the name of a line
  abbrev pub the_name : ℕ → List ℕ
  the_name n = get_or names n []

  abbrev pub by_pieces : ℕ → List Piece → List Piece
  by_pieces n ps = lower (the_name n) ps

  -- the number is that of a line, whose name is a lower-case word
  abbrev pub IsBy : ℕ → Type 0
  IsBy n = (n < length names) × (is_name (the_name n) ≡ true)

  by_names : (ns : List ℕ) → AllByRecursion IsBy ns → AllByRecursion (λ n. Spells true (line_name names n) (by_pieces n)) ns
  by_names [] all = tt
  by_names (n ∷ ns) all = (bare_spells (the_name n) all.0.1, by_names ns all.1)

  -- steps
  abbrev pub step_pieces : LineStep → List Piece → List Piece
  step_pieces s ps = lower (codes "step") (mark 40 (by_pieces s.by (comma (lower (way_text s.left_to_right) (comma (path_pieces s.path (comma (term_pieces table s.to (mark 41 ps)))))))))

  pub step_spells : (s : LineStep) → IsBy s.by → IsPrintableStep table s → Spells true (step_text table names s) (step_pieces s)
  step_spells s by printable =
      let replacement = followed (followed (followed (followed (lower_spells (way_text s.left_to_right) (way_name s.left_to_right)) comma_spells (λ ps ends. refl)) (path_spells s.path printable.path) (λ ps ends. tt)) comma_spells (λ ps ends. tt)) (term_spells table s.to (readable_term table s.to printable.to)) (λ ps ends. tt) in
      ended (followed (followed (followed (followed (followed (lower_spells (codes "step") refl) open_spells (λ ps ends. refl)) (bare_spells (the_name s.by) by.1) (λ ps ends. tt)) comma_spells (λ ps ends. refl)) replacement (λ ps ends. tt)) close_spells (λ ps ends. refl))

  pub record IsStepBy (s : LineStep) : Type 0 where
    pub by : IsBy s.by
    pub printable : IsPrintableStep table s

  all_steps : (ss : List LineStep) → AllByRecursion IsStepBy ss → AllByRecursion (λ s. Spells true (step_text table names s) (step_pieces s)) ss
  all_steps [] all = tt
  all_steps (s ∷ ss) all = (step_spells s all.0.by all.0.printable, all_steps ss all.1)

  -- sources
  abbrev pub parents_pieces : List ℕ → List Piece → List Piece
  parents_pieces parents ps = mark 91 (listed_pieces (codes ", ") (line_name names) comma by_pieces parents (mark 93 ps))

  abbrev pub inference_pieces : List ℕ → (List Piece → List Piece) → List ℕ → List Piece → List Piece
  inference_pieces rule info parents ps = lower (codes "inference") (mark 40 (lower rule (comma (mark 91 (info (mark 93 (comma (parents_pieces parents (mark 41 ps)))))))))

  pub inference_spells : (rule info : List ℕ) (pieces : List Piece → List Piece) (parents : List ℕ) → is_name rule ≡ true → Spells true info pieces → AllByRecursion IsBy parents → Spells false (inference_text names rule info parents) (inference_pieces rule pieces parents)
  inference_spells rule info pieces parents is s all =
      let opening = followed (lower_spells (codes "inference") refl) open_spells (λ ps ends. refl) in
      let before = followed comma_spells open_square_spells (λ ps ends. tt) in
      let between = followed (followed close_square_spells comma_spells (λ ps ends. tt)) open_square_spells (λ ps ends. tt) in
      let behind = followed close_square_spells close_spells (λ ps ends. tt) in
      let parents_spell = listed_spells (codes ", ") (line_name names) comma by_pieces comma_spells (λ ps. refl) parents (by_names parents all) in
      followed (followed (followed (followed (followed (followed opening (lower_spells rule is) (λ ps ends. tt)) before (λ ps ends. refl)) s (λ ps ends. tt)) between (λ ps ends. refl)) parents_spell (λ ps ends. tt)) behind (λ ps ends. refl)

  abbrev pub chain_pieces : Tree → List LineStep → List Piece → List Piece
  chain_pieces start steps ps = term_pieces table start (further_pieces (codes ", ") (step_text table names) comma step_pieces steps ps)

  abbrev pub source_pieces : List ℕ → LineSource → List Piece → List Piece
  source_pieces file (File n) ps = lower (codes "file") (mark 40 (word file (comma (name n (mark 41 ps)))))
  source_pieces file (Chain start steps parents) ps = inference_pieces (codes "chain") (chain_pieces start steps) parents ps
  source_pieces file (Reflexive parents) ps = inference_pieces (codes "encode") (lower (codes "reflexive")) parents ps
  source_pieces file (EncodeGoal parents) ps = inference_pieces (codes "encode") (lower (codes "goal")) parents ps
  source_pieces file (Refute parents) ps = inference_pieces (codes "refute") (λ qs. qs) parents ps

  further_steps_parts : (ss : List LineStep) (ps : List Piece) → Parts ps → Parts (further_pieces (codes ", ") (step_text table names) comma step_pieces ss ps)
  further_steps_parts [] ps parts = parts
  further_steps_parts (s ∷ ss) ps parts = refl

  -- all lines that a source names have lower-case words for names
  abbrev pub IsSourceBy : LineSource → Type 0
  IsSourceBy (File n) = Unit {0}
  IsSourceBy (Chain start steps parents) = AllByRecursion IsStepBy steps × AllByRecursion IsBy parents
  IsSourceBy (Reflexive parents) = AllByRecursion IsBy parents
  IsSourceBy (EncodeGoal parents) = AllByRecursion IsBy parents
  IsSourceBy (Refute parents) = AllByRecursion IsBy parents

  pub source_spells : (file : List ℕ) (source : LineSource) → IsSourceBy source → IsPrintableSource table file source → Spells false (source_text table names file source) (source_pieces file source)
  source_spells file (File n) by printable =
      let opening = followed (lower_spells (codes "file") refl) open_spells (λ ps ends. refl) in
      followed (followed (followed (followed opening (word_spells file printable.0) (λ ps ends. tt)) comma_spells (λ ps ends. refl)) (name_spells n printable.1) (λ ps ends. tt)) close_spells (λ ps ends. refl)
  source_spells file (Chain start steps parents) by printable =
      let further_steps = further_spells (codes ", ") (step_text table names) comma step_pieces comma_spells (λ ps. refl) steps (all_steps steps by.0) in
      inference_spells (codes "chain") (term_text table start ++ further (codes ", ") (step_text table names) steps) (chain_pieces start steps) parents refl (followed (term_spells table start (readable_term table start printable.0)) further_steps (λ ps ends. further_steps_parts steps ps ends)) by.1
  source_spells file (Reflexive parents) by printable = inference_spells (codes "encode") (codes "reflexive") (lower (codes "reflexive")) parents refl (lower_spells (codes "reflexive") refl) by
  source_spells file (EncodeGoal parents) by printable = inference_spells (codes "encode") (codes "goal") (lower (codes "goal")) parents refl (lower_spells (codes "goal") refl) by
  source_spells file (Refute parents) by printable = inference_spells (codes "refute") [] (λ qs. qs) parents refl nothing_spells by

-- bodies
false_stands : (rest : List ℕ) → prefix_len is_word rest ≡ 0 → Stands (codes "$false" ++ rest) Dollar 6
false_stands rest none = dollar_at (codes "$false" ++ rest) 5 (omega arith) refl (sym (ap (λ n. 1 + (1 + (1 + (1 + (1 + n))))) none) ∙ sym (ap name_len (tail_is 36 (codes "false" ++ rest)))) (omega arith)

pub false_spells : Spells true (codes "$false") (λ ps. lexeme Dollar (codes "$false") ∷ ps)
false_spells = record { whole = λ ps. refl; apart = λ ps apart ends. (false_stands (joined ps) ends, apart); one_line = refl }

abbrev pub body_pieces : Table → Line → LineSource → List Piece → List Piece
body_pieces table line (Refute parents) ps = lexeme Dollar (codes "$false") ∷ ps
body_pieces table line other ps = equation_pieces table line.positive line.left line.right ps

pub body_spells : (table : Table) (line : Line) (source : LineSource) → IsPrintableBody table source line → Spells true (if is_refutation source then codes "$false" else equation_text table line.positive line.left line.right) (body_pieces table line source)
body_spells table line (File n) p = equation_spells table line.positive line.left line.right (readable_term table line.left p.0) (readable_term table line.right p.1)
body_spells table line (Chain start steps parents) p = equation_spells table line.positive line.left line.right (readable_term table line.left p.1) (readable_term table line.right p.2)
body_spells table line (Reflexive parents) p = equation_spells table line.positive line.left line.right (readable_term table line.left p.1) (readable_term table line.right p.2)
body_spells table line (EncodeGoal parents) p = equation_spells table line.positive line.left line.right (readable_term table line.left p.1) (readable_term table line.right p.2)
body_spells table line (Refute parents) p = false_spells

-- lines
module _ (table : Table) (names : List (List ℕ)) where
  -- the end of a line
  abbrev pub end_pieces : List Piece → List Piece
  end_pieces ps = mark 41 (mark 46 (blank 10 ∷ ps))

  abbrev pub front_pieces : List ℕ → Line → List Piece → List Piece
  front_pieces file line ps = lower (codes "cnf") (mark 40 (lower line.name (comma (lower (role_text (role_of line.positive line.source)) (comma (body_pieces table line line.source (comma (source_pieces table names file line.source ps))))))))

  abbrev pub front_text : List ℕ → Line → List ℕ
  front_text file line = codes "cnf(" ++ spelling line.name ++ codes ", " ++ role_text (role_of line.positive line.source) ++ codes ", " ++ (if is_refutation line.source then codes "$false" else equation_text table line.positive line.left line.right) ++ codes ", " ++ source_text table names file line.source

  abbrev pub line_pieces : List ℕ → Line → List Piece → List Piece
  line_pieces file line ps = front_pieces file line (end_pieces ps)

  pub front_spells : (file : List ℕ) (line : Line) → is_name line.name ≡ true → IsSourceBy table names line.source → IsPrintableLine table file line → Spells false (front_text file line) (front_pieces file line)
  front_spells file line named by printable =
      let opening = followed (lower_spells (codes "cnf") refl) open_spells (λ ps ends. refl) in
      let heading = followed (followed (followed (followed opening (bare_spells line.name named) (λ ps ends. tt)) comma_spells (λ ps ends. refl)) (lower_spells (role_text (role_of line.positive line.source)) (role_name (role_of line.positive line.source))) (λ ps ends. tt)) comma_spells (λ ps ends. refl) in
      followed (followed (followed heading (body_spells table line line.source printable.body) (λ ps ends. tt)) comma_spells (λ ps ends. refl)) (source_spells table names file line.source by printable.source) (λ ps ends. tt)

  feed_skips : (rest : List ℕ) → Skips (10 ∷ rest) 1
  feed_skips rest = white_at (10 ∷ rest) (omega arith) refl

  end_apart : (ps : List Piece) → AreApart ps → AreApart (end_pieces ps)
  end_apart ps apart = close_spells.apart (mark 46 (blank 10 ∷ ps)) (dot_spells.apart (blank 10 ∷ ps) (feed_skips (joined ps), apart) tt) tt

  -- the lines of a proof
  abbrev pub lines_pieces : List (List ℕ) → List Line → List Piece
  lines_pieces (file ∷ files) (line ∷ lines) = line_pieces file line (lines_pieces files lines)
  lines_pieces files lines = []

  -- a line that can be printed and read
  pub record IsLineAgain (file : List ℕ) (line : Line) : Type 0 where
    pub named : is_name line.name ≡ true
    pub by : IsSourceBy table names line.source
    pub printable : IsPrintableLine table file line

  abbrev pub AreLinesAgain : List (List ℕ) → List Line → Type 0
  AreLinesAgain [] [] = Unit {0}
  AreLinesAgain (file ∷ files) (line ∷ lines) = IsLineAgain file line × AreLinesAgain files lines
  AreLinesAgain files lines = ⊥

  pub lines_whole : (files : List (List ℕ)) (lines : List Line) → AreLinesAgain files lines → joined (lines_pieces files lines) ≡ lines_text table names files lines
  lines_whole [] [] again = refl
  lines_whole [] (line ∷ lines) again = elim again [ ]
  lines_whole (file ∷ files) [] again = elim again [ ]
  lines_whole (file ∷ files) (line ∷ lines) again =
      let front = front_spells file line again.0.named again.0.by again.0.printable in
      front.whole (end_pieces (lines_pieces files lines))
      ∙ ap (λ l. front_text file line ++ (41 ∷ 46 ∷ 10 ∷ l)) (lines_whole files lines again.1)
      ∙ sym (append_assoc (front_text file line) (41 ∷ 46 ∷ 10 ∷ []) (lines_text table names files lines))

  pub lines_apart : (files : List (List ℕ)) (lines : List Line) → AreLinesAgain files lines → AreApart (lines_pieces files lines)
  lines_apart [] [] again = tt
  lines_apart [] (line ∷ lines) again = elim again [ ]
  lines_apart (file ∷ files) [] again = elim again [ ]
  lines_apart (file ∷ files) (line ∷ lines) again =
      (front_spells file line again.0.named again.0.by again.0.printable).apart (end_pieces (lines_pieces files lines)) (end_apart (lines_pieces files lines) (lines_apart files lines again.1)) tt

  -- each line but for its end has no line feed
  abbrev pub AreInLines : List (List ℕ) → List Line → Type 0
  AreInLines (file ∷ files) (line ∷ lines) = (list_all in_line (front_text file line) ≡ true) × AreInLines files lines
  AreInLines files lines = Unit {0}

  pub lines_in_lines : (files : List (List ℕ)) (lines : List Line) → AreLinesAgain files lines → AreInLines files lines
  lines_in_lines [] [] again = tt
  lines_in_lines [] (line ∷ lines) again = tt
  lines_in_lines (file ∷ files) [] again = tt
  lines_in_lines (file ∷ files) (line ∷ lines) again = ((front_spells file line again.0.named again.0.by again.0.printable).one_line, lines_in_lines files lines again.1)
