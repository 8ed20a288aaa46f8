-- Printed join lines as pieces.
use Rattle.std.proofs.Common.{◌≡◌, ℕ, ◌<◌, Bool, true, false, List, [], ◌∷◌, ◌++◌, refl, sym, ap, ◌∙◌, arith, append_assoc}
use Rattle.std.specs.Prelude.{codes, decimal, ◌≢◌}
use Rattle.std.specs.List.{AllByRecursion}
use Rattle.uc_term.specs.Table.{Table}
use Rattle.uc_term.specs.Variables.{variables}
use Rattle.uc_term.specs.declared.equation.Side.{Side}
use Rattle.uc_term.specs.declared.equation.Side.TheVariants.{Left, Right}
use Rattle.uc_clause.specs.Bytes.{is_name}
use Rattle.uc_clause.specs.Tokens.{Skips}
use Rattle.uc_clause.specs.Printing.{variable_text}
use Rattle.uc_clause.proofs.Longest.{white_at}
use Rattle.uc_clause.proofs.Joined.{Piece, blank, joined, AreApart}
use Rattle.uc_clause.proofs.Printed.{term_pieces}
use Rattle.uc_tstp.specs.Printing.{path_text, way_text}
use Rattle.uc_tstp.specs.Printable.{IsPath}
use Rattle.uc_tstp.proofs.Bounded.{IsPrintableTerm}
use Rattle.uc_tstp.proofs.PrintedPieces.{Spells, followed, ended, mark, open_spells, close_spells, open_square_spells, close_square_spells, bare_comma_spells, dot_spells, comma, comma_spells, lower, lower_spells, number, number_spells, term_spells, listed_pieces, listed_spells}
use Rattle.uc_tstp.proofs.LinePieces.{readable_term, path_pieces}
use Rattle.uc_certificate.specs.declared.certificate.AcTriple.{AcTriple}
use Rattle.uc_certificate.specs.declared.certificate.Join.{Join}
use Rattle.uc_certificate.specs.declared.certificate.What.{What}
use Rattle.uc_certificate.specs.declared.certificate.What.TheVariants.{Axiom, Overlap}
use Rattle.uc_certificate.specs.declared.certificate.Move.{Move}
use Rattle.uc_certificate.specs.declared.certificate.End.{End}
use Rattle.uc_certificate.specs.declared.certificate.End.TheVariants.{Same, Instance, Orders, Ac}
use Rattle.uc_certificate.specs.declared.certificate.Case.{Case}
use Rattle.uc_certificate.specs.Bounds.{IsShort, IsBoundedWhat, IsBoundedMove, AreBoundedMoves, IsBoundedCase, IsBoundedTriple, IsBoundedEnd, IsBoundedJoin}
use Rattle.uc_certificate.specs.JoinLines.{MOST_VARIABLES}
use Rattle.uc_certificate.specs.Printing.{list_text, side_text, fact_side_text, what_text, class_text, move_text, moves_text, case_text, triple_text, ending_text, joins_text}
use Rattle.uc_certificate.specs.Printable.{AreFew, IsPrintableWhat, IsPrintableClass, IsPrintableMove, ArePrintableMoves, IsPrintableCase, IsPrintableEnd, IsPrintableJoin}
use Rattle.uc_certificate.proofs.PrintedNumbers.{integer_spells, variable, variable_spells}

-- members in square brackets
module _ {A : Type 0} (text : A → List ℕ) (pieces : A → List Piece → List Piece) where
  abbrev pub list_pieces : List A → List Piece → List Piece
  list_pieces xs ps = mark 91 (listed_pieces (codes ", ") text comma pieces xs (mark 93 ps))

  pub list_spells : (xs : List A) → AllByRecursion (λ x. Spells true (text x) (pieces x)) xs → Spells false (list_text text xs) (list_pieces xs)
  list_spells xs all = followed (followed open_square_spells (listed_spells (codes ", ") text comma pieces comma_spells (λ ps. refl) xs all) (λ ps ends. tt)) close_square_spells (λ ps ends. refl)

-- what holds of each member of a list
pub each : {A : Type 0} (P Q : A → Type 0) → ((x : A) → P x → Q x) → (xs : List A) → AllByRecursion P xs → AllByRecursion Q xs
each P Q h [] all = tt
each P Q h (x ∷ xs) all = (h x all.0, each P Q h xs all.1)

-- paths
path_numbers : (path : List ℕ) → IsPath path → AllByRecursion (λ n. Spells true (decimal n) (number n)) path
path_numbers [] path = tt
path_numbers (n ∷ ns) path = (number_spells n path.0.1, path_numbers ns path.1)

path_spells : (path : List ℕ) → IsPath path → Spells false (path_text path) (path_pieces path)
path_spells path is =
    followed (followed open_square_spells (listed_spells (codes ",") decimal (mark 44) number bare_comma_spells (λ ps. refl) path (path_numbers path is)) (λ ps ends. tt)) close_square_spells (λ ps ends. refl)

-- sides of facts
side_name : (side : Side) → is_name (side_text side) ≡ true
side_name Left = refl
side_name Right = refl

abbrev pub fact_side_pieces : ℕ → Side → List Piece → List Piece
fact_side_pieces n side ps = number n (comma (lower (side_text side) ps))

fact_side_spells : (n : ℕ) (side : Side) → IsShort n → Spells true (fact_side_text n side) (fact_side_pieces n side)
fact_side_spells n side h = followed (followed (integer_spells n h) comma_spells (λ ps ends. refl)) (lower_spells (side_text side) (side_name side)) (λ ps ends. tt)

-- what is joined
abbrev pub what_pieces : What → List Piece → List Piece
what_pieces (Axiom n) ps = lower (codes "axiom") (mark 40 (number n (mark 41 ps)))
what_pieces (Overlap outer outer_side inner inner_side path) ps = lower (codes "overlap") (mark 40 (fact_side_pieces outer outer_side (comma (fact_side_pieces inner inner_side (comma (path_pieces path (mark 41 ps)))))))

what_spells : (w : What) → IsBoundedWhat w → IsPrintableWhat w → Spells false (what_text w) (what_pieces w)
what_spells (Axiom n) bounded printable =
    followed (followed (followed (lower_spells (codes "axiom") refl) open_spells (λ ps ends. refl)) (integer_spells n bounded) (λ ps ends. tt)) close_spells (λ ps ends. refl)
what_spells (Overlap outer outer_side inner inner_side path) bounded printable =
    let opening = followed (lower_spells (codes "overlap") refl) open_spells (λ ps ends. refl) in
    let first = followed (followed opening (fact_side_spells outer outer_side bounded.0) (λ ps ends. tt)) comma_spells (λ ps ends. refl) in
    let second = followed (followed first (fact_side_spells inner inner_side bounded.1) (λ ps ends. tt)) comma_spells (λ ps ends. refl) in
    followed (followed second (path_spells path printable) (λ ps ends. tt)) close_spells (λ ps ends. tt)

-- triples of facts
abbrev pub triple_pieces : AcTriple → List Piece → List Piece
triple_pieces t ps = mark 91 (number t.assoc (comma (number t.comm (comma (number t.extended (mark 93 ps))))))

triple_spells : (t : AcTriple) → IsBoundedTriple t → Spells true (triple_text t) (triple_pieces t)
triple_spells t bounded =
    let first = followed (followed open_square_spells (integer_spells t.assoc bounded.0) (λ ps ends. tt)) comma_spells (λ ps ends. refl) in
    let second = followed (followed first (integer_spells t.comm bounded.1) (λ ps ends. tt)) comma_spells (λ ps ends. refl) in
    ended (followed (followed second (integer_spells t.extended bounded.2) (λ ps ends. tt)) close_square_spells (λ ps ends. refl))

way_name : (left_to_right : Bool) → is_name (way_text left_to_right) ≡ true
way_name true = refl
way_name false = refl

module _ (table : Table) where
  -- a move that is read again
  pub record IsMoveAgain (m : Move) : Type 0 where
    pub fact : IsShort m.fact
    pub path : IsPath m.path
    pub to : IsPrintableTerm table m.to
    pub few : AreFew (variables m.to)

  move_again : (m : Move) → IsBoundedMove m → IsPrintableMove table m → IsMoveAgain m
  move_again m bounded printable = record {
    fact = bounded.0;
    path = printable.path;
    to = record { printable = printable.to; small = bounded.1.0; numbered = bounded.1.1 };
    few = printable.few;
  }

  pub moves_again : (moves : List Move) → AreBoundedMoves moves → ArePrintableMoves table moves → AllByRecursion IsMoveAgain moves
  moves_again [] bounded printable = tt
  moves_again (m ∷ ms) bounded printable = (move_again m bounded.0 printable.0, moves_again ms bounded.1 printable.1)

  abbrev pub move_pieces : Move → List Piece → List Piece
  move_pieces m ps = lower (codes "step") (mark 40 (number m.fact (comma (lower (way_text m.left_to_right) (comma (path_pieces m.path (comma (term_pieces table m.to (mark 41 ps)))))))))

  move_spells : (m : Move) → IsMoveAgain m → Spells true (move_text table m) (move_pieces m)
  move_spells m again =
      let way = followed (lower_spells (way_text m.left_to_right) (way_name m.left_to_right)) comma_spells (λ ps ends. refl) in
      let path = followed (followed way (path_spells m.path again.path) (λ ps ends. tt)) comma_spells (λ ps ends. tt) in
      let replacement = followed path (term_spells table m.to (readable_term table m.to again.to)) (λ ps ends. tt) in
      let opening = followed (lower_spells (codes "step") refl) open_spells (λ ps ends. refl) in
      let fact = followed (followed opening (integer_spells m.fact again.fact) (λ ps ends. tt)) comma_spells (λ ps ends. refl) in
      ended (followed (followed fact replacement (λ ps ends. tt)) close_spells (λ ps ends. refl))

  abbrev pub moves_pieces : List Move → List Piece → List Piece
  moves_pieces moves ps = list_pieces (move_text table) move_pieces moves ps

  moves_spell : (moves : List Move) → AllByRecursion IsMoveAgain moves → Spells false (moves_text table moves) (moves_pieces moves)
  moves_spell moves all = list_spells (move_text table) move_pieces moves (each IsMoveAgain (λ m. Spells true (move_text table m) (move_pieces m)) move_spells moves all)

  -- classes of variables
  abbrev pub class_pieces : List ℕ → List Piece → List Piece
  class_pieces class ps = list_pieces variable_text variable class ps

  class_spells : (class : List ℕ) → IsPrintableClass class → Spells true (class_text class) (class_pieces class)
  class_spells class printable = ended (list_spells variable_text variable class (each (λ x. x < MOST_VARIABLES) (λ x. Spells true (variable_text x) (variable x)) (variable_spells table) class printable.few))

  abbrev pub classes_pieces : List (List ℕ) → List Piece → List Piece
  classes_pieces classes ps = list_pieces class_text class_pieces classes ps

  classes_spell : (classes : List (List ℕ)) → AllByRecursion IsPrintableClass classes → Spells false (list_text class_text classes) (classes_pieces classes)
  classes_spell classes all = list_spells class_text class_pieces classes (each IsPrintableClass (λ class. Spells true (class_text class) (class_pieces class)) class_spells classes all)

  -- a case that is read again
  pub record IsCaseAgain (c : Case) : Type 0 where
    pub classes : AllByRecursion IsPrintableClass c.cases
    pub left : AllByRecursion IsMoveAgain c.left
    pub right : AllByRecursion IsMoveAgain c.right

  case_again : (c : Case) → IsBoundedCase c → IsPrintableCase table c → IsCaseAgain c
  case_again c bounded printable = record { classes = printable.cases; left = moves_again c.left bounded.0 printable.left; right = moves_again c.right bounded.1 printable.right }

  cases_again : (cases : List Case) → AllByRecursion IsBoundedCase cases → AllByRecursion (IsPrintableCase table) cases → AllByRecursion IsCaseAgain cases
  cases_again [] bounded printable = tt
  cases_again (c ∷ cs) bounded printable = (case_again c bounded.0 printable.0, cases_again cs bounded.1 printable.1)

  abbrev pub case_pieces : Case → List Piece → List Piece
  case_pieces c ps = lower (codes "case") (mark 40 (classes_pieces c.cases (comma (moves_pieces c.left (comma (moves_pieces c.right (mark 41 ps)))))))

  case_spells : (c : Case) → IsCaseAgain c → Spells true (case_text table c) (case_pieces c)
  case_spells c again =
      let opening = followed (lower_spells (codes "case") refl) open_spells (λ ps ends. refl) in
      let classes = followed (followed opening (classes_spell c.cases again.classes) (λ ps ends. tt)) comma_spells (λ ps ends. tt) in
      let left = followed (followed classes (moves_spell c.left again.left) (λ ps ends. tt)) comma_spells (λ ps ends. tt) in
      ended (followed (followed left (moves_spell c.right again.right) (λ ps ends. tt)) close_spells (λ ps ends. tt))

  -- an end that is read again
  abbrev pub IsEndAgain : End → Type 0
  IsEndAgain Same = Unit {0}
  IsEndAgain (Instance number) = IsShort number
  IsEndAgain (Orders cases) = (cases ≢ []) × AllByRecursion IsCaseAgain cases
  IsEndAgain (Ac triples) = (triples ≢ []) × AllByRecursion IsBoundedTriple triples

  end_again : (e : End) → IsBoundedEnd e → IsPrintableEnd table e → IsEndAgain e
  end_again Same bounded printable = tt
  end_again (Instance number) bounded printable = bounded
  end_again (Orders cases) bounded printable = (printable.0, cases_again cases bounded printable.1)
  end_again (Ac triples) bounded printable = (printable, bounded)

  abbrev pub ending_pieces : End → List Piece → List Piece
  ending_pieces Same ps = lower (codes "same") ps
  ending_pieces (Instance n) ps = lower (codes "instance") (mark 40 (number n (mark 41 ps)))
  ending_pieces (Orders cases) ps = lower (codes "orders") (mark 40 (list_pieces (case_text table) case_pieces cases (mark 41 ps)))
  ending_pieces (Ac triples) ps = lower (codes "ac") (mark 40 (list_pieces triple_text triple_pieces triples (mark 41 ps)))

  ending_spells : (e : End) → IsEndAgain e → Spells true (ending_text table e) (ending_pieces e)
  ending_spells Same again = lower_spells (codes "same") refl
  ending_spells (Instance n) again = ended (followed (followed (followed (lower_spells (codes "instance") refl) open_spells (λ ps ends. refl)) (integer_spells n again) (λ ps ends. tt)) close_spells (λ ps ends. refl))
  ending_spells (Orders cases) again =
      let opening = followed (lower_spells (codes "orders") refl) open_spells (λ ps ends. refl) in
      let all = list_spells (case_text table) case_pieces cases (each IsCaseAgain (λ c. Spells true (case_text table c) (case_pieces c)) case_spells cases again.1) in
      ended (followed (followed opening all (λ ps ends. tt)) close_spells (λ ps ends. tt))
  ending_spells (Ac triples) again =
      let opening = followed (lower_spells (codes "ac") refl) open_spells (λ ps ends. refl) in
      let all = list_spells triple_text triple_pieces triples (each IsBoundedTriple (λ t. Spells true (triple_text t) (triple_pieces t)) triple_spells triples again.1) in
      ended (followed (followed opening all (λ ps ends. tt)) close_spells (λ ps ends. tt))

  -- a join that is read again
  pub record IsJoinAgain (j : Join) : Type 0 where
    pub bounded : IsBoundedWhat j.what
    pub printable : IsPrintableWhat j.what
    pub left : AllByRecursion IsMoveAgain j.left
    pub right : AllByRecursion IsMoveAgain j.right
    pub end : IsEndAgain j.end

  join_again : (j : Join) → IsBoundedJoin j → IsPrintableJoin table j → IsJoinAgain j
  join_again j bounded printable = record {
    bounded = bounded.what;
    printable = printable.what;
    left = moves_again j.left bounded.left printable.left;
    right = moves_again j.right bounded.right printable.right;
    end = end_again j.end bounded.end printable.end;
  }

  pub joins_again : (joins : List Join) → AllByRecursion IsBoundedJoin joins → AllByRecursion (IsPrintableJoin table) joins → AllByRecursion IsJoinAgain joins
  joins_again [] bounded printable = tt
  joins_again (j ∷ js) bounded printable = (join_again j bounded.0 printable.0, joins_again js bounded.1 printable.1)

  -- a join but for the end of its line
  abbrev pub front_text : Join → List ℕ
  front_text j = codes "join(" ++ what_text j.what ++ codes ", " ++ moves_text table j.left ++ codes ", " ++ moves_text table j.right ++ codes ", " ++ ending_text table j.end

  abbrev pub front_pieces : Join → List Piece → List Piece
  front_pieces j ps = lower (codes "join") (mark 40 (what_pieces j.what (comma (moves_pieces j.left (comma (moves_pieces j.right (comma (ending_pieces j.end ps))))))))

  pub front_spells : (j : Join) → IsJoinAgain j → Spells true (front_text j) (front_pieces j)
  front_spells j again =
      let opening = followed (lower_spells (codes "join") refl) open_spells (λ ps ends. refl) in
      let what = followed (followed opening (what_spells j.what again.bounded again.printable) (λ ps ends. tt)) comma_spells (λ ps ends. tt) in
      let left = followed (followed what (moves_spell j.left again.left) (λ ps ends. tt)) comma_spells (λ ps ends. tt) in
      let right = followed (followed left (moves_spell j.right again.right) (λ ps ends. tt)) comma_spells (λ ps ends. tt) in
      followed right (ending_spells j.end again.end) (λ ps ends. tt)

  -- the end of its line
  abbrev pub end_pieces : List Piece → List Piece
  end_pieces ps = mark 41 (mark 46 (blank 10 ∷ ps))

  feed_skips : (rest : List ℕ) → Skips (10 ∷ rest) 1
  feed_skips rest = white_at (10 ∷ rest) (omega arith) refl

  end_apart : (ps : List Piece) → AreApart ps → AreApart (end_pieces ps)
  end_apart ps apart = close_spells.apart (mark 46 (blank 10 ∷ ps)) (dot_spells.apart (blank 10 ∷ ps) (feed_skips (joined ps), apart) tt) tt

  -- join lines
  abbrev pub joins_pieces : List Join → List Piece
  joins_pieces [] = []
  joins_pieces (j ∷ js) = front_pieces j (end_pieces (joins_pieces js))

  pub joins_whole : (js : List Join) → AllByRecursion IsJoinAgain js → joined (joins_pieces js) ≡ joins_text table js
  joins_whole [] again = refl
  joins_whole (j ∷ js) again =
      (front_spells j again.0).whole (end_pieces (joins_pieces js))
      ∙ ap (λ l. front_text j ++ (41 ∷ 46 ∷ 10 ∷ l)) (joins_whole js again.1)
      ∙ sym (append_assoc (front_text j) (41 ∷ 46 ∷ 10 ∷ []) (joins_text table js))

  pub joins_apart : (js : List Join) → AllByRecursion IsJoinAgain js → AreApart (joins_pieces js)
  joins_apart [] again = tt
  joins_apart (j ∷ js) again = (front_spells j again.0).apart (end_pieces (joins_pieces js)) (end_apart (joins_pieces js) (joins_apart js again.1)) refl
