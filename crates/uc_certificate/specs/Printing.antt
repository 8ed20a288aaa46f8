-- How a certificate is printed: `, ` stands between members everywhere but in terms and paths.
use Rattle.std.specs.Prelude.{◌≡◌, ◌<◌, ℕ, List, [], ◌∷◌, ◌++◌, codes, decimal, length, map}
use Rattle.std.specs.List.{flat_map, AllByRecursion}
use Rattle.uc_term.specs.Table.{Table, IsOf}
use Rattle.uc_term.specs.declared.equation.Side.{Side}
use Rattle.uc_term.specs.declared.equation.Side.TheVariants.{Left, Right}
use Rattle.uc_clause.specs.Printing.{term_text, variable_text}
use Rattle.uc_order.specs.Members.{Each}
use Rattle.uc_tstp.specs.Printing.{listed, path_text, way_text, names_in, line_name, lines_text, AreNumbers, AreLinesOf}
use Rattle.uc_system.specs.Printing.{ended, system_text, IsSpecOf, IsEquationOf}
use Rattle.uc_check.specs.declared.proof.Line.{Line}
use Rattle.uc_system.specs.declared.system.SystemText.{SystemText}
use Rattle.uc_certificate.specs.declared.certificate.AcTriple.{AcTriple}
use Rattle.uc_certificate.specs.declared.certificate.Certificate.{Certificate}
use Rattle.uc_certificate.specs.declared.certificate.Join.{Join}
use Rattle.uc_certificate.specs.declared.certificate.What.{What}
use Rattle.uc_certificate.specs.declared.certificate.What.TheVariants.{Axiom, Overlap}
use Rattle.uc_certificate.specs.declared.certificate.Move.{Move}
use Rattle.uc_certificate.specs.declared.certificate.End.{End}
use Rattle.uc_certificate.specs.declared.certificate.End.TheVariants.{Same, Instance, Orders, Ac}
use Rattle.uc_certificate.specs.declared.certificate.Case.{Case}
use Rattle.uc_certificate.specs.Headings.{certificate_line, derivation_line, facts_line, joins_line, end_line}

-- members in square brackets
abbrev pub list_text : {A : Type 0} → (A → List ℕ) → List A → List ℕ
list_text text xs = codes "[" ++ listed (codes ", ") text xs ++ codes "]"

abbrev pub side_text : Side → List ℕ
side_text Left = codes "l"
side_text Right = codes "r"

-- a side of the fact of this number
abbrev pub fact_side_text : ℕ → Side → List ℕ
fact_side_text number side = decimal number ++ codes ", " ++ side_text side

abbrev pub overlap_text : ℕ → Side → ℕ → Side → List ℕ → List ℕ
overlap_text outer outer_side inner inner_side path = codes "overlap(" ++ fact_side_text outer outer_side ++ codes ", " ++ fact_side_text inner inner_side ++ codes ", " ++ path_text path ++ codes ")"

abbrev pub what_text : What → List ℕ
what_text (Axiom number) = codes "axiom(" ++ decimal number ++ codes ")"
what_text (Overlap outer outer_side inner inner_side path) = overlap_text outer outer_side inner inner_side path

abbrev pub class_text : List ℕ → List ℕ
class_text class = list_text variable_text class

abbrev pub triple_text : AcTriple → List ℕ
triple_text t = codes "[" ++ decimal t.assoc ++ codes ", " ++ decimal t.comm ++ codes ", " ++ decimal t.extended ++ codes "]"

module _ (table : Table) where
  -- what a move does with its fact: which way, where, and the term behind it
  abbrev pub replacement_text : Move → List ℕ
  replacement_text m = way_text m.left_to_right ++ codes ", " ++ path_text m.path ++ codes ", " ++ term_text table m.to

  abbrev pub move_text : Move → List ℕ
  move_text m = codes "step(" ++ decimal m.fact ++ codes ", " ++ replacement_text m ++ codes ")"

  abbrev pub moves_text : List Move → List ℕ
  moves_text moves = list_text move_text moves

  abbrev pub case_text : Case → List ℕ
  case_text c = codes "case(" ++ list_text class_text c.cases ++ codes ", " ++ moves_text c.left ++ codes ", " ++ moves_text c.right ++ codes ")"

  abbrev pub ending_text : End → List ℕ
  ending_text Same = codes "same"
  ending_text (Instance number) = codes "instance(" ++ decimal number ++ codes ")"
  ending_text (Orders cases) = codes "orders(" ++ list_text case_text cases ++ codes ")"
  ending_text (Ac triples) = codes "ac(" ++ list_text triple_text triples ++ codes ")"

  abbrev pub join_text : Join → List ℕ
  join_text j = codes "join(" ++ what_text j.what ++ codes ", " ++ moves_text j.left ++ codes ", " ++ moves_text j.right ++ codes ", " ++ ending_text j.end ++ codes ").\n"

  abbrev pub joins_text : List Join → List ℕ
  joins_text joins = flat_map join_text joins

-- the names of the lines of these numbers
abbrev pub fact_names : List Line → List ℕ → List (List ℕ)
fact_names lines facts = map (line_name (names_in lines)) facts

-- the parts of a certificate: the system, the derivation with a file for each of its lines and the facts, and the joins
abbrev pub system_part : Table → SystemText → List ℕ
system_part table said = ended certificate_line ++ system_text table said.spec said.system.facts

abbrev pub derivation_part : Table → List (List ℕ) → List Line → List ℕ → List ℕ
derivation_part table files lines facts = ended derivation_line ++ lines_text table (names_in lines) files lines ++ ended (facts_line (fact_names lines facts))

abbrev pub joins_part : Table → List Join → List ℕ
joins_part table joins = ended joins_line ++ joins_text table joins ++ ended end_line

abbrev pub certificate_text : Table → List (List ℕ) → Certificate → List ℕ
certificate_text table files c = system_part table c.text ++ derivation_part table files c.lines.lines c.facts ++ joins_part table c.joins

-- what can be printed: all terms are of the table, and all numbers of lines those of lines
module _ (table : Table) where
  abbrev pub AreMovesOf : List Move → Type 0
  AreMovesOf moves = AllByRecursion (λ (m : Move). IsOf table m.to) moves

  pub record IsCaseOf (c : Case) : Type 0 where
    pub left : AreMovesOf c.left
    pub right : AreMovesOf c.right

  abbrev pub IsEndOf : End → Type 0
  IsEndOf Same = Unit {0}
  IsEndOf (Instance number) = Unit {0}
  IsEndOf (Orders cases) = AllByRecursion IsCaseOf cases
  IsEndOf (Ac triples) = Unit {0}

  pub record IsJoinOf (j : Join) : Type 0 where
    pub left : AreMovesOf j.left
    pub right : AreMovesOf j.right
    pub end : IsEndOf j.end

  pub record IsCertificateOf (c : Certificate) : Type 0 where
    pub spec : IsSpecOf table c.text.spec
    pub system : Each (IsEquationOf table) c.text.system.facts
    pub lines : AreLinesOf table c.lines.lines
    pub as_many : length c.facts ≡ length c.text.system.facts
    pub facts : AreNumbers (length c.lines.lines) c.facts
    pub joins : AllByRecursion IsJoinOf c.joins
