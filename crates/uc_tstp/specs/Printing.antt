-- How a proof is printed: between its start line and its end line, one text line for each line of the proof.
use Rattle.std.specs.Prelude.{ℕ, ◌<◌, Bool, true, false, List, [], ◌∷◌, ◌++◌, codes, decimal, get_or, length, map, if◌then◌else◌}
use Rattle.std.specs.List.{flat_map, AllByRecursion}
use Rattle.uc_term.specs.Table.{Table, IsOf}
use Rattle.uc_clause.specs.declared.clause.Role.{Role}
use Rattle.uc_clause.specs.declared.clause.Role.TheVariants.{Axiom, Plain, NegatedConjecture}
use Rattle.uc_clause.specs.Names.{spelling, name_spelling}
use Rattle.uc_clause.specs.Printing.{term_text, equation_text, role_text}
use Rattle.uc_check.specs.declared.proof.Line.{Line}
use Rattle.uc_check.specs.declared.proof.LineStep.{LineStep}
use Rattle.uc_check.specs.declared.proof.LineSource.{LineSource}
use Rattle.uc_check.specs.declared.proof.LineSource.TheVariants.{File, Chain, Reflexive, EncodeGoal, Refute}
use Rattle.uc_tstp.specs.Framing.{start_words, end_words}

-- the texts of members, with these bytes between
module _ {A : Type 0} (between : List ℕ) (text : A → List ℕ) where
  -- those behind the first
  abbrev pub further : List A → List ℕ
  further xs = flat_map (λ x. between ++ text x) xs

  abbrev pub listed : List A → List ℕ
  listed [] = []
  listed (x ∷ xs) = text x ++ further xs

abbrev pub path_text : List ℕ → List ℕ
path_text path = codes "[" ++ listed (codes ",") decimal path ++ codes "]"

abbrev pub way_text : Bool → List ℕ
way_text left_to_right = if left_to_right then codes "lr" else codes "rl"

-- a clause of the problem is an axiom or a negated conjecture, and all else is plain
abbrev pub role_of : Bool → LineSource → Role
role_of positive (File name) = if positive then Axiom else NegatedConjecture
role_of positive other = Plain

abbrev pub is_refutation : LineSource → Bool
is_refutation (Refute parents) = true
is_refutation other = false

abbrev pub names_in : List Line → List (List ℕ)
names_in lines = map (λ (line : Line). line.name) lines

module _ (names : List (List ℕ)) where
  -- the name of the line of this number
  abbrev pub line_name : ℕ → List ℕ
  line_name number = spelling (get_or names number [])

  -- by this rule, with what stands in its square brackets
  abbrev pub inference_text : List ℕ → List ℕ → List ℕ → List ℕ
  inference_text rule info parents = codes "inference(" ++ rule ++ codes ", [" ++ info ++ codes "], [" ++ listed (codes ", ") line_name parents ++ codes "])"

-- what a line says; a refutation has no equation
abbrev pub body_text : Table → Line → List ℕ
body_text table line = if is_refutation line.source then codes "$false" else equation_text table line.positive line.left line.right

-- what a step does with its line: which way, where, and the term behind it
abbrev pub replacement_text : Table → LineStep → List ℕ
replacement_text table s = way_text s.left_to_right ++ codes ", " ++ path_text s.path ++ codes ", " ++ term_text table s.to

module _ (table : Table) (names : List (List ℕ)) where
  abbrev pub step_text : LineStep → List ℕ
  step_text s = codes "step(" ++ line_name names s.by ++ codes ", " ++ replacement_text table s ++ codes ")"

  -- where a line comes from, with the file of a clause
  abbrev pub source_text : List ℕ → LineSource → List ℕ
  source_text file (File name) = codes "file(" ++ spelling file ++ codes ", " ++ name_spelling name ++ codes ")"
  source_text file (Chain start steps parents) = inference_text names (codes "chain") (term_text table start ++ further (codes ", ") step_text steps) parents
  source_text file (Reflexive parents) = inference_text names (codes "encode") (codes "reflexive") parents
  source_text file (EncodeGoal parents) = inference_text names (codes "encode") (codes "goal") parents
  source_text file (Refute parents) = inference_text names (codes "refute") [] parents

  abbrev pub line_text : List ℕ → Line → List ℕ
  line_text file line = codes "cnf(" ++ spelling line.name ++ codes ", " ++ role_text (role_of line.positive line.source) ++ codes ", " ++ body_text table line ++ codes ", " ++ source_text file line.source ++ codes ").\n"

  -- lines one below the other, each with its file
  abbrev pub lines_text : List (List ℕ) → List Line → List ℕ
  lines_text (file ∷ files) (line ∷ lines) = line_text file line ++ lines_text files lines
  lines_text files lines = []

-- a start or end line: its words, and the name of the proof
abbrev pub border_text : List ℕ → List ℕ → List ℕ
border_text words name = words ++ name ++ codes "\n"

-- the proof of this name
abbrev pub proof_text : Table → List ℕ → List (List ℕ) → List Line → List ℕ
proof_text table name file_of lines = border_text start_words name ++ lines_text table (names_in lines) file_of lines ++ border_text end_words name

-- each is the number of one of so many lines
abbrev pub AreNumbers : ℕ → List ℕ → Type 0
AreNumbers count numbers = AllByRecursion (λ number. number < count) numbers

-- what can be printed among so many lines: all numbers of lines are theirs, and all terms are of the table
module _ (table : Table) (count : ℕ) where
  pub record IsStepOf (s : LineStep) : Type 0 where
    pub by : s.by < count
    pub to : IsOf table s.to

  abbrev pub IsSourceOf : LineSource → Type 0
  IsSourceOf (File name) = Unit {0}
  IsSourceOf (Chain start steps parents) = IsOf table start × AllByRecursion IsStepOf steps × AreNumbers count parents
  IsSourceOf (Reflexive parents) = AreNumbers count parents
  IsSourceOf (EncodeGoal parents) = AreNumbers count parents
  IsSourceOf (Refute parents) = AreNumbers count parents

  pub record IsLineOf (line : Line) : Type 0 where
    pub left : IsOf table line.left
    pub right : IsOf table line.right
    pub source : IsSourceOf line.source

abbrev pub AreLinesOf : Table → List Line → Type 0
AreLinesOf table lines = AllByRecursion (IsLineOf table (length lines)) lines
