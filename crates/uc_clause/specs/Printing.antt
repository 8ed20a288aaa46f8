-- How terms, equations and clauses are printed. Variable n is `X` and n + 1; a term has no spaces.
use Rattle.std.specs.Prelude.{ℕ, ◌+◌, Bool, List, [], ◌∷◌, ◌++◌, codes, decimal, if◌then◌else◌}
use Rattle.uc_term.specs.Tree.{Tree, var, app, Trees, none, more}
use Rattle.uc_term.specs.Table.{Table, name_of}
use Rattle.uc_clause.specs.declared.clause.Clause.{Clause}
use Rattle.uc_clause.specs.declared.clause.Role.{Role}
use Rattle.uc_clause.specs.declared.clause.Role.TheVariants.{Axiom, Hypothesis, Definition, Assumption, Lemma, Theorem, Corollary, Plain, NegatedConjecture}
use Rattle.uc_clause.specs.Names.{spelling, name_spelling}

abbrev pub variable_text : ℕ → List ℕ
variable_text n = 88 ∷ decimal (n + 1)

abbrev pub sign_text : Bool → List ℕ
sign_text positive = if positive then codes " = " else codes " != "

module _ (table : Table) where
  abbrev mutual
    pub term_text : Tree → List ℕ
    term_text (var n) = variable_text n
    term_text (app f ts) = spelling (name_of table f) ++ args_text ts

    -- the arguments of a functor in their brackets; without arguments there are none
    pub args_text : Trees → List ℕ
    args_text none = []
    args_text (more t ts) = 40 ∷ term_text t ++ rest_text ts

    -- the arguments behind one, and the closing bracket
    pub rest_text : Trees → List ℕ
    rest_text none = 41 ∷ []
    rest_text (more t ts) = 44 ∷ term_text t ++ rest_text ts

  -- an equation, or its denial
  abbrev pub equation_text : Bool → Tree → Tree → List ℕ
  equation_text positive left right = term_text left ++ sign_text positive ++ term_text right

abbrev pub role_text : Role → List ℕ
role_text Axiom = codes "axiom"
role_text Hypothesis = codes "hypothesis"
role_text Definition = codes "definition"
role_text Assumption = codes "assumption"
role_text Lemma = codes "lemma"
role_text Theorem = codes "theorem"
role_text Corollary = codes "corollary"
role_text Plain = codes "plain"
role_text NegatedConjecture = codes "negated_conjecture"

abbrev pub clause_text : Table → Clause → List ℕ
clause_text table c = codes "cnf(" ++ name_spelling c.name ++ codes ", " ++ role_text c.role ++ codes ", " ++ equation_text table c.positive c.left c.right ++ codes ")."
