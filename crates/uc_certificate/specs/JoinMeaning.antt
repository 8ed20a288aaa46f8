-- What the parse of join lines says in a table of symbols.
use Rattle.std.specs.Prelude.{ℕ, ◌≡◌, List, [], ◌∷◌, Some}
use Rattle.uc_term.specs.declared.node.Sym.{Sym}
use Rattle.uc_term.specs.Tree.{Tree, var, app, Trees, none, more, count}
use Rattle.uc_term.specs.Table.{Table, IsSymbol}
use Rattle.uc_clause.specs.declared.token.Token.{Token}
use Rattle.uc_clause.specs.Terminals.{bytes_at, word_at}
use Rattle.uc_clause.specs.Parse.{Parse, variable, applied, Parses, no_more, also}
use Rattle.uc_certificate.specs.declared.certificate.Move.{Move}
use Rattle.uc_certificate.specs.declared.certificate.Case.{Case}
use Rattle.uc_certificate.specs.declared.certificate.End.{End}
use Rattle.uc_certificate.specs.declared.certificate.End.TheVariants.{Same, Instance, Orders, Ac}
use Rattle.uc_certificate.specs.declared.certificate.Join.{Join}
use Rattle.uc_certificate.specs.JoinLines.{named_by}
use Rattle.uc_certificate.specs.JoinParse as parse
use Rattle.uc_certificate.specs.JoinParse.{Ending, by_same, by_instance, by_orders, by_ac}

-- members of two lists are so, one by one
pub data MeanAll {P V : Type 0} (Means : P → V → Type 0) : List P → List V → Type 0 where
  none_mean : MeanAll Means [] []
  more_mean : {p : P} {ps : List P} {v : V} {vs : List V} → Means p v → MeanAll Means ps vs → MeanAll Means (p ∷ ps) (v ∷ vs)

module _ (bytes : List ℕ) (tokens : List Token) (table : Table) where
  mutual
    -- the parse says this term, in which `X1` is the variable 0, `X2` the variable 1 and so on
    pub data MeansTerm : Parse → Tree → Type 0 where
      variable_is : {k n : ℕ} → named_by (bytes_at bytes tokens k) ≡ Some n → MeansTerm (variable k) (var n)
      functor_is : {k : ℕ} {ps : Parses} {f : Sym} {ts : Trees} → IsSymbol table f (word_at bytes tokens k) (count ts) → MeanTerms ps ts → MeansTerm (applied k ps) (app f ts)

    pub data MeanTerms : Parses → Trees → Type 0 where
      no_terms : MeanTerms no_more none
      more_terms : {p : Parse} {ps : Parses} {t : Tree} {ts : Trees} → MeansTerm p t → MeanTerms ps ts → MeanTerms (also p ps) (more t ts)

  pub record MeansMove (parsed : parse.Move) (move : Move) : Type 0 where
    pub fact : move.fact ≡ parsed.fact
    pub way : move.left_to_right ≡ parsed.left_to_right
    pub path : move.path ≡ parsed.path
    pub to : MeansTerm parsed.to move.to

  abbrev pub MeanMoves : List parse.Move → List Move → Type 0
  MeanMoves = MeanAll MeansMove

  pub record MeansCase (parsed : parse.Case) (case : Case) : Type 0 where
    pub cases : case.cases ≡ parsed.cases
    pub left : MeanMoves parsed.left case.left
    pub right : MeanMoves parsed.right case.right

  abbrev pub MeanCases : List parse.Case → List Case → Type 0
  MeanCases = MeanAll MeansCase

  abbrev pub MeansEnd : Ending → End → Type 0
  MeansEnd by_same Same = Unit {0}
  MeansEnd (by_instance n) (Instance m) = m ≡ n
  MeansEnd (by_orders parsed) (Orders cases) = MeanCases parsed cases
  MeansEnd (by_ac parsed) (Ac triples) = triples ≡ parsed
  MeansEnd parsed end = ⊥

  pub record MeansJoin (parsed : parse.Join) (join : Join) : Type 0 where
    pub what : join.what ≡ parsed.what
    pub left : MeanMoves parsed.left join.left
    pub right : MeanMoves parsed.right join.right
    pub end : MeansEnd parsed.ending join.end

  abbrev pub MeanJoins : List parse.Join → List Join → Type 0
  MeanJoins = MeanAll MeansJoin
