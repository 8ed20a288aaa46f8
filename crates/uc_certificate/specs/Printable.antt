-- What is read again as it was printed.
use Rattle.std.specs.Prelude.{◌≢◌, ◌<◌, ℕ, List, []}
use Rattle.std.specs.List.{AllByRecursion}
use Rattle.uc_term.specs.Tree.{Tree}
use Rattle.uc_term.specs.Table.{Table}
use Rattle.uc_term.specs.Variables.{variables}
use Rattle.uc_clause.specs.Printable.{IsPrintable}
use Rattle.uc_tstp.specs.declared.scope.Scope.TheVariants.{Derivation}
use Rattle.uc_tstp.specs.Printable.{IsPath, ArePrintable, AreInOrder}
use Rattle.uc_system.specs.Printable.{IsPrintableSystem}
use Rattle.uc_certificate.specs.declared.certificate.Certificate.{Certificate}
use Rattle.uc_certificate.specs.declared.certificate.Join.{Join}
use Rattle.uc_certificate.specs.declared.certificate.What.{What}
use Rattle.uc_certificate.specs.declared.certificate.What.TheVariants.{Axiom, Overlap}
use Rattle.uc_certificate.specs.declared.certificate.Move.{Move}
use Rattle.uc_certificate.specs.declared.certificate.End.{End}
use Rattle.uc_certificate.specs.declared.certificate.End.TheVariants.{Same, Instance, Orders, Ac}
use Rattle.uc_certificate.specs.declared.certificate.Case.{Case}
use Rattle.uc_certificate.specs.JoinLines.{MOST_VARIABLES}

-- variables that join lines can name
abbrev pub AreFew : List ℕ → Type 0
AreFew xs = AllByRecursion (λ x. x < MOST_VARIABLES) xs

abbrev pub IsPrintableWhat : What → Type 0
IsPrintableWhat (Axiom number) = Unit {0}
IsPrintableWhat (Overlap outer outer_side inner inner_side path) = IsPath path

-- a class has a variable
pub record IsPrintableClass (class : List ℕ) : Type 0 where
  pub some : class ≢ []
  pub few : AreFew class

module _ (table : Table) where
  pub record IsPrintableMove (m : Move) : Type 0 where
    pub path : IsPath m.path
    pub to : IsPrintable table m.to
    pub few : AreFew (variables m.to)

  abbrev pub ArePrintableMoves : List Move → Type 0
  ArePrintableMoves moves = AllByRecursion IsPrintableMove moves

  pub record IsPrintableCase (c : Case) : Type 0 where
    pub cases : AllByRecursion IsPrintableClass c.cases
    pub left : ArePrintableMoves c.left
    pub right : ArePrintableMoves c.right

  -- there is a case, or a triple
  abbrev pub IsPrintableEnd : End → Type 0
  IsPrintableEnd Same = Unit {0}
  IsPrintableEnd (Instance number) = Unit {0}
  IsPrintableEnd (Orders cases) = (cases ≢ []) × AllByRecursion IsPrintableCase cases
  IsPrintableEnd (Ac triples) = triples ≢ []

  pub record IsPrintableJoin (j : Join) : Type 0 where
    pub what : IsPrintableWhat j.what
    pub left : ArePrintableMoves j.left
    pub right : ArePrintableMoves j.right
    pub end : IsPrintableEnd j.end

  -- a certificate with a file for each line of its derivation, whose variables are numbered by first occurrence line by line
  pub record IsPrintableCertificate (files : List (List ℕ)) (c : Certificate) : Type 0 where
    pub system : IsPrintableSystem table c.text.spec c.text.system.facts
    pub lines : ArePrintable table Derivation files c.lines.lines
    pub in_order : AreInOrder c.lines.lines
    pub joins : AllByRecursion IsPrintableJoin c.joins
