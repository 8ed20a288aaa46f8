-- What every certificate of a program has, whatever it says.
use Rattle.std.specs.Prelude.{◌+◌, ◌<◌, ◌^◌, ℕ, List, length}
use Rattle.std.specs.List.{AllByRecursion}
use Rattle.uc_tstp.specs.Bounds.{IsBounded, AreBounded}
use Rattle.uc_certificate.specs.declared.certificate.AcTriple.{AcTriple}
use Rattle.uc_certificate.specs.declared.certificate.Certificate.{Certificate}
use Rattle.uc_certificate.specs.declared.certificate.Join.{Join}
use Rattle.uc_certificate.specs.declared.certificate.What.{What}
use Rattle.uc_certificate.specs.declared.certificate.What.TheVariants.{Axiom, Overlap}
use Rattle.uc_certificate.specs.declared.certificate.Move.{Move}
use Rattle.uc_certificate.specs.declared.certificate.End.{End}
use Rattle.uc_certificate.specs.declared.certificate.End.TheVariants.{Same, Instance, Orders, Ac}
use Rattle.uc_certificate.specs.declared.certificate.Case.{Case}

-- a number has 32 bits
abbrev pub IsShort : ℕ → Type 0
IsShort number = number < 2 ^ 32

abbrev pub IsBoundedWhat : What → Type 0
IsBoundedWhat (Axiom number) = IsShort number
IsBoundedWhat (Overlap outer outer_side inner inner_side path) = IsShort outer × IsShort inner

abbrev pub IsBoundedMove : Move → Type 0
IsBoundedMove m = IsShort m.fact × IsBounded m.to

abbrev pub AreBoundedMoves : List Move → Type 0
AreBoundedMoves moves = AllByRecursion IsBoundedMove moves

abbrev pub IsBoundedCase : Case → Type 0
IsBoundedCase c = AreBoundedMoves c.left × AreBoundedMoves c.right

abbrev pub IsBoundedTriple : AcTriple → Type 0
IsBoundedTriple t = IsShort t.assoc × IsShort t.comm × IsShort t.extended

abbrev pub IsBoundedEnd : End → Type 0
IsBoundedEnd Same = Unit {0}
IsBoundedEnd (Instance number) = IsShort number
IsBoundedEnd (Orders cases) = AllByRecursion IsBoundedCase cases
IsBoundedEnd (Ac triples) = AllByRecursion IsBoundedTriple triples

pub record IsBoundedJoin (j : Join) : Type 0 where
  pub what : IsBoundedWhat j.what
  pub left : AreBoundedMoves j.left
  pub right : AreBoundedMoves j.right
  pub end : IsBoundedEnd j.end

-- its facts can be counted, and numbers and terms are so in its lines and joins
pub record IsBoundedCertificate (c : Certificate) : Type 0 where
  pub facts : length c.text.system.facts + 1 < 2 ^ 64
  pub lines : AreBounded c.lines.lines
  pub joins : AllByRecursion IsBoundedJoin c.joins
