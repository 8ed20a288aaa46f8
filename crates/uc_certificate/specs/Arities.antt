-- Certificates whose terms have for each symbol of the signature as many arguments as its arity.
use Rattle.std.specs.Prelude.{◌≡◌, List}
use Rattle.uc_term.specs.Tree.{Tree, var, app, Trees, none, more, count}
use Rattle.uc_order.specs.Members.{Each}
use Rattle.uc_order.specs.Laws.{Meaning, HasSym}
use Rattle.uc_certificate.specs.declared.certificate.Case.{Case}
use Rattle.uc_certificate.specs.declared.certificate.End.{End}
use Rattle.uc_certificate.specs.declared.certificate.End.TheVariants.{Same, Instance, Orders, Ac}
use Rattle.uc_certificate.specs.declared.certificate.Join.{Join}
use Rattle.uc_certificate.specs.declared.certificate.Move.{Move}

module _ (m : Meaning) where
  -- each symbol of the signature that the term has does
  abbrev mutual
    pub KeepsArities : Tree → Type 0
    KeepsArities (var x) = Unit {0}
    KeepsArities (app f ts) = (HasSym m f → count ts ≡ m.arity f) × AllKeepArities ts

    pub AllKeepArities : Trees → Type 0
    AllKeepArities none = Unit {0}
    AllKeepArities (more t ts) = KeepsArities t × AllKeepArities ts

  abbrev pub MovesKeepArities : List Move → Type 0
  MovesKeepArities moves = Each (λ (move : Move). KeepsArities move.to) moves

  abbrev pub CaseKeepsArities : Case → Type 0
  CaseKeepsArities case = MovesKeepArities case.left × MovesKeepArities case.right

  abbrev pub EndKeepsArities : End → Type 0
  EndKeepsArities Same = Unit {0}
  EndKeepsArities (Instance number) = Unit {0}
  EndKeepsArities (Orders cases) = Each CaseKeepsArities cases
  EndKeepsArities (Ac triples) = Unit {0}

  abbrev pub JoinKeepsArities : Join → Type 0
  JoinKeepsArities join = MovesKeepArities join.left × MovesKeepArities join.right × EndKeepsArities join.end

  -- so it is with each term behind a move of the joins
  abbrev pub JoinsKeepArities : List Join → Type 0
  JoinsKeepArities joins = Each JoinKeepsArities joins
