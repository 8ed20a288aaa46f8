-- Joins each of whose terms behind a move is so.
use Rattle.std.specs.Prelude.{List}
use Rattle.uc_term.specs.Tree.{Tree}
use Rattle.uc_order.specs.Members.{Each}
use Rattle.uc_certificate.specs.declared.certificate.Case.{Case}
use Rattle.uc_certificate.specs.declared.certificate.End.{End}
use Rattle.uc_certificate.specs.declared.certificate.End.TheVariants.{Same, Instance, Orders, Ac}
use Rattle.uc_certificate.specs.declared.certificate.Join.{Join}
use Rattle.uc_certificate.specs.declared.certificate.Move.{Move}

module _ (IsSo : Tree → Type 0) where
  abbrev pub MovesHave : List Move → Type 0
  MovesHave moves = Each (λ (move : Move). IsSo move.to) moves

  abbrev pub CaseHas : Case → Type 0
  CaseHas case = MovesHave case.left × MovesHave case.right

  abbrev pub EndHas : End → Type 0
  EndHas Same = Unit {0}
  EndHas (Instance number) = Unit {0}
  EndHas (Orders cases) = Each CaseHas cases
  EndHas (Ac triples) = Unit {0}

  abbrev pub JoinHas : Join → Type 0
  JoinHas join = MovesHave join.left × MovesHave join.right × EndHas join.end

  abbrev pub JoinsHave : List Join → Type 0
  JoinsHave joins = Each JoinHas joins
