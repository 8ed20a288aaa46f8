-- When the order of a certificate decides questions as that of a search for the same problem does.
use Rattle.std.specs.Prelude.{◌≡◌, Option}
use Rattle.uc_term.specs.declared.fresh.Fresh.{Fresh}
use Rattle.uc_term.specs.Table.{Table}
use Rattle.uc_problem.specs.declared.problem.Problem.{Problem}
use Rattle.uc_order.specs.Members.{In}
use Rattle.uc_order.specs.declared.spec.OrderSpec.{OrderSpec}
use Rattle.uc_words.specs.declared.command.OrderWords.{OrderWords}
use Rattle.uc_ordering.specs.Choice.{IsChosen}
use Rattle.uc_ordering.specs.Meaning.{meaning_of}
use Rattle.uc_ordering.specs.Restricting.{restricted}
use Rattle.uc_certify.specs.Extending.{AgreeOnOwn}

-- The symbols of the search's order stand in the table that loading the problem leaves, the encoding's in the one that encoding it makes of
-- that, and those of the certificate in the one that its text makes.
module _ (loaded encoded read : Table) (problem : Problem) (fresh : Option Fresh) (words : OrderWords) (own whole : OrderSpec) where
  -- the least constant of the certificate's order is one of the problem's own symbols, and none of the encoding's
  abbrev pub HasOwnLeast : Type 0
  HasOwnLeast = In problem.signature.symbols (meaning_of read whole).least

  -- The certificate's order agrees with that of the search on ground terms over the problem's own symbols, and its least constant is one
  -- of these. So it is where its description, without the encoding's symbols, is that of the search's order; and where it is the order
  -- that the words of the search name for the encoded problem, by which `prove` with these words makes a certificate.
  pub data SharesOrder : Type 0 where
    agrees : AgreeOnOwn (meaning_of read whole) (meaning_of loaded own) → HasOwnLeast → SharesOrder
    restricts : restricted problem.signature.symbols whole ≡ own → HasOwnLeast → SharesOrder
    is_named : IsChosen encoded problem.signature words fresh whole → SharesOrder
