-- What the symbols are with which an order is chosen.
use Rattle.std.specs.Prelude.{List, codes, Option, Some, None}
use Rattle.uc_term.specs.declared.fresh.Fresh.{Fresh}
use Rattle.uc_term.specs.declared.signature.Signature.{Signature}
use Rattle.uc_term.specs.Tree.{Tree}
use Rattle.uc_term.specs.Table.{Table}
use Rattle.uc_term.specs.Gathering.{AreOf}
use Rattle.uc_term.specs.Signatures.{IsSignatureOf, IsFreshFor}

-- it is the signature of some terms over the table
pub record IsSignature (table : Table) (signature : Signature) : Type 0 where
  pub terms : List Tree
  pub over : AreOf table terms
  pub signature_is : IsSignatureOf table terms signature

-- the encoding's symbols, where there are some, have names that no symbol of the signature has
abbrev pub AreMarks : Table → Signature → Option Fresh → Type 0
AreMarks table signature None = Unit {0}
AreMarks table signature (Some marks) = IsFreshFor table (codes "eq") 2 signature.symbols marks.eq × IsFreshFor table (codes "true") 0 signature.symbols marks.yes × IsFreshFor table (codes "false") 0 signature.symbols marks.no
