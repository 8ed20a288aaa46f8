-- The refusals of the token layer among those of the reader.
use Rattle.uc_clause.specs.declared.fault.TokenFault.{TokenFault}
use Rattle.uc_clause.specs.declared.fault.TokenFault.TheVariants as token
use Rattle.uc_clause.specs.declared.fault.ClauseFault.{ClauseFault}
use Rattle.uc_clause.specs.declared.fault.ClauseFault.TheVariants as clause

abbrev pub clause_fault : TokenFault → ClauseFault
clause_fault (token.Syntax place) = clause.Syntax place
clause_fault token.NoMemory = clause.NoMemory
