-- Which fault it is that reading stops at a token. In an item any Lower as role but the nine stops as a token that isn't
-- called for.
use Rattle.std.specs.Prelude.{◌≡◌, ◌⊎◌, ℕ, ◌||◌, Bool, List, codes, bytes_eq, if◌then◌else◌}
use Rattle.uc_clause.specs.declared.token.Token.{Token}
use Rattle.uc_clause.specs.declared.token.Place.{Place}
use Rattle.uc_clause.specs.declared.terminal.Terminal.{Terminal}
use Rattle.uc_clause.specs.declared.terminal.Terminal.TheVariants.{Lower, Distinct, Integer, Dollar, Close, Comma, Bar, Star}
use Rattle.uc_clause.specs.declared.grammar.stop.Why.{Why}
use Rattle.uc_clause.specs.declared.grammar.stop.Why.TheVariants as why
use Rattle.uc_clause.specs.declared.grammar.stop.Stop.{Stop}
use Rattle.uc_clause.specs.declared.grammar.stop.Stop.TheVariants.{At}
use Rattle.uc_clause.specs.declared.grammar.stop.Stop.TheVariants as stop
use Rattle.uc_clause.specs.declared.fault.What.TheVariants as what
use Rattle.uc_clause.specs.declared.fault.ClauseFault.{ClauseFault}
use Rattle.uc_clause.specs.declared.fault.ClauseFault.TheVariants.{Syntax, NotUnit, NotEquality, BadRole, Unsupported, Limit, NoMemory}
use Rattle.uc_clause.specs.Terminals.{terminal_at, bytes_at, place_at}

-- the items of the other languages
abbrev pub is_other_language : List ℕ → Bool
is_other_language word =
    bytes_eq word (codes "fof") || (bytes_eq word (codes "tff") || (bytes_eq word (codes "thf") || (bytes_eq word (codes "tcf") || bytes_eq word (codes "tpi"))))

-- a token where an item is called for
abbrev pub item_fault : Terminal → Place → List ℕ → ClauseFault
item_fault Lower place word = if is_other_language word then Unsupported place word else Syntax place
item_fault other place word = Syntax place

-- where a role is
abbrev pub role_fault : Terminal → Place → List ℕ → ClauseFault
role_fault Lower place word = BadRole place word
role_fault other place word = Syntax place

-- where the names of an include are
abbrev pub selection_fault : Terminal → Place → List ℕ → ClauseFault
selection_fault Star place word = Unsupported place word
selection_fault other place word = Syntax place

-- where a term or a clause is
abbrev pub term_fault : Terminal → Place → List ℕ → ClauseFault
term_fault Integer place word = Unsupported place word
term_fault Distinct place word = Unsupported place word
term_fault Dollar place word = Unsupported place word
term_fault other place word = Syntax place

-- behind a term that is no equation yet, which begins at the first of the places
abbrev pub sign_fault : Terminal → Place → Place → ClauseFault
sign_fault Bar first place = NotUnit place
sign_fault Close first place = NotEquality first
sign_fault Comma first place = NotEquality first
sign_fault other first place = Syntax place

-- behind a whole literal
abbrev pub end_fault : Terminal → Place → ClauseFault
end_fault Bar place = NotUnit place
end_fault other place = Syntax place

module _ (bytes : List ℕ) (tokens : List Token) where
  -- the fault that it is to stop for this reason at the token of this number
  abbrev pub fault_of : Why → ℕ → ClauseFault
  fault_of why.NoItem k = item_fault (terminal_at bytes tokens k) (place_at bytes tokens k) (bytes_at bytes tokens k)
  fault_of why.NoRole k = role_fault (terminal_at bytes tokens k) (place_at bytes tokens k) (bytes_at bytes tokens k)
  fault_of why.NoSelection k = selection_fault (terminal_at bytes tokens k) (place_at bytes tokens k) (bytes_at bytes tokens k)
  fault_of why.NoTerm k = term_fault (terminal_at bytes tokens k) (place_at bytes tokens k) (bytes_at bytes tokens k)
  fault_of (why.NoSign first) k = sign_fault (terminal_at bytes tokens k) (place_at bytes tokens first) (place_at bytes tokens k)
  fault_of why.NoEnd k = end_fault (terminal_at bytes tokens k) (place_at bytes tokens k)
  fault_of why.NoToken k = Syntax (place_at bytes tokens k)
  fault_of why.Nodes k = Limit (place_at bytes tokens k) what.Nodes
  fault_of why.Parentheses k = Limit (place_at bytes tokens k) what.Parentheses
  fault_of why.Arity k = Limit (place_at bytes tokens k) what.Arity
  -- these two stand in proofs alone
  fault_of why.NoRule k = Syntax (place_at bytes tokens k)
  fault_of why.Repeated k = Syntax (place_at bytes tokens k)

-- this fault, unless memory is wanted
abbrev pub IsOrMemory : ClauseFault → ClauseFault → Type 0
IsOrMemory fault result = (result ≡ fault) ⊎ (result ≡ NoMemory)

-- the fault that it is to stop so, unless memory is wanted
abbrev pub IsFaultOf : List ℕ → List Token → Stop → ClauseFault → Type 0
IsFaultOf bytes tokens (At why k) result = IsOrMemory (fault_of bytes tokens why k) result
IsFaultOf bytes tokens stop.NoMemory result = result ≡ NoMemory
