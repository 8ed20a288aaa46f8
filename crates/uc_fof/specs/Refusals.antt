-- Which fault it is that reading stops at a token. Outside a formula it is that of clauses. Inside one it is so too, but for
-- the connectives behind a term that is no equation yet or behind a whole literal, and for `~` and `!=` in a conjecture.
use Rattle.std.specs.Prelude.{◌≡◌, ◌⊎◌, ℕ, ◌&&◌, ◌||◌, Bool, true, false, List, [], ◌∷◌, bytes_eq, if◌then◌else◌}
use Rattle.uc_clause.specs.declared.token.Token.{Token}
use Rattle.uc_clause.specs.declared.terminal.Terminal.{Terminal}
use Rattle.uc_clause.specs.declared.terminal.Terminal.TheVariants.{Bar, Equal, Tilde, Unequal}
use Rattle.uc_clause.specs.declared.grammar.stop.Why.{Why}
use Rattle.uc_clause.specs.declared.grammar.stop.Why.TheVariants.{NoSign, NoEnd}
use Rattle.uc_clause.specs.declared.fault.ClauseFault.{ClauseFault}
use Rattle.uc_clause.specs.declared.fault.ClauseFault.TheVariants.{NotUnit, Unsupported}
use Rattle.uc_clause.specs.declared.fault.ClauseFault.TheVariants as fault
use Rattle.uc_clause.specs.Terminals.{terminal_at, bytes_at, place_at}
use Rattle.uc_clause.specs.Refusals as clause
use Rattle.uc_fof.specs.declared.stop.Reason.{Reason}
use Rattle.uc_fof.specs.declared.stop.Reason.TheVariants.{Outside, Inside, Unread, Connective}
use Rattle.uc_fof.specs.declared.stop.Halt.{Halt}
use Rattle.uc_fof.specs.declared.stop.Halt.TheVariants.{At, NoMemory}

-- the marks `&` and `<`
abbrev pub is_connective_mark : List ℕ → Bool
is_connective_mark word = bytes_eq word (38 ∷ []) || bytes_eq word (60 ∷ [])

-- whether a token begins a connective: a bar, `~`, `&` or `<`
abbrev pub is_connective : Terminal → List ℕ → Bool
is_connective Bar word = true
is_connective Tilde word = true
is_connective other word = is_connective_mark word

-- and so behind a whole literal, where `=` is one too
abbrev pub is_second_part : Terminal → List ℕ → Bool
is_second_part Equal word = true
is_second_part other word = is_connective other word

-- whether the token says that the formula has a second part
abbrev pub not_unit : Why → Terminal → List ℕ → Bool
not_unit (NoSign first) terminal word = is_connective terminal word
not_unit NoEnd terminal word = is_second_part terminal word
not_unit other terminal word = false

-- whether the token is a denial, which no conjecture has
abbrev pub is_denial : Terminal → Bool
is_denial Tilde = true
is_denial Unequal = true
is_denial other = false

module _ (bytes : List ℕ) (tokens : List Token) where
  -- the fault that it is to stop inside a formula for this reason at the token of this number
  abbrev pub inside_fault : Bool → Why → ℕ → ClauseFault
  inside_fault conjecture why k =
      if not_unit why (terminal_at bytes tokens k) (bytes_at bytes tokens k) then NotUnit (place_at bytes tokens k)
      else (if conjecture && is_denial (terminal_at bytes tokens k) then Unsupported (place_at bytes tokens k) (bytes_at bytes tokens k)
      else clause.fault_of bytes tokens why k)

  abbrev pub fault_of : Reason → ℕ → ClauseFault
  fault_of (Outside why) k = clause.fault_of bytes tokens why k
  fault_of (Inside conjecture why) k = inside_fault conjecture why k
  fault_of Unread k = Unsupported (place_at bytes tokens k) (bytes_at bytes tokens k)
  fault_of Connective k = NotUnit (place_at bytes tokens k)

-- the fault that it is to stop so, unless memory is wanted
abbrev pub IsFaultOf : List ℕ → List Token → Halt → ClauseFault → Type 0
IsFaultOf bytes tokens (At reason k) result = clause.IsOrMemory (fault_of bytes tokens reason k) result
IsFaultOf bytes tokens NoMemory result = result ≡ fault.NoMemory
