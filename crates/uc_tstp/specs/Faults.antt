-- Why a text isn't read as a proof, once it is known where reading stops.
use Rattle.std.specs.Prelude.{ℕ, ◌≡◌, ◌+◌, ◌-◌, ◌≤◌, List, length, take}
use Rattle.std.specs.List.{suffix_len}
use Rattle.uc_clause.specs.Bytes.{in_line}
use Rattle.uc_clause.specs.declared.token.Token.{Token}
use Rattle.uc_clause.specs.declared.token.Place.{Place}
use Rattle.uc_clause.specs.declared.fault.TokenFault.{TokenFault}
use Rattle.uc_clause.specs.declared.fault.TokenFault.TheVariants as of_tokens
use Rattle.uc_clause.specs.declared.grammar.stop.Stop.{Stop}
use Rattle.uc_clause.specs.declared.grammar.stop.Stop.TheVariants as of_stop
use Rattle.uc_clause.specs.Tokens.{place_of}
use Rattle.uc_tstp.specs.declared.fault.ProofFault.{ProofFault}
use Rattle.uc_tstp.specs.declared.fault.ProofFault.TheVariants.{Syntax, UnknownName, NoMemory}
use Rattle.uc_tstp.specs.declared.framing.Frame.{Frame}
use Rattle.uc_tstp.specs.declared.resolving.Unresolved.{Unresolved}
use Rattle.uc_tstp.specs.declared.resolving.Unresolved.TheVariants as of_name
use Rattle.uc_tstp.specs.Framing.{max_proof}
use Rattle.uc_tstp.specs.Reading.{fault_of, place_in}

-- the frame stands in the text, which isn't too long
abbrev pub StandsIn : List ℕ → Frame → Type 0
StandsIn text frame = (frame.from ≤ frame.to) × (frame.to ≤ length text) × (length text ≤ max_proof)

-- and begins at the first byte of a line
abbrev pub BeginsLine : List ℕ → Frame → Type 0
BeginsLine text frame = suffix_len in_line (take frame.from text) ≡ 0

-- where a place stands in the whole text that is counted from behind these lines
abbrev pub behind_lines : Place → Place → Place
behind_lines front place = record { line = front.line - 1 + place.line; column = place.column }

-- where the tokens of the frame stop
abbrev pub token_fault : List ℕ → Frame → TokenFault → ProofFault
token_fault text frame (of_tokens.Syntax place) = Syntax (behind_lines (place_of text frame.from) place)
token_fault text frame of_tokens.NoMemory = NoMemory

-- where its lines stop
abbrev pub line_fault : List ℕ → Frame → List Token → Stop → ProofFault
line_fault text frame tokens (of_stop.At why k) = fault_of why (place_in text frame tokens k)
line_fault text frame tokens of_stop.NoMemory = NoMemory

-- where a token names no line
abbrev pub name_fault : List ℕ → Frame → List Token → Unresolved → ProofFault
name_fault text frame tokens (of_name.Unknown k) = UnknownName (place_in text frame tokens k)
name_fault text frame tokens of_name.NoMemory = NoMemory
