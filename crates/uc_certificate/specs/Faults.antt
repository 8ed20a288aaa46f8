-- Why join lines aren't read, once it is known where reading stops.
use Rattle.std.specs.Prelude.{ℕ, List}
use Rattle.uc_clause.specs.declared.token.Token.{Token}
use Rattle.uc_clause.specs.declared.fault.TokenFault.{TokenFault}
use Rattle.uc_clause.specs.declared.fault.TokenFault.TheVariants as of_tokens
use Rattle.uc_clause.specs.declared.grammar.stop.Stop.{Stop}
use Rattle.uc_clause.specs.declared.grammar.stop.Stop.TheVariants as of_stop
use Rattle.uc_clause.specs.Tokens.{place_of}
use Rattle.uc_tstp.specs.declared.framing.Frame.{Frame}
use Rattle.uc_tstp.specs.Reading.{place_in}
use Rattle.uc_tstp.specs.Faults.{behind_lines}
use Rattle.uc_certificate.specs.declared.fault.CertFault.{CertFault}
use Rattle.uc_certificate.specs.declared.fault.CertFault.TheVariants.{Syntax, NoMemory}
use Rattle.uc_certificate.specs.Reading.{join_fault}

-- where the tokens of the frame stop
abbrev pub token_fault : List ℕ → Frame → TokenFault → CertFault
token_fault text frame (of_tokens.Syntax place) = Syntax (behind_lines (place_of text frame.from) place)
token_fault text frame of_tokens.NoMemory = NoMemory

-- where its join lines stop
abbrev pub stop_fault : List ℕ → Frame → List Token → Stop → CertFault
stop_fault text frame tokens (of_stop.At why k) = join_fault why (place_in text frame tokens k)
stop_fault text frame tokens of_stop.NoMemory = NoMemory
