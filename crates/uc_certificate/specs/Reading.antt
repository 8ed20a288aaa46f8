-- What a text reads as: a certificate, or why not. The reading itself has no limit on the text's length.
--
--   % certificate 1
--   the text of a system
--   % derivation
--   file, encode and chain lines of a proof
--   % facts NAME NAME ..
--   % joins
--   join lines
--   % end
--
-- What stands in front of the first line is skipped, and nothing is read behind the last one.
use Rattle.std.specs.Prelude.{◌≡◌, ℕ, ◌+◌, ◌-◌, ◌<◌, ◌≤◌, zero, suc, nat_eq, List, [], ◌∷◌, length, drop, codes, Result, Ok, Err, if◌then◌else◌}
use Rattle.std.specs.List.{starts_with, prefix_len}
use Rattle.uc_term.specs.Table.{Table}
use Rattle.uc_clause.specs.declared.token.Token.{Token}
use Rattle.uc_clause.specs.declared.token.Place.{Place}
use Rattle.uc_clause.specs.declared.fault.What.{What}
use Rattle.uc_clause.specs.declared.fault.What.TheVariants as what
use Rattle.uc_clause.specs.declared.grammar.stop.Why.{Why}
use Rattle.uc_clause.specs.declared.grammar.stop.Why.TheVariants.{Nodes, Arity}
use Rattle.uc_clause.specs.Bytes.{in_line}
use Rattle.uc_clause.specs.Tokens.{Cut, place_of}
use Rattle.uc_clause.specs.Rules.{read, stop}
use Rattle.uc_check.specs.declared.proof.Proof.{Proof}
use Rattle.uc_tstp.specs.declared.fault.ProofFault.{ProofFault}
use Rattle.uc_tstp.specs.declared.fault.ProofFault.TheVariants as of_proof
use Rattle.uc_tstp.specs.declared.framing.Frame.{Frame}
use Rattle.uc_tstp.specs.declared.scope.Scope.TheVariants.{Derivation}
use Rattle.uc_tstp.specs.Framing.{max_proof, first_place}
use Rattle.uc_tstp.specs.Printing.{names_in}
use Rattle.uc_tstp.specs.Reading.{inside, place_in, ReadsInside}
use Rattle.uc_system.specs.declared.fault.SystemFault.{SystemFault}
use Rattle.uc_system.specs.declared.fault.SystemFault.TheVariants as of_system
use Rattle.uc_system.specs.declared.system.SystemText.{SystemText}
use Rattle.uc_system.specs.Lines.{gets, fails}
use Rattle.uc_system.specs.Reading.{system_lines}
use Rattle.uc_certificate.specs.declared.fault.CertFault.{CertFault}
use Rattle.uc_certificate.specs.declared.fault.CertFault.TheVariants.{Syntax, Version, Limit, UnknownRule, UnknownName, RepeatedName, NoMemory}
use Rattle.uc_certificate.specs.declared.certificate.Certificate.{Certificate}
use Rattle.uc_certificate.specs.declared.certificate.Join.{Join}
use Rattle.uc_certificate.specs.declared.border.Border.TheVariants as border
use Rattle.uc_certificate.specs.Parts.{Outcome, Rule, ◌>>=◌, gives}
use Rattle.uc_certificate.specs.Parts as parts
use Rattle.uc_certificate.specs.Headings.{derivation_line, joins_line, end_line, is_border, FirstLine, heading, the_line, facts}
use Rattle.uc_certificate.specs.JoinParse as parse
use Rattle.uc_certificate.specs.JoinLines.{joins}
use Rattle.uc_certificate.specs.JoinMeaning.{MeanJoins}

-- the text from the line on that stands so many lines further down
abbrev pub lines_down : ℕ → List ℕ → List ℕ
lines_down zero text = text
lines_down (suc n) text = lines_down n (drop (prefix_len in_line text + 1) text)

-- what is too large in a system's text: in a symbol's line its arity, in a fact's a term
abbrev pub limit_in : List ℕ → Place → What
limit_in text place = if starts_with nat_eq (lines_down (place.line - 1) text) (codes "%") then what.Arity else what.Nodes

abbrev pub system_fault : List ℕ → SystemFault → CertFault
system_fault text (of_system.Syntax place) = Syntax place
system_fault text (of_system.Version place) = Version place
system_fault text (of_system.Limit place) = Limit (limit_in text place) place
system_fault text of_system.NoMemory = NoMemory

-- a derivation that ends too early ends with the text
abbrev pub proof_fault : List ℕ → ProofFault → CertFault
proof_fault text (of_proof.Syntax place) = Syntax place
proof_fault text (of_proof.UnknownRule place) = UnknownRule place
proof_fault text (of_proof.UnknownName place) = UnknownName place
proof_fault text of_proof.Truncated = Syntax (place_of text (length text))
proof_fault text (of_proof.RepeatedName place) = RepeatedName place
proof_fault text (of_proof.Limit w place) = Limit w place
proof_fault text of_proof.NoMemory = NoMemory

-- the fault of a stop in a join line at this place
abbrev pub join_fault : Why → Place → CertFault
join_fault Nodes place = Limit what.Nodes place
join_fault Arity place = Limit what.Arity place
join_fault other place = Syntax place

abbrev pub frame_of : ℕ → ℕ → Frame
frame_of from to = record { from = from; to = to }

module _ (table : Table) (text : List ℕ) where
  -- the text of a system
  pub data SystemAt (at : ℕ) : Outcome SystemText → Type 0 where
    has_system : {said : SystemText} {n to : ℕ} → system_lines table (place_of text at).line (drop at text) (gets said n (drop to text)) → to ≤ length text → SystemAt at (parts.gets said to)
    has_no_system : {fault : SystemFault} → system_lines table (place_of text at).line (drop at text) (fails fault) → SystemAt at (parts.fails (system_fault text fault))

  abbrev pub system : Rule SystemText
  system at outcome = SystemAt at outcome

  -- the lines of a derivation, up to the line of the facts or the end of the text
  pub data DerivationAt (at : ℕ) : Outcome Proof → Type 0 where
    derives : {to : ℕ} {proof : Proof} → FirstLine text (is_border border.Facts) at to → ReadsInside Derivation table text (frame_of at to) (Ok proof) → DerivationAt at (parts.gets proof to)
    derives_not : {to : ℕ} {why : ProofFault} → FirstLine text (is_border border.Facts) at to → ReadsInside Derivation table text (frame_of at to) (Err why) → DerivationAt at (parts.fails (proof_fault text why))

  abbrev pub derivation : Rule Proof
  derivation at outcome = DerivationAt at outcome

  -- join lines, up to the last line or the end of the text
  pub data JoinsIn (at : ℕ) : Outcome (List Join) → Type 0 where
    no_token : {to k : ℕ} → FirstLine text (is_border border.End) at to → Cut (inside text (frame_of at to)) 0 (Err k) → JoinsIn at (parts.fails (Syntax (place_of text (at + k))))
    no_joins : {to k : ℕ} {tokens : List Token} {why : Why} → FirstLine text (is_border border.End) at to → Cut (inside text (frame_of at to)) 0 (Ok tokens) → joins (inside text (frame_of at to)) tokens 0 (stop why k) → JoinsIn at (parts.fails (join_fault why (place_in text (frame_of at to) tokens k)))
    has_joins : {to end : ℕ} {tokens : List Token} {parsed : List parse.Join} {list : List Join} → FirstLine text (is_border border.End) at to → Cut (inside text (frame_of at to)) 0 (Ok tokens) → joins (inside text (frame_of at to)) tokens 0 (read parsed end) → MeanJoins (inside text (frame_of at to)) tokens table parsed list → JoinsIn at (parts.gets list to)

  abbrev pub join_lines : Rule (List Join)
  join_lines at outcome = JoinsIn at outcome

  -- what stands behind the text of a system
  abbrev pub rest_of_certificate : SystemText → Rule Certificate
  rest_of_certificate said = do
    _ ← the_line text derivation_line
    proof ← derivation
    numbers ← facts text (names_in proof.lines) (length said.system.facts)
    _ ← the_line text joins_line
    list ← join_lines
    _ ← the_line text end_line
    gives (record { text = said; lines = proof; facts = numbers; joins = list })

  -- the lines of a certificate
  abbrev pub certificate_lines : Rule Certificate
  certificate_lines = do
    _ ← heading text
    said ← system
    rest_of_certificate said

  pub data ReadsCertificate : Result Certificate CertFault → Type 0 where
    reads : {certificate : Certificate} {end : ℕ} → certificate_lines 0 (parts.gets certificate end) → ReadsCertificate (Ok certificate)
    reads_not : {fault : CertFault} → certificate_lines 0 (parts.fails fault) → ReadsCertificate (Err fault)

  -- the same of a text that isn't too long; a longer one is refused at its first byte, and want of memory is the one free answer
  abbrev pub IsReading : Result Certificate CertFault → Type 0
  IsReading (Err NoMemory) = Unit {0}
  IsReading (Err (Limit what.Bytes place)) = (max_proof < length text) × (place ≡ first_place)
  IsReading answer = (length text ≤ max_proof) × ReadsCertificate answer
