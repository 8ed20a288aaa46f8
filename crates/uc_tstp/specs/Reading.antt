-- What a text reads as: a proof, or why not. The reading itself has no limit on the text's length.
use Rattle.std.specs.Prelude.{ℕ, ◌≡◌, ◌<◌, ◌≤◌, ◌+◌, List, [], ◌∷◌, length, bytes_eq, slice_range, slice_get, Option, Some, None, Result, Ok, Err, if◌then◌else◌}
use Rattle.std.specs.List.{list_any}
use Rattle.uc_term.specs.Table.{Table}
use Rattle.uc_clause.specs.declared.token.Token.{Token}
use Rattle.uc_clause.specs.declared.token.Place.{Place}
use Rattle.uc_clause.specs.declared.fault.What.TheVariants as what
use Rattle.uc_clause.specs.declared.grammar.stop.Why.{Why}
use Rattle.uc_clause.specs.declared.grammar.stop.Why.TheVariants.{NoRule, Repeated, Nodes, Arity}
use Rattle.uc_clause.specs.Tokens.{Cut, place_of}
use Rattle.uc_clause.specs.Terminals.{bytes_at}
use Rattle.uc_clause.specs.Rules.{read, stop}
use Rattle.uc_check.specs.declared.proof.Proof.{Proof}
use Rattle.uc_tstp.specs.declared.fault.ProofFault.{ProofFault}
use Rattle.uc_tstp.specs.declared.fault.ProofFault.TheVariants.{Syntax, UnknownRule, UnknownName, RepeatedName, Limit, NoMemory}
use Rattle.uc_tstp.specs.declared.framing.Frame.{Frame}
use Rattle.uc_tstp.specs.declared.scope.Scope.{Scope}
use Rattle.uc_tstp.specs.declared.scope.Scope.TheVariants as scope
use Rattle.uc_tstp.specs.Framing.{Framed, max_proof, first_place}
use Rattle.uc_tstp.specs.Parse as parse
use Rattle.uc_tstp.specs.Lines.{LinesAt}
use Rattle.uc_tstp.specs.Meaning.{names_of, MeanLines}

-- the fault of a stop at this place
abbrev pub fault_of : Why → Place → ProofFault
fault_of Nodes place = Limit what.Nodes place
fault_of Arity place = Limit what.Arity place
fault_of NoRule place = UnknownRule place
fault_of Repeated place = RepeatedName place
fault_of other place = Syntax place

-- the bytes of the frame
abbrev pub inside : List ℕ → Frame → List ℕ
inside text frame = slice_range text frame.from frame.to

-- the frame of a text of lines alone
abbrev pub whole : List ℕ → Frame
whole text = record { from = 0; to = length text }

abbrev pub first_byte : ℕ → Option Token → ℕ
first_byte end (Some token) = token.from
first_byte end None = end

-- where a token of the frame begins in the whole text; behind the last token, the end line
abbrev pub place_in : List ℕ → Frame → List Token → ℕ → Place
place_in text frame tokens k = place_of text (frame.from + first_byte (length (inside text frame)) (slice_get tokens k))

-- the first of these tokens that names no line
abbrev pub first_unknown : List ℕ → List Token → List (List ℕ) → List ℕ → Option ℕ
first_unknown bytes tokens names [] = None
first_unknown bytes tokens names (k ∷ ks) = if list_any (bytes_eq (bytes_at bytes tokens k)) names then first_unknown bytes tokens names ks else Some k

-- what the part of the text in a frame reads as: lines, or why not
module _ (which : Scope) (table : Table) (text : List ℕ) (frame : Frame) where
  pub data ReadsInside : Result Proof ProofFault → Type 0 where
    no_token : {k : ℕ} → Cut (inside text frame) 0 (Err k) → ReadsInside (Err (Syntax (place_of text (frame.from + k))))
    no_lines : {tokens : List Token} {why : Why} {k : ℕ} → Cut (inside text frame) 0 (Ok tokens) → LinesAt (inside text frame) tokens which [] 0 (stop why k) → ReadsInside (Err (fault_of why (place_in text frame tokens k)))
    no_name : {tokens : List Token} {lines : List parse.Line} {end k : ℕ} → Cut (inside text frame) 0 (Ok tokens) → LinesAt (inside text frame) tokens which [] 0 (read lines end) → first_unknown (inside text frame) tokens (names_of (inside text frame) tokens lines) (parse.all_mentions lines) ≡ Some k → ReadsInside (Err (UnknownName (place_in text frame tokens k)))
    reads : {tokens : List Token} {lines : List parse.Line} {end : ℕ} {proof : Proof} → Cut (inside text frame) 0 (Ok tokens) → LinesAt (inside text frame) tokens which [] 0 (read lines end) → first_unknown (inside text frame) tokens (names_of (inside text frame) tokens lines) (parse.all_mentions lines) ≡ None → MeanLines (inside text frame) tokens table (names_of (inside text frame) tokens lines) lines proof.lines → ReadsInside (Ok proof)

module _ (table : Table) (text : List ℕ) where
  -- a text is read in its frame
  pub data ReadsProof : Result Proof ProofFault → Type 0 where
    no_frame : {why : ProofFault} → Framed text (Err why) → ReadsProof (Err why)
    in_frame : {frame : Frame} {answer : Result Proof ProofFault} → Framed text (Ok frame) → ReadsInside scope.Proof table text frame answer → ReadsProof answer

  -- a text of lines alone is read whole
  abbrev pub ReadsLines : Result Proof ProofFault → Type 0
  ReadsLines answer = ReadsInside scope.Proof table text (whole text) answer

-- the same of a text that isn't too long; a longer one is refused at its first byte, and want of memory is the one free answer
module _ (Reads : Result Proof ProofFault → Type 0) (text : List ℕ) where
  abbrev pub IsReadingBy : Result Proof ProofFault → Type 0
  IsReadingBy (Err NoMemory) = Unit {0}
  IsReadingBy (Err (Limit what.Bytes place)) = (max_proof < length text) × (place ≡ first_place)
  IsReadingBy answer = (length text ≤ max_proof) × Reads answer

abbrev pub IsReadingInside : Scope → Table → List ℕ → Frame → Result Proof ProofFault → Type 0
IsReadingInside which table text frame answer = IsReadingBy (ReadsInside which table text frame) text answer

abbrev pub IsReading : Table → List ℕ → Result Proof ProofFault → Type 0
IsReading table text answer = IsReadingBy (ReadsProof table text) text answer

abbrev pub IsReadingOfLines : Table → List ℕ → Result Proof ProofFault → Type 0
IsReadingOfLines table text answer = IsReadingInside scope.Proof table text (whole text) answer
