-- A printed proof is read again.
use Rattle.std.proofs.Common.{◌≡◌, ℕ, zero, suc, ◌<◌, true, List, [], ◌∷◌, ◌++◌, length, get_or, refl, sym, ap, ◌∙◌, subst, arith, None, Ok}
use Rattle.std.specs.List.{AllByRecursion}
use Rattle.std.proofs.lemmas.List.{length-map}
use Rattle.uc_term.specs.Table.{Table}
use Rattle.uc_clause.specs.declared.token.Token.{Token}
use Rattle.uc_clause.specs.Bytes.{is_name}
use Rattle.uc_clause.specs.Tokens.{Cut}
use Rattle.uc_clause.specs.Rules.{read}
use Rattle.uc_clause.proofs.Joined.{Piece, joined, tokens_of, cut_pieces}
use Rattle.uc_check.specs.declared.proof.Proof.{Proof}
use Rattle.uc_check.specs.declared.proof.Line.{Line}
use Rattle.uc_check.specs.declared.proof.LineStep.{LineStep}
use Rattle.uc_check.specs.declared.proof.LineSource.{LineSource}
use Rattle.uc_check.specs.declared.proof.LineSource.TheVariants.{File, Chain, Reflexive, EncodeGoal, Refute}
use Rattle.uc_tstp.specs.declared.framing.Frame.{Frame}
use Rattle.uc_tstp.specs.declared.scope.Scope.{Scope}
use Rattle.uc_tstp.specs.declared.scope.Scope.TheVariants as scope
use Rattle.uc_tstp.specs.Parse as parse
use Rattle.uc_tstp.specs.Framing.{start_words, end_words}
use Rattle.uc_tstp.specs.Lines.{LinesAt}
use Rattle.uc_tstp.specs.Meaning.{names_of, MeanLines}
use Rattle.uc_tstp.specs.Reading.{inside, first_unknown, ReadsInside, ReadsProof, in_frame, reads}
use Rattle.uc_tstp.specs.Printing.{names_in, border_text, lines_text, proof_text, AreNumbers, IsStepOf, IsSourceOf, IsLineOf, AreLinesOf}
use Rattle.uc_tstp.specs.Printable.{AreLineNames, AreOf, renumbered_proof}
use Rattle.uc_tstp.proofs.Bounded.{IsPrintableStep, IsPrintableSource, ArePrintableLines, ArePrintable, IsPrintableProof}
use Rattle.uc_tstp.proofs.LinePieces.{IsBy, IsStepBy, IsSourceBy, AreLinesAgain, lines_pieces, lines_whole, lines_apart, lines_in_lines}
use Rattle.uc_tstp.proofs.FrameAgain.{frame_again}
use Rattle.uc_tstp.proofs.LineAgain.{lines_here}

-- all names are lower-case words
abbrev AreLower : List (List ℕ) → Type 0
AreLower names = AllByRecursion (λ name. is_name name ≡ true) names

all_lower : (earlier names : List (List ℕ)) → AreLineNames earlier names → AreLower names
all_lower earlier [] new = tt
all_lower earlier (name ∷ names) new = (new.0, all_lower (name ∷ earlier) names new.2)

lower_at : (names : List (List ℕ)) (n : ℕ) → AreLower names → n < length names → is_name (get_or names n []) ≡ true
lower_at [] n all h = absurd (omega arith)
lower_at (name ∷ names) zero all h = all.0
lower_at (name ∷ names) (suc n) all h = lower_at names n all.1 (omega arith)

module _ (table : Table) (names : List (List ℕ)) (lower : AreLower names) where
  by_number : (n : ℕ) → n < length names → IsBy table names n
  by_number n h = (h, lower_at names n lower h)

  by_numbers : (ns : List ℕ) → AreNumbers (length names) ns → AllByRecursion (IsBy table names) ns
  by_numbers [] all = tt
  by_numbers (n ∷ ns) all = (by_number n all.0, by_numbers ns all.1)

  by_steps : (ss : List LineStep) → AllByRecursion (IsStepOf table (length names)) ss → AllByRecursion (IsPrintableStep table) ss → AllByRecursion (IsStepBy table names) ss
  by_steps [] all printable = tt
  by_steps (s ∷ ss) all printable = (record { by = by_number s.by all.0.by; printable = printable.0 }, by_steps ss all.1 printable.1)

  by_source : (file : List ℕ) (source : LineSource) → IsSourceOf table (length names) source → IsPrintableSource table file source → IsSourceBy table names source
  by_source file (File n) is printable = tt
  by_source file (Chain start steps parents) is printable = (by_steps steps is.1 printable.1, by_numbers parents is.2)
  by_source file (Reflexive parents) is printable = by_numbers parents is
  by_source file (EncodeGoal parents) is printable = by_numbers parents is
  by_source file (Refute parents) is printable = by_numbers parents is

  lines_again : (files : List (List ℕ)) (lines : List Line) → AllByRecursion (IsLineOf table (length names)) lines → ArePrintableLines table files lines → AreLower (names_in lines) → AreLinesAgain table names files lines
  lines_again [] [] are printable named = tt
  lines_again [] (line ∷ lines) are printable named = elim printable [ ]
  lines_again (file ∷ files) [] are printable named = elim printable [ ]
  lines_again (file ∷ files) (line ∷ lines) are printable named =
      (record { named = named.0; by = by_source file line.source are.0.source printable.0.source; printable = printable.0 }, lines_again files lines are.1 printable.1 named.1)

-- what is read from a frame's bytes
read_inside : (which : Scope) (table : Table) (text bytes : List ℕ) (frame : Frame) (proof : Proof) → inside text frame ≡ bytes → (tokens : List Token) → Cut bytes 0 (Ok tokens) → (ls : List parse.Line) (end : ℕ) → LinesAt bytes tokens which [] 0 (read ls end) → first_unknown bytes tokens (names_of bytes tokens ls) (parse.all_mentions ls) ≡ None → MeanLines bytes tokens table (names_of bytes tokens ls) ls proof.lines → ReadsInside which table text frame (Ok proof)
read_inside which table text bytes frame proof e =
    subst (λ b. (tokens : List Token) → Cut b 0 (Ok tokens) → (ls : List parse.Line) (end : ℕ) → LinesAt b tokens which [] 0 (read ls end) → first_unknown b tokens (names_of b tokens ls) (parse.all_mentions ls) ≡ None → MeanLines b tokens table (names_of b tokens ls) ls proof.lines → ReadsInside which table text frame (Ok proof)) e
    (λ tokens cut ls end are known mean. reads cut are known mean)

module _ (which : Scope) (table : Table) (files : List (List ℕ)) (proof : Proof) (are : AreLinesOf table proof.lines) (printable : ArePrintable table which files proof.lines) where
  abbrev names : List (List ℕ)
  names = names_in proof.lines

  lower : AreLower names
  lower = all_lower [] names printable.names

  again : AreLinesAgain table names files proof.lines
  again = lines_again table names lower files proof.lines (subst (λ count. AllByRecursion (IsLineOf table count) proof.lines) (sym (length-map proof.lines (λ (line : Line). line.name))) are) printable.lines lower

  pub within_lines : AreLinesAgain table names files proof.lines
  within_lines = again

  -- lines are read again in a frame in which they stand
  pub inside_again : (text : List ℕ) (frame : Frame) → inside text frame ≡ lines_text table names files proof.lines → ReadsInside which table text frame (Ok (renumbered_proof proof))
  inside_again text frame lines_are =
      let pieces : List Piece = lines_pieces table names files proof.lines in
      let bytes : List ℕ = joined pieces in
      let tokens : List Token = tokens_of bytes 0 pieces in
      let here = lines_here table names bytes tokens which [] files proof.lines 0 again printable.names printable.belong (0, record { bytes = refl; lexed = refl }) in
      read_inside which table text bytes frame (renumbered_proof proof) (lines_are ∙ sym (lines_whole table names files proof.lines again)) tokens (cut_pieces pieces (lines_apart table names files proof.lines again)) here.ls here.end here.reads (rw here.named here.known) (rw here.named here.mean)

-- all lines are those of a proof
all_belong : (lines : List Line) → AreOf scope.Proof lines
all_belong [] = tt
all_belong (line ∷ lines) = (refl, all_belong lines)

pub proof_again : (table : Table) (name : List ℕ) (files : List (List ℕ)) (proof : Proof) → AreLinesOf table proof.lines → IsPrintableProof table name files proof.lines → ReadsProof table (proof_text table name files proof.lines) (Ok (renumbered_proof proof))
proof_again table name files proof are printable =
    let lines : ArePrintable table scope.Proof files proof.lines = record { names = printable.names; lines = printable.lines; belong = all_belong proof.lines } in
    let frame = frame_again table name files proof.lines printable.name (lines_in_lines table (names_in proof.lines) files proof.lines (within_lines scope.Proof table files proof are lines)) in
    in_frame frame.is (inside_again scope.Proof table files proof are lines (proof_text table name files proof.lines) frame.frame frame.lines_are)

pub printed_again : (table : Table) (name : List ℕ) (files : List (List ℕ)) (proof : Proof) (none_yet first middle text : List ℕ) → none_yet ≡ [] → first ≡ none_yet ++ border_text start_words name → middle ≡ first ++ lines_text table (names_in proof.lines) files proof.lines → text ≡ middle ++ border_text end_words name → AreLinesOf table proof.lines → IsPrintableProof table name files proof.lines → ReadsProof table text (Ok (renumbered_proof proof))
printed_again table name files proof none_yet first middle text a b c d are printable =
    let start : first ≡ border_text start_words name = b ∙ ap (λ l. l ++ border_text start_words name) a in
    let lines : middle ≡ border_text start_words name ++ lines_text table (names_in proof.lines) files proof.lines = c ∙ ap (λ l. l ++ lines_text table (names_in proof.lines) files proof.lines) start in
    let whole : text ≡ proof_text table name files proof.lines = d ∙ ap (λ l. l ++ border_text end_words name) lines in
    subst (λ x. ReadsProof table x (Ok (renumbered_proof proof))) (sym whole) (proof_again table name files proof are printable)
