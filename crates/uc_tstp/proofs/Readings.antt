-- What a text reads as, from what its parts read as.
use Rattle.std.proofs.Common.{◌≡◌, ℕ, ◌+◌, ◌≤◌, List, [], length, Option, Some, None, sym, ap, ap₂, ◌∙◌, subst, arith}
use Rattle.std.specs.Prelude.{Result, Ok, Err}
use Rattle.uc_term.specs.Table.{Table}
use Rattle.uc_clause.specs.declared.token.Token.{Token}
use Rattle.uc_clause.specs.declared.token.Place.{Place}
use Rattle.uc_clause.specs.declared.fault.What.TheVariants as what
use Rattle.uc_clause.specs.declared.fault.TokenFault.{TokenFault}
use Rattle.uc_clause.specs.declared.fault.TokenFault.TheVariants as of_tokens
use Rattle.uc_clause.specs.declared.grammar.stop.Why.{Why}
use Rattle.uc_clause.specs.declared.grammar.stop.Why.TheVariants.{NoItem, NoRole, NoSelection, NoTerm, NoSign, NoEnd, NoToken, Nodes, Parentheses, Arity, NoRule, Repeated}
use Rattle.uc_clause.specs.declared.grammar.stop.Stop.{Stop}
use Rattle.uc_clause.specs.declared.grammar.stop.Stop.TheVariants as of_stop
use Rattle.uc_clause.specs.Tokens.{AreTokens, IsRefused, place_of}
use Rattle.uc_clause.specs.Rules.{Stops}
use Rattle.uc_check.specs.declared.proof.Proof.{Proof}
use Rattle.uc_check.specs.declared.proof.Line.{Line}
use Rattle.uc_tstp.specs.declared.drafts.LineDraft.{LineDraft}
use Rattle.uc_tstp.specs.declared.fault.ProofFault.{ProofFault}
use Rattle.uc_tstp.specs.declared.fault.ProofFault.TheVariants.{Syntax, UnknownRule, UnknownName, Truncated, RepeatedName, Limit, NoMemory}
use Rattle.uc_tstp.specs.declared.framing.Frame.{Frame}
use Rattle.uc_tstp.specs.declared.scope.Scope.{Scope}
use Rattle.uc_tstp.specs.declared.scope.Scope.TheVariants as scope
use Rattle.uc_tstp.specs.declared.resolving.Unresolved.{Unresolved}
use Rattle.uc_tstp.specs.declared.resolving.Unresolved.TheVariants as of_name
use Rattle.uc_tstp.specs.Framing.{Framed, IsFrame, max_proof}
use Rattle.uc_tstp.specs.Parse.{all_mentions}
use Rattle.uc_tstp.specs.Lines.{LinesAt}
use Rattle.uc_tstp.specs.Meaning.{names_of, MeanLines}
use Rattle.uc_tstp.specs.Drafts.{AreLines}
use Rattle.uc_tstp.specs.Resolving.{ResolveLines, lines_mention, Lacks}
use Rattle.uc_tstp.specs.Reading.{inside, fault_of, place_in, first_unknown, ReadsInside, no_token, no_lines, no_name, reads, ReadsProof, no_frame, in_frame, IsReadingBy, IsReadingInside, IsReading}
use Rattle.uc_tstp.specs.Faults.{StandsIn, BeginsLine, behind_lines, token_fault, line_fault, name_fault}
use Rattle.uc_tstp.proofs.Places.{place_in_frame, stuck_in}
use Rattle.uc_tstp.proofs.Meant.{mean_lines, same_mentions}
use Rattle.uc_tstp.proofs.Resolved.{known_lines}

module _ (table : Table) (text : List ℕ) where
  pub frame_fault_reading : (why : ProofFault) → IsFrame text (Err why) → IsReading table text (Err why)
  frame_fault_reading (Syntax place) h = (h.0, no_frame h.1)
  frame_fault_reading (UnknownRule place) h = (h.0, no_frame h.1)
  frame_fault_reading (UnknownName place) h = (h.0, no_frame h.1)
  frame_fault_reading Truncated h = (h.0, no_frame h.1)
  frame_fault_reading (RepeatedName place) h = (h.0, no_frame h.1)
  frame_fault_reading (Limit what.Bytes place) h = (h.0, h.2)
  frame_fault_reading NoMemory h = tt
  frame_fault_reading v h = absurd cc

-- what holds of each answer that one reading gives holds of those of another
pub reading_by : (P Q : Result Proof ProofFault → Type 0) (text : List ℕ) → ((r : Result Proof ProofFault) → P r → Q r) → (r : Result Proof ProofFault) → IsReadingBy P text r → IsReadingBy Q text r
reading_by P Q text f (Ok proof) h = (h.0, f (Ok proof) h.1)
reading_by P Q text f (Err (Syntax place)) h = (h.0, f (Err (Syntax place)) h.1)
reading_by P Q text f (Err (UnknownRule place)) h = (h.0, f (Err (UnknownRule place)) h.1)
reading_by P Q text f (Err (UnknownName place)) h = (h.0, f (Err (UnknownName place)) h.1)
reading_by P Q text f (Err Truncated) h = (h.0, f (Err Truncated) h.1)
reading_by P Q text f (Err (RepeatedName place)) h = (h.0, f (Err (RepeatedName place)) h.1)
reading_by P Q text f (Err (Limit what.Bytes place)) h = h
reading_by P Q text f (Err (Limit what.Nodes place)) h = (h.0, f (Err (Limit what.Nodes place)) h.1)
reading_by P Q text f (Err (Limit what.Arity place)) h = (h.0, f (Err (Limit what.Arity place)) h.1)
reading_by P Q text f (Err (Limit what.Parentheses place)) h = (h.0, f (Err (Limit what.Parentheses place)) h.1)
reading_by P Q text f (Err (Limit what.Clauses place)) h = (h.0, f (Err (Limit what.Clauses place)) h.1)
reading_by P Q text f (Err (Limit what.Files place)) h = (h.0, f (Err (Limit what.Files place)) h.1)
reading_by P Q text f (Err (Limit what.Symbols place)) h = (h.0, f (Err (Limit what.Symbols place)) h.1)
reading_by P Q text f (Err NoMemory) h = tt

pub framed_reading : (table : Table) (text : List ℕ) (frame : Frame) → Framed text (Ok frame) → (r : Result Proof ProofFault) → IsReadingInside scope.Proof table text frame r → IsReading table text r
framed_reading table text frame is_framed = reading_by (ReadsInside scope.Proof table text frame) (ReadsProof table text) text (λ r h. in_frame is_framed h)

module _ (which : Scope) (table : Table) (text : List ℕ) (frame : Frame) where
  stop_reading : (why : Why) (place : Place) → length text ≤ max_proof → ReadsInside which table text frame (Err (fault_of why place)) → IsReadingInside which table text frame (Err (fault_of why place))
  stop_reading NoItem place small h = (small, h)
  stop_reading NoRole place small h = (small, h)
  stop_reading NoSelection place small h = (small, h)
  stop_reading NoTerm place small h = (small, h)
  stop_reading (NoSign first) place small h = (small, h)
  stop_reading NoEnd place small h = (small, h)
  stop_reading NoToken place small h = (small, h)
  stop_reading Nodes place small h = (small, h)
  stop_reading Parentheses place small h = (small, h)
  stop_reading Arity place small h = (small, h)
  stop_reading NoRule place small h = (small, h)
  stop_reading Repeated place small h = (small, h)

  module _ (stands : StandsIn text frame) where
    pub token_fault_reading : BeginsLine text frame → (fault : TokenFault) → IsRefused (inside text frame) fault → IsReadingInside which table text frame (Err (token_fault text frame fault))
    token_fault_reading begins (of_tokens.Syntax place) h =
        let k = stuck_in (inside text frame) h.0 h.1 in
        let e : place_of text (frame.from + h.0) ≡ behind_lines (place_of text frame.from) place = place_in_frame text frame h.0 (omega (arith, k)) begins ∙ ap (behind_lines (place_of text frame.from)) (sym h.2) in
        (stands.2, subst (λ p. ReadsInside which table text frame (Err (Syntax p))) e (no_token h.1))
    token_fault_reading begins of_tokens.NoMemory h = tt

    module _ (tokens : List Token) (are : AreTokens (inside text frame) tokens) where
      pub line_fault_reading : (s : Stop) → Stops (LinesAt (inside text frame) tokens which [] 0) s → IsReadingInside which table text frame (Err (line_fault text frame tokens s))
      line_fault_reading (of_stop.At why k) h = stop_reading why (place_in text frame tokens k) stands.2 (no_lines are h)
      line_fault_reading of_stop.NoMemory h = tt

      module _ (names : List (List ℕ)) (drafts : List LineDraft) (old : Table) (lines : AreLines (inside text frame) tokens which old table names drafts) where
        unknown_is : (o : Option ℕ) → first_unknown (inside text frame) tokens names (lines_mention drafts) ≡ o → first_unknown (inside text frame) tokens (names_of (inside text frame) tokens lines.parses) (all_mentions lines.parses) ≡ o
        unknown_is o e = ap₂ (first_unknown (inside text frame) tokens) (sym lines.names_are) (sym (same_mentions (inside text frame) tokens table lines.say)) ∙ e

        pub name_fault_reading : (u : Unresolved) → Lacks (inside text frame) tokens names (lines_mention drafts) u → IsReadingInside which table text frame (Err (name_fault text frame tokens u))
        name_fault_reading (of_name.Unknown k) h = (stands.2, no_name are lines.reads (unknown_is (Some k) h))
        name_fault_reading of_name.NoMemory h = tt

        pub proof_reading : (ls : List Line) → ResolveLines (inside text frame) tokens names drafts ls → IsReadingInside which table text frame (Ok (record { lines = ls }))
        proof_reading ls h = (stands.2, reads are lines.reads (unknown_is None (known_lines (inside text frame) tokens names h)) (subst (λ ns. MeanLines (inside text frame) tokens table ns lines.parses ls) lines.names_are (mean_lines (inside text frame) tokens table names lines.say h)))
