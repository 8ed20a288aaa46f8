-- What the readers of the parts answer.
use Rattle.std.proofs.Common.{◌≡◌, ℕ, ◌+◌, ◌<◌, ◌≤◌, List, length, take, drop, sym, ap, ◌∙◌, subst, arith, Result, Ok, Err, IfOk}
use Rattle.std.specs.Prelude.{◌==◌}
use Rattle.std.proofs.lemmas.List.{length-take-le}
use Rattle.std.proofs.lemmas.List.Sums.{count_by-le-length}
use Rattle.uc_term.specs.Table.{Table, Grows, IsOf}
use Rattle.uc_clause.specs.declared.token.Token.{Token}
use Rattle.uc_clause.specs.declared.token.Place.{Place}
use Rattle.uc_clause.specs.declared.fault.What.TheVariants as what
use Rattle.uc_clause.specs.declared.fault.TokenFault.{TokenFault}
use Rattle.uc_clause.specs.declared.fault.TokenFault.TheVariants as of_tokens
use Rattle.uc_clause.specs.declared.grammar.stop.Stop.{Stop}
use Rattle.uc_clause.specs.declared.grammar.stop.Stop.TheVariants as of_stop
use Rattle.uc_clause.specs.Bytes.{in_line}
use Rattle.uc_clause.specs.Tokens.{AreTokens, IsRefused, place_of}
use Rattle.uc_clause.specs.Interning.{Interns}
use Rattle.uc_clause.specs.Rules.{Stops}
use Rattle.uc_check.specs.declared.proof.Proof.{Proof}
use Rattle.uc_tstp.specs.declared.fault.ProofFault.{ProofFault}
use Rattle.uc_tstp.specs.declared.fault.ProofFault.TheVariants as of_proof
use Rattle.uc_tstp.specs.declared.framing.Frame.{Frame}
use Rattle.uc_tstp.specs.declared.scope.Scope.TheVariants.{Derivation}
use Rattle.uc_tstp.specs.Framing.{max_proof}
use Rattle.uc_tstp.specs.Reading.{inside, place_in, IsReadingInside}
use Rattle.uc_tstp.specs.Faults.{behind_lines}
use Rattle.uc_tstp.proofs.Places.{place_in_frame, stuck_in}
use Rattle.uc_tstp.proofs.ReadingGrows.{inside_grows}
use Rattle.uc_system.specs.declared.fault.SystemFault.{SystemFault}
use Rattle.uc_system.specs.declared.fault.SystemFault.TheVariants as of_system
use Rattle.uc_system.specs.declared.lines.Cursor.{Cursor}
use Rattle.uc_system.specs.declared.system.SystemText.{SystemText}
use Rattle.uc_system.specs.Places.{IsAt}
use Rattle.uc_system.specs.Reading.{system_lines}
use Rattle.uc_system.specs.Reads as of_lines
use Rattle.uc_certificate.specs.declared.certificate.Join.{Join}
use Rattle.uc_certificate.specs.declared.fault.CertFault.{CertFault}
use Rattle.uc_certificate.specs.declared.fault.CertFault.TheVariants.{Syntax, Version, Limit, UnknownRule, UnknownName, RepeatedName, NoMemory}
use Rattle.uc_certificate.specs.declared.border.Border.TheVariants as border
use Rattle.uc_certificate.specs.Parts.{fails, Rule}
use Rattle.uc_certificate.specs.Headings.{is_border, FirstLine}
use Rattle.uc_certificate.specs.JoinLines.{joins}
use Rattle.uc_certificate.specs.JoinMeaning.{MeanJoins}
use Rattle.uc_certificate.specs.Interning.{with_joins}
use Rattle.uc_certificate.specs.Faults.{token_fault, stop_fault}
use Rattle.uc_certificate.specs.Reading.{limit_in, system_fault, proof_fault, join_fault, frame_of, has_system, has_no_system, system, derives, derives_not, derivation, no_token, no_joins, has_joins, join_lines}
use Rattle.uc_certificate.specs.Reads.{GivesIn, Gives, ReadsAs, IsStart}

-- a refusal, whatever it is
pub refused_in : {V : Type 0} (rule : Table → Rule V) (table : Table) (text : List ℕ) (at : ℕ) (fault : CertFault) → rule table at (fails fault) → GivesIn rule table text at (Err fault)
refused_in rule table text at (Syntax place) h = h
refused_in rule table text at (Version place) h = h
refused_in rule table text at (Limit w place) h = h
refused_in rule table text at (UnknownRule place) h = h
refused_in rule table text at (UnknownName place) h = h
refused_in rule table text at (RepeatedName place) h = h
refused_in rule table text at NoMemory h = tt

pub refused : {V : Type 0} (rule : Rule V) (text : List ℕ) (at : ℕ) (fault : CertFault) → rule at (fails fault) → Gives rule text at (Err fault)
refused rule text at (Syntax place) h = h
refused rule text at (Version place) h = h
refused rule text at (Limit w place) h = h
refused rule text at (UnknownRule place) h = h
refused rule text at (UnknownName place) h = h
refused rule text at (RepeatedName place) h = h
refused rule text at NoMemory h = tt

module _ (text : List ℕ) (at : ℕ) where
  -- THE SYSTEM

  abbrev pub start : Cursor
  start = record { from = at; number = (place_of text at).line }

  pub starts : at ≤ length text → IsAt text start
  starts h = record { within = h; few = omega (arith, count_by-le-length (λ b. b == 10) (take at text), length-take-le at text h) }

  module _ (table : Table) where
    pub system_gives : (said : SystemText) (end : Cursor) → of_lines.GivesIn system_lines table text start (Ok (said, end)) → GivesIn (λ t. system t text) table text at (Ok (said, end.from))
    system_gives said end h = ((λ later g. has_system (h.0 later g) h.1.within), h.1.within)

    pub system_fails : (fault : SystemFault) → of_lines.GivesIn system_lines table text start (Err fault) → GivesIn (λ t. system t text) table text at (Err (system_fault text fault))
    system_fails (of_system.Syntax place) h = has_no_system h
    system_fails (of_system.Version place) h = has_no_system h
    system_fails (of_system.Limit place) h = has_no_system h
    system_fails of_system.NoMemory h = tt

    pub system_fails_from : (place : Place) → place ≡ place_of text at → (fault : SystemFault) → of_lines.GivesIn system_lines table text (record { from = at; number = place.line }) (Err fault) → GivesIn (λ t. system t text) table text at (Err (system_fault text fault))
    system_fails_from place e fault h = system_fails fault (subst (λ (p : Place). of_lines.GivesIn system_lines table text (record { from = at; number = p.line }) (Err fault)) e h)

    -- THE DERIVATION

    module _ (to : ℕ) (first : FirstLine text (is_border border.Facts) at to) where
      pub derivation_gives : (proof : Proof) → to ≤ length text → IsReadingInside Derivation table text (frame_of at to) (Ok proof) → GivesIn (λ t. derivation t text) table text at (Ok (proof, to))
      derivation_gives proof h r = ((λ later g. derives first (inside_grows table later g Derivation text (frame_of at to) r.1)), h)

      pub derivation_fails : (why : ProofFault) → length text ≤ max_proof → IsReadingInside Derivation table text (frame_of at to) (Err why) → GivesIn (λ t. derivation t text) table text at (Err (proof_fault text why))
      derivation_fails (of_proof.Syntax place) h r = derives_not first r.1
      derivation_fails (of_proof.UnknownRule place) h r = derives_not first r.1
      derivation_fails (of_proof.UnknownName place) h r = derives_not first r.1
      derivation_fails of_proof.Truncated h r = derives_not first r.1
      derivation_fails (of_proof.RepeatedName place) h r = derives_not first r.1
      derivation_fails (of_proof.Limit what.Bytes place) h r = absurd (omega (arith, h, r.0))
      derivation_fails (of_proof.Limit what.Nodes place) h r = derives_not first r.1
      derivation_fails (of_proof.Limit what.Arity place) h r = derives_not first r.1
      derivation_fails (of_proof.Limit what.Parentheses place) h r = derives_not first r.1
      derivation_fails (of_proof.Limit what.Clauses place) h r = derives_not first r.1
      derivation_fails (of_proof.Limit what.Files place) h r = derives_not first r.1
      derivation_fails (of_proof.Limit what.Symbols place) h r = derives_not first r.1
      derivation_fails of_proof.NoMemory h r = tt

    -- THE JOINS

    module _ (to : ℕ) (first : FirstLine text (is_border border.End) at to) where
      pub tokens_fail : (fault : TokenFault) → IsStart text at → IsRefused (inside text (frame_of at to)) fault → GivesIn (λ t. join_lines t text) table text at (Err (token_fault text (frame_of at to) fault))
      tokens_fail (of_tokens.Syntax place) s h =
          let k : ℕ = h.0 in
          let lt : k < length (inside text (frame_of at to)) = stuck_in (inside text (frame_of at to)) k h.1 in
          let places : place_of text (at + k) ≡ behind_lines (place_of text at) place = place_in_frame text (frame_of at to) k (omega (arith, lt)) s ∙ ap (behind_lines (place_of text at)) (sym h.2) in
          subst (λ p. GivesIn (λ t. join_lines t text) table text at (Err (Syntax p))) places (no_token first h.1)
      tokens_fail of_tokens.NoMemory s h = tt

      module _ (tokens : List Token) (cut : AreTokens (inside text (frame_of at to)) tokens) where
        pub joins_fail : (stop : Stop) → Stops (joins (inside text (frame_of at to)) tokens 0) stop → GivesIn (λ t. join_lines t text) table text at (Err (stop_fault text (frame_of at to) tokens stop))
        joins_fail (of_stop.At why k) h = refused_in (λ t. join_lines t text) table text at (join_fault why (place_in text (frame_of at to) tokens k)) (no_joins first cut h)
        joins_fail of_stop.NoMemory h = tt

        pub joins_give : (old : Table) (list : List Join) (end : ℕ) → to ≤ length text → ReadsAs (joins (inside text (frame_of at to)) tokens) (MeanJoins (inside text (frame_of at to)) tokens) (with_joins (inside text (frame_of at to)) tokens) 0 end old table list → GivesIn (λ t. join_lines t text) table text at (Ok (list, to))
        joins_give old list end h r = ((λ later g. has_joins first cut r.reads (r.means later g)), h)

pub interned_to : (text : List ℕ) (at to : ℕ) (old new : Table) (r : Result (List Join × ℕ) CertFault) → IfOk r (λ x. x.1 ≡ to) → IfOk r (λ _. Interns joins with_joins (inside text (frame_of at to)) old new) → IfOk r (λ x. Interns joins with_joins (inside text (frame_of at x.1)) old new)
interned_to text at to old new (Ok x) e i = subst (λ k. Interns joins with_joins (inside text (frame_of at k)) old new) (sym e) i
interned_to text at to old new (Err fault) e i = tt
