-- What the text of a proof reads as, where memory isn't wanted: a proof, in one table of symbols; or why not, whatever the table.
use Rattle.std.proofs.Common.{◌⊎◌, inl, inr, ℕ, ◌≡◌, ◌<◌, ◌≤◌, List, length, Result, Ok, Err, refl, sym, ap, ◌∙◌, subst, arith}
use Rattle.uc_term.specs.Table.{Table, IsDistinct}
use Rattle.uc_clause.specs.declared.fault.What.TheVariants as what
use Rattle.uc_problem.proofs.Outcomes.{ok_once, err_once, ok_or_err}
use Rattle.uc_tstp.specs.declared.fault.ProofFault.{ProofFault}
use Rattle.uc_tstp.specs.declared.fault.ProofFault.TheVariants.{Syntax, UnknownRule, UnknownName, Truncated, RepeatedName, Limit, NoMemory}
use Rattle.uc_tstp.specs.declared.framing.Frame.{Frame}
use Rattle.uc_tstp.specs.declared.scope.Scope.TheVariants as scope
use Rattle.uc_tstp.specs.Framing.{max_proof, first_place}
use Rattle.uc_tstp.specs.Interning.{InternsProof}
use Rattle.uc_tstp.specs.Reading.{ReadsInside, no_token, no_lines, no_name, reads, ReadsProof, no_frame, in_frame, IsReading}
use Rattle.uc_tstp.proofs.InternedOnce.{proof_interns_once}
use Rattle.uc_tstp.proofs.ReadingOnce.{reading_once}
use Rattle.uc_check.specs.declared.proof.Proof.{Proof}
use Rattle.uc_answer.proofs.InternedDistinct.{read_proof_distinct}

-- it is too long, or it is read
module _ (table : Table) (text : List ℕ) where
  abbrev LongOrRead : Result Proof ProofFault → Type 0
  LongOrRead r = ((max_proof < length text) × (r ≡ Err (Limit what.Bytes first_place))) ⊎ ((length text ≤ max_proof) × ReadsProof table text r)

  long_or_read : (r : Result Proof ProofFault) → (r ≡ Err NoMemory → ⊥) → IsReading table text r → LongOrRead r
  long_or_read (Ok proof) n h = inr h
  long_or_read (Err (Syntax p)) n h = inr h
  long_or_read (Err (UnknownRule p)) n h = inr h
  long_or_read (Err (UnknownName p)) n h = inr h
  long_or_read (Err Truncated) n h = inr h
  long_or_read (Err (RepeatedName p)) n h = inr h
  long_or_read (Err (Limit what.Bytes p)) n h = inl (h.0, ap (λ q. Err (Limit what.Bytes q)) h.1)
  long_or_read (Err (Limit what.Nodes p)) n h = inr h
  long_or_read (Err (Limit what.Parentheses p)) n h = inr h
  long_or_read (Err (Limit what.Arity p)) n h = inr h
  long_or_read (Err (Limit what.Clauses p)) n h = inr h
  long_or_read (Err (Limit what.Files p)) n h = inr h
  long_or_read (Err (Limit what.Symbols p)) n h = inr h
  long_or_read (Err NoMemory) n h = absurd (n refl)

  either_once : IsDistinct table → {a b : Result Proof ProofFault} → LongOrRead a → LongOrRead b → a ≡ b
  either_once distinct (inl p) (inl q) = p.1 ∙ sym q.1
  either_once distinct (inl p) (inr q) = absurd (omega (arith, p.0, q.0))
  either_once distinct (inr p) (inl q) = absurd (omega (arith, p.0, q.0))
  either_once distinct (inr p) (inr q) = reading_once text table distinct p.1 q.1

not_memory : {why : ProofFault} → (why ≡ NoMemory → ⊥) → Path (Result Proof ProofFault) (Err why) (Err NoMemory) → ⊥
not_memory n e = n (err_once e)

read_not_memory : {proof : Proof} → Path (Result Proof ProofFault) (Ok proof) (Err NoMemory) → ⊥
read_not_memory e = ok_or_err e

module _ (text : List ℕ) where
  -- why a text isn't read doesn't depend on the table
  module _ (table other : Table) (why : ProofFault) where
    inside_anywhere : (frame : Frame) {r : Result Proof ProofFault} → r ≡ Err why → ReadsInside scope.Proof table text frame r → ReadsInside scope.Proof other text frame r
    inside_anywhere frame e (no_token c) = no_token c
    inside_anywhere frame e (no_lines c l) = no_lines c l
    inside_anywhere frame e (no_name c l u) = no_name c l u
    inside_anywhere frame e (reads c l u m) = absurd (ok_or_err e)

    fault_anywhere : {r : Result Proof ProofFault} → r ≡ Err why → ReadsProof table text r → ReadsProof other text r
    fault_anywhere e (no_frame f) = no_frame f
    fault_anywhere e (in_frame {frame = frame} f h) = in_frame f (inside_anywhere frame e h)

    anywhere : (why ≡ NoMemory → ⊥) → IsReading table text (Err why) → LongOrRead other text (Err why)
    anywhere n h = go (long_or_read table text (Err why) (not_memory n) h)
      where
        go : LongOrRead table text (Err why) → LongOrRead other text (Err why)
        go (inl p) = inl p
        go (inr p) = inr (p.0, fault_anywhere refl p.1)

  module _ (table : Table) where
    pub one_fault : IsDistinct table → (first second : Table) (a b : ProofFault) → (a ≡ NoMemory → ⊥) → (b ≡ NoMemory → ⊥) → IsReading first text (Err a) → IsReading second text (Err b) → a ≡ b
    one_fault distinct first second a b n m x y = err_once (either_once table text distinct (anywhere first table a n x) (anywhere second table b m y))

    -- a proof is read in the table that it makes of this one
    pub fault_or_proof : (read : Table) → IsDistinct table → InternsProof text table read → (first : Table) (why : ProofFault) (proof : Proof) → (why ≡ NoMemory → ⊥) → IsReading first text (Err why) → IsReading read text (Ok proof) → ⊥
    fault_or_proof read distinct i first why proof n x y = ok_or_err (sym (either_once read text (read_proof_distinct text table read i distinct) (anywhere first read why n x) (long_or_read read text (Ok proof) read_not_memory y)))

    pub one_proof : IsDistinct table → (first second : Table) (a b : Proof) → InternsProof text table first → InternsProof text table second → IsReading first text (Ok a) → IsReading second text (Ok b) → a ≡ b
    one_proof distinct first second a b i j x y =
        let same : first ≡ second = proof_interns_once text table first second i j in
        let there : IsReading second text (Ok a) = subst (λ (t : Table). IsReading t text (Ok a)) same x in
        ok_once (either_once second text (read_proof_distinct text table second j distinct) (long_or_read second text (Ok a) read_not_memory there) (long_or_read second text (Ok b) read_not_memory y))
