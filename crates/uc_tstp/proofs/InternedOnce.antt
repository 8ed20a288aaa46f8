-- The table that reading a proof leaves is one.
use Rattle.std.proofs.Common.{◌≡◌, ℕ, List, Result, Ok, Err, IfOk, sym, ap₂, ◌∙◌, subst}
use Rattle.uc_term.specs.Table.{Table}
use Rattle.uc_clause.specs.declared.token.Token.{Token}
use Rattle.uc_check.specs.declared.proof.Proof.{Proof}
use Rattle.uc_tstp.specs.declared.fault.ProofFault.{ProofFault}
use Rattle.uc_tstp.specs.declared.framing.Frame.{Frame}
use Rattle.uc_tstp.specs.declared.scope.Scope.{Scope}
use Rattle.uc_tstp.specs.declared.scope.Scope.TheVariants as scope
use Rattle.uc_tstp.specs.Framing.{Framed}
use Rattle.uc_tstp.specs.Parse.{Line}
use Rattle.uc_tstp.specs.Interning.{with_lines, InternsInside, InternsProof}
use Rattle.uc_tstp.specs.Reading.{inside}
use Rattle.uc_tstp.proofs.FramedOnce.{framed_once}
use Rattle.uc_tstp.proofs.ReadingOnce.{all_once}
use Rattle.uc_tstp.proofs.Outcomes.{ok_once, same_value}

inside_interns_once : (which : Scope) (text : List ℕ) (frame : Frame) (old a b : Table) → InternsInside which text frame old a → InternsInside which text frame old b → a ≡ b
inside_interns_once which text frame old a b x y =
    let same = all_once which text frame x.are_tokens y.are_tokens x.reads y.reads in
    x.new_is ∙ ap₂ (λ (ts : List Token) (ls : List Line). with_lines (inside text frame) ts old ls) same.0 (same_value same.1) ∙ sym y.new_is

pub proof_interns_once : (text : List ℕ) (old a b : Table) → InternsProof text old a → InternsProof text old b → a ≡ b
proof_interns_once text old a b x y =
    let frames : y.frame ≡ x.frame = ok_once (framed_once text y.framed x.framed) in
    inside_interns_once scope.Proof text x.frame old a b x.interns (subst (λ (f : Frame). InternsInside scope.Proof text f old b) frames y.interns)

-- where a proof is read
pub whenever_read : {P : Type 0} (r : Result Proof ProofFault) → P → IfOk r (λ _. P)
whenever_read (Ok proof) p = p
whenever_read (Err why) p = tt

pub framed_interns : (text : List ℕ) (frame : Frame) (old new : Table) → Framed text (Ok frame) → (r : Result Proof ProofFault) → IfOk r (λ _. InternsInside scope.Proof text frame old new) → IfOk r (λ _. InternsProof text old new)
framed_interns text frame old new f (Ok proof) i = record { frame = frame; framed = f; interns = i }
framed_interns text frame old new f (Err why) i = tt
