-- The line of a certificate, as it is put together.
use Rattle.std.proofs.Common.{◌≡◌, ℕ, ◌++◌, List, codes, slice_get, Some, Result, Ok, Err, sym, ap, ◌∙◌, subst}
use Rattle.std.specs.Result.{IfOk}
use Rattle.std.specs.declared.alloc.AllocError.{AllocError}
use Rattle.uc_term.specs.declared.equation.Equation.{Equation}
use Rattle.uc_term.specs.Equations.{side_of}
use Rattle.uc_term.specs.Positions.{IsPlaceOf}
use Rattle.uc_check.specs.declared.proof.Line.{Line}
use Rattle.uc_fact.specs.declared.fact.Overlap.{Overlap}
use Rattle.uc_certify.specs.declared.certified.Certified.{Certified}
use Rattle.uc_certify.specs.declared.certified.Certified.TheVariants.{Large}
use Rattle.uc_answer.specs.PairLines.{overlap_words}
use Rattle.uc_answer.specs.CertifyLines.{refused_line, IsCertifiedLine, has_large_overlap}

module _ (lines : List Line) (facts : List Equation) where
  pub told : (answer : Certified) (line : List ℕ) (r : Result (List ℕ) AllocError) → IsCertifiedLine lines facts answer line → IfOk r (λ text. text ≡ line) → IfOk r (IsCertifiedLine lines facts answer)
  told answer line (Ok text) h e = subst (IsCertifiedLine lines facts answer) (sym e) h
  told answer line (Err fault) h e = tt

  pub large_told : (o : Overlap) (outer : Equation) (why : List ℕ) (r : Result (List ℕ) AllocError) → slice_get facts o.outer ≡ Some outer → (path : List ℕ) × IsPlaceOf (side_of o.outer_side outer) path o.position.0 × (why ≡ codes "large " ++ overlap_words o path) → IfOk r (λ text. text ≡ refused_line why) → IfOk r (IsCertifiedLine lines facts (Large o))
  large_told o outer why (Ok text) at p e = subst (IsCertifiedLine lines facts (Large o)) (sym (e ∙ ap refused_line p.2)) (has_large_overlap outer p.0 at p.1)
  large_told o outer why (Err fault) at p e = tt
