-- What a certificate is to a problem has one line.
use Rattle.std.proofs.Common.{ℕ, ◌≡◌, ◌++◌, List, codes, slice_get, Some, refl, ap, subst}
use Rattle.uc_term.specs.declared.equation.Equation.{Equation}
use Rattle.uc_term.specs.Equations.{side_of}
use Rattle.uc_term.specs.Positions.{IsPlaceOf}
use Rattle.uc_check.specs.declared.proof.Line.{Line}
use Rattle.uc_fact.specs.declared.fact.Overlap.{Overlap}
use Rattle.uc_problem.proofs.Outcomes.{some_once}
use Rattle.uc_certify.specs.declared.certified.Certified.{Certified}
use Rattle.uc_answer.specs.PairLines.{overlap_words}
use Rattle.uc_answer.specs.CertifyLines.{refused_line, IsCertifiedLine, is_right, has_other_symbols, has_wrong_line, has_wrong_fact, has_wrong_join, has_large_overlap}
use Rattle.uc_term.proofs.OnePath.{path_once}

module _ (lines : List Line) (facts : List Equation) where
  large_once : (o : Overlap) (outer other : Equation) (p q : List ℕ) → slice_get facts o.outer ≡ Some outer → IsPlaceOf (side_of o.outer_side outer) p o.position.0 → slice_get facts o.outer ≡ Some other → IsPlaceOf (side_of o.outer_side other) q o.position.0 → refused_line (codes "large " ++ overlap_words o p) ≡ refused_line (codes "large " ++ overlap_words o q)
  large_once o outer other p q e a f b =
      let same : other ≡ outer = some_once f e in
      ap (λ path. refused_line (codes "large " ++ overlap_words o path)) (path_once (side_of o.outer_side outer) p q o.position.0 a (subst (λ (x : Equation). IsPlaceOf (side_of o.outer_side x) q o.position.0) same b))

  pub certified_line_once : (answer : Certified) (l m : List ℕ) → IsCertifiedLine lines facts answer l → IsCertifiedLine lines facts answer m → l ≡ m
  certified_line_once answer l m is_right is_right = refl
  certified_line_once answer l m has_other_symbols has_other_symbols = refl
  certified_line_once answer l m has_wrong_line has_wrong_line = refl
  certified_line_once answer l m has_wrong_fact has_wrong_fact = refl
  certified_line_once answer l m has_wrong_join has_wrong_join = refl
  certified_line_once answer l m (has_large_overlap {o = o} outer p e a) (has_large_overlap other q f b) = large_once o outer other p q e a f b
