-- The pairs of equations have one list of lines.
use Rattle.std.proofs.Common.{ℕ, ◌≡◌, List, ◌++◌, refl, sym, ap₂, ◌∙◌, subst}
use Rattle.uc_term.specs.declared.equation.Equation.{Equation}
use Rattle.uc_term.specs.Equations.{side_of}
use Rattle.uc_term.specs.Table.{Table}
use Rattle.uc_order.specs.Laws.{Meaning}
use Rattle.uc_fact.specs.declared.fact.Overlap.{Overlap}
use Rattle.uc_pair.specs.declared.formed.Formed.{Formed}
use Rattle.uc_pair.specs.Overlapping.{read_from}
use Rattle.uc_pair.proofs.OnePair.{one_formation}
use Rattle.uc_pair.proofs.Uniqueness.{same_each}
use Rattle.uc_answer.specs.PairLines.{pair_line, IsPairLine, ArePairLines, no_overlap_left, one_overlap, ArePairsOf, AreInnerLines, no_inner_left, one_inner, AreOuterLines, no_outer_left, one_outer}
use Rattle.uc_term.proofs.OnePath.{path_once}

module _ (table : Table) where
  line_once : (a b : Equation) (o : Overlap) {x y : List ℕ} → IsPairLine table a b o x → IsPairLine table a b o y → x ≡ y
  line_once a b o p q =
      let paths : p.path ≡ q.path = path_once (side_of o.outer_side a) p.path q.path o.position.0 p.path_is q.path_is in
      p.line_is ∙ ap₂ (pair_line table o) paths (one_formation (read_from o.outer o.outer_side a) (read_from o.inner o.inner_side b) o.position.0 p.formation q.formation p.formation_is q.formation_is) ∙ sym q.line_is

  lines_of_once : (a b : Equation) {list : List Formed} {x y : List ℕ} → ArePairLines table a b list x → ArePairLines table a b list y → x ≡ y
  lines_of_once a b no_overlap_left no_overlap_left = refl
  lines_of_once a b (one_overlap {formed = formed} p ps) (one_overlap q qs) = ap₂ (λ l ls. l ++ ls) (line_once a b formed.overlap p q) (lines_of_once a b ps qs)

  module _ (m : Meaning) where
    pairs_of_once : (i : ℕ) (a : Equation) (j : ℕ) (b : Equation) {x y : List ℕ} → ArePairsOf table m i a j b x → ArePairsOf table m i a j b y → x ≡ y
    pairs_of_once i a j b {y = y} p q = lines_of_once a b p.are_lines (subst (λ list. ArePairLines table a b list y) (same_each m.greater _ q.list p.list q.overlaps p.overlaps) q.are_lines)

    inner_once : (i : ℕ) (a : Equation) {j : ℕ} {es : List Equation} {x y : List ℕ} → AreInnerLines table m i a j es x → AreInnerLines table m i a j es y → x ≡ y
    inner_once i a no_inner_left no_inner_left = refl
    inner_once i a {j = j} (one_inner {b = b} p ps) (one_inner q qs) = ap₂ (λ l ls. l ++ ls) (pairs_of_once i a j b p q) (inner_once i a ps qs)

    pub outer_once : (all : List Equation) {i : ℕ} {es : List Equation} {x y : List ℕ} → AreOuterLines table m all i es x → AreOuterLines table m all i es y → x ≡ y
    outer_once all no_outer_left no_outer_left = refl
    outer_once all {i = i} (one_outer {a = a} p ps) (one_outer q qs) = ap₂ (λ l ls. l ++ ls) (inner_once i a p q) (outer_once all ps qs)
