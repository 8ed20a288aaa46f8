-- What is expected is one list, and the check has one answer.
use Rattle.std.proofs.Common.{◌≡◌, ℕ, ◌<◌, ◌⊎◌, inl, inr, ◌+◌, ◌++◌, List, [], ◌∷◌, length, Option, Some, None, refl, sym, ap, ap₂, ◌∙◌, subst, arith}
use Rattle.std.proofs.lemmas.Option.{slice_get_within}
use Rattle.uc_term.specs.declared.equation.Equation.{Equation}
use Rattle.uc_term.specs.Tree.{Tree}
use Rattle.uc_clause.specs.declared.clause.Sourced.{Sourced}
use Rattle.uc_check.specs.declared.proof.Line.{Line}
use Rattle.uc_check.specs.declared.checker.Cause.{Cause}
use Rattle.uc_check.specs.Checks.{FirstFailure}
use Rattle.uc_check.proofs.Once.{first_once}
use Rattle.uc_order.specs.Laws.{Meaning}
use Rattle.uc_fact.specs.Live.{Live, numbered}
use Rattle.uc_pair.specs.declared.formed.Formed.{Formed}
use Rattle.uc_pair.proofs.Uniqueness.{same_each}
use Rattle.uc_problem.specs.declared.problem.Encoded.{Encoded}
use Rattle.uc_certificate.specs.declared.certificate.Certificate.{Certificate}
use Rattle.uc_certificate.specs.declared.certificate.Join.{Join}
use Rattle.uc_certify.specs.declared.certified.Certified.{Certified}
use Rattle.uc_certify.specs.declared.certified.Certified.TheVariants.{Line as WrongLine, Fact as WrongFact}
use Rattle.uc_certify.specs.declared.expected.Member.{Member}
use Rattle.uc_certify.specs.Expecting.{axioms_from, members_of, OverlapsWith, no_inner, next_inner, AllOverlaps, no_outer, next_outer, AreExpected}
use Rattle.uc_certify.specs.Certifying.{AreDerivedBefore, IsFirstUnderived, AreTested, all_joined, too_many, is_large, is_missing, is_wrong, is_right, IsCertified, other_symbols, wrong_line, wrong_fact, by_joins}

module _ (Greater : Tree → Tree → Type 0) where
  with_once : (outer : Live) (inners : List Live) (x y : List Formed) → OverlapsWith Greater outer inners x → OverlapsWith Greater outer inners y → x ≡ y
  with_once outer [] _ _ no_inner no_inner = refl
  with_once outer (j ∷ js) _ _ (next_inner {list = p} {others = r} a x) (next_inner {list = q} {others = s} b y) = ap₂ (λ l o. l ++ o) (same_each Greater _ p q a b) (with_once outer js r s x y)

  pub all_once : (inners outers : List Live) (x y : List Formed) → AllOverlaps Greater inners outers x → AllOverlaps Greater inners outers y → x ≡ y
  all_once inners [] _ _ no_outer no_outer = refl
  all_once inners (i ∷ is) _ _ (next_outer {list = p} {others = r} a x) (next_outer {list = q} {others = s} b y) = ap₂ (λ l o. l ++ o) (with_once i inners p q a b) (all_once inners is r s x y)

  pub expected_once : (facts axioms : List Equation) (a b : List Member) → AreExpected Greater facts axioms a → AreExpected Greater facts axioms b → a ≡ b
  expected_once facts axioms a b x y =
      x.members_are ∙ ap (λ (fs : List Formed). axioms_from 0 axioms ++ members_of fs) (all_once (numbered facts) (numbered facts) x.overlaps y.overlaps x.are_overlaps y.are_overlaps) ∙ sym y.members_are

module _ (numbers : List ℕ) (lines : List Line) (facts : List Equation) where
  underived_before : (j k : ℕ) → j < k → IsFirstUnderived numbers lines facts j → AreDerivedBefore numbers lines facts k → ⊥
  underived_before j k h x all = x.not_derived (all j x.fact h x.fact_is)

  none_underived : (k : ℕ) → IsFirstUnderived numbers lines facts k → AreDerivedBefore numbers lines facts (length facts) → ⊥
  none_underived k x all = underived_before k (length facts) (slice_get_within facts k x.fact x.fact_is) x all

  underived_once : (j k : ℕ) → IsFirstUnderived numbers lines facts j → IsFirstUnderived numbers lines facts k → j ≡ k
  underived_once j k x y = go order
    where
      order : (j ≡ k) ⊎ ((j < k) ⊎ (k < j))
      order = grind arith

      go : (j ≡ k) ⊎ ((j < k) ⊎ (k < j)) → j ≡ k
      go (inl e) = e
      go (inr (inl l)) = absurd (underived_before j k l x y.before)
      go (inr (inr l)) = absurd (underived_before k j l y x.before)

module _ (m : Meaning) (facts axioms : List Equation) where
  tested_once : (members : List Member) (joins : List Join) (n : ℕ) (a b : Certified) → AreTested m facts axioms members joins n a → AreTested m facts axioms members joins n b → a ≡ b
  tested_once [] [] n _ _ all_joined all_joined = refl
  tested_once [] (j ∷ js) n _ _ too_many too_many = refl
  tested_once (k ∷ ks) js n _ _ (is_large h) (is_large g) = refl
  tested_once (k ∷ ks) [] n _ _ (is_large h) (is_missing g) = absurd (g h)
  tested_once (k ∷ ks) (j ∷ js) n _ _ (is_large h) (is_wrong g w) = absurd (g h)
  tested_once (k ∷ ks) (j ∷ js) n _ b (is_large h) (is_right g r x) = absurd (g h)
  tested_once (k ∷ ks) [] n _ _ (is_missing h) (is_large g) = absurd (h g)
  tested_once (k ∷ ks) [] n _ _ (is_missing h) (is_missing g) = refl
  tested_once (k ∷ ks) (j ∷ js) n _ _ (is_wrong h w) (is_large g) = absurd (h g)
  tested_once (k ∷ ks) (j ∷ js) n _ _ (is_wrong h w) (is_wrong g v) = refl
  tested_once (k ∷ ks) (j ∷ js) n _ b (is_wrong h w) (is_right g r x) = absurd (w r)
  tested_once (k ∷ ks) (j ∷ js) n a _ (is_right h r x) (is_large g) = absurd (h g)
  tested_once (k ∷ ks) (j ∷ js) n a _ (is_right h r x) (is_wrong g w) = absurd (w r)
  tested_once (k ∷ ks) (j ∷ js) n a b (is_right h r x) (is_right g s y) = tested_once ks js (n + 1) a b x y

some_none : (x : ℕ × Cause) → Some x ≡ None → ⊥
some_none x e = absurd cc

some_same : (x y : ℕ × Cause) → Some x ≡ Some y → x ≡ y
some_same x y e = cc

module _ (m : Meaning) (clauses : List Sourced) (encoded : Encoded) (certificate : Certificate) where
  abbrev lines : List Line
  lines = certificate.lines.lines

  abbrev facts : List Equation
  facts = certificate.text.system.facts

  abbrev Fails : Option (ℕ × Cause) → Type 0
  Fails = FirstFailure clauses encoded.fresh lines

  not_both : (k : ℕ) (c : Cause) → Fails (Some (k, c)) → Fails None → ⊥
  not_both k c f g = some_none (k, c) (first_once clauses encoded.fresh lines (Some (k, c)) None f g)

  same_failure : (j k : ℕ) (c d : Cause) → Fails (Some (j, c)) → Fails (Some (k, d)) → WrongLine j c ≡ WrongLine k d
  same_failure j k c d f g = ap (λ (x : ℕ × Cause). WrongLine x.0 x.1) (some_same (j, c) (k, d) (first_once clauses encoded.fresh lines (Some (j, c)) (Some (k, d)) f g))

  pub certified_once : (a b : Certified) → IsCertified m clauses encoded certificate a → IsCertified m clauses encoded certificate b → a ≡ b
  certified_once _ _ (other_symbols n) (other_symbols o) = refl
  certified_once _ _ (other_symbols n) (wrong_line s f) = absurd (n s)
  certified_once _ _ (other_symbols n) (wrong_fact s f u) = absurd (n s)
  certified_once _ b (other_symbols n) (by_joins s f d x t) = absurd (n s)
  certified_once _ _ (wrong_line s f) (other_symbols n) = absurd (n s)
  certified_once _ _ (wrong_line {k = j} {cause = c} s f) (wrong_line {k = k} {cause = d} s' g) = same_failure j k c d f g
  certified_once _ _ (wrong_line {k = j} {cause = c} s f) (wrong_fact s' g u) = absurd (not_both j c f g)
  certified_once _ b (wrong_line {k = j} {cause = c} s f) (by_joins s' g d x t) = absurd (not_both j c f g)
  certified_once _ _ (wrong_fact s f u) (other_symbols n) = absurd (n s)
  certified_once _ _ (wrong_fact s f u) (wrong_line {k = k} {cause = c} s' g) = absurd (not_both k c g f)
  certified_once _ _ (wrong_fact {k = j} s f u) (wrong_fact {k = k} s' g v) = ap WrongFact (underived_once certificate.facts lines facts j k u v)
  certified_once _ b (wrong_fact {k = j} s f u) (by_joins s' g d x t) = absurd (none_underived certificate.facts lines facts j u d)
  certified_once a _ (by_joins s f d x t) (other_symbols n) = absurd (n s)
  certified_once a _ (by_joins s f d x t) (wrong_line {k = k} {cause = c} s' g) = absurd (not_both k c g f)
  certified_once a _ (by_joins s f d x t) (wrong_fact {k = k} s' g v) = absurd (none_underived certificate.facts lines facts k v d)
  certified_once a b (by_joins {members = p} s f d x t) (by_joins {members = q} s' f' d' x' t') =
      let same : q ≡ p = expected_once m.greater facts encoded.axioms q p x' x in
      tested_once m facts encoded.axioms p certificate.joins 0 a b t (subst (λ (l : List Member). AreTested m facts encoded.axioms l certificate.joins 0 b) same t')
