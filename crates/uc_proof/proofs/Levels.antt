-- The parts of a proof stand in the order of their levels: so what has a lower level stands earlier.
use Rattle.std.proofs.Common.{◌≡◌, ℕ, zero, suc, ◌+◌, ◌<◌, ◌≤◌, List, [], ◌∷◌, ◌++◌, map, slice_get, Option, Some, refl, sym, ap, subst, arith}
use Rattle.uc_problem.specs.declared.problem.Source.{Source}
use Rattle.uc_problem.specs.declared.problem.Source.TheVariants as source
use Rattle.uc_proof.specs.declared.part.Part.{Part}
use Rattle.uc_proof.specs.declared.part.Part.TheVariants as part
use Rattle.uc_proof.specs.Parts.{is_clause, is_encoding, axioms_where, facts_from, Selects, selects_none, selects, passes}

abbrev pub source_level : Option Source → ℕ
source_level (Some (source.Clause c)) = 0
source_level other = 2

module _ (sources : List Source) (count : ℕ) where
  abbrev pub level : Part → ℕ
  level (part.Axiom k) = source_level (slice_get sources k)
  level (part.Denial c) = 1
  level (part.Fact n) = 3 + n
  level part.Conclusion = 3 + count
  level part.Refutation = 4 + count

  -- no part stands behind one of a higher level, and none is below the first one
  abbrev pub Ascends : ℕ → List Part → Type 0
  Ascends m [] = Unit {0}
  Ascends m (p ∷ ps) = (m ≤ level p) × Ascends (level p) ps

  weaker : (m n : ℕ) (ps : List Part) → m ≤ n → Ascends n ps → Ascends m ps
  weaker m n [] h a = tt
  weaker m n (p ∷ ps) h a = (let l = a.0 in omega arith, a.1)

  pub at_least : (m : ℕ) (ps : List Part) (i : ℕ) (p : Part) → Ascends m ps → slice_get ps i ≡ Some p → m ≤ level p
  at_least m [] i p a e = absurd cc
  at_least m (q ∷ ps) zero p a e = let same : q ≡ p = cc in subst (λ (r : Part). m ≤ level r) same a.0
  at_least m (q ∷ ps) (suc i) p a e = let l = a.0 in let h = at_least (level q) ps i p a.1 e in omega arith

  -- what has a lower level stands earlier
  pub lower_earlier : (m : ℕ) (ps : List Part) (i k : ℕ) (p q : Part) → Ascends m ps → slice_get ps i ≡ Some p → slice_get ps k ≡ Some q → level p < level q → i < k
  lower_earlier m [] i k p q a e f h = absurd cc
  lower_earlier m (r ∷ ps) zero zero p q a e f h = let same : p ≡ q = cc in absurd (omega (arith, ap level same))
  lower_earlier m (r ∷ ps) zero (suc k) p q a e f h = omega arith
  lower_earlier m (r ∷ ps) (suc i) zero p q a e f h = let same : r ≡ q = cc in let l = at_least (level r) ps i p a.1 e in absurd (omega (arith, ap level same))
  lower_earlier m (r ∷ ps) (suc i) (suc k) p q a e f h = let l = lower_earlier (level r) ps i k p q a.1 e f h in omega arith

  pub selected_ascend : (Is : Part → Type 0) (m : ℕ) (ps qs : List Part) → Selects Is ps qs → Ascends m ps → Ascends m qs
  selected_ascend Is m _ _ selects_none a = tt
  selected_ascend Is m (p ∷ ps) (_ ∷ qs) (selects h s) a = (a.0, selected_ascend Is (level p) ps qs s a.1)
  selected_ascend Is m (p ∷ ps) qs (passes h s) a = selected_ascend Is m ps qs s (weaker m (level p) ps a.0 a.1)

  -- parts of one level
  abbrev AllAt : ℕ → List Part → Type 0
  AllAt v [] = Unit {0}
  AllAt v (p ∷ ps) = (level p ≡ v) × AllAt v ps

  flat_ascend : (v : ℕ) (ps rest : List Part) → AllAt v ps → Ascends v rest → Ascends v (ps ++ rest)
  flat_ascend v [] rest h a = a
  flat_ascend v (p ∷ ps) rest h a = (let e = h.0 in omega arith, subst (λ (n : ℕ). Ascends n (ps ++ rest)) (sym h.0) (flat_ascend v ps rest h.1 a))

  abbrev Stand : ℕ → List Source → Type 0
  Stand n ss = (j : ℕ) (s : Source) → slice_get ss j ≡ Some s → slice_get sources (n + j) ≡ Some s

  stand_here : (n : ℕ) (s : Source) (ss : List Source) → Stand n (s ∷ ss) → slice_get sources n ≡ Some s
  stand_here n s ss h = let q : n + 0 ≡ n = omega arith in subst (λ (k : ℕ). slice_get sources k ≡ Some s) q (h 0 s refl)

  stand_later : (n : ℕ) (s : Source) (ss : List Source) → Stand n (s ∷ ss) → Stand (n + 1) ss
  stand_later n s ss h j x e = let q : n + suc j ≡ n + 1 + j = omega arith in subst (λ (k : ℕ). slice_get sources k ≡ Some x) q (h (suc j) x e)

  clauses_first : (n : ℕ) (ss : List Source) → Stand n ss → AllAt 0 (axioms_where is_clause n ss)
  clauses_first n [] h = tt
  clauses_first n (source.Clause c ∷ ss) h = (ap source_level (stand_here n (source.Clause c) ss h), clauses_first (n + 1) ss (stand_later n (source.Clause c) ss h))
  clauses_first n (source.Reflexive ∷ ss) h = clauses_first (n + 1) ss (stand_later n source.Reflexive ss h)
  clauses_first n (source.Goal c ∷ ss) h = clauses_first (n + 1) ss (stand_later n (source.Goal c) ss h)

  encodings_third : (n : ℕ) (ss : List Source) → Stand n ss → AllAt 2 (axioms_where is_encoding n ss)
  encodings_third n [] h = tt
  encodings_third n (source.Clause c ∷ ss) h = encodings_third (n + 1) ss (stand_later n (source.Clause c) ss h)
  encodings_third n (source.Reflexive ∷ ss) h = (ap source_level (stand_here n source.Reflexive ss h), encodings_third (n + 1) ss (stand_later n source.Reflexive ss h))
  encodings_third n (source.Goal c ∷ ss) h = (ap source_level (stand_here n (source.Goal c) ss h), encodings_third (n + 1) ss (stand_later n (source.Goal c) ss h))

  denials_second : (cs : List ℕ) → AllAt 1 (map part.Denial cs)
  denials_second [] = tt
  denials_second (c ∷ cs) = (refl, denials_second cs)

  facts_ascend : (n many : ℕ) (rest : List Part) → Ascends (3 + (n + many)) rest → Ascends (3 + n) (facts_from n many ++ rest)
  facts_ascend n zero rest a = weaker (3 + n) (3 + (n + 0)) rest (omega arith) a
  facts_ascend n (suc many) rest a =
      let q : 3 + (n + suc many) ≡ 3 + (n + 1 + many) = omega arith in
      (omega arith, weaker (3 + n) (3 + (n + 1)) (facts_from (n + 1) many ++ rest) (omega arith) (facts_ascend (n + 1) many rest (subst (λ (k : ℕ). Ascends k rest) q a)))

  pub parts_ascend : (cs : List ℕ) → Ascends 0 (axioms_where is_clause 0 sources ++ (map part.Denial cs ++ (axioms_where is_encoding 0 sources ++ (facts_from 0 count ++ part.Conclusion ∷ part.Refutation ∷ []))))
  parts_ascend cs =
      let all : Stand 0 sources = λ j s e. let q : 0 + j ≡ j = omega arith in subst (λ (k : ℕ). slice_get sources k ≡ Some s) (sym q) e in
      let ends = part.Conclusion ∷ part.Refutation ∷ [] in
      let facts = facts_from 0 count ++ ends in
      let encodings = axioms_where is_encoding 0 sources ++ facts in
      let denials = map part.Denial cs ++ encodings in
      let at_end : Ascends (3 + (0 + count)) ends = (omega arith, (omega arith, tt)) in
      let f : Ascends 2 facts = weaker 2 3 facts (omega arith) (facts_ascend 0 count ends at_end) in
      let e : Ascends 1 encodings = weaker 1 2 encodings (omega arith) (flat_ascend 2 (axioms_where is_encoding 0 sources) facts (encodings_third 0 sources all) f) in
      let d : Ascends 0 denials = weaker 0 1 denials (omega arith) (flat_ascend 1 (map part.Denial cs) encodings (denials_second cs) e) in
      flat_ascend 0 (axioms_where is_clause 0 sources) denials (clauses_first 0 sources all) d
