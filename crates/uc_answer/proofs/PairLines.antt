-- The lines of the pairs of equations.
use Rattle.std.proofs.Common.{ℕ, zero, suc, ◌+◌, ◌≡◌, ◌<◌, ◌≤◌, List, [], ◌∷◌, ◌++◌, length, get_or, slice_get, Some, drop, sym, ap, ◌∙◌, subst, append_assoc}
use Rattle.std.proofs.lemmas.List.{drop_more, drop_all, append-nil}
use Rattle.std.proofs.lemmas.Grind.{flat_map-append}
use Rattle.std.proofs.lemmas.Option.{slice_get-get_or}
use Rattle.uc_term.specs.declared.equation.Equation.{Equation}
use Rattle.uc_term.specs.Table.{Table, IsOf}
use Rattle.uc_order.specs.Laws.{Meaning}
use Rattle.uc_pair.specs.declared.formed.Formed.{Formed}
use Rattle.uc_answer.specs.Lines.{joined}
use Rattle.uc_answer.specs.Axioms.{AreEquationsOf}
use Rattle.uc_answer.specs.PairLines.{IsPairLine, ArePairLines, no_overlap_left, one_overlap, ArePairsOf, AreInnerLines, no_inner_left, one_inner, AreOuterLines, no_outer_left, one_outer}
use Rattle.uc_answer.proofs.DirectedLines.{joined_one}

pub joined_more : (lines more : List (List ℕ)) → joined (lines ++ more) ≡ joined lines ++ joined more
joined_more lines more = flat_map-append (λ l. l) lines more

-- the element of a number
pub found_at : {X : Type 0} (xs : List X) (k : ℕ) (x : X) → k < length xs → x ≡ get_or xs k x → slice_get xs k ≡ Some x
found_at xs k x h at = slice_get-get_or xs k x h ∙ ap Some (sym at)

pub same_element : {X : Type 0} (xs : List X) (k l : ℕ) (x y : X) → slice_get xs k ≡ Some x → l < length xs → y ≡ get_or xs l y → k ≡ l → x ≡ y
same_element xs k l x y p h at e = let r : Some x ≡ Some y = sym p ∙ ap (slice_get xs) e ∙ found_at xs l y h at in cc

pub sides_found : (table : Table) (es : List Equation) (i : ℕ) (e : Equation) → slice_get es i ≡ Some e → AreEquationsOf table es → IsOf table e.left × IsOf table e.right
sides_found table [] i e q of = absurd cc
sides_found table (x ∷ xs) zero e q of = let same : x ≡ e = cc in subst (λ (k : Equation). IsOf table k.left × IsOf table k.right) same (of.0, of.1)
sides_found table (x ∷ xs) (suc i) e q of = sides_found table xs i e q of.2

module _ (table : Table) where
  module _ (a b : Equation) (all : List Formed) where
    -- behind these lines the lines of the overlaps that are left are the lines of all
    abbrev pub BegunPairs : ℕ → List (List ℕ) → Type 0
    BegunPairs number lines = (rest : List ℕ) → ArePairLines table a b (drop number all) rest → ArePairLines table a b all (joined lines ++ rest)

    pub one_more_pair : (number : ℕ) (lines : List (List ℕ)) (d formed : Formed) (line : List ℕ) → number < length all → formed ≡ get_or all number d → IsPairLine table a b formed.overlap line → BegunPairs number lines → BegunPairs (number + 1) (lines ++ line ∷ [])
    one_more_pair number lines d formed line h at is begun rest p =
        let here : drop number all ≡ formed ∷ drop (number + 1) all = drop_more all number d h ∙ ap (λ k. k ∷ drop (number + 1) all) (sym at) in
        let next : ArePairLines table a b (drop number all) (line ++ rest) = subst (λ fs. ArePairLines table a b fs (line ++ rest)) (sym here) (one_overlap is p) in
        let texts : joined (lines ++ line ∷ []) ++ rest ≡ joined lines ++ (line ++ rest) = ap (λ t. t ++ rest) (joined_one lines line) ∙ append_assoc (joined lines) line rest in
        subst (ArePairLines table a b all) (sym texts) (begun (line ++ rest) next)

    pub all_pairs_told : (number : ℕ) (lines : List (List ℕ)) → length all ≤ number → BegunPairs number lines → ArePairLines table a b all (joined lines)
    all_pairs_told number lines h begun = subst (ArePairLines table a b all) (append-nil (joined lines)) (begun [] (subst (λ fs. ArePairLines table a b fs []) (sym (drop_all number all h)) no_overlap_left))

  module _ (m : Meaning) where
    module _ (i : ℕ) (a : Equation) (all : List Equation) where
      -- behind these lines the lines with the inner equations that are left are the lines with all
      abbrev pub BegunInner : ℕ → List (List ℕ) → Type 0
      BegunInner number lines = (rest : List ℕ) → AreInnerLines table m i a number (drop number all) rest → AreInnerLines table m i a 0 all (joined lines ++ rest)

      pub one_more_inner : (number : ℕ) (lines more : List (List ℕ)) (b : Equation) → number < length all → b ≡ get_or all number b → ArePairsOf table m i a number b (joined more) → BegunInner number lines → BegunInner (number + 1) (lines ++ more)
      one_more_inner number lines more b h at are begun rest d =
          let here : drop number all ≡ b ∷ drop (number + 1) all = drop_more all number b h ∙ ap (λ k. k ∷ drop (number + 1) all) (sym at) in
          let next : AreInnerLines table m i a number (drop number all) (joined more ++ rest) = subst (λ es. AreInnerLines table m i a number es (joined more ++ rest)) (sym here) (one_inner are d) in
          let texts : joined (lines ++ more) ++ rest ≡ joined lines ++ (joined more ++ rest) = ap (λ t. t ++ rest) (joined_more lines more) ∙ append_assoc (joined lines) (joined more) rest in
          subst (AreInnerLines table m i a 0 all) (sym texts) (begun (joined more ++ rest) next)

      pub all_inner_told : (number : ℕ) (lines : List (List ℕ)) → length all ≤ number → BegunInner number lines → AreInnerLines table m i a 0 all (joined lines)
      all_inner_told number lines h begun = subst (AreInnerLines table m i a 0 all) (append-nil (joined lines)) (begun [] (subst (λ es. AreInnerLines table m i a number es []) (sym (drop_all number all h)) no_inner_left))

    module _ (all : List Equation) where
      -- behind these lines the lines of the outer equations that are left are the lines of all
      abbrev pub BegunOuter : ℕ → List (List ℕ) → Type 0
      BegunOuter number lines = (rest : List ℕ) → AreOuterLines table m all number (drop number all) rest → AreOuterLines table m all 0 all (joined lines ++ rest)

      pub one_more_outer : (number : ℕ) (lines more : List (List ℕ)) (a : Equation) → number < length all → a ≡ get_or all number a → AreInnerLines table m number a 0 all (joined more) → BegunOuter number lines → BegunOuter (number + 1) (lines ++ more)
      one_more_outer number lines more a h at are begun rest d =
          let here : drop number all ≡ a ∷ drop (number + 1) all = drop_more all number a h ∙ ap (λ k. k ∷ drop (number + 1) all) (sym at) in
          let next : AreOuterLines table m all number (drop number all) (joined more ++ rest) = subst (λ es. AreOuterLines table m all number es (joined more ++ rest)) (sym here) (one_outer are d) in
          let texts : joined (lines ++ more) ++ rest ≡ joined lines ++ (joined more ++ rest) = ap (λ t. t ++ rest) (joined_more lines more) ∙ append_assoc (joined lines) (joined more) rest in
          subst (AreOuterLines table m all 0 all) (sym texts) (begun (joined more ++ rest) next)

      pub all_outer_told : (number : ℕ) (lines : List (List ℕ)) → length all ≤ number → BegunOuter number lines → AreOuterLines table m all 0 all (joined lines)
      all_outer_told number lines h begun = subst (AreOuterLines table m all 0 all) (append-nil (joined lines)) (begun [] (subst (λ es. AreOuterLines table m all number es []) (sym (drop_all number all h)) no_outer_left))
