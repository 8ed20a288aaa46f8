-- Values in a line, read from its front.
use Rattle.std.proofs.Common.{◌≡◌, ℕ, ◌+◌, ◌-◌, ◌<◌, ◌==◌, ◌&&◌, Bool, true, false, List, [], ◌∷◌, ◌++◌, length, get_or, drop, Option, Some, None, if◌then◌else◌, refl, sym, ap, ◌∙◌, subst, arith, append_assoc}
use Rattle.std.proofs.lemmas.Bool.{eqb-true}
use Rattle.std.proofs.lemmas.List.{drop_more}
use Rattle.uc_table.specs.Reading.{is_value, with_value, values_of, checked_count, row_of}

-- values with those in front of them
abbrev pub behind : List ℕ → Option (List ℕ) → Option (List ℕ)
behind vs (Some ws) = Some (vs ++ ws)
behind vs None = None

module _ (size : ℕ) where
  two_more : (b c : ℕ) (bs : List ℕ) (t : Bool) → (is_value size b && (c == 32)) ≡ t → values_of size (b ∷ c ∷ bs) ≡ (if t then with_value size b (values_of size bs) else None)
  two_more b c bs t e = rw e refl

  cut_two : (line : List ℕ) (at : ℕ) → at + 1 < length line → drop at line ≡ get_or line at 0 ∷ get_or line (at + 1) 0 ∷ drop (at + 2) line
  cut_two line at h =
      let one : drop at line ≡ get_or line at 0 ∷ drop (at + 1) line = drop_more line at 0 (omega arith) in
      let two : drop (at + 1) line ≡ get_or line (at + 1) 0 ∷ drop (at + 1 + 1) line = drop_more line (at + 1) 0 h in
      let sum : at + 1 + 1 ≡ at + 2 = omega arith in
      one ∙ ap (λ bs. get_or line at 0 ∷ bs) (two ∙ ap (λ n. get_or line (at + 1) 0 ∷ drop n line) sum)

  behind_with : (vs : List ℕ) (b : ℕ) (o : Option (List ℕ)) → behind vs (with_value size b o) ≡ behind (vs ++ (b - 48) ∷ []) o
  behind_with vs b (Some ws) = ap Some (sym (append_assoc vs ((b - 48) ∷ []) ws))
  behind_with vs b None = refl

  pub no_value_here : (line vs : List ℕ) (at : ℕ) → at + 1 < length line → (is_value size (get_or line at 0) && (get_or line (at + 1) 0 == 32)) ≡ false → behind vs (values_of size (drop at line)) ≡ values_of size line → None ≡ values_of size line
  no_value_here line vs at h t e =
      let n : values_of size (drop at line) ≡ None = ap (values_of size) (cut_two line at h) ∙ two_more (get_or line at 0) (get_or line (at + 1) 0) (drop (at + 2) line) false t in
      sym (ap (behind vs) n) ∙ e

  pub value_here : (line vs : List ℕ) (at : ℕ) → at + 1 < length line → (is_value size (get_or line at 0) && (get_or line (at + 1) 0 == 32)) ≡ true → behind vs (values_of size (drop at line)) ≡ values_of size line → behind (vs ++ (get_or line at 0 - 48) ∷ []) (values_of size (drop (at + 2) line)) ≡ values_of size line
  value_here line vs at h t e =
      let n : values_of size (drop at line) ≡ with_value size (get_or line at 0) (values_of size (drop (at + 2) line)) = ap (values_of size) (cut_two line at h) ∙ two_more (get_or line at 0) (get_or line (at + 1) 0) (drop (at + 2) line) true t in
      sym (behind_with vs (get_or line at 0) (values_of size (drop (at + 2) line))) ∙ sym (ap (behind vs) n) ∙ e

-- a row has as many values as it has to
pub row_long : (size count : ℕ) (line row : List ℕ) → row_of size count line ≡ Some row → length row ≡ count
row_long size count line row e = go (values_of size line) e
  where
    by_test : (vs : List ℕ) (t : Bool) → (length vs == count) ≡ t → (if t then Some vs else None) ≡ Some row → length row ≡ count
    by_test vs true q e = let same : vs ≡ row = cc in subst (λ (xs : List ℕ). length xs ≡ count) same (eqb-true (length vs) count q)
    by_test vs false q e = absurd cc

    go : (o : Option (List ℕ)) → checked_count size count o ≡ Some row → length row ≡ count
    go (Some vs) e = by_test vs (length vs == count) refl e
    go None e = absurd cc
