-- Lists of names, as a set of vectors holds them.
use Rattle.std.proofs.Common.{◌≡◌, ℕ, ◌+◌, List, [], ◌∷◌, ◌++◌, Bool, true, false, Some, None, refl, sym, ap, subst, ◌∙◌, ◌⊎◌, inl, inr}
use Rattle.std.specs.Prelude.{slice_get, ◌==◌, bytes_eq, cond, if◌then◌else◌, Vec}
use Rattle.std.specs.List.{list_any, position, position_from}
use Rattle.std.specs.declared.alloc.Global.{Global}
use Rattle.std.specs.Cmp.Lexicographic.{pointwise, bytes_decides}
use Rattle.std.proofs.lemmas.Iterator.Adapters.{position_from-zero}
use Rattle.std.proofs.lemmas.List.{map-append}
use Rattle.uc_term.specs.Keys.{names_of, AreDifferent}
use Rattle.uc_term.proofs.Finds.{any_none, position_at, position_none, differ_push}
use Rattle.uc_term.proofs.Gets.{get-map, map-get}

module _ (name : List ℕ) where
  places_from : (n : ℕ) (ks : List (Vec ℕ Global)) → position_from (λ k. bytes_eq name k.items) n ks ≡ position_from (bytes_eq name) n (names_of ks)
  places_from n [] = refl
  places_from n (k ∷ ks) = ap (cond (bytes_eq name k.items) (Some n)) (places_from (n + 1) ks)

  -- the place of a name among vectors is that among the names
  pub place_in_names : (ks : List (Vec ℕ Global)) → position (λ k. bytes_eq name k.items) ks ≡ position (bytes_eq name) (names_of ks)
  place_in_names ks = position_from-zero (λ k. bytes_eq name k.items) ks ∙ places_from 0 ks ∙ sym (position_from-zero (bytes_eq name) (names_of ks))

  pub name_found : (names : List (List ℕ)) (i : ℕ) → position (bytes_eq name) names ≡ Some i → slice_get names i ≡ Some name
  name_found names i e = let p = position_at (bytes_eq name) names i e in p.1 ∙ ap Some (sym ((bytes_decides name p.0).0 p.2))

  pub name_missing : (names : List (List ℕ)) → position (bytes_eq name) names ≡ None → (i : ℕ) → slice_get names i ≡ Some name → ⊥
  name_missing names e i at = position_none (bytes_eq name) names e i name at ((bytes_decides name name).1 refl)

abbrev pub same : Vec ℕ Global → Vec ℕ Global → Bool
same a b = pointwise (λ x y. x == y) a.items b.items

-- what a name's insertion makes of them
module _ (ks new : List (Vec ℕ Global)) (k : Vec ℕ Global) where
  abbrev pub Inserted : Type 0
  Inserted = new ≡ (if list_any (same k) ks then ks else ks ++ k ∷ [])

  pub names_insert : Inserted → (names_of new ≡ names_of ks) ⊎ (names_of new ≡ names_of ks ++ k.items ∷ [])
  names_insert e = go (list_any (same k) ks) e
    where
      go : (b : Bool) → new ≡ (if b then ks else ks ++ k ∷ []) → (names_of new ≡ names_of ks) ⊎ (names_of new ≡ names_of ks ++ k.items ∷ [])
      go true e = inl (ap names_of e)
      go false e = inr (ap names_of e ∙ map-append (λ (name : Vec ℕ Global). name.items) ks (k ∷ []))

  absent_name : list_any (same k) ks ≡ false → (i : ℕ) → slice_get (names_of ks) i ≡ Some k.items → ⊥
  absent_name e i at =
      let m = get-map (λ (name : Vec ℕ Global). name.items) ks i k.items at in
      any_none (same k) ks i m.0 e m.1 ((bytes_decides k.items (m.0).items).1 (sym m.2))

  pub different_insert : Inserted → AreDifferent (names_of ks) → AreDifferent (names_of new)
  different_insert e d = go (list_any (same k) ks) refl e
    where
      go : (b : Bool) → list_any (same k) ks ≡ b → new ≡ (if b then ks else ks ++ k ∷ []) → AreDifferent (names_of new)
      go true h e = subst (λ (l : List (Vec ℕ Global)). AreDifferent (names_of l)) (sym e) d
      go false h e = subst (λ (l : List (Vec ℕ Global)). AreDifferent (names_of l)) (sym e) (subst AreDifferent (sym (map-append (λ (name : Vec ℕ Global). name.items) ks (k ∷ []))) (differ_push (names_of ks) k.items d (absent_name h)))

  pub name_stored : (i : ℕ) (stored : Vec ℕ Global) → slice_get new i ≡ Some stored → same k stored ≡ true → slice_get (names_of new) i ≡ Some k.items
  name_stored i stored at like =
      map-get (λ (name : Vec ℕ Global). name.items) new i stored at ∙ ap Some (sym ((bytes_decides k.items stored.items).0 like))
