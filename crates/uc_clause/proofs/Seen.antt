-- Names of variables.
use Rattle.std.proofs.Common.{◌≡◌, ℕ, List, [], ◌∷◌, ◌++◌, Bool, true, false, refl, sym, ap, ◌∙◌, subst}
use Rattle.std.specs.Prelude.{map, Some, slice_get, ◌==◌, ◌||◌, bytes_eq, if◌then◌else◌, Vec}
use Rattle.std.specs.List.{list_any}
use Rattle.std.specs.declared.alloc.Global.{Global}
use Rattle.std.specs.Cmp.Lexicographic.{pointwise, bytes_decides}
use Rattle.std.specs.Option.{option_map}
use Rattle.std.proofs.lemmas.List.{map-append}
use Rattle.std.proofs.lemmas.Option.{slice_get-map}
use Rattle.uc_clause.specs.Distinct.{AreDistinct}
use Rattle.uc_clause.specs.Meaning.{Variables, with_name}
use Rattle.uc_clause.proofs.MeansOnce.{with_name_distinct}

abbrev pub names_of : List (Vec ℕ Global) → Variables
names_of keys = map (λ name. name.items) keys

abbrev pub same : Vec ℕ Global → Vec ℕ Global → Bool
same a b = pointwise (λ x y. x == y) a.items b.items

any_same : (k : Vec ℕ Global) (ks : List (Vec ℕ Global)) → list_any (same k) ks ≡ list_any (bytes_eq k.items) (names_of ks)
any_same k [] = refl
any_same k (x ∷ ks) = ap (λ b. same k x || b) (any_same k ks)

pub names_insert : (ks new : List (Vec ℕ Global)) (k : Vec ℕ Global) → new ≡ (if list_any (same k) ks then ks else ks ++ k ∷ []) → names_of new ≡ with_name (names_of ks) k.items
names_insert ks new k e = rw (e, ← any_same k ks) (go (list_any (same k) ks))
  where
    go : (b : Bool) → names_of (if b then ks else ks ++ k ∷ []) ≡ (if b then names_of ks else names_of ks ++ k.items ∷ [])
    go true = refl
    go false = map-append (λ (name : Vec ℕ Global). name.items) ks (k ∷ [])

pub name_stored : (new : List (Vec ℕ Global)) (i : ℕ) (stored k : Vec ℕ Global) → slice_get new i ≡ Some stored → same k stored ≡ true → slice_get (names_of new) i ≡ Some k.items
name_stored new i stored k at like =
    slice_get-map (λ (name : Vec ℕ Global). name.items) new i ∙ ap (option_map (λ (name : Vec ℕ Global). name.items)) at ∙ ap Some (sym ((bytes_decides k.items stored.items).0 like))

pub distinct_insert : (ks new : List (Vec ℕ Global)) (k : Vec ℕ Global) → new ≡ (if list_any (same k) ks then ks else ks ++ k ∷ []) → AreDistinct (names_of ks) → AreDistinct (names_of new)
distinct_insert ks new k e apart = subst AreDistinct (sym (names_insert ks new k e)) (with_name_distinct (names_of ks) k.items apart)
