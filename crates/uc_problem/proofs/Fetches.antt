-- What is fetched.
use Rattle.std.proofs.Common.{◌∷◌, ◌<◌, length, drop, get_or, add-one, drop-cons, ◌≡◌, ℕ, ◌+◌, ◌≤◌, List, Bool, true, false, Option, Some, None, Ok, refl, sym, ap, ◌∙◌, subst, arith}
use Rattle.std.specs.Str.{IsUtf8, is_utf8}
use Rattle.std.proofs.lemmas.Str.{IsUtf8-from_is_utf8, is_utf8-from_IsUtf8}
use Rattle.uc_edge.specs.Files.{Files, IsFetched}
use Rattle.uc_edge.specs.Faults.{Rose}
use Rattle.uc_edge.specs.declared.library.Fetched.TheVariants.{Found}
use Rattle.uc_problem.specs.declared.fault.LoadFault.{LoadFault}
use Rattle.uc_problem.specs.declared.fault.LoadFault.TheVariants.{Absent, ReadFault, TooDeep, NoSuchName, ArityClash, Limit, Clause, NoMemory}
use Rattle.uc_problem.specs.Loading.{held_or, first_held, IsTried, is_next, comes_later}
use Rattle.uc_problem.specs.Fetching.{IsAnswer, IsFirst, IsFetchFault, IsTriedFault}

not_utf8 : (name : List ℕ) → (IsUtf8 name → ⊥) → is_utf8 name ≡ false
not_utf8 name isnt = go (is_utf8 name) refl
  where
    go : (b : Bool) → is_utf8 name ≡ b → is_utf8 name ≡ false
    go true e = absurd (isnt (IsUtf8-from_is_utf8 name e))
    go false e = e

pub no_text : (holds : Option Files) (before now : ℕ) (name : List ℕ) → (IsUtf8 name → ⊥) → IsAnswer holds before now name (Ok None)
no_text None before now name isnt = tt
no_text (Some files) before now name isnt = rw (not_utf8 name isnt) refl

pub found_text : (holds : Option Files) (before now : ℕ) (name text bytes : List ℕ) → text ≡ name → IsUtf8 name → IsFetched holds text 16777217 (Found bytes) → IsAnswer holds before now name (Ok (Some bytes))
found_text None before now name text bytes e utf h = tt
found_text (Some files) before now name text bytes e utf h = (h.0, rw (is_utf8-from_IsUtf8 name utf) (rw e at h.1), h.2)

pub later_rose : (first before now : ℕ) → first ≤ before → Rose before now → Rose first now
later_rose first before now h r = omega arith

-- none of the names that were passed is held
abbrev pub Passed : Option Files → List (List ℕ) → List (List ℕ) → Type 0
Passed None names rest = Unit {0}
Passed (Some files) names rest = (first_held files names ≡ first_held files rest) × ((file : List ℕ) → IsTried files file rest → IsTried files file names)

rest_at : (names : List (List ℕ)) (i : ℕ) (name d : List ℕ) → i < length names → name ≡ get_or names i d → drop i names ≡ name ∷ drop (i + 1) names
rest_at names i name d h e = rw (e, add-one, drop-cons names i d) refl

module _ (names : List (List ℕ)) (i : ℕ) (name d : List ℕ) (h : i < length names) (e : name ≡ get_or names i d) where
  passed_at : (holds : Option Files) → Passed holds names (drop i names) → Passed holds names (name ∷ drop (i + 1) names)
  passed_at holds p = subst (Passed holds names) (rest_at names i name d h e) p

  -- one name more is passed
  passed_by : (holds : Option Files) (before now : ℕ) → Passed holds names (name ∷ drop (i + 1) names) → IsAnswer holds before now name (Ok None) → Passed holds names (drop (i + 1) names)
  passed_by None before now p a = tt
  passed_by (Some files) before now p a = (p.0 ∙ ap (λ answer. held_or name answer (first_held files (drop (i + 1) names))) a, λ file t. p.1 file (comes_later a t))

  pub one_passed : (holds : Option Files) (before now : ℕ) → Passed holds names (drop i names) → IsAnswer holds before now name (Ok None) → Passed holds names (drop (i + 1) names)
  one_passed holds before now p a = passed_by holds before now (passed_at holds p) a

  found_here : (holds : Option Files) (first before now : ℕ) (bytes copied : List ℕ) → Passed holds names (name ∷ drop (i + 1) names) → IsAnswer holds before now name (Ok (Some bytes)) → copied ≡ name → IsFirst holds first now names (Ok (Some (record { name = copied; bytes = bytes })))
  found_here None first before now bytes copied p a q = tt
  found_here (Some files) first before now bytes copied p a q =
      let found : first_held files (name ∷ drop (i + 1) names) ≡ Some (name, a.0) = ap (λ answer. held_or name answer (first_held files (drop (i + 1) names))) a.1 in
      (a.0, p.0 ∙ found ∙ ap (λ (n : List ℕ). Some (n, a.0)) (sym q), a.2)

  pub passed_here : (holds : Option Files) (first before now : ℕ) (bytes copied : List ℕ) → Passed holds names (drop i names) → IsAnswer holds before now name (Ok (Some bytes)) → copied ≡ name → IsFirst holds first now names (Ok (Some (record { name = copied; bytes = bytes })))
  passed_here holds first before now bytes copied p a q = found_here holds first before now bytes copied (passed_at holds p) a q

  -- the fetch of the name that comes next fails
  tried_here : (holds : Option Files) (first before now : ℕ) → first ≤ before → Passed holds names (name ∷ drop (i + 1) names) → Rose before now → IsTriedFault holds first now names (ReadFault name)
  tried_here None first before now le p r = (later_rose first before now le r, tt)
  tried_here (Some files) first before now le p r = (later_rose first before now le r, p.1 name is_next)

  pub failed_here : (holds : Option Files) (first before now : ℕ) (why : LoadFault) → first ≤ before → Passed holds names (drop i names) → IsFetchFault before now name why → IsTriedFault holds first now names why
  failed_here holds first before now (ReadFault file) le p f = subst (λ (n : List ℕ). IsTriedFault holds first now names (ReadFault n)) (sym f.1) (tried_here holds first before now le (passed_at holds p) f.0)
  failed_here holds first before now NoMemory le p f = tt
  failed_here holds first before now (Absent file from) le p f = absurd f
  failed_here holds first before now (TooDeep file place) le p f = absurd f
  failed_here holds first before now (NoSuchName file place n) le p f = absurd f
  failed_here holds first before now (ArityClash file place n one two) le p f = absurd f
  failed_here holds first before now (Limit file place what) le p f = absurd f
  failed_here holds first before now (Clause file fault) le p f = absurd f
