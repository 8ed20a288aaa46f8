-- One more name than there are symbols: one of them is free.
use Rattle.std.proofs.Common.{◌≡◌, ℕ, zero, suc, ◌+◌, ◌<◌, ◌^◌, Bool, true, false, List, [], ◌∷◌, ◌++◌, length, length-append, codes, decimal, bytes_eq, None, Some, if◌then◌else◌, refl, sym, ap, ◌∙◌, arith}
use Rattle.std.specs.Cmp.Lexicographic.{bytes_decides}
use Rattle.std.proofs.lemmas.Fmt.{decimal_injective}
use Rattle.std.proofs.lemmas.List.{append_cancel_left}
use Rattle.indexmap.proofs.IndexTableLemmas.Probe.{pigeonhole}
use Rattle.uc_term.specs.declared.node.Sym.{Sym}
use Rattle.uc_term.specs.Table.{Table, name_of}
use Rattle.uc_term.specs.Signatures.{first_named, tried_name, IsFree}

-- different numbers are of different names
tried_injective : (word : List ℕ) (m n : ℕ) → m + 1 < 2 ^ 64 → n + 1 < 2 ^ 64 → tried_name word m ≡ tried_name word n → m ≡ n
tried_injective word zero zero p q e = refl
tried_injective word zero (suc n) p q e = absurd (omega (arith, ap length e, length-append (word ++ codes "_") (decimal (n + 1)), length-append word (codes "_")))
tried_injective word (suc m) zero p q e = absurd (omega (arith, ap length e, length-append (word ++ codes "_") (decimal (m + 1)), length-append word (codes "_")))
tried_injective word (suc m) (suc n) p q e = let same = decimal_injective (m + 1) (n + 1) (omega (arith, p)) (omega (arith, q)) (append_cancel_left (word ++ codes "_") (decimal (m + 1)) (decimal (n + 1)) e) in omega arith

module _ (table : Table) where
  -- how many symbols stand before the first of this name
  abbrev place_named : List ℕ → List Sym → ℕ
  place_named name [] = 0
  place_named name (f ∷ fs) = if bytes_eq (name_of table f) name then 0 else suc (place_named name fs)

  place_within : (name : List ℕ) (fs : List Sym) → (IsFree table fs name → ⊥) → place_named name fs < length fs
  place_within name [] n = absurd (n refl)
  place_within name (f ∷ fs) n = go (bytes_eq (name_of table f) name) n (place_within name fs)
    where
      go : (b : Bool) → ((if b then Some f else first_named table name fs) ≡ None → ⊥) → ((IsFree table fs name → ⊥) → place_named name fs < length fs) → (if b then 0 else suc (place_named name fs)) < length (f ∷ fs)
      go true n later = omega arith
      go false n later = omega (arith, later n)

  one_place : (name other : List ℕ) (fs : List Sym) → place_named name fs < length fs → place_named name fs ≡ place_named other fs → name ≡ other
  one_place name other [] p e = absurd (omega arith)
  one_place name other (f ∷ fs) p e = go (bytes_eq (name_of table f) name) (bytes_eq (name_of table f) other) refl refl (one_place name other fs) p e
    where
      go : (b c : Bool) → bytes_eq (name_of table f) name ≡ b → bytes_eq (name_of table f) other ≡ c → (place_named name fs < length fs → place_named name fs ≡ place_named other fs → name ≡ other) → (if b then 0 else suc (place_named name fs)) < length (f ∷ fs) → (if b then 0 else suc (place_named name fs)) ≡ (if c then 0 else suc (place_named other fs)) → name ≡ other
      go true true s t later p e = sym ((bytes_decides (name_of table f) name).0 s) ∙ (bytes_decides (name_of table f) other).0 t
      go true false s t later p e = absurd (omega arith)
      go false true s t later p e = absurd (omega arith)
      go false false s t later p e = later (omega arith) (omega arith)

  -- not all of so many names are taken
  pub some_is_free : (fs : List Sym) (word : List ℕ) → length fs + 1 < 2 ^ 64 → ((n : ℕ) → n < length fs + 1 → IsFree table fs (tried_name word n) → ⊥) → ⊥
  some_is_free fs word few taken =
      let f : ℕ → ℕ = λ n. place_named (tried_name word n) fs in
      let small = pigeonhole (length fs + 1) (length fs) f (λ n p. place_within (tried_name word n) fs (taken n p)) (λ m n p q e. tried_injective word m n (omega arith) (omega arith) (one_place (tried_name word m) (tried_name word n) fs (place_within (tried_name word m) fs (taken m p)) e)) in
      absurd (omega arith)
