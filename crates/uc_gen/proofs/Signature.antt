-- The function and the constants are the signature of terms in which they occur in this order.
use Rattle.std.proofs.Common.{◌≡◌, ℕ, zero, suc, ◌+◌, ◌≤◌, ◌==◌, Bool, true, false, List, [], ◌∷◌, ◌++◌, length, map, slice_get, unwrap_or, bytes_eq, Some, None, Ok, if◌then◌else◌, refl, sym, ap, ◌∙◌, subst, arith, append-nil}
use Rattle.std.specs.Cmp.Lexicographic.{bytes_decides}
use Rattle.std.proofs.lemmas.List.{length-append, append_assoc}
use Rattle.std.proofs.lemmas.Option.{slice_get_within}
use Rattle.uc_term.specs.declared.node.Sym.{Sym}
use Rattle.uc_term.specs.Tree.{Tree, app, none, more}
use Rattle.uc_term.specs.Table.{Table, Entry, IsSymbol, Has, IsOf, name_of, arity_of}
use Rattle.uc_term.specs.Gathering.{AreOf}
use Rattle.uc_term.specs.Signatures.{Gathers, all_seen, is_new, occurrences_from, first_named, first_constant, has_constant}
use Rattle.uc_ordering.specs.Premises.{IsSignature}
use Rattle.uc_gen.specs.Generated.{function_name, constant_name, AreConstants, signature_of}
use Rattle.uc_gen.proofs.Names.{constant_named, not_function}

abbrev constant : Sym → Tree
constant c = app c none

module _ (table : Table) where
  named : (f : Sym) (name : List ℕ) (arity : ℕ) → IsSymbol table f name arity → name_of table f ≡ name
  named f name arity s = ap (λ o. (unwrap_or o (let e : Entry = record { name = []; arity = 0 } in e)).name) s

  pub arity_is : (f : Sym) (name : List ℕ) (arity : ℕ) → IsSymbol table f name arity → arity_of table f ≡ arity
  arity_is f name arity s = ap (λ o. (unwrap_or o (let e : Entry = record { name = []; arity = 0 } in e)).arity) s

  has : (f : Sym) (name : List ℕ) (arity : ℕ) → IsSymbol table f name arity → Has table f
  has f name arity s = slice_get_within table f.0 (record { name = name; arity = arity }) s

  -- no symbol among these has the name
  not_named : (name : List ℕ) (seen : List Sym) → ((i : ℕ) (g : Sym) → slice_get seen i ≡ Some g → name_of table g ≡ name → ⊥) → first_named table name seen ≡ None
  not_named name [] h = refl
  not_named name (g ∷ gs) h = go (bytes_eq (name_of table g) name) refl (not_named name gs (λ i. h (suc i)))
    where
      go : (b : Bool) → bytes_eq (name_of table g) name ≡ b → first_named table name gs ≡ None → (if b then Some g else first_named table name gs) ≡ None
      go true e later = absurd (h 0 g refl ((bytes_decides (name_of table g) name).0 e))
      go false e later = later

  -- symbols of different names
  abbrev AreApart : List Sym → Type 0
  AreApart fs = (i j : ℕ) (g h : Sym) → slice_get fs i ≡ Some g → slice_get fs j ≡ Some h → name_of table g ≡ name_of table h → i ≡ j

  earlier : (seen rest : List Sym) (c : Sym) → AreApart (seen ++ c ∷ rest) → (i : ℕ) (g : Sym) → slice_get seen i ≡ Some g → name_of table g ≡ name_of table c → ⊥
  earlier seen rest c apart i g at e =
      let here : i ≡ length seen = apart i (length seen) g c (left seen i at) (middle seen) e in
      omega (arith, slice_get_within seen i g at)
    where
      left : (xs : List Sym) (i : ℕ) → slice_get xs i ≡ Some g → slice_get (xs ++ c ∷ rest) i ≡ Some g
      left [] i at = absurd cc
      left (x ∷ xs) zero at = at
      left (x ∷ xs) (suc i) at = left xs i at

      middle : (xs : List Sym) → slice_get (xs ++ c ∷ rest) (length xs) ≡ Some c
      middle [] = refl
      middle (x ∷ xs) = middle xs

  -- constants of other names are gathered behind what is seen
  gathered : (term : ℕ) (seen rest : List Sym) → length (seen ++ rest) ≤ 60000 → AreApart (seen ++ rest) → Gathers table seen (occurrences_from term (map constant rest)) (Ok (seen ++ rest))
  gathered term seen [] few apart = rw (append-nil seen) all_seen
  gathered term seen (c ∷ rest) few apart =
      let more : (seen ++ c ∷ []) ++ rest ≡ seen ++ c ∷ rest = append_assoc seen (c ∷ []) rest in
      let later = gathered (term + 1) (seen ++ c ∷ []) rest (rw more few) (subst AreApart (sym more) apart) in
      is_new (not_named (name_of table c) seen (earlier seen rest c apart)) (omega (arith, few, length-append seen (c ∷ rest))) (subst (λ (fs : List Sym). Gathers table (seen ++ c ∷ []) (occurrences_from (term + 1) (map constant rest)) (Ok fs)) more later)

  module _ (f : Sym) (is_f : IsSymbol table f function_name 1) (n : ℕ) (few : n ≤ 2000) where
    -- the name of the symbol of this place
    abbrev name_at : ℕ → List ℕ
    name_at zero = function_name
    name_at (suc i) = constant_name i

    names_apart : (i j : ℕ) → i ≤ n → j ≤ n → name_at i ≡ name_at j → i ≡ j
    names_apart zero zero p q e = refl
    names_apart zero (suc j) p q e = absurd (not_function j e)
    names_apart (suc i) zero p q e = absurd (not_function i (sym e))
    names_apart (suc i) (suc j) p q e = ap suc (constant_named i j (omega (arith, p, few)) (omega (arith, q, few)) e)

    module _ (constants : List Sym) (are : AreConstants table n constants) where
      named_at : (i : ℕ) (g : Sym) → slice_get (f ∷ constants) i ≡ Some g → name_of table g ≡ name_at i
      named_at zero g at = let q : f ≡ g = cc in rw q at (named f function_name 1 is_f)
      named_at (suc i) g at = named g (constant_name i) 0 (are.each i g at)

      all_apart : AreApart (f ∷ constants)
      all_apart i j g h p q e = names_apart i j (within i g p) (within j h q) (sym (named_at i g p) ∙ e ∙ named_at j h q)
        where
          within : (i : ℕ) (g : Sym) → slice_get (f ∷ constants) i ≡ Some g → i ≤ n
          within i g p = omega (arith, slice_get_within (f ∷ constants) i g p, are.count)

    constants_over : (constants : List Sym) → ((i : ℕ) (c : Sym) → slice_get constants i ≡ Some c → IsSymbol table c (constant_name i) 0) → (i : ℕ) (t : Tree) → slice_get (map constant constants) i ≡ Some t → (c : Sym) × (k : ℕ) × IsSymbol table c (constant_name k) 0 × (t ≡ constant c)
    constants_over constants each i t at = go constants (λ k c p. (k, each k c p)) i at
      where
        go : (cs : List Sym) → ((k : ℕ) (c : Sym) → slice_get cs k ≡ Some c → (j : ℕ) × IsSymbol table c (constant_name j) 0) → (i : ℕ) → slice_get (map constant cs) i ≡ Some t → (c : Sym) × (k : ℕ) × IsSymbol table c (constant_name k) 0 × (t ≡ constant c)
        go [] h i at = absurd cc
        go (c ∷ cs) h zero at = let s = h 0 c refl in (c, s.0, s.1, cc)
        go (c ∷ cs) h (suc i) at = go cs (λ k d. h (suc k) d) i at

    constant_over : (c : Sym) (k : ℕ) → IsSymbol table c (constant_name k) 0 → IsOf table (constant c)
    constant_over c k s = (has c (constant_name k) 0 s, sym (arity_is c (constant_name k) 0 s), tt)

    pub signature_has : (constants : List Sym) → 1 ≤ n → AreConstants table n constants → IsSignature table (signature_of f constants)
    signature_has [] some are = absurd (omega (arith, some, are.count))
    signature_has (c ∷ rest) some are =
        let first : IsSymbol table c (constant_name 0) 0 = are.each 0 c refl in
        let fun : arity_of table f ≡ 1 = arity_is f function_name 1 is_f in
        let apart : AreApart (f ∷ c ∷ rest) = all_apart (c ∷ rest) are in
        let constant_is : arity_of table c ≡ 0 = arity_is c (constant_name 0) 0 first in
        record {
          terms = app f (more (constant c) none) ∷ map constant rest;
          over = over;
          signature_is = record {
            symbols = f ∷ c ∷ rest;
            gathers = is_new refl (omega arith) (is_new (not_named (name_of table c) (f ∷ []) (earlier (f ∷ []) rest c apart)) (omega arith) (gathered 1 (f ∷ c ∷ []) rest (omega (arith, are.count, few)) apart));
            completes = has_constant (first_is (arity_of table f) (arity_of table c) fun constant_is);
          };
        }
      where
        first_is : (x y : ℕ) → x ≡ 1 → y ≡ 0 → (if x == 0 then Some f else if y == 0 then Some c else first_constant table rest) ≡ Some c
        first_is x y p q = rw (p, q) refl

        over : AreOf table (app f (more (constant c) none) ∷ map constant rest)
        over zero t at =
            let q : app f (more (constant c) none) ≡ t = cc in
            subst (IsOf table) q (has f function_name 1 is_f, sym (arity_is f function_name 1 is_f), (constant_over c 0 (are.each 0 c refl), tt))
        over (suc i) t at =
            let r = constants_over (c ∷ rest) are.each (suc i) t at in
            subst (IsOf table) (sym r.3) (constant_over r.0 r.1 r.2)
