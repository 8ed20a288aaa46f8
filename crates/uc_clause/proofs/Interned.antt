-- How a table grows by what is read.
use Rattle.std.proofs.Common.{◌≡◌, ℕ, zero, suc, ◌==◌, ◌&&◌, ◌||◌, Bool, true, false, List, [], ◌∷◌, ◌++◌, slice_get, Some, bytes_eq, if◌then◌else◌, refl, sym, ap, ap₂, ◌∙◌, inl, inr}
use Rattle.std.specs.List.{list_any}
use Rattle.std.specs.Cmp.Lexicographic.{bytes_decides}
use Rattle.std.proofs.lemmas.Bool.{eqb-true, eq-eqb}
use Rattle.uc_term.specs.declared.node.Sym.{Sym}
use Rattle.uc_term.specs.Table.{Table, Entry, IsSymbol, IsInterned}
use Rattle.uc_clause.specs.declared.token.Token.{Token}
use Rattle.uc_clause.specs.Parse.{Parses, no_more, also}
use Rattle.uc_clause.specs.Parse.{Entry as Parsed}
use Rattle.uc_clause.specs.Interning.{is_entry_of, with_symbol, with_term, with_terms, with_item, with_items}
use Rattle.uc_clause.proofs.Means.{append}
use Rattle.uc_clause.proofs.Stack.{Frame}

-- an entry is the one of its own name and arity
is_own : (name : List ℕ) (arity : ℕ) → is_entry_of name arity (record { name = name; arity = arity }) ≡ true
is_own name arity = ap₂ (λ a b. a && b) ((bytes_decides name name).1 refl) (eq-eqb arity arity refl)

-- and no other entry is
own_is : (name : List ℕ) (arity : ℕ) (e : Entry) → is_entry_of name arity e ≡ true → e ≡ record { name = name; arity = arity }
own_is name arity e h = go (bytes_eq e.name name) (e.arity == arity) refl refl h
  where
    go : (a b : Bool) → bytes_eq e.name name ≡ a → (e.arity == arity) ≡ b → (a && b) ≡ true → e ≡ record { name = name; arity = arity }
    go true true p q h =
        let names : e.name ≡ name = (bytes_decides e.name name).0 p in
        let arities : e.arity ≡ arity = eqb-true e.arity arity q in
        let both : record { name = e.name; arity = e.arity } ≡ (let k : Entry = record { name = name; arity = arity } in k) = rw (names, arities) refl in
        both
    go true false p q h = absurd cc
    go false b p q h = absurd cc

found_any : {X : Type 0} (p : X → Bool) (xs : List X) (i : ℕ) (x : X) → slice_get xs i ≡ Some x → p x ≡ true → list_any p xs ≡ true
found_any p [] i x at h = absurd cc
found_any p (y ∷ ys) zero x at h = let same : y ≡ x = cc in let first : p y ≡ true = rw same h in rw first refl
found_any p (y ∷ ys) (suc i) x at h = go (p y) (found_any p ys i x at h)
  where
    go : (b : Bool) → list_any p ys ≡ true → (b || list_any p ys) ≡ true
    go true e = refl
    go false e = e

any_found : {X : Type 0} (p : X → Bool) (xs : List X) → list_any p xs ≡ true → (i : ℕ) × (x : X) × (slice_get xs i ≡ Some x) × (p x ≡ true)
any_found p [] h = absurd cc
any_found {X = X} p (y ∷ ys) h = go (p y) refl h (any_found p ys)
  where
    go : (b : Bool) → p y ≡ b → (b || list_any p ys) ≡ true → (list_any p ys ≡ true → (i : ℕ) × (x : X) × (slice_get ys i ≡ Some x) × (p x ≡ true)) → (i : ℕ) × (x : X) × (slice_get (y ∷ ys) i ≡ Some x) × (p x ≡ true)
    go true e h later = (0, y, refl, e)
    go false e h later = let r = later h in (suc r.0, r.1, r.2, r.3)

pub interned_is : (old new : Table) (name : List ℕ) (arity : ℕ) (f : Sym) → IsInterned old new name arity f → new ≡ with_symbol old name arity
interned_is old new name arity f i = elim i.1 [
  | inl h ↦ (
      let there : list_any (is_entry_of name arity) old ≡ true = found_any (is_entry_of name arity) old f.0 (record { name = name; arity = arity }) (rw h.0 at i.0) (is_own name arity) in
      h.0 ∙ ap (λ b. if b then old else old ++ record { name = name; arity = arity } ∷ []) (sym there))
  | inr h ↦ h.0 ∙ go (list_any (is_entry_of name arity) old) refl h.1
]
  where
    go : (b : Bool) → list_any (is_entry_of name arity) old ≡ b → ((g : Sym) → IsSymbol old g name arity → ⊥) → old ++ record { name = name; arity = arity } ∷ [] ≡ (if b then old else old ++ record { name = name; arity = arity } ∷ [])
    go true e none = let r = any_found (is_entry_of name arity) old e in absurd (none (record { 0 = r.0 }) (r.2 ∙ ap Some (own_is name arity r.1 r.3)))
    go false e none = refl

-- a symbol that the table has changes nothing
pub symbol_kept : (table : Table) (f : Sym) (name : List ℕ) (arity : ℕ) → IsSymbol table f name arity → with_symbol table name arity ≡ table
symbol_kept table f name arity s = ap (λ b. if b then table else table ++ record { name = name; arity = arity } ∷ []) (found_any (is_entry_of name arity) table f.0 (record { name = name; arity = arity }) s (is_own name arity))

module _ (bytes : List ℕ) (tokens : List Token) where
  pub with_terms_append : (table : Table) (ps qs : Parses) → with_terms bytes tokens table (append ps qs) ≡ with_terms bytes tokens (with_terms bytes tokens table ps) qs
  with_terms_append table no_more qs = refl
  with_terms_append table (also p ps) qs = with_terms_append (with_term bytes tokens table p) ps qs

  -- with the arguments that the frames, the innermost first, have so far
  abbrev pub with_frames : Table → List Frame → Table
  with_frames table [] = table
  with_frames table (F ∷ fs) = with_terms bytes tokens (with_frames table fs) F.done

  pub with_items_snoc : (table : Table) (entries : List Parsed) (entry : Parsed) → with_items bytes tokens table (entries ++ entry ∷ []) ≡ with_item bytes tokens (with_items bytes tokens table entries) entry
  with_items_snoc table [] entry = refl
  with_items_snoc table (e ∷ es) entry = with_items_snoc (with_item bytes tokens table e) es entry
