-- Laws of tables of symbols.
use Rattle.std.proofs.Common.{get_or, length-append, ◌≤◌, ◌≡◌, ℕ, suc, ◌+◌, ◌<◌, List, [], ◌∷◌, ◌++◌, length, Bool, true, false, ◌&&◌, slice_get, Some, None, refl, sym, ap, ◌∙◌, subst, arith, ◌⊎◌, inl, inr, if◌then◌else◌}
use Rattle.std.specs.Prelude.{◌==◌, bytes_eq}
use Rattle.std.specs.List.{list_any, position}
use Rattle.std.proofs.lemmas.Bool.{and_parts, eqb-true, eq-eqb}
use Rattle.std.proofs.lemmas.List.{map-append, get_or_append_left}
use Rattle.std.proofs.lemmas.Option.{slice_get_within, slice_get-get_or, get_or_from_slice_get}
use Rattle.uc_term.specs.declared.symbols.Key.{Key}
use Rattle.uc_term.specs.declared.node.Sym.{Sym}
use Rattle.uc_term.specs.Table.{Entry, IsDistinct, IsSymbol, IsInterned}
use Rattle.uc_term.specs.Keys.{entry_of_key, table_of, AreNamed, AreDifferent}
use Rattle.uc_term.proofs.Finds.{any_none, position_at, position_none, differ_push}
use Rattle.uc_term.proofs.Gets.{get-map, map-get}
pub use Rattle.uc_term.proofs.Gets.{get_pushed}
use Rattle.uc_term.proofs.NameLists.{name_missing}

abbrev pub same_key : Key → Key → Bool
same_key a b = (a.place == b.place) && (a.arity == b.arity)

keys_equal : (a b : Key) → a.place ≡ b.place → a.arity ≡ b.arity → a ≡ b
keys_equal a b places arities = λ i. record { place = places i; arity = arities i }

same_equal : (a b : Key) → same_key a b ≡ true → a ≡ b
same_equal a b e =
    let p = and_parts (a.place == b.place) (a.arity == b.arity) e in
    keys_equal a b (eqb-true a.place b.place p.0) (eqb-true a.arity b.arity p.1)

equal_same : (a b : Key) → a ≡ b → same_key a b ≡ true
equal_same a b e =
    let places : (a.place == b.place) ≡ true = eq-eqb a.place b.place (ap (λ (k : Key). k.place) e) in
    let arities : (a.arity == b.arity) ≡ true = eq-eqb a.arity b.arity (ap (λ (k : Key). k.arity) e) in
    rw (places, arities) refl

-- a name behind the others changes no entry
module _ (names : List (List ℕ)) (name : List ℕ) where
  table_grown : (ks : List Key) → AreNamed names ks → table_of (names ++ name ∷ []) ks ≡ table_of names ks
  table_grown [] named = refl
  table_grown (k ∷ ks) named =
      let here : get_or (names ++ name ∷ []) k.place [] ≡ get_or names k.place [] = get_or_append_left names (name ∷ []) [] k.place (named 0 k refl) in
      let rest = table_grown ks (λ i x at. named (suc i) x at) in
      rw (here, rest) refl

  named_grown : (ks : List Key) → AreNamed names ks → AreNamed (names ++ name ∷ []) ks
  named_grown ks named i k at = omega (arith, named i k at, length-append names (name ∷ []))

  module _ (new : List (List ℕ)) (adds : (new ≡ names) ⊎ (new ≡ names ++ name ∷ [])) (ks : List Key) (named : AreNamed names ks) where
    pub table_kept : table_of new ks ≡ table_of names ks
    table_kept = elim adds [ inl e ↦ ap (λ l. table_of l ks) e | inr e ↦ ap (λ l. table_of l ks) e ∙ table_grown ks named ]

    pub named_kept : AreNamed new ks
    named_kept = elim adds [ inl e ↦ subst (λ l. AreNamed l ks) (sym e) named | inr e ↦ subst (λ l. AreNamed l ks) (sym e) (named_grown ks named) ]

module _ (names : List (List ℕ)) (ks : List Key) (named : AreNamed names ks) where
  -- the key that a symbol's entry is of
  key_at : (i : ℕ) (name : List ℕ) (arity : ℕ) → slice_get (table_of names ks) i ≡ Some (record { name = name; arity = arity })
      → (k : Key) × (slice_get ks i ≡ Some k) × (slice_get names k.place ≡ Some name) × (k.arity ≡ arity)
  key_at i name arity at =
      let m = get-map (entry_of_key names) ks i (record { name = name; arity = arity }) at in
      let k : Key = m.0 in
      (k, m.1, slice_get-get_or names k.place [] (named i k m.1) ∙ ap Some (ap (λ (e : Entry). e.name) m.2), ap (λ (e : Entry). e.arity) m.2)

  -- a name that isn't there is no symbol's
  pub no_name : (name : List ℕ) (arity : ℕ) → position (bytes_eq name) names ≡ None → (f : Sym) → IsSymbol (table_of names ks) f name arity → ⊥
  no_name name arity e f at = let k = key_at f.0 name arity at in name_missing name names e (k.0).place k.2

  module _ (different : AreDifferent names) (k : Key) (name : List ℕ) (here : slice_get names k.place ≡ Some name) where
    entry_here : entry_of_key names k ≡ record { name = name; arity = k.arity }
    entry_here = let at : get_or names k.place [] ≡ name = get_or_from_slice_get names k.place name [] here in rw at refl

    like : (i : ℕ) → slice_get (table_of names ks) i ≡ Some (record { name = name; arity = k.arity }) → (x : Key) × (slice_get ks i ≡ Some x) × (same_key k x ≡ true)
    like i at =
        let x = key_at i name k.arity at in
        (x.0, x.1, equal_same k x.0 (keys_equal k x.0 (different k.place (x.0).place name here x.2) (sym x.3)))

    pub no_key : position (same_key k) ks ≡ None → (f : Sym) → IsSymbol (table_of names ks) f name k.arity → ⊥
    no_key e f at = let x = like f.0 at in position_none (same_key k) ks e f.0 x.0 x.1 x.2

    pub key_found : (i : ℕ) → position (same_key k) ks ≡ Some i → IsSymbol (table_of names ks) (record { 0 = i }) name k.arity
    key_found i e =
        let p = position_at (same_key k) ks i e in
        map-get (entry_of_key names) ks i p.0 p.1 ∙ ap (λ x. Some (entry_of_key names x)) (sym (same_equal k p.0 p.2)) ∙ ap Some entry_here

    -- what the key's insertion makes of the table
    module _ (new : List Key) (inserted : new ≡ (if list_any (same_key k) ks then ks else ks ++ k ∷ [])) where
      absent_key : list_any (same_key k) ks ≡ false → (i : ℕ) → slice_get (table_of names ks) i ≡ Some (record { name = name; arity = k.arity }) → ⊥
      absent_key e i at = let x = like i at in any_none (same_key k) ks i x.0 e x.1 x.2

      table_pushed : table_of names (ks ++ k ∷ []) ≡ table_of names ks ++ record { name = name; arity = k.arity } ∷ []
      table_pushed = map-append (entry_of_key names) ks (k ∷ []) ∙ ap (λ e. table_of names ks ++ e ∷ []) entry_here

      pub distinct_insert : IsDistinct (table_of names ks) → IsDistinct (table_of names new)
      distinct_insert d = go (list_any (same_key k) ks) refl inserted
        where
          go : (b : Bool) → list_any (same_key k) ks ≡ b → new ≡ (if b then ks else ks ++ k ∷ []) → IsDistinct (table_of names new)
          go true h e = subst (λ (l : List Key). IsDistinct (table_of names l)) (sym e) d
          go false h e = subst (λ (l : List Key). IsDistinct (table_of names l)) (sym e) (subst IsDistinct (sym table_pushed) (differ_push (table_of names ks) (record { name = name; arity = k.arity }) d (absent_key h)))

      pub named_insert : AreNamed names new
      named_insert = go (list_any (same_key k) ks) inserted
        where
          pushed : AreNamed names (ks ++ k ∷ [])
          pushed i x at = elim (get_pushed ks k i x at) [ inl h ↦ named i x h | inr h ↦ subst (λ (y : Key). y.place < length names) (sym h.1) (slice_get_within names k.place name here) ]

          go : (b : Bool) → new ≡ (if b then ks else ks ++ k ∷ []) → AreNamed names new
          go true e = subst (AreNamed names) (sym e) named
          go false e = subst (AreNamed names) (sym e) pushed

      pub length_insert : length new ≤ length ks + 1
      length_insert = go (list_any (same_key k) ks) inserted
        where
          go : (b : Bool) → new ≡ (if b then ks else ks ++ k ∷ []) → length new ≤ length ks + 1
          go true e = omega (arith, ap length e)
          go false e = omega (arith, ap length e, length-append ks (k ∷ []))

      -- where an equal key is stored at i
      module _ (i : ℕ) (stored : Key) (at : slice_get new i ≡ Some stored) (alike : same_key k stored ≡ true) where
        stored_at : slice_get (table_of names new) i ≡ Some (record { name = name; arity = k.arity })
        stored_at = map-get (entry_of_key names) new i stored at ∙ ap (λ x. Some (entry_of_key names x)) (sym (same_equal k stored alike)) ∙ ap Some entry_here

        pub interned : IsInterned (table_of names ks) (table_of names new) name k.arity (record { 0 = i })
        interned = (stored_at, go (list_any (same_key k) ks) refl inserted)
          where
            go : (b : Bool) → list_any (same_key k) ks ≡ b → new ≡ (if b then ks else ks ++ k ∷ []) → ((table_of names new ≡ table_of names ks) × (i < length (table_of names ks))) ⊎ ((table_of names new ≡ table_of names ks ++ record { name = name; arity = k.arity } ∷ []) × ((g : Sym) → IsSymbol (table_of names ks) g name k.arity → ⊥))
            go true h q = let kept = ap (table_of names) q in inl (kept, slice_get_within (table_of names ks) i (record { name = name; arity = k.arity }) (ap (λ t. slice_get t i) (sym kept) ∙ stored_at))
            go false h q = inr (ap (table_of names) q ∙ table_pushed, λ g at'. absent_key h g.0 at')
