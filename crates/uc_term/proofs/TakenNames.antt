-- The names of symbols that are taken, gathered one by one.
use Rattle.std.proofs.Common.{◌≡◌, ℕ, zero, suc, ◌+◌, ◌<◌, Bool, true, false, List, [], ◌∷◌, ◌++◌, length, slice_get, get_or, take, bytes_eq, Option, Some, None, if◌then◌else◌, IsTrue, is_some, not, refl, sym, ap, ◌∙◌, subst, ◌⊎◌, inl, inr}
use Rattle.std.specs.List.{position}
use Rattle.std.specs.Cmp.Lexicographic.{bytes_decides}
use Rattle.std.proofs.lemmas.List.{take_more}
use Rattle.uc_term.specs.declared.node.Sym.{Sym}
use Rattle.uc_term.specs.Table.{Table, name_of}
use Rattle.uc_term.specs.Signatures.{first_named, IsFree}
use Rattle.uc_term.specs.Gathering.{AreNamesOf}
use Rattle.uc_term.proofs.Gets.{get-append_left, get-append_right, get_pushed}
use Rattle.uc_term.proofs.NameLists.{name_found, name_missing}

module _ (table : Table) where
  named_none : (name : List ℕ) (fs : List Sym) → ((i : ℕ) (f : Sym) → slice_get fs i ≡ Some f → name_of table f ≡ name → ⊥) → first_named table name fs ≡ None
  named_none name [] n = refl
  named_none name (h ∷ hs) n = go (bytes_eq (name_of table h) name) refl (named_none name hs (λ i f. n (suc i) f))
    where
      go : (b : Bool) → bytes_eq (name_of table h) name ≡ b → first_named table name hs ≡ None → (if b then Some h else first_named table name hs) ≡ None
      go true q e = absurd (n zero h refl ((bytes_decides (name_of table h) name).0 q))
      go false q e = e

  none_named : (name : List ℕ) (fs : List Sym) → first_named table name fs ≡ None → (i : ℕ) (f : Sym) → slice_get fs i ≡ Some f → name_of table f ≡ name → ⊥
  none_named name [] e i f at is = absurd cc
  none_named name (h ∷ hs) e i f at is = go (bytes_eq (name_of table h) name) refl e i at (none_named name hs)
    where
      go : (b : Bool) → bytes_eq (name_of table h) name ≡ b → (if b then Some h else first_named table name hs) ≡ None → (i : ℕ) → slice_get (h ∷ hs) i ≡ Some f → (first_named table name hs ≡ None → (i : ℕ) (f : Sym) → slice_get hs i ≡ Some f → name_of table f ≡ name → ⊥) → ⊥
      go true q e i at later = absurd cc
      go false q e zero at later =
          let same : h ≡ f = cc in
          let yes = (bytes_decides (name_of table h) name).1 (ap (name_of table) same ∙ is) in
          absurd (let both : true ≡ false = sym yes ∙ q in cc)
      go false q e (suc i) at later = later e i f at is

  -- a name that isn't among them is free, and the other way round
  pub is_free : (fs : List Sym) (names : List (List ℕ)) (name : List ℕ) → AreNamesOf table fs names → position (bytes_eq name) names ≡ None → IsFree table fs name
  is_free fs names name a e = named_none name fs (λ i f at is. let p = a.all i f at in name_missing name names e p.0 (p.1 ∙ ap Some is))

  pub isnt_free : (fs : List Sym) (names : List (List ℕ)) (name : List ℕ) (j : ℕ) → AreNamesOf table fs names → position (bytes_eq name) names ≡ Some j → IsFree table fs name → ⊥
  isnt_free fs names name j a e free = let o = a.only j name (name_found name names j e) in none_named name fs free o.0 o.1 o.2 o.3

  pub no_names : AreNamesOf table [] []
  no_names = record { all = λ i f at. absurd cc; only = λ j name at. absurd cc }

  module _ (fs : List Sym) (f : Sym) (names new : List (List ℕ)) (place : ℕ) (a : AreNamesOf table fs names) where
    -- one more symbol's name is among them
    pub one_more_name : slice_get new place ≡ Some (name_of table f) → ((new ≡ names) ⊎ (new ≡ names ++ name_of table f ∷ [])) → AreNamesOf table (fs ++ f ∷ []) new
    one_more_name at change = record { all = all_of; only = only_of change }
      where
        kept : ((new ≡ names) ⊎ (new ≡ names ++ name_of table f ∷ [])) → (j : ℕ) (name : List ℕ) → slice_get names j ≡ Some name → slice_get new j ≡ Some name
        kept (inl e) j name h = ap (λ l. slice_get l j) e ∙ h
        kept (inr e) j name h = ap (λ l. slice_get l j) e ∙ get-append_left names (name_of table f ∷ []) j name h

        all_of : (i : ℕ) (g : Sym) → slice_get (fs ++ f ∷ []) i ≡ Some g → (j : ℕ) × (slice_get new j ≡ Some (name_of table g))
        all_of i g h = go (get_pushed fs f i g h)
          where
            go : ((slice_get fs i ≡ Some g) ⊎ ((i ≡ length fs) × (g ≡ f))) → (j : ℕ) × (slice_get new j ≡ Some (name_of table g))
            go (inl h) = let p = a.all i g h in (p.0, kept change p.0 (name_of table g) p.1)
            go (inr h) = (place, at ∙ ap (λ x. Some (name_of table x)) (sym h.1))

        last : (i : ℕ) × (g : Sym) × (slice_get (fs ++ f ∷ []) i ≡ Some g) × (name_of table g ≡ name_of table f)
        last = let r = get-append_right fs (f ∷ []) zero f refl in (r.0, f, r.1, refl)

        old : (j : ℕ) (name : List ℕ) → slice_get names j ≡ Some name → (i : ℕ) × (g : Sym) × (slice_get (fs ++ f ∷ []) i ≡ Some g) × (name_of table g ≡ name)
        old j name h = let o = a.only j name h in (o.0, o.1, get-append_left fs (f ∷ []) o.0 o.1 o.2, o.3)

        only_of : ((new ≡ names) ⊎ (new ≡ names ++ name_of table f ∷ [])) → (j : ℕ) (name : List ℕ) → slice_get new j ≡ Some name → (i : ℕ) × (g : Sym) × (slice_get (fs ++ f ∷ []) i ≡ Some g) × (name_of table g ≡ name)
        only_of (inl e) j name h = old j name (ap (λ l. slice_get l j) (sym e) ∙ h)
        only_of (inr e) j name h = go (get_pushed names (name_of table f) j name (ap (λ l. slice_get l j) (sym e) ∙ h))
          where
            go : ((slice_get names j ≡ Some name) ⊎ ((j ≡ length names) × (name ≡ name_of table f))) → (i : ℕ) × (g : Sym) × (slice_get (fs ++ f ∷ []) i ≡ Some g) × (name_of table g ≡ name)
            go (inl h) = old j name h
            go (inr h) = (last.0, last.1, last.2, last.3 ∙ sym h.1)

  -- the names of one more symbol of a list
  pub more_names : (fs : List Sym) (i : ℕ) (d : Sym) (names new : List (List ℕ)) (text : List ℕ) (place : ℕ) → i < length fs → text ≡ name_of table (get_or fs i d) → AreNamesOf table (take i fs) names → slice_get new place ≡ Some text → ((new ≡ names) ⊎ (new ≡ names ++ text ∷ [])) → AreNamesOf table (take (i + 1) fs) new
  more_names fs i d names new text place h e a at change =
      subst (λ (l : List Sym). AreNamesOf table l new) (sym (take_more fs i d h)) (one_more_name (take i fs) (get_or fs i d) names new place a (at ∙ ap Some e) (subst (λ (x : List ℕ). (new ≡ names) ⊎ (new ≡ names ++ x ∷ [])) e change))

  -- whether a name is free shows by whether it is among the names
  pub tells : (fs : List Sym) (names : List (List ℕ)) (name : List ℕ) (o : Option ℕ) (b : Bool) → AreNamesOf table fs names → o ≡ position (bytes_eq name) names → is_some o ≡ not b → (IsTrue b → IsFree table fs name) × (IsFree table fs name → IsTrue b)
  tells fs names name None true a e t = (λ _. is_free fs names name a (sym e), λ _. refl)
  tells fs names name None false a e t = absurd cc
  tells fs names name (Some j) true a e t = absurd cc
  tells fs names name (Some j) false a e t = (λ y. absurd cc, λ free. absurd (isnt_free fs names name j a (sym e) free))
