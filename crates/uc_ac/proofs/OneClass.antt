-- Two terms have one class just where they are equal up to brackets and order.
use Rattle.std.proofs.Common.{◌≡◌, ℕ, ◌∙◌, List, [], ◌∷◌, ◌++◌, Some, slice_get, refl, sym, ap, ap₂, subst, append-nil, append_assoc}
use Rattle.uc_term.specs.declared.node.Sym.{Sym}
use Rattle.uc_term.specs.Keys.{AreDifferent}
use Rattle.uc_term.specs.Tree.{Tree, var, app, list_of}
use Rattle.uc_term.proofs.Gets.{get-append_left}
use Rattle.uc_order.specs.Laws.{pair_of}
use Rattle.uc_ac.specs.declared.numbering.Read.{Read}
use Rattle.uc_ac.specs.Reordered.{IsTaken, taken_first, taken_later, IsReordered, no_element, one_element}
use Rattle.uc_ac.specs.AcEqual.{parts, AcEqual, same_variable, same_head, same_parts, AreAcEqual, no_terms, and_terms}
use Rattle.uc_ac.specs.Classes.{variable_class, symbol_class, parts_class, IsGrown, Has, has_variable, has_arguments, has_parts, AllHave, none_has, one_has, ArePartsOf, IsRead, variable_read, arguments_read, parts_read, AreRead, none_read, one_read}
use Rattle.uc_ac.proofs.Reordering.{Reordered-sym, Reordered-trans}
use Rattle.uc_ac.proofs.Parts.{same_sym}
use Rattle.uc_ac.proofs.Equal.{reordered_eq, counts}
use Rattle.uc_ac.proofs.Sorting.{rising_unique}

module _ (symbols : List Sym) (table : List (List ℕ)) where
  abbrev H : ℕ → Tree → Type 0
  H = Has symbols table

  abbrev Hs : List ℕ → List Tree → Type 0
  Hs = AllHave symbols table

  -- the two entries at one number are the same
  one_entry : {a b : List ℕ} (k : ℕ) → slice_get table k ≡ Some a → slice_get table k ≡ Some b → a ≡ b
  one_entry k p q = let e = sym p ∙ q in cc

  -- terms of one class are equal up to brackets and order
  mutual
    pub one_class : (k : ℕ) (s t : Tree) → H k s → H k t → AcEqual symbols s t
    one_class k _ _ (has_variable {x = x} p) (has_variable {x = y} q) =
        let e = one_entry k p q in
        let same : x ≡ y = cc in
        subst (λ z. AcEqual symbols (var x) (var z)) same same_variable
    one_class k _ _ (has_variable {x = x} p) (has_arguments {f = f} {ks = ks} n q h) = let e = one_entry k p q in absurd cc
    one_class k _ _ (has_variable {x = x} p) (has_parts {f = f} {ks = ks} i q up r h) = let e = one_entry k p q in absurd cc
    one_class k _ _ (has_arguments {f = f} {ks = ks} n q h) (has_variable {x = x} p) = let e = one_entry k p q in absurd cc
    one_class k _ _ (has_arguments {f = f} {ts = ss} {ks = js} n p h) (has_arguments {f = g} {ts = ts} {ks = ks} m q d) =
        let e = one_entry k p q in
        let same : f.0 ≡ g.0 = cc in
        let lists : js ≡ ks = cc in
        subst (λ z. AcEqual symbols (app f ss) (app z ts)) (same_sym f g same) (same_head n (one_by_one js (list_of ss) (list_of ts) h (subst (λ l. Hs l (list_of ts)) (sym lists) d)))
    one_class k _ _ (has_arguments {f = f} {ks = js} n p h) (has_parts {f = g} {ks = ks} i q up r d) = let e = one_entry k p q in absurd cc
    one_class k _ _ (has_parts {f = f} {ks = ks} i p up r h) (has_variable {x = x} q) = let e = one_entry k p q in absurd cc
    one_class k _ _ (has_parts {f = f} {ks = js} i p up r h) (has_arguments {f = g} {ks = ks} n q d) = let e = one_entry k p q in absurd cc
    one_class k _ _ (has_parts {f = f} {a = a} {b = b} {ks = js} {us = us} i p up r h) (has_parts {f = g} {a = c} {b = d} {ks = ks} {us = vs} j q up' r' h') =
        let e = one_entry k p q in
        let same : f.0 ≡ g.0 = cc in
        let lists : js ≡ ks = cc in
        let one : f ≡ g = same_sym f g same in
        let all : AreAcEqual symbols us vs = one_by_one js us vs h (subst (λ l. Hs l vs) (sym lists) h') in
        let z = reordered_eq symbols (Reordered-sym r) all in
        subst (λ y. AcEqual symbols (pair_of f a b) (pair_of y c d)) one (same_parts i (Reordered-trans (subst (λ y. IsReordered (parts y (pair_of y c d)) vs) (sym one) r') z.2) z.1)

    one_by_one : (ks : List ℕ) (ss ts : List Tree) → Hs ks ss → Hs ks ts → AreAcEqual symbols ss ts
    one_by_one _ _ _ none_has none_has = no_terms
    one_by_one _ _ _ (one_has {k = k} {t = s} {ks = ks} {ts = ss} h hs) (one_has {t = t} {ts = ts} d ds) = and_terms (one_class k s t h d) (one_by_one ks ss ts hs ds)

  -- the classes of terms in another order
  taken_class : {t : Tree} {ts rest : List Tree} {k : ℕ} {ks : List ℕ} → IsTaken t ts rest → H k t → Hs ks rest → (js : List ℕ) × Hs js ts × IsTaken k js ks
  taken_class {k = k} {ks = ks} taken_first h hs = (k ∷ ks, one_has h hs, taken_first)
  taken_class (taken_later p) h (one_has {k = j} d ds) = let r = taken_class p h ds in (j ∷ r.0, one_has d r.1, taken_later r.2)

  pub reordered_classes : {ts us : List Tree} {ks : List ℕ} → IsReordered ts us → Hs ks ts → (js : List ℕ) × Hs js us × IsReordered ks js
  reordered_classes no_element none_has = ([], none_has, no_element)
  reordered_classes (one_element p r) (one_has h hs) =
      let k = reordered_classes r hs in
      let t = taken_class p h k.1 in
      (t.0, t.1, one_element t.2 k.2)

  -- terms that are equal up to brackets and order have one class
  module _ (different : AreDifferent table) where
    mutual
      pub same_class : (j k : ℕ) (s t : Tree) → AcEqual symbols s t → H j s → H k t → j ≡ k
      same_class j k _ _ (same_variable {x = x}) (has_variable p) (has_variable q) = different j k (variable_class x) p q
      same_class j k _ _ (same_head {f = f} {ss = ss} {ts = ts} n e) (has_arguments {ks = js} n' p h) (has_arguments {ks = ks} m q d) =
          let one : js ≡ ks = same_classes js ks (list_of ss) (list_of ts) e h d in
          different j k (symbol_class f js) p (q ∙ ap (λ l. Some (symbol_class f l)) (sym one))
      same_class j k _ _ (same_head {f = f} {ss = ss} {ts = ts} n e) (has_arguments n' p h) (has_parts i q up r d) = absurd (n (i, counts symbols ss ts e))
      same_class j k _ _ (same_head n e) (has_parts i p up r h) d = absurd (n (i, refl))
      same_class j k _ _ (same_parts i r e) (has_arguments n p h) d = absurd (n (i, refl))
      same_class j k _ _ (same_parts i r e) (has_parts i' p up r' h) (has_arguments n q d) = absurd (n (i, refl))
      same_class j k _ _ (same_parts {f = f} {a = a} {b = b} {c = c} {d = d} {us = us} i r e) (has_parts {ks = js} i' p up r' h) (has_parts {ks = ks} j' q up' q' h') =
          let left = reordered_classes (Reordered-sym r') h in
          let right = reordered_classes (Reordered-trans (Reordered-sym q') r) h' in
          let one : left.0 ≡ right.0 = same_classes left.0 right.0 (parts f (pair_of f a b)) us e left.1 right.1 in
          let all : js ≡ ks = rising_unique js ks (Reordered-trans (subst (IsReordered js) one left.2) (Reordered-sym right.2)) up up' in
          different j k (parts_class f js) p (q ∙ ap (λ l. Some (parts_class f l)) (sym all))

      same_classes : (js ks : List ℕ) (ss ts : List Tree) → AreAcEqual symbols ss ts → Hs js ss → Hs ks ts → js ≡ ks
      same_classes _ _ _ _ no_terms none_has none_has = refl
      same_classes _ _ _ _ (and_terms {s = s} {t = t} {ss = ss} {ts = ts} e es) (one_has {k = j} {ks = js} h hs) (one_has {k = k} {ks = ks} d ds) = ap₂ (λ (x : ℕ) (xs : List ℕ). x ∷ xs) (same_class j k s t e h d) (same_classes js ks ss ts es hs ds)

-- What a table has it has when it has grown.
module _ (symbols : List Sym) (old new : List (List ℕ)) (g : IsGrown old new) where
  kept_entry : (k : ℕ) (a : List ℕ) → slice_get old k ≡ Some a → slice_get new k ≡ Some a
  kept_entry k a p = subst (λ l. slice_get l k ≡ Some a) (sym g.new_is) (get-append_left old g.more k a p)

  mutual
    pub kept_class : (k : ℕ) (t : Tree) → Has symbols old k t → Has symbols new k t
    kept_class k _ (has_variable {x = x} p) = has_variable (kept_entry k (variable_class x) p)
    kept_class k _ (has_arguments {f = f} {ts = ts} {ks = ks} n p h) = has_arguments n (kept_entry k (symbol_class f ks) p) (kept_classes ks (list_of ts) h)
    kept_class k _ (has_parts {f = f} {ks = ks} {us = us} i p up r h) = has_parts i (kept_entry k (parts_class f ks) p) up r (kept_classes ks us h)

    pub kept_classes : (ks : List ℕ) (ts : List Tree) → AllHave symbols old ks ts → AllHave symbols new ks ts
    kept_classes _ _ none_has = none_has
    kept_classes _ _ (one_has {k = k} {t = t} {ks = ks} {ts = ts} h hs) = one_has (kept_class k t h) (kept_classes ks ts hs)

  pub kept_parts : (f : Sym) (ks : List ℕ) (t : Tree) → ArePartsOf symbols old f ks t → ArePartsOf symbols new f ks t
  kept_parts f ks t a = record { list = a.list; reordered = a.reordered; classes = kept_classes ks a.list a.classes }

  kept_read : (r : Read) (t : Tree) → IsRead symbols old r t → IsRead symbols new r t
  kept_read _ _ (variable_read {k = k} {x = x} h) = variable_read (kept_class k (var x) h)
  kept_read _ _ (arguments_read {k = k} {f = f} {ts = ts} n h) = arguments_read n (kept_class k (app f ts) h)
  kept_read _ _ (parts_read {f = f} {a = a} {b = b} {ks = ks} i p) = parts_read i (kept_parts f ks.items (pair_of f a b) p)

  pub kept_stack : (rs : List Read) (ts : List Tree) → AreRead symbols old rs ts → AreRead symbols new rs ts
  kept_stack _ _ none_read = none_read
  kept_stack _ _ (one_read {r = r} {t = t} {rs = rs} {ts = ts} h hs) = one_read (kept_read r t h) (kept_stack rs ts hs)

pub grown_same : (table : List (List ℕ)) → IsGrown table table
grown_same table = record { more = []; new_is = sym (append-nil table); different = λ d. d }

pub grown_on : (a b c : List (List ℕ)) → IsGrown a b → IsGrown b c → IsGrown a c
grown_on a b c g h = record {
  more = g.more ++ h.more;
  new_is = h.new_is ∙ ap (λ l. l ++ h.more) g.new_is ∙ append_assoc a g.more h.more;
  different = λ d. h.different (g.different d);
}

-- no class is there twice where there is none
pub none_different : (table : List (List ℕ)) → table ≡ [] → AreDifferent table
none_different table e = subst AreDifferent (sym e) (λ i j name p q. absurd (none_there i name p))
  where
    none_there : (i : ℕ) (name : List ℕ) → slice_get {X = List ℕ} [] i ≡ Some name → ⊥
    none_there i name p = absurd cc
