-- What a table of names tells of the symbols that are seen.
use Rattle.std.proofs.Common.{◌≡◌, ℕ, zero, suc, ◌+◌, ◌<◌, ◌≤◌, ◌==◌, ◌||◌, Bool, true, false, List, [], ◌∷◌, ◌++◌, length, slice_get, bytes_eq, Some, None, Ok, Err, if◌then◌else◌, get_or, take, drop, refl, sym, ap, ◌∙◌, subst, arith, ◌⊎◌, inl, inr, append_assoc, append-nil, take-append-drop, add-one}
use Rattle.std.specs.List.{list_any}
use Rattle.std.specs.Cmp.Lexicographic.{bytes_decides}
use Rattle.std.proofs.lemmas.Bool.{eqb-true, eq-eqb}
use Rattle.std.proofs.lemmas.List.{map-append, take_more, length-take-le}
use Rattle.uc_term.specs.declared.node.Sym.{Sym}
use Rattle.uc_term.specs.declared.node.Pos.{Pos}
use Rattle.uc_term.specs.declared.node.Node.{Node}
use Rattle.uc_term.specs.declared.node.Node.TheVariants.{Var, App}
use Rattle.uc_term.proofs.Ahead.{drop-at}
use Rattle.uc_term.proofs.Terms.{take_of_length-le}
use Rattle.uc_term.specs.Tree.{Tree}
use Rattle.uc_term.specs.Flat.{flat}
use Rattle.std.proofs.Math.Seq.{drop-cons}
use Rattle.uc_term.specs.declared.fault.TermFault.{TermFault}
use Rattle.uc_term.specs.declared.fault.TermFault.TheVariants.{TooLarge, NoSuchPosition, TooMany, ArityClash, NoMemory}
use Rattle.uc_term.specs.Table.{Table, Entry, name_of, Has, IsSymbol, IsDistinct, IsInterned}
use Rattle.uc_term.specs.Signatures.{Occurrence, Gathers, seen_before, is_new, clashes, is_too_many, first_named, same_symbol, occurrences_in, occurrences_from, occurrences_of, IsSignatureFault, all_seen}
use Rattle.uc_term.specs.Gathering.{name_entry, names_of, GoesOn, StopsAt, IsNamed, IsClash, occurrence}
use Rattle.uc_term.proofs.Gets.{get-map, map-get}
use Rattle.uc_term.proofs.Gets.{get_pushed}

same_number : (f g : Sym) → f.0 ≡ g.0 → f ≡ g
same_number f g e = ap (λ (x : ℕ). let s : Sym = record { 0 = x } in s) e

pub any_get : (f : Sym) (seen : List Sym) → list_any (same_symbol f) seen ≡ true → (i : ℕ) × (slice_get seen i ≡ Some f)
any_get f [] e = absurd cc
any_get f (g ∷ gs) e = go (f.0 == g.0) refl e (any_get f gs)
  where
    go : (b : Bool) → (f.0 == g.0) ≡ b → (b || list_any (same_symbol f) gs) ≡ true → (list_any (same_symbol f) gs ≡ true → (i : ℕ) × (slice_get gs i ≡ Some f)) → (i : ℕ) × (slice_get (g ∷ gs) i ≡ Some f)
    go true h e later = (zero, ap Some (sym (same_number f g (eqb-true f.0 g.0 h))))
    go false h e later = let r = later e in (suc r.0, r.1)

pub get_any : (f : Sym) (seen : List Sym) (i : ℕ) → slice_get seen i ≡ Some f → list_any (same_symbol f) seen ≡ true
get_any f [] i e = absurd cc
get_any f (g ∷ gs) zero e = let h : (f.0 == g.0) ≡ true = eq-eqb f.0 g.0 (let q : g ≡ f = cc in ap (λ (s : Sym). s.0) (sym q)) in rw h refl
get_any f (g ∷ gs) (suc i) e = go (f.0 == g.0) (get_any f gs i e)
  where
    go : (b : Bool) → list_any (same_symbol f) gs ≡ true → (b || list_any (same_symbol f) gs) ≡ true
    go true e = refl
    go false e = e

distinct_tail : (e : Entry) (t : Table) → IsDistinct (e ∷ t) → IsDistinct t
distinct_tail e t d i j x p q = let n = d (suc i) (suc j) x p q in omega arith

module _ (table : Table) where
  -- the symbol of a name that stands at a place of the names
  pub at_name : (seen : List Sym) (i : ℕ) (name : List ℕ) → slice_get (names_of table seen) i ≡ Some (name_entry name) → (g : Sym) × (slice_get seen i ≡ Some g) × (name_of table g ≡ name)
  at_name seen i name e =
      let r = get-map (λ f. name_entry (name_of table f)) seen i (name_entry name) e in
      (r.0, r.1, ap (λ (x : Entry). x.name) r.2)

  pub name_at : (seen : List Sym) (i : ℕ) (g : Sym) → slice_get seen i ≡ Some g → slice_get (names_of table seen) i ≡ Some (name_entry (name_of table g))
  name_at seen i g e = map-get (λ f. name_entry (name_of table f)) seen i g e

  pub first_is : (seen : List Sym) (i : ℕ) (g : Sym) → IsDistinct (names_of table seen) → slice_get seen i ≡ Some g → first_named table (name_of table g) seen ≡ Some g
  first_is [] i g d e = absurd cc
  first_is (h ∷ hs) i g d e = go (bytes_eq (name_of table h) (name_of table g)) refl i e (first_is hs)
    where
      go : (b : Bool) → bytes_eq (name_of table h) (name_of table g) ≡ b → (i : ℕ) → slice_get (h ∷ hs) i ≡ Some g → ((i : ℕ) (g : Sym) → IsDistinct (names_of table hs) → slice_get hs i ≡ Some g → first_named table (name_of table g) hs ≡ Some g) → (if b then Some h else first_named table (name_of table g) hs) ≡ Some g
      go true q zero e later = e
      go true q (suc i) e later =
          let names : name_of table h ≡ name_of table g = (bytes_decides (name_of table h) (name_of table g)).0 q in
          absurd (let n = d zero (suc i) (name_entry (name_of table g)) (ap (λ x. Some (name_entry x)) names) (name_at hs i g e) in let bad : 0 ≡ suc i = n in omega arith)
      go false q zero e later =
          let same : h ≡ g = cc in
          let yes = (bytes_decides (name_of table h) (name_of table g)).1 (ap (name_of table) same) in
          absurd (let both : true ≡ false = sym yes ∙ q in cc)
      go false q (suc i) e later = later i g (distinct_tail (name_entry (name_of table h)) (names_of table hs) d) e

  pub first_none : (seen : List Sym) (name : List ℕ) → ((g : Sym) → IsSymbol (names_of table seen) g name 0 → ⊥) → first_named table name seen ≡ None
  first_none [] name n = refl
  first_none (h ∷ hs) name n = go (bytes_eq (name_of table h) name) refl (first_none hs name (λ g s. n (record { 0 = suc g.0 }) s))
    where
      go : (b : Bool) → bytes_eq (name_of table h) name ≡ b → first_named table name hs ≡ None → (if b then Some h else first_named table name hs) ≡ None
      go true q e = absurd (n (record { 0 = 0 }) (ap (λ x. Some (name_entry x)) ((bytes_decides (name_of table h) name).0 q)))
      go false q e = e

  not_any : (f g : Sym) (seen : List Sym) (i : ℕ) → IsDistinct (names_of table seen) → slice_get seen i ≡ Some g → name_of table g ≡ name_of table f → (g ≡ f → ⊥) → list_any (same_symbol f) seen ≡ false
  not_any f g seen i d e same n = go (list_any (same_symbol f) seen) refl
    where
      go : (b : Bool) → list_any (same_symbol f) seen ≡ b → b ≡ false
      go false q = refl
      go true q =
          let r = any_get f seen q in
          let where_is : i ≡ r.0 = d i r.0 (name_entry (name_of table f)) (name_at seen i g e ∙ ap (λ x. Some (name_entry x)) same) (name_at seen r.0 f r.1) in
          let both : Some g ≡ Some f = sym e ∙ ap (slice_get seen) where_is ∙ r.1 in
          absurd (n cc)

  module _ (names : Table) (seen : List Sym) (named : IsNamed table names seen) (distinct : IsDistinct names) (f : Sym) (new : Table) (number : Sym) (interned : IsInterned names new (name_of table f) 0 number) where
    d : IsDistinct (names_of table seen)
    d = subst IsDistinct named.names_are distinct

    -- a number below the count is that of a name that was seen
    pub was_seen : number.0 < length names → (new ≡ names) × ((g : Sym) × (slice_get seen number.0 ≡ Some g) × (name_of table g ≡ name_of table f))
    was_seen h = go interned.1
      where
        old : slice_get names number.0 ≡ Some (name_entry (name_of table f)) → (g : Sym) × (slice_get seen number.0 ≡ Some g) × (name_of table g ≡ name_of table f)
        old e = at_name seen number.0 (name_of table f) (subst (λ (t : Table). slice_get t number.0 ≡ Some (name_entry (name_of table f))) named.names_are e)

        go : ((new ≡ names) × Has names number) ⊎ ((new ≡ names ++ name_entry (name_of table f) ∷ []) × ((g : Sym) → IsSymbol names g (name_of table f) 0 → ⊥)) → (new ≡ names) × ((g : Sym) × (slice_get seen number.0 ≡ Some g) × (name_of table g ≡ name_of table f))
        go (inl a) = (a.0, old (ap (λ t. slice_get t number.0) (sym a.0) ∙ interned.0))
        go (inr b) = elim (get_pushed names (name_entry (name_of table f)) number.0 (name_entry (name_of table f)) (ap (λ t. slice_get t number.0) (sym b.0) ∙ interned.0)) [
          | inl e ↦ absurd (b.1 number e)
          | inr e ↦ absurd (let q = e.0 in omega arith)
        ]

    pub is_fresh : length names ≤ number.0 → (new ≡ names ++ name_entry (name_of table f) ∷ []) × (first_named table (name_of table f) seen ≡ None)
    is_fresh h = go interned.1
      where
        go : ((new ≡ names) × Has names number) ⊎ ((new ≡ names ++ name_entry (name_of table f) ∷ []) × ((g : Sym) → IsSymbol names g (name_of table f) 0 → ⊥)) → (new ≡ names ++ name_entry (name_of table f) ∷ []) × (first_named table (name_of table f) seen ≡ None)
        go (inl a) = absurd (let q = a.1 in omega arith)
        go (inr b) = (b.0, first_none seen (name_of table f) (λ g s. b.1 g (subst (λ (t : Table). IsSymbol t g (name_of table f) 0) (sym named.names_are) s)))

    -- the symbol was seen
    pub goes_on_seen : (term place : ℕ) → number.0 < length names → slice_get seen number.0 ≡ Some f → GoesOn table seen seen (occurrence term place f ∷ [])
    goes_on_seen term place h e rest r g = seen_before (get_any f seen number.0 e) g

    -- another symbol of its name was
    pub clash : (first : Sym) (term : ℕ) (pos : Pos) (fault : TermFault) → number.0 < length names → slice_get seen number.0 ≡ Some first → IsClash table first f term pos fault → (rest : List Occurrence) → Gathers table seen (occurrence term pos.0 f ∷ rest) (Err fault)
    clash first term pos fault h e c rest =
        let w = was_seen h in
        let same : first ≡ w.1.0 = (let both : Some first ≡ Some w.1.0 = sym e ∙ w.1.1 in cc) in
        let name : name_of table first ≡ name_of table f = ap (name_of table) same ∙ w.1.2 in
        let found : first_named table (name_of table f) seen ≡ Some first = ap (λ n. first_named table n seen) (sym name) ∙ first_is seen number.0 first d e in
        subst (λ (x : TermFault). Gathers table seen (occurrence term pos.0 f ∷ rest) (Err x)) (sym c.fault_is) (clashes (not_any f first seen number.0 d e name c.differ) found)

    pub too_many : (term : ℕ) (pos : Pos) → length names ≤ number.0 → 60000 ≤ length seen → (rest : List Occurrence) → Gathers table seen (occurrence term pos.0 f ∷ rest) (Err (TooMany term pos))
    too_many term pos h m rest = is_too_many (is_fresh h).1 m

    pub goes_on_new : (after : List Sym) (term place : ℕ) → length names ≤ number.0 → length seen < 60000 → after ≡ seen ++ f ∷ [] → GoesOn table seen after (occurrence term place f ∷ [])
    goes_on_new after term place h m e rest r g = is_new (is_fresh h).1 m (subst (λ (fs : List Sym). Gathers table fs rest r) e g)

    pub named_new : (after : List Sym) → length names ≤ number.0 → Has table f → after ≡ seen ++ f ∷ [] → IsNamed table new after
    named_new after h has e = record {
      has_all = λ i g at. all_of g (get_pushed seen f i g (ap (λ l. slice_get l i) (sym e) ∙ at));
      names_are = (is_fresh h).0 ∙ ap (λ t. t ++ name_entry (name_of table f) ∷ []) named.names_are ∙ sym (map-append (λ g. name_entry (name_of table g)) seen (f ∷ [])) ∙ ap (names_of table) (sym e);
    }
      where
        all_of : (g : Sym) {i : ℕ} → (slice_get seen i ≡ Some g) ⊎ ((i ≡ length seen) × (g ≡ f)) → Has table g
        all_of g (inl a) = named.has_all _ g a
        all_of g (inr b) = subst (Has table) (sym b.1) has

    pub named_seen : number.0 < length names → IsNamed table new seen
    named_seen h = record { has_all = named.has_all; names_are = (was_seen h).0 ∙ named.names_are }

-- the occurrences in two lists of nodes, one behind the other
pub occurrences_in-append : (term p : ℕ) (ns ms : List Node) → occurrences_in term p (ns ++ ms) ≡ occurrences_in term p ns ++ occurrences_in term (p + length ns) ms
occurrences_in-append term p [] ms = ap (λ k. occurrences_in term k ms) (let e : p ≡ p + 0 = omega arith in e)
occurrences_in-append term p (Var x ∷ ns) ms = occurrences_in-append term (p + 1) ns ms ∙ ap (λ k. occurrences_in term (p + 1) ns ++ occurrences_in term k ms) (let e : p + 1 + length ns ≡ p + length (Var x ∷ ns) = omega arith in e)
occurrences_in-append term p (App f n ∷ ns) ms = ap (λ l. occurrence term p f ∷ l) (occurrences_in-append term (p + 1) ns ms ∙ ap (λ k. occurrences_in term (p + 1) ns ++ occurrences_in term k ms) (let e : p + 1 + length ns ≡ p + length (App f n ∷ ns) = omega arith in e))

module _ (table : Table) where
  pub goes_on_append : (a b c : List Sym) (xs ys : List Occurrence) → GoesOn table a b xs → GoesOn table b c ys → GoesOn table a c (xs ++ ys)
  goes_on_append a b c xs ys g h rest r k = subst (λ (os : List Occurrence). Gathers table a os r) (sym (append_assoc xs ys rest)) (g (ys ++ rest) r (h rest r k))

  pub stops_at : (seen : List Sym) (os : List Occurrence) (fault : TermFault) → ((rest : List Occurrence) → Gathers table seen (os ++ rest) (Err fault)) → StopsAt table seen os fault
  stops_at seen os TooLarge h = h
  stops_at seen os NoSuchPosition h = h
  stops_at seen os (ArityClash a b d e) h = h
  stops_at seen os (TooMany a b) h = h
  stops_at seen os NoMemory h = tt

  -- a fault behind occurrences is one at all of them
  pub stops_behind : (a b : List Sym) (xs ys zs : List Occurrence) (fault : TermFault) → GoesOn table a b xs → StopsAt table b ys fault → StopsAt table a (xs ++ (ys ++ zs)) fault
  stops_behind a b xs ys zs fault g h = go fault h
    where
      made : (f : TermFault) → ((rest : List Occurrence) → Gathers table b (ys ++ rest) (Err f)) → (rest : List Occurrence) → Gathers table a ((xs ++ (ys ++ zs)) ++ rest) (Err f)
      made f k rest =
          let e : xs ++ (ys ++ (zs ++ rest)) ≡ (xs ++ (ys ++ zs)) ++ rest = ap (λ l. xs ++ l) (sym (append_assoc ys zs rest)) ∙ sym (append_assoc xs (ys ++ zs) rest) in
          subst (λ (os : List Occurrence). Gathers table a os (Err f)) e (g (ys ++ (zs ++ rest)) (Err f) (k (zs ++ rest)))

      go : (f : TermFault) → StopsAt table b ys f → StopsAt table a (xs ++ (ys ++ zs)) f
      go TooLarge h = made TooLarge h
      go NoSuchPosition h = made NoSuchPosition h
      go (ArityClash a b d e) h = made (ArityClash a b d e) h
      go (TooMany a b) h = made (TooMany a b) h
      go NoMemory h = tt

  module _ (term : ℕ) (ns : List Node) (i : ℕ) (d : Node) (h : i < length ns) where
    one_more : (f : Sym) (n : ℕ) → get_or ns i d ≡ App f n → occurrences_in term 0 (take (i + 1) ns) ≡ occurrences_in term 0 (take i ns) ++ occurrence term i f ∷ []
    one_more f n e =
        ap (occurrences_in term 0) (take_more ns i d h ∙ ap (λ y. take i ns ++ y ∷ []) e) ∙ occurrences_in-append term 0 (take i ns) (App f n ∷ []) ∙ ap (λ k. occurrences_in term 0 (take i ns) ++ occurrence term k f ∷ []) (let q : 0 + length (take i ns) ≡ i = omega (arith, length-take-le i ns (omega arith)) in q)

    pub node_goes_on : (f : Sym) (n : ℕ) (a b c : List Sym) → get_or ns i d ≡ App f n → GoesOn table a b (occurrences_in term 0 (take i ns)) → GoesOn table b c (occurrence term i f ∷ []) → GoesOn table a c (occurrences_in term 0 (take (i + 1) ns))
    node_goes_on f n a b c e g k = subst (GoesOn table a c) (sym (one_more f n e)) (goes_on_append a b c (occurrences_in term 0 (take i ns)) (occurrence term i f ∷ []) g k)

    pub node_passes : (x : ℕ) (a b : List Sym) → get_or ns i d ≡ Var x → GoesOn table a b (occurrences_in term 0 (take i ns)) → GoesOn table a b (occurrences_in term 0 (take (i + 1) ns))
    node_passes x a b e g = subst (GoesOn table a b) (sym (ap (occurrences_in term 0) (take_more ns i d h ∙ ap (λ y. take i ns ++ y ∷ []) e) ∙ occurrences_in-append term 0 (take i ns) (Var x ∷ []) ∙ append-nil (occurrences_in term 0 (take i ns)))) g

    pub node_stops : (f : Sym) (n : ℕ) (a b : List Sym) (fault : TermFault) → get_or ns i d ≡ App f n → GoesOn table a b (occurrences_in term 0 (take i ns)) → StopsAt table b (occurrence term i f ∷ []) fault → StopsAt table a (occurrences_in term 0 ns) fault
    node_stops f n a b fault e g k =
        let tail = occurrences_in term (i + 1) (drop (i + 1) ns) in
        let parts : ns ≡ take i ns ++ App f n ∷ drop (i + 1) ns = sym (take-append-drop i ns) ∙ ap (λ l. take i ns ++ l) (drop-at ns i d h ∙ ap (λ y. y ∷ drop (i + 1) ns) e) in
        let all : occurrences_in term 0 ns ≡ occurrences_in term 0 (take i ns) ++ occurrence term i f ∷ tail = ap (occurrences_in term 0) parts ∙ occurrences_in-append term 0 (take i ns) (App f n ∷ drop (i + 1) ns) ∙ ap (λ k. occurrences_in term 0 (take i ns) ++ occurrence term k f ∷ occurrences_in term (k + 1) (drop (i + 1) ns)) (let q : 0 + length (take i ns) ≡ i = omega (arith, length-take-le i ns (omega arith)) in q) in
        subst (λ (os : List Occurrence). StopsAt table a os fault) (sym all) (stops_behind a b (occurrences_in term 0 (take i ns)) (occurrence term i f ∷ []) tail fault g k)

pub occurrences_from-append : (n : ℕ) (ts us : List Tree) → occurrences_from n (ts ++ us) ≡ occurrences_from n ts ++ occurrences_from (n + length ts) us
occurrences_from-append n [] us = ap (λ k. occurrences_from k us) (let e : n ≡ n + 0 = omega arith in e)
occurrences_from-append n (t ∷ ts) us =
    ap (λ l. occurrences_in n 0 (flat t) ++ l) (occurrences_from-append (n + 1) ts us ∙ ap (λ k. occurrences_from (n + 1) ts ++ occurrences_from k us) (let e : n + 1 + length ts ≡ n + length (t ∷ ts) = omega arith in e))
    ∙ sym (append_assoc (occurrences_in n 0 (flat t)) (occurrences_from (n + 1) ts) (occurrences_from (n + length (t ∷ ts)) us))

module _ (table : Table) (ts : List Tree) where
  signature_fault : (fault : TermFault) → StopsAt table [] (occurrences_of ts) fault → IsSignatureFault table ts fault
  signature_fault TooLarge h = subst (λ (os : List Occurrence). Gathers table [] os (Err TooLarge)) (append-nil (occurrences_of ts)) (h [])
  signature_fault NoSuchPosition h = subst (λ (os : List Occurrence). Gathers table [] os (Err NoSuchPosition)) (append-nil (occurrences_of ts)) (h [])
  signature_fault (ArityClash a b d e) h = subst (λ (os : List Occurrence). Gathers table [] os (Err (ArityClash a b d e))) (append-nil (occurrences_of ts)) (h [])
  signature_fault (TooMany a b) h = subst (λ (os : List Occurrence). Gathers table [] os (Err (TooMany a b))) (append-nil (occurrences_of ts)) (h [])
  signature_fault NoMemory h = tt

  pub all_gathered : (i : ℕ) (seen : List Sym) → length ts ≤ i → GoesOn table [] seen (occurrences_of (take i ts)) → Gathers table [] (occurrences_of ts) (Ok seen)
  all_gathered i seen h g = subst (λ (os : List Occurrence). Gathers table [] os (Ok seen)) (append-nil (occurrences_of (take i ts)) ∙ ap occurrences_of (take_of_length-le ts i h)) (g [] (Ok seen) all_seen)

  module _ (i : ℕ) (t d : Tree) (h : i < length ts) (at : t ≡ get_or ts i d) (ns : List Node) (ns_is : ns ≡ flat t) where
    front_more : occurrences_of (take (i + 1) ts) ≡ occurrences_of (take i ts) ++ occurrences_in i 0 ns
    front_more =
        ap occurrences_of (take_more ts i d h ∙ ap (λ y. take i ts ++ y ∷ []) (sym at)) ∙ occurrences_from-append 0 (take i ts) (t ∷ []) ∙ ap (λ k. occurrences_of (take i ts) ++ (occurrences_in k 0 (flat t) ++ [])) (let q : 0 + length (take i ts) ≡ i = omega (arith, length-take-le i ts (omega arith)) in q)
        ∙ ap (λ l. occurrences_of (take i ts) ++ l) (append-nil (occurrences_in i 0 (flat t)) ∙ ap (occurrences_in i 0) (sym ns_is))

    pub term_goes_on : (a b : List Sym) → GoesOn table [] a (occurrences_of (take i ts)) → GoesOn table a b (occurrences_in i 0 ns) → GoesOn table [] b (occurrences_of (take (i + 1) ts))
    term_goes_on a b g k = subst (GoesOn table [] b) (sym front_more) (goes_on_append table [] a b (occurrences_of (take i ts)) (occurrences_in i 0 ns) g k)

    pub term_stops : (a : List Sym) (fault : TermFault) → GoesOn table [] a (occurrences_of (take i ts)) → StopsAt table a (occurrences_in i 0 ns) fault → IsSignatureFault table ts fault
    term_stops a fault g k =
        let tail = occurrences_from (i + 1) (drop (i + 1) ts) in
        let parts : ts ≡ take i ts ++ t ∷ drop (i + 1) ts = sym (take-append-drop i ts) ∙ ap (λ l. take i ts ++ l) (rw (add-one, drop-cons ts i d) (ap (λ y. y ∷ drop (suc i) ts) (sym at))) in
        let all : occurrences_of ts ≡ occurrences_of (take i ts) ++ (occurrences_in i 0 ns ++ tail) =
        ap occurrences_of parts ∙ occurrences_from-append 0 (take i ts) (t ∷ drop (i + 1) ts) ∙ ap (λ k. occurrences_of (take i ts) ++ (occurrences_in k 0 (flat t) ++ occurrences_from (k + 1) (drop (i + 1) ts))) (let q : 0 + length (take i ts) ≡ i = omega (arith, length-take-le i ts (omega arith)) in q)
        ∙ ap (λ l. occurrences_of (take i ts) ++ (occurrences_in i 0 l ++ tail)) (sym ns_is) in
        signature_fault fault (subst (λ (os : List Occurrence). StopsAt table [] os fault) (sym all) (stops_behind table [] a (occurrences_of (take i ts)) (occurrences_in i 0 ns) tail fault g k))
