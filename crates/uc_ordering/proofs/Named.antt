-- The symbols that names name.
use Rattle.std.proofs.Common.{◌≡◌, ℕ, Bool, true, false, List, [], ◌∷◌, ◌++◌, ◌||◌, bytes_eq, find, Option, Some, None, if◌then◌else◌, refl, sym, ◌∙◌, subst}
use Rattle.std.specs.List.{list_any, cons_option}
use Rattle.std.specs.Cmp.Lexicographic.{bytes_decides}
use Rattle.std.proofs.lemmas.Bool.{false≢true}
use Rattle.uc_term.specs.declared.node.Sym.{Sym}
use Rattle.uc_term.specs.Table.{Table, name_of}
use Rattle.uc_term.specs.Signatures.{first_named}
use Rattle.uc_order.specs.Members.{In, in_front, in_rest, AreDistinct}
use Rattle.uc_ordering.specs.Choice.{first_again}
use Rattle.uc_ordering.specs.Precedence.{symbols_named}
use Rattle.uc_ordering.proofs.Signatures.{found_is}

find_none : {X : Type 0} (p : X → Bool) (x : X) (xs : List X) → find p (x ∷ xs) ≡ None → (p x ≡ false) × (find p xs ≡ None)
find_none {X} p x xs e = go (p x) refl e
  where
    go : (b : Bool) → p x ≡ b → (if b then Some x else find p xs) ≡ None → (p x ≡ false) × (find p xs ≡ None)
    go true q e = absurd cc
    go false q e = (q, e)

pub find_none-in : {X : Type 0} (p : X → Bool) (xs : List X) → find p xs ≡ None → (x : X) → In xs x → p x ≡ false
find_none-in p [] e x i = elim i [ ]
find_none-in p (x ∷ xs) e _ in_front = (find_none p x xs e).0
find_none-in p (y ∷ xs) e x (in_rest i) = find_none-in p xs (find_none p y xs e).1 x i

pub find_none-left : {X : Type 0} (p : X → Bool) (xs ys : List X) → find p (xs ++ ys) ≡ None → find p xs ≡ None
find_none-left p [] ys e = refl
find_none-left p (x ∷ xs) ys e = let r = find_none p x (xs ++ ys) e in rw r.0 (find_none-left p xs ys r.1)

pub find_none-right : {X : Type 0} (p : X → Bool) (xs ys : List X) → find p (xs ++ ys) ≡ None → find p ys ≡ None
find_none-right p [] ys e = e
find_none-right p (x ∷ xs) ys e = find_none-right p xs ys (find_none p x (xs ++ ys) e).1

pub any_in : (x : List ℕ) (xs : List (List ℕ)) → list_any (bytes_eq x) xs ≡ true → In xs x
any_in x [] e = absurd (false≢true e)
any_in x (y ∷ xs) e = go (bytes_eq x y) refl e (any_in x xs)
  where
    here : x ≡ y → In (y ∷ xs) x
    here same = let P : List ℕ → Type 0 = In (y ∷ xs) in subst P (sym same) in_front

    go : (b : Bool) → bytes_eq x y ≡ b → (b || list_any (bytes_eq x) xs) ≡ true → (list_any (bytes_eq x) xs ≡ true → In xs x) → In (y ∷ xs) x
    go true q e later = here ((bytes_decides x y).0 q)
    go false q e later = in_rest (later e)

pub in_any : (x : List ℕ) (xs : List (List ℕ)) → In xs x → list_any (bytes_eq x) xs ≡ true
in_any x [] i = elim i [ ]
in_any x (_ ∷ xs) in_front = rw ((bytes_decides x x).1 refl) refl
in_any x (y ∷ xs) (in_rest i) = go (bytes_eq x y) (in_any x xs i)
  where
    go : (b : Bool) → list_any (bytes_eq x) xs ≡ true → (b || list_any (bytes_eq x) xs) ≡ true
    go true e = refl
    go false e = e

-- names of which none stands again are all different
pub distinct_names : (xs : List (List ℕ)) → first_again xs ≡ None → AreDistinct xs
distinct_names [] e = tt
distinct_names (x ∷ xs) e = go (list_any (bytes_eq x) xs) refl e (distinct_names xs)
  where
    go : (b : Bool) → list_any (bytes_eq x) xs ≡ b → (if b then Some x else first_again xs) ≡ None → (first_again xs ≡ None → AreDistinct xs) → (In xs x → ⊥) × AreDistinct xs
    go true q e later = absurd cc
    go false q e later = (λ i. absurd (false≢true (sym q ∙ in_any x xs i)), later e)

module _ (table : Table) (own : List Sym) where
  -- a symbol that is named has a name among these
  pub named_from : (names : List (List ℕ)) (f : Sym) → In (symbols_named table own names) f → In names (name_of table f) × In own f
  named_from [] f i = elim i [ ]
  named_from (n ∷ names) f i = go (first_named table n own) refl i (named_from names f)
    where
      first : (g : Sym) → first_named table n own ≡ Some g → (fs : List Sym) → In (g ∷ fs) f → (In fs f → In names (name_of table f) × In own f) → In (n ∷ names) (name_of table f) × In own f
      first _ e fs in_front later = let r = found_is table own n f e in (let P : List ℕ → Type 0 = In (n ∷ names) in subst P (sym r.1) in_front, r.0)
      first g e fs (in_rest j) later = let r = later j in (in_rest r.0, r.1)

      go : (o : Option Sym) → first_named table n own ≡ o → In (cons_option o (symbols_named table own names)) f → (In (symbols_named table own names) f → In names (name_of table f) × In own f) → In (n ∷ names) (name_of table f) × In own f
      go None e j later = let r = later j in (in_rest r.0, r.1)
      go (Some g) e j later = first g e (symbols_named table own names) j later

  -- and one whose name is among these is named
  pub named_to : (names : List (List ℕ)) (name : List ℕ) (f : Sym) → first_named table name own ≡ Some f → In names name → In (symbols_named table own names) f
  named_to [] name f e i = elim i [ ]
  named_to (n ∷ names) _ f e in_front = rw e in_front
  named_to (n ∷ names) name f e (in_rest i) = go (first_named table n own) (named_to names name f e i)
    where
      go : (o : Option Sym) → In (symbols_named table own names) f → In (cons_option o (symbols_named table own names)) f
      go None j = j
      go (Some g) j = in_rest j

  pub distinct_named : (names : List (List ℕ)) → AreDistinct names → AreDistinct (symbols_named table own names)
  distinct_named [] a = tt
  distinct_named (n ∷ names) a = go (first_named table n own) refl (distinct_named names a.1)
    where
      go : (o : Option Sym) → first_named table n own ≡ o → AreDistinct (symbols_named table own names) → AreDistinct (cons_option o (symbols_named table own names))
      go None e d = d
      go (Some g) e d = (λ i. a.0 (let P : List ℕ → Type 0 = In names in subst P (found_is table own n g e).1 (named_from names g i).0), d)
