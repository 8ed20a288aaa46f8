-- The variables of printed terms are numbered by first occurrence.
use Rattle.std.proofs.Common.{◌≡◌, ℕ, suc, ◌+◌, List, [], ◌∷◌, ◌++◌, map, refl, sym, ap, ◌∙◌, arith, append_assoc, append-nil, Bool, true, false, ◌||◌, ⊎_elim}
use Rattle.std.specs.Prelude.{◌==◌, Some, slice_get, decimal, bytes_eq}
use Rattle.std.specs.List.{list_any}
use Rattle.std.specs.Str.Parse.{digits_value}
use Rattle.std.proofs.lemmas.Fmt.{decimal_is_IsNumeral}
use Rattle.std.proofs.lemmas.Slice.Eq.{bytes_eq-Decides}
use Rattle.std.proofs.lemmas.Bool.{cases_Bool, both_ways, eq-eqb, eqb-true, or_left, or_right, or_cases, or_from}
use Rattle.std.proofs.lemmas.List.{map-append}
use Rattle.std.proofs.lemmas.List.Folds.{list_any-append}
use Rattle.uc_term.specs.Tree.{Tree, var, app, Trees, none, more}
use Rattle.uc_term.specs.Over.{AreOver}
use Rattle.uc_term.specs.Table.{Table, arity_of}
use Rattle.uc_term.specs.Variables.{variables, variables_all, is_among, firsts_after, firsts, place_of}
use Rattle.uc_clause.specs.Meaning.{with_name, with_names}
use Rattle.uc_clause.specs.Printing.{variable_text}
use Rattle.uc_clause.specs.Printable.{IsPrintableSymbol, IsNumbered, AreNumbered}
use Rattle.uc_clause.proofs.Longest.{no_test}
use Rattle.uc_clause.proofs.Printing.{numbered_both}
use Rattle.uc_clause.proofs.Printed.{IsReadable}
use Rattle.uc_clause.proofs.ReadBack.{AreKnown}

mutual
  pub term_numbered : (table : Table) (t : Tree) → IsReadable table t → AreNumbered (variables t)
  term_numbered table (var x) printable = (printable, tt)
  term_numbered table (app f ts) printable = args_numbered table ts printable.2

  args_numbered : (table : Table) (ts : Trees) → AreOver (IsPrintableSymbol table) (arity_of table) IsNumbered ts → AreNumbered (variables_all ts)
  args_numbered table none printable = tt
  args_numbered table (more t ts) printable = numbered_both (variables t) (variables_all ts) (term_numbered table t printable.0) (args_numbered table ts printable.1)

-- one name for each number
digits_once : (x y : ℕ) (said bs : List ℕ) → 88 ∷ said ≡ 88 ∷ bs → said ≡ bs
digits_once x y said bs e = cc

pub name_once : (x y : ℕ) → IsNumbered x → IsNumbered y → variable_text x ≡ variable_text y → x ≡ y
name_once x y h k e =
    let digits : decimal (x + 1) ≡ decimal (y + 1) = digits_once x y (decimal (x + 1)) (decimal (y + 1)) e in
    let same : x + 1 ≡ y + 1 = sym (decimal_is_IsNumeral (x + 1) (omega arith)).1 ∙ ap (digits_value 10) digits ∙ (decimal_is_IsNumeral (y + 1) (omega arith)).1 in
    omega arith

same_name : (x y : ℕ) → IsNumbered x → IsNumbered y → bytes_eq (variable_text x) (variable_text y) ≡ (x == y)
same_name x y h k = ⊎_elim
    (λ t. (bytes_eq-Decides (variable_text x) (variable_text y)).1 (ap variable_text (eqb-true x y t)) ∙ sym t)
    (λ f. no_test (bytes_eq (variable_text x) (variable_text y)) (λ s. both_ways (x == y) f (eq-eqb x y (name_once x y h k ((bytes_eq-Decides (variable_text x) (variable_text y)).0 s)))) ∙ sym f)
    (cases_Bool (x == y))

-- the names seen so far are those of these numbers
abbrev SeenAs : List (List ℕ) → List ℕ → Type 0
SeenAs seen known = (x : ℕ) → IsNumbered x → list_any (bytes_eq (variable_text x)) seen ≡ is_among x known

seen_more : (seen : List (List ℕ)) (known : List ℕ) (y : ℕ) → IsNumbered y → SeenAs seen known → SeenAs (seen ++ variable_text y ∷ []) (y ∷ known)
seen_more seen known y k said x h =
    list_any-append (bytes_eq (variable_text x)) seen (variable_text y ∷ []) ∙ rw (said x h, same_name x y h k) (swapped (is_among x known) (x == y))
  where
    swapped : (a b : Bool) → (a || (b || false)) ≡ (b || a)
    swapped true true = refl
    swapped true false = refl
    swapped false true = refl
    swapped false false = refl

with_known : (seen : List (List ℕ)) (x : List ℕ) → list_any (bytes_eq x) seen ≡ true → with_name seen x ≡ seen
with_known seen x e = rw e refl

with_new : (seen : List (List ℕ)) (x : List ℕ) → list_any (bytes_eq x) seen ≡ false → with_name seen x ≡ seen ++ x ∷ []
with_new seen x e = rw e refl

first_known : (known : List ℕ) (x : ℕ) (xs : List ℕ) → is_among x known ≡ true → firsts_after known (x ∷ xs) ≡ firsts_after known xs
first_known known x xs e = rw e refl

first_new : (known : List ℕ) (x : ℕ) (xs : List ℕ) → is_among x known ≡ false → firsts_after known (x ∷ xs) ≡ x ∷ firsts_after (x ∷ known) xs
first_new known x xs e = rw e refl

pub names_are : (xs known : List ℕ) (seen : List (List ℕ)) → AreNumbered xs → SeenAs seen known → with_names seen (map variable_text xs) ≡ seen ++ map variable_text (firsts_after known xs)
names_are [] known seen numbered said = sym (append-nil seen)
names_are (x ∷ xs) known seen numbered said = ⊎_elim
    (λ t. ap (λ l. with_names l (map variable_text xs)) (with_known seen (variable_text x) (said x numbered.0 ∙ t)) ∙ names_are xs known seen numbered.1 said ∙ ap (λ l. seen ++ map variable_text l) (sym (first_known known x xs t)))
    (λ f. ap (λ l. with_names l (map variable_text xs)) (with_new seen (variable_text x) (said x numbered.0 ∙ f)) ∙ names_are xs (x ∷ known) (seen ++ variable_text x ∷ []) numbered.1 (seen_more seen known x numbered.0 said) ∙ append_assoc seen (variable_text x ∷ []) (map variable_text (firsts_after (x ∷ known) xs)) ∙ ap (λ l. seen ++ map variable_text l) (sym (first_new known x xs f)))
    (cases_Bool (is_among x known))

pub names_of : (xs : List ℕ) → AreNumbered xs → with_names [] (map variable_text xs) ≡ map variable_text (firsts xs)
names_of xs numbered = names_are xs [] [] numbered (λ x h. refl)

pub with_names-append : (seen xs ys : List (List ℕ)) → with_names seen (xs ++ ys) ≡ with_names (with_names seen xs) ys
with_names-append seen [] ys = refl
with_names-append seen (x ∷ xs) ys = with_names-append (with_name seen x) xs ys

pub names_of_both : (xs ys : List ℕ) → AreNumbered xs → AreNumbered ys → with_names (with_names [] (map variable_text xs)) (map variable_text ys) ≡ map variable_text (firsts (xs ++ ys))
names_of_both xs ys h k = sym (with_names-append [] (map variable_text xs) (map variable_text ys)) ∙ ap (with_names []) (sym (map-append variable_text xs ys)) ∙ names_of (xs ++ ys) (numbered_both xs ys h k)

-- where a number stands
place_here : (k : ℕ) (ks : List ℕ) (x : ℕ) → (x == k) ≡ true → place_of (k ∷ ks) x ≡ 0
place_here k ks x e = rw e refl

place_later : (k : ℕ) (ks : List ℕ) (x : ℕ) → (x == k) ≡ false → place_of (k ∷ ks) x ≡ suc (place_of ks x)
place_later k ks x e = rw e (omega arith)

among_later : (k : ℕ) (ks : List ℕ) (x : ℕ) → (x == k) ≡ false → is_among x (k ∷ ks) ≡ true → is_among x ks ≡ true
among_later k ks x e t = rw e at t

place_is : (ks : List ℕ) (x : ℕ) → is_among x ks ≡ true → slice_get (map variable_text ks) (place_of ks x) ≡ Some (variable_text x)
place_is [] x t = cc
place_is (k ∷ ks) x t = ⊎_elim
    (λ here. ap (slice_get (map variable_text (k ∷ ks))) (place_here k ks x here) ∙ ap (λ y. Some (variable_text y)) (sym (eqb-true x k here)))
    (λ later. ap (slice_get (map variable_text (k ∷ ks))) (place_later k ks x later) ∙ place_is ks x (among_later k ks x later t))
    (cases_Bool (x == k))

among_firsts : (xs known : List ℕ) (y : ℕ) → is_among y xs ≡ true → is_among y known ≡ false → is_among y (firsts_after known xs) ≡ true
among_firsts [] known y t n = cc
among_firsts (x ∷ xs) known y t n = ⊎_elim
    (λ seen. ap (is_among y) (first_known known x xs seen) ∙ among_firsts xs known y (⊎_elim (λ same. absurd (both_ways (is_among y known) n (ap (λ z. is_among z known) (eqb-true y x same) ∙ seen))) (λ later. later) (or_cases (y == x) (is_among y xs) t)) n)
    (λ fresh. ap (is_among y) (first_new known x xs fresh) ∙ ⊎_elim (λ same. or_left (y == x) _ same) (λ other. or_right (y == x) _ (among_firsts xs (x ∷ known) y (among_later x xs y other t) (or_from (y == x) (is_among y known) other n))) (cases_Bool (y == x)))
    (cases_Bool (is_among x known))

-- each of the numbers is among the others
abbrev AreAmong : List ℕ → List ℕ → Type 0
AreAmong [] ks = Unit {0}
AreAmong (x ∷ xs) ks = (is_among x ks ≡ true) × AreAmong xs ks

known_by : (ks xs : List ℕ) → AreAmong xs ks → AreKnown (map variable_text ks) (place_of ks) xs
known_by ks [] among = tt
known_by ks (x ∷ xs) among = (place_is ks x among.0, known_by ks xs among.1)

all_among : (xs ks : List ℕ) → ((x : ℕ) → is_among x xs ≡ true → is_among x ks ≡ true) → AreAmong xs ks
all_among [] ks h = tt
all_among (x ∷ xs) ks h = (h x (or_left (x == x) _ (eq-eqb x x refl)), all_among xs ks (λ y t. h y (or_right (y == x) _ t)))

pub known_firsts : (xs : List ℕ) → AreKnown (map variable_text (firsts xs)) (place_of (firsts xs)) xs
known_firsts xs = known_by (firsts xs) xs (all_among xs (firsts xs) (λ x t. among_firsts xs [] x t refl))
