-- What a loop has made of a list, one item further.
use Rattle.std.proofs.Common.{◌≡◌, ℕ, ◌+◌, ◌<◌, List, [], ◌∷◌, ◌++◌, length, get_or, take, map, Bool, true, false, cond, refl, ap, ◌∙◌}
use Rattle.std.specs.Prelude.{not, count_by}
use Rattle.std.proofs.lemmas.List.{take_more, map_push, append-nil}
use Rattle.std.proofs.lemmas.List.Sums.{sum_by_push}
use Rattle.std.proofs.lemmas.List.Elements.{filter-append}
use Rattle.uc_shelf.specs.declared.entry.Entry.{Entry}
use Rattle.uc_shelf.specs.Entries.{is_dead}
use Rattle.uc_rows.specs.Deaths.{alive_of}

pub map_more : {A B : Type 0} (f : A → B) (xs : List A) (i : ℕ) (d : A) → i < length xs → map f (take (i + 1) xs) ≡ map f (take i xs) ++ f (get_or xs i d) ∷ []
map_more f xs i d l = ap (map f) (take_more xs i d l) ∙ map_push f (take i xs) (get_or xs i d)

one_more : (es : List Entry) (ks : List ℕ) (i : ℕ) → i < length ks → alive_of es (take (i + 1) ks) ≡ alive_of es (take i ks) ++ alive_of es (get_or ks i 0 ∷ [])
one_more es ks i l = ap (alive_of es) (take_more ks i 0 l) ∙ filter-append (λ k. not (is_dead es k)) (take i ks) (get_or ks i 0 ∷ [])

pub alive_more : (es : List Entry) (ks : List ℕ) (i : ℕ) → i < length ks → is_dead es (get_or ks i 0) ≡ false → alive_of es (take (i + 1) ks) ≡ alive_of es (take i ks) ++ get_or ks i 0 ∷ []
alive_more es ks i l e =
    let one : alive_of es (get_or ks i 0 ∷ []) ≡ get_or ks i 0 ∷ [] = rw e refl in
    one_more es ks i l ∙ ap (λ z. alive_of es (take i ks) ++ z) one

pub alive_same : (es : List Entry) (ks : List ℕ) (i : ℕ) → i < length ks → is_dead es (get_or ks i 0) ≡ true → alive_of es (take (i + 1) ks) ≡ alive_of es (take i ks)
alive_same es ks i l e =
    let none : alive_of es (get_or ks i 0 ∷ []) ≡ [] = rw e refl in
    one_more es ks i l ∙ ap (λ z. alive_of es (take i ks) ++ z) none ∙ append-nil (alive_of es (take i ks))

pub count_more : {A : Type 0} (p : A → Bool) (xs : List A) (i : ℕ) (d : A) → i < length xs → count_by p (take (i + 1) xs) ≡ count_by p (take i xs) + cond (p (get_or xs i d)) 1 0
count_more p xs i d l = ap (count_by p) (take_more xs i d l) ∙ sum_by_push (λ x. cond (p x) 1 0) (take i xs) (get_or xs i d)
