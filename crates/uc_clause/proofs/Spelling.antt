-- Names as they are printed.
use Rattle.std.proofs.Common.{◌≡◌, ℕ, ◌+◌, ◌<◌, ◌≤◌, List, [], ◌∷◌, ◌++◌, length, get_or, take, refl, sym, ap, ◌∙◌, arith, append_assoc, ⊎_elim, Bool, true, ◌||◌}
use Rattle.std.specs.Prelude.{◌==◌, nat_eq}
use Rattle.std.specs.List.{list_all, prefix_len}
use Rattle.std.proofs.Math.Seq.{take_all}
use Rattle.std.proofs.lemmas.Bool.{cases_Bool, eq-eqb, eqb-true, both_ways}
use Rattle.std.proofs.lemmas.Grind.{take_at_read}
use Rattle.std.proofs.lemmas.List.Sums.{prefix_len-le-length}
use Rattle.uc_clause.specs.Bytes.{is_lower, is_word, is_name}
use Rattle.uc_clause.specs.Names.{escaped}
use Rattle.uc_clause.proofs.Longest.{tail, tail_is, front_within, front_passes, no_test}

front_test : (p : ℕ → Bool) (xs : List ℕ) (n : ℕ) → n ≡ prefix_len p xs → nat_eq n (length xs) ≡ list_all p xs
front_test p xs n e = ⊎_elim
    (λ t. let all : n ≡ length xs = eqb-true n (length xs) t in t ∙ sym (let passes : list_all p (take (prefix_len p xs) xs) ≡ true = front_passes p xs in rw (take_all (prefix_len p xs) xs (omega arith)) at passes))
    (λ f. f ∙ sym (no_test (list_all p xs) (λ all. let most : length xs ≤ prefix_len p xs = front_within p xs (length xs) (omega arith) (rw (take_all (length xs) xs (omega arith)) all) in let same : n ≡ length xs = omega (arith, prefix_len-le-length p xs) in both_ways (nat_eq n (length xs)) f (eq-eqb n (length xs) same))))
    (cases_Bool (nat_eq n (length xs)))

pub name_test : (text : List ℕ) (n : ℕ) → 0 < length text → is_lower (get_or text 0 0) ≡ true → n ≡ prefix_len is_word (tail text) → nat_eq n (length (tail text)) ≡ is_name text
name_test [] n some l e = absurd (omega arith)
name_test (b ∷ bs) n some l e = rw (tail_is b bs, l) (front_test is_word bs n (e ∙ ap (prefix_len is_word) (tail_is b bs)))

escaped-cons : (b : ℕ) (xs : List ℕ) → escaped (b ∷ xs) ≡ escaped (b ∷ []) ++ escaped xs
escaped-cons b xs = ⊎_elim (λ t. rw t refl) (λ f. rw f refl) (cases_Bool (b == 92 || b == 39))

pub escaped-append : (xs ys : List ℕ) → escaped (xs ++ ys) ≡ escaped xs ++ escaped ys
escaped-append [] ys = refl
escaped-append (x ∷ xs) ys = escaped-cons x (xs ++ ys) ∙ ap (λ l. escaped (x ∷ []) ++ l) (escaped-append xs ys) ∙ sym (append_assoc (escaped (x ∷ [])) (escaped xs) (escaped ys)) ∙ ap (λ l. l ++ escaped ys) (sym (escaped-cons x xs))

pub escaped_more : (word : List ℕ) (i : ℕ) (out more start : List ℕ) → i < length word → out ≡ start ++ escaped (take i word) → more ≡ out ++ escaped (get_or word i 0 ∷ []) → more ≡ start ++ escaped (take (i + 1) word)
escaped_more word i out more start h e m =
    rw (m, e, (take_at_read word i 0 h).1, escaped-append) (append_assoc start (escaped (take i word)) (escaped (get_or word i 0 ∷ [])))
