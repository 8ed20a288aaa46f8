-- A facts' line names lines in one way.
use Rattle.std.proofs.Common.{◌≡◌, ℕ, ◌+◌, Bool, true, false, List, [], ◌∷◌, ◌++◌, length, refl, sym, ap, ap₂, ◌∙◌, arith}
use Rattle.std.specs.Prelude.{bytes_eq, slice_get, Some}
use Rattle.std.specs.List.{list_any, list_all, prefix_len}
use Rattle.std.specs.Cmp.Lexicographic.{bytes_decides}
use Rattle.std.proofs.lemmas.Bool.Decides.{nat_tests}
use Rattle.std.proofs.lemmas.List.{append_cancel_left}
use Rattle.uc_term.proofs.Finds.{any_none}
use Rattle.uc_clause.specs.Bytes.{is_lower, is_word, is_name}
use Rattle.uc_system.proofs.Splits.{and_left, and_right, and_both}
use Rattle.uc_certificate.specs.Headings.{facts_words, spaced, facts_line, AreNames}
use Rattle.uc_certificate.specs.FactNames.{in_name}

lower_in_name : (b : ℕ) → is_lower b ≡ true → in_name b ≡ true
lower_in_name b h = grind (arith, nat_tests)

word_in_name : (b : ℕ) → is_word b ≡ true → in_name b ≡ true
word_in_name b h = grind (arith, nat_tests)

words_in_name : (bs : List ℕ) → list_all is_word bs ≡ true → list_all in_name bs ≡ true
words_in_name [] h = refl
words_in_name (b ∷ bs) h = and_both (in_name b) _ (word_in_name b (and_left (is_word b) _ h)) (words_in_name bs (and_right (is_word b) _ h))

pub name_in_name : (w : List ℕ) → is_name w ≡ true → list_all in_name w ≡ true
name_in_name [] h = absurd cc
name_in_name (b ∷ bs) h = and_both (in_name b) _ (lower_in_name b (and_left (is_lower b) _ h)) (words_in_name bs (and_right (is_lower b) _ h))

-- a name ends at the next space
pub stops : (more : List (List ℕ)) → prefix_len in_name (spaced more) ≡ 0
stops [] = refl
stops (w ∷ ws) = refl

pub long : (w rest : List ℕ) → list_all in_name w ≡ true → prefix_len in_name rest ≡ 0 → prefix_len in_name (w ++ rest) ≡ length w
long [] rest h e = e
long (b ∷ w) rest h e =
    let here : in_name b ≡ true = and_left (in_name b) _ h in
    rw here (omega (arith, long w rest (and_right (in_name b) _ h) e))

pub same_split : (xs ys us vs : List ℕ) → length xs ≡ length ys → xs ++ us ≡ ys ++ vs → (xs ≡ ys) × (us ≡ vs)
same_split [] [] us vs n e = (refl, e)
same_split [] (y ∷ ys) us vs n e = absurd (omega arith)
same_split (x ∷ xs) [] us vs n e = absurd (omega arith)
same_split (x ∷ xs) (y ∷ ys) us vs n e =
    let heads : x ≡ y = cc in
    let tails : xs ++ us ≡ ys ++ vs = cc in
    let r = same_split xs ys us vs (omega arith) tails in
    (ap₂ (λ a l. a ∷ l) heads r.0, r.1)

spaced_once : (a b : List (List ℕ)) → AreNames a → AreNames b → spaced a ≡ spaced b → a ≡ b
spaced_once [] [] h k e = refl
spaced_once [] (w ∷ b) h k e = absurd cc
spaced_once (v ∷ a) [] h k e = absurd cc
spaced_once (v ∷ a) (w ∷ b) h k e =
    let whole : 32 ∷ v ++ spaced a ≡ 32 ∷ w ++ spaced b = e in
    let same : v ++ spaced a ≡ w ++ spaced b = cc in
    let many : length v ≡ length w = sym (long v (spaced a) (name_in_name v h.0) (stops a)) ∙ ap (prefix_len in_name) same ∙ long w (spaced b) (name_in_name w k.0) (stops b) in
    let r = same_split v w (spaced a) (spaced b) many same in
    ap₂ (λ n l. n ∷ l) r.0 (spaced_once a b h.1 k.1 r.1)

-- a line names lines in one way
pub facts_line_once : (a b : List (List ℕ)) → AreNames a → AreNames b → facts_line a ≡ facts_line b → a ≡ b
facts_line_once a b h k e = spaced_once a b h k (append_cancel_left facts_words (spaced a) (spaced b) e)

-- a name of a line is one of the names
pub known : (names : List (List ℕ)) (x : List ℕ) (i : ℕ) → slice_get names i ≡ Some x → list_any (bytes_eq x) names ≡ true
known names x i e = go (list_any (bytes_eq x) names) refl
  where
    go : (b : Bool) → list_any (bytes_eq x) names ≡ b → b ≡ true
    go true h = refl
    go false h = absurd (any_none (bytes_eq x) names i x h e ((bytes_decides x x).1 refl))
