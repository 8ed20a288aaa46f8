-- One class noted before others.
use Rattle.std.proofs.Common.{◌≡◌, ℕ, ◌+◌, ◌-◌, ◌<◌, ◌≤◌, ◌==◌, ◌∙◌, Bool, true, false, List, [], ◌∷◌, length, drop, slice_index, if◌then◌else◌, ◌||◌, refl, sym, ap, subst, arith}
use Rattle.std.proofs.Math.ListN.{get_or}
use Rattle.std.proofs.lemmas.List.{drop_more}
use Rattle.uc_term.specs.Variables.{is_among}
use Rattle.uc_order.specs.VarOrders.{Classes, representative, class_of, first_or}
use Rattle.uc_kbo.specs.Noted.{AreNoted}

either : {A : Type 0} (b c : Bool) (f o new mid : A) → new ≡ (if b then f else mid) → mid ≡ (if c then f else o) → new ≡ (if b || c then f else o)
either true c f o new mid e k = e
either false c f o new mid e k = e ∙ k

-- the list from a place on, whose first element is before those behind it
from_here : (xs : List ℕ) (i : ℕ) → 0 < i → i ≤ length xs → drop (i - 1) xs ≡ slice_index xs (i - 1) ∷ drop i xs
from_here xs i some within = drop_more xs (i - 1) 0 (omega arith) ∙ ap (λ k. slice_index xs (i - 1) ∷ drop k xs) (omega arith)

-- one variable more of a class is noted
pub one_more : {A : Type 0} (xs : List ℕ) (i y : ℕ) (f o new mid : A) → 0 < i → i ≤ length xs → new ≡ (if y == slice_index xs (i - 1) then f else mid) → mid ≡ (if is_among y (drop i xs) then f else o) → new ≡ (if is_among y (drop (i - 1) xs) then f else o)
one_more xs i y f o new mid some within e k = subst (λ l. new ≡ (if is_among y l then f else o)) (sym (from_here xs i some within)) (either (y == slice_index xs (i - 1)) (is_among y (drop i xs)) f o new mid e k)

pub first_is : (x : ℕ) (xs : List ℕ) → 0 < length xs → first_or x xs ≡ slice_index xs 0
first_is x [] some = absurd (omega (arith, some))
first_is x (y ∷ ys) some = refl

number_before : (b : Bool) (n others c old new : ℕ) → others ≡ n + 1 → old ≡ others + c → new ≡ (if b then n else old) → new ≡ n + (if b then 0 else c + 1)
number_before true n others c old new o e k = omega (arith, k)
number_before false n others c old new o e k = omega (arith, k, o, e)

first_before : (b : Bool) (f r old new : ℕ) → old ≡ r → new ≡ (if b then f else old) → new ≡ (if b then f else r)
first_before true f r old new e k = k
first_before false f r old new e k = k ∙ e

-- one class more is noted
pub class_more : (c : List ℕ) (cs : Classes) (n others : ℕ) (firsts numbers new_firsts new_numbers : List ℕ) → others ≡ n + 1 → AreNoted cs others firsts numbers → length new_firsts ≡ 16 → length new_numbers ≡ 16 → ((x : ℕ) → x < 16 → slice_index new_firsts x ≡ (if is_among x c then first_or x c else slice_index firsts x)) → ((x : ℕ) → x < 16 → slice_index new_numbers x ≡ (if is_among x c then n else slice_index numbers x)) → AreNoted (c ∷ cs) n new_firsts new_numbers
class_more c cs n others firsts numbers new_firsts new_numbers o a fl nl f m = record {
  firsts_long = fl;
  numbers_long = nl;
  first = λ x h. first_before (is_among x c) (first_or x c) (representative cs x) (slice_index firsts x) (slice_index new_firsts x) (a.first x h) (f x h);
  number = λ x h. number_before (is_among x c) n others (class_of cs x) (slice_index numbers x) (slice_index new_numbers x) o (a.number x h) (m x h);
}

pub classes_from : (cs : Classes) (i : ℕ) (c : List ℕ) → 0 < i → i ≤ length cs → c ≡ get_or cs (i - 1) c → c ∷ drop i cs ≡ drop (i - 1) cs
classes_from cs i c some within e = sym (drop_more cs (i - 1) c (omega arith) ∙ ap (λ k. get_or cs (i - 1) c ∷ drop k cs) (omega arith) ∙ ap (λ d. d ∷ drop i cs) (sym e))
