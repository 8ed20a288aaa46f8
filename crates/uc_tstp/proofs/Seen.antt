-- What was seen of each element of a list so far.
use Rattle.std.proofs.Common.{ℕ, ◌+◌, ◌<◌, ◌≤◌, List, [], ◌∷◌, ◌++◌, length, take, get_or, sym, subst}
use Rattle.std.specs.List.{AllByRecursion}
use Rattle.std.proofs.lemmas.List.{take_more, take_all}

module _ {X : Type 0} (P : X → Type 0) where
  all_both : (xs ys : List X) → AllByRecursion P xs → AllByRecursion P ys → AllByRecursion P (xs ++ ys)
  all_both [] ys all more = more
  all_both (x ∷ xs) ys all more = (all.0, all_both xs ys all.1 more)

  pub one_more : (xs : List X) (i : ℕ) (d : X) → i < length xs → AllByRecursion P (take i xs) → P (get_or xs i d) → AllByRecursion P (take (i + 1) xs)
  one_more xs i d h all p = subst (AllByRecursion P) (sym (take_more xs i d h)) (all_both (take i xs) (get_or xs i d ∷ []) all (p, tt))

  pub all_seen : (xs : List X) (i : ℕ) → length xs ≤ i → AllByRecursion P (take i xs) → AllByRecursion P xs
  all_seen xs i h all = subst (AllByRecursion P) (take_all i xs h) all
