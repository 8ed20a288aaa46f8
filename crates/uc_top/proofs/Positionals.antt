-- Lists of words that are the same have the same words.
use Rattle.std.proofs.Common.{ℕ, ◌≡◌, List, [], ◌∷◌}

pub first_name : {a b c d : List ℕ} → Path (List (List ℕ)) (a ∷ b ∷ []) (c ∷ d ∷ []) → a ≡ c
first_name e = cc

pub second_name : {a b c d : List ℕ} → Path (List (List ℕ)) (a ∷ b ∷ []) (c ∷ d ∷ []) → b ≡ d
second_name e = cc

pub head_name : {a b : List ℕ} {xs ys : List (List ℕ)} → Path (List (List ℕ)) (a ∷ xs) (b ∷ ys) → a ≡ b
head_name e = cc

pub tail_names : {a b : List ℕ} {xs ys : List (List ℕ)} → Path (List (List ℕ)) (a ∷ xs) (b ∷ ys) → xs ≡ ys
tail_names e = cc

pub only_name : {a b : List ℕ} → Path (List (List ℕ)) (a ∷ []) (b ∷ []) → a ≡ b
only_name e = cc
