-- The names of lines, as a set of vectors holds them.
use Rattle.std.proofs.Common.{◌≡◌, ℕ, ◌+◌, List, [], ◌∷◌, Some, refl, sym, ap, ◌∙◌}
use Rattle.std.specs.Prelude.{cond, ◌||◌, bytes_eq, Vec, position}
use Rattle.std.specs.List.{list_any, position_from}
use Rattle.std.proofs.lemmas.Iterator.Adapters.{position_from-zero}
use Rattle.std.specs.declared.alloc.Global.{Global}
use Rattle.uc_clause.proofs.Seen.{names_of}

pub any_of_names : (b : List ℕ) (ks : List (Vec ℕ Global)) → list_any (λ k. bytes_eq b k.items) ks ≡ list_any (bytes_eq b) (names_of ks)
any_of_names b [] = refl
any_of_names b (k ∷ ks) = ap (λ r. bytes_eq b k.items || r) (any_of_names b ks)

position_from_names : (b : List ℕ) (n : ℕ) (ks : List (Vec ℕ Global)) → position_from (λ k. bytes_eq b k.items) n ks ≡ position_from (bytes_eq b) n (names_of ks)
position_from_names b n [] = refl
position_from_names b n (k ∷ ks) = ap (cond (bytes_eq b k.items) (Some n)) (position_from_names b (n + 1) ks)

pub position_in_names : (b : List ℕ) (ks : List (Vec ℕ Global)) → position (λ k. bytes_eq b k.items) ks ≡ position (bytes_eq b) (names_of ks)
position_in_names b ks = position_from-zero (λ k. bytes_eq b k.items) ks ∙ position_from_names b 0 ks ∙ sym (position_from-zero (bytes_eq b) (names_of ks))
