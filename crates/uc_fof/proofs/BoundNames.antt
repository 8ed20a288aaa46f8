-- The names of bound variables, as a set of vectors holds them.
use Rattle.std.proofs.Common.{◌≡◌, ℕ, List, [], ◌∷◌, refl, ap}
use Rattle.std.specs.Prelude.{◌||◌, bytes_eq, Vec}
use Rattle.std.specs.List.{list_any}
use Rattle.std.specs.declared.alloc.Global.{Global}
use Rattle.uc_clause.proofs.Seen.{names_of}

pub any_of_names : (b : List ℕ) (ks : List (Vec ℕ Global)) → list_any (λ k. bytes_eq b k.items) ks ≡ list_any (bytes_eq b) (names_of ks)
any_of_names b [] = refl
any_of_names b (k ∷ ks) = ap (λ r. bytes_eq b k.items || r) (any_of_names b ks)
