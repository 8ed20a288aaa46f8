-- The first name that stands again, found from the end.
use Rattle.std.proofs.Common.{◌≡◌, ℕ, zero, suc, ◌+◌, ◌<◌, ◌≤◌, Bool, true, false, List, [], ◌∷◌, length, drop, get_or, bytes_eq, Option, Some, None, is_some, ◌||◌, map, if◌then◌else◌, refl, sym, ap, ◌∙◌, arith}
use Rattle.std.specs.List.{list_any}
use Rattle.uc_order.proofs.Renaming.{drop_more, drop_end}
use Rattle.uc_ordering.specs.Choice.{first_again}
use Rattle.uc_ordering.specs.Weights.{weight_given}
use Rattle.uc_ordering.proofs.NumberLists.{turned}

-- of the names from a place on, the first that stands again is the one at this place
abbrev pub Found : List (List ℕ) → ℕ → Option ℕ → Type 0
Found names place None = first_again (drop place names) ≡ None
Found names place (Some at) = (at < length names) × (first_again (drop place names) ≡ Some (get_or names at []))

pub none_found : (names : List (List ℕ)) → Found names (length names) None
none_found names = ap first_again (drop_end names (length names) (omega arith))

pub one_earlier : (names : List (List ℕ)) (place next : ℕ) (was : Bool) (later again : Option ℕ) → next + 1 ≡ place → place ≤ length names → was ≡ list_any (bytes_eq (get_or names next [])) (drop place names) → again ≡ (if was then Some next else later) → Found names place later → Found names next again
one_earlier names place next was later again e h w a f = go was w a f
  where
    split : drop next names ≡ get_or names next [] ∷ drop place names
    split = drop_more names next [] (omega (arith, e)) ∙ ap (λ n. get_or names next [] ∷ drop n names) e

    at : (b : Bool) → b ≡ list_any (bytes_eq (get_or names next [])) (drop place names) → first_again (drop next names) ≡ (if b then Some (get_or names next []) else first_again (drop place names))
    at b w = ap first_again split ∙ ap (λ c. if c then Some (get_or names next []) else first_again (drop place names)) (sym w)

    kept : (o : Option ℕ) → first_again (drop next names) ≡ first_again (drop place names) → Found names place o → Found names next o
    kept None q f = q ∙ f
    kept (Some n) q f = (f.0, q ∙ f.1)

    go : (b : Bool) → b ≡ list_any (bytes_eq (get_or names next [])) (drop place names) → again ≡ (if b then Some next else later) → Found names place later → Found names next again
    go true w a f = rw a (omega (arith, e), at true w)
    go false w a f = rw a (kept later (at false w) f)

-- the names from one place on, where the one before it is put to them
pub one_put : (names : List (List ℕ)) (place next v : ℕ) (name : List ℕ) (old new : List ℕ → Option ℕ) → next + 1 ≡ place → place ≤ length names → name ≡ get_or names next [] → ((n : List ℕ) → is_some (old n) ≡ list_any (bytes_eq n) (drop place names)) → ((n : List ℕ) → new n ≡ (if bytes_eq name n then Some v else old n)) → (n : List ℕ) → is_some (new n) ≡ list_any (bytes_eq n) (drop next names)
one_put names place next v name old new e h it was now n = ap is_some (now n) ∙ go (bytes_eq name n) refl ∙ sym split
  where
    split : list_any (bytes_eq n) (drop next names) ≡ (bytes_eq n name || list_any (bytes_eq n) (drop place names))
    split = ap (list_any (bytes_eq n)) (drop_more names next [] (omega (arith, e))) ∙ ap (λ m. bytes_eq n (get_or names next []) || list_any (bytes_eq n) (drop m names)) e ∙ ap (λ l. bytes_eq n l || list_any (bytes_eq n) (drop place names)) (sym it)

    go : (b : Bool) → bytes_eq name n ≡ b → is_some (if b then Some v else old n) ≡ (bytes_eq n name || list_any (bytes_eq n) (drop place names))
    go true q = rw (turned n name ∙ q) refl
    go false q = rw (turned n name ∙ q) (was n)

-- the same of weights
pub weight_put : (weights : List (List ℕ × ℕ)) (place next v : ℕ) (name : List ℕ) (d : List ℕ × ℕ) (old new : List ℕ → Option ℕ) → next + 1 ≡ place → place ≤ length weights → name ≡ (get_or weights next d).0 → v ≡ (get_or weights next d).1 → ((n : List ℕ) → old n ≡ weight_given (drop place weights) n) → ((n : List ℕ) → new n ≡ (if bytes_eq name n then Some v else old n)) → (n : List ℕ) → new n ≡ weight_given (drop next weights) n
weight_put weights place next v name d old new e h it this was now n =
    now n ∙ ap (λ o. if bytes_eq name n then Some v else o) (was n) ∙ ap (λ l. if bytes_eq l n then Some v else weight_given (drop place weights) n) it
    ∙ ap (λ w. if bytes_eq (get_or weights next d).0 n then Some w else weight_given (drop place weights) n) this
    ∙ sym (ap (λ l. weight_given l n) (drop_more weights next d (omega (arith, e)) ∙ ap (λ m. get_or weights next d ∷ drop m weights) e))

-- a name is some's number there exactly where it is among them
pub given_names : (weights : List (List ℕ × ℕ)) (n : List ℕ) → is_some (weight_given weights n) ≡ list_any (bytes_eq n) (map (λ p. p.0) weights)
given_names [] n = refl
given_names (p ∷ ps) n = go (bytes_eq p.0 n) refl (given_names ps n)
  where
    go : (b : Bool) → bytes_eq p.0 n ≡ b → is_some (weight_given ps n) ≡ list_any (bytes_eq n) (map (λ p. p.0) ps) → is_some (if b then Some p.1 else weight_given ps n) ≡ (bytes_eq n p.0 || list_any (bytes_eq n) (map (λ p. p.0) ps))
    go true q later = rw (turned n p.0 ∙ q) refl
    go false q later = rw (turned n p.0 ∙ q) later

pub get_any : {X : Type 0} (xs : List X) (i : ℕ) (d e : X) → i < length xs → get_or xs i d ≡ get_or xs i e
get_any [] i d e h = absurd (omega arith)
get_any (x ∷ xs) zero d e h = refl
get_any (x ∷ xs) (suc i) d e h = get_any xs i d e (omega arith)
