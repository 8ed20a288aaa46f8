-- What two answers have in common that are one.
use Rattle.std.proofs.Common.{◌≡◌, ℕ, ◌<◌, ◌≤◌, Bool, true, false, Option, Some, None, Result, Ok, Err, ap, arith}

pub yes_or_no : {b : Bool} → b ≡ true → b ≡ false → ⊥
yes_or_no e f = absurd cc

pub less_or_not : {m n : ℕ} → m < n → n ≤ m → ⊥
less_or_not h k = absurd (omega arith)

pub some_once : {V : Type 0} {o : Option V} {v w : V} → o ≡ Some v → o ≡ Some w → v ≡ w
some_once e f = cc

pub some_or_none : {V : Type 0} {o : Option V} {v : V} → o ≡ Some v → o ≡ None → ⊥
some_or_none e f = absurd cc

pub ok_once : {V E : Type 0} {a b : V} → Path (Result V E) (Ok a) (Ok b) → a ≡ b
ok_once e = cc

pub err_once : {V E : Type 0} {a b : E} → Path (Result V E) (Err a) (Err b) → a ≡ b
err_once e = cc

pub ok_or_err : {V E : Type 0} {a : V} {b : E} → Path (Result V E) (Ok a) (Err b) → ⊥
ok_or_err e = absurd cc

pub is_err_once : {V E : Type 0} {r : Result V E} {a b : E} → r ≡ Err a → r ≡ Err b → a ≡ b
is_err_once e f = cc

pub is_ok_once : {V E : Type 0} {r : Result V E} {a b : V} → r ≡ Ok a → r ≡ Ok b → a ≡ b
is_ok_once e f = cc

pub is_ok_or_err : {V E : Type 0} {r : Result V E} {a : V} {b : E} → r ≡ Ok a → r ≡ Err b → ⊥
is_ok_or_err e f = absurd cc

pub first_once : {A B : Type 0} {a c : A} {b d : B} → Path (A × B) (a, b) (c, d) → a ≡ c
first_once {A} {B} e = ap (λ (p : A × B). p.0) e

pub second_once : {A B : Type 0} {a c : A} {b d : B} → Path (A × B) (a, b) (c, d) → b ≡ d
second_once {A} {B} e = ap (λ (p : A × B). p.1) e
