-- What two answers have in common that are one.
use Rattle.std.proofs.Common.{◌≡◌, ℕ, Bool, true, false, Option, Some, None, Result, Ok, Err}
use Rattle.uc_clause.specs.declared.grammar.stop.Why.{Why}
use Rattle.uc_clause.specs.Rules.{Outcome, read, stop}

pub yes_or_no : {b : Bool} → b ≡ true → b ≡ false → ⊥
yes_or_no e f = absurd cc

pub some_once : {V : Type 0} {o : Option V} {v w : V} → o ≡ Some v → o ≡ Some w → v ≡ w
some_once e f = cc

pub some_or_none : {V : Type 0} {o : Option V} {v : V} → o ≡ Some v → o ≡ None → ⊥
some_or_none e f = absurd cc

pub err_once : {V E : Type 0} {a b : E} → Path (Result V E) (Err a) (Err b) → a ≡ b
err_once e = cc

pub ok_once : {V E : Type 0} {a b : V} → Path (Result V E) (Ok a) (Ok b) → a ≡ b
ok_once e = cc

pub ok_or_err : {V E : Type 0} {a : V} {b : E} → Path (Result V E) (Ok a) (Err b) → ⊥
ok_or_err e = absurd cc

pub same_value : {V : Type 0} {v w : V} {m n : ℕ} → Path (Outcome V) (read v m) (read w n) → v ≡ w
same_value e = cc

pub same_end : {V : Type 0} {v w : V} {m n : ℕ} → Path (Outcome V) (read v m) (read w n) → m ≡ n
same_end e = cc

pub read_or_stop : {V : Type 0} {v : V} {m k : ℕ} {why : Why} → Path (Outcome V) (read v m) (stop why k) → ⊥
read_or_stop e = absurd cc

pub same_stop : {V : Type 0} {why other : Why} {k l : ℕ} → Path (Outcome V) (stop why k) (stop other l) → (why ≡ other) × (k ≡ l)
same_stop e = (cc, cc)

-- a stop is the same, whatever would have been read
pub stop_as : {V W : Type 0} {why other : Why} {k l : ℕ} → Path (Outcome V) (stop why k) (stop other l) → Path (Outcome W) (stop why k) (stop other l)
stop_as e = cc
