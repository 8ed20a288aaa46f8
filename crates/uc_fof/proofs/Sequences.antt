-- How what is read of a part makes the whole.
use Rattle.std.proofs.Common.{◌≡◌, ℕ, sym, subst}
use Rattle.std.specs.Prelude.{Result, Ok, Err, IfErr}
use Rattle.std.specs.Result.{IsErrAnd}
use Rattle.uc_fof.specs.declared.stop.Reason.{Reason}
use Rattle.uc_fof.specs.declared.stop.Halt.{Halt}
use Rattle.uc_fof.specs.declared.stop.Halt.TheVariants.{At, NoMemory}
use Rattle.uc_fof.specs.Rules.{Outcome, read, stop, Stops, Gives, Goes}
use Rattle.uc_fof.specs.Given.{IsRead, Passes}

-- where each stop of the part is one of the whole
pub hands_on : {V W : Type 0} (part : Outcome V → Type 0) (whole : Outcome W → Type 0) (err : Halt) → ((reason : Reason) (k : ℕ) → part (stop reason k) → whole (stop reason k)) → Stops part err → Stops whole err
hands_on part whole (At reason k) step h = step reason k h
hands_on part whole NoMemory step h = tt

-- a `?` hands on a stop of a part, which is one of the whole
pub exits_err : {V W T : Type 0} (part : Outcome V → Type 0) (whole : Outcome W → Type 0) (r : Result T Halt) (err : Halt) → IsErrAnd r (λ e. e ≡ err) → ((reason : Reason) (k : ℕ) → part (stop reason k) → whole (stop reason k)) → Stops part err → IfErr r (Stops whole)
exits_err part whole (Ok v) err h step s = tt
exits_err part whole (Err e) err h step s = subst (Stops whole) (sym h) (hands_on part whole err step s)

pub exits : {V W : Type 0} (part : Outcome V → Type 0) (whole : Outcome W → Type 0) (r : Result (W × ℕ) Halt) (err : Halt) → IsErrAnd r (λ e. e ≡ err) → ((reason : Reason) (k : ℕ) → part (stop reason k) → whole (stop reason k)) → Stops part err → Gives whole r
exits part whole (Ok v) err h step s = absurd h
exits part whole (Err e) err h step s = subst (Stops whole) (sym h) (hands_on part whole err step s)

pub exits_passes : {V W : Type 0} (part : Outcome V → Type 0) (whole : Outcome W → Type 0) (r : Result ℕ Halt) (err : Halt) → IsErrAnd r (λ e. e ≡ err) → ((reason : Reason) (k : ℕ) → part (stop reason k) → whole (stop reason k)) → Stops part err → Passes whole r
exits_passes part whole (Ok v) err h step s = absurd h
exits_passes part whole (Err e) err h step s = subst (Stops whole) (sym h) (hands_on part whole err step s)

-- where whatever the part comes to, with some value, is what the whole comes to
pub passes_more : {V W : Type 0} (part : Outcome V → Type 0) (whole : Outcome W → Type 0) (f : V → W) (r : Result ℕ Halt) → ((v : V) (end : ℕ) → part (read v end) → whole (read (f v) end)) → ((reason : Reason) (k : ℕ) → part (stop reason k) → whole (stop reason k)) → Passes part r → Passes whole r
passes_more part whole f (Ok end) go step p = record { value = f p.value; reads = go p.value end p.reads }
passes_more part whole f (Err e) go step p = hands_on part whole e step p

-- the same of a reader of a token
pub goes_passes : {W : Type 0} (part : Outcome (Unit {0}) → Type 0) (whole : Outcome W → Type 0) (w : W) (r : Result ℕ Halt) → ((end : ℕ) → part (read tt end) → whole (read w end)) → ((reason : Reason) (k : ℕ) → part (stop reason k) → whole (stop reason k)) → Goes part r → Passes whole r
goes_passes part whole w (Ok end) go step p = record { value = w; reads = go end p }
goes_passes part whole w (Err e) go step p = hands_on part whole e step p
