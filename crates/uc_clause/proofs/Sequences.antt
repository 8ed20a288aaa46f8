-- How what is read of a part makes the whole.
use Rattle.std.proofs.Common.{◌≡◌, ℕ, sym, subst}
use Rattle.std.specs.Prelude.{Result, Ok, Err, IfOk, IfErr}
use Rattle.std.specs.Result.{IsErrAnd}
use Rattle.uc_clause.specs.declared.grammar.stop.Why.{Why}
use Rattle.uc_clause.specs.declared.grammar.stop.Stop.{Stop}
use Rattle.uc_clause.specs.declared.grammar.stop.Stop.TheVariants.{At, NoMemory}
use Rattle.uc_clause.specs.Rules.{Outcome, read, stop, Stops, Gives}

-- where each stop of the part is one of the whole
pub passes : {V W : Type 0} (part : Outcome V → Type 0) (whole : Outcome W → Type 0) (err : Stop) → ((why : Why) (k : ℕ) → part (stop why k) → whole (stop why k)) → Stops part err → Stops whole err
passes part whole (At why k) step h = step why k h
passes part whole NoMemory step h = tt

pub if_err : {V : Type 0} {P Q : Stop → Type 0} (r : Result V Stop) → ((e : Stop) → P e → Q e) → IfErr r P → IfErr r Q
if_err (Ok v) step h = tt
if_err (Err e) step h = step e h

pub if_ok : {V : Type 0} {P Q : V → Type 0} (r : Result V Stop) → ((v : V) → P v → Q v) → IfOk r P → IfOk r Q
if_ok (Ok v) step h = step v h
if_ok (Err e) step h = tt

-- where whatever the part comes to is what the whole comes to
pub gives_more : {V : Type 0} (part whole : Outcome V → Type 0) (r : Result (V × ℕ) Stop) → ((o : Outcome V) → part o → whole o) → Gives part r → Gives whole r
gives_more part whole (Ok v) step h = step (read v.0 v.1) h
gives_more part whole (Err (At why k)) step h = step (stop why k) h
gives_more part whole (Err NoMemory) step h = tt

-- a `?` hands on a stop of a part, which is one of the whole
pub exits_err : {V W T : Type 0} (part : Outcome V → Type 0) (whole : Outcome W → Type 0) (r : Result T Stop) (err : Stop) → IsErrAnd r (λ e. e ≡ err) → ((why : Why) (k : ℕ) → part (stop why k) → whole (stop why k)) → Stops part err → IfErr r (Stops whole)
exits_err part whole (Ok v) err h step s = tt
exits_err part whole (Err e) err h step s = subst (Stops whole) (sym h) (passes part whole err step s)

pub exits : {V W : Type 0} (part : Outcome V → Type 0) (whole : Outcome W → Type 0) (r : Result (W × ℕ) Stop) (err : Stop) → IsErrAnd r (λ e. e ≡ err) → ((why : Why) (k : ℕ) → part (stop why k) → whole (stop why k)) → Stops part err → Gives whole r
exits part whole (Ok v) err h step s = absurd h
exits part whole (Err e) err h step s = subst (Stops whole) (sym h) (passes part whole err step s)
