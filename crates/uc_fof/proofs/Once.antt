-- A rule reads tokens in one way.
use Rattle.std.proofs.Common.{◌≡◌, ℕ, List, refl, sym, ap, ◌∙◌, subst}
use Rattle.uc_clause.specs.Rules as clause
use Rattle.uc_clause.proofs.ReadOnce as clauses
use Rattle.uc_fof.specs.declared.stop.Reason.{Reason}
use Rattle.uc_fof.specs.Rules.{Outcome, read, stop, Rule, Then, goes_on, stops_first, the, gives, here, stops, Choice, is_first, is_second, AsIn, as_in, outside}

-- a rule comes to one thing from any token on
abbrev pub Once : {V : Type 0} → Rule V → Type 0
Once {V} rule = (at : ℕ) (o p : Outcome V) → rule at o → rule at p → o ≡ p

then_once : {V W : Type 0} (first : Rule V) (next : V → Rule W) → Once first → ((v : V) → Once (next v)) → (at : ℕ) {o p : Outcome W} → Then first next at o → Then first next at p → o ≡ p
then_once first next one two at {o} {p} (goes_on {v = v} {middle = m} x n) (goes_on {v = w} {middle = k} y l) =
    let e = one at (read v m) (read w k) x y in
    let values : w ≡ v = cc in
    let middles : k ≡ m = cc in
    two v m o p n (rw middles at (rw values at l))
then_once first next one two at (goes_on {v = v} {middle = m} x n) (stops_first {reason = r} {k = k} y) = let e = one at (read v m) (stop r k) x y in cc
then_once first next one two at (stops_first {reason = r} {k = k} y) (goes_on {v = v} {middle = m} x n) = let e = one at (stop r k) (read v m) y x in cc
then_once first next one two at (stops_first {reason = r} {k = k} x) (stops_first {reason = q} {k = l} y) =
    let e = one at (stop r k) (stop q l) x y in
    let reasons : r ≡ q = cc in
    let ks : k ≡ l = cc in
    rw (reasons, ks) refl

pub both_once : {V W : Type 0} (first : Rule V) (next : V → Rule W) → Once first → ((v : V) → Once (next v)) → Once (Then first next)
both_once first next one two at o p x y = then_once first next one two at x y

pub gives_once : {V : Type 0} (v : V) → Once (gives v)
gives_once v at o p x y = x ∙ sym y

pub here_once : Once here
here_once at o p x y = x ∙ sym y

pub stops_once : {V : Type 0} (reason : Reason) → Once (stops {V = V} reason)
stops_once reason at o p x y = x ∙ sym y

pub the_once : (passes : ℕ → Type 0) (reason : Reason) → Once (the passes reason)
the_once passes reason at (read v end) (read w other) x y = ap (read v) (x.1 ∙ sym y.1)
the_once passes reason at (read v end) (stop other k) x y = absurd (y.0 x.0)
the_once passes reason at (stop other k) (read v end) x y = absurd (x.0 y.0)
the_once passes reason at (stop a k) (stop b l) x y =
    let reasons : a ≡ b = x.1 ∙ sym y.1 in
    let ks : k ≡ l = x.2 ∙ sym y.2 in
    rw (reasons, ks) refl

pub choice_once : {V : Type 0} (passes : ℕ → Type 0) (first second : Rule V) → Once first → Once second → Once (Choice passes first second)
choice_once passes first second one two at o p (is_first e x) (is_first f y) = one at o p x y
choice_once passes first second one two at o p (is_first e x) (is_second f y) = absurd (f e)
choice_once passes first second one two at o p (is_second e x) (is_first f y) = absurd (e f)
choice_once passes first second one two at o p (is_second e x) (is_second f y) = two at o p x y

as_in_once_at : {V : Type 0} (rule : clause.Rule V) → clauses.Once rule → (at : ℕ) {o p : Outcome V} → AsIn rule at o → AsIn rule at p → o ≡ p
as_in_once_at rule one at (as_in {outcome = o} x) (as_in {outcome = p} y) = ap outside (one at o p x y)

pub as_in_once : {V : Type 0} (rule : clause.Rule V) → clauses.Once rule → Once (AsIn rule)
as_in_once rule one at o p x y = as_in_once_at rule one at x y
