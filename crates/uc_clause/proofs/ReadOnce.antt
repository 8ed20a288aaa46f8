-- A rule reads tokens in one way.
use Rattle.std.proofs.Common.{◌≡◌, ℕ, List, refl, sym, ap, ◌∙◌, arith}
use Rattle.uc_clause.specs.declared.token.Token.{Token}
use Rattle.uc_clause.specs.declared.terminal.Terminal.{Terminal}
use Rattle.uc_clause.specs.declared.grammar.stop.Why.{Why}
use Rattle.uc_clause.specs.Rules.{Outcome, read, stop, Rule, mapped, Then, goes_on, stops_first, the, gives, here, Choice, is_first, is_second}
use Rattle.uc_clause.specs.Parse.{Parse, Parses, applied}
use Rattle.uc_clause.specs.Terms.{Term, Args, is_variable, is_constant, is_applied, is_node_too_many, is_no_term, stops_in_it, is_last, is_followed, is_one_too_many, is_followed_by_neither}

-- a rule comes to one thing from any token on
abbrev pub Once : {V : Type 0} → Rule V → Type 0
Once {V} rule = (at : ℕ) (o p : Outcome V) → rule at o → rule at p → o ≡ p

then_once : {V W : Type 0} (first : Rule V) (next : V → Rule W) → Once first → ((v : V) → Once (next v)) → (at : ℕ) {o p : Outcome W} → Then first next at o → Then first next at p → o ≡ p
then_once first next one two at {o} {p} (goes_on {v = v} {middle = m} x n) (goes_on {v = w} {middle = k} y l) =
    let e = one at (read v m) (read w k) x y in
    let values : w ≡ v = cc in
    let middles : k ≡ m = cc in
    two v m o p n (rw middles at (rw values at l))
then_once first next one two at (goes_on {v = v} {middle = m} x n) (stops_first {why = why} {k = k} y) = let e = one at (read v m) (stop why k) x y in cc
then_once first next one two at (stops_first {why = why} {k = k} y) (goes_on {v = v} {middle = m} x n) = let e = one at (stop why k) (read v m) y x in cc
then_once first next one two at (stops_first {why = why} {k = k} x) (stops_first {why = other} {k = l} y) =
    let e = one at (stop why k) (stop other l) x y in
    let whys : why ≡ other = cc in
    let ks : k ≡ l = cc in
    rw (whys, ks) refl

pub both_once : {V W : Type 0} (first : Rule V) (next : V → Rule W) → Once first → ((v : V) → Once (next v)) → Once (Then first next)
both_once first next one two at o p x y = then_once first next one two at x y

pub gives_once : {V : Type 0} (v : V) → Once (gives v)
gives_once v at o p x y = x ∙ sym y

pub here_once : Once here
here_once at o p x y = x ∙ sym y

module _ (bytes : List ℕ) (tokens : List Token) where
  pub the_once : (terminal : Terminal) (why : Why) → Once (the bytes tokens terminal why)
  the_once terminal why at (read v end) (read w other) x y = ap (read v) (x.1 ∙ sym y.1)
  the_once terminal why at (read v end) (stop other k) x y = absurd (y.0 x.0)
  the_once terminal why at (stop other k) (read v end) x y = absurd (x.0 y.0)
  the_once terminal why at (stop a k) (stop b l) x y =
      let whys : a ≡ b = x.1 ∙ sym y.1 in
      let ks : k ≡ l = x.2 ∙ sym y.2 in
      rw (whys, ks) refl

  pub choice_once : {V : Type 0} (terminal : Terminal) (first second : Rule V) → Once first → Once second → Once (Choice bytes tokens terminal first second)
  choice_once terminal first second one two at o p (is_first e x) (is_first f y) = one at o p x y
  choice_once terminal first second one two at o p (is_first e x) (is_second f y) = absurd (f e)
  choice_once terminal first second one two at o p (is_second e x) (is_first f y) = absurd (e f)
  choice_once terminal first second one two at o p (is_second e x) (is_second f y) = two at o p x y

  mutual
    pub term_once : {used at : ℕ} {o p : Outcome Parse} → Term bytes tokens used at o → Term bytes tokens used at p → o ≡ p
    term_once (is_variable h r) (is_variable k s) = refl
    term_once (is_variable h r) (is_constant k s a) = cc
    term_once (is_variable h r) (is_applied k s b args) = absurd (cc)
    term_once (is_variable h r) (is_node_too_many k s) = absurd (omega arith)
    term_once (is_variable h r) (is_no_term k) = cc
    term_once (is_constant h r a) (is_variable k s) = cc
    term_once (is_constant h r a) (is_constant k s b) = refl
    term_once (is_constant h r a) (is_applied k s b args) = absurd (a b)
    term_once (is_constant h r a) (is_node_too_many k s) = absurd (omega arith)
    term_once (is_constant h r a) (is_no_term k) = cc
    term_once (is_applied h r b args) (is_variable k s) = absurd (cc)
    term_once (is_applied h r b args) (is_constant k s a) = absurd (a b)
    term_once (is_applied {at = at} h r b args) (is_applied k s c others) = ap (mapped (applied at)) (args_once args others)
    term_once (is_applied h r b args) (is_node_too_many k s) = absurd (omega arith)
    term_once (is_applied h r b args) (is_no_term k) = absurd (cc)
    term_once (is_node_too_many h r) (is_variable k s) = absurd (omega arith)
    term_once (is_node_too_many h r) (is_constant k s a) = absurd (omega arith)
    term_once (is_node_too_many h r) (is_applied k s b args) = absurd (omega arith)
    term_once (is_node_too_many h r) (is_node_too_many k s) = refl
    term_once (is_node_too_many h r) (is_no_term k) = absurd (h k)
    term_once (is_no_term h) (is_variable k s) = cc
    term_once (is_no_term h) (is_constant k s a) = cc
    term_once (is_no_term h) (is_applied k s b args) = absurd (cc)
    term_once (is_no_term h) (is_node_too_many k s) = absurd (k h)
    term_once (is_no_term h) (is_no_term k) = refl

    pub args_once : {functor number used at : ℕ} {o p : Outcome Parses} → Args bytes tokens functor number used at o → Args bytes tokens functor number used at p → o ≡ p
    args_once (stops_in_it x) (stops_in_it y) = let e = term_once x y in cc
    args_once (stops_in_it x) (is_last y b) = let e = term_once x y in cc
    args_once (stops_in_it x) (is_followed y b f args) = let e = term_once x y in absurd (cc)
    args_once (stops_in_it x) (is_one_too_many y b f) = let e = term_once x y in absurd (cc)
    args_once (stops_in_it x) (is_followed_by_neither y b d) = let e = term_once x y in absurd (cc)
    args_once (is_last x a) (stops_in_it y) = let e = term_once x y in cc
    args_once (is_last x a) (is_last y b) = let e = term_once x y in cc
    args_once (is_last {end = m} x a) (is_followed {end = n} y b f args) = let e = term_once x y in let ends : n ≡ m = cc in absurd (let c = rw ends at b in cc)
    args_once (is_last {end = m} x a) (is_one_too_many {end = n} y b f) = let e = term_once x y in let ends : n ≡ m = cc in absurd (let c = rw ends at b in cc)
    args_once (is_last {end = m} x a) (is_followed_by_neither {end = n} y b d) = let e = term_once x y in let ends : n ≡ m = cc in absurd (let c = rw ends at b in c a)
    args_once (is_followed x a f args) (stops_in_it y) = let e = term_once x y in absurd (cc)
    args_once (is_followed {end = m} x a f args) (is_last {end = n} y b) = let e = term_once x y in let ends : n ≡ m = cc in absurd (let c = rw ends at b in cc)
    args_once (is_followed {end = m} {p = p} {outcome = o} x a f args) (is_followed {end = n} {p = q} {outcome = other} y b g others) =
        let e = term_once x y in
        let ends : n ≡ m = cc in
        let parses : p ≡ q = cc in
        let outcomes : o ≡ other = args_once args (rw ends at (rw (sym parses) at others)) in
        rw (parses, outcomes) refl
    args_once (is_followed x a f args) (is_one_too_many y b g) = absurd (omega arith)
    args_once (is_followed {end = m} x a f args) (is_followed_by_neither {end = n} y b d) = let e = term_once x y in let ends : n ≡ m = cc in absurd (let c = rw ends at d in c a)
    args_once (is_one_too_many x a f) (stops_in_it y) = let e = term_once x y in absurd (cc)
    args_once (is_one_too_many {end = m} x a f) (is_last {end = n} y b) = let e = term_once x y in let ends : n ≡ m = cc in absurd (let c = rw ends at b in cc)
    args_once (is_one_too_many x a f) (is_followed y b g args) = absurd (omega arith)
    args_once (is_one_too_many x a f) (is_one_too_many y b g) = refl
    args_once (is_one_too_many {end = m} x a f) (is_followed_by_neither {end = n} y b d) = let e = term_once x y in let ends : n ≡ m = cc in absurd (let c = rw ends at d in c a)
    args_once (is_followed_by_neither x a d) (stops_in_it y) = let e = term_once x y in absurd (cc)
    args_once (is_followed_by_neither {end = m} x a d) (is_last {end = n} y b) = let e = term_once x y in let ends : m ≡ n = cc in absurd (let c = rw ends at a in c b)
    args_once (is_followed_by_neither {end = m} x a d) (is_followed {end = n} y b f args) = let e = term_once x y in let ends : m ≡ n = cc in absurd (let c = rw ends at d in c b)
    args_once (is_followed_by_neither {end = m} x a d) (is_one_too_many {end = n} y b f) = let e = term_once x y in let ends : m ≡ n = cc in absurd (let c = rw ends at d in c b)
    args_once (is_followed_by_neither x a d) (is_followed_by_neither y b f) = let e = term_once x y in cc
