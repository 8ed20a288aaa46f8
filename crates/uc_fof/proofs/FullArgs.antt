-- A functor's arguments up to the 255th, and the token with which a term stops.
use Rattle.std.proofs.Common.{◌≡◌, ℕ, ◌+◌, ◌<◌, ◌≤◌, List, length, Bool, refl, sym, ap, ◌∙◌, subst, arith}
use Rattle.std.specs.Prelude.{◌≢◌}
use Rattle.uc_clause.specs.declared.token.Token.{Token}
use Rattle.uc_clause.specs.declared.grammar.head.Head.TheVariants.{Variable, Functor, Neither}
use Rattle.uc_clause.specs.declared.grammar.stop.Why.{Why}
use Rattle.uc_clause.specs.declared.grammar.stop.Why.TheVariants.{NoItem, NoRole, NoSelection, NoTerm, NoSign, NoEnd, NoToken, Nodes, Parentheses, Arity, NoRule, Repeated}
use Rattle.uc_clause.specs.declared.grammar.stop.Stop.{Stop}
use Rattle.uc_clause.specs.declared.grammar.stop.Stop.TheVariants as stops
use Rattle.uc_clause.specs.Rules as clause
use Rattle.uc_clause.specs.Parse.{Parse, Parses, applied, also, size}
use Rattle.uc_clause.specs.Terms.{Term, Args, is_variable, is_constant, is_applied, is_node_too_many, is_no_term, stops_in_it, is_last, is_followed, is_one_too_many, is_followed_by_neither}
use Rattle.uc_clause.proofs.ReadOnce.{term_once}
use Rattle.uc_clause.proofs.Ends.{some_head}
use Rattle.uc_fof.specs.Given.{Full, is_full, isnt_full, Reaches}

abbrev IsDone : {V : Type 0} → clause.Outcome V → Type 0
IsDone (clause.read v end) = Unit {0}
IsDone (clause.stop why k) = ⊥

done_of : {V W : Type 0} (f : V → W) (o : clause.Outcome V) → IsDone (clause.mapped f o) → IsDone o
done_of f (clause.read v end) d = tt
done_of f (clause.stop why k) d = d

module _ (bytes : List ℕ) (tokens : List Token) where
  -- what is read behind some nodes is read behind fewer
  mutual
    relaxed : {used at : ℕ} {o : clause.Outcome Parse} (less : ℕ) → less ≤ used → IsDone o → Term bytes tokens used at o → Term bytes tokens less at o
    relaxed less le d (is_variable h r) = is_variable h (omega (arith, le, r))
    relaxed less le d (is_constant h r a) = is_constant h (omega (arith, le, r)) a
    relaxed less le d (is_applied {at = at} {outcome = o} h r b args) = is_applied h (omega (arith, le, r)) b (all_relaxed (less + 1) (omega (arith, le)) (done_of (applied at) o d) args)
    relaxed less le d (is_node_too_many h r) = absurd d
    relaxed less le d (is_no_term h) = absurd d

    all_relaxed : {functor number used at : ℕ} {o : clause.Outcome Parses} (less : ℕ) → less ≤ used → IsDone o → Args bytes tokens functor number used at o → Args bytes tokens functor number less at o
    all_relaxed less le d (stops_in_it x) = absurd d
    all_relaxed less le d (is_last x c) = is_last (relaxed less le tt x) c
    all_relaxed less le d (is_followed {p = p} {outcome = o} x c f args) = is_followed (relaxed less le tt x) c f (all_relaxed (less + size p) (omega (arith, le)) (done_of (also p) o d) args)
    all_relaxed less le d (is_one_too_many x c f) = absurd d
    all_relaxed less le d (is_followed_by_neither x c d') = absurd d

  fresh : {used at end : ℕ} {p : Parse} → Term bytes tokens used at (clause.read p end) → Term bytes tokens 0 at (clause.read p end)
  fresh x = relaxed 0 (omega arith) tt x

  same_end : {used other at end behind : ℕ} {p q : Parse} → Term bytes tokens used at (clause.read p end) → Term bytes tokens other at (clause.read q behind) → end ≡ behind
  same_end {end = end} {behind = behind} {p = p} {q = q} x y = let e : clause.read p end ≡ clause.read q behind = term_once bytes tokens (fresh x) (fresh y) in cc

  full_once : {number used other at comma end : ℕ} → Full bytes tokens number used at comma → Full bytes tokens number other at end → comma ≡ end
  full_once (is_full x f) (is_full y g) = same_end x y
  full_once (is_full x f) (isnt_full y g more) = absurd (omega (arith, f, g))
  full_once (isnt_full x f more) (is_full y g) = absurd (omega (arith, f, g))
  full_once {number} {used} {other} {at} {comma} {end} (isnt_full {middle = m} x f more) (isnt_full {used = v} {middle = l} {p = q} y g others) =
      let ends : l ≡ m = sym (same_end x y) in
      full_once more (subst (λ k. Full bytes tokens (number + 1) (v + size q) (k + 1) end) ends others)

  pub reaches_once : (why : Why) (k r q : ℕ) → Reaches bytes tokens why k r → Reaches bytes tokens why k q → r ≡ q
  reaches_once NoItem k r q a b = a ∙ sym b
  reaches_once NoRole k r q a b = a ∙ sym b
  reaches_once NoSelection k r q a b = a ∙ sym b
  reaches_once NoTerm k r q a b = a ∙ sym b
  reaches_once (NoSign first) k r q a b = a ∙ sym b
  reaches_once NoEnd k r q a b = a ∙ sym b
  reaches_once NoToken k r q a b = a ∙ sym b
  reaches_once Nodes k r q a b = a ∙ sym b
  reaches_once Parentheses k r q a b = a ∙ sym b
  reaches_once Arity k r q a b = full_once a.1 b.1
  reaches_once NoRule k r q a b = a ∙ sym b
  reaches_once Repeated k r q a b = a ∙ sym b

  pub reaches_itself : (why : Why) (k : ℕ) → why ≢ Arity → Reaches bytes tokens why k k
  reaches_itself NoItem k n = refl
  reaches_itself NoRole k n = refl
  reaches_itself NoSelection k n = refl
  reaches_itself NoTerm k n = refl
  reaches_itself (NoSign first) k n = refl
  reaches_itself NoEnd k n = refl
  reaches_itself NoToken k n = refl
  reaches_itself Nodes k n = refl
  reaches_itself Parentheses k n = refl
  reaches_itself Arity k n = absurd (n refl)
  reaches_itself NoRule k n = refl
  reaches_itself Repeated k n = refl

  term_within : {used at : ℕ} {o : clause.Outcome Parse} → Term bytes tokens used at o → IsDone o → at < length tokens
  term_within (is_variable {at = at} h r) d = some_head bytes tokens at (λ e. cc)
  term_within (is_constant {at = at} h r a) d = some_head bytes tokens at (λ e. cc)
  term_within (is_applied {at = at} h r b args) d = some_head bytes tokens at (λ e. cc)
  term_within (is_node_too_many h r) d = absurd d
  term_within (is_no_term h) d = absurd d

  pub full_within : {number used at comma : ℕ} → Full bytes tokens number used at comma → at < length tokens
  full_within (is_full x f) = term_within x tt
  full_within (isnt_full x f more) = term_within x tt

  -- an argument of those can't stop
  pub full_reads : {number used at comma : ℕ} (why : Why) (k : ℕ) → Full bytes tokens number used at comma → Term bytes tokens 0 at (clause.stop why k) → ⊥
  full_reads why k (is_full {end = end} {p = p} x f) y = let e : clause.read p end ≡ clause.stop why k = term_once bytes tokens (fresh x) y in cc
  full_reads why k (isnt_full {middle = middle} {p = p} x f more) y = let e : clause.read p middle ≡ clause.stop why k = term_once bytes tokens (fresh x) y in cc

  pub only_memory : {number used at comma : ℕ} (s : Stop) → Full bytes tokens number used at comma → clause.Stops (Term bytes tokens 0 at) s → s ≡ stops.NoMemory
  only_memory (stops.At why k) full x = absurd (full_reads why k full x)
  only_memory stops.NoMemory full x = refl

  -- some arguments are gone over, and the comma is that of the functor
  pub record Goes (functor number at : ℕ) : Type 0 where
    pub comma : ℕ
    pub used : ℕ
    pub rest : Full bytes tokens number used at comma
    pub all_used : ℕ
    pub whole : Full bytes tokens 1 all_used (functor + 2) comma

  pub goes_first : (functor : ℕ) → ((used : ℕ) × (comma : ℕ) × Full bytes tokens 1 used (functor + 2) comma) → Goes functor 1 (functor + 2)
  goes_first functor f = record { comma = f.1; used = f.0; rest = f.2; all_used = f.0; whole = f.2 }

  module _ (functor number at end : ℕ) (q : Parse) (x : Term bytes tokens 0 at (clause.read q end)) where
    last_at : {used comma : ℕ} → 255 ≤ number → Full bytes tokens number used at comma → comma ≡ end
    last_at few (is_full y f) = same_end y x
    last_at few (isnt_full y f more) = absurd (omega (arith, few, f))

    pub goes_last : 255 ≤ number → Goes functor number at → (used : ℕ) × Full bytes tokens 1 used (functor + 2) end
    goes_last few g = (g.all_used, subst (Full bytes tokens 1 g.all_used (functor + 2)) (last_at few g.rest) g.whole)

    next_at : {used comma : ℕ} → number < 255 → Full bytes tokens number used at comma → (u : ℕ) × Full bytes tokens (number + 1) u (end + 1) comma
    next_at more (is_full y f) = absurd (omega (arith, more, f))
    next_at {used = used} {comma = comma} few (isnt_full {p = p} y f more) = (used + size p, subst (λ k. Full bytes tokens (number + 1) (used + size p) (k + 1) comma) (same_end y x) more)

    pub goes_next : number < 255 → Goes functor number at → Goes functor (number + 1) (end + 1)
    goes_next few g = let n = next_at few g.rest in record { comma = g.comma; used = n.0; rest = n.1; all_used = g.all_used; whole = g.whole }
