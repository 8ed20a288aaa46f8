-- How far reading a term goes, and what it comes to where variables must be bound.
use Rattle.std.proofs.Common.{◌≡◌, ℕ, ◌+◌, ◌<◌, ◌≤◌, List, Bool, true, false, refl, sym, ap, ◌∙◌, subst, arith, ◌⊎◌, inl, inr}
use Rattle.std.specs.Prelude.{◌≢◌}
use Rattle.uc_clause.specs.declared.token.Token.{Token}
use Rattle.uc_clause.specs.declared.terminal.Terminal.{Terminal}
use Rattle.uc_clause.specs.declared.terminal.Terminal.TheVariants.{Lower, Upper, Quoted, Open, Close, Comma}
use Rattle.uc_clause.specs.declared.grammar.head.Head.TheVariants.{Variable, Functor, Neither}
use Rattle.uc_clause.specs.declared.grammar.stop.Why.{Why}
use Rattle.uc_clause.specs.declared.grammar.stop.Why.TheVariants.{NoTerm, NoToken, Nodes, Arity}
use Rattle.uc_clause.specs.Terminals.{terminal_at}
use Rattle.uc_clause.specs.Rules as clause
use Rattle.uc_clause.specs.Parse.{Parse, variable, applied, Parses, no_more, also, size}
use Rattle.uc_clause.specs.Terms as terms
use Rattle.uc_clause.specs.Meaning.{Variables}
use Rattle.std.proofs.lemmas.Bool.{cases_lt}
use Rattle.uc_fof.specs.declared.stop.Reason.{Reason}
use Rattle.uc_fof.specs.declared.stop.Reason.TheVariants.{Inside, Unread}
use Rattle.uc_fof.specs.Rules.{Outcome, read, stop, mapped}
use Rattle.uc_fof.specs.Terms.{Term, Args, is_variable, is_free, is_constant, is_applied, is_node_too_many, is_no_term, stops_in_it, is_last, is_followed, is_one_too_many, is_followed_by_neither, is_bound}
use Rattle.uc_fof.proofs.FullArgs.{reaches_once}
use Rattle.uc_fof.specs.Given.{IsFree, AreBound, IsFirstFree, Full, is_full, isnt_full, Reaches}

module _ (bytes : List ℕ) (tokens : List Token) where
  -- a variable is an Upper
  pub upper_head : (at : ℕ) → terminal_at bytes tokens at ≡ Upper → terms.head_at bytes tokens at ≡ Variable
  upper_head at e = ap terms.head_of e

  head_upper : (t : Terminal) → terms.head_of t ≡ Variable → t ≡ Upper
  head_upper Upper e = refl
  head_upper t e = absurd cc

  -- the token with which a term stops, or the one behind it
  abbrev mutual
    pub reach : {used at : ℕ} {o : clause.Outcome Parse} → terms.Term bytes tokens used at o → ℕ
    reach (terms.is_variable {at = at} h r) = at + 1
    reach (terms.is_constant {at = at} h r a) = at + 1
    reach (terms.is_applied h r b args) = reach_args args
    reach (terms.is_node_too_many {at = at} h r) = at
    reach (terms.is_no_term {at = at} h) = at

    pub reach_args : {functor number used at : ℕ} {o : clause.Outcome Parses} → terms.Args bytes tokens functor number used at o → ℕ
    reach_args (terms.stops_in_it x) = reach x
    reach_args (terms.is_last {end = end} x c) = end + 1
    reach_args (terms.is_followed x c f args) = reach_args args
    reach_args (terms.is_one_too_many {end = end} x c f) = end
    reach_args (terms.is_followed_by_neither {end = end} x c d) = end

  -- where reading ends, that is where it has got to; where it stops, it is the token that the reason names
  abbrev pub Arrives : {V : Type 0} → clause.Outcome V → ℕ → Type 0
  Arrives (clause.read v end) r = r ≡ end
  Arrives (clause.stop why k) r = Reaches bytes tokens why k r

  abbrev ArrivesIn : ℕ → ℕ → ℕ → ℕ → clause.Outcome Parses → ℕ → Type 0
  ArrivesIn functor number used at (clause.read ps end) r = r ≡ end
  ArrivesIn functor number used at (clause.stop why k) r = Reaches bytes tokens why k r ⊎ ((why ≡ Arity) × (k ≡ functor) × Full bytes tokens number used at r)

  first_of : (used at r : ℕ) (o : clause.Outcome Parses) → ArrivesIn at 1 (used + 1) (at + 2) o r → Arrives (clause.mapped (applied at) o) r
  first_of used at r (clause.read ps end) h = h
  first_of used at r (clause.stop why k) (inl h) = h
  first_of used at r (clause.stop why k) (inr h) =
      let full : Reaches bytes tokens Arity at r = (used + 1, h.2) in
      rw (h.0, h.1) full

  more_of : (functor number used at end r : ℕ) (p : Parse) (o : clause.Outcome Parses) → terms.Term bytes tokens used at (clause.read p end) → number < 255 → ArrivesIn functor (number + 1) (used + size p) (end + 1) o r → ArrivesIn functor number used at (clause.mapped (also p) o) r
  more_of functor number used at end r p (clause.read ps e) x few h = h
  more_of functor number used at end r p (clause.stop why k) x few (inl h) = inl h
  more_of functor number used at end r p (clause.stop why k) x few (inr h) = inr (h.0, h.1, isnt_full x few h.2)

  mutual
    pub arrives : {used at : ℕ} {o : clause.Outcome Parse} (x : terms.Term bytes tokens used at o) → Arrives o (reach x)
    arrives (terms.is_variable h r) = refl
    arrives (terms.is_constant h r a) = refl
    arrives (terms.is_applied {used = used} {at = at} {outcome = o} h r b args) = first_of used at (reach_args args) o (arrives_in args)
    arrives (terms.is_node_too_many h r) = refl
    arrives (terms.is_no_term h) = refl

    arrives_in : {functor number used at : ℕ} {o : clause.Outcome Parses} (x : terms.Args bytes tokens functor number used at o) → ArrivesIn functor number used at o (reach_args x)
    arrives_in (terms.stops_in_it x) = inl (arrives x)
    arrives_in (terms.is_last x c) = refl
    arrives_in (terms.is_followed {functor = functor} {number = number} {used = used} {at = at} {end = end} {p = p} {outcome = o} x c f args) = more_of functor number used at end (reach_args args) p o x f (arrives_in args)
    arrives_in (terms.is_one_too_many x c f) = inr (refl, refl, is_full x f)
    arrives_in (terms.is_followed_by_neither x c d) = inl refl

  mutual
    pub reach_ahead : {used at : ℕ} {o : clause.Outcome Parse} (x : terms.Term bytes tokens used at o) → at ≤ reach x
    reach_ahead (terms.is_variable h r) = omega arith
    reach_ahead (terms.is_constant h r a) = omega arith
    reach_ahead (terms.is_applied h r b args) = omega (arith, args_ahead args)
    reach_ahead (terms.is_node_too_many h r) = omega arith
    reach_ahead (terms.is_no_term h) = omega arith

    args_ahead : {functor number used at : ℕ} {o : clause.Outcome Parses} (x : terms.Args bytes tokens functor number used at o) → at ≤ reach_args x
    args_ahead (terms.stops_in_it x) = reach_ahead x
    args_ahead (terms.is_last x c) = omega (arith, reach_ahead x, arrives x)
    args_ahead (terms.is_followed x c f args) = omega (arith, reach_ahead x, arrives x, args_ahead args)
    args_ahead (terms.is_one_too_many x c f) = omega (arith, reach_ahead x, arrives x)
    args_ahead (terms.is_followed_by_neither x c d) = omega (arith, reach_ahead x, arrives x)

  module _ (conjecture : Bool) (bound : Variables) where
    abbrev Reads : ℕ → ℕ → Outcome Parse → Type 0
    Reads used at o = Term bytes tokens conjecture bound used at o

    abbrev ReadsAll : ℕ → ℕ → ℕ → ℕ → Outcome Parses → Type 0
    ReadsAll functor number used at o = Args bytes tokens conjecture bound functor number used at o

    abbrev pub inside : {V : Type 0} → clause.Outcome V → Outcome V
    inside (clause.read v end) = read v end
    inside (clause.stop why k) = stop (Inside conjecture why) k

    inside_mapped : {V W : Type 0} (f : V → W) (o : clause.Outcome V) → mapped f (inside o) ≡ inside (clause.mapped f o)
    inside_mapped f (clause.read v end) = refl
    inside_mapped f (clause.stop why k) = refl

    bound_there : (at : ℕ) → terms.head_at bytes tokens at ≡ Variable → (IsFree bytes tokens bound at → ⊥) → is_bound bytes tokens bound at ≡ true
    bound_there at h n = go (is_bound bytes tokens bound at) refl
      where
        go : (b : Bool) → is_bound bytes tokens bound at ≡ b → b ≡ true
        go true e = refl
        go false e = absurd (n (head_upper (terminal_at bytes tokens at) h, e))

    later : (from middle to : ℕ) → from ≤ middle → AreBound bytes tokens bound from to → AreBound bytes tokens bound middle to
    later from middle to le all k h less = all k (omega (arith, le, h)) less

    earlier : (from middle to : ℕ) → middle ≤ to → AreBound bytes tokens bound from to → AreBound bytes tokens bound from middle
    earlier from middle to le all k h less = all k h (omega (arith, le, less))

    -- up to where reading has got, where all variables are bound
    up_to : {used at end : ℕ} {p : Parse} (to : ℕ) (x : terms.Term bytes tokens used at (clause.read p end)) → end ≤ to → AreBound bytes tokens bound at to → AreBound bytes tokens bound at (reach x)
    up_to {at = at} to x le all = earlier at (reach x) to (omega (arith, arrives x, le)) all

    -- where all variables are bound, reading goes as in a clause
    mutual
      pub bounded : {used at : ℕ} {o : clause.Outcome Parse} (x : terms.Term bytes tokens used at o) → AreBound bytes tokens bound at (reach x) → Reads used at (inside o)
      bounded (terms.is_variable {at = at} h r) all = is_variable h r (bound_there at h (all at (omega arith) (omega arith)))
      bounded (terms.is_constant h r a) all = is_constant h r a
      bounded (terms.is_applied {used = used} {at = at} {outcome = o} h r b args) all = subst (Reads used at) (inside_mapped (applied at) o) (is_applied h r b (all_bounded args (later at (at + 2) (reach_args args) (omega arith) all)))
      bounded (terms.is_node_too_many h r) all = is_node_too_many h r
      bounded (terms.is_no_term h) all = is_no_term h

      pub all_bounded : {functor number used at : ℕ} {o : clause.Outcome Parses} (x : terms.Args bytes tokens functor number used at o) → AreBound bytes tokens bound at (reach_args x) → ReadsAll functor number used at (inside o)
      all_bounded (terms.stops_in_it x) all = stops_in_it (bounded x all)
      all_bounded (terms.is_last {end = end} x c) all = is_last (bounded x (up_to (end + 1) x (omega arith) all)) c
      all_bounded (terms.is_followed {functor = functor} {number = number} {used = used} {at = at} {end = end} {p = p} {outcome = o} x c f args) all =
          let ahead : end + 1 ≤ reach_args args = args_ahead args in
          let begins : at ≤ reach x = reach_ahead x in
          let ends : reach x ≡ end = arrives x in
          subst (ReadsAll functor number used at) (inside_mapped (also p) o) (is_followed (bounded x (up_to (reach_args args) x (omega (arith, ahead)) all)) c f (all_bounded args (later at (end + 1) (reach_args args) (omega (arith, begins, ends)) all)))
      all_bounded (terms.is_one_too_many {end = end} x c f) all = is_one_too_many (bounded x (up_to end x (omega arith) all)) c f
      all_bounded (terms.is_followed_by_neither {end = end} x c d) all = is_followed_by_neither (bounded x (up_to end x (omega arith) all)) c d

    not_upper : (k : ℕ) (t : Terminal) → terminal_at bytes tokens k ≡ t → t ≢ Upper → IsFree bytes tokens bound k → ⊥
    not_upper k t e n f = n (sym e ∙ f.0)

    -- the first variable that isn't bound stops it
    module _ (k : ℕ) (free : IsFree bytes tokens bound k) where
      not_functor : (at : ℕ) → terms.head_at bytes tokens at ≡ Functor → at ≢ k
      not_functor at h e = let v : terms.head_at bytes tokens k ≡ Variable = upper_head k free.0 in let f : terms.head_at bytes tokens k ≡ Functor = rw e at h in cc

      not_this : (at : ℕ) (t : Terminal) → terminal_at bytes tokens at ≡ t → t ≢ Upper → at ≢ k
      not_this at t e n same = n (sym e ∙ (rw same free.0))

      mutual
        pub freed : {used at : ℕ} {o : clause.Outcome Parse} (x : terms.Term bytes tokens used at o) → at ≤ k → k < reach x → AreBound bytes tokens bound at k → Reads used at (stop Unread k)
        freed {used} (terms.is_variable {at = at} h r) le less all =
            let same : at ≡ k = omega (arith, le, less) in
            subst (λ j. Reads used j (stop Unread k)) (sym same) (is_free (upper_head k free.0) r free.1)
        freed (terms.is_constant {at = at} h r a) le less all = absurd (not_functor at h (omega (arith, le, less)))
        freed (terms.is_applied {at = at} h r b args) le less all =
            let one : at ≢ k = not_functor at h in
            let two : at + 1 ≢ k = not_this (at + 1) Open b (λ e. cc) in
            is_applied {outcome = stop Unread k} h r b (all_freed args (omega (arith, le, one, two)) less (later at (at + 2) k (omega arith) all))
        freed (terms.is_node_too_many h r) le less all = absurd (omega (arith, le, less))
        freed (terms.is_no_term h) le less all = absurd (omega (arith, le, less))

        pub all_freed : {functor number used at : ℕ} {o : clause.Outcome Parses} (x : terms.Args bytes tokens functor number used at o) → at ≤ k → k < reach_args x → AreBound bytes tokens bound at k → ReadsAll functor number used at (stop Unread k)
        all_freed (terms.stops_in_it x) le less all = stops_in_it (freed x le less all)
        all_freed (terms.is_last {end = end} x c) le less all =
            let other : end ≢ k = not_this end Close c (λ e. cc) in
            let ends : reach x ≡ end = arrives x in
            stops_in_it (freed x le (omega (arith, less, other, ends)) all)
        all_freed (terms.is_followed {functor = functor} {number = number} {used = used} {at = at} {end = end} {p = p} x c f args) le less all =
            let ends : reach x ≡ end = arrives x in
            let begins : at ≤ reach x = reach_ahead x in
            let other : end ≢ k = not_this end Comma c (λ e. cc) in
            elim (cases_lt k end) [ inl h ↦ stops_in_it (freed x le (omega (arith, h, ends)) all) | inr h ↦ is_followed {outcome = stop Unread k} (bounded x (up_to k x h all)) c f (all_freed args (omega (arith, h, other)) less (later at (end + 1) k (omega (arith, begins, ends)) all)) ]
        all_freed (terms.is_one_too_many {end = end} x c f) le less all = let ends : reach x ≡ end = arrives x in stops_in_it (freed x le (omega (arith, less, ends)) all)
        all_freed (terms.is_followed_by_neither {end = end} x c d) le less all = let ends : reach x ≡ end = arrives x in stops_in_it (freed x le (omega (arith, less, ends)) all)

    -- what a term comes to, by the first variable before where reading has got to that isn't bound
    module _ (from : ℕ) where
      pub term_passes : (p : Parse) (end : ℕ) → terms.Term bytes tokens 0 from (clause.read p end) → AreBound bytes tokens bound from end → Reads 0 from (read p end)
      term_passes p end x all = bounded x (subst (AreBound bytes tokens bound from) (sym (arrives x)) all)

      pub term_freed : (p : Parse) (end k : ℕ) → terms.Term bytes tokens 0 from (clause.read p end) → IsFirstFree bytes tokens bound from end k → Reads 0 from (stop Unread k)
      term_freed p end k x f = let ends : reach x ≡ end = arrives x in freed k f.free x f.ahead (omega (arith, f.within, ends)) f.others

      pub term_stops : (why : Why) (k r : ℕ) → terms.Term bytes tokens 0 from (clause.stop why k) → Reaches bytes tokens why k r → AreBound bytes tokens bound from r → Reads 0 from (stop (Inside conjecture why) k)
      term_stops why k r x to all = bounded x (subst (AreBound bytes tokens bound from) (reaches_once bytes tokens why k r (reach x) to (arrives x)) all)

      pub stop_freed : (why : Why) (k r free : ℕ) → terms.Term bytes tokens 0 from (clause.stop why k) → Reaches bytes tokens why k r → IsFirstFree bytes tokens bound from r free → Reads 0 from (stop Unread free)
      stop_freed why k r free x to f = let ends : reach x ≡ r = reaches_once bytes tokens why k (reach x) r (arrives x) to in freed free f.free x f.ahead (omega (arith, f.within, ends)) f.others
