-- A literal all of whose variables are bound is one of clauses.
use Rattle.std.proofs.Common.{◌≡◌, ℕ, ◌+◌, ◌<◌, List, length, Bool, true, false, refl, sym, ap, ◌∙◌, subst, arith}
use Rattle.std.specs.Prelude.{Option, Some, None}
use Rattle.uc_clause.specs.declared.token.Token.{Token}
use Rattle.uc_clause.specs.declared.terminal.Terminal.{Terminal}
use Rattle.uc_clause.specs.declared.terminal.Terminal.TheVariants.{Equal, Tilde, Open}
use Rattle.uc_clause.specs.declared.grammar.stop.Why.TheVariants.{NoSign, NoToken}
use Rattle.uc_clause.specs.Terminals.{terminal_at}
use Rattle.uc_clause.specs.Rules as clause
use Rattle.uc_clause.specs.Terms as terms
use Rattle.uc_clause.specs.Items as items
use Rattle.uc_clause.specs.Parse.{Parse, Parses, applied, also, Sides, Literal}
use Rattle.uc_clause.specs.Meaning.{Variables}
use Rattle.uc_clause.proofs.Ends.{some_head, some_other}
use Rattle.uc_clause.specs.declared.grammar.head.Head.TheVariants.{Variable, Functor, Neither}
use Rattle.uc_fof.specs.declared.stop.Reason.{Reason}
use Rattle.uc_fof.specs.Rules.{Outcome, read, stop, mapped, read_or_stop, goes_on, is_first, is_second}
use Rattle.uc_fof.specs.Terms.{Term, Args, is_variable, is_free, is_constant, is_applied, is_node_too_many, is_no_term, stops_in_it, is_last, is_followed, is_one_too_many, is_followed_by_neither}
use Rattle.uc_fof.specs.Formulas as formulas
use Rattle.uc_fof.proofs.Marks.{tilde_there}

abbrev IsDone : {V : Type 0} → Outcome V → Type 0
IsDone (read v end) = Unit {0}
IsDone (stop reason k) = ⊥

done_of : {V W : Type 0} (f : V → W) (o : Outcome V) → IsDone (mapped f o) → IsDone o
done_of f (read v end) d = tt
done_of f (stop reason k) d = d

abbrev forget : {V : Type 0} → Outcome V → clause.Outcome V
forget (read v end) = clause.read v end
forget (stop reason k) = clause.stop NoToken k

forget_mapped : {V W : Type 0} (f : V → W) (o : Outcome V) → clause.mapped f (forget o) ≡ forget (mapped f o)
forget_mapped f (read v end) = refl
forget_mapped f (stop reason k) = refl

picked : (reason : Reason) (value : Option Bool) (at : ℕ) (b : Bool) (end : ℕ) → read b end ≡ read_or_stop reason value at → (value ≡ Some b) × (end ≡ at + 1)
picked reason (Some c) at b end e = (cc, cc)
picked reason None at b end e = absurd (cc)

sign_there : (conjecture : Bool) (t : Terminal) (b : Bool) → formulas.sign_by conjecture t ≡ Some b → items.sign_of t ≡ Some b
sign_there false t b e = e
sign_there true Equal b e = e
sign_there true t b e = absurd (cc)

module _ (bytes : List ℕ) (tokens : List Token) (conjecture : Bool) (bound : Variables) where
  mutual
    term_forgets : {used at : ℕ} {o : Outcome Parse} → Term bytes tokens conjecture bound used at o → IsDone o → terms.Term bytes tokens used at (forget o)
    term_forgets (is_variable h r b) d = terms.is_variable h r
    term_forgets (is_free h r b) d = absurd d
    term_forgets (is_constant h r a) d = terms.is_constant h r a
    term_forgets {used} (is_applied {at = at} {outcome = o} h r b args) d = subst (terms.Term bytes tokens used at) (forget_mapped (applied at) o) (terms.is_applied h r b (args_forget args (done_of (applied at) o d)))
    term_forgets (is_node_too_many h r) d = absurd d
    term_forgets (is_no_term h) d = absurd d

    args_forget : {functor number used at : ℕ} {o : Outcome Parses} → Args bytes tokens conjecture bound functor number used at o → IsDone o → terms.Args bytes tokens functor number used at (forget o)
    args_forget (stops_in_it x) d = absurd d
    args_forget (is_last x c) d = terms.is_last (term_forgets x tt) c
    args_forget (is_followed {functor = functor} {number = number} {used = used} {at = at} {p = p} {outcome = o} x c f args) d = subst (terms.Args bytes tokens functor number used at) (forget_mapped (also p) o) (terms.is_followed (term_forgets x tt) c f (args_forget args (done_of (also p) o d)))
    args_forget (is_one_too_many x c f) d = absurd d
    args_forget (is_followed_by_neither x c e) d = absurd d

  term_within : {used at : ℕ} {o : Outcome Parse} → Term bytes tokens conjecture bound used at o → IsDone o → at < length tokens
  term_within (is_variable {at = at} h r b) d = some_head bytes tokens at (λ e. cc)
  term_within (is_free h r b) d = absurd d
  term_within (is_constant {at = at} h r a) d = some_head bytes tokens at (λ e. cc)
  term_within (is_applied {at = at} h r b args) d = some_head bytes tokens at (λ e. cc)
  term_within (is_node_too_many h r) d = absurd d
  term_within (is_no_term h) d = absurd d

  head_not_tilde : {used at : ℕ} {o : Outcome Parse} → Term bytes tokens conjecture bound used at o → IsDone o → terminal_at bytes tokens at ≡ Tilde → ⊥
  head_not_tilde (is_variable h r b) d e = let k = ap terms.head_of e in cc
  head_not_tilde (is_free h r b) d e = d
  head_not_tilde (is_constant h r a) d e = let k = ap terms.head_of e in cc
  head_not_tilde (is_applied h r b args) d e = let k = ap terms.head_of e in cc
  head_not_tilde (is_node_too_many h r) d e = d
  head_not_tilde (is_no_term h) d e = d

  term_there : (at end : ℕ) (p : Parse) → formulas.term bytes tokens conjecture bound at (read p end) → items.term bytes tokens at (clause.read p end)
  term_there at end p x = term_forgets x tt

  right_there : (at end : ℕ) (p : Parse) → formulas.right_side bytes tokens conjecture bound at (read p end) → items.term bytes tokens at (clause.read p end)
  right_there at end p (is_first g x) = absurd (cc)
  right_there at end p (is_second g x) = term_there at end p x

  side_there : (positive : Bool) (at end : ℕ) (p : Parse) → formulas.side_behind bytes tokens conjecture bound positive at (read p end) → items.term bytes tokens at (clause.read p end)
  side_there true at end p x = right_there at end p x
  side_there false at end p x = term_there at end p x

  equation_there : (at end : ℕ) (l : Literal) → formulas.equation bytes tokens conjecture bound at (read l end) → items.equation bytes tokens at (clause.read l end)
  equation_there at end l (goes_on {v = first} {middle = zero_at} h (goes_on {v = left} {middle = one} x (goes_on {v = positive} {middle = two} s (goes_on {v = right} {middle = three} y g)))) =
      let firsts : first ≡ at = cc in
      let begins : zero_at ≡ at = cc in
      let lits : l ≡ record { positive = positive; sides = record { left = left; right = right } } = cc in
      let ends : end ≡ three = cc in
      let s' = picked _ (formulas.sign_by conjecture (terminal_at bytes tokens one)) one positive two s in
      rw (lits, ends) (clause.goes_on {v = at} {middle = at} refl (clause.goes_on (term_there at one left (rw begins at x)) (clause.goes_on {v = positive} {middle = one + 1} (ap (λ v. clause.read_or_stop (NoSign at) v one) (sym (sign_there conjecture (terminal_at bytes tokens one) positive s'.0))) (clause.goes_on (side_there positive (one + 1) three right (rw s'.1 at y)) refl))))

  equals_there : (at end : ℕ) (s : Sides) → formulas.equals bytes tokens conjecture bound at (read s end) → items.equals bytes tokens at (clause.read s end)
  equals_there at end s (goes_on {v = first} {middle = zero_at} h (goes_on {v = left} {middle = one} x (goes_on {middle = two} t (goes_on {v = right} {middle = three} y g)))) =
      let begins : zero_at ≡ at = cc in
      let sides : s ≡ record { left = left; right = right } = cc in
      let ends : end ≡ three = cc in
      rw (sides, ends) (clause.goes_on {v = at} {middle = at} refl (clause.goes_on (term_there at one left (rw begins at x)) (clause.goes_on {v = tt} {middle = two} t (clause.goes_on (right_there two three right y) refl))))

  brackets_there : (at end : ℕ) (s : Sides) → formulas.equals_in_brackets bytes tokens conjecture bound at (read s end) → items.equals_in_brackets bytes tokens at (clause.read s end)
  brackets_there at end s (goes_on {middle = one} t (goes_on {v = sides} {middle = two} x (goes_on {middle = three} u g))) =
      let same : s ≡ sides = cc in
      let ends : end ≡ three = cc in
      rw (same, ends) (clause.goes_on {v = tt} {middle = one} t (clause.goes_on (equals_there one two sides x) (clause.goes_on {v = tt} {middle = three} u refl)))

  denied_there : (at end : ℕ) (s : Sides) → formulas.denied bytes tokens conjecture bound at (read s end) → items.denied bytes tokens at (clause.read s end)
  denied_there at end s (is_first b x) = absurd (cc)
  denied_there at end s (is_second b (is_first o x)) = clause.is_first o (brackets_there at end s x)
  denied_there at end s (is_second b (is_second n x)) = clause.is_second n (equals_there at end s x)

  no_denial : (at end : ℕ) (l : Literal) → formulas.equation bytes tokens conjecture bound at (read l end) → terminal_at bytes tokens at ≡ Tilde → ⊥
  no_denial at end l (goes_on {middle = zero_at} h (goes_on {v = left} {middle = one} x rest)) e =
      let begins : zero_at ≡ at = cc in
      head_not_tilde (rw begins at x) tt e

  pub literal_there : (at end : ℕ) (l : Literal) → formulas.literal bytes tokens conjecture bound at (read l end) → items.literal bytes tokens at (clause.read l end)
  literal_there at end l (is_first d (goes_on {middle = one} t (goes_on {v = sides} {middle = two} x g))) =
      let lits : l ≡ record { positive = false; sides = sides } = cc in
      let ends : end ≡ two = cc in
      rw (lits, ends) (clause.is_first t.0 (clause.goes_on {v = tt} {middle = one} t (clause.goes_on (denied_there one two sides x) refl)))
  literal_there at end l (is_second n x) = clause.is_second (no_denial at end l x) (equation_there at end l x)

  pub literal_within : (at end : ℕ) (l : Literal) → formulas.literal bytes tokens conjecture bound at (read l end) → at < length tokens
  literal_within at end l (is_first d (goes_on t rest)) = some_other bytes tokens at Tilde t.0 (λ e. cc)
  literal_within at end l (is_second n (goes_on {middle = zero_at} h (goes_on {v = left} {middle = one} x rest))) =
      let begins : zero_at ≡ at = cc in
      term_within (rw begins at x) tt
