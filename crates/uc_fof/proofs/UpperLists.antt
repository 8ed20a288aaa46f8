-- How the variables of a quantifier are read and bound.
use Rattle.std.proofs.Common.{◌≡◌, ℕ, ◌+◌, ◌<◌, ◌≤◌, List, [], ◌∷◌, ◌++◌, map, Bool, refl, sym, ap, ◌∙◌, arith}
use Rattle.std.specs.Prelude.{◌≢◌, Option, Some, None, Result, Ok, Err, IfOk, IfErr}
use Rattle.std.proofs.lemmas.List.{map-append}
use Rattle.uc_clause.specs.declared.token.Token.{Token}
use Rattle.uc_clause.specs.declared.terminal.Terminal.TheVariants.{OpenSquare, CloseSquare, Comma}
use Rattle.uc_clause.specs.declared.grammar.stop.Why.TheVariants.{NoToken}
use Rattle.uc_clause.specs.Terminals.{terminal_at, bytes_at}
use Rattle.uc_clause.specs.Meaning.{Variables, with_name, with_names}
use Rattle.uc_clause.proofs.Means.{with_names_both}
use Rattle.uc_fof.specs.declared.stop.Reason.{Reason}
use Rattle.uc_fof.specs.declared.stop.Reason.TheVariants.{Inside}
use Rattle.uc_fof.specs.declared.stop.Halt.{Halt}
use Rattle.uc_fof.specs.declared.stop.Halt.TheVariants.{At, NoMemory}
use Rattle.uc_fof.specs.Rules.{Outcome, read, stop, mapped, Stops, Goes, read_or_stop, the, goes_on, stops_first}
use Rattle.uc_fof.specs.Formulas.{upper, upper_by, is_mark, bang, colon, token, quantifier, Uppers, stops_in_upper, is_last_upper, is_upper, stops_behind_upper, bound_by}
use Rattle.uc_fof.specs.Given.{BindsNames, Binds}
use Rattle.uc_fof.proofs.Sequences.{hands_on}
use Rattle.uc_fof.proofs.Gathered.{after, after_none, after_one}

module _ (bytes : List ℕ) (tokens : List Token) (conjecture : Bool) (from : ℕ) (old : Variables) where
  -- some variables are read and bound, and with what the rest comes to the whole comes to
  pub record Bounds (bound : Variables) (at : ℕ) : Type 0 where
    pub names : List ℕ
    pub bound_is : bound ≡ bound_by bytes tokens conjecture old names
    pub comes_to : (o : Outcome (List ℕ)) → Uppers bytes tokens conjecture at o → Uppers bytes tokens conjecture from (after names o)

  bound_more : (names : List ℕ) (n : ℕ) → with_name (bound_by bytes tokens conjecture old names) (bytes_at bytes tokens n) ≡ bound_by bytes tokens conjecture old (names ++ n ∷ [])
  bound_more names n = sym (ap (with_names old) (map-append (bytes_at bytes tokens) names (n ∷ [])) ∙ with_names_both old (map (bytes_at bytes tokens) names) (bytes_at bytes tokens n ∷ []))

  module _ (bound : Variables) (at : ℕ) (b : Bounds bound at) where
    pub upper_stops : (e : Halt) → Stops (upper bytes tokens conjecture at) e → Stops (Uppers bytes tokens conjecture from) e
    upper_stops e h = hands_on (upper bytes tokens conjecture at) (Uppers bytes tokens conjecture from) e (λ r k s. b.comes_to (stop r k) (stops_in_upper s)) h

    module _ (n end : ℕ) (reads : upper bytes tokens conjecture at (read n end)) (new : Variables) (new_is : new ≡ with_name bound (bytes_at bytes tokens n)) where
      new_bound : new ≡ bound_by bytes tokens conjecture old (b.names ++ n ∷ [])
      new_bound = new_is ∙ ap (λ vs. with_name vs (bytes_at bytes tokens n)) b.bound_is ∙ bound_more b.names n

      pub last_upper : terminal_at bytes tokens end ≡ CloseSquare → BindsNames bytes tokens conjecture from old new (end + 1)
      last_upper e = record { names = b.names ++ n ∷ []; reads = b.comes_to (read (n ∷ []) (end + 1)) (is_last_upper reads e); new_is = new_bound }

      pub next_upper : terminal_at bytes tokens end ≡ Comma → Bounds new (end + 1)
      next_upper e = record {
        names = b.names ++ n ∷ [];
        bound_is = new_bound;
        comes_to = λ o rest. rw (after_one b.names n o) (b.comes_to (mapped (λ ns. n ∷ ns) o) (is_upper reads e rest));
      }

    pub no_upper : (n end : ℕ) → upper bytes tokens conjecture at (read n end) → terminal_at bytes tokens end ≢ CloseSquare → terminal_at bytes tokens end ≢ Comma → Uppers bytes tokens conjecture from (stop (Inside conjecture NoToken) end)
    no_upper n end reads c d = b.comes_to (stop (Inside conjecture NoToken) end) (stops_behind_upper reads c d)

pick_end : (reason : Reason) (value : Option ℕ) (at v end : ℕ) → read v end ≡ read_or_stop reason value at → end ≡ at + 1
pick_end reason (Some w) at v end e = cc
pick_end reason None at v end e = cc

pub bounds_none : (bytes : List ℕ) (tokens : List Token) (conjecture : Bool) (from : ℕ) (old : Variables) → Bounds bytes tokens conjecture from old old from
bounds_none bytes tokens conjecture from old = record { names = []; bound_is = refl; comes_to = λ o rest. rw (after_none o) rest }

abbrev Ahead : ℕ → Outcome (List ℕ) → Type 0
Ahead at (read ns end) = at < end
Ahead at (stop reason k) = Unit {0}

ahead_mapped : (from at n : ℕ) (o : Outcome (List ℕ)) → from ≤ at → Ahead at o → Ahead from (mapped (λ ns. n ∷ ns) o)
ahead_mapped from at n (read ns end) le h = omega (arith, le, h)
ahead_mapped from at n (stop reason k) le h = tt

pub upper_ahead : (bytes : List ℕ) (tokens : List Token) (conjecture : Bool) (at n end : ℕ) → upper bytes tokens conjecture at (read n end) → at < end
upper_ahead bytes tokens conjecture at n end r = omega (arith, pick_end (Inside conjecture NoToken) (upper_by (terminal_at bytes tokens at) at) at n end r)

module _ (bytes : List ℕ) (tokens : List Token) (conjecture : Bool) (from one two three : ℕ) (bang_there : the (is_mark bytes tokens bang) (Inside conjecture NoToken) from (read tt one)) (square : token bytes tokens conjecture OpenSquare NoToken one (read tt two)) (old new : Variables) (b : BindsNames bytes tokens conjecture two old new three) where
  pub quantifier_binds : (r : Result ℕ Halt) → Goes (the (is_mark bytes tokens colon) (Inside conjecture NoToken) three) r → IfOk r (Binds bytes tokens conjecture from old new)
  quantifier_binds (Ok end) g = record { names = b.names; reads = goes_on {v = tt} bang_there (goes_on {v = tt} square (goes_on b.reads (goes_on {v = tt} g refl))); new_is = b.new_is }
  quantifier_binds (Err e) g = tt

  pub quantifier_stops : (r : Result ℕ Halt) → Goes (the (is_mark bytes tokens colon) (Inside conjecture NoToken) three) r → IfErr r (Stops (quantifier bytes tokens conjecture from))
  quantifier_stops (Ok end) g = tt
  quantifier_stops (Err (At reason k)) g = goes_on {v = tt} bang_there (goes_on {v = tt} square (goes_on b.reads (stops_first g)))
  quantifier_stops (Err NoMemory) g = tt

uppers_ahead : {bytes : List ℕ} {tokens : List Token} {conjecture : Bool} {at : ℕ} {o : Outcome (List ℕ)} → Uppers bytes tokens conjecture at o → Ahead at o
uppers_ahead (stops_in_upper x) = tt
uppers_ahead {bytes} {tokens} {conjecture} (is_last_upper {at = at} {end = end} {n = n} x e) = omega (arith, upper_ahead bytes tokens conjecture at n end x)
uppers_ahead {bytes} {tokens} {conjecture} (is_upper {at = at} {end = end} {n = n} {outcome = o} x e rest) = ahead_mapped at (end + 1) n o (omega (arith, upper_ahead bytes tokens conjecture at n end x)) (uppers_ahead rest)
uppers_ahead (stops_behind_upper x e f) = tt

pub quantifier_ahead : (bytes : List ℕ) (tokens : List Token) (conjecture : Bool) (at : ℕ) (ns : List ℕ) (end : ℕ) → quantifier bytes tokens conjecture at (read ns end) → at < end
quantifier_ahead bytes tokens conjecture at ns end (goes_on {middle = one} b (goes_on {middle = two} s (goes_on {v = ms} {middle = three} u (goes_on {middle = four} c g)))) =
    let ahead : Ahead two (read ms three) = uppers_ahead u in
    let same : end ≡ four = cc in
    omega (arith, b.1, s.1, c.1, ahead)
