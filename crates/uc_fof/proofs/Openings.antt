-- How brackets and quantifiers lead to a literal, and how the brackets are closed.
use Rattle.std.proofs.Common.{◌≡◌, ℕ, zero, suc, ◌+◌, ◌-◌, ◌<◌, ◌≤◌, List, [], ◌∷◌, ◌++◌, map, Bool, refl, sym, ap, ◌∙◌, subst, arith, append_assoc}
use Rattle.std.specs.Prelude.{◌≢◌, Result, Ok, Err}
use Rattle.uc_clause.specs.declared.token.Token.{Token}
use Rattle.uc_clause.specs.declared.terminal.Terminal.TheVariants.{Open, Close}
use Rattle.uc_clause.specs.declared.grammar.stop.Why.TheVariants.{NoEnd}
use Rattle.uc_clause.specs.Terminals.{terminal_at, bytes_at}
use Rattle.uc_clause.specs.Parse.{Literal}
use Rattle.uc_clause.specs.Meaning.{Variables}
use Rattle.uc_fof.specs.declared.stop.Reason.{Reason}
use Rattle.uc_fof.specs.declared.stop.Reason.TheVariants.{Inside}
use Rattle.uc_fof.specs.declared.stop.Halt.{Halt}
use Rattle.uc_fof.specs.declared.stop.Halt.TheVariants.{At, NoMemory}
use Rattle.uc_fof.specs.Rules.{Outcome, read, stop, Stops}
use Rattle.uc_fof.specs.Formulas as formulas
use Rattle.uc_fof.specs.Given.{Closes, needs_none, is_closed, isnt_closed, has_stopped, Leads, IsOpened, ClosesAll, HasLiteral, Passes, IsRead, Binds}

module _ (bytes : List ℕ) (tokens : List Token) (conjecture : Bool) where
  -- the outermost bracket is closed last
  pub record Inner (brackets at : ℕ) (bound : Variables) (outer : Outcome Literal) : Type 0 where
    pub middle : Outcome Literal
    pub reads : formulas.Formula bytes tokens conjecture brackets bound at middle
    pub closes : Closes bytes tokens conjecture brackets middle outer

  inner_of : {n : ℕ} {inner outer : Outcome Literal} (brackets at : ℕ) (bound : Variables) → n ≡ suc brackets → terminal_at bytes tokens at ≡ Open → brackets < 16 → formulas.Formula bytes tokens conjecture (brackets + 1) bound (at + 1) inner → Closes bytes tokens conjecture n inner outer → Inner brackets at bound outer
  inner_of brackets at bound e o few x needs_none = absurd (cc)
  inner_of brackets at bound e o few x (is_closed {n = n} {end = end} {l = l} {outcome = outer} c rest) = let same : n ≡ brackets = cc in record { middle = read l (end + 1); reads = formulas.is_bracketed o few x c; closes = subst (λ m. Closes bytes tokens conjecture m (read l (end + 1)) outer) same rest }
  inner_of brackets at bound e o few x (isnt_closed {end = end} c) = record { middle = stop (Inside conjecture NoEnd) end; reads = formulas.is_not_closed o few x c; closes = has_stopped }
  inner_of brackets at bound e o few x (has_stopped {k = k} {reason = reason}) = record { middle = stop reason k; reads = formulas.stops_in_brackets o few x; closes = has_stopped }

  closes_none : {n : ℕ} {inner outer : Outcome Literal} → n ≡ 0 → Closes bytes tokens conjecture n inner outer → inner ≡ outer
  closes_none e needs_none = refl
  closes_none e (is_closed c rest) = absurd (cc)
  closes_none e (isnt_closed c) = absurd (cc)
  closes_none e has_stopped = refl

  pub leads_none : (from : ℕ) → Leads bytes tokens conjecture from 0 [] from
  leads_none from inner outer x c = subst (formulas.Formula bytes tokens conjecture 0 [] from) (closes_none refl c) x

  pub leads_bracket : (from brackets : ℕ) (bound : Variables) (at : ℕ) → terminal_at bytes tokens at ≡ Open → brackets < 16 → Leads bytes tokens conjecture from brackets bound at → Leads bytes tokens conjecture from (brackets + 1) bound (at + 1)
  leads_bracket from brackets bound at o few leads inner outer x c =
      let one : brackets + 1 ≡ suc brackets = omega arith in
      let i = inner_of brackets at bound one o few x c in
      leads i.middle outer i.reads i.closes

  pub leads_quantifier : (from brackets : ℕ) (bound new : Variables) (at end : ℕ) → terminal_at bytes tokens at ≢ Open → formulas.is_mark bytes tokens formulas.bang at → Binds bytes tokens conjecture at bound new end → Leads bytes tokens conjecture from brackets bound at → Leads bytes tokens conjecture from brackets new end
  leads_quantifier from brackets bound new at end n b q leads inner outer x c =
      leads inner outer (formulas.is_quantified n b q.reads (subst (λ vs. formulas.Formula bytes tokens conjecture brackets vs end inner) q.new_is x)) c

  -- what stops stays so
  pub stop_leads : (from brackets : ℕ) (bound : Variables) (at : ℕ) → Leads bytes tokens conjecture from brackets bound at → (e : Halt) → Stops (formulas.Formula bytes tokens conjecture brackets bound at) e → Stops (formulas.formula bytes tokens conjecture from) e
  stop_leads from brackets bound at leads (At reason k) s = leads (stop reason k) (stop reason k) s has_stopped
  stop_leads from brackets bound at leads NoMemory s = tt

  module _ (from brackets : ℕ) (bound : Variables) (at : ℕ) (o : IsOpened bytes tokens conjecture from brackets bound at) where
    pub literal_stops : (e : Halt) → Stops (formulas.literal bytes tokens conjecture bound at) e → Stops (formulas.formula bytes tokens conjecture from) e
    literal_stops (At reason k) s = o.leads (stop reason k) (stop reason k) (formulas.is_bare o.no_bracket o.no_quantifier o.no_question s) has_stopped
    literal_stops NoMemory s = tt

    pub closing_stops : (middle : ℕ) (p : IsRead (formulas.literal bytes tokens conjecture bound at) middle) (e : Halt) → ClosesAll bytes tokens conjecture brackets middle (Err e) → Stops (formulas.formula bytes tokens conjecture from) e
    closing_stops middle p (At reason k) c = o.leads (read p.value middle) (stop reason k) (formulas.is_bare o.no_bracket o.no_quantifier o.no_question p.reads) (c p.value)
    closing_stops middle p NoMemory c = tt

    pub has_literal : (middle end : ℕ) (p : IsRead (formulas.literal bytes tokens conjecture bound at) middle) → ClosesAll bytes tokens conjecture brackets middle (Ok end) → HasLiteral bytes tokens conjecture from at end
    has_literal middle end p c = record {
      literal = p.value;
      bound = bound;
      middle = middle;
      is_literal = p.reads;
      reads = o.leads (read p.value middle) (read p.value end) (formulas.is_bare o.no_bracket o.no_quantifier o.no_question p.reads) (c p.value);
    }

  -- some brackets are closed, and with what closing the others comes to the whole comes to
  abbrev pub Closed : ℕ → ℕ → ℕ → ℕ → Type 0
  Closed brackets from left at = (l : Literal) (outer : Outcome Literal) → Closes bytes tokens conjecture left (read l at) outer → Closes bytes tokens conjecture brackets (read l from) outer

  pub closed_all : (brackets from left at : ℕ) → left ≡ 0 → Closed brackets from left at → ClosesAll bytes tokens conjecture brackets from (Ok at)
  closed_all brackets from left at e c l = c l (read l at) (subst (λ n. Closes bytes tokens conjecture n (read l at) (read l at)) (sym e) needs_none)

  pub closed_more : (brackets from left rest at : ℕ) → left ≡ suc rest → terminal_at bytes tokens at ≡ Close → Closed brackets from left at → Closed brackets from rest (at + 1)
  closed_more brackets from left rest at e t c l outer x = c l outer (subst (λ n. Closes bytes tokens conjecture n (read l at) outer) (sym e) (is_closed t x))

  pub closed_not : (brackets from left rest at : ℕ) → left ≡ suc rest → terminal_at bytes tokens at ≢ Close → Closed brackets from left at → ClosesAll bytes tokens conjecture brackets from (Err (At (Inside conjecture NoEnd) at))
  closed_not brackets from left rest at e t c l = c l (stop (Inside conjecture NoEnd) at) (subst (λ n. Closes bytes tokens conjecture n (read l at) (stop (Inside conjecture NoEnd) at)) (sym e) (isnt_closed t))

  pub closed_none : (brackets from left : ℕ) → left ≡ brackets → Closed brackets from left from
  closed_none brackets from left e l outer x = subst (λ n. Closes bytes tokens conjecture n (read l from) outer) e x

  module _ (brackets from closed at : ℕ) (less : closed < brackets) (c : Closed brackets from (brackets - closed) at) where
    one_less : brackets - closed ≡ suc (brackets - (closed + 1))
    one_less = omega (arith, less)

    pub closing_not : (e : Halt) → Stops (formulas.token bytes tokens conjecture Close NoEnd at) e → ClosesAll bytes tokens conjecture brackets from (Err e)
    closing_not (At reason k) s = λ l. subst (λ r. Closes bytes tokens conjecture brackets (read l from) (stop r k)) (sym s.1) (subst (λ j. Closes bytes tokens conjecture brackets (read l from) (stop (Inside conjecture NoEnd) j)) (sym s.2) (closed_not brackets from (brackets - closed) (brackets - (closed + 1)) at one_less s.0 c l))
    closing_not NoMemory s = tt

    pub closed_there : (end : ℕ) → formulas.token bytes tokens conjecture Close NoEnd at (read tt end) → Closed brackets from (brackets - (closed + 1)) end
    closed_there end t = subst (Closed brackets from (brackets - (closed + 1))) (sym t.1) (closed_more brackets from (brackets - closed) (brackets - (closed + 1)) at one_less t.0 c)
