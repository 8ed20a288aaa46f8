-- A file with formulas reads as one list of entries.
use Rattle.std.proofs.Common.{◌≡◌, ℕ, ◌+◌, ◌++◌, List, [], ◌∷◌, Bool, true, false, refl, sym, ap, ◌∙◌, subst, arith}
use Rattle.std.specs.Prelude.{◌≢◌, Option}
use Rattle.uc_clause.specs.declared.token.Token.{Token}
use Rattle.uc_clause.specs.declared.terminal.Terminal.{Terminal}
use Rattle.uc_clause.specs.declared.terminal.Terminal.TheVariants.{Lower, Open, Close, OpenSquare, CloseSquare, Comma, Dot, Equal, Tilde, End}
use Rattle.uc_clause.specs.declared.grammar.stop.Why.{Why}
use Rattle.uc_clause.specs.declared.grammar.stop.Why.TheVariants.{NoItem, NoSign, NoEnd, NoToken}
use Rattle.uc_clause.specs.Terminals.{terminal_at}
use Rattle.uc_clause.specs.Parse.{Parse, Parses, Literal, Sides, applied}
use Rattle.uc_clause.specs.Items as items
use Rattle.uc_clause.specs.Meaning.{Variables}
use Rattle.uc_clause.proofs.ItemsOnce.{item_once as clause_item_once}
use Rattle.uc_fof.specs.declared.notes.Piece.{Piece}
use Rattle.uc_fof.specs.declared.notes.Piece.TheVariants.{Plain, Opens, Closes, Behind, Misplaced}
use Rattle.uc_fof.specs.declared.notes.Bracket.{Bracket}
use Rattle.uc_fof.specs.declared.stop.Reason.{Reason}
use Rattle.uc_fof.specs.declared.stop.Reason.TheVariants.{Outside, Inside, Unread, Connective}
use Rattle.uc_fof.specs.Rules.{Outcome, read, stop, Rule, mapped, the, Choice, AsIn, stops}
use Rattle.uc_fof.specs.Parse.{Entry, item, stated}
use Rattle.uc_fof.specs.Terms.{Term, Args, is_variable, is_free, is_constant, is_applied, is_node_too_many, is_no_term, stops_in_it, is_last, is_followed, is_one_too_many, is_followed_by_neither}
use Rattle.uc_fof.specs.Notes as notes
use Rattle.uc_fof.specs.Formulas as formulas
use Rattle.uc_fof.proofs.Once.{Once, both_once, gives_once, here_once, stops_once, the_once, choice_once, as_in_once}

module _ (bytes : List ℕ) (tokens : List Token) where
  module _ (conjecture : Bool) (bound : Variables) where
    mutual
      pub term_once_at : {used at : ℕ} {o p : Outcome Parse} → Term bytes tokens conjecture bound used at o → Term bytes tokens conjecture bound used at p → o ≡ p
      term_once_at (is_variable h r b) (is_variable k s c) = refl
      term_once_at (is_variable h r b) (is_free k s c) = absurd (cc)
      term_once_at (is_variable h r b) (is_constant k s a) = absurd (cc)
      term_once_at (is_variable h r b) (is_applied k s c args) = absurd (cc)
      term_once_at (is_variable h r b) (is_node_too_many k s) = absurd (omega arith)
      term_once_at (is_variable h r b) (is_no_term k) = absurd (cc)
      term_once_at (is_free h r b) (is_variable k s c) = absurd (cc)
      term_once_at (is_free h r b) (is_free k s c) = refl
      term_once_at (is_free h r b) (is_constant k s a) = absurd (cc)
      term_once_at (is_free h r b) (is_applied k s c args) = absurd (cc)
      term_once_at (is_free h r b) (is_node_too_many k s) = absurd (omega arith)
      term_once_at (is_free h r b) (is_no_term k) = absurd (cc)
      term_once_at (is_constant h r a) (is_variable k s c) = absurd (cc)
      term_once_at (is_constant h r a) (is_free k s c) = absurd (cc)
      term_once_at (is_constant h r a) (is_constant k s b) = refl
      term_once_at (is_constant h r a) (is_applied k s b args) = absurd (a b)
      term_once_at (is_constant h r a) (is_node_too_many k s) = absurd (omega arith)
      term_once_at (is_constant h r a) (is_no_term k) = absurd (cc)
      term_once_at (is_applied h r b args) (is_variable k s c) = absurd (cc)
      term_once_at (is_applied h r b args) (is_free k s c) = absurd (cc)
      term_once_at (is_applied h r b args) (is_constant k s a) = absurd (a b)
      term_once_at (is_applied {at = at} h r b args) (is_applied k s c others) = ap (mapped (applied at)) (args_once_at args others)
      term_once_at (is_applied h r b args) (is_node_too_many k s) = absurd (omega arith)
      term_once_at (is_applied h r b args) (is_no_term k) = absurd (cc)
      term_once_at (is_node_too_many h r) (is_variable k s c) = absurd (omega arith)
      term_once_at (is_node_too_many h r) (is_free k s c) = absurd (omega arith)
      term_once_at (is_node_too_many h r) (is_constant k s a) = absurd (omega arith)
      term_once_at (is_node_too_many h r) (is_applied k s b args) = absurd (omega arith)
      term_once_at (is_node_too_many h r) (is_node_too_many k s) = refl
      term_once_at (is_node_too_many h r) (is_no_term k) = absurd (h k)
      term_once_at (is_no_term h) (is_variable k s c) = absurd (cc)
      term_once_at (is_no_term h) (is_free k s c) = absurd (cc)
      term_once_at (is_no_term h) (is_constant k s a) = absurd (cc)
      term_once_at (is_no_term h) (is_applied k s b args) = absurd (cc)
      term_once_at (is_no_term h) (is_node_too_many k s) = absurd (k h)
      term_once_at (is_no_term h) (is_no_term k) = refl

      pub args_once_at : {functor number used at : ℕ} {o p : Outcome Parses} → Args bytes tokens conjecture bound functor number used at o → Args bytes tokens conjecture bound functor number used at p → o ≡ p
      args_once_at (stops_in_it x) (stops_in_it y) = let e = term_once_at x y in cc
      args_once_at (stops_in_it x) (is_last y b) = let e = term_once_at x y in cc
      args_once_at (stops_in_it x) (is_followed y b f args) = let e = term_once_at x y in absurd (cc)
      args_once_at (stops_in_it x) (is_one_too_many y b f) = let e = term_once_at x y in absurd (cc)
      args_once_at (stops_in_it x) (is_followed_by_neither y b d) = let e = term_once_at x y in absurd (cc)
      args_once_at (is_last x a) (stops_in_it y) = let e = term_once_at x y in cc
      args_once_at (is_last x a) (is_last y b) = let e = term_once_at x y in cc
      args_once_at (is_last {end = m} x a) (is_followed {end = n} y b f args) = let e = term_once_at x y in let ends : n ≡ m = cc in absurd (let c = rw ends at b in cc)
      args_once_at (is_last {end = m} x a) (is_one_too_many {end = n} y b f) = let e = term_once_at x y in let ends : n ≡ m = cc in absurd (let c = rw ends at b in cc)
      args_once_at (is_last {end = m} x a) (is_followed_by_neither {end = n} y b d) = let e = term_once_at x y in let ends : n ≡ m = cc in absurd (let c = rw ends at b in c a)
      args_once_at (is_followed x a f args) (stops_in_it y) = let e = term_once_at x y in absurd (cc)
      args_once_at (is_followed {end = m} x a f args) (is_last {end = n} y b) = let e = term_once_at x y in let ends : n ≡ m = cc in absurd (let c = rw ends at b in cc)
      args_once_at (is_followed {end = m} {p = p} {outcome = o} x a f args) (is_followed {end = n} {p = q} {outcome = other} y b g others) =
          let e = term_once_at x y in
          let ends : n ≡ m = cc in
          let parses : p ≡ q = cc in
          let outcomes : o ≡ other = args_once_at args (rw ends at (rw (sym parses) at others)) in
          rw (parses, outcomes) refl
      args_once_at (is_followed x a f args) (is_one_too_many y b g) = absurd (omega arith)
      args_once_at (is_followed {end = m} x a f args) (is_followed_by_neither {end = n} y b d) = let e = term_once_at x y in let ends : n ≡ m = cc in absurd (let c = rw ends at d in c a)
      args_once_at (is_one_too_many x a f) (stops_in_it y) = let e = term_once_at x y in absurd (cc)
      args_once_at (is_one_too_many {end = m} x a f) (is_last {end = n} y b) = let e = term_once_at x y in let ends : n ≡ m = cc in absurd (let c = rw ends at b in cc)
      args_once_at (is_one_too_many x a f) (is_followed y b g args) = absurd (omega arith)
      args_once_at (is_one_too_many x a f) (is_one_too_many y b g) = refl
      args_once_at (is_one_too_many {end = m} x a f) (is_followed_by_neither {end = n} y b d) = let e = term_once_at x y in let ends : n ≡ m = cc in absurd (let c = rw ends at d in c a)
      args_once_at (is_followed_by_neither x a d) (stops_in_it y) = let e = term_once_at x y in absurd (cc)
      args_once_at (is_followed_by_neither {end = m} x a d) (is_last {end = n} y b) = let e = term_once_at x y in let ends : m ≡ n = cc in absurd (let c = rw ends at a in c b)
      args_once_at (is_followed_by_neither {end = m} x a d) (is_followed {end = n} y b f args) = let e = term_once_at x y in let ends : m ≡ n = cc in absurd (let c = rw ends at d in c b)
      args_once_at (is_followed_by_neither {end = m} x a d) (is_one_too_many {end = n} y b f) = let e = term_once_at x y in let ends : m ≡ n = cc in absurd (let c = rw ends at d in c b)
      args_once_at (is_followed_by_neither x a d) (is_followed_by_neither y b f) = let e = term_once_at x y in cc

    term_once : Once (formulas.term bytes tokens conjecture bound)
    term_once at o p x y = term_once_at x y

    right_once : Once (formulas.right_side bytes tokens conjecture bound)
    right_once = choice_once _ _ _ (stops_once Connective) term_once

    side_once : (positive : Bool) → Once (formulas.side_behind bytes tokens conjecture bound positive)
    side_once true = right_once
    side_once false = term_once

    equation_once : Once (formulas.equation bytes tokens conjecture bound)
    equation_once = both_once _ _ here_once (λ first. both_once (formulas.term bytes tokens conjecture bound) _ term_once (λ left. both_once (formulas.sign bytes tokens conjecture bound first) _ (λ at o p x y. x ∙ sym y) (λ positive. both_once (formulas.side_behind bytes tokens conjecture bound positive) _ (side_once positive) (λ right. gives_once _))))

    equals_once : Once (formulas.equals bytes tokens conjecture bound)
    equals_once = both_once _ _ here_once (λ first. both_once (formulas.term bytes tokens conjecture bound) _ term_once (λ left. both_once _ _ (the_once _ _) (λ u. both_once (formulas.right_side bytes tokens conjecture bound) _ right_once (λ right. gives_once _))))

    brackets_once : Once (formulas.equals_in_brackets bytes tokens conjecture bound)
    brackets_once = both_once _ _ (the_once _ _) (λ u. both_once (formulas.equals bytes tokens conjecture bound) _ equals_once (λ sides. both_once _ _ (the_once _ _) (λ w. gives_once _)))

    denied_once : Once (formulas.denied bytes tokens conjecture bound)
    denied_once = choice_once _ _ _ (stops_once Unread) (choice_once _ _ _ brackets_once equals_once)

    pub literal_once : Once (formulas.literal bytes tokens conjecture bound)
    literal_once = choice_once _ _ _ (both_once _ _ (the_once _ _) (λ u. both_once (formulas.denied bytes tokens conjecture bound) _ denied_once (λ sides. gives_once _))) equation_once

  module _ (conjecture : Bool) where
    upper_once : Once (formulas.upper bytes tokens conjecture)
    upper_once at o p x y = x ∙ sym y

    uppers_once_at : {at : ℕ} {o p : Outcome (List ℕ)} → formulas.Uppers bytes tokens conjecture at o → formulas.Uppers bytes tokens conjecture at p → o ≡ p
    uppers_once_at (formulas.stops_in_upper {at = at} {k = k} {reason = why} x) (formulas.stops_in_upper {k = l} {reason = other} y) = let h = upper_once at (stop why k) (stop other l) x y in cc
    uppers_once_at (formulas.stops_in_upper {at = at} {k = k} {reason = why} x) (formulas.is_last_upper {end = end} {n = n} y e) = let h = upper_once at (stop why k) (read n end) x y in cc
    uppers_once_at (formulas.stops_in_upper {at = at} {k = k} {reason = why} x) (formulas.is_upper {end = end} {n = n} y e r) = let h = upper_once at (stop why k) (read n end) x y in absurd (cc)
    uppers_once_at (formulas.stops_in_upper {at = at} {k = k} {reason = why} x) (formulas.stops_behind_upper {end = end} {n = n} y e f) = let h = upper_once at (stop why k) (read n end) x y in absurd (cc)
    uppers_once_at (formulas.is_last_upper {at = at} {end = m} {n = a} x e) (formulas.stops_in_upper {k = k} {reason = why} y) = let h = upper_once at (read a m) (stop why k) x y in cc
    uppers_once_at (formulas.is_last_upper {at = at} {end = m} {n = a} x e) (formulas.is_last_upper {end = l} {n = b} y f) = let h = upper_once at (read a m) (read b l) x y in cc
    uppers_once_at (formulas.is_last_upper {at = at} {end = m} {n = a} x e) (formulas.is_upper {end = l} {n = b} y f r) = let h = upper_once at (read a m) (read b l) x y in let ends : l ≡ m = cc in absurd (let k = rw ends at f in cc)
    uppers_once_at (formulas.is_last_upper {at = at} {end = m} {n = a} x e) (formulas.stops_behind_upper {end = l} {n = b} y f g) = let h = upper_once at (read a m) (read b l) x y in let ends : l ≡ m = cc in absurd (let k = rw ends at f in k e)
    uppers_once_at (formulas.is_upper {at = at} {end = m} {n = a} x e r) (formulas.stops_in_upper {k = k} {reason = why} y) = let h = upper_once at (read a m) (stop why k) x y in absurd (cc)
    uppers_once_at (formulas.is_upper {at = at} {end = m} {n = a} x e r) (formulas.is_last_upper {end = l} {n = b} y f) = let h = upper_once at (read a m) (read b l) x y in let ends : l ≡ m = cc in absurd (let k = rw ends at f in cc)
    uppers_once_at (formulas.is_upper {at = at} {end = m} {n = a} {outcome = o} x e r) (formulas.is_upper {end = l} {n = b} {outcome = p} y f s) =
        let h = upper_once at (read a m) (read b l) x y in
        let ends : l ≡ m = cc in
        let names : a ≡ b = cc in
        let rests : o ≡ p = uppers_once_at r (rw ends at s) in
        rw (names, rests) refl
    uppers_once_at (formulas.is_upper {at = at} {end = m} {n = a} x e r) (formulas.stops_behind_upper {end = l} {n = b} y f g) = let h = upper_once at (read a m) (read b l) x y in let ends : l ≡ m = cc in absurd (let k = rw ends at g in k e)
    uppers_once_at (formulas.stops_behind_upper {at = at} {end = m} {n = a} x e d) (formulas.stops_in_upper {k = k} {reason = why} y) = let h = upper_once at (read a m) (stop why k) x y in absurd (cc)
    uppers_once_at (formulas.stops_behind_upper {at = at} {end = m} {n = a} x e d) (formulas.is_last_upper {end = l} {n = b} y f) = let h = upper_once at (read a m) (read b l) x y in let ends : m ≡ l = cc in absurd (let k = rw ends at e in k f)
    uppers_once_at (formulas.stops_behind_upper {at = at} {end = m} {n = a} x e d) (formulas.is_upper {end = l} {n = b} y f s) = let h = upper_once at (read a m) (read b l) x y in let ends : m ≡ l = cc in absurd (let k = rw ends at d in k f)
    uppers_once_at (formulas.stops_behind_upper {at = at} {end = m} {n = a} x e d) (formulas.stops_behind_upper {end = l} {n = b} y f g) = let h = upper_once at (read a m) (read b l) x y in cc

    quantifier_once : Once (formulas.quantifier bytes tokens conjecture)
    quantifier_once = both_once _ _ (the_once _ _) (λ a. both_once _ _ (the_once _ _) (λ b. both_once (λ at o. formulas.Uppers bytes tokens conjecture at o) _ (λ at o p x y. uppers_once_at x y) (λ ns. both_once _ _ (the_once _ _) (λ c. gives_once _))))

    no_bang_question : (at : ℕ) → formulas.is_mark bytes tokens formulas.bang at → formulas.is_mark bytes tokens formulas.question at → ⊥
    no_bang_question at b q = cc

    formula_once_at : {brackets at : ℕ} {bound : Variables} {o p : Outcome Literal} → formulas.Formula bytes tokens conjecture brackets bound at o → formulas.Formula bytes tokens conjecture brackets bound at p → o ≡ p
    formula_once_at {at = at} {bound = bound} (formulas.is_bare {outcome = o} n b q x) (formulas.is_bare {outcome = p} m c r y) = literal_once conjecture bound at o p x y
    formula_once_at (formulas.is_bare n b q x) (formulas.is_bracketed e f y d) = absurd (n e)
    formula_once_at (formulas.is_bare n b q x) (formulas.is_not_closed e f y d) = absurd (n e)
    formula_once_at (formulas.is_bare n b q x) (formulas.stops_in_brackets e f y) = absurd (n e)
    formula_once_at (formulas.is_bare n b q x) (formulas.is_too_deep e f) = absurd (n e)
    formula_once_at (formulas.is_bare n b q x) (formulas.is_quantified m c y z) = absurd (b c)
    formula_once_at (formulas.is_bare n b q x) (formulas.stops_in_quantifier m c y) = absurd (b c)
    formula_once_at (formulas.is_bare n b q x) (formulas.is_unread m c) = absurd (q c)
    formula_once_at (formulas.is_bracketed e f x c) (formulas.is_bare n b q y) = absurd (n e)
    formula_once_at (formulas.is_bracketed {end = m} e f x c) (formulas.is_bracketed {end = l} d g y h) = let k = formula_once_at x y in cc
    formula_once_at (formulas.is_bracketed {end = m} e f x c) (formulas.is_not_closed {end = l} d g y h) = let k = formula_once_at x y in let ends : l ≡ m = cc in absurd (let j = rw ends at h in j c)
    formula_once_at (formulas.is_bracketed e f x c) (formulas.stops_in_brackets d g y) = let k = formula_once_at x y in cc
    formula_once_at (formulas.is_bracketed e f x c) (formulas.is_too_deep d g) = absurd (omega arith)
    formula_once_at (formulas.is_bracketed e f x c) (formulas.is_quantified m b y z) = absurd (m e)
    formula_once_at (formulas.is_bracketed e f x c) (formulas.stops_in_quantifier m b y) = absurd (m e)
    formula_once_at (formulas.is_bracketed e f x c) (formulas.is_unread m b) = absurd (m e)
    formula_once_at (formulas.is_not_closed e f x c) (formulas.is_bare n b q y) = absurd (n e)
    formula_once_at (formulas.is_not_closed {end = m} e f x c) (formulas.is_bracketed {end = l} d g y h) = let k = formula_once_at x y in let ends : m ≡ l = cc in absurd (let j = rw ends at c in j h)
    formula_once_at (formulas.is_not_closed {end = m} e f x c) (formulas.is_not_closed {end = l} d g y h) = let k = formula_once_at x y in cc
    formula_once_at (formulas.is_not_closed e f x c) (formulas.stops_in_brackets d g y) = let k = formula_once_at x y in cc
    formula_once_at (formulas.is_not_closed e f x c) (formulas.is_too_deep d g) = absurd (omega arith)
    formula_once_at (formulas.is_not_closed e f x c) (formulas.is_quantified m b y z) = absurd (m e)
    formula_once_at (formulas.is_not_closed e f x c) (formulas.stops_in_quantifier m b y) = absurd (m e)
    formula_once_at (formulas.is_not_closed e f x c) (formulas.is_unread m b) = absurd (m e)
    formula_once_at (formulas.stops_in_brackets e f x) (formulas.is_bare n b q y) = absurd (n e)
    formula_once_at (formulas.stops_in_brackets e f x) (formulas.is_bracketed d g y h) = let k = formula_once_at x y in cc
    formula_once_at (formulas.stops_in_brackets e f x) (formulas.is_not_closed d g y h) = let k = formula_once_at x y in cc
    formula_once_at (formulas.stops_in_brackets e f x) (formulas.stops_in_brackets d g y) = let k = formula_once_at x y in cc
    formula_once_at (formulas.stops_in_brackets e f x) (formulas.is_too_deep d g) = absurd (omega arith)
    formula_once_at (formulas.stops_in_brackets e f x) (formulas.is_quantified m b y z) = absurd (m e)
    formula_once_at (formulas.stops_in_brackets e f x) (formulas.stops_in_quantifier m b y) = absurd (m e)
    formula_once_at (formulas.stops_in_brackets e f x) (formulas.is_unread m b) = absurd (m e)
    formula_once_at (formulas.is_too_deep e f) (formulas.is_bare n b q y) = absurd (n e)
    formula_once_at (formulas.is_too_deep e f) (formulas.is_bracketed d g y h) = absurd (omega arith)
    formula_once_at (formulas.is_too_deep e f) (formulas.is_not_closed d g y h) = absurd (omega arith)
    formula_once_at (formulas.is_too_deep e f) (formulas.stops_in_brackets d g y) = absurd (omega arith)
    formula_once_at (formulas.is_too_deep e f) (formulas.is_too_deep d g) = refl
    formula_once_at (formulas.is_too_deep e f) (formulas.is_quantified m b y z) = absurd (m e)
    formula_once_at (formulas.is_too_deep e f) (formulas.stops_in_quantifier m b y) = absurd (m e)
    formula_once_at (formulas.is_too_deep e f) (formulas.is_unread m b) = absurd (m e)
    formula_once_at (formulas.is_quantified n b x z) (formulas.is_bare m c q y) = absurd (c b)
    formula_once_at (formulas.is_quantified n b x z) (formulas.is_bracketed d g y h) = absurd (n d)
    formula_once_at (formulas.is_quantified n b x z) (formulas.is_not_closed d g y h) = absurd (n d)
    formula_once_at (formulas.is_quantified n b x z) (formulas.stops_in_brackets d g y) = absurd (n d)
    formula_once_at (formulas.is_quantified n b x z) (formulas.is_too_deep d g) = absurd (n d)
    formula_once_at {brackets} {at} {bound} {o} {p} (formulas.is_quantified {middle = m} {ns = ns} n b x z) (formulas.is_quantified {middle = l} {ns = ms} k c y w) =
        let e = quantifier_once at (read ns m) (read ms l) x y in
        let names : ms ≡ ns = cc in
        let middles : l ≡ m = cc in
        formula_once_at z (subst (λ j. formulas.Formula bytes tokens conjecture brackets (formulas.bound_by bytes tokens conjecture bound ns) j p) middles (subst (λ j. formulas.Formula bytes tokens conjecture brackets (formulas.bound_by bytes tokens conjecture bound j) l p) names w))
    formula_once_at {at = at} (formulas.is_quantified {middle = m} {ns = ns} n b x z) (formulas.stops_in_quantifier {k = k} {reason = r} j c y) = let e = quantifier_once at (read ns m) (stop r k) x y in absurd (cc)
    formula_once_at {at = at} (formulas.is_quantified n b x z) (formulas.is_unread m c) = absurd (no_bang_question at b c)
    formula_once_at (formulas.stops_in_quantifier n b x) (formulas.is_bare m c q y) = absurd (c b)
    formula_once_at (formulas.stops_in_quantifier n b x) (formulas.is_bracketed d g y h) = absurd (n d)
    formula_once_at (formulas.stops_in_quantifier n b x) (formulas.is_not_closed d g y h) = absurd (n d)
    formula_once_at (formulas.stops_in_quantifier n b x) (formulas.stops_in_brackets d g y) = absurd (n d)
    formula_once_at (formulas.stops_in_quantifier n b x) (formulas.is_too_deep d g) = absurd (n d)
    formula_once_at {at = at} (formulas.stops_in_quantifier {k = k} {reason = r} n b x) (formulas.is_quantified {middle = m} {ns = ns} j c y z) = let e = quantifier_once at (stop r k) (read ns m) x y in absurd (cc)
    formula_once_at {at = at} (formulas.stops_in_quantifier {k = k} {reason = r} n b x) (formulas.stops_in_quantifier {k = l} {reason = q} m c y) = let e = quantifier_once at (stop r k) (stop q l) x y in cc
    formula_once_at {at = at} (formulas.stops_in_quantifier n b x) (formulas.is_unread m c) = absurd (no_bang_question at b c)
    formula_once_at (formulas.is_unread n b) (formulas.is_bare m c q y) = absurd (q b)
    formula_once_at (formulas.is_unread n b) (formulas.is_bracketed d g y h) = absurd (n d)
    formula_once_at (formulas.is_unread n b) (formulas.is_not_closed d g y h) = absurd (n d)
    formula_once_at (formulas.is_unread n b) (formulas.stops_in_brackets d g y) = absurd (n d)
    formula_once_at (formulas.is_unread n b) (formulas.is_too_deep d g) = absurd (n d)
    formula_once_at {at = at} (formulas.is_unread n b) (formulas.is_quantified m c y z) = absurd (no_bang_question at c b)
    formula_once_at {at = at} (formulas.is_unread n b) (formulas.stops_in_quantifier m c y) = absurd (no_bang_question at c b)
    formula_once_at (formulas.is_unread n b) (formulas.is_unread m c) = refl

    pub formula_once : Once (formulas.formula bytes tokens conjecture)
    formula_once at o p x y = formula_once_at x y

  abbrev next_piece : {bs : List Bracket} {at : ℕ} {o : Outcome (Unit {0})} → notes.Rest bytes tokens bs at o → (p : Piece) × (notes.piece_at bytes tokens bs at ≡ p)
  next_piece (notes.has_token e x) = (Plain, e)
  next_piece (notes.has_opening {b = b} e x) = (Opens b, e)
  next_piece (notes.has_closing e x) = (Closes, e)
  next_piece (notes.ends_before e) = (Behind, e)
  next_piece (notes.stops_before e) = (Misplaced, e)

  rest_once : {bs : List Bracket} {at : ℕ} {o p : Outcome (Unit {0})} → notes.Rest bytes tokens bs at o → notes.Rest bytes tokens bs at p → o ≡ p
  rest_once (notes.has_token e x) (notes.has_token f y) = rest_once x y
  rest_once {bs} {at} {o} {p} (notes.has_opening {b = b} e x) (notes.has_opening {b = c} f y) = let same : c ≡ b = cc in rest_once x (subst (λ d. notes.Rest bytes tokens (bs ++ d ∷ []) (at + 1) p) same y)
  rest_once (notes.has_closing e x) (notes.has_closing f y) = rest_once x y
  rest_once (notes.ends_before e) (notes.ends_before f) = refl
  rest_once (notes.stops_before e) (notes.stops_before f) = refl
  rest_once x y = let h : (next_piece x).0 ≡ (next_piece y).0 = sym (next_piece x).1 ∙ (next_piece y).1 in absurd cc

  note_once_at : {at : ℕ} {o p : Outcome (Unit {0})} → notes.Note bytes tokens at o → notes.Note bytes tokens at p → o ≡ p
  note_once_at (notes.is_note n x) (notes.is_note m y) = rest_once x y
  note_once_at (notes.is_note n x) (notes.is_no_note e) = absurd (n e)
  note_once_at (notes.is_no_note e) (notes.is_note n x) = absurd (n e)
  note_once_at (notes.is_no_note e) (notes.is_no_note f) = refl

  note_once : Once (notes.note bytes tokens)
  note_once at o p x y = note_once_at x y

  more_once : Once (notes.more_notes bytes tokens)
  more_once = choice_once _ _ _ (both_once _ _ (the_once _ _) (λ u. both_once (notes.note bytes tokens) _ note_once (λ w. the_once _ _))) (the_once _ _)

  first_once : Once (notes.first_note bytes tokens)
  first_once = both_once _ _ (the_once _ _) (λ u. both_once (notes.note bytes tokens) _ note_once (λ w. more_once))

  notes_once : (conjecture : Bool) → Once (formulas.notes bytes tokens conjecture)
  notes_once conjecture = choice_once _ _ _ first_once (the_once _ _)

  heading_once : Once (formulas.heading bytes tokens)
  heading_once = both_once _ _ here_once (λ first. both_once _ _ (the_once _ _) (λ a. both_once _ _ (the_once _ _) (λ b. both_once (AsIn (items.name bytes tokens)) _ (as_in_once (items.name bytes tokens) (λ at o p x y. x ∙ sym y)) (λ name. both_once _ _ (the_once _ _) (λ c. both_once _ _ here_once (λ role_at. both_once (formulas.role bytes tokens) _ (λ at o p x y. x ∙ sym y) (λ role. both_once _ _ (the_once _ _) (λ d. gives_once _))))))))

  pub fof_once : Once (formulas.fof bytes tokens)
  fof_once = both_once (formulas.heading bytes tokens) _ heading_once (λ heading. both_once (formulas.formula bytes tokens (formulas.is_conjecture heading.role)) _ (formula_once (formulas.is_conjecture heading.role)) (λ literal. both_once (formulas.notes bytes tokens (formulas.is_conjecture heading.role)) _ (notes_once (formulas.is_conjecture heading.role)) (λ u. both_once _ _ (the_once _ _) (λ w. gives_once _))))

  item_once_at : {at : ℕ} {o p : Outcome Entry} → formulas.Item bytes tokens at o → formulas.Item bytes tokens at p → o ≡ p
  item_once_at (formulas.is_stated {at = at} {outcome = o} e x) (formulas.is_stated {outcome = p} f y) = ap (mapped stated) (fof_once at o p x y)
  item_once_at (formulas.is_stated e x) (formulas.is_item f y) = absurd (cc)
  item_once_at (formulas.is_item e x) (formulas.is_stated f y) = absurd (cc)
  item_once_at (formulas.is_item {at = at} {outcome = o} e x) (formulas.is_item {outcome = p} f y) = ap (mapped item) (as_in_once (items.Item bytes tokens) (clause_item_once bytes tokens) at o p x y)

  pub item_once : Once (formulas.Item bytes tokens)
  item_once at o p x y = item_once_at x y

  items_once_at : {at : ℕ} {o p : Outcome (List Entry)} → formulas.Items bytes tokens at o → formulas.Items bytes tokens at p → o ≡ p
  items_once_at (formulas.is_end e) (formulas.is_end f) = refl
  items_once_at (formulas.is_end e) (formulas.has_item n x r) = absurd (n e)
  items_once_at (formulas.is_end e) (formulas.stops_in_item n x) = absurd (n e)
  items_once_at (formulas.has_item n x r) (formulas.is_end f) = absurd (n f)
  items_once_at (formulas.has_item {at = at} {middle = m} {entry = a} {outcome = o} n x r) (formulas.has_item {middle = l} {entry = b} {outcome = p} d y s) =
      let h = item_once at (read a m) (read b l) x y in
      let middles : l ≡ m = cc in
      let entries : a ≡ b = cc in
      let rests : o ≡ p = items_once_at r (rw middles at s) in
      rw (entries, rests) refl
  items_once_at (formulas.has_item {at = at} {middle = m} {entry = a} n x r) (formulas.stops_in_item {k = k} {reason = why} d y) = let h = item_once at (read a m) (stop why k) x y in absurd (cc)
  items_once_at (formulas.stops_in_item n x) (formulas.is_end f) = absurd (n f)
  items_once_at (formulas.stops_in_item {at = at} {k = k} {reason = why} n x) (formulas.has_item {middle = m} {entry = a} d y s) = let h = item_once at (stop why k) (read a m) x y in absurd (cc)
  items_once_at (formulas.stops_in_item {at = at} {k = k} {reason = why} n x) (formulas.stops_in_item {k = l} {reason = other} d y) = let h = item_once at (stop why k) (stop other l) x y in cc

  pub items_once : Once (formulas.Items bytes tokens)
  items_once at o p x y = items_once_at x y
