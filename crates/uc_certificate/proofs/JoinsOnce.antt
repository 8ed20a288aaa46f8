-- Join lines are read in one way.
use Rattle.std.proofs.Common.{◌≡◌, ℕ, ◌+◌, ◌-◌, List, ◌∷◌, refl, sym, ap, ◌∙◌, subst, codes}
use Rattle.std.specs.Prelude.{◌≢◌}
use Rattle.uc_clause.specs.declared.token.Token.{Token}
use Rattle.uc_clause.specs.declared.terminal.Terminal.{Terminal}
use Rattle.uc_clause.specs.declared.terminal.Terminal.TheVariants.{Open, Close, OpenSquare, CloseSquare, Comma, Dot}
use Rattle.uc_clause.specs.declared.grammar.stop.Why.TheVariants.{NoToken}
use Rattle.uc_clause.specs.Terminals.{terminal_at}
use Rattle.uc_clause.specs.Rules.{Outcome, read, stop, Rule, mapped}
use Rattle.uc_clause.specs.Parse.{Parse}
use Rattle.uc_clause.proofs.ReadOnce.{Once, both_once, gives_once, the_once, choice_once, term_once}
use Rattle.uc_tstp.specs.Lines as lines
use Rattle.uc_tstp.specs.Lines.{Members, stops_in_member, is_last_member, is_member, stops_behind_member}
use Rattle.uc_tstp.proofs.Outcomes.{yes_or_no, some_or_none, some_once, same_value, same_end, read_or_stop, stop_as}
use Rattle.uc_certificate.specs.declared.certificate.What.{What}
use Rattle.uc_certificate.specs.JoinParse.{Move, Case, Ending, Join}
use Rattle.uc_certificate.specs.JoinLines as rules
use Rattle.uc_certificate.specs.JoinLines.{first_foreign, end_of, at_first, TermAt, is_term, has_foreign, WhatAt, is_axiom, is_overlap, EndingAt, is_same, is_instance, is_ac, is_orders, JoinsAt, is_no_join, has_join, stops_in_join}

module _ (bytes : List ℕ) (tokens : List Token) where
  token_once : (terminal : Terminal) → Once (lines.token bytes tokens terminal)
  token_once terminal = the_once bytes tokens terminal NoToken

  word_once : (w : List ℕ) → Once (lines.word bytes tokens w)
  word_once w at (read v end) (read u other) x y = ap (read v) (x.1 ∙ sym y.1)
  word_once w at (read v end) (stop other k) x y = absurd (yes_or_no x.0 y.0)
  word_once w at (stop other k) (read v end) x y = absurd (yes_or_no y.0 x.0)
  word_once w at (stop a k) (stop b l) x y =
      let whys : a ≡ b = x.1 ∙ sym y.1 in
      let ks : k ≡ l = x.2 ∙ sym y.2 in
      rw (whys, ks) refl

  number_once : Once (lines.number bytes tokens)
  number_once at o p x y = x ∙ sym y

  way_once : Once (lines.way bytes tokens)
  way_once at o p x y = x ∙ sym y

  integer_once : Once (rules.integer bytes tokens)
  integer_once at o p x y = x ∙ sym y

  variable_once : Once (rules.variable bytes tokens)
  variable_once at o p x y = x ∙ sym y

  side_once : Once (rules.side bytes tokens)
  side_once at o p x y = x ∙ sym y

  module _ {V : Type 0} (member : Rule V) (once : Once member) where
    -- behind one member stands one token
    behind : {at m n : ℕ} {v w : V} (P : Terminal → Type 0) → member at (read v m) → member at (read w n) → P (terminal_at bytes tokens n) → P (terminal_at bytes tokens m)
    behind {at} {m} {n} {v} {w} P x y h = subst (λ end. P (terminal_at bytes tokens end)) (same_end (once at (read w n) (read v m) y x)) h

    members_once_at : {at : ℕ} {o p : Outcome (List V)} → Members bytes tokens member at o → Members bytes tokens member at p → o ≡ p
    members_once_at {at} (stops_in_member {k = k} {why = why} x) (stops_in_member {k = l} {why = other} y) = stop_as (once at (stop why k) (stop other l) x y)
    members_once_at {at} (stops_in_member {k = k} {why = why} x) (is_last_member {end = n} {v = w} y f) = absurd (read_or_stop (once at (read w n) (stop why k) y x))
    members_once_at {at} (stops_in_member {k = k} {why = why} x) (is_member {end = n} {v = w} y f s) = absurd (read_or_stop (once at (read w n) (stop why k) y x))
    members_once_at {at} (stops_in_member {k = k} {why = why} x) (stops_behind_member {end = n} {v = w} y f g) = absurd (read_or_stop (once at (read w n) (stop why k) y x))
    members_once_at {at} (is_last_member {end = m} {v = v} x e) (stops_in_member {k = k} {why = why} y) = absurd (read_or_stop (once at (read v m) (stop why k) x y))
    members_once_at {at} (is_last_member {end = m} {v = v} x e) (is_last_member {end = n} {v = w} y f) =
        let h = once at (read v m) (read w n) x y in
        let values : v ≡ w = same_value h in
        let ends : m ≡ n = same_end h in
        rw (values, ends) refl
    members_once_at (is_last_member x e) (is_member y f s) = absurd (let c = behind (λ t. t ≡ Comma) x y f in cc)
    members_once_at (is_last_member x e) (stops_behind_member y f g) = absurd (behind (λ t. t ≢ CloseSquare) x y f e)
    members_once_at {at} (is_member {end = m} {v = v} x e r) (stops_in_member {k = k} {why = why} y) = absurd (read_or_stop (once at (read v m) (stop why k) x y))
    members_once_at (is_member x e r) (is_last_member y f) = absurd (let c = behind (λ t. t ≡ CloseSquare) x y f in cc)
    members_once_at {at} (is_member {end = m} {v = v} {outcome = o} x e r) (is_member {end = n} {v = w} {outcome = p} y f s) =
        let h = once at (read v m) (read w n) x y in
        let values : v ≡ w = same_value h in
        let ends : n ≡ m = sym (same_end h) in
        let rests : o ≡ p = members_once_at r (subst (λ end. Members bytes tokens member (end + 1) p) ends s) in
        rw (values, rests) refl
    members_once_at (is_member x e r) (stops_behind_member y f g) = absurd (behind (λ t. t ≢ Comma) x y g e)
    members_once_at {at} (stops_behind_member {end = m} {v = v} x d e) (stops_in_member {k = k} {why = why} y) = absurd (read_or_stop (once at (read v m) (stop why k) x y))
    members_once_at (stops_behind_member x d e) (is_last_member y f) = absurd (d (behind (λ t. t ≡ CloseSquare) x y f))
    members_once_at (stops_behind_member x d e) (is_member y f s) = absurd (e (behind (λ t. t ≡ Comma) x y f))
    members_once_at {at} (stops_behind_member {end = m} {v = v} x d e) (stops_behind_member {end = n} {v = w} y f g) = let ends : m ≡ n = same_end (once at (read v m) (read w n) x y) in rw ends refl

    members_once : Once (lines.members bytes tokens member)
    members_once at o p x y = members_once_at x y

    no_members_once : Once (lines.no_members bytes tokens member)
    no_members_once = both_once _ _ (token_once CloseSquare) (λ u. gives_once _)

    list_once : Once (lines.list bytes tokens member)
    list_once = both_once _ _ (token_once OpenSquare) (λ u. choice_once bytes tokens CloseSquare _ _ no_members_once members_once)

  path_once : Once (lines.path bytes tokens)
  path_once = list_once (lines.number bytes tokens) number_once

  term_at_once : {at : ℕ} {o p : Outcome Parse} → TermAt bytes tokens at o → TermAt bytes tokens at p → o ≡ p
  term_at_once {at} (is_term {outcome = o} x e) (is_term {outcome = p} y f) = ap (at_first at) (term_once bytes tokens x y)
  term_at_once {at} (is_term {outcome = o} x e) (has_foreign {outcome = p} y f) = absurd (some_or_none (ap (λ (q : Outcome Parse). first_foreign bytes tokens (end_of q - at) at) (term_once bytes tokens x y) ∙ f) e)
  term_at_once {at} (has_foreign {outcome = o} x e) (is_term {outcome = p} y f) = absurd (some_or_none e (ap (λ (q : Outcome Parse). first_foreign bytes tokens (end_of q - at) at) (term_once bytes tokens x y) ∙ f))
  term_at_once {at} (has_foreign {outcome = o} {k = k} x e) (has_foreign {outcome = p} {k = l} y f) = ap (stop NoToken) (some_once e (ap (λ (q : Outcome Parse). first_foreign bytes tokens (end_of q - at) at) (term_once bytes tokens x y) ∙ f))

  term_rule : Once (rules.term bytes tokens)
  term_rule at o p x y = term_at_once x y

  move_head_once : Once (rules.move_head bytes tokens)
  move_head_once = both_once (lines.word bytes tokens (codes "step")) _ (word_once (codes "step")) (λ a. both_once _ _ (token_once Open) (λ b. both_once (rules.integer bytes tokens) _ integer_once (λ fact. both_once _ _ (token_once Comma) (λ c. both_once (lines.way bytes tokens) _ way_once (λ way. both_once _ _ (token_once Comma) (λ d. both_once (lines.path bytes tokens) _ path_once (λ path. both_once _ _ (token_once Comma) (λ e. gives_once _))))))))

  move_once : Once (rules.move bytes tokens)
  move_once = both_once (rules.move_head bytes tokens) _ move_head_once (λ head. both_once (rules.term bytes tokens) _ term_rule (λ to. both_once _ _ (token_once Close) (λ a. gives_once _)))

  moves_once : Once (rules.moves bytes tokens)
  moves_once = list_once (rules.move bytes tokens) move_once

  of_axiom_once : Once (rules.of_axiom bytes tokens)
  of_axiom_once = both_once (lines.word bytes tokens (codes "axiom")) _ (word_once (codes "axiom")) (λ a. both_once _ _ (token_once Open) (λ b. both_once (rules.integer bytes tokens) _ integer_once (λ number. both_once _ _ (token_once Close) (λ c. gives_once _))))

  of_overlap_once : Once (rules.of_overlap bytes tokens)
  of_overlap_once = both_once (lines.word bytes tokens (codes "overlap")) _ (word_once (codes "overlap")) (λ a. both_once _ _ (token_once Open) (λ b. both_once (rules.integer bytes tokens) _ integer_once (λ outer. both_once _ _ (token_once Comma) (λ c. both_once (rules.side bytes tokens) _ side_once (λ outer_side. both_once _ _ (token_once Comma) (λ d. both_once (rules.integer bytes tokens) _ integer_once (λ inner. both_once _ _ (token_once Comma) (λ e. both_once (rules.side bytes tokens) _ side_once (λ inner_side. both_once _ _ (token_once Comma) (λ f. both_once (lines.path bytes tokens) _ path_once (λ path. both_once _ _ (token_once Close) (λ g. gives_once _))))))))))))

  what_once_at : {at : ℕ} {o p : Outcome What} → WhatAt bytes tokens at o → WhatAt bytes tokens at p → o ≡ p
  what_once_at {at} {o} {p} (is_axiom e x) (is_axiom f y) = of_axiom_once at o p x y
  what_once_at (is_axiom e x) (is_overlap f y) = absurd (yes_or_no e f)
  what_once_at (is_overlap e x) (is_axiom f y) = absurd (yes_or_no f e)
  what_once_at {at} {o} {p} (is_overlap e x) (is_overlap f y) = of_overlap_once at o p x y

  what_once : Once (rules.what bytes tokens)
  what_once at o p x y = what_once_at x y

  class_once : Once (rules.class bytes tokens)
  class_once = both_once _ _ (token_once OpenSquare) (λ a. members_once (rules.variable bytes tokens) variable_once)

  classes_once : Once (rules.classes bytes tokens)
  classes_once = list_once (rules.class bytes tokens) class_once

  rest_of_case_once : (classes : List (List ℕ)) → Once (rules.rest_of_case bytes tokens classes)
  rest_of_case_once classes = both_once _ _ (token_once Comma) (λ a. both_once (rules.moves bytes tokens) _ moves_once (λ left. both_once _ _ (token_once Comma) (λ b. both_once (rules.moves bytes tokens) _ moves_once (λ right. both_once _ _ (token_once Close) (λ c. gives_once _)))))

  case_once : Once (rules.case bytes tokens)
  case_once = both_once (lines.word bytes tokens (codes "case")) _ (word_once (codes "case")) (λ a. both_once _ _ (token_once Open) (λ b. both_once (rules.classes bytes tokens) _ classes_once (λ classes. rest_of_case_once classes)))

  same_once : Once (rules.same bytes tokens)
  same_once = both_once (lines.word bytes tokens (codes "same")) _ (word_once (codes "same")) (λ a. gives_once _)

  instance_once : Once (rules.instance bytes tokens)
  instance_once = both_once (lines.word bytes tokens (codes "instance")) _ (word_once (codes "instance")) (λ a. both_once _ _ (token_once Open) (λ b. both_once (rules.integer bytes tokens) _ integer_once (λ number. both_once _ _ (token_once Close) (λ c. gives_once _))))

  orders_once : Once (rules.orders bytes tokens)
  orders_once = both_once (lines.word bytes tokens (codes "orders")) _ (word_once (codes "orders")) (λ a. both_once _ _ (token_once Open) (λ b. both_once _ _ (token_once OpenSquare) (λ c. both_once (lines.members bytes tokens (rules.case bytes tokens)) _ (members_once (rules.case bytes tokens) case_once) (λ cases. both_once _ _ (token_once Close) (λ d. gives_once _)))))

  triple_once : Once (rules.triple bytes tokens)
  triple_once = both_once _ _ (token_once OpenSquare) (λ a. both_once (rules.integer bytes tokens) _ integer_once (λ assoc. both_once _ _ (token_once Comma) (λ b. both_once (rules.integer bytes tokens) _ integer_once (λ comm. both_once _ _ (token_once Comma) (λ c. both_once (rules.integer bytes tokens) _ integer_once (λ extended. both_once _ _ (token_once CloseSquare) (λ d. gives_once _)))))))

  ac_once : Once (rules.ac bytes tokens)
  ac_once = both_once (lines.word bytes tokens (codes "ac")) _ (word_once (codes "ac")) (λ a. both_once _ _ (token_once Open) (λ b. both_once _ _ (token_once OpenSquare) (λ c. both_once (lines.members bytes tokens (rules.triple bytes tokens)) _ (members_once (rules.triple bytes tokens) triple_once) (λ triples. both_once _ _ (token_once Close) (λ d. gives_once _)))))

  ending_once_at : {at : ℕ} {o p : Outcome Ending} → EndingAt bytes tokens at o → EndingAt bytes tokens at p → o ≡ p
  ending_once_at {at} {o} {p} (is_same e x) (is_same f y) = same_once at o p x y
  ending_once_at (is_same e x) (is_instance f h y) = absurd (yes_or_no e f)
  ending_once_at (is_same e x) (is_ac f h k y) = absurd (yes_or_no e f)
  ending_once_at (is_same e x) (is_orders f h k y) = absurd (yes_or_no e f)
  ending_once_at (is_instance e h x) (is_same f y) = absurd (yes_or_no f e)
  ending_once_at {at} {o} {p} (is_instance e h x) (is_instance f k y) = instance_once at o p x y
  ending_once_at (is_instance e h x) (is_ac f k l y) = absurd (yes_or_no h k)
  ending_once_at (is_instance e h x) (is_orders f k l y) = absurd (yes_or_no h k)
  ending_once_at (is_ac e h i x) (is_same f y) = absurd (yes_or_no f e)
  ending_once_at (is_ac e h i x) (is_instance f k y) = absurd (yes_or_no k h)
  ending_once_at {at} {o} {p} (is_ac e h i x) (is_ac f k l y) = ac_once at o p x y
  ending_once_at (is_ac e h i x) (is_orders f k l y) = absurd (yes_or_no i l)
  ending_once_at (is_orders e h i x) (is_same f y) = absurd (yes_or_no f e)
  ending_once_at (is_orders e h i x) (is_instance f k y) = absurd (yes_or_no k h)
  ending_once_at (is_orders e h i x) (is_ac f k l y) = absurd (yes_or_no l i)
  ending_once_at {at} {o} {p} (is_orders e h i x) (is_orders f k l y) = orders_once at o p x y

  ending_once : Once (rules.ending bytes tokens)
  ending_once at o p x y = ending_once_at x y

  rest_of_join_once : (what : What) → Once (rules.rest_of_join bytes tokens what)
  rest_of_join_once what = both_once _ _ (token_once Comma) (λ a. both_once (rules.moves bytes tokens) _ moves_once (λ left. both_once _ _ (token_once Comma) (λ b. both_once (rules.moves bytes tokens) _ moves_once (λ right. both_once _ _ (token_once Comma) (λ c. both_once (rules.ending bytes tokens) _ ending_once (λ ending. both_once _ _ (token_once Close) (λ d. both_once _ _ (token_once Dot) (λ e. gives_once _))))))))

  join_once : Once (rules.join bytes tokens)
  join_once = both_once (lines.word bytes tokens (codes "join")) _ (word_once (codes "join")) (λ a. both_once _ _ (token_once Open) (λ b. both_once (rules.what bytes tokens) _ what_once (λ what. rest_of_join_once what)))

  pub joins_once : {at : ℕ} {o p : Outcome (List Join)} → JoinsAt bytes tokens at o → JoinsAt bytes tokens at p → o ≡ p
  joins_once (is_no_join e) (is_no_join f) = refl
  joins_once (is_no_join e) (has_join n y s) = absurd (n e)
  joins_once (is_no_join e) (stops_in_join n y) = absurd (n e)
  joins_once (has_join n x r) (is_no_join f) = absurd (n f)
  joins_once {at} (has_join {middle = m} {j = j} {outcome = o} n x r) (has_join {middle = k} {j = i} {outcome = p} d y s) =
      let h = join_once at (read j m) (read i k) x y in
      let values : j ≡ i = same_value h in
      let middles : k ≡ m = sym (same_end h) in
      let rests : o ≡ p = joins_once r (subst (λ b. JoinsAt bytes tokens b p) middles s) in
      rw (values, rests) refl
  joins_once {at} (has_join {middle = m} {j = j} n x r) (stops_in_join {k = k} {why = why} d y) = absurd (read_or_stop (join_once at (read j m) (stop why k) x y))
  joins_once (stops_in_join n x) (is_no_join f) = absurd (n f)
  joins_once {at} (stops_in_join {k = k} {why = why} n x) (has_join {middle = m} {j = j} d y s) = absurd (read_or_stop (join_once at (read j m) (stop why k) y x))
  joins_once {at} (stops_in_join {k = k} {why = why} n x) (stops_in_join {k = l} {why = other} d y) = stop_as (join_once at (stop why k) (stop other l) x y)
