-- Lines are read in one way.
use Rattle.std.proofs.Common.{◌≡◌, ℕ, ◌+◌, List, ◌∷◌, refl, sym, ap, ◌∙◌, subst, Bool, true, false}
use Rattle.std.specs.Prelude.{◌≢◌, codes}
use Rattle.uc_clause.specs.declared.token.Token.{Token}
use Rattle.uc_clause.specs.declared.terminal.Terminal.{Terminal}
use Rattle.uc_clause.specs.declared.terminal.Terminal.TheVariants.{Open, Close, OpenSquare, CloseSquare, Comma, Dot}
use Rattle.uc_clause.specs.declared.grammar.stop.Why.TheVariants.{NoToken}
use Rattle.uc_clause.specs.Terminals.{terminal_at, bytes_at}
use Rattle.uc_clause.specs.Rules.{Outcome, read, stop, Rule, mapped}
use Rattle.uc_clause.specs.Items as items
use Rattle.uc_clause.proofs.ReadOnce.{Once, both_once, here_once, gives_once, the_once, choice_once, term_once}
use Rattle.uc_clause.proofs.ItemsOnce.{equation_once}
use Rattle.uc_tstp.specs.declared.words.Inference.{Inference}
use Rattle.uc_tstp.specs.declared.words.Inference.TheVariants.{Chain, Encode, Refute}
use Rattle.uc_tstp.specs.Parse.{Body, says, Source, Line}
use Rattle.uc_tstp.specs.Lines as lines
use Rattle.uc_tstp.specs.declared.scope.Scope.{Scope}
use Rattle.uc_tstp.specs.Lines.{RuleWord, is_rule, is_no_rule, is_no_word, LineName, is_new, is_repeated, is_no_line_name, BodyAt, is_false, is_equation, Members, stops_in_member, is_last_member, is_member, stops_behind_member, SourceAt, is_from_file, is_inferred, belongs, LinesAt, is_no_line, has_line, has_foreign_line, stops_in_line}
use Rattle.uc_tstp.proofs.Outcomes.{yes_or_no, some_or_none, same_value, same_end, read_or_stop, stop_as}

fits_once : (fits : Bool) (first : ℕ) → Once (lines.body_fits fits first)
fits_once true first at o p x y = x ∙ sym y
fits_once false first at o p x y = x ∙ sym y

module _ (bytes : List ℕ) (tokens : List Token) where
  term_rule : Once (items.term bytes tokens)
  term_rule at o p x y = term_once bytes tokens x y

  token_once : (terminal : Terminal) → Once (lines.token bytes tokens terminal)
  token_once terminal = the_once bytes tokens terminal NoToken

  word_once : (w : List ℕ) → Once (lines.word bytes tokens w)
  word_once w at (read v end) (read u other) x y = ap (read v) (x.1 ∙ sym y.1)
  word_once w at (read v end) (stop other k) x y = absurd (yes_or_no x.0 y.0)
  word_once w at (stop other k) (read v end) x y = absurd (yes_or_no y.0 x.0)
  word_once w at (stop a k) (stop b l) x y =
      let whys : a ≡ b = x.1 ∙ sym y.1 in
      let ks : k ≡ l = x.2 ∙ sym y.2 in
      rw (whys, ks) refl

  lower_once : Once (lines.lower bytes tokens)
  lower_once at o p x y = x ∙ sym y

  functor_once : Once (lines.functor bytes tokens)
  functor_once at o p x y = x ∙ sym y

  number_once : Once (lines.number bytes tokens)
  number_once at o p x y = x ∙ sym y

  way_once : Once (lines.way bytes tokens)
  way_once at o p x y = x ∙ sym y

  of_goal_once : Once (lines.of_goal bytes tokens)
  of_goal_once at o p x y = x ∙ sym y

  name_once : Once (items.name bytes tokens)
  name_once at o p x y = x ∙ sym y

  rule_once_at : {at : ℕ} {o p : Outcome Inference} → RuleWord bytes tokens at o → RuleWord bytes tokens at p → o ≡ p
  rule_once_at {at} (is_rule {r = r} e x) (is_rule {r = s} f y) = let rules : r ≡ s = cc in rw rules refl
  rule_once_at (is_rule e x) (is_no_rule f y) = absurd (some_or_none x y)
  rule_once_at (is_rule e x) (is_no_word n) = absurd (n e)
  rule_once_at (is_no_rule e x) (is_rule f y) = absurd (some_or_none y x)
  rule_once_at (is_no_rule e x) (is_no_rule f y) = refl
  rule_once_at (is_no_rule e x) (is_no_word n) = absurd (n e)
  rule_once_at (is_no_word n) (is_rule f y) = absurd (n f)
  rule_once_at (is_no_word n) (is_no_rule f y) = absurd (n f)
  rule_once_at (is_no_word n) (is_no_word m) = refl

  rule_word_once : Once (lines.rule_word bytes tokens)
  rule_word_once at o p x y = rule_once_at x y

  line_name_once_at : {earlier : List (List ℕ)} {at : ℕ} {o p : Outcome ℕ} → LineName bytes tokens earlier at o → LineName bytes tokens earlier at p → o ≡ p
  line_name_once_at (is_new e x) (is_new f y) = refl
  line_name_once_at (is_new e x) (is_repeated f y) = absurd (yes_or_no y x)
  line_name_once_at (is_new e x) (is_no_line_name n) = absurd (n e)
  line_name_once_at (is_repeated e x) (is_new f y) = absurd (yes_or_no x y)
  line_name_once_at (is_repeated e x) (is_repeated f y) = refl
  line_name_once_at (is_repeated e x) (is_no_line_name n) = absurd (n e)
  line_name_once_at (is_no_line_name n) (is_new f y) = absurd (n f)
  line_name_once_at (is_no_line_name n) (is_repeated f y) = absurd (n f)
  line_name_once_at (is_no_line_name n) (is_no_line_name m) = refl

  line_name_once : (earlier : List (List ℕ)) → Once (lines.line_name bytes tokens earlier)
  line_name_once earlier at o p x y = line_name_once_at x y

  body_once_at : {at : ℕ} {o p : Outcome Body} → BodyAt bytes tokens at o → BodyAt bytes tokens at p → o ≡ p
  body_once_at (is_false e) (is_false f) = refl
  body_once_at (is_false e) (is_equation f y) = absurd (yes_or_no e f)
  body_once_at (is_equation e x) (is_false f) = absurd (yes_or_no f e)
  body_once_at {at} (is_equation {outcome = o} e x) (is_equation {outcome = p} f y) = ap (mapped says) (equation_once bytes tokens at o p x y)

  body_once : Once (lines.body bytes tokens)
  body_once at o p x y = body_once_at x y

  module _ {V : Type 0} (member : Rule V) (once : Once member) where
    -- behind one member stands one token
    behind : {at m n : ℕ} {v w : V} (P : Terminal → Type 0) → member at (read v m) → member at (read w n) → P (terminal_at bytes tokens n) → P (terminal_at bytes tokens m)
    behind {at} {m} {n} {v} {w} P x y h = subst (λ end. P (terminal_at bytes tokens end)) (same_end (once at (read w n) (read v m) y x)) h

    members_once_at : {at : ℕ} {o p : Outcome (List V)} → Members bytes tokens member at o → Members bytes tokens member at p → o ≡ p
    members_once_at {at} (stops_in_member {k = k} {why = why} x) (stops_in_member {k = l} {why = other} y) = stop_as (once at (stop why k) (stop other l) x y)
    members_once_at {at} (stops_in_member {k = k} {why = why} x) (is_last_member {end = n} {v = w} y f) = absurd (read_or_stop (once at (read w n) (stop why k) y x))
    members_once_at {at} (stops_in_member {k = k} {why = why} x) (is_member {end = n} {v = w} y f s) = absurd (read_or_stop (once at (read w n) (stop why k) y x))
    members_once_at {at} (stops_in_member {k = k} {why = why} x) (stops_behind_member {end = n} {v = w} y f g) = absurd (read_or_stop (once at (read w n) (stop why k) y x))
    members_once_at {at} (is_last_member {end = m} {v = v} x e) (stops_in_member {k = k} {why = why} y) = absurd (read_or_stop (once at (read v m) (stop why k) x y))
    members_once_at {at} (is_last_member {end = m} {v = v} x e) (is_last_member {end = n} {v = w} y f) =
        let h = once at (read v m) (read w n) x y in
        let values : v ≡ w = same_value h in
        let ends : m ≡ n = same_end h in
        rw (values, ends) refl
    members_once_at (is_last_member x e) (is_member y f s) = absurd (let c = behind (λ t. t ≡ Comma) x y f in cc)
    members_once_at (is_last_member x e) (stops_behind_member y f g) = absurd (behind (λ t. t ≢ CloseSquare) x y f e)
    members_once_at {at} (is_member {end = m} {v = v} x e r) (stops_in_member {k = k} {why = why} y) = absurd (read_or_stop (once at (read v m) (stop why k) x y))
    members_once_at (is_member x e r) (is_last_member y f) = absurd (let c = behind (λ t. t ≡ CloseSquare) x y f in cc)
    members_once_at {at} (is_member {end = m} {v = v} {outcome = o} x e r) (is_member {end = n} {v = w} {outcome = p} y f s) =
        let h = once at (read v m) (read w n) x y in
        let values : v ≡ w = same_value h in
        let ends : n ≡ m = sym (same_end h) in
        let rests : o ≡ p = members_once_at r (subst (λ end. Members bytes tokens member (end + 1) p) ends s) in
        rw (values, rests) refl
    members_once_at (is_member x e r) (stops_behind_member y f g) = absurd (behind (λ t. t ≢ Comma) x y g e)
    members_once_at {at} (stops_behind_member {end = m} {v = v} x d e) (stops_in_member {k = k} {why = why} y) = absurd (read_or_stop (once at (read v m) (stop why k) x y))
    members_once_at (stops_behind_member x d e) (is_last_member y f) = absurd (d (behind (λ t. t ≡ CloseSquare) x y f))
    members_once_at (stops_behind_member x d e) (is_member y f s) = absurd (e (behind (λ t. t ≡ Comma) x y f))
    members_once_at {at} (stops_behind_member {end = m} {v = v} x d e) (stops_behind_member {end = n} {v = w} y f g) = let ends : m ≡ n = same_end (once at (read v m) (read w n) x y) in rw ends refl

    members_once : Once (lines.members bytes tokens member)
    members_once at o p x y = members_once_at x y

    no_members_once : Once (lines.no_members bytes tokens member)
    no_members_once = both_once _ _ (token_once CloseSquare) (λ u. gives_once _)

    list_once : Once (lines.list bytes tokens member)
    list_once = both_once _ _ (token_once OpenSquare) (λ u. choice_once bytes tokens CloseSquare _ _ no_members_once members_once)

  path_once : Once (lines.path bytes tokens)
  path_once = list_once (lines.number bytes tokens) number_once

  parents_once : Once (lines.parents bytes tokens)
  parents_once = list_once (lines.lower bytes tokens) lower_once

  step_head_once : Once (lines.step_head bytes tokens)
  step_head_once = both_once (lines.word bytes tokens (codes "step")) _ (word_once (codes "step")) (λ a. both_once _ _ (token_once Open) (λ b. both_once (lines.lower bytes tokens) _ lower_once (λ by. both_once _ _ (token_once Comma) (λ c. both_once (lines.way bytes tokens) _ way_once (λ way. both_once _ _ (token_once Comma) (λ d. both_once (lines.path bytes tokens) _ path_once (λ path. both_once _ _ (token_once Comma) (λ e. gives_once _))))))))

  step_once : Once (lines.step bytes tokens)
  step_once = both_once (lines.step_head bytes tokens) _ step_head_once (λ head. both_once (items.term bytes tokens) _ term_rule (λ to. both_once _ _ (token_once Close) (λ a. gives_once _)))

  steps_once : Once (lines.steps bytes tokens)
  steps_once = choice_once bytes tokens CloseSquare _ _ (no_members_once (lines.step bytes tokens) step_once) (both_once _ _ (token_once Comma) (λ a. members_once (lines.step bytes tokens) step_once))

  rest_of_inference_once : Once (lines.rest_of_inference bytes tokens)
  rest_of_inference_once = both_once _ _ (token_once Comma) (λ a. both_once (lines.parents bytes tokens) _ parents_once (λ parents. both_once _ _ (token_once Close) (λ b. gives_once _)))

  rule_source_once : (rule : Inference) → Once (lines.source_of_rule bytes tokens rule)
  rule_source_once Chain = both_once (items.term bytes tokens) _ term_rule (λ start. both_once (lines.steps bytes tokens) _ steps_once (λ steps. both_once (lines.rest_of_inference bytes tokens) _ rest_of_inference_once (λ parents. gives_once _)))
  rule_source_once Encode = both_once (lines.of_goal bytes tokens) _ of_goal_once (λ goal. both_once _ _ (token_once CloseSquare) (λ a. both_once (lines.rest_of_inference bytes tokens) _ rest_of_inference_once (λ parents. gives_once _)))
  rule_source_once Refute = both_once _ _ (token_once CloseSquare) (λ a. both_once (lines.rest_of_inference bytes tokens) _ rest_of_inference_once (λ parents. gives_once _))

  file_source_once : (b : Body) (first : ℕ) → Once (lines.file_source bytes tokens b first)
  file_source_once b first = both_once (lines.word bytes tokens (codes "file")) _ (word_once (codes "file")) (λ a. both_once (lines.body_fits (lines.fits_file b) first) _ (fits_once (lines.fits_file b) first) (λ c. both_once _ _ (token_once Open) (λ d. both_once (lines.functor bytes tokens) _ functor_once (λ e. both_once _ _ (token_once Comma) (λ f. both_once (items.name bytes tokens) _ name_once (λ name. both_once _ _ (token_once Close) (λ g. gives_once _)))))))

  inference_source_once : (b : Body) (first : ℕ) → Once (lines.inference_source bytes tokens b first)
  inference_source_once b first = both_once (lines.word bytes tokens (codes "inference")) _ (word_once (codes "inference")) (λ a. both_once _ _ (token_once Open) (λ c. both_once (lines.rule_word bytes tokens) _ rule_word_once (λ rule. both_once (lines.body_fits (lines.fits_rule rule b) first) _ (fits_once (lines.fits_rule rule b) first) (λ d. both_once _ _ (token_once Comma) (λ e. both_once _ _ (token_once OpenSquare) (λ f. rule_source_once rule))))))

  source_once_at : {b : Body} {first at : ℕ} {o p : Outcome Source} → SourceAt bytes tokens b first at o → SourceAt bytes tokens b first at p → o ≡ p
  source_once_at {b} {first} {at} {o} {p} (is_from_file e x) (is_from_file f y) = file_source_once b first at o p x y
  source_once_at (is_from_file e x) (is_inferred f y) = absurd (yes_or_no e f)
  source_once_at (is_inferred e x) (is_from_file f y) = absurd (yes_or_no f e)
  source_once_at {b} {first} {at} {o} {p} (is_inferred e x) (is_inferred f y) = inference_source_once b first at o p x y

  source_once : (b : Body) (first : ℕ) → Once (lines.source bytes tokens b first)
  source_once b first at o p x y = source_once_at x y

  rest_of_line_once : (name : ℕ) → Once (lines.rest_of_line bytes tokens name)
  rest_of_line_once name = both_once _ _ here_once (λ first. both_once (lines.body bytes tokens) _ body_once (λ body. both_once _ _ (token_once Comma) (λ a. both_once (lines.source bytes tokens body first) _ (source_once body first) (λ source. both_once _ _ (token_once Close) (λ b. both_once _ _ (token_once Dot) (λ c. gives_once _))))))

  line_once : (earlier : List (List ℕ)) → Once (lines.line bytes tokens earlier)
  line_once earlier = both_once (lines.word bytes tokens (codes "cnf")) _ (word_once (codes "cnf")) (λ a. both_once _ _ (token_once Open) (λ b. both_once (lines.line_name bytes tokens earlier) _ (line_name_once earlier) (λ name. both_once _ _ (token_once Comma) (λ c. both_once (lines.lower bytes tokens) _ lower_once (λ d. both_once _ _ (token_once Comma) (λ e. rest_of_line_once name))))))

  -- a line belongs or it doesn't
  both_ways : {b : Bool} → b ≡ true → b ≡ false → ⊥
  both_ways e f = absurd cc

  pub lines_once : (which : Scope) {earlier : List (List ℕ)} {at : ℕ} {o p : Outcome (List Line)} → LinesAt bytes tokens which earlier at o → LinesAt bytes tokens which earlier at p → o ≡ p
  lines_once which (is_no_line e) (is_no_line f) = refl
  lines_once which (is_no_line e) (has_line n y c s) = absurd (n e)
  lines_once which (is_no_line e) (has_foreign_line n y c) = absurd (n e)
  lines_once which (is_no_line e) (stops_in_line n y) = absurd (n e)
  lines_once which (has_line n x b r) (is_no_line f) = absurd (n f)
  lines_once which {earlier} {at} (has_line {middle = m} {l = l} {outcome = o} n x b r) (has_line {middle = k} {l = j} {outcome = p} d y c s) =
      let h = line_once earlier at (read l m) (read j k) x y in
      let values : l ≡ j = same_value h in
      let middles : k ≡ m = sym (same_end h) in
      let rests : o ≡ p = lines_once which r (subst (λ i. LinesAt bytes tokens which (bytes_at bytes tokens l.name ∷ earlier) i p) middles (subst (λ (i : Line). LinesAt bytes tokens which (bytes_at bytes tokens i.name ∷ earlier) k p) (sym values) s)) in
      rw (values, rests) refl
  lines_once which {earlier} {at} (has_line {middle = m} {l = l} n x b r) (has_foreign_line {middle = k} {l = j} d y c) = absurd (both_ways (ap (λ (i : Line). belongs which i.source) (sym (same_value (line_once earlier at (read l m) (read j k) x y))) ∙ b) c)
  lines_once which {earlier} {at} (has_line {middle = m} {l = l} n x b r) (stops_in_line {k = k} {why = why} d y) = absurd (read_or_stop (line_once earlier at (read l m) (stop why k) x y))
  lines_once which (has_foreign_line n x b) (is_no_line f) = absurd (n f)
  lines_once which {earlier} {at} (has_foreign_line {middle = m} {l = l} n x b) (has_line {middle = k} {l = j} d y c s) = absurd (both_ways c (ap (λ (i : Line). belongs which i.source) (sym (same_value (line_once earlier at (read l m) (read j k) x y))) ∙ b))
  lines_once which (has_foreign_line n x b) (has_foreign_line d y c) = refl
  lines_once which {earlier} {at} (has_foreign_line {middle = m} {l = l} n x b) (stops_in_line {k = k} {why = why} d y) = absurd (read_or_stop (line_once earlier at (read l m) (stop why k) x y))
  lines_once which (stops_in_line n x) (is_no_line f) = absurd (n f)
  lines_once which {earlier} {at} (stops_in_line {k = k} {why = why} n x) (has_line {middle = m} {l = l} d y c s) = absurd (read_or_stop (line_once earlier at (read l m) (stop why k) y x))
  lines_once which {earlier} {at} (stops_in_line {k = k} {why = why} n x) (has_foreign_line {middle = m} {l = l} d y c) = absurd (read_or_stop (line_once earlier at (read l m) (stop why k) y x))
  lines_once which {earlier} {at} (stops_in_line {k = k} {why = why} n x) (stops_in_line {k = l} {why = other} d y) = stop_as (line_once earlier at (stop why k) (stop other l) x y)
