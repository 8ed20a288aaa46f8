-- What is read of join lines ends behind where it begins.
use Rattle.std.proofs.Common.{◌≡◌, ℕ, ◌+◌, ◌<◌, ◌≤◌, Bool, List, Option, refl, arith, codes}
use Rattle.uc_clause.specs.declared.token.Token.{Token}
use Rattle.uc_clause.specs.declared.terminal.Terminal.{Terminal}
use Rattle.uc_clause.specs.declared.terminal.Terminal.TheVariants.{Open, Close, OpenSquare, CloseSquare, Comma, Dot}
use Rattle.uc_clause.specs.declared.grammar.stop.Why.{Why}
use Rattle.uc_clause.specs.declared.grammar.stop.Why.TheVariants.{NoToken}
use Rattle.uc_clause.specs.Terminals.{terminal_at, bytes_at}
use Rattle.uc_clause.specs.Rules.{Outcome, read, stop, Rule, mapped, Then, ◌>>=◌, goes_on, gives, pick, is_first, is_second}
use Rattle.uc_clause.specs.Parse.{Parse}
use Rattle.uc_clause.proofs.Progress.{NotBehind, term_ahead}
use Rattle.uc_tstp.specs.Lines as lines
use Rattle.uc_tstp.specs.Lines.{Members, stops_in_member, is_last_member, is_member, stops_behind_member}
use Rattle.uc_tstp.proofs.Members.{picked_ahead}
use Rattle.uc_certificate.specs.JoinParse.{Move, Case, Join}
use Rattle.uc_certificate.specs.JoinLines as rules
use Rattle.uc_certificate.specs.JoinLines.{TermAt, is_term, has_foreign, at_first, is_axiom, is_overlap, is_same, is_instance, is_ac, is_orders}

abbrev pub Ends : {V : Type 0} → Rule V → Type 0
Ends {V} rule = (at end : ℕ) (v : V) → rule at (read v end) → at ≤ end

then_ends : {V W : Type 0} (first : Rule V) (next : V → Rule W) → Ends first → ((v : V) → Ends (next v)) → Ends (Then first next)
then_ends first next f n at end w (goes_on {v = v} {middle = m} x y) = omega (arith, f at m v x, n v m end w y)

gives_ends : {V : Type 0} (v : V) → Ends (gives v)
gives_ends v at end w e = let same : end ≡ at = cc in omega arith

pick_ends : {V : Type 0} (value : ℕ → Option V) → Ends (λ at. pick NoToken (value at) at)
pick_ends value at end v e = omega (arith, picked_ahead (value at) at end v e)

over : {V W : Type 0} (f : V → W) (from at : ℕ) (o : Outcome V) → from ≤ at → NotBehind at o → NotBehind from (mapped f o)
over f from at (read v end) h a = omega arith
over f from at (stop why k) h a = tt

module _ (bytes : List ℕ) (tokens : List Token) where
  token_ends : (terminal : Terminal) → Ends (lines.token bytes tokens terminal)
  token_ends terminal at end v h = omega (arith, h.1)

  word_ends : (word : List ℕ) → Ends (lines.word bytes tokens word)
  word_ends word at end v h = omega (arith, h.1)

  module _ {V : Type 0} (member : Rule V) (ends : Ends member) where
    members_at : {at : ℕ} {o : Outcome (List V)} → Members bytes tokens member at o → NotBehind at o
    members_at (stops_in_member s) = tt
    members_at (is_last_member {at = at} {end = end} {v = v} m c) = let h = ends at end v m in omega arith
    members_at (is_member {at = at} {end = end} {v = v} {outcome = o} m c all) = let h = ends at end v m in over _ at (end + 1) o (omega arith) (members_at all)
    members_at (stops_behind_member m n c) = tt

    members_end : Ends (lines.members bytes tokens member)
    members_end at end vs m = members_at m

    list_ends : Ends (lines.list bytes tokens member)
    list_ends at end vs (goes_on {middle = m} opened (is_first e (goes_on {middle = k} closed g))) = let same : end ≡ k = cc in omega (arith, opened.1, closed.1)
    list_ends at end vs (goes_on {middle = m} opened (is_second n all)) = let h : m ≤ end = members_at all in omega (arith, opened.1)

  integer_ends : Ends (rules.integer bytes tokens)
  integer_ends = pick_ends (λ at. rules.integer_by (terminal_at bytes tokens at) (bytes_at bytes tokens at))

  pub variable_ends : Ends (rules.variable bytes tokens)
  variable_ends = pick_ends (λ at. rules.variable_by (terminal_at bytes tokens at) (bytes_at bytes tokens at))

  way_ends : Ends (lines.way bytes tokens)
  way_ends = pick_ends (λ at. lines.way_by (terminal_at bytes tokens at) (bytes_at bytes tokens at))

  number_ends : Ends (lines.number bytes tokens)
  number_ends = pick_ends (λ at. lines.number_by (terminal_at bytes tokens at) (bytes_at bytes tokens at))

  path_ends : Ends (lines.path bytes tokens)
  path_ends = list_ends (lines.number bytes tokens) number_ends

  term_by : {at end : ℕ} {p : Parse} {o : Outcome Parse} → TermAt bytes tokens at o → o ≡ read p end → at ≤ end
  term_by {at = at} {end = end} {p = p} (is_term {outcome = read q e} h n) same = let h : at < e = term_ahead bytes tokens at (read q e) h in let ends : e ≡ end = cc in omega arith
  term_by (is_term {outcome = stop why k} h n) same = absurd cc
  term_by (has_foreign h f) same = absurd cc

  term_ends : Ends (rules.term bytes tokens)
  term_ends at end p h = term_by {at = at} {end = end} {p = p} {o = read p end} h refl

  head_ends : Ends (rules.move_head bytes tokens)
  head_ends = then_ends _ _ (word_ends (codes "step")) (λ a. then_ends _ _ (token_ends Open) (λ b. then_ends (rules.integer bytes tokens) _ integer_ends (λ fact. then_ends _ _ (token_ends Comma) (λ c. then_ends (lines.way bytes tokens) _ way_ends (λ way. then_ends _ _ (token_ends Comma) (λ d. then_ends (lines.path bytes tokens) _ path_ends (λ path. then_ends _ _ (token_ends Comma) (λ e. gives_ends _))))))))

  pub move_ends : Ends (rules.move bytes tokens)
  move_ends = then_ends (rules.move_head bytes tokens) _ head_ends (λ head. then_ends (rules.term bytes tokens) _ term_ends (λ to. then_ends _ _ (token_ends Close) (λ a. gives_ends _)))

  moves_end : Ends (rules.moves bytes tokens)
  moves_end = list_ends (rules.move bytes tokens) move_ends

  pub class_ends : Ends (rules.class bytes tokens)
  class_ends = then_ends _ _ (token_ends OpenSquare) (λ a. members_end (rules.variable bytes tokens) variable_ends)

  classes_end : Ends (rules.classes bytes tokens)
  classes_end = list_ends (rules.class bytes tokens) class_ends

  pub case_ends : Ends (rules.case bytes tokens)
  case_ends = then_ends _ _ (word_ends (codes "case")) (λ a. then_ends _ _ (token_ends Open) (λ b. then_ends (rules.classes bytes tokens) _ classes_end (λ classes. then_ends _ _ (token_ends Comma) (λ c. then_ends (rules.moves bytes tokens) _ moves_end (λ left. then_ends _ _ (token_ends Comma) (λ d. then_ends (rules.moves bytes tokens) _ moves_end (λ right. then_ends _ _ (token_ends Close) (λ e. gives_ends _))))))))

  side_ends : Ends (rules.side bytes tokens)
  side_ends = pick_ends (λ at. rules.side_by (terminal_at bytes tokens at) (bytes_at bytes tokens at))

  axiom_ends : Ends (rules.of_axiom bytes tokens)
  axiom_ends = then_ends _ _ (word_ends (codes "axiom")) (λ a. then_ends _ _ (token_ends Open) (λ b. then_ends (rules.integer bytes tokens) _ integer_ends (λ number. then_ends _ _ (token_ends Close) (λ c. gives_ends _))))

  overlap_ends : Ends (rules.of_overlap bytes tokens)
  overlap_ends = then_ends _ _ (word_ends (codes "overlap")) (λ a. then_ends _ _ (token_ends Open) (λ b. then_ends (rules.integer bytes tokens) _ integer_ends (λ outer. then_ends _ _ (token_ends Comma) (λ c. then_ends (rules.side bytes tokens) _ side_ends (λ outer_side. then_ends _ _ (token_ends Comma) (λ d. then_ends (rules.integer bytes tokens) _ integer_ends (λ inner. then_ends _ _ (token_ends Comma) (λ e. then_ends (rules.side bytes tokens) _ side_ends (λ inner_side. then_ends _ _ (token_ends Comma) (λ f. then_ends (lines.path bytes tokens) _ path_ends (λ path. then_ends _ _ (token_ends Close) (λ g. gives_ends _))))))))))))

  what_ends : Ends (rules.what bytes tokens)
  what_ends at end v (is_axiom e h) = axiom_ends at end v h
  what_ends at end v (is_overlap e h) = overlap_ends at end v h

  pub triple_ends : Ends (rules.triple bytes tokens)
  triple_ends = then_ends _ _ (token_ends OpenSquare) (λ a. then_ends (rules.integer bytes tokens) _ integer_ends (λ assoc. then_ends _ _ (token_ends Comma) (λ b. then_ends (rules.integer bytes tokens) _ integer_ends (λ comm. then_ends _ _ (token_ends Comma) (λ c. then_ends (rules.integer bytes tokens) _ integer_ends (λ extended. then_ends _ _ (token_ends CloseSquare) (λ d. gives_ends _)))))))

  ending_ends : Ends (rules.ending bytes tokens)
  ending_ends at end v (is_same e h) = then_ends _ _ (word_ends (codes "same")) (λ a. gives_ends _) at end v h
  ending_ends at end v (is_instance e f h) = then_ends _ _ (word_ends (codes "instance")) (λ a. then_ends _ _ (token_ends Open) (λ b. then_ends (rules.integer bytes tokens) _ integer_ends (λ number. then_ends _ _ (token_ends Close) (λ c. gives_ends _)))) at end v h
  ending_ends at end v (is_ac e f g h) = then_ends _ _ (word_ends (codes "ac")) (λ a. then_ends _ _ (token_ends Open) (λ b. then_ends _ _ (token_ends OpenSquare) (λ c. then_ends (lines.members bytes tokens (rules.triple bytes tokens)) _ (members_end (rules.triple bytes tokens) triple_ends) (λ triples. then_ends _ _ (token_ends Close) (λ d. gives_ends _))))) at end v h
  ending_ends at end v (is_orders e f g h) = then_ends _ _ (word_ends (codes "orders")) (λ a. then_ends _ _ (token_ends Open) (λ b. then_ends _ _ (token_ends OpenSquare) (λ c. then_ends (lines.members bytes tokens (rules.case bytes tokens)) _ (members_end (rules.case bytes tokens) case_ends) (λ cases. then_ends _ _ (token_ends Close) (λ d. gives_ends _))))) at end v h

  behind_first : Ends (lines.token bytes tokens Open >>= λ a. rules.what bytes tokens >>= rules.rest_of_join bytes tokens)
  behind_first = then_ends _ _ (token_ends Open) (λ a. then_ends (rules.what bytes tokens) _ what_ends (λ what. then_ends _ _ (token_ends Comma) (λ b. then_ends (rules.moves bytes tokens) _ moves_end (λ left. then_ends _ _ (token_ends Comma) (λ c. then_ends (rules.moves bytes tokens) _ moves_end (λ right. then_ends _ _ (token_ends Comma) (λ d. then_ends (rules.ending bytes tokens) _ ending_ends (λ ending. then_ends _ _ (token_ends Close) (λ e. then_ends _ _ (token_ends Dot) (λ f. gives_ends _))))))))))

  pub join_ahead : (at end : ℕ) (j : Join) → rules.join bytes tokens at (read j end) → at < end
  join_ahead at end j (goes_on {middle = m} first rest) = omega (arith, first.1, behind_first m end j rest)
