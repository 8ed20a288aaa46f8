-- The sides of a printed equation are gone over one after the other.
use Rattle.std.proofs.Common.{◌≡◌, ◌≢◌, ℕ, ◌+◌, ◌≤◌, ◌<◌, ◌^◌, Bool, true, false, List, [], ◌∷◌, ◌++◌, length, refl, sym, ap, ap₂, ◌∙◌, subst, arith, Option, Some, None, if◌then◌else◌, ◌⊎◌, inl, inr}
use Rattle.std.specs.Prelude.{codes, nat_lt, Result, Ok, Err, IfOk}
use Rattle.std.specs.declared.alloc.AllocError.{AllocError}
use Rattle.std.proofs.lemmas.Bool.Decides.{nat_tests}
use Rattle.uc_term.specs.declared.node.Sym.{Sym}
use Rattle.uc_term.specs.declared.equation.Equation.{Equation}
use Rattle.uc_term.specs.Tree.{Tree, nodes}
use Rattle.uc_term.specs.Over.{IsTerm}
use Rattle.uc_term.specs.Table.{Table, Has, arity_of}
use Rattle.uc_term.specs.Variables.{variables}
use Rattle.uc_clause.specs.declared.token.Token.{Token}
use Rattle.uc_clause.specs.declared.token.Place.{Place}
use Rattle.uc_clause.specs.declared.fault.TokenFault.{TokenFault}
use Rattle.uc_clause.specs.declared.fault.TokenFault.TheVariants as token_fault
use Rattle.uc_clause.specs.declared.terminal.Terminal.TheVariants as terminal
use Rattle.uc_clause.specs.Tokens.{AreTokens}
use Rattle.uc_clause.specs.Terminals.{terminal_at}
use Rattle.uc_clause.specs.Printing.{term_text, sign_text, equation_text}
use Rattle.uc_clause.specs.Printable.{IsPrintableSymbol, AreNumbered}
use Rattle.uc_clause.proofs.Joined.{Piece, AreApart, tokens_of, cut_pieces}
use Rattle.uc_clause.proofs.Once.{tokens_once}
use Rattle.uc_clause.proofs.Printing.{numbered_split}
use Rattle.uc_clause.proofs.Printed.{IsReadable, readable, Here, term_pieces, apart_term, width, at_end}
use Rattle.uc_clause.proofs.PrintedClause.{sign_pieces, sign_apart, sign_parts}
use Rattle.uc_clause.proofs.ClauseAgain.{sign_facts}
use Rattle.uc_clause.proofs.ReadBack.{passed}
use Rattle.uc_order.specs.Members.{In, Each}
use Rattle.uc_system.specs.declared.pass.Pass.{Pass}
use Rattle.uc_system.specs.declared.sides.Sides.{Sides}
use Rattle.uc_system.specs.Facts.{IsFactOfAnySize, HasLargeTerm, left_is_large, right_is_large}
use Rattle.uc_system.specs.Unread.{IsLargeText, IsLargeIn}
use Rattle.uc_system.specs.Passing.{State, state_of, start, Reaches, not_yet, IsWhole, IsStuck, IsSides, AreSides, IsJoined, large_of}
use Rattle.uc_system.proofs.EquationAgain.{pieces, joined_equation, equal_sign, end_or_open}
use Rattle.uc_system.proofs.FactTexts.{side_printable}
use Rattle.uc_system.proofs.Counting.{seen_after, Counts, after_both, counts_both, counts_split, counts_numbered, order_counts, counts_order}
use Rattle.uc_system.proofs.Passes.{one_end, whole_ends, printed}
use Rattle.uc_system.proofs.PassedTerms.{behind_tree, term_passed}

module _ (table : Table) (precedence : List Sym) (printable : Each (IsPrintableSymbol table) precedence) where
  readable_side : (t : Tree) → IsTerm (In precedence) (arity_of table) t → AreNumbered (variables t) → IsReadable table t
  readable_side t over numbered = readable table t (side_printable table precedence printable t (over, tt)) numbered

  abbrev IsTextOf : List ℕ → Equation → Type 0
  IsTextOf text e = text ≡ equation_text table true e.left e.right

  abbrev IsSized : Equation → Type 0
  IsSized e = IsFactOfAnySize table precedence e

  pieces_apart : (e : Equation) → IsSized e → AreApart (pieces table e)
  pieces_apart e fact =
      let parts = numbered_split (variables e.left) (variables e.right) fact.numbered in
      let left : IsReadable table e.left = readable_side e.left fact.left parts.0 in
      let right : IsReadable table e.right = readable_side e.right fact.right parts.1 in
      let right_pieces : List Piece = term_pieces table e.right [] in
      apart_term table e.left (sign_pieces true right_pieces) left (sign_apart true right_pieces (apart_term table e.right [] right tt refl)) (sign_parts true right_pieces)

  -- a printed equation has tokens
  pub tokens_are : (text : List ℕ) (e : Equation) → IsTextOf text e → IsSized e → AreTokens text (tokens_of text 0 (pieces table e))
  tokens_are text e is fact = subst (λ x. AreTokens x (tokens_of x 0 (pieces table e))) (joined_equation table e ∙ sym is) (cut_pieces (pieces table e) (pieces_apart e fact))

  module _ (text : List ℕ) (tokens : List Token) (are : AreTokens text tokens) where
    abbrev Leads : State → State → Type 0
    Leads = Reaches table precedence text tokens

    -- going over an equation of any size
    record Passes (e : Equation) : Type 0 where
      left : State
      right : State
      leads_left : Leads (start 0 0) left
      whole_left : IsWhole left
      sign : terminal_at text tokens left.at ≡ terminal.Equal
      leads_right : Leads (start (left.at + 1) left.seen) right
      whole_right : IsWhole right
      left_nodes : left.nodes ≡ nodes e.left
      left_text : left.text ≡ term_text table e.left
      right_nodes : right.nodes ≡ nodes e.right
      right_text : right.text ≡ term_text table e.right

    passes : (e : Equation) → IsTextOf text e → IsSized e → Passes e
    passes e is fact =
        let parts = numbered_split (variables e.left) (variables e.right) fact.numbered in
        let left : IsReadable table e.left = readable_side e.left fact.left parts.0 in
        let right : IsReadable table e.right = readable_side e.right fact.right parts.1 in
        let counts = counts_split 0 (variables e.left) (variables e.right) (order_counts e fact.in_order) in
        let right_pieces : List Piece = term_pieces table e.right [] in
        let here : Here text tokens 0 0 (pieces table e) = record { bytes = is ∙ sym (joined_equation table e); lexed = tokens_once are (tokens_are text e is fact) } in
        let left_behind = passed table text tokens e.left 0 0 (sign_pieces true right_pieces) left here in
        let sign = sign_facts table text tokens true (0 + width e.left) left_behind.0 right_pieces left_behind.1 in
        let right_here = sign.behind.1 in
        let right_behind = passed table text tokens e.right (0 + width e.left + 1) sign.behind.0 [] right right_here in
        let end = at_end text tokens (0 + width e.left + 1 + width e.right) right_behind.0 right_behind.1 in
        let second : State = start (0 + width e.left + 1) (seen_after 0 (variables e.left)) in
        record {
          left = behind_tree table precedence text tokens (start 0 0) e.left;
          right = behind_tree table precedence text tokens second e.right;
          leads_left = term_passed table precedence text tokens (start 0 0) e.left (start 0 0) 0 (sign_pieces true right_pieces) fact.left left counts.0 refl here sign.not_open not_yet;
          whole_left = (refl, refl);
          sign = equal_sign table _ sign.is_read;
          leads_right = term_passed table precedence text tokens second e.right second sign.behind.0 [] fact.right right counts.1 refl right_here (end_or_open table _ end) not_yet;
          whole_right = (refl, refl);
          left_nodes = omega arith;
          left_text = refl;
          right_nodes = omega arith;
          right_text = refl;
        }

    same_end : {a f g : State} → Leads a f → Leads a g → IsWhole f → IsWhole g → g ≡ f
    same_end l k v w = one_end table precedence text tokens l k (whole_ends table precedence text tokens _ v) (whole_ends table precedence text tokens _ w)

    stuck_or_whole : {a f : State} → Leads a f → IsWhole f → IsStuck table precedence text tokens a → ⊥
    stuck_or_whole {f = f} l v stuck = stuck.not_whole (subst IsWhole (sym (one_end table precedence text tokens l stuck.reaches (whole_ends table precedence text tokens f v) stuck.stops)) v)

    -- WHERE NO EQUATION IS

    pub no_left : IsStuck table precedence text tokens (start 0 0) → (e : Equation) → IsTextOf text e → IsSized e → ⊥
    no_left stuck e is fact = let p = passes e is fact in stuck_or_whole p.leads_left p.whole_left stuck

    module _ (s : State) (leads : Leads (start 0 0) s) (whole : IsWhole s) where
      left_is : (e : Equation) (p : Passes e) → s ≡ p.left
      left_is e p = same_end p.leads_left leads p.whole_left whole

      pub no_sign : terminal_at text tokens s.at ≢ terminal.Equal → (e : Equation) → IsTextOf text e → IsSized e → ⊥
      no_sign n e is fact = let p = passes e is fact in n (ap (λ (x : State). terminal_at text tokens x.at) (left_is e p) ∙ p.sign)

      pub no_right : IsStuck table precedence text tokens (start (s.at + 1) s.seen) → (e : Equation) → IsTextOf text e → IsSized e → ⊥
      no_right stuck e is fact = let p = passes e is fact in stuck_or_whole p.leads_right p.whole_right (subst (λ (x : State). IsStuck table precedence text tokens (start (x.at + 1) x.seen)) (left_is e p) stuck)

      module _ (r : State) (leads_on : Leads (start (s.at + 1) s.seen) r) (whole_on : IsWhole r) where
        right_is : (e : Equation) (p : Passes e) → r ≡ p.right
        right_is e p = same_end p.leads_right (subst (λ (x : State). Leads (start (x.at + 1) x.seen) r) (left_is e p) leads_on) p.whole_right whole_on

        pub no_text : s.text ++ codes " = " ++ r.text ≢ text → (e : Equation) → IsTextOf text e → IsSized e → ⊥
        no_text n e is fact =
            let p = passes e is fact in
            n (ap₂ (λ x y. x ++ codes " = " ++ y) (ap (λ (x : State). x.text) (left_is e p) ∙ p.left_text) (ap (λ (x : State). x.text) (right_is e p) ∙ p.right_text) ∙ sym is)

        -- WHERE ONE IS

        pub found : s.text ++ codes " = " ++ r.text ≡ text → r.seen < 2 ^ 32 → (sides : Sides) → sides ≡ record { left = s.nodes; right = r.nodes; second = length (s.text ++ codes " = ") } → IsSides table precedence text sides
        found is few sides sides_are =
            let left = printed table precedence text tokens 0 leads whole in
            let right = printed table precedence text tokens s.seen leads_on whole_on in
            let e : Equation = record { left = left.tree; right = right.tree } in
            let later : Counts (seen_after 0 (variables left.tree)) (variables right.tree) = subst (λ n. Counts n (variables right.tree)) left.seen_is right.counts in
            let counts : Counts 0 (variables left.tree ++ variables right.tree) = counts_both 0 (variables left.tree) (variables right.tree) left.counts later in
            let seen : seen_after 0 (variables left.tree ++ variables right.tree) ≡ r.seen = after_both 0 (variables left.tree) (variables right.tree) ∙ ap (λ n. seen_after n (variables right.tree)) (sym left.seen_is) ∙ sym right.seen_is in
            record {
              equation = e;
              is = sym is ∙ ap₂ (λ x y. x ++ codes " = " ++ y) left.text_is right.text_is;
              fact = record { left = left.over; right = right.over; in_order = counts_order e counts; numbered = counts_numbered 0 (variables left.tree ++ variables right.tree) counts (omega (arith, seen, few)) };
              left = ap (λ (x : Sides). x.left) sides_are ∙ left.nodes_are;
              right = ap (λ (x : Sides). x.right) sides_are ∙ right.nodes_are;
              second = ap (λ (x : Sides). x.second) sides_are ∙ ap (λ x. length (x ++ codes " = ")) left.text_is;
            }

        pub joined_sides : (left right : Pass) → s ≡ state_of left → r ≡ state_of right → r.seen < 2 ^ 32 → (answer : Option Sides) → IsJoined text left right answer → AreSides table precedence text answer
        joined_sides left right a b few None h = no_text (subst (λ (x : State). x.text ++ codes " = " ++ r.text ≢ text) (sym a) (subst (λ (x : State). left.again ++ codes " = " ++ x.text ≢ text) (sym b) h))
        joined_sides left right a b few (Some sides) h = found (subst (λ (x : State). x.text ++ codes " = " ++ r.text ≡ text) (sym a) (subst (λ (x : State). left.again ++ codes " = " ++ x.text ≡ text) (sym b) h.0)) few sides (h.1 ∙ ap₂ (λ (x y : State). record { left = x.nodes; right = y.nodes; second = length (x.text ++ codes " = ") }) (sym a) (sym b))

    pub joined_of : (left right : Pass) → Leads (start 0 0) (state_of left) × IsWhole (state_of left) → Leads (start (left.at + 1) left.seen) (state_of right) × IsWhole (state_of right) → right.seen < 2 ^ 32 → (answer : Result (Option Sides) AllocError) → IfOk answer (IsJoined text left right) → IfOk answer (AreSides table precedence text)
    joined_of left right l r few (Ok answer) h = joined_sides (state_of left) l.0 l.1 (state_of right) r.0 r.1 left right refl refl few answer h
    joined_of left right l r few (Err e) h = tt

    -- ONE SIZE

    pub record HaveOneSize (e f : Equation) : Type 0 where
      pub left : nodes e.left ≡ nodes f.left
      pub right : nodes e.right ≡ nodes f.right
      pub spelled : term_text table e.left ≡ term_text table f.left

    pub one_size : (e f : Equation) → IsTextOf text e → IsTextOf text f → IsSized e → IsSized f → HaveOneSize e f
    one_size e f is its fact other =
        let p = passes e is fact in
        let q = passes f its other in
        let lefts : p.left ≡ q.left = left_is p.left p.leads_left p.whole_left f q in
        let rights : p.right ≡ q.right = right_is p.left p.leads_left p.whole_left p.right p.leads_right p.whole_right f q in
        record {
          left = sym p.left_nodes ∙ ap (λ (x : State). x.nodes) lefts ∙ q.left_nodes;
          right = sym p.right_nodes ∙ ap (λ (x : State). x.nodes) rights ∙ q.right_nodes;
          spelled = sym p.left_text ∙ ap (λ (x : State). x.text) lefts ∙ q.left_text;
        }

  -- WHERE A TERM IS TOO LARGE

  large_place : (e : Equation) (from : ℕ) → HasLargeTerm table e from → (f : Equation) → nodes e.left ≡ nodes f.left → nodes e.right ≡ nodes f.right → term_text table e.left ≡ term_text table f.left → (place : ℕ) → HasLargeTerm table f place → from ≡ place
  large_place e _ (left_is_large h) f l r t _ (left_is_large k) = refl
  large_place e _ (left_is_large h) f l r t _ (right_is_large k m) = absurd (omega (arith, l, h, k))
  large_place e _ (right_is_large h i) f l r t _ (left_is_large k) = absurd (omega (arith, l, h, k))
  large_place e _ (right_is_large h i) f l r t _ (right_is_large k m) = ap (λ x. length (x ++ sign_text true)) t

  pub large_text_once : (text : List ℕ) (from place : ℕ) → IsLargeText table precedence text from → IsLargeText table precedence text place → from ≡ place
  large_text_once text from place l m =
      let same = one_size text (tokens_of text 0 (pieces table l.equation)) (tokens_are text l.equation l.is l.fact) l.equation m.equation l.is m.is l.fact m.fact in
      large_place l.equation from l.large m.equation same.left same.right same.spelled place m.large

  -- an equation without such a term isn't that of a text with one
  small_place : (e : Equation) (from : ℕ) → HasLargeTerm table e from → nodes e.left ≤ 4096 → nodes e.right ≤ 4096 → ⊥
  small_place e _ (left_is_large h) l r = omega (arith, h, l)
  small_place e _ (right_is_large h i) l r = omega (arith, i, r)

  pub small_or_large : (text : List ℕ) (e : Equation) → IsTextOf text e → IsSized e → nodes e.left ≤ 4096 → nodes e.right ≤ 4096 → (from : ℕ) → IsLargeText table precedence text from → ⊥
  small_or_large text e is fact left right from l =
      let same = one_size text (tokens_of text 0 (pieces table e)) (tokens_are text e is fact) e l.equation is l.is fact l.fact in
      small_place l.equation from l.large (omega (arith, same.left, left)) (omega (arith, same.right, right))

  -- what the sizes say
  module _ (text : List ℕ) (sides : Sides) (s : IsSides table precedence text sides) where
    under : (n : ℕ) → nat_lt 4096 n ≡ false → n ≤ 4096
    under n h = grind (arith, nat_tests)

    above : (n : ℕ) → nat_lt 4096 n ≡ true → 4096 < n
    above n h = grind (arith, nat_tests)

    by_right : (b : Bool) → nat_lt 4096 sides.left ≡ false → nat_lt 4096 sides.right ≡ b → IsLargeIn table precedence text (if b then Some sides.second else None)
    by_right true l r = record { equation = s.equation; is = s.is; fact = s.fact; large = subst (HasLargeTerm table s.equation) (sym s.second) (right_is_large (omega (arith, s.left, under sides.left l)) (omega (arith, s.right, above sides.right r))) }
    by_right false l r = small_or_large text s.equation s.is s.fact (omega (arith, s.left, under sides.left l)) (omega (arith, s.right, under sides.right r))

    by_left : (b : Bool) → nat_lt 4096 sides.left ≡ b → IsLargeIn table precedence text (if b then Some 0 else (if nat_lt 4096 sides.right then Some sides.second else None))
    by_left true l = record { equation = s.equation; is = s.is; fact = s.fact; large = left_is_large (omega (arith, s.left, above sides.left l)) }
    by_left false l = by_right (nat_lt 4096 sides.right) l refl

    pub large_in : IsLargeIn table precedence text (large_of sides)
    large_in = by_left (nat_lt 4096 sides.left) refl

  pub has_symbols : Each (Has table) precedence
  has_symbols = all precedence printable
    where
      all : (fs : List Sym) → Each (IsPrintableSymbol table) fs → Each (Has table) fs
      all [] h = tt
      all (f ∷ fs) h = (h.0.0, all fs h.1)

  pub none_large : (text : List ℕ) → AreSides table precedence text None → IsLargeIn table precedence text None
  none_large text h from l = h l.equation l.is l.fact

  -- a text that is no tokens is that of no equation
  pub no_tokens : (text : List ℕ) → ((ts : List Token) → AreTokens text ts → ⊥) → IsLargeIn table precedence text None
  no_tokens text h from l = h (tokens_of text 0 (pieces table l.equation)) (tokens_are text l.equation l.is l.fact)

pub equal_or_end : terminal.Equal ≢ terminal.End
equal_or_end e = cc

one_fault : (answer : Result (List Token) TokenFault) (a b : TokenFault) → answer ≡ Err a → answer ≡ Err b → a ≡ b
one_fault answer a b e f = cc

pub refused_tokens : (answer : Result (List Token) TokenFault) (ts : List Token) (fault : TokenFault) (place : Place) → answer ≡ Err fault → fault ≡ token_fault.Syntax place → (answer ≡ Ok ts) ⊎ (answer ≡ Err token_fault.NoMemory) → ⊥
refused_tokens answer ts fault place e f (inl h) = absurd cc
refused_tokens answer ts fault place e f (inr h) = absurd (let bad : token_fault.Syntax place ≡ token_fault.NoMemory = sym f ∙ one_fault answer fault token_fault.NoMemory e h in cc)
