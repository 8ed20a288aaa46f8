-- Printed join lines are read again.
use Rattle.std.proofs.Common.{◌≡◌, ◌≢◌, ℕ, ◌+◌, ◌<◌, false, List, [], ◌∷◌, length, refl, sym, ap, ap₂, ◌∙◌, subst, arith, Some}
use Rattle.std.specs.Prelude.{codes, bytes_eq}
use Rattle.std.specs.List.{AllByRecursion}
use Rattle.uc_term.specs.Table.{Table}
use Rattle.uc_term.specs.declared.equation.Side.{Side}
use Rattle.uc_term.specs.declared.equation.Side.TheVariants.{Left, Right}
use Rattle.uc_clause.specs.declared.token.Token.{Token}
use Rattle.uc_clause.specs.declared.terminal.Terminal.{Terminal}
use Rattle.uc_clause.specs.declared.terminal.Terminal.TheVariants as terminal
use Rattle.uc_clause.specs.declared.grammar.stop.Why.TheVariants.{NoToken}
use Rattle.uc_clause.specs.Terminals.{terminal_at}
use Rattle.uc_clause.specs.Rules.{read, read_or_stop, goes_on}
use Rattle.uc_clause.specs.Printing.{variable_text}
use Rattle.uc_clause.proofs.Joined.{Piece}
use Rattle.uc_clause.proofs.Printed.{width, parse_at, at_end}
use Rattle.uc_tstp.specs.Lines as lines
use Rattle.uc_tstp.specs.Printing.{way_text}
use Rattle.uc_tstp.proofs.PrintedPieces.{mark, comma, lower, further_pieces}
use Rattle.uc_tstp.proofs.TokensAgain.{At, Reads, skip, mark_here, comma_here, is_comma, LowerHere, lower_here, reads_word, is_word_here, reads_way, way_some, Member, Pairs, Listed, IsRead, members_here, list_here, not_close_at, path_here}
use Rattle.uc_tstp.proofs.TermsAgain.{IsClosed}
use Rattle.uc_certificate.specs.declared.certificate.AcTriple.{AcTriple}
use Rattle.uc_certificate.specs.declared.certificate.Join.{Join}
use Rattle.uc_certificate.specs.declared.certificate.What.{What}
use Rattle.uc_certificate.specs.declared.certificate.What.TheVariants.{Axiom, Overlap}
use Rattle.uc_certificate.specs.declared.certificate.Move.{Move}
use Rattle.uc_certificate.specs.declared.certificate.End.{End}
use Rattle.uc_certificate.specs.declared.certificate.End.TheVariants.{Same, Instance, Orders, Ac}
use Rattle.uc_certificate.specs.declared.certificate.Case.{Case}
use Rattle.uc_certificate.specs.Bounds.{IsBoundedWhat, IsBoundedTriple}
use Rattle.uc_certificate.specs.JoinLines.{MOST_VARIABLES, side_of, side_by, is_axiom, is_overlap, is_same, is_instance, is_ac, is_orders, is_no_join, has_join}
use Rattle.uc_certificate.specs.JoinLines as rules
use Rattle.uc_certificate.specs.JoinParse as parse
use Rattle.uc_certificate.specs.JoinParse.{by_same, by_instance, by_orders, by_ac}
use Rattle.uc_certificate.specs.JoinMeaning.{MeanAll, none_mean, more_mean, MeansMove, MeanMoves, MeansCase, MeansEnd, MeansJoin, MeanJoins}
use Rattle.uc_certificate.specs.Printing.{side_text, class_text, move_text, case_text, triple_text}
use Rattle.uc_certificate.specs.Printable.{AreFew, IsPrintableWhat, IsPrintableClass}
use Rattle.uc_certificate.proofs.PrintedNumbers.{integer_here, variable, variable_here}
use Rattle.uc_certificate.proofs.JoinPieces.{each, what_pieces, move_pieces, moves_pieces, class_pieces, classes_pieces, case_pieces, triple_pieces, ending_pieces, front_pieces, end_pieces, joins_pieces, IsMoveAgain, IsCaseAgain, IsEndAgain, IsJoinAgain}
use Rattle.uc_certificate.proofs.JoinTermsAgain.{join_term_here}

module _ (text : List ℕ) (tokens : List Token) where
  same_members : {A : Type 0} (xs vs : List A) → Pairs text tokens (λ x v. v ≡ x) xs vs → vs ≡ xs
  same_members [] [] on = refl
  same_members [] (v ∷ vs) on = elim on [ ]
  same_members (x ∷ xs) [] on = elim on [ ]
  same_members (x ∷ xs) (v ∷ vs) on = ap₂ (λ a b. a ∷ b) on.0 (same_members xs vs on.1)

  mean_all : {P V : Type 0} (Means : P → V → Type 0) (xs : List V) (vs : List P) → Pairs text tokens (λ x v. Means v x) xs vs → MeanAll Means vs xs
  mean_all Means [] [] on = none_mean
  mean_all Means [] (v ∷ vs) on = elim on [ ]
  mean_all Means (x ∷ xs) [] on = elim on [ ]
  mean_all Means (x ∷ xs) (v ∷ vs) on = more_mean on.0 (mean_all Means xs vs on.1)

side_is : (side : Side) → side_of (side_text side) ≡ Some side
side_is Left = refl
side_is Right = refl

side_some : (side : Side) → 0 < length (side_text side)
side_some Left = omega arith
side_some Right = omega arith

square_is_no_close : (t : Terminal) → t ≡ terminal.OpenSquare → t ≢ terminal.CloseSquare
square_is_no_close t e h = cc

close_is_no_open : (t : Terminal) → t ≡ terminal.Close → t ≢ terminal.Open
close_is_no_open t e h = cc

lower_is_no_end : (t : Terminal) → t ≡ terminal.Lower → t ≢ terminal.End
lower_is_no_end t e h = cc

module _ (table : Table) (text : List ℕ) (tokens : List Token) where
  -- another word stands here
  other_word : {at : ℕ} {ps : List Piece} (word other : List ℕ) → bytes_eq other word ≡ false → LowerHere text tokens other at ps → lines.word_at text tokens word at ≡ false
  other_word word other e l = ap₂ (lines.is_word word) l.terminal l.bytes ∙ e

  -- sides of facts
  side_here : {at : ℕ} {ps : List Piece} (side : Side) → At text tokens at (lower (side_text side) ps) → Reads text tokens (rules.side text tokens) at side (at + 1) ps
  side_here {at} side here =
      let l = lower_here text tokens (side_text side) (side_some side) here in
      record { reads = sym (ap (λ o. read_or_stop NoToken o at) (ap₂ side_by l.terminal l.bytes ∙ side_is side)); behind = l.behind }

  -- moves
  close_is_closed : (ps : List Piece) → IsClosed table [] text tokens (mark 41 ps)
  close_is_closed ps at here = close_is_no_open (terminal_at text tokens at) (mark_here text tokens 41 terminal.Close refl here).terminal

  move_here : (m : Move) → IsMoveAgain table m → (at : ℕ) (ps : List Piece) → At text tokens at (move_pieces table m ps) → Member text tokens (rules.move text tokens) (λ x v. MeansMove text tokens table v x) m at ps
  move_here m again at ps here =
      let w = lower_here text tokens (codes "step") (omega arith) here in
      let o = mark_here text tokens 40 terminal.Open refl w.behind in
      let n = integer_here text tokens m.fact again.fact o.behind in
      let c = comma_here text tokens n.behind in
      let y = lower_here text tokens (way_text m.left_to_right) (way_some m.left_to_right) c.behind in
      let d = comma_here text tokens y.behind in
      let p = path_here text tokens m.path again.path d.behind in
      let e = comma_here text tokens p.behind in
      let t = join_term_here table text tokens m.to again.to again.few (close_is_closed ps) e.behind in
      let close = mark_here text tokens 41 terminal.Close refl t.behind in
      record {
        v = record { fact = m.fact; left_to_right = m.left_to_right; path = m.path; to = parse_at (p.end + 1) m.to };
        end = p.end + 1 + width m.to + 1;
        reads = goes_on (goes_on (reads_word text tokens (codes "step") w) (goes_on o.reads (goes_on n.reads (goes_on c.reads (goes_on (reads_way text tokens m.left_to_right y) (goes_on d.reads (goes_on p.reads (goes_on e.reads refl)))))))) (goes_on t.reads (goes_on close.reads refl));
        on = record { fact = refl; way = refl; path = refl; to = t.means };
        behind = close.behind;
        not_close = not_close_at text tokens (codes "step") w;
      }

  record MovesHere (moves : List Move) (at : ℕ) (ps : List Piece) : Type 0 where
    vs : List parse.Move
    end : ℕ
    reads : rules.moves text tokens at (read vs end)
    mean : MeanMoves text tokens table vs moves
    behind : At text tokens end ps

  moves_here : {at : ℕ} {ps : List Piece} (moves : List Move) → AllByRecursion (IsMoveAgain table) moves → At text tokens at (moves_pieces table moves ps) → MovesHere moves at ps
  moves_here {at} {ps} moves all here =
      let On : Move → parse.Move → Type 0 = λ x v. MeansMove text tokens table v x in
      let l = list_here text tokens (rules.move text tokens) On (codes ", ") (move_text table) comma (move_pieces table) (is_comma text tokens) moves at ps (each (IsMoveAgain table) (IsRead text tokens (rules.move text tokens) On (codes ", ") (move_text table) comma (move_pieces table) (is_comma text tokens)) move_here moves all) here in
      record { vs = l.vs; end = l.end; reads = l.reads; mean = mean_all text tokens (MeansMove text tokens table) moves l.vs l.on; behind = l.behind }

  -- classes of variables
  variables_read : (class : List ℕ) → AreFew class → AllByRecursion (IsRead text tokens (rules.variable text tokens) (λ x v. v ≡ x) (codes ", ") variable_text comma variable (is_comma text tokens)) class
  variables_read class few = each (λ x. x < MOST_VARIABLES) (IsRead text tokens (rules.variable text tokens) (λ x v. v ≡ x) (codes ", ") variable_text comma variable (is_comma text tokens)) (variable_here text tokens) class few

  class_by : (class : List ℕ) → class ≢ [] → AreFew class → (at : ℕ) (ps : List Piece) → At text tokens at (class_pieces table class ps) → Member text tokens (rules.class text tokens) (λ x v. v ≡ x) class at ps
  class_by [] some few at ps here = absurd (some refl)
  class_by (x ∷ xs) some few at ps here =
      let o = mark_here text tokens 91 terminal.OpenSquare refl here in
      let all = variables_read (x ∷ xs) few in
      let l = members_here text tokens (rules.variable text tokens) (λ x v. v ≡ x) (codes ", ") variable_text comma variable (is_comma text tokens) x xs (at + 1) ps all.0 all.1 o.behind in
      record { v = l.vs; end = l.end; reads = goes_on o.reads l.reads; on = same_members text tokens (x ∷ xs) l.vs l.on; behind = l.behind; not_close = square_is_no_close (terminal_at text tokens at) o.terminal }

  class_here : (class : List ℕ) → IsPrintableClass class → (at : ℕ) (ps : List Piece) → At text tokens at (class_pieces table class ps) → Member text tokens (rules.class text tokens) (λ x v. v ≡ x) class at ps
  class_here class printable = class_by class printable.some printable.few

  classes_here : {at : ℕ} {ps : List Piece} (classes : List (List ℕ)) → AllByRecursion IsPrintableClass classes → At text tokens at (classes_pieces table classes ps) → (end : ℕ) × Reads text tokens (rules.classes text tokens) at classes end ps
  classes_here {at} {ps} classes all here =
      let On : List ℕ → List ℕ → Type 0 = λ x v. v ≡ x in
      let l = list_here text tokens (rules.class text tokens) On (codes ", ") class_text comma (class_pieces table) (is_comma text tokens) classes at ps (each IsPrintableClass (IsRead text tokens (rules.class text tokens) On (codes ", ") class_text comma (class_pieces table) (is_comma text tokens)) class_here classes all) here in
      (l.end, record { reads = subst (λ vs. rules.classes text tokens at (read vs l.end)) (same_members text tokens classes l.vs l.on) l.reads; behind = l.behind })

  -- cases
  case_here : (c : Case) → IsCaseAgain table c → (at : ℕ) (ps : List Piece) → At text tokens at (case_pieces table c ps) → Member text tokens (rules.case text tokens) (λ x v. MeansCase text tokens table v x) c at ps
  case_here c again at ps here =
      let w = lower_here text tokens (codes "case") (omega arith) here in
      let o = mark_here text tokens 40 terminal.Open refl w.behind in
      let classes = classes_here c.cases again.classes o.behind in
      let d = comma_here text tokens classes.1.behind in
      let left = moves_here c.left again.left d.behind in
      let e = comma_here text tokens left.behind in
      let right = moves_here c.right again.right e.behind in
      let close = mark_here text tokens 41 terminal.Close refl right.behind in
      record {
        v = record { cases = c.cases; left = left.vs; right = right.vs };
        end = right.end + 1;
        reads = goes_on (reads_word text tokens (codes "case") w) (goes_on o.reads (goes_on classes.1.reads (goes_on d.reads (goes_on left.reads (goes_on e.reads (goes_on right.reads (goes_on close.reads refl)))))));
        on = record { cases = refl; left = left.mean; right = right.mean };
        behind = close.behind;
        not_close = not_close_at text tokens (codes "case") w;
      }

  -- triples of facts
  triple_here : (t : AcTriple) → IsBoundedTriple t → (at : ℕ) (ps : List Piece) → At text tokens at (triple_pieces t ps) → Member text tokens (rules.triple text tokens) (λ x v. v ≡ x) t at ps
  triple_here t bounded at ps here =
      let o = mark_here text tokens 91 terminal.OpenSquare refl here in
      let i = integer_here text tokens t.assoc bounded.0 o.behind in
      let c = comma_here text tokens i.behind in
      let j = integer_here text tokens t.comm bounded.1 c.behind in
      let d = comma_here text tokens j.behind in
      let k = integer_here text tokens t.extended bounded.2 d.behind in
      let close = mark_here text tokens 93 terminal.CloseSquare refl k.behind in
      record {
        v = t;
        end = at + 1 + 1 + 1 + 1 + 1 + 1 + 1;
        reads = goes_on o.reads (goes_on i.reads (goes_on c.reads (goes_on j.reads (goes_on d.reads (goes_on k.reads (goes_on close.reads refl))))));
        on = refl;
        behind = close.behind;
        not_close = square_is_no_close (terminal_at text tokens at) o.terminal;
      }

  -- ends
  record EndHere (e : End) (at : ℕ) (ps : List Piece) : Type 0 where
    v : parse.Ending
    end : ℕ
    reads : rules.ending text tokens at (read v end)
    means : MeansEnd text tokens table v e
    behind : At text tokens end ps

  cases_here : (c : Case) (cs : List Case) → AllByRecursion (IsCaseAgain table) (c ∷ cs) → (at : ℕ) (ps : List Piece) → At text tokens at (case_pieces table c (further_pieces (codes ", ") (case_text table) comma (case_pieces table) cs (mark 93 ps))) → Listed text tokens (lines.members text tokens (rules.case text tokens)) (λ x v. MeansCase text tokens table v x) (c ∷ cs) at ps
  cases_here c cs again at ps here =
      let On : Case → parse.Case → Type 0 = λ x v. MeansCase text tokens table v x in
      let all = each (IsCaseAgain table) (IsRead text tokens (rules.case text tokens) On (codes ", ") (case_text table) comma (case_pieces table) (is_comma text tokens)) case_here (c ∷ cs) again in
      members_here text tokens (rules.case text tokens) On (codes ", ") (case_text table) comma (case_pieces table) (is_comma text tokens) c cs at ps all.0 all.1 here

  orders_here : (cases : List Case) → cases ≢ [] → AllByRecursion (IsCaseAgain table) cases → (at : ℕ) (ps : List Piece) → At text tokens at (ending_pieces table (Orders cases) ps) → EndHere (Orders cases) at ps
  orders_here [] some again at ps here = absurd (some refl)
  orders_here (c ∷ cs) some again at ps here =
      let w = lower_here text tokens (codes "orders") (omega arith) here in
      let o = mark_here text tokens 40 terminal.Open refl w.behind in
      let s = mark_here text tokens 91 terminal.OpenSquare refl o.behind in
      let l = cases_here c cs again (at + 1 + 1 + 1) (mark 41 ps) s.behind in
      let close = mark_here text tokens 41 terminal.Close refl l.behind in
      record {
        v = by_orders l.vs;
        end = l.end + 1;
        reads = is_orders (other_word (codes "same") (codes "orders") refl w) (other_word (codes "instance") (codes "orders") refl w) (other_word (codes "ac") (codes "orders") refl w) (goes_on (reads_word text tokens (codes "orders") w) (goes_on o.reads (goes_on s.reads (goes_on l.reads (goes_on close.reads refl)))));
        means = mean_all text tokens (MeansCase text tokens table) (c ∷ cs) l.vs l.on;
        behind = close.behind;
      }

  triples_here : (t : AcTriple) (ts : List AcTriple) → AllByRecursion IsBoundedTriple (t ∷ ts) → (at : ℕ) (ps : List Piece) → At text tokens at (triple_pieces t (further_pieces (codes ", ") triple_text comma triple_pieces ts (mark 93 ps))) → Listed text tokens (lines.members text tokens (rules.triple text tokens)) (λ x v. v ≡ x) (t ∷ ts) at ps
  triples_here t ts bounded at ps here =
      let On : AcTriple → AcTriple → Type 0 = λ x v. v ≡ x in
      let all = each IsBoundedTriple (IsRead text tokens (rules.triple text tokens) On (codes ", ") triple_text comma triple_pieces (is_comma text tokens)) triple_here (t ∷ ts) bounded in
      members_here text tokens (rules.triple text tokens) On (codes ", ") triple_text comma triple_pieces (is_comma text tokens) t ts at ps all.0 all.1 here

  ac_here : (triples : List AcTriple) → triples ≢ [] → AllByRecursion IsBoundedTriple triples → (at : ℕ) (ps : List Piece) → At text tokens at (ending_pieces table (Ac triples) ps) → EndHere (Ac triples) at ps
  ac_here [] some bounded at ps here = absurd (some refl)
  ac_here (t ∷ ts) some bounded at ps here =
      let w = lower_here text tokens (codes "ac") (omega arith) here in
      let o = mark_here text tokens 40 terminal.Open refl w.behind in
      let s = mark_here text tokens 91 terminal.OpenSquare refl o.behind in
      let l = triples_here t ts bounded (at + 1 + 1 + 1) (mark 41 ps) s.behind in
      let close = mark_here text tokens 41 terminal.Close refl l.behind in
      record {
        v = by_ac l.vs;
        end = l.end + 1;
        reads = is_ac (other_word (codes "same") (codes "ac") refl w) (other_word (codes "instance") (codes "ac") refl w) (is_word_here text tokens (codes "ac") w) (goes_on (reads_word text tokens (codes "ac") w) (goes_on o.reads (goes_on s.reads (goes_on l.reads (goes_on close.reads refl)))));
        means = sym (same_members text tokens (t ∷ ts) l.vs l.on);
        behind = close.behind;
      }

  ending_here : {at : ℕ} {ps : List Piece} (e : End) → IsEndAgain table e → At text tokens at (ending_pieces table e ps) → EndHere e at ps
  ending_here {at} {ps} Same again here =
      let w = lower_here text tokens (codes "same") (omega arith) here in
      record { v = by_same; end = at + 1; reads = is_same (is_word_here text tokens (codes "same") w) (goes_on (reads_word text tokens (codes "same") w) refl); means = tt; behind = w.behind }
  ending_here {at} {ps} (Instance n) again here =
      let w = lower_here text tokens (codes "instance") (omega arith) here in
      let o = mark_here text tokens 40 terminal.Open refl w.behind in
      let i = integer_here text tokens n again o.behind in
      let close = mark_here text tokens 41 terminal.Close refl i.behind in
      record { v = by_instance n; end = at + 1 + 1 + 1 + 1; reads = is_instance (other_word (codes "same") (codes "instance") refl w) (is_word_here text tokens (codes "instance") w) (goes_on (reads_word text tokens (codes "instance") w) (goes_on o.reads (goes_on i.reads (goes_on close.reads refl)))); means = refl; behind = close.behind }
  ending_here {at} {ps} (Orders cases) again here = orders_here cases again.0 again.1 at ps here
  ending_here {at} {ps} (Ac triples) again here = ac_here triples again.0 again.1 at ps here

  -- what is joined
  what_here : {at : ℕ} {ps : List Piece} (w : What) → IsBoundedWhat w → IsPrintableWhat w → At text tokens at (what_pieces w ps) → (end : ℕ) × Reads text tokens (rules.what text tokens) at w end ps
  what_here {at} {ps} (Axiom n) bounded printable here =
      let w = lower_here text tokens (codes "axiom") (omega arith) here in
      let o = mark_here text tokens 40 terminal.Open refl w.behind in
      let i = integer_here text tokens n bounded o.behind in
      let close = mark_here text tokens 41 terminal.Close refl i.behind in
      (at + 1 + 1 + 1 + 1, record { reads = is_axiom (is_word_here text tokens (codes "axiom") w) (goes_on (reads_word text tokens (codes "axiom") w) (goes_on o.reads (goes_on i.reads (goes_on close.reads refl)))); behind = close.behind })
  what_here {at} {ps} (Overlap outer outer_side inner inner_side path) bounded printable here =
      let w = lower_here text tokens (codes "overlap") (omega arith) here in
      let o = mark_here text tokens 40 terminal.Open refl w.behind in
      let i = integer_here text tokens outer bounded.0 o.behind in
      let c = comma_here text tokens i.behind in
      let s = side_here outer_side c.behind in
      let d = comma_here text tokens s.behind in
      let j = integer_here text tokens inner bounded.1 d.behind in
      let e = comma_here text tokens j.behind in
      let t = side_here inner_side e.behind in
      let f = comma_here text tokens t.behind in
      let p = path_here text tokens path printable f.behind in
      let close = mark_here text tokens 41 terminal.Close refl p.behind in
      (p.end + 1, record { reads = is_overlap (other_word (codes "axiom") (codes "overlap") refl w) (goes_on (reads_word text tokens (codes "overlap") w) (goes_on o.reads (goes_on i.reads (goes_on c.reads (goes_on s.reads (goes_on d.reads (goes_on j.reads (goes_on e.reads (goes_on t.reads (goes_on f.reads (goes_on p.reads (goes_on close.reads refl)))))))))))); behind = close.behind })

  -- a join line
  record JoinHere (j : Join) (at : ℕ) (ps : List Piece) : Type 0 where
    v : parse.Join
    end : ℕ
    reads : rules.join text tokens at (read v end)
    means : MeansJoin text tokens table v j
    not_end : terminal_at text tokens at ≢ terminal.End
    behind : At text tokens end ps

  join_here : {at : ℕ} {ps : List Piece} (j : Join) → IsJoinAgain table j → At text tokens at (front_pieces table j (end_pieces table ps)) → JoinHere j at ps
  join_here {at} {ps} j again here =
      let w = lower_here text tokens (codes "join") (omega arith) here in
      let o = mark_here text tokens 40 terminal.Open refl w.behind in
      let what = what_here j.what again.bounded again.printable o.behind in
      let c = comma_here text tokens what.1.behind in
      let left = moves_here j.left again.left c.behind in
      let d = comma_here text tokens left.behind in
      let right = moves_here j.right again.right d.behind in
      let e = comma_here text tokens right.behind in
      let ending = ending_here j.end again.end e.behind in
      let close = mark_here text tokens 41 terminal.Close refl ending.behind in
      let dot = mark_here text tokens 46 terminal.Dot refl close.behind in
      record {
        v = record { what = j.what; left = left.vs; right = right.vs; ending = ending.v };
        end = ending.end + 1 + 1;
        reads = goes_on (reads_word text tokens (codes "join") w) (goes_on o.reads (goes_on what.1.reads (goes_on c.reads (goes_on left.reads (goes_on d.reads (goes_on right.reads (goes_on e.reads (goes_on ending.reads (goes_on close.reads (goes_on dot.reads refl))))))))));
        means = record { what = refl; left = left.mean; right = right.mean; end = ending.means };
        not_end = lower_is_no_end (terminal_at text tokens at) w.terminal;
        behind = skip text tokens dot.behind;
      }

  -- join lines
  pub record JoinsHere (joins : List Join) (at : ℕ) : Type 0 where
    pub vs : List parse.Join
    pub end : ℕ
    pub reads : rules.joins text tokens at (read vs end)
    pub mean : MeanJoins text tokens table vs joins

  pub joins_here : (joins : List Join) (at : ℕ) → AllByRecursion (IsJoinAgain table) joins → At text tokens at (joins_pieces table joins) → JoinsHere joins at
  joins_here [] at again here = record { vs = []; end = at; reads = is_no_join (at_end text tokens at here.0 here.1); mean = none_mean }
  joins_here (j ∷ js) at again here =
      let first = join_here j again.0 here in
      let rest = joins_here js first.end again.1 first.behind in
      record { vs = first.v ∷ rest.vs; end = rest.end; reads = has_join {outcome = read rest.vs rest.end} first.not_end first.reads rest.reads; mean = more_mean first.means rest.mean }
