-- How lines are gathered.
use Rattle.std.proofs.Common.{◌≡◌, ℕ, Bool, false, List, [], ◌∷◌, ◌++◌, length, refl, sym, ap, ◌∙◌, subst, arith, append-nil}
use Rattle.std.specs.Prelude.{◌≢◌, ◌||◌, bytes_eq}
use Rattle.std.specs.List.{list_any}
use Rattle.std.proofs.lemmas.List.{map-append}
use Rattle.std.proofs.lemmas.List.Folds.{list_any-append}
use Rattle.std.proofs.Math.Bool.{or_comm}
use Rattle.uc_term.proofs.Firsts.{or-false}
use Rattle.uc_term.specs.Table.{Table, Grows}
use Rattle.uc_clause.specs.declared.token.Token.{Token}
use Rattle.uc_clause.specs.declared.terminal.Terminal.TheVariants.{End}
use Rattle.uc_clause.specs.declared.grammar.stop.Stop.{Stop}
use Rattle.uc_clause.specs.declared.grammar.stop.Why.TheVariants.{NoToken}
use Rattle.uc_clause.specs.Terminals.{terminal_at, bytes_at}
use Rattle.uc_clause.specs.Rules.{Outcome, read, stop, mapped, goes_on, stops_first, Stops}
use Rattle.uc_clause.specs.Meaning.{Variables, with_name}
use Rattle.uc_clause.proofs.Sequences.{passes}
use Rattle.uc_clause.proofs.Lists.{after, after_none, after_one}
use Rattle.uc_clause.proofs.Means.{means_grows, extends_not}
use Rattle.uc_tstp.specs.declared.scope.Scope.{Scope}
use Rattle.uc_tstp.specs.declared.scope.Scope.TheVariants as scope
use Rattle.uc_tstp.specs.declared.drafts.StepDraft.{StepDraft}
use Rattle.uc_tstp.specs.declared.drafts.SourceDraft.{SourceDraft}
use Rattle.uc_tstp.specs.declared.drafts.SourceDraft.TheVariants as draft
use Rattle.uc_tstp.specs.declared.drafts.LineDraft.{LineDraft}
use Rattle.uc_tstp.specs.Parse.{Source, from_file, by_chain, by_reflexive, by_goal, by_refute, Step, Line}
use Rattle.uc_tstp.specs.Lines.{LineName, is_new, is_repeated, is_no_line_name, line, belongs, LinesAt, is_no_line, has_line, has_foreign_line, stops_in_line}
use Rattle.uc_tstp.specs.Meaning.{names_of, variables_of}
use Rattle.uc_tstp.specs.Drafts.{SaySteps, say_nothing, say_more, SaysSource, SaysLine, SayLines, say_no_line, say_line, ReadsLineAt, AreLines, belongs_draft}
use Rattle.uc_tstp.specs.Parts.{TakesLine}
use Rattle.uc_tstp.specs.Interning.{with_line, with_lines}
use Rattle.uc_tstp.proofs.LineParts.{body_grows}

-- the same names, in whatever order
abbrev pub HaveSame : List (List ℕ) → List (List ℕ) → Type 0
HaveSame some others = (x : List ℕ) → list_any (bytes_eq x) some ≡ list_any (bytes_eq x) others

or_turned : (a b : Bool) → (a || b) ≡ (b || (a || false))
or_turned a b = or_comm a b ∙ ap (λ z. b || z) (sym (or-false a))

have_more : (some others : List (List ℕ)) (n : List ℕ) → HaveSame some others → HaveSame (n ∷ some) (others ++ n ∷ [])
have_more some others n same x = ap (λ r. bytes_eq x n || r) (same x) ∙ or_turned (bytes_eq x n) (list_any (bytes_eq x) others) ∙ sym (list_any-append (bytes_eq x) others (n ∷ []))

module _ (bytes : List ℕ) (tokens : List Token) where
  module _ (some others : List (List ℕ)) (same : HaveSame some others) where
    same_name : {at : ℕ} {o : Outcome ℕ} → LineName bytes tokens others at o → LineName bytes tokens some at o
    same_name {at = at} (is_new t n) = is_new t (same (bytes_at bytes tokens at) ∙ n)
    same_name {at = at} (is_repeated t n) = is_repeated t (same (bytes_at bytes tokens at) ∙ n)
    same_name (is_no_line_name n) = is_no_line_name n

    same_line : {at : ℕ} {o : Outcome Line} → line bytes tokens others at o → line bytes tokens some at o
    same_line (stops_first w) = stops_first w
    same_line (goes_on w (stops_first p)) = goes_on w (stops_first p)
    same_line (goes_on w (goes_on p (stops_first n))) = goes_on w (goes_on p (stops_first (same_name n)))
    same_line (goes_on w (goes_on p (goes_on n rest))) = goes_on w (goes_on p (goes_on (same_name n) rest))

  have_one : (some others : List (List ℕ)) (n : List ℕ) → HaveSame some others → HaveSame (n ∷ some) (n ∷ others)
  have_one some others n same x = ap (λ r. bytes_eq x n || r) (same x)

  same_lines : {which : Scope} (some others : List (List ℕ)) → HaveSame some others → {at : ℕ} {o : Outcome (List Line)} → LinesAt bytes tokens which others at o → LinesAt bytes tokens which some at o
  same_lines some others same (is_no_line e) = is_no_line e
  same_lines some others same (has_line {l = l} more r b rest) = has_line more (same_line some others same r) b (same_lines (bytes_at bytes tokens l.name ∷ some) (bytes_at bytes tokens l.name ∷ others) (have_one some others (bytes_at bytes tokens l.name) same) rest)
  same_lines some others same (has_foreign_line more r b) = has_foreign_line more (same_line some others same r) b
  same_lines some others same (stops_in_line more s) = stops_in_line more (same_line some others same s)

  -- a draft belongs where its parse does
  same_scope : (table : Table) (seen : Variables) (which : Scope) (s : Source) (d : SourceDraft) → SaysSource bytes tokens table seen s d → belongs which s ≡ belongs_draft which d
  same_scope table seen scope.Proof s d h = refl
  same_scope table seen scope.Derivation (from_file k) (draft.File name) h = refl
  same_scope table seen scope.Derivation (by_chain p ss ks) (draft.Chain start steps parents) h = refl
  same_scope table seen scope.Derivation (by_reflexive ks) (draft.Reflexive parents) h = refl
  same_scope table seen scope.Derivation (by_goal ks) (draft.EncodeGoal parents) h = refl
  same_scope table seen scope.Derivation (by_refute ks) (draft.Refute parents) h = refl
  same_scope table seen scope.Derivation s d h = elim h [ ]

  module _ (old new : Table) (grows : Grows old new) where
    steps_grow : {seen : Variables} {ss : List Step} {ds : List StepDraft} → SaySteps bytes tokens old seen ss ds → SaySteps bytes tokens new seen ss ds
    steps_grow say_nothing = say_nothing
    steps_grow {seen = seen} (say_more s all) = say_more (record { by = s.by; way = s.way; path = s.path; to = means_grows bytes tokens old new seen seen grows (extends_not seen) s.to }) (steps_grow all)

    source_grows : (seen : Variables) (s : Source) (d : SourceDraft) → SaysSource bytes tokens old seen s d → SaysSource bytes tokens new seen s d
    source_grows seen (from_file k) (draft.File name) h = h
    source_grows seen (by_chain p ss ks) (draft.Chain start steps parents) h = (means_grows bytes tokens old new seen seen grows (extends_not seen) h.0, steps_grow h.1, h.2)
    source_grows seen (by_reflexive ks) (draft.Reflexive parents) h = h
    source_grows seen (by_goal ks) (draft.EncodeGoal parents) h = h
    source_grows seen (by_refute ks) (draft.Refute parents) h = h
    source_grows seen s d h = elim h [ ]

    lines_grow : {ls : List Line} {ds : List LineDraft} → SayLines bytes tokens old ls ds → SayLines bytes tokens new ls ds
    lines_grow say_no_line = say_no_line
    lines_grow (say_line {l = l} {draft = d} s all) = say_line (record { name = s.name; body = body_grows bytes tokens old new (variables_of bytes tokens l) (variables_of bytes tokens l) grows (extends_not (variables_of bytes tokens l)) l.body d.body s.body; source = source_grows (variables_of bytes tokens l) l.source d.source s.source }) (lines_grow all)

  lines_snoc : {table : Table} {ls : List Line} {ds : List LineDraft} (l : Line) (d : LineDraft) → SayLines bytes tokens table ls ds → SaysLine bytes tokens table l d → SayLines bytes tokens table (ls ++ l ∷ []) (ds ++ d ∷ [])
  lines_snoc l d say_no_line s = say_line s say_no_line
  lines_snoc l d (say_line r all) s = say_line r (lines_snoc l d all s)

  added_behind : (table : Table) (ls : List Line) (l : Line) → with_lines bytes tokens table (ls ++ l ∷ []) ≡ with_line bytes tokens (with_lines bytes tokens table ls) l
  added_behind table [] l = refl
  added_behind table (k ∷ ks) l = added_behind (with_line bytes tokens table k) ks l

  -- some lines are read, and with what the rest comes to all comes to
  pub record Gathered (which : Scope) (old table : Table) (names : List (List ℕ)) (drafts : List LineDraft) (at : ℕ) : Type 0 where
    pub parses : List Line
    pub earlier : List (List ℕ)
    pub same : HaveSame earlier names
    pub names_are : names ≡ names_of bytes tokens parses
    pub say : SayLines bytes tokens table parses drafts
    pub table_is : table ≡ with_lines bytes tokens old parses
    pub comes_to : (o : Outcome (List Line)) → LinesAt bytes tokens which earlier at o → LinesAt bytes tokens which [] 0 (after parses o)

  pub gathered_none : (which : Scope) (table : Table) → Gathered which table table [] [] 0
  gathered_none which table = record { parses = []; earlier = []; same = λ x. refl; names_are = refl; say = say_no_line; table_is = refl; comes_to = λ o rest. rw (after_none o) rest }

  module _ (which : Scope) (old table : Table) (names : List (List ℕ)) (drafts : List LineDraft) (at : ℕ) (g : Gathered which old table names drafts at) where
    pub gathered_all : terminal_at bytes tokens at ≡ End → AreLines bytes tokens which old table names drafts
    gathered_all e = record {
      parses = g.parses;
      end = at;
      reads = subst (λ ls. LinesAt bytes tokens which [] 0 (read ls at)) (append-nil g.parses) (g.comes_to (read [] at) (is_no_line e));
      names_are = g.names_are;
      say = g.say;
      table_is = g.table_is;
    }

    module _ (more : terminal_at bytes tokens at ≢ End) where
      pub lines_stop : (e : Stop) → Stops (LinesAt bytes tokens which names at) e → Stops (LinesAt bytes tokens which [] 0) e
      lines_stop e h = passes (LinesAt bytes tokens which names at) (LinesAt bytes tokens which [] 0) e (λ why k s. g.comes_to (stop why k) (same_lines g.earlier names g.same s)) h

      pub gathered_more : (new : Table) (end : ℕ) (more_names : List (List ℕ)) (more_drafts : List LineDraft) → Grows table new → TakesLine bytes tokens which at end table new names drafts more_names more_drafts → Gathered which old new more_names more_drafts end
      gathered_more new end more_names more_drafts grows taken = let r = taken.reads in record {
        parses = g.parses ++ r.line ∷ [];
        earlier = bytes_at bytes tokens r.line.name ∷ g.earlier;
        same = rw (taken.names_are, r.says.name) (have_more g.earlier names (bytes_at bytes tokens r.line.name) g.same);
        names_are = taken.names_are ∙ ap (λ k. names ++ bytes_at bytes tokens k ∷ []) r.says.name ∙ ap (λ ns. ns ++ bytes_at bytes tokens r.line.name ∷ []) g.names_are ∙ sym (map-append (λ (l : Line). bytes_at bytes tokens l.name) g.parses (r.line ∷ []));
        say = rw taken.drafts_are (lines_snoc r.line taken.draft (lines_grow table new grows g.say) r.says);
        table_is = r.table_is ∙ ap (λ t. with_line bytes tokens t r.line) g.table_is ∙ sym (added_behind old g.parses r.line);
        comes_to = λ o rest. rw (after_one g.parses r.line o) (g.comes_to (mapped (λ ls. r.line ∷ ls) o) (has_line more (same_line g.earlier names g.same r.reads) (same_scope new (variables_of bytes tokens r.line) which r.line.source taken.draft.source r.says.source ∙ taken.belongs) rest));
      }

  -- what stops in the next line
  module _ (which : Scope) (names : List (List ℕ)) (at : ℕ) (more : terminal_at bytes tokens at ≢ End) where
    pub line_stops : (e : Stop) → Stops (line bytes tokens names at) e → Stops (LinesAt bytes tokens which names at) e
    line_stops e h = passes (line bytes tokens names at) (LinesAt bytes tokens which names at) e (λ why k s. stops_in_line more s) h

    pub foreign_stops : (old new : Table) (d : LineDraft) (end : ℕ) → ReadsLineAt bytes tokens names at end old new d → belongs_draft which d.source ≡ false → LinesAt bytes tokens which names at (stop NoToken at)
    foreign_stops old new d end r b = has_foreign_line more r.reads (same_scope new (variables_of bytes tokens r.line) which r.line.source d.source r.says.source ∙ b)

-- a new name makes one name more
pub new_name : (names : List (List ℕ)) (x : List ℕ) → list_any (bytes_eq x) names ≡ false → with_name names x ≡ names ++ x ∷ []
new_name names x e = rw e refl

pub as_many : {bytes : List ℕ} {tokens : List Token} {table : Table} {ls : List Line} {ds : List LineDraft} → SayLines bytes tokens table ls ds → length ds ≡ length (names_of bytes tokens ls)
as_many say_no_line = refl
as_many (say_line s all) = omega (arith, as_many all)
