-- How the parts of a line make the line.
use Rattle.std.proofs.Common.{◌≡◌, ℕ, Bool, false, List, [], refl, sym, ap, ◌∙◌, subst}
use Rattle.std.specs.Prelude.{bytes_eq, if◌then◌else◌}
use Rattle.std.specs.List.{list_any}
use Rattle.uc_term.specs.Table.{Table, Grows}
use Rattle.uc_clause.specs.declared.token.Token.{Token}
use Rattle.uc_clause.specs.declared.grammar.stop.Why.{Why}
use Rattle.uc_clause.specs.declared.grammar.stop.Stop.{Stop}
use Rattle.uc_clause.specs.Terminals.{bytes_at}
use Rattle.uc_clause.specs.Rules.{Outcome, read, stop, mapped, goes_on, stops_first, Stops}
use Rattle.uc_clause.specs.Meaning.{Variables, with_names}
use Rattle.uc_clause.proofs.Sequences.{passes}
use Rattle.uc_clause.proofs.Means.{Extends, means_grows, with_names_both, with_names_extends}
use Rattle.uc_tstp.specs.declared.drafts.BodyDraft.{BodyDraft}
use Rattle.uc_tstp.specs.declared.drafts.BodyDraft.TheVariants as draft
use Rattle.uc_tstp.specs.declared.drafts.SourceDraft.{SourceDraft}
use Rattle.uc_tstp.specs.declared.drafts.LineDraft.{LineDraft}
use Rattle.uc_tstp.specs.declared.drafts.Sort.TheVariants as sort
use Rattle.uc_tstp.specs.Parse.{Body, says, falsum, Source, Line}
use Rattle.uc_tstp.specs.Lines.{body, LineName, is_new, rest_of_line, line}
use Rattle.uc_tstp.specs.Meaning.{body_variables, source_variables, variables_of}
use Rattle.uc_tstp.specs.Interning.{with_source}
use Rattle.uc_tstp.specs.Drafts.{SaysBody, SaysSource, sort_of, sort_of_draft, ReadsBodyAt, SaysLine, ReadsLineAt}
use Rattle.uc_tstp.specs.Parts.{comma_source, line_end, ReadsSourceBy, ReadsContentsAt}

pub is_new_name : {bytes : List ℕ} {tokens : List Token} {earlier : List (List ℕ)} {at name end : ℕ} → LineName bytes tokens earlier at (read name end) → list_any (bytes_eq (bytes_at bytes tokens name)) earlier ≡ false
is_new_name (is_new t new) = new

module _ (bytes : List ℕ) (tokens : List Token) (name first : ℕ) where
  pub body_stops : (e : Stop) → Stops (body bytes tokens first) e → Stops (rest_of_line bytes tokens name first) e
  body_stops e h = passes (body bytes tokens first) (rest_of_line bytes tokens name first) e (λ why k s. goes_on {v = first} {middle = first} refl (stops_first s)) h

  module _ (b : Body) (at : ℕ) (reads_body : body bytes tokens first (read b at)) where
    behind_body : {why : Why} {k : ℕ} → comma_source bytes tokens b first at (stop why k) → rest_of_line bytes tokens name first (stop why k)
    behind_body (stops_first c) = goes_on {v = first} {middle = first} refl (goes_on reads_body (stops_first c))
    behind_body (goes_on c s) = goes_on {v = first} {middle = first} refl (goes_on reads_body (goes_on {v = tt} c (stops_first s)))

    pub source_stops : (e : Stop) → Stops (comma_source bytes tokens b first at) e → Stops (rest_of_line bytes tokens name first) e
    source_stops e h = passes (comma_source bytes tokens b first at) (rest_of_line bytes tokens name first) e (λ why k s. behind_body s) h

    all_behind : {s : Source} {end : ℕ} {o : Outcome (Unit {0})} → comma_source bytes tokens b first at (read s end) → line_end bytes tokens end o → rest_of_line bytes tokens name first (mapped (λ _. record { name = name; body = b; source = s }) o)
    all_behind (goes_on c r) (stops_first d) = goes_on {v = first} {middle = first} refl (goes_on reads_body (goes_on {v = tt} c (goes_on r (stops_first d))))
    all_behind (goes_on c r) (goes_on d (stops_first f)) = goes_on {v = first} {middle = first} refl (goes_on reads_body (goes_on {v = tt} c (goes_on r (goes_on {v = tt} d (stops_first f)))))
    all_behind (goes_on c r) (goes_on d (goes_on f e)) = rw e (goes_on {v = first} {middle = first} refl (goes_on reads_body (goes_on {v = tt} c (goes_on r (goes_on {v = tt} d (goes_on {v = tt} f refl))))))

module _ (bytes : List ℕ) (tokens : List Token) where
  pub same_sort : (table : Table) (seen : Variables) (b : Body) (d : BodyDraft) → SaysBody bytes tokens table seen b d → sort_of b ≡ sort_of_draft d
  same_sort table seen (says l) (draft.Sides positive left right) h = ap (λ (p : Bool). if p then sort.Equation else sort.Denial) (sym h.0)
  same_sort table seen (says l) draft.Falsum h = elim h [ ]
  same_sort table seen falsum (draft.Sides positive left right) h = elim h [ ]
  same_sort table seen falsum draft.Falsum h = refl

  pub body_grows : (old new : Table) (seen more_seen : Variables) → Grows old new → Extends seen more_seen → (b : Body) (d : BodyDraft) → SaysBody bytes tokens old seen b d → SaysBody bytes tokens new more_seen b d
  body_grows old new seen more_seen grows extends (says l) (draft.Sides positive left right) h = (h.0, means_grows bytes tokens old new seen more_seen grows extends h.1, means_grows bytes tokens old new seen more_seen grows extends h.2)
  body_grows old new seen more_seen grows extends (says l) draft.Falsum h = elim h [ ]
  body_grows old new seen more_seen grows extends falsum (draft.Sides positive left right) h = elim h [ ]
  body_grows old new seen more_seen grows extends falsum draft.Falsum h = tt

  module _ (name first at end : ℕ) (before old new : Table) (seen more_seen : Variables) (bd : BodyDraft) (sd : SourceDraft) (grows : Grows old new) (b : ReadsBodyAt bytes tokens first at [] seen before old bd) (s : ReadsSourceBy bytes tokens (comma_source bytes tokens b.body first) at end seen more_seen old new sd) where
    abbrev of_line : Line
    of_line = record { name = name; body = b.body; source = s.source }

    all_seen : more_seen ≡ variables_of bytes tokens of_line
    all_seen = s.seen_is ∙ ap (λ vs. with_names vs (source_variables bytes tokens s.source)) b.seen_is ∙ sym (with_names_both [] (body_variables bytes tokens b.body) (source_variables bytes tokens s.source))

    extends : Extends seen more_seen
    extends = let e = with_names_extends seen (source_variables bytes tokens s.source) in (e.0, s.seen_is ∙ e.1)

    says_line : SaysLine bytes tokens new of_line (record { name = name; body = bd; source = sd })
    says_line = record {
      name = refl;
      body = subst (λ vs. SaysBody bytes tokens new vs b.body bd) all_seen (body_grows old new seen more_seen grows extends b.body bd b.says);
      source = subst (λ vs. SaysSource bytes tokens new vs s.source sd) all_seen s.says;
    }

    pub reads_contents : ReadsContentsAt bytes tokens name first end before new (record { name = name; body = bd; source = sd })
    reads_contents = record {
      line = of_line;
      leads = λ o closing. all_behind bytes tokens name first b.body at b.reads s.reads closing;
      named = refl;
      says = says_line;
      table_is = s.table_is ∙ ap (λ t. with_source bytes tokens t s.source) b.table_is;
    }

  module _ (earlier : List (List ℕ)) (name from first at : ℕ) (leads : (o : Outcome Line) → rest_of_line bytes tokens name first o → line bytes tokens earlier from o) (old new : Table) (draft : LineDraft) (r : ReadsContentsAt bytes tokens name first at old new draft) where
    pub end_stops : (why : Why) (k : ℕ) → line_end bytes tokens at (stop why k) → line bytes tokens earlier from (stop why k)
    end_stops why k s = leads (stop why k) (r.leads (stop why k) s)

    pub reads_line : (end : ℕ) → line_end bytes tokens at (read tt end) → ReadsLineAt bytes tokens earlier from end old new draft
    reads_line end s = record { line = r.line; reads = leads (read r.line end) (r.leads (read tt end) s); says = r.says; table_is = r.table_is }
