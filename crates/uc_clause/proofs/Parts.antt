-- What the reader of terms has when it is done, as a term.
use Rattle.std.proofs.Common.{◌≡◌, ℕ, ◌≤◌, List, length, refl, sym, ap, ◌∙◌, subst, arith}
use Rattle.uc_term.specs.Flat.{tree_of, IsWhole}
use Rattle.uc_term.specs.Code.{tree_of-flat}
use Rattle.uc_term.specs.Table.{Table}
use Rattle.uc_clause.specs.declared.token.Token.{Token}
use Rattle.uc_clause.specs.declared.grammar.draft.Draft.{Draft}
use Rattle.uc_clause.specs.declared.grammar.term.Part.{Part}
use Rattle.uc_clause.specs.Meaning.{Variables, Means}
use Rattle.uc_clause.specs.Rules.{read}
use Rattle.uc_clause.specs.Terms.{Term}
use Rattle.uc_clause.specs.Interning.{InternsAt, with_term}
use Rattle.uc_clause.specs.Drafts.{state_of, IsRead, IsPart}
use Rattle.uc_clause.proofs.Means.{size_means}
use Rattle.uc_clause.proofs.Sizes.{term_small}

module _ (bytes : List ℕ) (tokens : List Token) (from : ℕ) (seen : Variables) (old : Table) (draft : Draft) (more_seen : Variables) (table : Table) (r : IsRead bytes tokens from seen old (state_of draft more_seen table)) where
  pub read_whole : IsWhole draft.nodes.items
  read_whole = rw (r.nodes, tree_of-flat r.tree) refl

  pub read_small : length draft.nodes.items ≤ 4096
  read_small = omega (arith, ap length r.nodes, size_means r.means, term_small bytes tokens from draft.at r.parse r.reads)

  pub read_part : (part : Part) → part ≡ record { term = tree_of draft.nodes.items; places = draft.places; end = draft.at } → IsPart bytes tokens from seen more_seen table part
  read_part part e =
      let term : part.term ≡ r.tree = ap (λ (p : Part). p.term) e ∙ ap tree_of r.nodes ∙ tree_of-flat r.tree in
      subst (λ p. IsPart bytes tokens from seen more_seen table p) (sym e)
      (record {
        parse = r.parse;
        reads = r.reads;
        places = r.places;
        seen_is = r.seen_is;
        means = subst (λ t. Means bytes tokens table more_seen r.parse t) (sym (ap tree_of r.nodes ∙ tree_of-flat r.tree)) r.means;
      })

  -- what is read makes the new table
  pub read_interns : (part : Part) → part ≡ record { term = tree_of draft.nodes.items; places = draft.places; end = draft.at } → InternsAt (Term bytes tokens 0 from) (with_term bytes tokens) old table part.end
  read_interns part e = record {
    parse = r.parse;
    reads = subst (λ k. Term bytes tokens 0 from (read r.parse k)) (sym (ap (λ (p : Part). p.end) e)) r.reads;
    new_is = r.table_is;
  }
