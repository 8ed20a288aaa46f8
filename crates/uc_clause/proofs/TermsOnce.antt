-- From a token on one term is read, or reading stops for one reason.
use Rattle.std.proofs.Common.{◌≡◌, ℕ, List, refl, ap, ◌⊎◌, inl, inr}
use Rattle.std.specs.Prelude.{Result, Ok, Err}
use Rattle.uc_term.specs.Tree.{Tree}
use Rattle.uc_term.specs.Table.{Table, IsDistinct}
use Rattle.uc_clause.specs.Distinct.{AreDistinct}
use Rattle.uc_clause.specs.declared.token.Token.{Token}
use Rattle.uc_clause.specs.declared.grammar.stop.Why.{Why}
use Rattle.uc_clause.specs.declared.grammar.stop.Stop.{Stop}
use Rattle.uc_clause.specs.declared.grammar.stop.Stop.TheVariants.{At, NoMemory}
use Rattle.uc_clause.specs.declared.grammar.term.Part.{Part}
use Rattle.uc_clause.specs.Drafts.{IsPart}
use Rattle.uc_clause.specs.Rules.{Outcome, read, stop, Stops}
use Rattle.uc_clause.specs.Parse.{Parse}
use Rattle.uc_clause.specs.Terms.{Term}
use Rattle.uc_clause.specs.Meaning.{Variables}
use Rattle.uc_clause.specs.Reading.{ReadsTermAt}
use Rattle.uc_clause.proofs.ReadOnce.{term_once}
use Rattle.uc_clause.proofs.MeansOnce.{means_once}

-- this is the answer, unless memory is wanted
abbrev Comes : Result (Tree × ℕ) Stop → Result (Tree × ℕ) Stop → Type 0
Comes answer result = (result ≡ answer) ⊎ (result ≡ Err NoMemory)

module _ (bytes : List ℕ) (tokens : List Token) (from : ℕ) where
  isnt_both : (p : Parse) (end : ℕ) (why : Why) (k : ℕ) → Term bytes tokens 0 from (read p end) → Term bytes tokens 0 from (stop why k) → ⊥
  isnt_both p end why k x y = let h : read p end ≡ stop why k = term_once bytes tokens x y in cc

  stops_once : (why other : Why) (k l : ℕ) → Term bytes tokens 0 from (stop why k) → Term bytes tokens 0 from (stop other l) → At why k ≡ At other l
  stops_once why other k l x y =
      let h : stop why k ≡ (let o : Outcome Parse = stop other l in o) = term_once bytes tokens x y in
      let whys : why ≡ other = cc in
      let ks : k ≡ l = cc in
      rw (whys, ks) refl

  pub stopped_refuses : (e : Stop) → Stops (Term bytes tokens 0 from) e → (why : Why) (k : ℕ) → Term bytes tokens 0 from (stop why k) → Comes (Err (At why k)) (Err e)
  stopped_refuses (At other l) stops why k x = inl (ap Err (stops_once other why l k stops x))
  stopped_refuses NoMemory stops why k x = inr refl

  module _ (old new : Variables) (table : Table) where
    pub part_is_read : (part : Part) → IsPart bytes tokens from old new table part → ReadsTermAt bytes tokens from part.end old new table part.term
    part_is_read part p = record {
      parse = p.parse;
      reads = p.reads;
      seen_is = p.seen_is;
      means = p.means;
    }

    pub stopped_complete : (e : Stop) → Stops (Term bytes tokens 0 from) e → (t : Tree) (end : ℕ) → ReadsTermAt bytes tokens from end old new table t → Comes (Ok (t, end)) (Err e)
    stopped_complete (At why k) stops t end r = absurd (isnt_both r.parse end why k r.reads stops)
    stopped_complete NoMemory stops t end r = inr refl

    pub read_refuses : (u : Tree) (m : ℕ) → ReadsTermAt bytes tokens from m old new table u → (why : Why) (k : ℕ) → Term bytes tokens 0 from (stop why k) → Comes (Err (At why k)) (Ok (u, m))
    read_refuses u m r why k x = absurd (isnt_both r.parse m why k r.reads x)

    pub read_complete : IsDistinct table → AreDistinct new → (u : Tree) (m : ℕ) → ReadsTermAt bytes tokens from m old new table u → (t : Tree) (end : ℕ) → ReadsTermAt bytes tokens from end old new table t → Comes (Ok (t, end)) (Ok (u, m))
    read_complete distinct apart u m q t end r =
        let h : read q.parse m ≡ read r.parse end = term_once bytes tokens q.reads r.reads in
        let parses : r.parse ≡ q.parse = cc in
        let ends : m ≡ end = cc in
        let terms : u ≡ t = means_once bytes tokens table new distinct apart q.means (rw parses at r.means) in
        inl (rw (terms, ends) refl)
