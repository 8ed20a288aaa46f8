-- How loops read members that mean values in a table of symbols.
use Rattle.std.proofs.Common.{◌≡◌, ℕ, ◌+◌, Bool, true, false, List, [], ◌∷◌, ◌++◌, refl, sym, ap, ◌∙◌, subst}
use Rattle.uc_term.specs.Table.{Table, Grows}
use Rattle.uc_clause.specs.declared.token.Token.{Token}
use Rattle.uc_clause.specs.declared.grammar.stop.Stop.{Stop}
use Rattle.uc_clause.specs.Rules.{Rule, Stops}
use Rattle.uc_clause.proofs.Tables.{grows_twice}
use Rattle.uc_tstp.specs.Lines.{members}
use Rattle.uc_tstp.specs.Drafts.{IsNext, NoNext}
use Rattle.uc_tstp.proofs.Members.{Ahead, ahead_none, ahead_on, ahead_more, ahead_stops, ahead_behind}
use Rattle.uc_certificate.specs.JoinMeaning.{MeanAll, none_mean, more_mean}
use Rattle.uc_certificate.specs.Interning.{with_each}
use Rattle.uc_certificate.specs.Reads.{ReadsAs}

pub mean_snoc : {P V : Type 0} {Means : P → V → Type 0} {ps : List P} {vs : List V} (p : P) (v : V) → MeanAll Means ps vs → Means p v → MeanAll Means (ps ++ p ∷ []) (vs ++ v ∷ [])
mean_snoc p v none_mean m = more_mean m none_mean
mean_snoc p v (more_mean first all) m = more_mean first (mean_snoc p v all m)

pub with_snoc : {P : Type 0} (with_one : Table → P → Table) (table : Table) (ps : List P) (p : P) → with_each with_one table (ps ++ p ∷ []) ≡ with_one (with_each with_one table ps) p
with_snoc with_one table [] p = refl
with_snoc with_one table (q ∷ ps) p = with_snoc with_one (with_one table q) ps p

module _ (bytes : List ℕ) (tokens : List Token) {P V : Type 0} (member : Rule P) (Means : Table → P → V → Type 0) (with_one : Table → P → Table) (from : ℕ) (start : Table) where
  -- what a loop over members keeps
  pub record Kept (more : Bool) (at : ℕ) (table : Table) (vs : List V) : Type 0 where
    pub parses : List P
    pub ahead : Ahead bytes tokens member from parses more at
    pub mean : (later : Table) → Grows table later → MeanAll (Means later) parses vs
    pub interns : table ≡ with_each with_one start parses

  pub kept_none : Kept true from start []
  kept_none = record { parses = []; ahead = ahead_none bytes tokens member from; mean = λ later g. none_mean; interns = refl }

  module _ (more : Bool) (at : ℕ) (table : Table) (vs : List V) (k : Kept more at table vs) where
    module _ (on : more ≡ true) where
      pub kept_stops : (err : Stop) → Stops (member at) err → Stops (members bytes tokens member from) err
      kept_stops err h = ahead_stops bytes tokens member from k.parses at err (ahead_on bytes tokens member from k.parses more at on k.ahead) h

      module _ (end : ℕ) (new : Table) (v : V) (r : ReadsAs member Means with_one at end table new v) where
        pub kept_behind : (err : Stop) → NoNext bytes tokens end err → Stops (members bytes tokens member from) err
        kept_behind err h = ahead_behind bytes tokens member from k.parses r.parse at end err (ahead_on bytes tokens member from k.parses more at on k.ahead) r.reads h

        pub kept_more : (again : Bool) → IsNext bytes tokens end again → Grows table new → Kept again (end + 1) new (vs ++ v ∷ [])
        kept_more again next g = record {
          parses = k.parses ++ r.parse ∷ [];
          ahead = ahead_more bytes tokens member from k.parses r.parse at end again (ahead_on bytes tokens member from k.parses more at on k.ahead) r.reads next;
          mean = λ later h. mean_snoc r.parse v (k.mean later (grows_twice table new later g h)) (r.means later h);
          interns = r.interns ∙ ap (λ t. with_one t r.parse) k.interns ∙ sym (with_snoc with_one start k.parses r.parse);
        }

    pub kept_all : more ≡ false → ReadsAs (members bytes tokens member) (λ t. MeanAll (Means t)) (with_each with_one) from at start table vs
    kept_all off = record { parse = k.parses; reads = subst (λ b. Ahead bytes tokens member from k.parses b at) off k.ahead; means = k.mean; interns = k.interns }
