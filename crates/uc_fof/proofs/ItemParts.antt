-- How an item is read of its parts.
use Rattle.std.proofs.Common.{◌≡◌, ℕ, ◌<◌, List, length, Bool, true, false, refl, sym, ap, ◌∙◌, subst, inl, inr}
use Rattle.std.specs.Prelude.{◌⊎◌}
use Rattle.uc_term.specs.Tree.{Tree}
use Rattle.uc_term.specs.Table.{Table}
use Rattle.uc_clause.specs.declared.token.Token.{Token}
use Rattle.uc_clause.specs.declared.token.Place.{Place}
use Rattle.uc_clause.specs.declared.clause.Clause.{Clause}
use Rattle.uc_clause.specs.declared.clause.Item.{Item}
use Rattle.uc_clause.specs.declared.fault.ClauseFault.{ClauseFault}
use Rattle.uc_clause.specs.declared.fault.ClauseFault.TheVariants as fault
use Rattle.uc_clause.specs.Rules as clause
use Rattle.uc_clause.specs.Items as items
use Rattle.uc_clause.specs.Parse.{Literal}
use Rattle.uc_clause.specs.Parse as parse
use Rattle.uc_clause.specs.Meaning as meaning
use Rattle.uc_clause.specs.Interning as interning
use Rattle.uc_clause.specs.Given as given
use Rattle.uc_clause.specs.Reading.{IsFault}
use Rattle.uc_clause.proofs.ItemsOnce as clauses
use Rattle.uc_fof.specs.declared.heading.FormulaHeading.{FormulaHeading}
use Rattle.uc_fof.specs.declared.stop.Reason.{Reason}
use Rattle.uc_fof.specs.declared.stop.Reason.TheVariants.{Outside}
use Rattle.uc_fof.specs.declared.stop.Halt.{Halt}
use Rattle.uc_fof.specs.declared.stop.Halt.TheVariants.{At, NoMemory}
use Rattle.uc_fof.specs.declared.item.FofItem.TheVariants as fof
use Rattle.uc_fof.specs.Rules.{Outcome, read, stop, Stops, as_in, outside}
use Rattle.uc_fof.specs.Parse.{Stated, Entry, item, stated}
use Rattle.uc_fof.specs.Formulas as formulas
use Rattle.uc_fof.specs.Meaning.{MeansStated}
use Rattle.uc_fof.specs.Interning.{with_item, with_stated}
use Rattle.uc_fof.specs.Refusals.{IsFaultOf}
use Rattle.uc_fof.specs.Given.{BeginsLiteral, IsLiteral, IsStated, ReadsStatedAt, ReadsItemAt, StopsWith, stops_with}
use Rattle.uc_fof.proofs.Forget.{literal_there, literal_within}

module _ (bytes : List ℕ) (tokens : List Token) (from : ℕ) where
  module _ (conjecture : Bool) (b : BeginsLiteral bytes tokens conjecture from) where
    pub begins_within : from < length tokens
    begins_within = literal_within bytes tokens conjecture b.bound from b.end b.literal b.reads

    reads_or_not : {e : ClauseFault} → given.StopsWith (items.literal bytes tokens) bytes tokens from e → ⊥
    reads_or_not (given.stops_with {why = why} {k = k} x) = let h : clause.read b.literal b.end ≡ clause.stop why k = clauses.literal_once bytes tokens from (clause.read b.literal b.end) (clause.stop why k) (literal_there bytes tokens conjecture b.bound from b.end b.literal b.reads) x in cc

    -- a literal is known to be there, so only memory can be wanted
    pub only_memory : (e : ClauseFault) → IsFault (given.StopsWith (items.literal bytes tokens) bytes tokens from) e → e ≡ fault.NoMemory
    only_memory e (inl s) = absurd (reads_or_not s)
    only_memory e (inr m) = m

  pub is_literal : (old new : Table) (positive : Bool) (left right : Tree) (places : List Place) (end : ℕ) → given.ReadsLiteralAt bytes tokens from new positive left right places end → interning.InternsAt (items.literal bytes tokens from) (interning.with_literal bytes tokens) old new end → IsLiteral bytes tokens from old new positive left right places
  is_literal old new positive left right places end r i =
      let h : clause.read r.literal end ≡ clause.read i.parse end = clauses.literal_once bytes tokens from (clause.read r.literal end) (clause.read i.parse end) r.reads i.reads in
      let same : i.parse ≡ r.literal = cc in
      record {
        literal = r.literal;
        end = end;
        reads = r.reads;
        is_positive = r.is_positive;
        means = r.means;
        are_places = r.are_places;
        new_is = i.new_is ∙ ap (interning.with_literal bytes tokens old) same;
      }

  module _ (heading : FormulaHeading) (at end : ℕ) (s : IsStated bytes tokens from heading at end) where
    pub begins_literal : BeginsLiteral bytes tokens (formulas.is_conjecture heading.role) at
    begins_literal = record { literal = s.literal; bound = s.bound; end = s.middle; reads = s.is_literal }

    module _ (old new : Table) (positive : Bool) (left right : Tree) (places : List Place) (l : IsLiteral bytes tokens at old new positive left right places) where
      pub same_literal : l.literal ≡ s.literal
      same_literal = let h : clause.read l.literal l.end ≡ clause.read s.literal s.middle = clauses.literal_once bytes tokens at (clause.read l.literal l.end) (clause.read s.literal s.middle) l.reads (literal_there bytes tokens (formulas.is_conjecture heading.role) s.bound at s.middle s.literal s.is_literal) in cc

      pub reads_stated : (clause : Clause) (conjecture : Bool) (role_place : Place) → MeansStated bytes tokens new (record { heading = heading; literal = l.literal }) clause conjecture role_place → ReadsStatedAt bytes tokens from old new (fof.Formula clause conjecture role_place) end
      reads_stated clause conjecture role_place m = record {
        parse = record { heading = heading; literal = s.literal };
        reads = s.reads;
        means = subst (λ k. MeansStated bytes tokens new (record { heading = heading; literal = k }) clause conjecture role_place) same_literal m;
        new_is = l.new_is ∙ ap (interning.with_literal bytes tokens old) same_literal;
      }

  -- the item of a formula
  module _ (begins : formulas.begins_formula bytes tokens from ≡ true) where
    pub stated_item : (old new : Table) (i : _) (end : ℕ) → ReadsStatedAt bytes tokens from old new i end → ReadsItemAt bytes tokens from old new i end
    stated_item old new i end r = record { entry = stated r.parse; reads = formulas.is_stated {outcome = read r.parse end} begins r.reads; means = r.means; new_is = r.new_is }

    pub stated_refused : (e : Halt) (f : ClauseFault) → Stops (formulas.fof bytes tokens from) e → IsFaultOf bytes tokens e f → IsFault (StopsWith bytes tokens (formulas.Item bytes tokens) from) f
    stated_refused (At reason k) f s (inl e) = inl (subst (StopsWith bytes tokens (formulas.Item bytes tokens) from) (sym e) (stops_with (formulas.is_stated {outcome = stop reason k} begins s)))
    stated_refused (At reason k) f s (inr e) = inr e
    stated_refused NoMemory f s e = inr e

  -- an item of clauses
  module _ (begins : formulas.begins_formula bytes tokens from ≡ false) where
    pub clause_item : (old new : Table) (i : Item) (end : ℕ) → given.ReadsItemAt bytes tokens from new i end → interning.InternsAt (items.Item bytes tokens from) (interning.with_item bytes tokens) old new end → ReadsItemAt bytes tokens from old new (fof.Item i) end
    clause_item old new i end r q =
        let h : clause.read r.entry end ≡ clause.read q.parse end = clauses.item_once bytes tokens from (clause.read r.entry end) (clause.read q.parse end) r.reads q.reads in
        let same : q.parse ≡ r.entry = cc in
        record {
          entry = item r.entry;
          reads = formulas.is_item {outcome = read r.entry end} begins (as_in r.reads);
          means = r.means;
          new_is = q.new_is ∙ ap (interning.with_item bytes tokens old) same;
        }

    refused_item : {e : ClauseFault} → given.StopsWith (items.Item bytes tokens) bytes tokens from e → StopsWith bytes tokens (formulas.Item bytes tokens) from e
    refused_item (given.stops_with {why = why} {k = k} x) = stops_with {reason = Outside why} {k = k} (formulas.is_item {outcome = stop (Outside why) k} begins (as_in x))

    pub clause_refused : (e : ClauseFault) → IsFault (given.StopsWith (items.Item bytes tokens) bytes tokens from) e → IsFault (StopsWith bytes tokens (formulas.Item bytes tokens) from) e
    clause_refused e (inl s) = inl (refused_item s)
    clause_refused e (inr m) = inr m
