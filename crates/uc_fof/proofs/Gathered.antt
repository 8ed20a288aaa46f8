-- How items are gathered.
use Rattle.std.proofs.Common.{◌≡◌, ℕ, ◌<◌, List, [], ◌∷◌, ◌++◌, refl, sym, ap, ◌∙◌, subst, append-nil, append_assoc, inl, inr}
use Rattle.std.specs.Prelude.{◌≢◌, ◌⊎◌}
use Rattle.uc_term.specs.Table.{Table, Grows}
use Rattle.uc_clause.specs.declared.token.Token.{Token}
use Rattle.uc_clause.specs.declared.clause.Item.{Item}
use Rattle.uc_clause.specs.declared.clause.Item.TheVariants as clause
use Rattle.uc_clause.specs.declared.fault.ClauseFault.{ClauseFault}
use Rattle.uc_clause.specs.declared.terminal.Terminal.TheVariants.{End}
use Rattle.uc_clause.specs.Terminals.{terminal_at}
use Rattle.uc_clause.specs.Meaning as meaning
use Rattle.uc_clause.specs.Parse as parse
use Rattle.uc_clause.specs.Reading.{IsFault}
use Rattle.uc_clause.proofs.Means.{means_grows, extends_not}
use Rattle.uc_fof.specs.declared.item.FofItem.{FofItem}
use Rattle.uc_fof.specs.declared.item.FofItem.TheVariants as fof
use Rattle.uc_fof.specs.Rules.{Outcome, read, stop, mapped}
use Rattle.uc_fof.specs.Parse.{Entry, item, stated}
use Rattle.uc_fof.specs.Formulas as formulas
use Rattle.uc_fof.specs.Meaning.{MeansItem, MeanItems, no_items, one_item}
use Rattle.uc_fof.specs.Interning.{with_item, with_items}
use Rattle.uc_fof.specs.Given.{ReadsItemAt, ReadsItems, StopsWith, stops_with}

-- these members, and then the others
abbrev pub after : {A : Type 0} → List A → Outcome (List A) → Outcome (List A)
after xs o = mapped (λ ys. xs ++ ys) o

pub after_none : {A : Type 0} (o : Outcome (List A)) → after [] o ≡ o
after_none (read ys end) = refl
after_none (stop reason k) = refl

pub after_one : {A : Type 0} (xs : List A) (x : A) (o : Outcome (List A)) → after (xs ++ x ∷ []) o ≡ after xs (mapped (λ ys. x ∷ ys) o)
after_one xs x (read ys end) = ap (λ zs. read zs end) (append_assoc xs (x ∷ []) ys)
after_one xs x (stop reason k) = refl

module _ (bytes : List ℕ) (tokens : List Token) where
  module _ (old new : Table) (grows : Grows old new) where
    clause_grows : (e : parse.Entry) (i : Item) → meaning.MeansItem bytes tokens old e i → meaning.MeansItem bytes tokens new e i
    clause_grows (parse.formula f) (clause.Clause c) m = record {
      name = m.name;
      role = m.role;
      positive = m.positive;
      sides = record {
        means_left = means_grows bytes tokens old new _ _ grows (extends_not _) m.sides.means_left;
        means_right = means_grows bytes tokens old new _ _ grows (extends_not _) m.sides.means_right;
      };
      places = m.places;
      place = m.place;
    }
    clause_grows (parse.inclusion i) (clause.Include include) m = m
    clause_grows (parse.formula f) (clause.Include include) m = m
    clause_grows (parse.inclusion i) (clause.Clause c) m = m

    item_grows : (entry : Entry) (i : FofItem) → MeansItem bytes tokens old entry i → MeansItem bytes tokens new entry i
    item_grows (item e) (fof.Item i) m = clause_grows e i m
    item_grows (item e) (fof.Formula c p h) m = m
    item_grows (stated s) (fof.Item i) m = m
    item_grows (stated s) (fof.Formula c p h) m = record {
      name = m.name;
      role = m.role;
      positive = m.positive;
      sides = record {
        means_left = means_grows bytes tokens old new _ _ grows (extends_not _) m.sides.means_left;
        means_right = means_grows bytes tokens old new _ _ grows (extends_not _) m.sides.means_right;
      };
      places = m.places;
      place = m.place;
      is_conjecture = m.is_conjecture;
      is_role_place = m.is_role_place;
    }

    pub items_grow : {entries : List Entry} {found : List FofItem} → MeanItems bytes tokens old entries found → MeanItems bytes tokens new entries found
    items_grow no_items = no_items
    items_grow (one_item {entry = entry} {i = i} m all) = one_item (item_grows entry i m) (items_grow all)

  pub items_snoc : {table : Table} {entries : List Entry} {found : List FofItem} (entry : Entry) (i : FofItem) → MeanItems bytes tokens table entries found → MeansItem bytes tokens table entry i → MeanItems bytes tokens table (entries ++ entry ∷ []) (found ++ i ∷ [])
  items_snoc entry i no_items m = one_item m no_items
  items_snoc entry i (one_item n all) m = one_item n (items_snoc entry i all m)

  with_items_snoc : (table : Table) (entries : List Entry) (entry : Entry) → with_items bytes tokens table (entries ++ entry ∷ []) ≡ with_item bytes tokens (with_items bytes tokens table entries) entry
  with_items_snoc table [] entry = refl
  with_items_snoc table (e ∷ entries) entry = with_items_snoc (with_item bytes tokens table e) entries entry

  -- some items are read and make the table of the old one, and with what the rest comes to the text comes to
  pub record Gathered (old table : Table) (found : List FofItem) (at : ℕ) : Type 0 where
    pub entries : List Entry
    pub means : MeanItems bytes tokens table entries found
    pub new_is : table ≡ with_items bytes tokens old entries
    pub comes_to : (o : Outcome (List Entry)) → formulas.Items bytes tokens at o → formulas.Items bytes tokens 0 (after entries o)

  pub gathered_none : (table : Table) → Gathered table table [] 0
  gathered_none table = record { entries = []; means = no_items; new_is = refl; comes_to = λ o rest. rw (after_none o) rest }

  module _ (old table : Table) (found : List FofItem) (at : ℕ) (g : Gathered old table found at) where
    pub gathered_all : terminal_at bytes tokens at ≡ End → ReadsItems bytes tokens old table found
    gathered_all e = record {
      entries = g.entries;
      end = at;
      reads = subst (λ es. formulas.Items bytes tokens 0 (read es at)) (append-nil g.entries) (g.comes_to (read [] at) (formulas.is_end e));
      means = g.means;
      new_is = g.new_is;
    }

    module _ (more : terminal_at bytes tokens at ≢ End) where
      stopped : {e : ClauseFault} → StopsWith bytes tokens (formulas.Item bytes tokens) at e → StopsWith bytes tokens (formulas.Items bytes tokens) 0 e
      stopped (stops_with {reason = reason} {k = k} x) = stops_with (g.comes_to (stop reason k) (formulas.stops_in_item more x))

      pub item_refused : (e : ClauseFault) → IsFault (StopsWith bytes tokens (formulas.Item bytes tokens) at) e → IsFault (StopsWith bytes tokens (formulas.Items bytes tokens) 0) e
      item_refused e (inl s) = inl (stopped s)
      item_refused e (inr m) = inr m

      pub gathered_more : (new : Table) (i : FofItem) (end : ℕ) → Grows table new → ReadsItemAt bytes tokens at table new i end → Gathered old new (found ++ i ∷ []) end
      gathered_more new i end grows r = record {
        entries = g.entries ++ r.entry ∷ [];
        means = items_snoc r.entry i (items_grow table new grows g.means) r.means;
        new_is = r.new_is ∙ ap (λ t. with_item bytes tokens t r.entry) g.new_is ∙ sym (with_items_snoc old g.entries r.entry);
        comes_to = λ o rest. rw (after_one g.entries r.entry o) (g.comes_to (mapped (λ es. r.entry ∷ es) o) (formulas.has_item more r.reads rest));
      }
