-- How items are gathered.
use Rattle.std.proofs.Common.{◌≡◌, ℕ, List, [], ◌∷◌, ◌++◌, refl, sym, ap, ◌∙◌, subst, append-nil}
use Rattle.std.specs.Prelude.{◌≢◌}
use Rattle.uc_term.specs.Table.{Table, Grows}
use Rattle.uc_clause.specs.declared.token.Token.{Token}
use Rattle.uc_clause.specs.declared.token.Place.{Place}
use Rattle.uc_clause.specs.declared.clause.Name.{Name}
use Rattle.uc_clause.specs.declared.clause.Item.{Item}
use Rattle.uc_clause.specs.declared.clause.Item.TheVariants as item
use Rattle.uc_clause.specs.declared.terminal.Terminal.{Terminal}
use Rattle.uc_clause.specs.declared.terminal.Terminal.TheVariants.{End}
use Rattle.uc_clause.specs.declared.grammar.item.Opening.{Opening}
use Rattle.uc_clause.specs.declared.grammar.stop.Stop.{Stop}
use Rattle.uc_clause.specs.Terminals.{terminal_at, bytes_at, place_at}
use Rattle.uc_clause.specs.Rules.{Outcome, read, stop, mapped, Stops}
use Rattle.uc_clause.specs.Parse.{Entry, formula, inclusion}
use Rattle.uc_clause.specs.Items as items
use Rattle.uc_clause.specs.Meaning.{IsName, AreNames, no_names, one_name, MeansItem, MeanItems, no_items, one_item}
use Rattle.uc_clause.specs.Interning.{InternsAt, with_item, with_items}
use Rattle.uc_clause.specs.Given.{AreItems}
use Rattle.uc_clause.proofs.Sequences.{passes}
use Rattle.uc_clause.proofs.Lists.{after, after_none, after_one}
use Rattle.uc_clause.proofs.Interned.{with_items_snoc}
use Rattle.uc_clause.proofs.Means.{means_grows, extends_not}

module _ (bytes : List ℕ) (tokens : List Token) where
  pub opening_is : (at : ℕ) (t : Terminal) (word : List ℕ) (r o : Opening) → t ≡ terminal_at bytes tokens at → word ≡ bytes_at bytes tokens at → r ≡ items.opening_of t word → r ≡ o → items.opening_at bytes tokens at ≡ o
  opening_is at t word r o e w f g = rw (← e, ← w) (sym f ∙ g)

  pub names_snoc : {ks : List ℕ} {names : List (Name × Place)} (k : ℕ) (name : Name) → AreNames bytes tokens ks names → IsName bytes tokens k name → AreNames bytes tokens (ks ++ k ∷ []) (names ++ (name, place_at bytes tokens k) ∷ [])
  names_snoc k name no_names n = one_name n no_names
  names_snoc k name (one_name m all) n = one_name m (names_snoc k name all n)

  module _ (old new : Table) (grows : Grows old new) where
    item_grows : (entry : Entry) (i : Item) → MeansItem bytes tokens old entry i → MeansItem bytes tokens new entry i
    item_grows (formula f) (item.Clause clause) m = record {
      name = m.name;
      role = m.role;
      positive = m.positive;
      sides = record {
        means_left = means_grows bytes tokens old new _ _ grows (extends_not _) m.sides.means_left;
        means_right = means_grows bytes tokens old new _ _ grows (extends_not _) m.sides.means_right;
      };
      places = m.places;
      place = m.place;
    }
    item_grows (inclusion i) (item.Include include) m = m
    item_grows (formula f) (item.Include include) m = m
    item_grows (inclusion i) (item.Clause clause) m = m

    pub items_grow : {entries : List Entry} {found : List Item} → MeanItems bytes tokens old entries found → MeanItems bytes tokens new entries found
    items_grow no_items = no_items
    items_grow (one_item {entry = entry} {i = i} m all) = one_item (item_grows entry i m) (items_grow all)

  pub items_snoc : {table : Table} {entries : List Entry} {found : List Item} (entry : Entry) (i : Item) → MeanItems bytes tokens table entries found → MeansItem bytes tokens table entry i → MeanItems bytes tokens table (entries ++ entry ∷ []) (found ++ i ∷ [])
  items_snoc entry i no_items m = one_item m no_items
  items_snoc entry i (one_item n all) m = one_item n (items_snoc entry i all m)

  -- some items are read, and with what the rest comes to the text comes to
  pub record Gathered (table : Table) (found : List Item) (at : ℕ) : Type 0 where
    pub entries : List Entry
    pub means : MeanItems bytes tokens table entries found
    pub comes_to : (o : Outcome (List Entry)) → items.Items bytes tokens at o → items.Items bytes tokens 0 (after entries o)

  pub gathered_none : (table : Table) → Gathered table [] 0
  gathered_none table = record { entries = []; means = no_items; comes_to = λ o rest. rw (after_none o) rest }

  module _ (table : Table) (found : List Item) (at : ℕ) (g : Gathered table found at) where
    pub gathered_all : terminal_at bytes tokens at ≡ End → AreItems bytes tokens table found
    gathered_all e = record {
      entries = g.entries;
      end = at;
      reads = subst (λ es. items.Items bytes tokens 0 (read es at)) (append-nil g.entries) (g.comes_to (read [] at) (items.is_end e));
      means = g.means;
    }

    module _ (more : terminal_at bytes tokens at ≢ End) where
      pub item_stops : (e : Stop) → Stops (items.Item bytes tokens at) e → Stops (items.Items bytes tokens 0) e
      item_stops e h = passes (items.Item bytes tokens at) (items.Items bytes tokens 0) e (λ why k s. g.comes_to (stop why k) (items.stops_in_item more s)) h

      pub gathered_more : (new : Table) (entry : Entry) (i : Item) (end : ℕ) → Grows table new → items.Item bytes tokens at (read entry end) → MeansItem bytes tokens new entry i → Gathered new (found ++ i ∷ []) end
      gathered_more new entry i end grows reads m = record {
        entries = g.entries ++ entry ∷ [];
        means = items_snoc entry i (items_grow table new grows g.means) m;
        comes_to = λ o rest. rw (after_one g.entries entry o) (g.comes_to (mapped (λ es. entry ∷ es) o) (items.has_item more reads rest));
      }

  -- some items are read and make the new table, and with what the rest comes to the text comes to
  pub record Interned (old new : Table) (at : ℕ) : Type 0 where
    pub entries : List Entry
    pub new_is : new ≡ with_items bytes tokens old entries
    pub comes_to : (o : Outcome (List Entry)) → items.Items bytes tokens at o → items.Items bytes tokens 0 (after entries o)

  pub interned_none : (table : Table) → Interned table table 0
  interned_none table = record { entries = []; new_is = refl; comes_to = λ o rest. rw (after_none o) rest }

  module _ (old table : Table) (at : ℕ) (g : Interned old table at) where
    pub interned_all : terminal_at bytes tokens at ≡ End → InternsAt (items.Items bytes tokens 0) (with_items bytes tokens) old table at
    interned_all e = record {
      parse = g.entries;
      reads = subst (λ es. items.Items bytes tokens 0 (read es at)) (append-nil g.entries) (g.comes_to (read [] at) (items.is_end e));
      new_is = g.new_is;
    }

    pub interned_more : terminal_at bytes tokens at ≢ End → (new : Table) (end : ℕ) → InternsAt (items.Item bytes tokens at) (with_item bytes tokens) table new end → Interned old new end
    interned_more more new end r = record {
      entries = g.entries ++ r.parse ∷ [];
      new_is = r.new_is ∙ ap (λ t. with_item bytes tokens t r.parse) g.new_is ∙ sym (with_items_snoc bytes tokens old g.entries r.parse);
      comes_to = λ o rest. rw (after_one g.entries r.parse o) (g.comes_to (mapped (λ es. r.parse ∷ es) o) (items.has_item more r.reads rest));
    }
