-- How the reader of terms goes on, token by token.
use Rattle.std.specs.Prelude.{◌≡◌, ◌≢◌, ℕ, ◌+◌, ◌<◌, ◌≤◌, Bool, true, false, List, [], ◌∷◌, ◌++◌, length, Some, map, slice_get, slice_set}
use Rattle.uc_term.specs.declared.node.Sym.{Sym}
use Rattle.uc_term.specs.declared.node.Node.{Node}
use Rattle.uc_term.specs.declared.node.Node.TheVariants.{Var, App}
use Rattle.uc_term.specs.Tree.{Tree}
use Rattle.uc_term.specs.Flat.{flat}
use Rattle.uc_term.specs.Table.{Table, IsSymbol, Grows}
use Rattle.uc_clause.specs.declared.token.Token.{Token}
use Rattle.uc_clause.specs.declared.token.Place.{Place}
use Rattle.uc_clause.specs.declared.terminal.Terminal.TheVariants.{Open, Close, Comma}
use Rattle.uc_clause.specs.declared.grammar.head.Head.TheVariants.{Variable, Functor, Neither}
use Rattle.uc_clause.specs.declared.grammar.draft.Draft.{Draft}
use Rattle.uc_clause.specs.declared.grammar.draft.Pending.{Pending}
use Rattle.uc_clause.specs.declared.grammar.term.Part.{Part}
use Rattle.uc_clause.specs.declared.grammar.stop.Why.{Why}
use Rattle.uc_clause.specs.declared.grammar.stop.Why.TheVariants.{NoTerm, NoToken, Nodes, Arity}
use Rattle.uc_clause.specs.declared.grammar.stop.Stop.{Stop}
use Rattle.uc_clause.specs.declared.grammar.stop.Stop.TheVariants.{At, NoMemory}
use Rattle.uc_clause.specs.Terminals.{terminal_at, bytes_at, word_at, place_at}
use Rattle.uc_clause.specs.Rules.{read}
use Rattle.uc_clause.specs.Parse.{Parse, leaves}
use Rattle.uc_clause.specs.Terms.{head_at, Term}
use Rattle.uc_clause.specs.Interning.{with_symbol, with_term}
use Rattle.uc_clause.specs.Meaning.{Variables, with_name, with_names, variables_in, Means}

-- all that a term's reader has at a token
pub record State : Type 0 where
  pub at : ℕ
  pub behind_term : Bool
  pub nodes : List Node
  pub places : List Place
  pub pending : List Pending
  pub seen : Variables
  pub table : Table

abbrev pub state_of : Draft → Variables → Table → State
state_of draft seen table = record {
  at = draft.at;
  behind_term = draft.behind_term;
  nodes = draft.nodes.items;
  places = draft.places.items;
  pending = draft.pending.items;
  seen = seen;
  table = table;
}

-- the node of a functor until it is closed
abbrev pub blank : Node
blank = App (record { 0 = 0 }) 0

-- one step of the reader
pub data Moves (bytes : List ℕ) (tokens : List Token) (old new : State) : Type 0 where
  reads_variable : (n : ℕ) → old.behind_term ≡ false → head_at bytes tokens old.at ≡ Variable → length old.nodes < 4096 → slice_get new.seen n ≡ Some (bytes_at bytes tokens old.at) → new ≡ record old { at = old.at + 1; behind_term = true; nodes = old.nodes ++ Var n ∷ []; places = old.places ++ place_at bytes tokens old.at ∷ []; seen = with_name old.seen (bytes_at bytes tokens old.at) } → Moves bytes tokens old new
  reads_constant : (f : Sym) (table : Table) → old.behind_term ≡ false → head_at bytes tokens old.at ≡ Functor → terminal_at bytes tokens (old.at + 1) ≢ Open → length old.nodes < 4096 → IsSymbol table f (word_at bytes tokens old.at) 0 → Grows old.table table → table ≡ with_symbol old.table (word_at bytes tokens old.at) 0 → new ≡ record old { at = old.at + 1; behind_term = true; nodes = old.nodes ++ App f 0 ∷ []; places = old.places ++ place_at bytes tokens old.at ∷ []; table = table } → Moves bytes tokens old new
  opens_functor : old.behind_term ≡ false → head_at bytes tokens old.at ≡ Functor → terminal_at bytes tokens (old.at + 1) ≡ Open → length old.nodes < 4096 → new ≡ record old { at = old.at + 2; nodes = old.nodes ++ blank ∷ []; places = old.places ++ place_at bytes tokens old.at ∷ []; pending = old.pending ++ record { functor = old.at; node = length old.nodes; number = 1 } ∷ [] } → Moves bytes tokens old new
  goes_to_next : (rest : List Pending) (top : Pending) → old.behind_term ≡ true → old.pending ≡ rest ++ top ∷ [] → terminal_at bytes tokens old.at ≡ Comma → top.number < 255 → new ≡ record old { at = old.at + 1; behind_term = false; pending = rest ++ record top { number = top.number + 1 } ∷ [] } → Moves bytes tokens old new
  closes_functor : (rest : List Pending) (top : Pending) (f : Sym) (table : Table) → old.behind_term ≡ true → old.pending ≡ rest ++ top ∷ [] → terminal_at bytes tokens old.at ≡ Close → IsSymbol table f (word_at bytes tokens top.functor) top.number → Grows old.table table → table ≡ with_symbol old.table (word_at bytes tokens top.functor) top.number → new ≡ record old { at = old.at + 1; nodes = slice_set old.nodes top.node (App f top.number); pending = rest; table = table } → Moves bytes tokens old new

-- the reader can't go on
pub data Sticks (bytes : List ℕ) (tokens : List Token) (old : State) : Why → ℕ → Type 0 where
  at_no_term : old.behind_term ≡ false → head_at bytes tokens old.at ≡ Neither → Sticks bytes tokens old NoTerm old.at
  at_node_too_many : old.behind_term ≡ false → head_at bytes tokens old.at ≢ Neither → 4096 ≤ length old.nodes → Sticks bytes tokens old Nodes old.at
  at_argument_too_many : (rest : List Pending) (top : Pending) → old.behind_term ≡ true → old.pending ≡ rest ++ top ∷ [] → terminal_at bytes tokens old.at ≡ Comma → 255 ≤ top.number → Sticks bytes tokens old Arity top.functor
  behind_argument : (rest : List Pending) (top : Pending) → old.behind_term ≡ true → old.pending ≡ rest ++ top ∷ [] → terminal_at bytes tokens old.at ≢ Close → terminal_at bytes tokens old.at ≢ Comma → Sticks bytes tokens old NoToken old.at

abbrev pub IsStuck : List ℕ → List Token → State → Stop → Type 0
IsStuck bytes tokens old (At why k) = Sticks bytes tokens old why k
IsStuck bytes tokens old NoMemory = Unit {0}

-- from the token `from` on, with these variables and this table before it, the reader has read a whole term
pub record IsRead (bytes : List ℕ) (tokens : List Token) (from : ℕ) (seen : Variables) (table : Table) (s : State) : Type 0 where
  pub parse : Parse
  pub tree : Tree
  pub reads : Term bytes tokens 0 from (read parse s.at)
  pub nodes : s.nodes ≡ flat tree
  pub places : s.places ≡ map (place_at bytes tokens) (leaves parse)
  pub seen_is : s.seen ≡ with_names seen (variables_in bytes tokens parse)
  pub means : Means bytes tokens s.table s.seen parse tree
  pub table_is : s.table ≡ with_term bytes tokens table parse

-- from the token `from` on this part is read
pub record IsPart (bytes : List ℕ) (tokens : List Token) (from : ℕ) (seen more_seen : Variables) (table : Table) (part : Part) : Type 0 where
  pub parse : Parse
  pub reads : Term bytes tokens 0 from (read parse part.end)
  pub places : part.places.items ≡ map (place_at bytes tokens) (leaves parse)
  pub seen_is : more_seen ≡ with_names seen (variables_in bytes tokens parse)
  pub means : Means bytes tokens table more_seen parse part.term
